-- What is owed was admitted, and a publish answers the page that it was admitted for.
use Rattle.std.proofs.Common.{◌≡◌, ◌==◌, ◌^◌, ℕ, Bool, List, [], ◌∷◌, ◌++◌, Option, Some, Contains, sym, ap, subst, inl, inr, arith, append_assoc}
use Rattle.page_names.specs.Names.{Destination, start, page}
use Rattle.page_names.specs.declared.names.PageName.{PageName}
use Rattle.replay_spec.specs.Book.{Book, Doubt, instance_at}
use Rattle.replay_spec.specs.Rules.{Rules}
use Rattle.replay_spec.specs.Admission.{Place, place_at, when, or_else, Admission, resumes, refusal_of, admit}
use Rattle.replay_spec.specs.Next.{Ticket}
use Rattle.replay_spec.specs.Step.{take, plain, taken, worn, refused_by, take_unless, step}
use Rattle.replay_spec.specs.Runs.{Shelf}
use Rattle.replay_spec.specs.Invariant.{IsOrderly}
use Rattle.replay_spec.specs.Laws.{Leads, IsSame}
use Rattle.replay_spec.specs.Promises.{IsAdmission}
use Rattle.replay_spec.proofs.Barred.{barred_by}
use Rattle.replay_spec.proofs.Admitted.{page_stands, resumes_place, start_is_no_page}
use Rattle.replay_spec.proofs.Stays.{stay}
use Rattle.history_spec.specs.Histories.{Entry, shelf_behind, book_behind, IsLegal}
use Rattle.history_spec.specs.Laws.{take_of, WhatIsOwedWasTaken}
use Rattle.history_spec.proofs.Members.{contains_cases, contains_none}
use Rattle.history_spec.proofs.Going.{front, last}
use Rattle.history_spec.proofs.Numbers.{well}
use Rattle.history_spec.proofs.Behind.{leads}
use Rattle.history_spec.proofs.Spending.{took_it}

-- the place of an entry
split_at : (es : List Entry) (e : Entry) → Contains es e → (first : List Entry) × (rest : List Entry) × (es ≡ first ++ e ∷ rest)
split_at [] e h = absurd (contains_none e h)
split_at (x ∷ es) e h = elim (contains_cases x e es h) [
  | inl same ↦ ([], es, ap (λ (y : Entry). y ∷ es) same)
  | inr later ↦ let rest = split_at es e later in (x ∷ rest.0, rest.1, ap (λ (l : List Entry). x ∷ l) rest.2)
]

-- what was told a ticket was admitted
told_admitted : (b : Book) (nonce number given : ℕ) (o : Option Doubt) (follows is_worn : Bool) (a : Admission)
    → (take_unless (or_else (barred_by o follows) (or_else (when is_worn worn) (refused_by (refusal_of a)))) b nonce).0 ≡ taken number given → IsAdmission a
told_admitted b nonce number given o follows is_worn a h = grind arith

take_admitted : (rules : Rules) (b : Book) (nonce number given : ℕ) (t : Ticket) → (step rules b nonce (take t.target t.answer) plain).0 ≡ taken number given → IsAdmission (admit b t.target)
unfolding step
take_admitted rules b nonce number given t h = told_admitted b nonce number given b.down b.follows (b.drawn == 2 ^ 62) (admit b t.target) h

-- the page that stands is the one that stood
same_page : (b c : Book) (name : List ℕ) (n : PageName) (x y : Place) → IsOrderly b → Leads b c → place_at b name n ≡ Some x → place_at c name n ≡ Some y → instance_at n.instance c.instances ≡ Some y.instance
    → IsSame b c x y
same_page b c name n x y orderly to was is there = elim (stay b c orderly to name n x was) [
  | inl gone ↦ absurd (let no : ⊥ = cc in no)
  | inr (z, (found, same)) ↦ let its : z ≡ y = cc in subst (IsSame b c x) its same
]

same_target : (b c : Book) (target : Destination) (x y : Place) → IsOrderly b → Leads b c → admit b target ≡ resumes x → admit c target ≡ resumes y → IsSame b c x y
same_target b c (start name) x y orderly to was is = absurd (start_is_no_page b name x was)
same_target b c (page name n) x y orderly to was is =
    same_page b c name n x y orderly to (resumes_place b name n x was).0 (resumes_place c name n y is).0 (page_stands c name n y is).here

pub owed_taken : WhatIsOwedWasTaken
owed_taken source opened now s es caller t opening legal owes =
    let at = split_at es (take_of caller t) (took_it es caller t owes) in
    let all : IsLegal source opened now s (at.0 ++ take_of caller t ∷ at.1) = subst (IsLegal source opened now s) at.2 legal in
    let before = front source opened now s [] at.0 (take_of caller t ∷ at.1) all in
    let next = last source opened now s [] at.0 (take_of caller t)
    (front source opened now s [] (at.0 ++ take_of caller t ∷ []) at.1 (subst (IsLegal source opened now s) (sym (append_assoc at.0 (take_of caller t ∷ []) at.1)) all)) in
    let was : Shelf = shelf_behind source s at.0 in
    let to : Leads (book_behind source s at.0) (book_behind source s es) =
    subst (λ (l : List Entry). Leads (book_behind source s at.0) (book_behind source s l)) (sym at.2) (leads source opened now s at.0 (take_of caller t ∷ at.1) opening all) in
    record {
      front = at.0;
      rest = at.1;
      is = at.2;
      admitted = take_admitted was.rules was.book (source was.nonces) t.number t.nonce t next.answered;
      same = λ x y had has. same_target was.book (book_behind source s es) t.target x y (well source opened now s at.0 opening before).orderly to had has;
    }
