-- The book that records make is orderly.
use Rattle.std.proofs.Common.{◌≡◌, ◌<◌, max, ℕ, List, [], ◌∷◌, Option, Some, None, Bool, true, false, refl, sym, ◌∙◌, subst, inl, inr, ⊎_elim, arith}
use Rattle.std.specs.Prelude.{if◌then◌else◌, nat_lt}
use Rattle.std.proofs.lemmas.Bool.Decides.{nat_tests}
use Rattle.std.proofs.lemmas.Option.{same_Some}
use Rattle.script_value.specs.declared.outcome.TxName.{TxName}
use Rattle.script_nodes.specs.Setup.{Named}
use Rattle.replay_spec.specs.Book.{Instance, Change, opens, extends, ends, finishes, sweeps, Book, instance_at, page_at, reopened}
use Rattle.replay_spec.specs.Rules.{Rules}
use Rattle.replay_spec.specs.Change.{logged_by}
use Rattle.replay_spec.specs.Admission.{is_one, Place}
use Rattle.replay_spec.specs.Recovery.{can_go, remade, page_of_numbers, Made, number_in, is_repeated, with_number, taken_in, redone, redo}
use Rattle.replay_spec.specs.Invariant.{Among, HasPage, IsOf, Unused, AreOrderly, IsOrderlyChange, IsOrderly}
use Rattle.replay_spec.specs.Remade.{IsOrderlyMade, RecordsMakeOrderlyBooks}
use Rattle.replay_spec.proofs.Admitted.{came_from, when_is}
use Rattle.replay_spec.proofs.Stand.{orderly_less, none_orderly}
use Rattle.replay_spec.proofs.Landed.{land_well}
use Rattle.replay_spec.proofs.Goers.{pages_of, go_used}

-- what is not among those seen
abbrev pub Unseen : List ℕ → ℕ → Type 0
Unseen seen n = Among n seen → ⊥

-- the page that a record answers is there
pub page_there : (b : Book) (k n : ℕ) (at : Place) → page_of_numbers b k n ≡ Some at → HasPage b.instances k n
page_there b k n at e =
    let i = came_from (instance_at k b.instances) _ at e in
    let p = came_from (page_at n i.0.pages) _ at i.1.1 in
    (p.0, record { instance = i.0; found = i.1.0; shown = p.1.0 })

-- the place that is told stands there
pub place_is : (b : Book) (k n : ℕ) (at : Place) → page_of_numbers b k n ≡ Some at → (instance_at k b.instances ≡ Some at.instance) × (page_at n at.instance.pages ≡ Some at.page)
place_is b k n at e =
    let i = came_from (instance_at k b.instances) _ at e in
    let p = came_from (page_at n i.0.pages) _ at i.1.1 in
    let place : Place = record { instance = i.0; page = p.0 } in
    let is : place ≡ at = same_Some place at p.1.1 in
    let here = i.1.0 in
    let shown = p.1.0 in
    (cc, cc)

pub if_can : (can : Bool) (o : Option (List TxName)) (names : List TxName) → (if can then o else None) ≡ Some names → (can ≡ true) × (o ≡ Some names)
if_can true o names e = (refl, e)
if_can false o names e = absurd (let no : ⊥ = cc in no)

fits : (b : Book) (c : Change) (names : List TxName) → remade b c ≡ Some names → IsOrderlyChange b.clock b.instances c
fits b (opens o) names e = tt
fits b (extends x) names e =
    let at = came_from (page_of_numbers b x.instance x.page) _ names e in
    let place = place_is b x.instance x.page at.0 at.1.0 in
    let can = (if_can (can_go x.evicted at.0.instance.used) _ names at.1.1).0 in (
      page_there b x.instance x.page at.0 at.1.0,
      λ i found n gone.
          let same : at.0.instance ≡ i = same_Some at.0.instance i (sym place.0 ∙ found) in
          subst (λ (j : Instance). is_one n (pages_of j.used) ≡ true) same (go_used x.evicted at.0.instance.used n can gone),
    )
fits b (ends x) names e = let at = came_from (page_of_numbers b x.instance x.page) _ names e in page_there b x.instance x.page at.0 at.1.0
fits b (finishes f) names e = let at = came_from (page_of_numbers b f.instance f.page) _ names e in page_there b f.instance f.page at.0 at.1.0
fits b (sweeps tick) names e = let later = (when_is (nat_lt b.clock tick) [] names e).0 in grind (arith, nat_tests, later)

pub among_is : (n : ℕ) (ns : List ℕ) → Among n ns → is_one n ns ≡ true
among_is n [] h = absurd h
among_is n (m ∷ ns) h = grind (arith, nat_tests, h, among_is n ns)

-- a record that is taken in has a number that was not seen
unseen : (m : Made) (c : Change) (names : List TxName) → taken_in m c ≡ Some names → (remade m.book c ≡ Some names) × (is_repeated (number_in c) m.seen ≡ false)
unseen m c names e = by_test (is_repeated (number_in c) m.seen) refl e
  where
    by_test : (b : Bool) → is_repeated (number_in c) m.seen ≡ b → (if b then None else remade m.book c) ≡ Some names → (remade m.book c ≡ Some names) × (is_repeated (number_in c) m.seen ≡ false)
    by_test true is f = absurd (let no : ⊥ = cc in no)
    by_test false is f = (f, is)

pub new_number : (c : Change) (seen : List ℕ) → is_repeated (number_in c) seen ≡ false → (n : ℕ) → IsOf n c → Unseen seen n
new_number (opens o) seen e n is there = absurd (let one = among_is n seen there in let no : ⊥ = cc in no)
new_number (extends x) seen e n is there = absurd (let one = among_is n seen there in let no : ⊥ = cc in no)
new_number (ends x) seen e n is there = absurd (let one = among_is n seen there in let no : ⊥ = cc in no)
new_number (finishes f) seen e n is there = absurd (let one = among_is n seen there in let no : ⊥ = cc in no)
new_number (sweeps tick) seen e n is there = is

-- with the number of a record
pub more_seen : (c : Change) (seen : List ℕ) (n : ℕ) → Unseen (with_number (number_in c) seen) n → Unseen seen n × (IsOf n c → ⊥)
more_seen (opens o) seen n h = (λ there. h (inr there), λ e. h (inl e))
more_seen (extends x) seen n h = (λ there. h (inr there), λ e. h (inl e))
more_seen (ends x) seen n h = (λ there. h (inr there), λ e. h (inl e))
more_seen (finishes f) seen n h = (λ there. h (inr there), λ e. h (inl e))
more_seen (sweeps tick) seen n h = (h, λ e. e)

counts : (c : Change) (seen : List ℕ) (logged : ℕ) → ((n : ℕ) → Among n seen → n < logged) → (n : ℕ) → Among n (with_number (number_in c) seen) → n < max logged (logged_by c)
counts (opens o) seen logged h n there = ⊎_elim (λ e. omega (arith, e)) (λ old. omega (arith, h n old)) there
counts (extends x) seen logged h n there = ⊎_elim (λ e. omega (arith, e)) (λ old. omega (arith, h n old)) there
counts (ends x) seen logged h n there = ⊎_elim (λ e. omega (arith, e)) (λ old. omega (arith, h n old)) there
counts (finishes f) seen logged h n there = ⊎_elim (λ e. omega (arith, e)) (λ old. omega (arith, h n old)) there
counts (sweeps tick) seen logged h n there = omega (arith, h n there)

redone_orderly : (rules : Rules) (c : Change) (m : Made) (o : Option (List TxName)) → IsOrderlyMade m → taken_in m c ≡ o
    → AreOrderly (Unseen (with_number (number_in c) m.seen)) (redone rules c o m.book).instances
redone_orderly rules c m None h e =
    orderly_less (Unseen m.seen) (Unseen (with_number (number_in c) m.seen)) m.book.instances (λ n x. (more_seen c m.seen n x).0) h.instances
redone_orderly rules c m (Some names) h e =
    let t = unseen m c names e in
    (land_well m.book.scripts m.book.clock (Unseen m.seen) (Unseen (with_number (number_in c) m.seen)) m.book.instances c names h.instances (fits m.book c names t.0)
    (new_number c m.seen t.1) (more_seen c m.seen)).0

pub redone_logged : (rules : Rules) (c : Change) (o : Option (List TxName)) (b : Book) → (redone rules c o b).logged ≡ max b.logged (logged_by c)
redone_logged rules c None b = refl
redone_logged rules c (Some names) b = refl

redone_made : (rules : Rules) (c : Change) (m : Made) → IsOrderlyMade m → IsOrderlyMade (redo rules c m)
redone_made rules c m h = record {
  instances = redone_orderly rules c m (taken_in m c) h refl;
  counted = λ n there. subst (λ (k : ℕ). n < k) (sym (redone_logged rules c (taken_in m c) m.book)) (counts c m.seen m.book.logged h.counted n there);
  again = refl;
}

-- what was made, as after a crash
reopened_orderly : (b : Book) (seen : List ℕ) → AreOrderly (Unseen seen) b.instances → ((n : ℕ) → Among n seen → n < b.logged) → IsOrderly (reopened b)
reopened_orderly b seen h counted = record {
  below = λ n there. absurd there;
  different = tt;
  doubted = λ n there. absurd there;
  logged = omega arith;
  instances = orderly_less (Unseen seen) (Unused (reopened b)) b.instances (λ n x there. absurd (let low = counted n there in ⊎_elim (λ no. no) (λ y. ⊎_elim (λ no. no) (λ high. omega (arith, low, high)) y) x)) h;
  doubt = tt;
}

pub made_orderly : RecordsMakeOrderlyBooks
made_orderly rules = (
  λ (scripts : List Named) (shelf : ℕ). record { instances = none_orderly (Unseen []); counted = λ n there. absurd there; again = refl },
  redone_made rules,
  λ (m : Made) (h : IsOrderlyMade m). subst IsOrderly (sym h.again) (reopened_orderly m.book m.seen h.instances h.counted),
)
