-- What a turn at one lock tells its pass.
use Rattle.std.proofs.Common.{arith, ◌+◌, ◌≡◌, ◌==◌, ◌≤◌, ◌<◌, inl, inr, ℕ, Bool, true, false, cond, List, [], ◌∷◌, ◌++◌, refl, sym, ◌∙◌, ap, subst}
use Rattle.std.specs.Prelude.{length, Result, Ok, Err, IfOk, MatchResult}
use Rattle.std.proofs.lemmas.List.{append-nil, length-map}
use Rattle.std.proofs.lemmas.List.Elements.{Contains-push}
use Rattle.std.specs.Fn.{Once, FnOnceReturnsAtMut}
use denote.Ref.{MutBor}
use mathlib.Core.List.{IsPrefix}
use Rattle.web_disk.specs.View.{View}
use Rattle.shelf_lock.specs.declared.view.Role.TheVariants.{Outside}
use Rattle.shelf_lock.specs.Order.{posed, made_by, Adds, entry_limit}
use Rattle.lock_row.proofs.Ends.{same_fronts}
use Rattle.lock_row.proofs.Places.{map_snoc}
use Rattle.script_value.specs.Val.{Val}
use Rattle.script_value.specs.declared.outcome.Reply as answers
use Rattle.script_value.specs.declared.outcome.Reply.TheVariants.{Worn}
use Rattle.page_names.specs.Names.{Destination}
use Rattle.script_nodes.proofs.Places.{map_joined}
use Rattle.replay_spec.specs.Step as step
use Rattle.replay_spec.specs.Step.{Event}
use Rattle.shelf.specs.Visits.{Ticket, ticket_of, reply_of}
use Rattle.shelf.specs.Views.{book_in, taken_of, swept_of, compacted_of}
use Rattle.history_spec.specs.Histories.{Entry, own_of, IsLegal}
use Rattle.history_spec.specs.Passes.{IsSeenBy, Goes}
use Rattle.history_spec.proofs.Going.{go_on}
use Rattle.history_spec.proofs.Behind.{never_back}
use Rattle.history_spec.proofs.Passing.{turn}
use Rattle.site.specs.declared.entry.Did.{Did}
use Rattle.site.specs.declared.entry.Did.TheVariants as did
use Rattle.site.specs.declared.entry.KeptEntry.{KeptEntry}
use Rattle.site.specs.declared.kept.KeptShelf.{KeptShelf}
use Rattle.site.specs.declared.opening.Opening.{Opening}
use Rattle.site.specs.Entries.{compacted_from, entry, done_by, entry_of, entries_of, IsGivenIn, Comes, Compacts, Sweeps}
use Rattle.site.specs.Openings.{IsOwnOpening, start_of, source_of, count_of, book_then}
use Rattle.site.proofs.Outs.{own_more}
use Rattle.site.specs.Sound.{IsSound, Holds, Gives}
use Rattle.site.specs.Passes.{Known, seen_by, Grows, GoesFrom, HoldsTicket, IsWorn, Took, Published, HasReached, Swept, Compacted}

-- an entry is its caller's
caller_done : (caller : ℕ) (d : Did) → (done_by caller d).caller ≡ caller
caller_done caller (did.Take target answer told) = refl
caller_done caller (did.Publish ticket told) = refl
caller_done caller (did.Sweep tick told) = refl
caller_done caller (did.Compact told) = refl

map_cond : (b : Bool) (e : KeptEntry) (l : List KeptEntry) → cond b (entry_of e ∷ entries_of l) (entries_of l) ≡ entries_of (cond b (e ∷ l) l)
map_cond true e l = refl
map_cond false e l = refl

pub own_map : (c : ℕ) (l : List KeptEntry) → own_of c (entries_of l) ≡ entries_of (made_by (λ (e : KeptEntry). e.caller) c l)
own_map c [] = refl
own_map c (e ∷ l) =
    (λ i. cond (caller_done e.caller e.did i == c) (entry_of e ∷ own_map c l i) (own_map c l i)) ∙ map_cond (e.caller == c) e (made_by (λ (x : KeptEntry). x.caller) c l)

pub prefix_map : (xs ys : List KeptEntry) → IsPrefix xs ys → IsPrefix (entries_of xs) (entries_of ys)
prefix_map xs ys p = (entries_of p.0, sym (map_joined entry_of xs p.0) ∙ ap entries_of p.1)

-- what a caller has seen of a history, and all its entries
pub seen_so : (c : ℕ) (xs ys : List KeptEntry) → IsPrefix xs ys → made_by (λ (e : KeptEntry). e.caller) c ys ≡ made_by (λ (e : KeptEntry). e.caller) c xs → IsSeenBy c (entries_of xs) (entries_of ys)
seen_so c xs ys p own = record { front = prefix_map xs ys p; own = own_map c ys ∙ (ap entries_of own ∙ sym (own_map c xs)) }

-- one entry more at most, of this caller
pub adds_one : (by who : ℕ) (event : Event) (r : step.Reply) (old new : List KeptEntry) → who ≡ by → Comes by event r old new → Adds (λ (e : KeptEntry). e.caller) who old new
adds_one by who event r old new is c = inr (c.entry_made, c.caller_is ∙ sym is, c.is)

pub adds_swept : (by who tick : ℕ) (result : Result ℕ answers.Reply) (clock : ℕ) (old new : List KeptEntry) → who ≡ by → Sweeps by tick result clock old new → Adds (λ (e : KeptEntry). e.caller) who old new
adds_swept by who tick result clock old new is (inl over) = inl over.1
adds_swept by who tick result clock old new is (inr more) = adds_one by who (step.sweep tick) (swept_of result) old new is more.1

pub adds_compacted : (by who length : ℕ) (old new : List KeptEntry) → who ≡ by → Compacts by length old new → Adds (λ (e : KeptEntry). e.caller) who old new
adds_compacted by who length old new is (inl short) = inl short.1
adds_compacted by who length old new is (inr (long, told, comes)) = adds_one by who step.compact (compacted_of told) old new is comes

-- what a pass has then seen: nothing more of its own, or one entry
grows_none : (caller : ℕ) (seen es : List Entry) → IsSeenBy caller seen es → Grows caller seen [] es
grows_none caller seen es known = record {
  between = known.front.0;
  is = sym known.front.1 ∙ sym (append-nil (seen ++ known.front.0));
  own = known.own ∙ sym (append-nil (own_of caller seen));
}

grows_one : (caller : ℕ) (seen es : List Entry) (e : Entry) → IsSeenBy caller seen es → e.caller ≡ caller → Grows caller seen (e ∷ []) (es ++ e ∷ [])
grows_one caller seen es e known is = record {
  between = known.front.0;
  is = ap (λ (l : List Entry). l ++ e ∷ []) (sym known.front.1);
  own = own_more caller es e is ∙ ap (λ (l : List Entry). l ++ e ∷ []) known.own;
}

module _ {D N : Type 0} (view : D → View) (tells : Bool) (coming : N → ℕ → ℕ) where
  -- a turn found x, which begins with all that v had seen and has no other entry of its caller, and left y, which w has seen
  pub record Turn (v w : Known D N) (x y : KeptShelf D N) : Type 0 where
    pub opening_is : v.opening ≡ x.opened ∷ []
    pub begins : IsPrefix v.seen x.history
    pub own_is : made_by (λ (e : KeptEntry). e.caller) v.caller x.history ≡ made_by (λ (e : KeptEntry). e.caller) v.caller v.seen
    pub sound : IsSound view tells coming x.opened y.shelf (entries_of y.history)
    pub seen_is : w ≡ posed Outside y.history v

  module _ (v w : Known D N) (x y : KeptShelf D N) (t : Turn v w x y) where
    known : IsSeenBy v.caller (entries_of v.seen) (entries_of x.history)
    known = seen_so v.caller v.seen x.history t.begins t.own_is

    posed_so : w ≡ posed Outside w.seen v
    posed_so = t.seen_is ∙ ap (λ (l : List KeptEntry). posed Outside l v) (sym (ap (λ (u : Known D N). u.seen) t.seen_is))

    seen_now : entries_of y.history ≡ seen_by w
    seen_now = sym (ap (λ (u : Known D N). seen_by u) t.seen_is)

    pub goes_none : y.history ≡ x.history → GoesFrom view tells coming v [] w
    goes_none same =
        let o = x.opened in
        let es = entries_of x.history in
        let seen : es ≡ seen_by w = ap entries_of (sym same) ∙ seen_now in
        record {
          opening = o;
          opening_is = t.opening_is;
          opened = t.sound.opened;
          is = posed_so;
          grows = subst (Grows v.caller (entries_of v.seen) []) seen (grows_none v.caller (entries_of v.seen) es known);
          now = count_of view y.shelf;
          goes = λ own.
              let source = source_of coming o in
              let opened = count_of view o.shelf.value in
              let now = count_of view y.shelf in
              let legal : IsLegal source opened now (start_of view o) es = subst (λ (l : List KeptEntry). IsLegal source opened now (start_of view o) (entries_of l)) same (t.sound.history own).kept.legal in
              subst (λ (l : List Entry). Goes source opened now (start_of view o) v.caller (entries_of v.seen) [] l) seen
              (turn source opened now (start_of view o) v.caller (entries_of v.seen) es known legal).0;
        }

    -- the number of the first entry is 0
    pub worn : 0 + length x.history ≡ entry_limit → y.history ≡ x.history → IsWorn view tells coming v Worn w
    worn full same =
        let whole : length x.history ≡ entry_limit = omega (arith, full) in
        (refl, ap length (sym seen_now) ∙ (length-map y.history entry_of ∙ (ap length same ∙ whole)), goes_none same)

    pub goes_one : (by : ℕ) (event : Event) (r : step.Reply) → v.caller ≡ by → Comes by event r x.history y.history → GoesFrom view tells coming v (entry v.caller event r ∷ []) w
    goes_one by event r is c =
        let o = x.opened in
        let es = entries_of x.history in
        let e : Entry = entry v.caller event r in
        let grown : entries_of y.history ≡ es ++ e ∷ [] = ap entries_of c.is ∙ (map_snoc entry_of x.history c.entry_made ∙ (λ i. es ++ (c.entry_is ∙ ap (λ (n : ℕ). entry n event r) (sym is)) i ∷ [])) in
        let seen : es ++ e ∷ [] ≡ seen_by w = sym grown ∙ seen_now in
        record {
          opening = o;
          opening_is = t.opening_is;
          opened = t.sound.opened;
          is = posed_so;
          grows = subst (Grows v.caller (entries_of v.seen) (e ∷ [])) seen (grows_one v.caller (entries_of v.seen) es e known refl);
          now = count_of view y.shelf;
          goes = λ own.
              let source = source_of coming o in
              let opened = count_of view o.shelf.value in
              let now = count_of view y.shelf in
              let legal : IsLegal source opened now (start_of view o) (es ++ e ∷ []) = subst (IsLegal source opened now (start_of view o)) grown (t.sound.history own).kept.legal in
              let before = (go_on source opened now (start_of view o) es).2 (e ∷ []) legal in
              subst (λ (l : List Entry). Goes source opened now (start_of view o) v.caller (entries_of v.seen) (e ∷ []) l) seen
              ((turn source opened now (start_of view o) v.caller (entries_of v.seen) es known before).1 e ((go_on source opened now (start_of view o) es).1 e legal) refl);
        }

    pub holds_so : (by : ℕ) (u : Ticket) → v.caller ≡ by → Holds view tells coming x.opened (entries_of y.history) by u → IsGivenIn y.history u → HoldsTicket view tells coming w u
    holds_so by u is h gave = record {
      opening = x.opened;
      opening_is = ap (λ (z : Known D N). z.opening) t.seen_is ∙ t.opening_is;
      holds = subst (λ (n : ℕ). Holds view tells coming x.opened (seen_by w) n u) (sym is ∙ sym (ap (λ (z : Known D N). z.caller) t.seen_is)) (subst (λ (l : List Entry). Holds view tells coming x.opened l by u) seen_now h);
      given = subst (λ (l : List KeptEntry). IsGivenIn l u) (sym (ap (λ (z : Known D N). z.seen) t.seen_is)) gave;
    }

    pub took : (by : ℕ) (target : Destination) (answer : Val) (result : Result Ticket answers.Reply) → v.caller ≡ by → Comes by (step.take target answer) (taken_of result) x.history y.history
        → Gives view tells coming x.opened (entries_of y.history) by target answer result → IfOk result (IsGivenIn y.history)
        → Took view tells coming v target answer result w
    took by target answer (Ok u) is c given gave = record {
      goes = subst (λ (e : Entry). GoesFrom view tells coming v (e ∷ []) w) (λ i. entry v.caller (step.take (sym given.ticket.0 i) (sym given.ticket.1 i)) (step.taken u.number u.nonce)) (goes_one by (step.take target answer) (taken_of (Ok u)) is c);
      holds = holds_so by u is given.held gave;
      target_is = given.ticket.0;
      answer_is = given.ticket.1;
    }
    took by target answer (Err r) is c given gave = (given.refused, inl (goes_one by (step.take target answer) (reply_of r) is c))

    pub published : (by : ℕ) (u : Ticket) (r : answers.Reply) → v.caller ≡ by → Comes by (step.publish (ticket_of u)) (reply_of r) x.history y.history → Published view tells coming v u r w
    published by u r is c = inl (goes_one by (step.publish (ticket_of u)) (reply_of r) is c)

    reaches : (tick : ℕ) → (IsOwnOpening view tells x.opened → tick ≤ (book_then view coming x.opened (entries_of y.history)).clock) → HasReached view tells coming w tick
    reaches tick le o is own =
        let same : x.opened ≡ o = cc (sym t.opening_is ∙ (sym (ap (λ (u : Known D N). u.opening) t.seen_is) ∙ is)) in
        subst (λ (p : Opening D N). tick ≤ (book_then view coming p (seen_by w)).clock) same
        (subst (λ (l : List Entry). tick ≤ (book_then view coming x.opened l).clock) seen_now (le (subst (IsOwnOpening view tells) (sym same) own)))

    -- after a sweep, or where the clock of the shelf was at the tick before
    pub swept : (by tick : ℕ) (result : Result ℕ answers.Reply) → v.caller ≡ by → IsSound view tells coming x.opened x.shelf (entries_of x.history)
        → Sweeps by tick result (book_in view x.shelf).clock x.history y.history → Swept view tells coming v tick result w
    swept by tick (Ok n) is sound (inl over) = (
      inr (let z : n ≡ 0 = cc over.2 in z, goes_none over.1),
      reaches tick (λ own.
          let clock = ap (λ z. z.book.clock) (sound.history own).kept.shelf in
          subst (λ (l : List KeptEntry). tick ≤ (book_then view coming x.opened (entries_of l)).clock) (sym over.1) (subst (λ (k : ℕ). tick ≤ k) clock over.0)),
    )
    swept by tick (Ok n) is sound (inr more) =
        let o = x.opened in
        let es = entries_of x.history in
        let e : Entry = entry by (step.sweep tick) (step.swept n) in
        let grown : entries_of y.history ≡ es ++ e ∷ [] = ap entries_of more.1.is ∙ (map_snoc entry_of x.history more.1.entry_made ∙ (λ i. es ++ more.1.entry_is i ∷ [])) in (
          inl (goes_one by (step.sweep tick) (step.swept n) is more.1),
          reaches tick (λ own.
              let legal = subst (IsLegal (source_of coming o) (count_of view o.shelf.value) (count_of view y.shelf) (start_of view o)) (grown ∙ sym (append-nil (es ++ e ∷ []))) (t.sound.history own).kept.legal in
              let there = (never_back (source_of coming o) (count_of view o.shelf.value) (count_of view y.shelf) (start_of view o) (es ++ e ∷ []) [] t.sound.opened legal).1 by tick n (Contains-push es e) in
              subst (λ (l : List Entry). tick ≤ (book_then view coming o l).clock) (append-nil (es ++ e ∷ []) ∙ sym grown) there),
        )
    swept by tick (Err r) is sound (inl over) = absurd (let no : ⊥ = cc over.2 in no)
    swept by tick (Err r) is sound (inr more) = inl (goes_one by (step.sweep tick) (reply_of r) is more.1)

    -- what the turn found is measured as the history before it tells
    measured : (P : ℕ → Type 0) → IsSound view tells coming x.opened x.shelf (entries_of x.history) → P (book_in view x.shelf).length
        → (o : Opening D N) → w.opening ≡ o ∷ [] → IsOwnOpening view tells o → P (book_then view coming o (entries_of x.history)).length
    measured P sound holds o is own =
        let same : x.opened ≡ o = cc (sym t.opening_is ∙ (sym (ap (λ (u : Known D N). u.opening) t.seen_is) ∙ is)) in
        let mine = subst (IsOwnOpening view tells) (sym same) own in
        subst (λ (p : Opening D N). P (book_then view coming p (entries_of x.history)).length) same
        (subst P (ap (λ z. z.book.length) (sound.history mine).kept.shelf) holds)

    -- after a turn that compacts a long journal
    pub compacted : (by : ℕ) → v.caller ≡ by → IsSound view tells coming x.opened x.shelf (entries_of x.history)
        → Compacts by (book_in view x.shelf).length x.history y.history → Compacted view tells coming v w
    compacted by is sound (inl (short, same)) =
        Compacted.short (goes_none same)
        (λ o opening own.
        subst (λ (l : List Entry). (book_then view coming o l).length < compacted_from) (ap entries_of (sym same) ∙ seen_now)
        (measured (λ n. n < compacted_from) sound short o opening own))
    compacted by is sound (inr (long, told, comes)) =
        Compacted.compacted told (goes_one by step.compact (compacted_of told) is comes)
        (λ front last ends o opening own.
        let grown : entries_of y.history ≡ entries_of x.history ++ entry_of comes.entry_made ∷ [] = ap entries_of comes.is ∙ map_snoc entry_of x.history comes.entry_made in
        let before : entries_of x.history ≡ front = same_fronts (entries_of x.history) front (entry_of comes.entry_made) last (sym grown ∙ (seen_now ∙ ends)) in
        subst (λ (l : List Entry). compacted_from ≤ (book_then view coming o l).length) before
        (measured (λ n. compacted_from ≤ n) sound long o opening own))

pub match_ok : {A B : Type 0} (P : A → Type 0) (Q : B → Type 0) (r : Result A B) (a : A) → MatchResult r P Q → r ≡ Ok a → P a
match_ok P Q (Ok b) a m e = subst P (let z : b ≡ a = cc e in z) m
match_ok P Q (Err b) a m e = absurd (let no : ⊥ = cc e in no)

pub match_err : {A B : Type 0} (P : A → Type 0) (Q : B → Type 0) (r : Result A B) (b : B) → MatchResult r P Q → r ≡ Err b → Q b
match_err P Q (Ok a) b m e = absurd (let no : ⊥ = cc e in no)
match_err P Q (Err a) b m e = subst Q (let z : a ≡ b = cc e in z) m

-- what holds of each answer of a function holds of one
pub from_did : {S F A : Type 0} {call : Once F (MutBor S × Unit {0}) (A × (MutBor S × Unit {0}))} {f : F} (x : S) (a : A) (y : S) → FnOnceReturnsAtMut call f x a y → (P : S → A → S → Type 0)
    → ((x' : S) (a' : A) (y' : S) → FnOnceReturnsAtMut call f x' a' y' → P x' a' y') → P x a y
from_did x a y did P each = each x a y did
