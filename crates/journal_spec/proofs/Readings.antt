-- What a reader makes of all records.
use Rattle.std.proofs.Common.{◌≡◌, ℕ, ◌+◌, List, [], ◌∷◌, length, Option, Some, None, refl, sym, subst, arith, length-append}
use Rattle.page_journal.specs.Records.{framed, frames, at_rest}
use Rattle.page_journal.specs.Taken.{TakesAll}
use Rattle.page_journal.proofs.Frames.{length-framed, length-at_rest}
use Rattle.journal_spec.specs.Making.{Texts, Making, nothing}
use Rattle.journal_spec.specs.Old.{with_body_at, with_bodies_at, book_of_format}
use Rattle.journal_spec.specs.Reading.{AreAllBytes, IsIf, IsTakenAs, IsTaken, View, ReadersMakeTheBook}

as_taken : (format : ℕ) (texts : Texts) (shelf place : ℕ) (body : List ℕ) (o n : Option Making) (m : Making) → IsTakenAs format texts shelf place body o n → IsIf o m → IsIf n (with_body_at format texts shelf place body m)
as_taken format texts shelf place body None n m h is = subst (λ (x : Option Making). IsIf x (with_body_at format texts shelf place body m)) (sym h) tt
as_taken format texts shelf place body (Some l) n m h is = subst (λ (x : Making). IsIf n (with_body_at format texts shelf place body x)) is h

-- a reader that had made this before the first of these bodies has made with them what they make
all_taken : {R : Type 0} (making : View R) (format : ℕ) (texts : Texts) (shelf place : ℕ) (bodies : List (List ℕ)) (old new : R) (m : Making)
    → TakesAll (IsTaken making format texts shelf) old place bodies new → IsIf (making (place + 1) old) m
    → IsIf (making (place + length (frames bodies) + 1) new) (with_bodies_at format texts shelf place bodies m)
all_taken {R} making format texts shelf place [] old new m t is =
    let here : place + 1 ≡ place + 0 + 1 = omega arith in
    subst (λ (r : R). IsIf (making (place + 0 + 1) r) m) (sym t) (subst (λ (n : ℕ). IsIf (making n old) m) here is)
all_taken making format texts shelf place (body ∷ bodies) old new m t is =
    let mid = t.0 in
    let next = with_body_at format texts shelf place body m in
    let there : place + 5 + length body + length (frames bodies) + 1 ≡ place + length (frames (body ∷ bodies)) + 1 = omega (arith, length-append (framed body) (frames bodies), length-framed body) in
    let here : IsIf (making (place + 5 + length body + 1) mid) next = as_taken format texts shelf place body (making (place + 1) old) (making (place + 5 + length body + 1) mid) m t.1.taken is in
    subst (λ (n : ℕ). IsIf (making n new) (with_bodies_at format texts shelf (place + 5 + length body) bodies next)) there
    (all_taken making format texts shelf (place + 5 + length body) bodies mid new next t.2 here)

-- what it took are bytes
all_bytes : {R : Type 0} (making : View R) (format : ℕ) (texts : Texts) (shelf place : ℕ) (bodies : List (List ℕ)) (old new : R)
    → TakesAll (IsTaken making format texts shelf) old place bodies new → AreAllBytes bodies
all_bytes making format texts shelf place [] old new t = tt
all_bytes making format texts shelf place (body ∷ bodies) old new t = (t.1.bytes, all_bytes making format texts shelf (place + 5 + length body) bodies t.0 new t.2)

all_so : {R : Type 0} (takes : R → ℕ → List ℕ → R → Type 0) (making : View R) (format : ℕ) (texts : Texts) (shelf : ℕ)
    → ((old : R) (place : ℕ) (body : List ℕ) (new : R) → takes old place body new → IsTaken making format texts shelf old place body new)
    → (place : ℕ) (bodies : List (List ℕ)) (old new : R) → TakesAll takes old place bodies new → TakesAll (IsTaken making format texts shelf) old place bodies new
all_so takes making format texts shelf so place [] old new t = t
all_so takes making format texts shelf so place (body ∷ bodies) old new t = (t.0, so old place body t.0 t.1, all_so takes making format texts shelf so (place + 5 + length body) bodies t.0 new t.2)

pub make_the_book : {R : Type 0} (takes : R → ℕ → List ℕ → R → Type 0) → ReadersMakeTheBook takes
make_the_book {R} takes making format texts shelf so old new bodies first t =
    let all = all_so takes making format texts shelf so 8 bodies old new t in
    let start : IsIf (making 9 old) nothing = subst (λ (o : Option Making). IsIf o nothing) (sym first) refl in
    let long : 8 + length (frames bodies) + 1 ≡ length (at_rest bodies) = omega (arith, length-at_rest bodies) in (
      subst (λ (n : ℕ). IsIf (making n new) (book_of_format format texts shelf bodies)) long (all_taken making format texts shelf 8 bodies old new nothing all start),
      all_bytes making format texts shelf 8 bodies old new all,
    )
