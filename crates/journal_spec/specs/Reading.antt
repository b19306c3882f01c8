-- What a reader of records has made so far.
use Rattle.std.specs.Prelude.{◌≡◌, ℕ, ◌+◌, List, [], ◌∷◌, length, Option, Some, None, ⊤}
use Rattle.page_journal.specs.Records.{at_rest}
use Rattle.page_journal.specs.Taken.{TakesAll}
use Rattle.value_bytes.specs.Laws.{AreBytes}
use Rattle.journal_spec.specs.Making.{Texts, Making, nothing}
use Rattle.journal_spec.specs.Old.{with_body_at, book_of_format}

-- each of these bodies is made of bytes
abbrev pub AreAllBytes : List (List ℕ) → Type 0
AreAllBytes [] = ⊤
AreAllBytes (body ∷ bodies) = AreBytes body × AreAllBytes bodies

-- what was made is this, if there was memory
abbrev pub IsIf : Option Making → Making → Type 0
IsIf None m = ⊤
IsIf (Some l) m = l ≡ m

-- A reader of a format takes one body more, after the gate at this place. Once there was no memory, nothing is told.
abbrev pub IsTakenAs : (format : ℕ) → Texts → (shelf place : ℕ) → List ℕ → Option Making → Option Making → Type 0
IsTakenAs format texts shelf place body None new = new ≡ None
IsTakenAs format texts shelf place body (Some m) new = IsIf new (with_body_at format texts shelf place body m)

-- what readers of this type have made where the journal is this long, if there was memory
abbrev pub View : Type 0 → Type 0
View R = (length : ℕ) → R → Option Making

-- a reader of a format takes one body more, which is bytes
pub record IsTaken {R : Type 0} (making : View R) (format : ℕ) (texts : Texts) (shelf : ℕ) (old : R) (place : ℕ) (body : List ℕ) (new : R) : Type 0 where
  pub bytes : AreBytes body
  pub taken : IsTakenAs format texts shelf place body (making (place + 1) old) (making (place + 5 + length body + 1) new)

-- A taker that takes records as a reader of a format does, and had made nothing at first, has made what all of them make in that format;
-- their bodies are bytes.
abbrev pub ReadersMakeTheBook : {R : Type 0} → (R → ℕ → List ℕ → R → Type 0) → Type 0
ReadersMakeTheBook {R} takes =
    (making : View R) (format : ℕ) (texts : Texts) (shelf : ℕ)
    → ((old : R) (place : ℕ) (body : List ℕ) (new : R) → takes old place body new
    → IsTaken making format texts shelf old place body new)
    → (old new : R) (bodies : List (List ℕ)) → making 9 old ≡ Some nothing → TakesAll takes old 8 bodies new
    → IsIf (making (length (at_rest bodies)) new) (book_of_format format texts shelf bodies) × AreAllBytes bodies
