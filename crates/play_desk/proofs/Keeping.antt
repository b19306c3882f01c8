-- What is left of a disk on which nothing was lost.
use Rattle.std.proofs.Common.{◌≡◌, ◌≢◌, ◌∙◌, ap, inl, inr, refl, subst, ℕ, List, [], append-nil, Err}
use Rattle.web_disk.specs.View.{View, AreAmong}
use Rattle.script_nodes.specs.Setup.{Named}
use Rattle.page_journal.specs.Records.{at_rest}
use Rattle.shelf.specs.Opening.{HoldsAsRead, KeepsRecords, bodies_after, making_after, opening_bodies}
use Rattle.shelf.specs.declared.begin.BeginFault.{BeginFault}
use Rattle.shelf.specs.declared.begin.BeginFault.TheVariants as begin
use Rattle.play_steps.specs.declared.stage.Reopen.{Reopen}
use Rattle.play_steps.specs.declared.stage.Reopen.TheVariants as reopen
use Rattle.play_desk.specs.Opening.{AllKept, IsKept, IsReadAtRest, KeepsBegun, KeepsOpened, reopen_of}

-- what may be left of a disk that holds the records that were read of it
as_read : (old new : View) → HoldsAsRead old new → (left : List ℕ) → new.images left → IsReadAtRest old.seen left
as_read old new (f, (told, (seen, only))) left is = (f, told, only left is ∙ seen)

-- a disk on which nothing was lost, and what may be left of it where a shelf was opened
pub is_kept : (scripts : List Named) (k : ℕ) (old new : View) (held : List ℕ → Type 0) → old.images old.seen → AreAmong old.images held
    → KeepsRecords k (opening_bodies scripts k (making_after k old)) old new → AllKept scripts k held old.seen new.images
is_kept scripts k old new held reads among (inl u) left is = inl (among left (u.1.1 left is))
is_kept scripts k old new held reads among (inr (intact, inl h)) left is = inr (among old.seen reads, intact, inr (inr (h.1 left is ∙ h.0)))
is_kept scripts k old new held reads among (inr (intact, inr (none, h))) left is = inr (among old.seen reads, intact, inl (as_read old new h left is))

-- and where none was
pub kept_unopened : (scripts : List Named) (k : ℕ) (old new : View) (held : List ℕ → Type 0) → old.images old.seen → AreAmong old.images held
    → KeepsRecords k [] old new → AllKept scripts k held old.seen new.images
kept_unopened scripts k old new held reads among (inl u) left is = inl (among left (u.1.1 left is))
kept_unopened scripts k old new held reads among (inr (intact, inl h)) left is =
    inr (among old.seen reads, intact, inr (inl (h.1 left is ∙ h.0 ∙ ap at_rest (append-nil (bodies_after k old.seen)))))
kept_unopened scripts k old new held reads among (inr (intact, inr (none, h))) left is = inr (among old.seen reads, intact, inl (as_read old new h left is))

-- what might be held of a disk that was taken might be held before
kept_in : (scripts : List Named) (k : ℕ) (held were : List ℕ → Type 0) (read left : List ℕ) → AreAmong were held → IsKept scripts k were read left
    → IsKept scripts k held read left
kept_in scripts k held were read left among (inl h) = inl (among left h)
kept_in scripts k held were read left among (inr h) = inr (among read h.0, h.1, h.2)

pub all_kept_in : (scripts : List Named) (k : ℕ) (held were : List ℕ → Type 0) (read : List ℕ) (holds now : List ℕ → Type 0) → AreAmong were held
    → AreAmong now holds → AllKept scripts k were read holds → AllKept scripts k held read now
all_kept_in scripts k held were read holds now among fewer kept left is = kept_in scripts k held were read left among (kept left (fewer left is))

-- what was held is kept
pub untouched : (scripts : List Named) (k : ℕ) (held holds : List ℕ → Type 0) (read : List ℕ) → AreAmong holds held → AllKept scripts k held read holds
untouched scripts k held holds read among left is = inl (among left is)

-- a disk that was given back, as no shelf was begun on it
pub not_begun : {D : Type 0} (view : D → View) (scripts : List Named) (k : ℕ) (old new : View) (holds : ℕ → List ℕ → Type 0) (fault : BeginFault)
    → old.images old.seen → (fault ≢ begin.DiskFault → KeepsRecords k [] old new) → AreAmong (holds k) new.images
    → KeepsBegun view scripts k old holds (Err (reopen_of fault))
not_begun view scripts k old new holds begin.DiskFault reads keeps among = tt
not_begun view scripts k old new holds (begin.Damaged place) reads keeps among =
    all_kept_in scripts k old.images old.images old.seen new.images (holds k) (λ image h. h) among
    (kept_unopened scripts k old new old.images reads (λ image h. h) (keeps (λ e. let no : ⊥ = cc in no)))
not_begun view scripts k old new holds (begin.Other place) reads keeps among =
    all_kept_in scripts k old.images old.images old.seen new.images (holds k) (λ image h. h) among
    (kept_unopened scripts k old new old.images reads (λ image h. h) (keeps (λ e. let no : ⊥ = cc in no)))
not_begun view scripts k old new holds (begin.Full len) reads keeps among =
    all_kept_in scripts k old.images old.images old.seen new.images (holds k) (λ image h. h) among
    (kept_unopened scripts k old new old.images reads (λ image h. h) (keeps (λ e. let no : ⊥ = cc in no)))
not_begun view scripts k old new holds begin.Memory reads keeps among =
    all_kept_in scripts k old.images old.images old.seen new.images (holds k) (λ image h. h) among
    (kept_unopened scripts k old new old.images reads (λ image h. h) (keeps (λ e. let no : ⊥ = cc in no)))

-- no empty shelf was opened on a disk without bytes
pub not_opened : {D : Type 0} (view : D → View) (scripts : List Named) (k : ℕ) (old : View) (held : List ℕ → Type 0) (holds : ℕ → List ℕ → Type 0) (why : Reopen)
    → old.seen ≡ [] → AreAmong old.images held → KeepsBegun view scripts k old holds (Err why)
    → KeepsOpened view scripts k held holds (Err why)
not_opened view scripts k old held holds reopen.Disk none among kept = tt
not_opened view scripts k old held holds reopen.NotEmpty none among kept =
    subst (λ read. AllKept scripts k held read (holds k)) none (all_kept_in scripts k held old.images old.seen (holds k) (holds k) among (λ image h. h) kept)
not_opened view scripts k old held holds (reopen.Damaged place) none among kept =
    subst (λ read. AllKept scripts k held read (holds k)) none (all_kept_in scripts k held old.images old.seen (holds k) (holds k) among (λ image h. h) kept)
not_opened view scripts k old held holds (reopen.Other place) none among kept =
    subst (λ read. AllKept scripts k held read (holds k)) none (all_kept_in scripts k held old.images old.seen (holds k) (holds k) among (λ image h. h) kept)
not_opened view scripts k old held holds (reopen.Full len) none among kept =
    subst (λ read. AllKept scripts k held read (holds k)) none (all_kept_in scripts k held old.images old.seen (holds k) (holds k) among (λ image h. h) kept)
not_opened view scripts k old held holds reopen.Memory none among kept =
    subst (λ read. AllKept scripts k held read (holds k)) none (all_kept_in scripts k held old.images old.seen (holds k) (holds k) among (λ image h. h) kept)

-- nor on a disk that was not taken
pub unread : {D : Type 0} (view : D → View) (scripts : List Named) (k : ℕ) (held : List ℕ → Type 0) (holds : ℕ → List ℕ → Type 0) (why : Reopen)
    → AreAmong (holds k) held → KeepsOpened view scripts k held holds (Err why)
unread view scripts k held holds reopen.Disk among = tt
unread view scripts k held holds reopen.NotEmpty among = untouched scripts k held (holds k) [] among
unread view scripts k held holds (reopen.Damaged place) among = untouched scripts k held (holds k) [] among
unread view scripts k held holds (reopen.Other place) among = untouched scripts k held (holds k) [] among
unread view scripts k held holds (reopen.Full len) among = untouched scripts k held (holds k) [] among
unread view scripts k held holds reopen.Memory among = untouched scripts k held (holds k) [] among

-- so it is told where the next shelf is not opened
pub closed_kept : {D : Type 0} (view : D → View) (scripts : List Named) (k : ℕ) (held : List ℕ → Type 0) (holds : ℕ → List ℕ → Type 0) (why : Reopen)
    → KeepsOpened view scripts k held holds (Err why) → why ≢ reopen.Disk → AllKept scripts k held [] (holds k)
closed_kept view scripts k held holds reopen.Disk kept other = absurd (other refl)
closed_kept view scripts k held holds reopen.NotEmpty kept other = kept
closed_kept view scripts k held holds (reopen.Damaged place) kept other = kept
closed_kept view scripts k held holds (reopen.Other place) kept other = kept
closed_kept view scripts k held holds (reopen.Full len) kept other = kept
closed_kept view scripts k held holds reopen.Memory kept other = kept
