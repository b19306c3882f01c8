-- What a shelf is that is opened again on what a crash left.
use Rattle.std.proofs.Common.{◌≡◌, ◌⊎◌, inl, inr, ⊎_elim, refl, sym, ◌∙◌, ap, subst, ℕ, ◌≤◌, List, [], false, Result, Ok, Err, IfOk, arith}
use Rattle.std.specs.Prelude.{IfErr, IsErrOf}
use Rattle.web_outside.specs.Causes.{Rose}
use Rattle.web_outside.specs.declared.nonces.Counting.{Counting}
use Rattle.web_disk.specs.View.{View, AreAmong}
use Rattle.script_nodes.specs.Setup.{Named}
use Rattle.setup_reader.specs.Texts.{setup_of_texts}
use Rattle.replay_spec.specs.Step.{lost, kept}
use Rattle.replay_spec.specs.Book.{Book, are_same}
use Rattle.replay_spec.specs.Recovery.{of_length}
use Rattle.replay_spec.specs.Rules.{Rules}
use Rattle.replay_spec.proofs.Barred.{recovered_setup}
use Rattle.shelf.specs.JournalSpec.Making.{Making, damaged, other}
use Rattle.shelf.specs.JournalSpec.Bytes.{book_in_bytes}
use Rattle.shelf.specs.JournalSpec.Before.{made_of}
use Rattle.shelf.specs.JournalSpec.Standing.{IsBook, Between, Held, Stands, OpensThroughout, if_kept}
use Rattle.shelf.specs.JournalSpec.Laws.{ImagesMakeBooks}
use Rattle.shelf.specs.Faults.{IsAnother}
use Rattle.shelf.specs.Views.{book_in, rules_of}
use Rattle.shelf.specs.Files.{LeavesNewest}
use Rattle.shelf.specs.Opening.{IsCrashed, IsOfNow, AReopenedShelfHasCrashed}
use Rattle.shelf.specs.Owning.{HasOwnImages, StandsMeasured, StandsOwn, StaysOwnThroughout, IsOwnImage}
use Rattle.page_journal.specs.Records.{Intact, records}
use Rattle.shelf.specs.declared.shelf.Shelf.{Shelf}
use Rattle.play_steps.specs.declared.stage.Reopen.{Reopen}
use Rattle.play_steps.specs.declared.stage.Reopen.TheVariants as reopen
use Rattle.play_desk.specs.Opening.{CountRose, CountStays, Finds, FindsBook, HasCrashed, HoldsOpened, LeavesNoRoom, StandsLost, StaysLost, TellsRoom}

-- a book that is found is the one after the event crash, what was in doubt lost or kept
has_crashed : {D : Type 0} (view : D → View) → AReopenedShelfHasCrashed view → (scripts : List Named) (old : Shelf D Counting)
    → StandsMeasured (rules_of old.rules) old.rules.number (view old.journal.disk) (book_in view old)
    → (images : List ℕ → Type 0) → AreAmong images (view old.journal.disk).images → (b : Book) → FindsBook view scripts old.rules.number images b
    → (nonce : ℕ)
    → IsCrashed (rules_of old.rules) (book_in view old) nonce scripts lost b ⊎ IsCrashed (rules_of old.rules) (book_in view old) nonce scripts kept b
has_crashed view law scripts old stands images among b found nonce =
    law scripts old.rules.number (rules_of old.rules) (book_in view old) b nonce old.journal.disk found.0 refl stands
    (λ image here. among image (found.1 image here)) found.2

pub reopened_ok : {D : Type 0} (view : D → View) → AReopenedShelfHasCrashed view → (scripts : List Named) (old : Shelf D Counting)
    → StandsMeasured (rules_of old.rules) old.rules.number (view old.journal.disk) (book_in view old)
    → (images : List ℕ → Type 0) → AreAmong images (view old.journal.disk).images → (opened : Result (Shelf D Counting) Reopen)
    → Finds view scripts old.rules.number images opened → IfOk opened (HasCrashed view scripts old)
reopened_ok view law scripts old stands images among (Ok s) found = has_crashed view law scripts old stands images among (book_in view s) found
reopened_ok view law scripts old stands images among (Err why) found = tt

-- what may be left of a shelf's disk is of the newest format
pub now_on : (v w : View) → LeavesNewest v → AreAmong w.images v.images → w.images w.seen → IsOfNow w
now_on v w newest among reads = λ some. sym (newest w.seen (among w.seen reads))

-- a setup that is another one than that of an image is another one than that of the books of which the image makes one
is_another : ImagesMakeBooks → (scripts : List Named) (number : ℕ) (b : Book) (n : ℕ) (k : Between setup_of_texts number b (if_kept n b)) (image : List ℕ)
    → Held k image → IsAnother scripts (book_in_bytes setup_of_texts number image) → are_same scripts b.scripts ≡ false
is_another law scripts number b n k image held another =
    ⊎_elim (λ makes. another (made_of b makes.0) makes.1)
    (λ makes. ap (are_same scripts) (sym (recovered_setup (of_length n) kept b.down b)) ∙ another (made_of (if_kept n b) makes.0) makes.1)
    (law setup_of_texts number b (if_kept n b) k image held)

-- where there is no room for the setup, this is so of the book after the event crash
pub tells_room : {D : Type 0} (view : D → View) → ImagesMakeBooks → AReopenedShelfHasCrashed view → (scripts : List Named) (old : Shelf D Counting)
    → StandsMeasured (rules_of old.rules) old.rules.number (view old.journal.disk) (book_in view old)
    → (images : List ℕ → Type 0) → AreAmong images (view old.journal.disk).images → (opened : Result (Shelf D Counting) Reopen)
    → Finds view scripts old.rules.number images opened → (holds : List ℕ → Type 0) → LeavesNoRoom scripts old.rules.number holds opened
    → IfErr opened (TellsRoom (rules_of old.rules) scripts old.rules.number holds (book_in view old))
tells_room view make law scripts old stands images among (Ok s) found holds left = tt
tells_room view make law scripts old stands images among (Err (reopen.Full len)) found holds left = record {
  another = is_another make scripts old.rules.number (book_in view old) stands.0 stands.1.0 found.4.0
      (stands.1.1.0 found.4.0 (among found.4.0 found.4.1)) found.4.2;
  book = found.0;
  crashed = has_crashed view law scripts old stands images among found.0 found.1;
  length = found.2;
  long = found.3;
  left = left len refl;
}
tells_room view make law scripts old stands images among (Err reopen.NotEmpty) found holds left = tt
tells_room view make law scripts old stands images among (Err (reopen.Damaged place)) found holds left = tt
tells_room view make law scripts old stands images among (Err (reopen.Other place)) found holds left = tt
tells_room view make law scripts old stands images among (Err reopen.Disk) found holds left = tt
tells_room view make law scripts old stands images among (Err reopen.Memory) found holds left = tt

-- what makes a book makes no fault
no_damage : (making : Making) (place : ℕ) (a b : Book) → IsBook making a ⊎ IsBook making b → making ≡ damaged place → ⊥
no_damage making place a b h e =
    ⊎_elim (λ x. let is = x.1 in let no : ⊥ = cc in no) (λ x. let is = x.1 in let no : ⊥ = cc in no) h

no_other : (making : Making) (place : ℕ) (a b : Book) → IsBook making a ⊎ IsBook making b → making ≡ other place → ⊥
no_other making place a b h e =
    ⊎_elim (λ x. let is = x.1 in let no : ⊥ = cc in no) (λ x. let is = x.1 in let no : ⊥ = cc in no) h

pub undamaged : {D : Type 0} (view : D → View) → ImagesMakeBooks → (scripts : List Named) (number : ℕ) (disk : D) (b : Book)
    → Stands setup_of_texts number (view disk) b → (images : List ℕ → Type 0) → AreAmong images (view disk).images
    → (opened : Result (Shelf D Counting) Reopen) → Finds view scripts number images opened → (place : ℕ) → IsErrOf opened (reopen.Damaged place) → ⊥
undamaged view law scripts number disk b stands images among (Ok s) found place is = let no : ⊥ = cc in no
undamaged view law scripts number disk b stands images among (Err (reopen.Damaged at)) found place is =
    no_damage (book_in_bytes setup_of_texts number found.0) at b (if_kept stands.0 b)
    (law setup_of_texts number b (if_kept stands.0 b) stands.1.0 found.0 (stands.1.1 found.0 (among found.0 found.1))) found.2
undamaged view law scripts number disk b stands images among (Err (reopen.Other at)) found place is = let no : ⊥ = cc in no
undamaged view law scripts number disk b stands images among (Err (reopen.Full len)) found place is = let no : ⊥ = cc in no
undamaged view law scripts number disk b stands images among (Err reopen.NotEmpty) found place is = let no : ⊥ = cc in no
undamaged view law scripts number disk b stands images among (Err reopen.Disk) found place is = let no : ⊥ = cc in no
undamaged view law scripts number disk b stands images among (Err reopen.Memory) found place is = let no : ⊥ = cc in no

pub none_other : {D : Type 0} (view : D → View) → ImagesMakeBooks → (scripts : List Named) (number : ℕ) (disk : D) (b : Book)
    → Stands setup_of_texts number (view disk) b → (images : List ℕ → Type 0) → AreAmong images (view disk).images
    → (opened : Result (Shelf D Counting) Reopen) → Finds view scripts number images opened → (place : ℕ) → IsErrOf opened (reopen.Other place) → ⊥
none_other view law scripts number disk b stands images among (Ok s) found place is = let no : ⊥ = cc in no
none_other view law scripts number disk b stands images among (Err (reopen.Other at)) found place is =
    no_other (book_in_bytes setup_of_texts number found.0) at b (if_kept stands.0 b)
    (law setup_of_texts number b (if_kept stands.0 b) stands.1.0 found.0 (stands.1.1 found.0 (among found.0 found.1))) found.2
none_other view law scripts number disk b stands images among (Err (reopen.Damaged at)) found place is = let no : ⊥ = cc in no
none_other view law scripts number disk b stands images among (Err (reopen.Full len)) found place is = let no : ⊥ = cc in no
none_other view law scripts number disk b stands images among (Err reopen.NotEmpty) found place is = let no : ⊥ = cc in no
none_other view law scripts number disk b stands images among (Err reopen.Disk) found place is = let no : ⊥ = cc in no
none_other view law scripts number disk b stands images among (Err reopen.Memory) found place is = let no : ⊥ = cc in no

-- no bytes are own ones
pub empty_is_own : (shelf : ℕ) (image : List ℕ) → image ≡ [] → IsOwnImage shelf image
empty_is_own shelf image none bodies intact =
    absurd (let no : records [] ≡ Intact bodies = subst (λ (bytes : List ℕ). records bytes ≡ Intact bodies) none intact in let never : ⊥ = cc in never)

-- the count that rose after it stayed up rose over both
pub rose_after : (old mid new disk : ℕ) → CountStays old 0 mid disk → CountRose mid disk new 0 → Rose old new
rose_after old mid new disk stays rose = (let a = stays 0 in let b = rose 0 in omega (arith, a, b))

-- ---- a shelf that is lost

-- a disk that holds what the disk of an own shelf may hold is one of an own shelf
pub own_among : (rules : Rules) (shelf : ℕ) (v w : View) (b : Book) → StandsOwn rules shelf v b → AreAmong w.images v.images → StandsOwn rules shelf w b
own_among rules shelf v w b s among = record {
  images = (s.images.0, λ image h. s.images.1 image (among image h));
  stands = (s.stands.0, (s.stands.1.0, (λ image h. s.stands.1.1.0 image (among image h), s.stands.1.1.1)));
}

-- what the disk of an own shelf may hold stands for its book
pub lost_among : (rules : Rules) (scripts : List Named) (shelf : ℕ) (v : View) (holds : List ℕ → Type 0) (b : Book) → StandsOwn rules shelf v b
    → AreAmong holds v.images → StandsLost rules scripts shelf holds b
lost_among rules scripts shelf v holds b s among = record {
  own = λ image h. (s.images.0, s.images.1 image (among image h));
  stands = (s.stands.0, (s.stands.1.0, (inl (λ image h. s.stands.1.1.0 image (among image h)), s.stands.1.1.1)));
}

opened_fewer : {shelf : ℕ} {before after : Book} (k : Between setup_of_texts shelf before after) (scripts : List Named) (held holds : List ℕ → Type 0)
    → HoldsOpened k scripts held → AreAmong holds held → HoldsOpened k scripts holds
opened_fewer k scripts held holds (inl h) among = inl (λ image is. h image (among image is))
opened_fewer k scripts held holds (inr (inl h)) among = inr (inl (h.0, λ image is. h.1 image (among image is)))
opened_fewer k scripts held holds (inr (inr h)) among = inr (inr (h.0, λ image is. h.1 image (among image is)))

-- so does what may be left of it
pub lost_fewer : (rules : Rules) (scripts : List Named) (shelf : ℕ) (held holds : List ℕ → Type 0) (b : Book) → StandsLost rules scripts shelf held b
    → AreAmong holds held → StandsLost rules scripts shelf holds b
lost_fewer rules scripts shelf held holds b s among = record {
  own = λ image h. s.own image (among image h);
  stands = (s.stands.0, (s.stands.1.0, (opened_fewer s.stands.1.0 scripts held holds s.stands.1.1.0 among, s.stands.1.1.1)));
}

-- a crash at any moment of an opening leaves the disk of an own shelf standing for its book, with the setup or without it, so it does at its
-- end
pub stays_lost : (scripts : List Named) (shelf : ℕ) (old new : View) (holds : List ℕ → Type 0)
    → ((t : ℕ) (image : List ℕ) → t ≤ new.moment → new.images image → new.since t image) → OpensThroughout setup_of_texts shelf scripts old new
    → (HasOwnImages shelf old → StaysOwnThroughout shelf old new) → AreAmong holds new.images → StaysLost scripts shelf old holds
stays_lost scripts shelf old new holds now throughout owns among rules b s =
    let own = owns s.images in
    let stands = throughout b (if_kept s.stands.0 b) s.stands.1.0 s.stands.1.1.0 in
    record {
      own = λ image h. own.each image (now old.moment image own.later (among image h));
      stands = (s.stands.0, (s.stands.1.0, (opened_fewer s.stands.1.0 scripts new.images holds stands.stands among, s.stands.1.1.1)));
    }
