-- A shelf that can be fed: what its journal holds.
use Rattle.std.proofs.Common.{◌≡◌, Bool, Option, Some, None, IfSome, IsTrue, option_map, ap, subst, refl}
use Rattle.shelf.specs.SetupReader.Texts.{setup_of_texts}
use Rattle.shelf.specs.WebDisk.View.{View}
use Rattle.shelf.specs.PageJournal.Records.{newest}
use Rattle.shelf.specs.PageJournal.Settled.{IsSettled, bodies_in}
use Rattle.shelf.specs.JournalSpec.Standing.{Makes}
use Rattle.shelf.specs.Following.{CanBeFed}
use Rattle.shelf.specs.Views.{IsFed, IsInOrder, book_in, doubt_of}
use Rattle.shelf.specs.declared.follower.Follower.{Follower}
use Rattle.shelf.specs.declared.shelf.Shelf.{Shelf}

-- nothing is in doubt
up : {D N : Type 0} (view : D → View) (tells : Bool) (s : Shelf D N) (o : Option Follower) → s.follower ≡ o → CanBeFed s → IsInOrder view tells s
    → s.down ≡ None
up view tells s None is can order = absurd (let h = can.follows_on in cc)
up view tells s (Some f) is can order = (subst (λ (o : Option Follower). IfSome o (IsFed view tells s)) is order.fed).up

-- its journal is settled
pub settled : {D N : Type 0} (view : D → View) (tells : Bool) (s : Shelf D N) → CanBeFed s → IsInOrder view tells s → IsTrue tells
    → IsSettled view s.journal
settled view tells s can order told =
    (order.fit told).settled (ap (option_map doubt_of) (up view tells s s.follower refl can order))

-- it is of the newest format
pub of_newest : {D N : Type 0} (view : D → View) (tells : Bool) (s : Shelf D N) → IsInOrder view tells s → s.journal.format ≡ newest
of_newest view tells s order = order.knows.newest_is

-- its records make its book
pub makes_book : {D N : Type 0} (view : D → View) (tells : Bool) (s : Shelf D N) → CanBeFed s → IsInOrder view tells s → IsTrue tells
    → Makes setup_of_texts s.rules.number (bodies_in view s.journal) (book_in view s)
makes_book view tells s can order told =
    let keeps = (order.fit told).holds (ap (option_map doubt_of) (up view tells s s.follower refl can order)) in
    (keeps.earlier, keeps.makes)
