-- What of a shelf stays while it is fed.
use Rattle.std.specs.Prelude.{◌≡◌, Option, Some}
use Rattle.shelf.specs.SetupReader.Texts.{setup_of_texts}
use Rattle.shelf.specs.WebDisk.View.{View}
use Rattle.shelf.specs.PageJournal.Settled.{bodies_in}
use Rattle.shelf.specs.JournalSpec.Standing.{Makes}
use Rattle.shelf.specs.Following.{CanBeFed}
use Rattle.shelf.specs.Views.{book_in, follows_in}
use Rattle.shelf.specs.declared.shelf.Shelf.{Shelf}
use Rattle.page_follower.specs.declared.fault.FollowEnd.{FollowEnd}
use Rattle.page_follower.specs.declared.fault.FollowEnd.TheVariants as end

-- The number of a shelf, its limits, its nonces and that it follows stay; and it can be fed on, unless a call of its disk failed.
pub record IsKept {D N : Type 0} (old new : Shelf D N) (o : Option FollowEnd) : Type 0 where
  pub rules_are : new.rules ≡ old.rules
  pub nonces_are : new.nonces ≡ old.nonces
  pub follows_on : follows_in new ≡ follows_in old
  pub can : (o ≡ Some end.DiskFault → ⊥) → CanBeFed new

-- where it can be fed on, its book is the one that the records make that it holds
abbrev pub IsBookOfHeld : {D N : Type 0} → (D → View) → Shelf D N → Type 0
IsBookOfHeld view s = CanBeFed s → Makes setup_of_texts s.rules.number (bodies_in view s.journal) (book_in view s)
