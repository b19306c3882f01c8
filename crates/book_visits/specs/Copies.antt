-- Copies of what is prepared.
use Rattle.std.specs.Prelude.{◌≡◌, ℕ, List, Option}
use Rattle.script_nodes.specs.Setup.{Named}
use Rattle.replay_spec.specs.Book as spec
use Rattle.replay_spec.specs.Step as step
use Rattle.book_visits.specs.declared.prepared.Prepared.{Prepared}
use Rattle.instance_book.specs.declared.change.Change.{Change}
use Rattle.instance_book.specs.declared.book.Book.{Book}
use Rattle.book_visits.specs.Changes.{decision_by, decision_of}
use Rattle.instance_book.specs.Changes.{instances_after, HasRoomFor, HasStateFrom}
use Rattle.instance_book.specs.Places.{Source}

-- a copy of a change, if there is one, is the same decision and makes the same of the instances; where the one has its room, and its page
-- its state, so has the copy
pub record IsSameIf (c copy : Option Change) : Type 0 where
  pub decision : (r : step.Reply) → decision_by r copy ≡ decision_by r c
  pub instances : (all : List Named) (is : List spec.Instance) → instances_after all copy is ≡ instances_after all c is
  pub room : (b : Book) → HasRoomFor c b → HasRoomFor copy b
  pub states : (all : List Named) (shelf : Source ℕ) (is : List spec.Instance) → HasStateFrom all shelf is c → HasStateFrom all shelf is copy

-- a copy of what is prepared has the same reply and decision and makes the same of the instances; where the one has its room, and its page
-- its state, so has the copy
pub record IsSame (p copy : Prepared) : Type 0 where
  pub reply : copy.reply ≡ p.reply
  pub logged : copy.logged ≡ p.logged
  pub decision : decision_of copy ≡ decision_of p
  pub instances : (all : List Named) (is : List spec.Instance) → instances_after all copy.change is ≡ instances_after all p.change is
  pub room : (b : Book) → HasRoomFor p.change b → HasRoomFor copy.change b
  pub states : (all : List Named) (shelf : Source ℕ) (is : List spec.Instance) → HasStateFrom all shelf is p.change → HasStateFrom all shelf is copy.change
