-- What a reply leaves of the disk.
use Rattle.std.proofs.Common.{◌≡◌, refl, subst, Option, Some}
use Rattle.script_value.specs.declared.outcome.Reply.{Reply}
use Rattle.script_value.specs.declared.outcome.Reply.TheVariants as reply
use Rattle.web_disk.specs.View.{View}
use Rattle.replay_spec.specs.Step as step
use Rattle.book_recovery.specs.InstanceBook.declared.change.Change.{Change}
use Rattle.book_recovery.specs.InstanceBook.Changes.{change_of, inside_of}
use Rattle.book_visits.specs.Changes.{decision_by}
use Rattle.book_visits.specs.Prepares.{AnswersWithPage}
use Rattle.book_visits.specs.Views.{reply_of}
use Rattle.shelf.specs.Events.{IsLeftAlone, LeavesDisk}

-- nothing was done
pub untouched : (v : View) → IsLeftAlone v v
untouched v = record { faults = refl; seen = refl; images = λ image left. left }

-- a disk that is left alone may be told of by any reply
pub alone : {old new : View} (x : Reply) → IsLeftAlone old new → LeavesDisk old new (reply_of x)
alone (reply.Page bytes url) left = tt
alone (reply.Finished bytes) left = tt
alone (reply.Ended bytes) left = tt
alone (reply.Refused why) left = left
alone (reply.Fault f) left = left
alone (reply.Fuel cost) left = left
alone (reply.ShelfFull count) left = left
alone (reply.Oversize n) left = left
alone (reply.JournalFull n) left = left
alone (reply.DiskFault count) left = tt
alone (reply.Down count) left = left
alone reply.Following left = left
alone reply.Worn left = left
alone reply.Memory left = left

module _ (old new : View) (c : Change) where
  -- what is recorded is answered with a page
  paged : (x : step.Reply) → AnswersWithPage (step.records x (change_of c) (inside_of c)) → LeavesDisk old new x
  paged (step.taken number nonce) h = absurd h
  paged (step.shown page url) h = tt
  paged (step.finished page) h = tt
  paged (step.ended page) h = tt
  paged (step.refusal why) h = absurd h
  paged (step.fault f) h = absurd h
  paged (step.out_of_fuel cost) h = absurd h
  paged (step.shelf_full count) h = absurd h
  paged (step.compacted n) h = absurd h
  paged (step.disk_failed count) h = absurd h
  paged (step.down count) h = absurd h
  paged step.following h = absurd h
  paged (step.oversize n) h = absurd h
  paged (step.journal_full n) h = absurd h
  paged step.worn h = absurd h
  paged step.memory h = absurd h
  paged (step.swept count) h = absurd h
  paged (step.live count) h = absurd h

  pub told_page : (o : Option Change) (x : Reply) → o ≡ Some c → AnswersWithPage (decision_by (reply_of x) o) → LeavesDisk old new (reply_of x)
  told_page o x some h = paged (reply_of x) (subst (λ (p : Option Change). AnswersWithPage (decision_by (reply_of x) p)) some h)
