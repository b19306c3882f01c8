-- What holds of a change that is recorded: so recovery takes the record in, whatever the ticket was for.
use Rattle.std.specs.Prelude.{◌≡◌, List, length, map, Some, None, IfSome, slice_get, ⊤}
use Rattle.script_value.specs.Val.{Val}
use Rattle.script_value.specs.declared.outcome.TxName.{TxName}
use Rattle.script_value.specs.declared.outcome.Reply.{Reply}
use Rattle.script_value.specs.declared.outcome.Reply.TheVariants as reply
use Rattle.script_nodes.specs.Arena.{Arena}
use Rattle.script_nodes.specs.Setup.{Named, Library}
use Rattle.page_names.specs.Names.{Destination, start, page}
use Rattle.page_names.specs.Views.{target_of}
use Rattle.instance_cells.specs.Cells.{Effect, AreOn, Holds}
use Rattle.instance_cells.specs.Views.{effect_of}
use Rattle.machine_states.specs.Machine.{Suspended, inside_of}
use Rattle.machine_states.specs.Views.{suspended_of, Keeps}
use Rattle.machine_states.specs.declared.segment.Segment.{Segment}
use Rattle.book_recovery.specs.InstanceBook.FrameCodec.Spelling.{StateHasBytes}
use Rattle.book_recovery.specs.InstanceBook.FrameCodec.Stored.{IsStored}
use Rattle.book_recovery.specs.InstanceBook.declared.book.Book.{Book}
use Rattle.book_recovery.specs.InstanceBook.declared.change.Change.{Change}
use Rattle.book_recovery.specs.InstanceBook.declared.change.Change.TheVariants.{Opens, Extends}
use Rattle.book_visits.specs.declared.ticket.Ticket.{Ticket}
use Rattle.book_visits.specs.Admissions.{refusal_for, FitsIn}
use Rattle.book_recovery.specs.InstanceBook.Standing.{script_at}
use Rattle.book_recovery.specs.InstanceBook.Places.{arena_of}
use Rattle.book_recovery.specs.InstanceBook.Views.{script_in}
use Rattle.book_recovery.specs.InstanceBook.Swept.{cells_at}

-- the target is admitted, and the ticket is for the visit of it
pub record IsForItsVisit (library : Library) (b : Book) (t : Ticket) : Type 0 where
  pub admitted : refusal_for library b t.target ≡ None
  pub fits : FitsIn library b t.target t

-- the reply tells want of memory
abbrev pub IsWantOfMemory : Reply → Type 0
IsWantOfMemory reply.Memory = ⊤
IsWantOfMemory _ = ⊥

-- the effects are on these cells and hold over them
pub record AreHeld (effects : List Effect) (cells : List Val) : Type 0 where
  pub on : AreOn (length cells) effects
  pub hold : Holds effects cells

-- the effects are on the cells of a start's ticket, or of the instance whose page is answered, and hold over them
abbrev pub AreHeldBy : Book → Ticket → Destination → List Effect → Type 0
AreHeldBy b t (start name) effects = AreHeld effects t.cells
AreHeldBy b t (page name n) effects = IfSome (cells_at n.instance b) (AreHeld effects)

-- the segment's effects are on the cells of its ticket, where that is for a start, or of the instance whose page it answers, and hold over
-- them
abbrev pub AreHeldNow : Book → Ticket → Segment → Type 0
AreHeldNow b t r = AreHeldBy b t (target_of t.target) (map effect_of r.effects.items)

-- the state fits the script, where it has a spelling
abbrev pub FitsIfSpelled : Arena → Suspended → Type 0
FitsIfSpelled a d = StateHasBytes d → IsStored a d

-- A page with this state is inside the transactions of the state's frames, and the state fits the script where it has a spelling.
pub record IsWhole (a : Arena) (d : Suspended) (inside : List TxName) : Type 0 where
  pub inside_is : inside_of d.frames ≡ inside
  pub stored : FitsIfSpelled a d

-- A page that a segment of this script shows is inside the transactions of its state's frames, and its state fits the script where it has a
-- spelling.
abbrev pub ShowsWhole : Arena → Segment → Type 0
ShowsWhole a r = Keeps r.outcome (λ d. IsWhole a d r.entered.items)

-- A page that a segment of the ticket's script shows is inside the transactions of its state's frames, and its state fits that
-- script where it has a spelling.
abbrev pub ShowsWholeFrom : List Named → Ticket → Segment → Type 0
ShowsWholeFrom all t r = (named : Named) → slice_get all t.script ≡ Some named → ShowsWhole (arena_of named.script) r

-- The page that a change shows is inside the transactions of its state's frames, and its state fits its script where it has a
-- spelling: a start the script of its instance, and another page that of the ticket.
abbrev pub IsWholeFrom : List Named → Ticket → Change → Type 0
IsWholeFrom all t (Opens o) =
    IfSome (slice_get all o.instance.script) (λ s. IsWhole (arena_of s.script) (suspended_of o.state) o.page.item.inside.items)
IsWholeFrom all t (Extends x) =
    IfSome (slice_get all t.script) (λ s. IsWhole (arena_of s.script) (suspended_of x.state) x.show.page.item.inside.items)
IsWholeFrom all t _ = ⊤

-- the instance whose page is answered, where the change shows a page after another one, is of the ticket's script
abbrev pub IsOfItsScript : List Named → Book → Ticket → Change → Type 0
IsOfItsScript all b t (Extends x) = script_at all x.instance b ≡ Some (script_in all t.script)
IsOfItsScript all b t _ = ⊤

-- the page that a change shows is inside the transactions of its state's frames, and the state fits the script of its instance where it has
-- a spelling
abbrev pub IsWholeIn : List Named → Book → Change → Type 0
IsWholeIn all b (Opens o) =
    IfSome (slice_get all o.instance.script) (λ s. IsWhole (arena_of s.script) (suspended_of o.state) o.page.item.inside.items)
IsWholeIn all b (Extends x) =
    IfSome (script_at all x.instance b) (λ s. IsWhole (arena_of s.script) (suspended_of x.state) x.show.page.item.inside.items)
IsWholeIn all b _ = ⊤
