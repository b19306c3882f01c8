-- How a command ended: an audit; what was sent, followed or promoted; a serving after the audits of its journals, or at one of them; or a command before which nothing is audited.
use Rattle.std.specs.Prelude.{⊤, ◌≡◌, ℕ, List, Option, Some, IfSome, IsTrue, Result, Ok, Err}
use Rattle.web_disk.specs.View.{RackView}
use Rattle.script_nodes.specs.Setup.{Named}
use Rattle.command_words.specs.declared.Command.{Command}
use Rattle.command_words.specs.declared.Command.TheVariants.{Audit, Export, Follow, Promote, Serve}
use Rattle.command_words.specs.declared.FeedOptions.{FeedOptions}
use Rattle.command_words.specs.declared.ShelvesOptions.{ShelvesOptions}
use Rattle.command_words.specs.declared.Service.{Service}
use Rattle.setup_reader.specs.declared.setup.Ending.TheVariants.{Input}
use Rattle.setup_reader.specs.Setup.{Parsed, setup_of}
use Rattle.request_workers.specs.declared.tally.Tally.{Tally}
use Rattle.play_desk.specs.Asking.{AsksForNone}
use Rattle.server_command.specs.declared.auditing.AuditEnd.{AuditEnd}
use Rattle.server_command.specs.declared.program.Status.{Status}
use Rattle.server_command.specs.declared.serving.ServeFault.{ServeFault}
use Rattle.server_command.specs.declared.serving.ServeFault.TheVariants as fault
use Rattle.server_command.specs.Auditing.{HaveAllPassed, LeavesAudit, LeavesStopped, StopsAt, no_text}
use Rattle.server_command.specs.Command.{Around, Ends, Explained, ReadToEnd, Untouched, asked_in, asks_in, code_of, met_in, serves_in}
use Rattle.server_command.specs.Feeding.{LeavesExport, LeavesFollow, LeavesPromotes}
use Rattle.server_command.specs.Order.{Asks, AsksInOrder, ComesInOrder}
use Rattle.server_command.specs.Racks.{Racks, racks_of}
use Rattle.server_command.specs.Serving.{Outside, ServesBy, serves_over}

-- ---- a serving

-- what a serving meets from a later moment of its rack on
abbrev pub served_from : {D P L N : Type 0} → Outside D P L N → RackView → Outside D P L N
served_from o began = record o { rack = racks_of o.rack.tells began o.rack.after }

-- a serving of these scripts came to this, before which nothing is audited, and the outside was asked in order
abbrev pub ServesSo : {D P L N : Type 0} → Service → Asks → List Named → Result Tally ServeFault → Outside D P L N → Type 0
ServesSo s asks scripts result o =
    ((images : List (List ℕ)) × ServesBy (serves_over o) s scripts images result)
    × ComesInOrder asks o.rack s.options.shelves result

-- audits ended before a site was begun: the seeds had given a source for each shelf, and the door was not asked
pub record EndsAtAudit {D P L N : Type 0} (o : Outside D P L N) (s : Service) (asks : Asks) (result : Result Tally ServeFault) : Type 0 where
  pub end : AuditEnd
  pub is : result ≡ Err (fault.Audit end)
  pub drawn : asks.drawn s.options.shelves
  pub shut : asks.shut
  pub stops : StopsAt o.rack s.options.shelves end

-- What a serving comes to. Where its journals are audited, it comes to that after the audits of all shelves, each answered yes, by which nothing
-- was written; or it ends at one of them; or it came to no audit, and no disk was asked for. The rack is told by what contracts see of it.
pub data ComesServed {R D P L N : Type 0} (view : R → RackView) (s : Service) (asks : Asks) (scripts : List Named)
    (result : Result Tally ServeFault) (o : Outside D P L N) : Type 0 where
  at_once : (IsTrue s.audit → AsksForNone o.rack.before o.rack.after) → ServesSo s asks scripts result o
      → ComesServed view s asks scripts result o
  behind : IsTrue s.audit → (began : R) → HaveAllPassed (racks_of o.rack.tells o.rack.before (view began)) s.options.shelves
      → ServesSo s asks scripts result (served_from o (view began)) → ComesServed view s asks scripts result o
  stopped : IsTrue s.audit → EndsAtAudit o s asks result → ComesServed view s asks scripts result o

-- ---- a command

-- what a command met from a later moment of its rack on
abbrev pub from_rack : {D P L N : Type 0} → Around D P L N → RackView → Around D P L N
from_rack a began = record a { rack = racks_of a.rack.tells began a.rack.after }

-- why a command ended so, before which nothing is audited, and that the outside was asked in order
abbrev pub ComesSo : {D P L N : Type 0} → Status → Around D P L N → Type 0
ComesSo how a = Explained (serves_in a) how (met_in a) × AsksInOrder (asks_in a) a.rack (asked_in a.words) how

-- Audits ended a serving. Its whole input was read, which is a setup; then the seeds gave a source for each shelf; the door was not asked.
pub record IsStopped {D P L N : Type 0} (s : Service) (how : Status) (a : Around D P L N) : Type 0 where
  pub read : ReadToEnd (met_in a)
  pub setup : IfSome a.input.before.left (λ bytes. (setup : Parsed) × (setup_of Input bytes ≡ Ok setup))
  pub drawn : (asks_in a).drawn s.options.shelves
  pub shut : (asks_in a).shut
  pub stops : LeavesStopped no_text a.rack s.options.shelves how (met_in a).output

-- An audit read nothing of its input, and neither the seeds nor the door were asked.
pub record HasAudited {D P L N : Type 0} (o : ShelvesOptions) (how : Status) (a : Around D P L N) : Type 0 where
  pub untouched : Untouched (met_in a)
  pub undrawn : (asks_in a).undrawn
  pub shut : (asks_in a).shut
  pub leaves : LeavesAudit a.rack o.shelves how (met_in a).output

-- An export read nothing of its input, and neither the seeds nor the door were asked.
pub record HasExported {D P L N : Type 0} (o : FeedOptions) (how : Status) (a : Around D P L N) : Type 0 where
  pub untouched : Untouched (met_in a)
  pub undrawn : (asks_in a).undrawn
  pub shut : (asks_in a).shut
  pub leaves : LeavesExport a.views.disk a.rack o.shelf how (met_in a).output

-- Following read a feed from the input, and neither the seeds nor the door were asked.
pub record HasBeenFed {D P L N : Type 0} (o : FeedOptions) (how : Status) (a : Around D P L N) : Type 0 where
  pub undrawn : (asks_in a).undrawn
  pub shut : (asks_in a).shut
  pub leaves : LeavesFollow a.views.disk a.rack o.shelf how a.input.before a.input.after a.output.before a.output.after

-- Promoting read nothing of its input, and neither the seeds nor the door were asked.
pub record HasPromoted {D P L N : Type 0} (o : ShelvesOptions) (how : Status) (a : Around D P L N) : Type 0 where
  pub untouched : Untouched (met_in a)
  pub undrawn : (asks_in a).undrawn
  pub shut : (asks_in a).shut
  pub leaves : LeavesPromotes a.views.disk a.rack o.shelves how (met_in a).output

-- nothing was audited: the words ask for no serving with audits, or no disk was asked for
abbrev pub WithoutAudits : Option Command → Racks → Type 0
WithoutAudits (Some (Serve s)) rack = IsTrue s.audit → AsksForNone rack.before rack.after
WithoutAudits _ rack = ⊤

-- How a command ended, Plainly being what holds of one before which nothing is audited. A serving with audits goes on as one without, after those
-- of all shelves, each answered yes, by which nothing was written; or it ends at one of them. The rack is told by what contracts see of it.
pub data EndsBehind {R D P L N : Type 0} (view : R → RackView) (how : Status) (Plainly : Around D P L N → Type 0) (a : Around D P L N) : Type 0 where
  plainly : WithoutAudits (asked_in a.words) a.rack → Plainly a → EndsBehind view how Plainly a
  behind : (s : Service) → asked_in a.words ≡ Some (Serve s) → IsTrue s.audit → (began : R)
      → HaveAllPassed (racks_of a.rack.tells a.rack.before (view began)) s.options.shelves
      → Plainly (from_rack a (view began)) → EndsBehind view how Plainly a
  stopped : (s : Service) → asked_in a.words ≡ Some (Serve s) → IsTrue s.audit → IsStopped s how a → EndsBehind view how Plainly a
  audited : (o : ShelvesOptions) → asked_in a.words ≡ Some (Audit o) → HasAudited o how a → EndsBehind view how Plainly a
  exported : (o : FeedOptions) → asked_in a.words ≡ Some (Export o) → HasExported o how a → EndsBehind view how Plainly a
  fed : (o : FeedOptions) → asked_in a.words ≡ Some (Follow o) → HasBeenFed o how a → EndsBehind view how Plainly a
  promoted : (o : ShelvesOptions) → asked_in a.words ≡ Some (Promote o) → HasPromoted o how a → EndsBehind view how Plainly a

-- How the command ended: as `Ends` says where nothing is audited, and else after audits, or at one.
pub record HasEnded {R D P L N : Type 0} (view : R → RackView) (result : ℕ) (a : Around D P L N) : Type 0 where
  pub status : Status
  pub code : result ≡ code_of status
  pub ends : EndsBehind view status (Ends result) a
