-- What the calls inside ensure, by what contracts see of a rack, and of an output, before them and after them.
use Rattle.std.specs.Prelude.{◌&&◌, ⊤, ℕ, Bool, IsTrue, Result, IsErrOf}
use Rattle.std.specs.Global.{Vec}
use Rattle.web_outside.specs.Causes.{Rose}
use Rattle.web_outside.specs.View.{SinkView}
use Rattle.web_outside.specs.declared.nonces.Counting.{Counting}
use Rattle.web_disk.specs.View.{View, RackView}
use Rattle.web_disk.specs.declared.disk.Disk.{Ghosts}
use Rattle.disk_trio.specs.Trio.{trio_view}
use Rattle.disk_trio.specs.declared.trio.Disks.{Disks}
use Rattle.script_nodes.specs.Views.{scripts_of}
use Rattle.script_nodes.specs.declared.setup.Setup.{Setup}
use Rattle.command_words.specs.declared.FeedOptions.{FeedOptions}
use Rattle.command_words.specs.declared.LoadOptions.{LoadOptions}
use Rattle.command_words.specs.declared.Options.{Options}
use Rattle.command_words.specs.declared.Service.{Service}
use Rattle.command_words.specs.declared.ShelvesOptions.{ShelvesOptions}
use Rattle.page_follower.specs.OfShelf.declared.shelf.Shelf.{Shelf}
use Rattle.site_serving.specs.Serving.{openings_of}
use Rattle.site_serving.specs.Shelves.{Site}
use Rattle.play_steps.specs.declared.stage.Reopen.{Reopen}
use Rattle.play_desk.specs.declared.opening.OpenFault.{OpenFault}
use Rattle.server_command.specs.declared.auditing.AuditEnd.{AuditEnd}
use Rattle.server_command.specs.declared.program.Status.{Status}
use Rattle.server_command.specs.Auditing.{ComesThrough, HoldYes, LeavesAudit}
use Rattle.server_command.specs.Bare.{GivesBack, OpensOne}
use Rattle.server_command.specs.Feeding.{LeavesExport, LeavesPromotes, PromotesOne}
use Rattle.server_command.specs.Loading.{HasLeft}
use Rattle.server_command.specs.Opening.{HasTaken, OpensOn, RefusesOn, seen_on}
use Rattle.server_command.specs.Output.{rules_for, sinks_of}
use Rattle.server_command.specs.Racks.{Racks, racks_of}

-- A rack before a call and after it: it tells its bytes where it tells what its disks may hold, and these tell theirs.
abbrev pub rack_over : {R : Type 0} → (R → RackView) → (rack_tells tells : Bool) → (old new : R) → Racks
rack_over view rack_tells tells old new = racks_of (rack_tells && tells) (view old) (view new)

-- ---- audits

-- What the audits before a serving came to, where it asks for them.
abbrev pub AuditsFirst : Service → Racks → Result ⊤ AuditEnd → Type 0
AuditsFirst service rack result = IsTrue service.audit → ComesThrough rack service.options.shelves result

-- Where a serving asks for audits, and a rack and its disks tell what they hold, an audit says yes to whatever the disks of its shelves may hold.
abbrev pub HoldYesIfAudited : Service → (tells : Bool) → RackView → Type 0
HoldYesIfAudited service tells rack = IsTrue service.audit → IsTrue tells → HoldYes service.options.shelves rack

-- What auditing shelves leaves on a rack and an output.
abbrev pub AuditsAll : {R O : Type 0} → (R → RackView) → (rack_tells tells : Bool) → (O → SinkView) → ShelvesOptions → Status → (old new : R) → (before after : O)
    → Type 0
AuditsAll view rack_tells tells sees options how old new before after =
    LeavesAudit (rack_over view rack_tells tells old new) options.shelves how (sinks_of (sees before) (sees after))

-- ---- a measured run

-- What a measured run leaves on a rack and an output.
abbrev pub LoadsAll : {R O : Type 0} → (R → RackView) → (rack_tells tells : Bool) → (O → SinkView) → LoadOptions → Status → (old new : R) → (before after : O)
    → Type 0
LoadsAll view rack_tells tells sees options how old new before after =
    HasLeft (rack_over view rack_tells tells old new) options how (sinks_of (sees before) (sees after))

-- ---- shelves and disks of a rack

-- What opening a shelf of a rack came to, without a setup.
abbrev pub OpensShelf : {D R : Type 0} → (G : Ghosts D) → (R → RackView) → (rack_tells fed : Bool) → (old new : R) → (shelf : ℕ)
    → Result (Shelf (Disks D G) Counting) Reopen → Type 0
OpensShelf G view rack_tells fed old new shelf result =
    OpensOne (trio_view {G = G}) G.tells fed (rack_over view rack_tells G.tells old new) shelf result

-- What promoting a shelf of a rack came to.
abbrev pub PromotesShelf : {D R : Type 0} → (G : Ghosts D) → (R → RackView) → (rack_tells : Bool) → (old new : R) → (shelf : ℕ) → Result Bool Reopen → Type 0
PromotesShelf G view rack_tells old new shelf result =
    PromotesOne (trio_view {G = G}) (rack_over view rack_tells G.tells old new) shelf result

-- What exporting a shelf of a rack leaves on the rack and an output.
abbrev pub ExportsOn : {D R O : Type 0} → (G : Ghosts D) → (R → RackView) → (rack_tells : Bool) → (O → SinkView) → FeedOptions → Status
    → (old new : R) → (before after : O) → Type 0
ExportsOn G view rack_tells sees options how old new before after =
    LeavesExport (trio_view {G = G}) (rack_over view rack_tells G.tells old new) options.shelf how (sinks_of (sees before) (sees after))

-- What promoting shelves of a rack leaves on the rack and an output.
abbrev pub PromotesAll : {D R O : Type 0} → (G : Ghosts D) → (R → RackView) → (rack_tells : Bool) → (O → SinkView) → ShelvesOptions → Status
    → (old new : R) → (before after : O) → Type 0
PromotesAll G view rack_tells sees options how old new before after =
    LeavesPromotes (trio_view {G = G}) (rack_over view rack_tells G.tells old new) options.shelves how (sinks_of (sees before) (sees after))

-- The shelves of a site were opened on the disks of a rack, with this setup, under these limits and with these sources of nonces.
abbrev pub OpensSite : {D R N : Type 0} → (G : Ghosts D) → (R → RackView) → (rack_tells : Bool) → (N → ℕ → ℕ) → Options → Setup → (sources : Vec N)
    → (old new : R) → Site (Disks D G) N → Type 0
OpensSite G view rack_tells nonce options setup sources old new site =
    OpensOn (trio_view {G = G}) G.tells (IsTrue (rack_tells && G.tells)) nonce (rules_for options) (scripts_of setup) sources.items (view old) (view new)
    (openings_of site.row.homes)

-- The disks of a shelf were given back to a rack.
abbrev pub GivesBackTo : {D R : Type 0} → (D → View) → (R → RackView) → (tells : Bool) → (shelf : ℕ) → D → (old new : R) → Type 0
GivesBackTo view sees tells shelf disk old new = GivesBack view (IsTrue tells) shelf disk (sees old) (sees new)

-- These are the disks of so many shelves, taken from a rack.
abbrev pub HasTakenAll : {D R : Type 0} → (G : Ghosts D) → (R → RackView) → (rack_tells : Bool) → (old new : R) → (count : ℕ) → Vec (Disks D G) → Type 0
HasTakenAll G view rack_tells old new count disks =
    HasTaken (IsTrue (rack_tells && G.tells)) (view old) (view new) count (seen_on (trio_view {G = G}) disks.items)

-- Of so many shelves of a rack, one was not opened with this setup.
abbrev pub RefusesFor : {R : Type 0} → (R → RackView) → (tells : Bool) → Setup → (count : ℕ) → (old new : R) → OpenFault → Type 0
RefusesFor view tells setup count old new f = RefusesOn (IsTrue tells) (scripts_of setup) count (view old) (view new) f

-- ---- faults

-- Where this fault is told, a count of faults rose.
abbrev pub RoseIf : {T E : Type 0} → Result T E → E → (before now : ℕ) → Type 0
RoseIf result fault before now = IsErrOf result fault → Rose before now
