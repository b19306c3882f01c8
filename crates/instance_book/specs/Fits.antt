-- What a state that a ticket goes on from has to fit.
use Rattle.std.specs.Prelude.{Option, Some, None, ⊤}
use Rattle.script_nodes.specs.Arena.{Arena}
use Rattle.script_nodes.specs.Setup.{Named}
use Rattle.kept_states.specs.MachineStates.Machine.{Suspended}
use Rattle.kept_states.specs.MachineStates.Fits.{Fits}
use Rattle.kept_states.specs.MachineStates.Views.{origin_of}
use Rattle.kept_states.specs.FrameCodec.Stored.{IsStored}
use Rattle.kept_states.specs.MachineStates.declared.segment.Origin.{Origin}
use Rattle.instance_book.specs.Places.{arena_of}

-- what a ticket goes on from, if anything, fits a script
abbrev pub FitsScript : Arena → Option Suspended → Type 0
FitsScript a None = ⊤
FitsScript a (Some d) = Fits a d

-- what a ticket goes on from, if anything, fits this script of the setup
abbrev pub IsOriginOf : Named → Origin → Type 0
IsOriginOf s from = FitsScript (arena_of s.script) (origin_of from)

-- what a ticket goes on from, if anything, is a state of the script that can be written
abbrev pub IsStoredScript : Arena → Option Suspended → Type 0
IsStoredScript a None = ⊤
IsStoredScript a (Some d) = IsStored a d

-- what a ticket goes on from, if anything, is a state of this script of the setup that can be written
abbrev pub IsStoredOrigin : Named → Origin → Type 0
IsStoredOrigin s from = IsStoredScript (arena_of s.script) (origin_of from)
