-- The scripts of a setup are such as the first record of a journal tells.
use Rattle.std.proofs.Common.{◌≤◌, List, [], ◌∷◌, ℕ, length, arith}
use Rattle.script_nodes.specs.Setup.{Named}
use Rattle.page_follower.specs.OfShelf.JournalRecords.Records.{texts_of}
use Rattle.server_limits.specs.Limits.{most_shelves}
use Rattle.server_limits.specs.Counts.{most_scripts}
use Rattle.setup_reader.specs.Limits.{AreShort}
use Rattle.play_desk.proofs.Firsts.{texts_fit}
use Rattle.server_command.specs.Opening.{CanBegin}

as_many : (scripts : List Named) → length (texts_of scripts) ≤ length scripts
as_many [] = omega arith
as_many (s ∷ scripts) = omega (arith, as_many scripts)

pub can_begin : (count : ℕ) (scripts : List Named) → count ≤ most_shelves → length scripts ≤ most_scripts → AreShort scripts → CanBegin count scripts
can_begin count scripts most few short k low =
    (omega (arith, low, most), (omega (arith, few, as_many scripts), texts_fit scripts short))
