-- A file of an older format can be written in the format of now.
use Rattle.std.proofs.Common.{ℕ, List, [], ◌∷◌, refl, sym}
use Rattle.replay_spec.specs.Book.{Line, changed, renewed}
use Rattle.replay_spec.specs.Change.{record_length}
use Rattle.replay_spec.specs.Recovery.{Made, redo, of_length, resettled, first_of}
use Rattle.replay_spec.specs.Remade.{AreTaken}
use Rattle.replay_spec.specs.Migration.{remeasured, in_format}
use Rattle.replay_spec.proofs.Migrated.{Same, same_line}
use Rattle.journal_spec.specs.Lengths.{journal_rules}
use Rattle.journal_spec.specs.Making.{Texts}
use Rattle.journal_spec.specs.Files.{AreWritten}
use Rattle.journal_spec.specs.Migrating.{CanAllBeWritten, MigrationIsWritten}
use Rattle.journal_spec.proofs.Writing.{state_like, can_same, long_same}
use Rattle.journal_spec.proofs.Events.{measured}

written_now : (texts : Texts) (shelf : ℕ) (ls : List Line) (m k : Made) → AreTaken ls m → Same m k → CanAllBeWritten texts ls m → AreWritten texts (remeasured (journal_rules shelf) ls m) k
written_now texts shelf [] m k taken h can = tt
written_now texts shelf (changed c n ∷ ls) m k taken h can =
    let p = record_length (journal_rules shelf) m.book c in
    let same = sym (state_like k.book m.book c h.like) in (
      can_same c m.book k.book same can.0.0,
      long_same c m.book k.book p same (measured m.book c shelf can.0.0 can.0.1),
      written_now texts shelf ls (redo (of_length n) c m) (redo (of_length p) c k) taken.1 (same_line c n p m k taken.0 h).1 can.1,
    )
written_now texts shelf (renewed scripts n ∷ ls) m k taken h can = (
  can.0.renews,
  refl,
  can.0.read,
  can.0.whole,
  written_now texts shelf ls (resettled n scripts m) (resettled ((journal_rules shelf).renewed scripts) scripts k) taken.1
      (record { like = record { shelf = h.like.shelf; scripts = refl; clock = h.like.clock; instances = h.like.instances }; seen = h.seen; logged = h.logged }) can.1,
)

pub migration_written : MigrationIsWritten
migration_written texts b h can given begins drawn = record {
  begins = begins;
  read = given.read;
  whole = given.whole;
  head = refl;
  drawn = drawn;
  lines =
      written_now texts b.shelf b.file.lines (first_of b.shelf b.file) (first_of b.shelf (in_format (journal_rules b.shelf) b).file) h.taken
      (record { like = record { shelf = refl; scripts = refl; clock = refl; instances = refl }; seen = refl; logged = refl }) can;
}
