-- Disks whose records have the states of their pages' chains.
use Rattle.std.specs.Prelude.{◌≡◌, ℕ, true, List}
use Rattle.web_disk.specs.View.{View, LeavesOnly}
use Rattle.page_journal.specs.Records.{Intact, is_format, format_of, records}
use Rattle.book_recovery.specs.SetupReader.Texts.{setup_of_texts}
use Rattle.replay_spec.specs.Book.{Book}
use Rattle.replay_spec.specs.Rules.{Rules}
use Rattle.book_recovery.specs.JournalSpec.Laws.{MeasuresDoubt}
use Rattle.book_recovery.specs.JournalSpec.Owning.{AreOwnIn}
use Rattle.book_recovery.specs.JournalSpec.Standing.{Flight, with_flight, format_with, HasRoom, Hold, Between, HoldIn, if_kept}

-- the whole records of these bytes are own ones; an empty disk has none
abbrev pub IsOwnImage : (shelf : ℕ) → List ℕ → Type 0
IsOwnImage shelf image = (bodies : List (List ℕ)) → records image ≡ Intact bodies → AreOwnIn (format_of image) setup_of_texts shelf bodies

-- own records of a format, of which the last may be in flight, or others that are put in their place
pub record OwnRecords (shelf : ℕ) : Type 0 where
  pub format : ℕ
  pub known : is_format format ≡ true
  pub bodies : List (List ℕ)
  pub flight : Flight
  pub room : HasRoom bodies flight
  pub first : AreOwnIn format setup_of_texts shelf bodies
  pub own : AreOwnIn (format_with format flight) setup_of_texts shelf (with_flight bodies flight)

-- bytes hold these own records, whatever becomes of them in a recovery that crashes, too
abbrev pub HoldOwn : {shelf : ℕ} → OwnRecords shelf → List ℕ → Type 0
HoldOwn o image = Hold o.format o.bodies o.flight image

-- bytes hold some own records, whatever becomes of them in a recovery that crashes, too
abbrev pub HoldsOwnRecords : (shelf : ℕ) → List ℕ → Type 0
HoldsOwnRecords shelf image = (o : OwnRecords shelf) × HoldOwn o image

-- whatever a crash leaves now holds the same own records
abbrev pub HasOwnImages : (shelf : ℕ) → View → Type 0
HasOwnImages shelf v = (o : OwnRecords shelf) × ((image : List ℕ) → v.images image → HoldOwn o image)

-- whatever a crash leaves at a moment of a call holds some own records
abbrev pub StaysOwnThroughout : (shelf : ℕ) → View → View → Type 0
StaysOwnThroughout shelf old new = LeavesOnly old new (HoldsOwnRecords shelf)

-- a crash now leaves what makes the book, with what is in doubt or without it, whose record is as long as the rules measure it
abbrev pub StandsMeasured : Rules → (shelf : ℕ) → View → Book → Type 0
StandsMeasured rules shelf v b =
    (n : ℕ) × ((k : Between setup_of_texts shelf b (if_kept n b)) × (HoldIn k v.images × MeasuresDoubt rules n b))

-- the disk of an own shelf
pub record StandsOwn (rules : Rules) (shelf : ℕ) (v : View) (b : Book) : Type 0 where
  pub images : HasOwnImages shelf v
  pub stands : StandsMeasured rules shelf v b
