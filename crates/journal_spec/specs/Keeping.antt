-- How a journal goes on beside its shelf.
use Rattle.std.specs.Prelude.{◌≡◌, ℕ, false, List, [], ◌∷◌, ◌++◌, length, Contains, Option, Some, None, ⊤}
use Rattle.script_value.specs.declared.outcome.TxName.{TxName}
use Rattle.replay_spec.specs.Book.{Change, Work, landing, compacting, Doubt, Book, spend}
use Rattle.replay_spec.specs.Rules.{Rules}
use Rattle.replay_spec.specs.Change.{instances_by, land}
use Rattle.replay_spec.specs.Step.{Event, compact, crash, Fate, step}
use Rattle.replay_spec.specs.Runs.{doubted, lands}
use Rattle.replay_spec.specs.Recovery.{of_length, number_in}
use Rattle.replay_spec.specs.Invariant.{IsOrderly}
use Rattle.replay_spec.specs.Laws.{Moment, then_book}
use Rattle.replay_spec.specs.Remade.{AreUsed}
use Rattle.machine_states.specs.Machine.{inside_of}
use Rattle.journal_records.specs.Records.{changes, body_of, record_length}
use Rattle.journal_spec.specs.Before.{Earlier, made_of}
use Rattle.journal_spec.specs.Retaking.{Told, unread, misread, told, told_in, held}
use Rattle.journal_spec.specs.Lengths.{state_told, own_told, own_body, journal_rules}
use Rattle.journal_spec.specs.Making.{Texts, made_in, book_of}
use Rattle.journal_spec.specs.Opening.{IsReadUnlessFed, opening_bodies}
use Rattle.journal_spec.specs.Whole.{HasWholeScripts, CanBeWritten}
use Rattle.journal_spec.specs.Events.{Gives}
use Rattle.journal_spec.specs.Owning.{AreOwn, AreLanded}

-- The record of a change is none that is passed over, and lands as the change itself, whose page is inside these transactions, where
-- this is told of its state.
abbrev pub IsTakenAs : Book → Change → (inside : List TxName) → Told → Type 0
IsTakenAs b c inside unread = (held b c [] ≡ Some []) × (instances_by b.scripts c [] b.instances ≡ instances_by b.scripts c inside b.instances)
IsTakenAs b c inside misread = ⊥
IsTakenAs b c inside (told d) = (held b c inside ≡ Some inside) × (inside_of d.frames ≡ inside)

-- the record of a change lands as the change itself, where its state has these bytes, after what records told earlier
abbrev pub IsTaken : Earlier → Book → Change → (state : Option (List ℕ)) → (inside : List TxName) → Type 0
IsTaken earlier b c state inside = IsTakenAs b c inside (told_in earlier b c state)

-- work that may have been done to one file would be taken, where this is told of its state; a compaction is done to another file
abbrev pub IsTakenWork : Book → Work → Told → Type 0
IsTakenWork b (landing c inside) x = IsTakenAs b c inside x
IsTakenWork b compacting x = ⊥

-- what is in doubt would be taken, where this is told of its state
abbrev pub IsTakenDoubt : Book → Option Doubt → Told → Type 0
IsTakenDoubt b None x = ⊤
IsTakenDoubt b (Some doubt) x = IsTakenWork b doubt.work x

-- a number that a change uses, if it uses one, is out
abbrev pub IsOut : Book → Option ℕ → Type 0
IsOut b None = ⊤
IsOut b (Some n) = Contains b.out n

-- a book where the number that a change uses, if it uses one, is spent
abbrev pub without_number : Option ℕ → Book → Book
without_number None b = b
without_number (Some n) b = spend n b

-- the book where a change has landed whose record's body is this long
abbrev pub landed_in : (length : ℕ) → Change → (inside : List TxName) → Book → Book
landed_in n c inside b = land (of_length n) c inside (without_number (number_in c) b)

-- this journal's lengths are those that the rules know
abbrev pub AreOver : Rules → (shelf : ℕ) → Type 0
AreOver rules shelf = rules.journal ≡ Some (journal_rules shelf)

-- What recovery gives of any bytes, and each event keeps: the book is orderly, its scripts are whole, what is in doubt would be taken,
-- whatever is told of its state, and the numbers that records told are used.
pub record IsRecoverable (b : Book) (seen : List ℕ) : Type 0 where
  pub orderly : IsOrderly b
  pub whole : HasWholeScripts b
  pub doubted : Told
  pub doubt : IsTakenDoubt b b.down doubted
  pub used : AreUsed seen b

-- the bodies of a journal make a shelf's book, which can go on, and whose setup is what its names and texts are read as, unless it follows
pub record Keeps (texts : Texts) (shelf : ℕ) (bodies : List (List ℕ)) (b : Book) : Type 0 where
  pub earlier : Earlier
  pub makes : made_in (book_of texts shelf bodies) ≡ Some (made_of b earlier)
  pub recoverable : IsRecoverable b earlier.seen
  pub read : IsReadUnlessFed texts b

-- the body of the record that a change leaves, whose new page's state has these bytes
abbrev pub body_by : Change → (state : Option (List ℕ)) → List ℕ
body_by c state = body_of (changes c state)

-- the body of the record of what an event landed in the book, with the state that its script leaves; none where it landed nothing
abbrev pub landed_bodies : Book → Option Change → List (List ℕ)
landed_bodies b None = []
landed_bodies b (Some c) = own_body b c ∷ []

-- the body of the record of the setup that an event gives, if it is told and has other names or texts than the one before
abbrev pub told_bodies : Event → Book → List (List ℕ)
told_bodies (crash scripts) b = opening_bodies scripts b
told_bodies _ b = []

-- the bodies of the records that an event leaves after those of a file, with the states that its scripts leave
abbrev pub left_bodies : Rules → Book → Event → Fate → List (List ℕ)
left_bodies rules b event fate = landed_bodies b (lands rules b event fate) ++ told_bodies event b

-- the bodies of the records that a run leaves, with the states that its scripts leave
abbrev pub bodies_left : List Moment → Book → List (List ℕ)
bodies_left [] b = []
bodies_left (m ∷ ms) b = left_bodies m.rules b m.event m.fate ++ bodies_left ms (then_book m b)

-- the event leaves the records of the file where they are: it is no compaction
abbrev pub IsAppending : Event → Type 0
IsAppending compact = ⊥
IsAppending _ = ⊤

-- a crash gives the setup of before
abbrev pub KeepsSetup : Event → Book → Type 0
KeepsSetup (crash scripts) b = scripts ≡ b.scripts
KeepsSetup _ b = ⊤

-- what an event lands, if it lands anything, can be written with the state that its script leaves
abbrev pub IsWritable : Book → Option Change → Type 0
IsWritable b None = ⊤
IsWritable b (Some c) = CanBeWritten b c

-- Each event of a run is under rules of this journal and no compaction, gives a setup that can be told, and lands what can be written.
abbrev pub AreAppended : Texts → (shelf : ℕ) → List Moment → Book → Type 0
AreAppended texts shelf [] b = ⊤
AreAppended texts shelf (m ∷ ms) b =
    AreOver m.rules shelf × IsAppending m.event × Gives texts m.event × IsWritable b (lands m.rules b m.event m.fate)
    × AreAppended texts shelf ms (then_book m b)

-- a change's record, with the state that its script leaves, is measured by its body
abbrev pub IsMeasured : Book → Change → Type 0
IsMeasured b c = record_length c (state_told b c) ≡ length (own_body b c)

-- what is told of the state of this work is the one that its script leaves, its record is measured by its body, and the shelf does not follow
abbrev pub IsOwnWork : Book → Work → Told → Type 0
IsOwnWork b (landing c inside) x = (x ≡ own_told b c) × IsMeasured b c × (b.follows ≡ false)
IsOwnWork b compacting x = ⊥

-- what is told of the state in doubt is the one that its script leaves, its record is measured by its body, and the shelf does not follow
abbrev pub IsOwnDoubt : Book → Option Doubt → Told → Type 0
IsOwnDoubt b None x = ⊤
IsOwnDoubt b (Some doubt) x = IsOwnWork b doubt.work x

-- the bodies make the book, and what is in doubt has an own state
pub record KeepsDoubt (texts : Texts) (shelf : ℕ) (bodies : List (List ℕ)) (b : Book) : Type 0 where
  pub keeps : Keeps texts shelf bodies b
  pub doubt : IsOwnDoubt b b.down keeps.recoverable.doubted

-- the bodies with more make the book; where the first have own states so have all, and where none of them is passed over none is at all
pub record KeepsWith (texts : Texts) (shelf : ℕ) (bodies more : List (List ℕ)) (b : Book) : Type 0 where
  pub keeps : KeepsDoubt texts shelf (bodies ++ more) b
  pub own : AreOwn texts shelf bodies → AreOwn texts shelf (bodies ++ more)
  pub landed : AreLanded texts shelf bodies → AreLanded texts shelf (bodies ++ more)

-- the change that an event landed, or what is in doubt in the book after it
abbrev pub at_stake : Option Change → Book → Option Change
at_stake None d = doubted d.down
at_stake (Some c) d = Some c

-- the change whose record may be in flight in an event, or after it: what it lands, or what is in doubt then
abbrev pub stake_of : Rules → Book → (nonce : ℕ) → Event → Fate → Option Change
stake_of rules b nonce event fate = at_stake (lands rules b event fate) (step rules b nonce event fate).1
