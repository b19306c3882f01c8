-- How a feed is written, record by record.
use Rattle.std.specs.Prelude.{◌≡◌, ◌≤◌, ℕ, Bool, true, false, List}
use Rattle.std.specs.Io.KnownBytes.{Appends}
use Rattle.shelf.specs.WebOutside.Causes.{Rose}
use Rattle.shelf.specs.WebOutside.View.{SinkView}
use Rattle.shelf.specs.WebOutside.Pieces.{AppendsPart}
use Rattle.shelf.specs.PageJournal.Records.{framed}
use Rattle.page_follower.specs.declared.sender.Sender.{Sender}
use Rattle.shelf.specs.JournalRecords.Roles.{is_role}

-- what was written goes on by these bytes
pub record Writes (old new : SinkView) (bytes : List ℕ) : Type 0 where
  pub written : Appends old.written new.written bytes
  pub later : old.faults ≤ new.faults

-- what was written goes on by a part of these bytes, since a write failed
pub record WritesPart (old new : SinkView) (bytes : List ℕ) : Type 0 where
  pub written : AppendsPart old.written new.written bytes
  pub later : old.faults ≤ new.faults
  pub rose : Rose old.faults new.faults

-- what was written of these bytes: all, or a part since a write failed
abbrev pub WritesUnless : (failed : Bool) → (old new : SinkView) → (bytes : List ℕ) → Type 0
WritesUnless false old new bytes = Writes old new bytes
WritesUnless true old new bytes = WritesPart old new bytes

-- a record was sent, or in part where a write failed
abbrev pub SendsBody : (old new : SinkView) → (body : List ℕ) → (failed : Bool) → Type 0
SendsBody old new body failed = WritesUnless failed old new (framed body)

-- one record more, after writes of which one had failed or not: after one that failed nothing is written, and a record that tells whether the
-- shelf follows is in no feed
abbrev pub Sends : (failed : Bool) → (role : Bool) → (old new : SinkView) → (body : List ℕ) → (fails : Bool) → Type 0
Sends true role old new body fails = (fails ≡ true) × (new ≡ old)
Sends false true old new body fails = (fails ≡ false) × (new ≡ old)
Sends false false old new body fails = SendsBody old new body fails

-- a sender takes one record more, and goes on writing to the same sink
abbrev pub SenderTakes : {O : Type 0} → (O → SinkView) → Sender O → ℕ → List ℕ → Sender O → Type 0
SenderTakes view old place body new =
    (new.sink.ghost_name ≡ old.sink.ghost_name)
    × Sends old.failed (is_role body) (view old.sink.now) (view new.sink.now) body new.failed
