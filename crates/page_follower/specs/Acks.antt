-- The lines by which a follower acknowledges records.
use Rattle.std.specs.Prelude.{◌≡◌, ◌≤◌, ℕ, zero, suc, ◌+◌, ◌++◌, List, [], codes, refl}
use Rattle.std.specs.Fmt.{decimal}
use Rattle.std.specs.Io.KnownBytes.{Appends}
use Rattle.shelf.specs.WebOutside.Causes.{Rose}
use Rattle.shelf.specs.WebOutside.View.{SinkView}
use Rattle.shelf.specs.WebOutside.Pieces.{AppendsPart, HandsOn}

-- the line that acknowledges the record of this number, of which the first is 1
abbrev pub ack_line : ℕ → List ℕ
ack_line number = codes "ack " ++ (decimal number ++ codes "\n")

-- the lines for so many records after so many others
abbrev pub acks_behind : (done more : ℕ) → List ℕ
acks_behind done zero = []
acks_behind done (suc more) = ack_line (done + 1) ++ acks_behind (done + 1) more

-- a record was acknowledged: its line was written and handed on
pub record IsAcked (old new : SinkView) (number : ℕ) : Type 0 where
  pub written : Appends old.written new.written (ack_line number)
  pub handed : HandsOn new.written new.handed
  pub later : old.faults ≤ new.faults

-- a record was not acknowledged: its line was written in part, or not handed on
pub record IsUnacked (old new : SinkView) (number : ℕ) : Type 0 where
  pub written : AppendsPart old.written new.written (ack_line number)
  pub later : old.faults ≤ new.faults
  pub rose : Rose old.faults new.faults

-- two records after nine
two : acks_behind 9 2 ≡ ack_line 10 ++ (ack_line 11 ++ [])
two = refl
