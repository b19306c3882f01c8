-- How long a record is, and what is told of one that is too long.
use Rattle.std.proofs.Common.{◌≡◌, sym, subst, refl, ℕ, ◌+◌, ◌≤◌, Bool, true, false, List, length, Option, Some, None, Err, arith}
use Rattle.std.specs.Prelude.{nat_lt}
use Rattle.std.proofs.lemmas.Bool.Decides.{nat_tests}
use Rattle.std.proofs.lemmas.Option.{same_Some}
use Rattle.script_value.specs.declared.outcome.Reply.{Reply}
use Rattle.script_value.specs.declared.outcome.Reply.TheVariants as reply
use Rattle.replay_spec.specs.Book.{Change}
use Rattle.replay_spec.specs.Admission.{when, or_else}
use Rattle.replay_spec.specs.Step as step
use Rattle.replay_spec.specs.Step.{most_of_record, most_of_journal}
use Rattle.journal_records.specs.Records.{changes, body_of, record_length}
use Rattle.book_recovery.proofs.JournalSpec.Brief.{length_short, short_measured}
use Rattle.book_visits.specs.Views.{reply_of}
use Rattle.shelf.specs.Events.{TellsCount}
use Rattle.shelf.specs.Recording.{refusal_of_size, IsShort, IsWritten}

-- a record that is short is not refused
pub not_refused : (journal size : ℕ) → IsShort journal size → refusal_of_size journal size ≡ None
not_refused journal size short =
    let one : nat_lt most_of_record size ≡ false = grind (arith, nat_tests, short.body) in
    let two : nat_lt most_of_journal (journal + (size + 5)) ≡ false = grind (arith, nat_tests, short.whole) in
    rw (one, two) refl

-- and its length is that of the body
pub size_is : (c : Change) (state : Option (List ℕ)) → record_length c state ≤ most_of_record → length (body_of (changes c state)) ≡ record_length c state
size_is c state low = sym (short_measured c state (length_short c state low))

-- the measure of a record tells no count of faults
pub size_count : (journal : ℕ) (size : ℕ) (x : Reply) (old now : ℕ) → refusal_of_size journal size ≡ Some (reply_of x) → TellsCount old now (reply_of x)
size_count journal size x old now is = by_tests (nat_lt most_of_record size) (nat_lt most_of_journal (journal + (size + 5))) (reply_of x) is
  where
    by_tests : (a b : Bool) (y : step.Reply) → or_else (when a (step.oversize size)) (when b (step.journal_full (journal + (size + 5)))) ≡ Some y → TellsCount old now y
    by_tests true b y e = subst (TellsCount old now) (same_Some (step.oversize size) y e) tt
    by_tests false true y e = subst (TellsCount old now) (same_Some (step.journal_full (journal + (size + 5))) y e) tt
    by_tests false false y e = absurd (let no : ⊥ = cc e in no)

pub unwritten_count : (journal : ℕ) (c : Change) (state : Option (List ℕ)) (x : Reply) (old now : ℕ) → IsWritten journal (changes c state) (Err x) → TellsCount old now (reply_of x)
unwritten_count journal c state (reply.Page bytes url) old now h = tt
unwritten_count journal c state (reply.Finished bytes) old now h = tt
unwritten_count journal c state (reply.Ended bytes) old now h = tt
unwritten_count journal c state (reply.Refused why) old now h = tt
unwritten_count journal c state (reply.Fault f) old now h = tt
unwritten_count journal c state (reply.Fuel cost) old now h = tt
unwritten_count journal c state (reply.ShelfFull count) old now h = tt
unwritten_count journal c state (reply.Oversize n) old now h = tt
unwritten_count journal c state (reply.JournalFull n) old now h = tt
unwritten_count journal c state (reply.DiskFault count) old now h = size_count journal (record_length c state) (reply.DiskFault count) old now h
unwritten_count journal c state (reply.Down count) old now h = tt
unwritten_count journal c state reply.Following old now h = tt
unwritten_count journal c state reply.Worn old now h = tt
unwritten_count journal c state reply.Memory old now h = tt
