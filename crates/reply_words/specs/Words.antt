-- What a reply says, however it is printed or sent.
use Rattle.std.specs.Prelude.{ℕ, List, codes}
use Rattle.script_value.specs.declared.outcome.Fault.{Fault}
use Rattle.script_value.specs.declared.outcome.Fault.TheVariants as faults
use Rattle.script_value.specs.declared.outcome.Refusal.{Refusal}
use Rattle.script_value.specs.declared.outcome.Refusal.TheVariants as refusals
use Rattle.script_value.specs.declared.outcome.Reply.{Reply}
use Rattle.script_value.specs.declared.outcome.Reply.TheVariants as reply
use Rattle.reply_words.specs.declared.status.ReplyStatus.{ReplyStatus}
use Rattle.reply_words.specs.declared.status.ReplyStatus.TheVariants.{NotFound, Gone, InternalServerError, ServiceUnavailable}

-- the number of a status
abbrev pub status_number : ReplyStatus → ℕ
status_number NotFound = 404
status_number Gone = 410
status_number InternalServerError = 500
status_number ServiceUnavailable = 503

-- a page, or a status and a word
pub data Told : Type 0 where
  page : List ℕ → Told
  word : ReplyStatus → List ℕ → Told

-- the word of a script's own fault
abbrev pub fault_word : Fault → List ℕ
fault_word faults.WrongType = codes "type"
fault_word faults.Overflow = codes "overflow"
fault_word faults.Zero = codes "zero"
fault_word faults.Bounds = codes "bounds"
fault_word faults.Deep = codes "deep"
fault_word faults.Binding = codes "binding"
fault_word faults.NotPage = codes "page"

-- what is said of a target that is not admitted
abbrev pub refusal_told : Refusal → Told
refusal_told refusals.Unknown = word NotFound (codes "unknown")
refusal_told refusals.Revoked = word Gone (codes "revoked")
refusal_told (refusals.Closed name) = word Gone (codes "closed")
refusal_told (refusals.Evicted successor) = word Gone (codes "evicted")
refusal_told (refusals.Expired deadline) = word Gone (codes "expired")

-- what a reply says
abbrev pub told : Reply → Told
told (reply.Page bytes url) = page bytes
told (reply.Finished bytes) = page bytes
told (reply.Ended bytes) = page bytes
told (reply.Refused refusal) = refusal_told refusal
told (reply.Fault fault) = word InternalServerError (fault_word fault)
told (reply.Fuel cost) = word ServiceUnavailable (codes "fuel")
told (reply.ShelfFull count) = word ServiceUnavailable (codes "shelf-full")
told (reply.Oversize size) = word InternalServerError (codes "oversize")
told (reply.JournalFull size) = word ServiceUnavailable (codes "journal-full")
told (reply.DiskFault count) = word ServiceUnavailable (codes "disk")
told (reply.Down count) = word ServiceUnavailable (codes "down")
told reply.Following = word ServiceUnavailable (codes "following")
told reply.Worn = word ServiceUnavailable (codes "worn")
told reply.Memory = word ServiceUnavailable (codes "memory")
