-- What the program's tickets and replies stand for in the definitions.
use Rattle.std.specs.Prelude.{◌≡◌, ℕ}
use Rattle.script_value.specs.Views.{meaning}
use Rattle.script_value.specs.declared.outcome.Reply.{Reply}
use Rattle.script_value.specs.declared.outcome.Reply.TheVariants as reply
use Rattle.script_value.specs.declared.value.Value.{Value}
use Rattle.page_names.specs.Views.{target_of}
use Rattle.page_names.specs.declared.names.Target.{Target}
use Rattle.replay_spec.specs.Next as next
use Rattle.replay_spec.specs.Step as step
use Rattle.book_visits.specs.declared.ticket.Ticket.{Ticket}

-- the ticket that the program's ticket stands for
abbrev pub ticket_of : Ticket → next.Ticket
ticket_of t = record { target = target_of t.target; answer = meaning t.answer; number = t.number; nonce = t.nonce }

-- the ticket of a take
abbrev pub ticket_for : Target → Value → (number nonce : ℕ) → next.Ticket
ticket_for target answer number nonce =
    record { target = target_of target; answer = meaning answer; number = number; nonce = nonce }

-- a ticket is for this target and answer, with this number and nonce
abbrev pub IsTicketFor : Target → Value → (number nonce : ℕ) → Ticket → Type 0
IsTicketFor target answer number nonce t = ticket_of t ≡ ticket_for target answer number nonce

-- the reply that the program's reply stands for
abbrev pub reply_of : Reply → step.Reply
reply_of (reply.Page bytes url) = step.shown bytes url
reply_of (reply.Finished bytes) = step.finished bytes
reply_of (reply.Ended bytes) = step.ended bytes
reply_of (reply.Refused r) = step.refusal r
reply_of (reply.Fault f) = step.fault f
reply_of (reply.Fuel cost) = step.out_of_fuel cost
reply_of (reply.ShelfFull count) = step.shelf_full count
reply_of (reply.Oversize length) = step.oversize length
reply_of (reply.JournalFull length) = step.journal_full length
reply_of (reply.DiskFault count) = step.disk_failed count
reply_of (reply.Down count) = step.down count
reply_of reply.Following = step.following
reply_of reply.Worn = step.worn
reply_of reply.Memory = step.memory
