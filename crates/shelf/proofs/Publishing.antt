-- What a publish comes to, by what is prepared for it and by its record.
use Rattle.std.proofs.Common.{◌≡◌, ◌∙◌, ap, sym, subst, refl, ℕ, List, Option, Some, None, IfSome, Result, Ok, Err}
use Rattle.script_value.specs.declared.outcome.Refusal.{Refusal}
use Rattle.script_value.specs.declared.outcome.TxName.{TxName}
use Rattle.script_value.specs.declared.outcome.Reply.{Reply}
use Rattle.script_value.specs.declared.outcome.Reply.TheVariants as reply
use Rattle.script_nodes.specs.Setup.{Library}
use Rattle.page_names.specs.Names.{Destination}
use Rattle.replay_spec.specs.Book.{Change, Book, spend}
use Rattle.replay_spec.specs.Admission.{or_else, refusal_of, admit}
use Rattle.replay_spec.specs.Step as step
use Rattle.replay_spec.specs.Step.{Decision, replies, records, compacts, publish_comes}
use Rattle.journal_records.specs.Records.{changes, record_length}
use Rattle.book_recovery.specs.JournalSpec.Lengths.{state_told}
use Rattle.book_recovery.specs.InstanceBook.declared.change.Change.{Change as RustChange}
use Rattle.book_visits.specs.declared.prepared.Prepared.{Prepared}
use Rattle.book_visits.specs.declared.ticket.Ticket.{Ticket}
use Rattle.book_visits.specs.Views.{ticket_of, reply_of}
use Rattle.book_recovery.specs.InstanceBook.Changes.{change_of, inside_of}
use Rattle.book_visits.specs.Changes.{decision_by}
use Rattle.book_visits.specs.Prepares.{IsRecord, IsCarriedOut, Prepares}
use Rattle.shelf.specs.declared.rules.Rules as limits_of
use Rattle.shelf.specs.Views.{unmeasured, rules_of, fate_by}
use Rattle.shelf.specs.Preparing.{Decides, TellsOfRun}
use Rattle.shelf.specs.Events.{TellsReply, TellsCount, no_publish}
use Rattle.shelf.specs.Recording.{refusal_of_size, IsWritten}
use Rattle.shelf.proofs.Steps.{IsBar, Comes, replied, wanting, told_same, too_long}

module _ (l : Library) (r : limits_of.Rules) (b : Book) (t : Ticket) where
  abbrev before : Decision
  before = publish_comes (unmeasured r) b (ticket_of t)

  abbrev Answers : Reply → Type 0
  Answers x = Comes (rules_of r) b (step.publish (ticket_of t)) (fate_by (reply_of x)) (reply_of x) (spend t.number b) None

  pub told : (x : Reply) → before ≡ replies (reply_of x) → Answers x
  told x is = replied r b (ticket_of t) (reply_of x) (told_same r b (ticket_of t) (reply_of x) is)

  -- a refusal, or want of memory
  pub answered : (x : Reply) → Decides l (unmeasured r) b before (Err x) → Answers x
  answered (reply.Page bytes url) h = told (reply.Page bytes url) h
  answered (reply.Finished bytes) h = told (reply.Finished bytes) h
  answered (reply.Ended bytes) h = told (reply.Ended bytes) h
  answered (reply.Refused why) h = told (reply.Refused why) h
  answered (reply.Fault f) h = told (reply.Fault f) h
  answered (reply.Fuel cost) h = told (reply.Fuel cost) h
  answered (reply.ShelfFull count) h = told (reply.ShelfFull count) h
  answered (reply.Oversize n) h = told (reply.Oversize n) h
  answered (reply.JournalFull n) h = told (reply.JournalFull n) h
  answered (reply.DiskFault count) h = told (reply.DiskFault count) h
  answered (reply.Down count) h = told (reply.Down count) h
  answered reply.Following h = told reply.Following h
  answered reply.Worn h = told reply.Worn h
  answered reply.Memory h = wanting r b (ticket_of t)

  -- a change whose record is not written
  module _ (x : step.Reply) (c : Change) (inside : List TxName) (is : before ≡ records x c inside) where
    long : (y : Reply) → refusal_of_size b.length (record_length c (state_told b c)) ≡ Some (reply_of y) → Answers y
    long y h = replied r b (ticket_of t) (reply_of y) (too_long r b (ticket_of t) x (reply_of y) c inside is h)

    pub unwritten : (y : Reply) → IsWritten b.length (changes c (state_told b c)) (Err y) → Answers y
    unwritten (reply.Page bytes url) h = long (reply.Page bytes url) h
    unwritten (reply.Finished bytes) h = long (reply.Finished bytes) h
    unwritten (reply.Ended bytes) h = long (reply.Ended bytes) h
    unwritten (reply.Refused why) h = long (reply.Refused why) h
    unwritten (reply.Fault f) h = long (reply.Fault f) h
    unwritten (reply.Fuel cost) h = long (reply.Fuel cost) h
    unwritten (reply.ShelfFull count) h = long (reply.ShelfFull count) h
    unwritten (reply.Oversize n) h = long (reply.Oversize n) h
    unwritten (reply.JournalFull n) h = long (reply.JournalFull n) h
    unwritten (reply.DiskFault count) h = long (reply.DiskFault count) h
    unwritten (reply.Down count) h = long (reply.Down count) h
    unwritten reply.Following h = long reply.Following h
    unwritten reply.Worn h = long reply.Worn h
    unwritten reply.Memory h = wanting r b (ticket_of t)

-- what is carried out
module _ (l : Library) (r : limits_of.Rules) (b : Book) (d : Decision) (p : Prepared) (carried : IsCarriedOut l (unmeasured r) b d p) where
  pub replies_is : p.change ≡ None → d ≡ replies (reply_of p.reply)
  replies_is none = sym carried.decision ∙ ap (decision_by (reply_of p.reply)) none

  pub records_is : (c : RustChange) → p.change ≡ Some c → d ≡ records (reply_of p.reply) (change_of c) (inside_of c)
  records_is c some = sym carried.decision ∙ ap (decision_by (reply_of p.reply)) some

  -- what changes nothing is told
  pub told_none : p.change ≡ None → TellsReply d (reply_of p.reply)
  told_none none = subst (λ (e : Decision). TellsReply e (reply_of p.reply)) (sym (replies_is none)) refl

  pub told_some : (c : RustChange) (x : step.Reply) → p.change ≡ Some c → TellsReply d x
  told_some c x some = subst (λ (e : Decision). TellsReply e x) (sym (records_is c some)) tt

-- what a refusal is told as
told_as : (d : Decision) (x : step.Reply) → d ≡ replies x → TellsReply d x
told_as d x h = subst (λ (e : Decision). TellsReply e x) (sym h) refl

told_wanting : (d : Decision) (x : step.Reply) → IsRecord d → TellsReply d x
told_wanting (replies y) x h = absurd h
told_wanting (records y c inside) x h = tt
told_wanting (compacts y) x h = absurd h

pub told_answered : (l : Library) (r : limits_of.Rules) (b : Book) (d : Decision) (x : Reply) → Prepares l (unmeasured r) b d (Err x) → TellsReply d (reply_of x)
told_answered l r b d (reply.Page bytes url) h = told_as d _ h
told_answered l r b d (reply.Finished bytes) h = told_as d _ h
told_answered l r b d (reply.Ended bytes) h = told_as d _ h
told_answered l r b d (reply.Refused why) h = told_as d _ h
told_answered l r b d (reply.Fault f) h = told_as d _ h
told_answered l r b d (reply.Fuel cost) h = told_as d _ h
told_answered l r b d (reply.ShelfFull count) h = told_as d _ h
told_answered l r b d (reply.Oversize n) h = told_as d _ h
told_answered l r b d (reply.JournalFull n) h = told_as d _ h
told_answered l r b d (reply.DiskFault count) h = told_as d _ h
told_answered l r b d (reply.Down count) h = told_as d _ h
told_answered l r b d reply.Following h = told_as d _ h
told_answered l r b d reply.Worn h = told_as d _ h
told_answered l r b d reply.Memory h = told_wanting d _ h

-- why a publish is refused before its segment is looked at
pub free_refusal : (b : Book) (x : Destination) → step.barred b ≡ None → no_publish b x ≡ step.refused_by (refusal_of (admit b x))
free_refusal b x free = ap (λ (o : Option step.Reply). or_else o (step.refused_by (refusal_of (admit b x)))) free

pub barred_refusal : (b : Book) (x : Destination) (r : step.Reply) → step.barred b ≡ Some r → no_publish b x ≡ Some r
barred_refusal b x r is = ap (λ (o : Option step.Reply). or_else o (step.refused_by (refusal_of (admit b x)))) is

-- it is told where it was found, and there is none where something was prepared
pub refused_ok : (o : Option Refusal) (result : Result Prepared Reply) (p : Prepared) → IfSome o (λ r. result ≡ Err (reply.Refused r)) → result ≡ Ok p → o ≡ None
refused_ok None result p h e = refl
refused_ok (Some r) result p h e = absurd (let no : ⊥ = cc in no)

pub refused_err : (o : Option Refusal) (result : Result Prepared Reply) (x : Reply) → IfSome o (λ r. result ≡ Err (reply.Refused r)) → result ≡ Err x
    → IfSome (step.refused_by o) (λ r. reply_of x ≡ r)
refused_err None result x h e = tt
refused_err (Some r) result x h e =
    let same : x ≡ reply.Refused r = cc in ap reply_of same

pub not_refused_by : (o : Option Refusal) → step.refused_by o ≡ None → o ≡ None
not_refused_by None h = refl
not_refused_by (Some r) h = absurd (let no : ⊥ = cc in no)

pub same_error : (r : Result Prepared Reply) (x y : Reply) → r ≡ Err x → r ≡ Err y → x ≡ y
same_error r x y e f = cc (e, f)

-- what a run comes to tells no count of faults, and no want of memory
pub no_count : (x : Reply) (old now : ℕ) → TellsOfRun (Err x) → TellsCount old now (reply_of x)
no_count (reply.Page bytes url) old now h = tt
no_count (reply.Finished bytes) old now h = tt
no_count (reply.Ended bytes) old now h = tt
no_count (reply.Refused why) old now h = tt
no_count (reply.Fault f) old now h = tt
no_count (reply.Fuel cost) old now h = tt
no_count (reply.ShelfFull count) old now h = tt
no_count (reply.Oversize n) old now h = tt
no_count (reply.JournalFull n) old now h = tt
no_count (reply.DiskFault count) old now h = absurd (let no : ⊥ = cc h in no)
no_count (reply.Down count) old now h = tt
no_count reply.Following old now h = tt
no_count reply.Worn old now h = tt
no_count reply.Memory old now h = tt

pub plain_count : (x : Reply) (old now : ℕ) → fate_by (reply_of x) ≡ step.plain → TellsCount old now (reply_of x)
plain_count (reply.Page bytes url) old now h = tt
plain_count (reply.Finished bytes) old now h = tt
plain_count (reply.Ended bytes) old now h = tt
plain_count (reply.Refused why) old now h = tt
plain_count (reply.Fault f) old now h = tt
plain_count (reply.Fuel cost) old now h = tt
plain_count (reply.ShelfFull count) old now h = tt
plain_count (reply.Oversize n) old now h = tt
plain_count (reply.JournalFull n) old now h = tt
plain_count (reply.DiskFault count) old now h = absurd (let no : ⊥ = cc h in no)
plain_count (reply.Down count) old now h = tt
plain_count reply.Following old now h = tt
plain_count reply.Worn old now h = tt
plain_count reply.Memory old now h = tt

-- nor does what bars a shelf
pub bar_count : (x : Reply) (old now : ℕ) → IsBar (reply_of x) → TellsCount old now (reply_of x)
bar_count (reply.Down count) old now h = tt
bar_count reply.Following old now h = tt
bar_count x old now h = absurd h

pub bar_plain : (x : Reply) → IsBar (reply_of x) → fate_by (reply_of x) ≡ step.plain
bar_plain (reply.Down count) h = refl
bar_plain reply.Following h = refl
bar_plain x h = absurd h

pub not_wanting : (x : Reply) → fate_by (reply_of x) ≡ step.plain → x ≡ reply.Memory → ⊥
not_wanting x plain e = let fate : step.no_memory ≡ step.plain = ap (λ (y : Reply). fate_by (reply_of y)) (sym e) ∙ plain in cc fate
