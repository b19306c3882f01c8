-- What is prepared tells no fault, and a deadline that can be told.
use Rattle.std.proofs.Common.{◌≡◌, sym, subst, List, [], Option, Some, None, Result, Ok, Err, IfOk}
use Rattle.std.specs.declared.alloc.AllocError.{AllocError}
use Rattle.script_value.specs.declared.outcome.Reply.{Reply}
use Rattle.script_value.specs.declared.outcome.TxName.{TxName}
use Rattle.replay_spec.specs.Book as spec
use Rattle.replay_spec.specs.Step as step
use Rattle.replay_spec.specs.Step.{Decision, replies, records, compacts}
use Rattle.journal_records.specs.Fields as told
use Rattle.journal_records.specs.Records.{opening_page, extension_page, TimeFits}
use Rattle.journal_records.specs.Views.{origin_of, page_of, change_with, page_change}
use Rattle.journal_records.specs.declared.records.PageRecord.{PageRecord}
use Rattle.book_visits.specs.declared.prepared.Prepared.{Prepared}
use Rattle.instance_book.specs.declared.change.Change.{Change}
use Rattle.instance_book.specs.declared.change.Change.TheVariants.{Opens, Extends, Ends, Finishes}
use Rattle.book_visits.specs.Views.{reply_of}
use Rattle.book_visits.specs.Changes.{decision_by, decision_of, HasDeadlineBy}
use Rattle.book_visits.specs.Prepares.{IsOfRun}

-- a decision tells so
abbrev pub IsTimely : Decision → Type 0
IsTimely (replies r) = IsOfRun r
IsTimely (records r (spec.opens o) inside) = IsOfRun r × TimeFits (opening_page o [])
IsTimely (records r (spec.extends x) inside) = IsOfRun r × TimeFits (extension_page x [])
IsTimely (records r _ inside) = IsOfRun r
IsTimely (compacts r) = IsOfRun r

-- so does a page
timely_page : (r : step.Reply) (inside : List TxName) (p : PageRecord) → IsTimely (records r (page_change p) inside) → IsOfRun r × TimeFits (page_of p [])
timely_page r inside p = by_origin (origin_of p.origin)
  where
    by_origin : (o : told.Origin) → IsTimely (records r (change_with o p) inside) → IsOfRun r × TimeFits (page_of p [])
    by_origin (told.start k) h = h
    by_origin (told.answered i n answer) h = h

timely_by : (r : step.Reply) (c : Option Change) → IsTimely (decision_by r c) → HasDeadlineBy c × IsOfRun r
timely_by r None h = (tt, h)
timely_by r (Some (Opens o)) h = let both = timely_page r o.page.item.inside.items o.record h in (both.1, both.0)
timely_by r (Some (Extends x)) h = let both = timely_page r x.show.page.item.inside.items x.record h in (both.1, both.0)
timely_by r (Some (Ends e)) h = (tt, h)
timely_by r (Some (Finishes f)) h = (tt, h)

-- what is prepared for one that does
pub timely : (p : Prepared) (d : Decision) → decision_of p ≡ d → IsTimely d → HasDeadlineBy p.change × IsOfRun (reply_of p.reply)
timely p d decided h = timely_by (reply_of p.reply) p.change (subst IsTimely (sym decided) h)

-- and for which room was wanted too
pub timely_if : (P : Prepared → Type 0) (made : Result Prepared AllocError) (r : Result Prepared Reply)
    → ((p : Prepared) → P p → HasDeadlineBy p.change × IsOfRun (reply_of p.reply)) → IfOk made P → IfOk r (λ p. made ≡ Ok p)
    → IfOk r (λ p. HasDeadlineBy p.change) × IfOk r (λ p. IsOfRun (reply_of p.reply))
timely_if P made (Ok p) tells has is = tells p (subst (λ (m : Result Prepared AllocError). IfOk m P) is has)
timely_if P made (Err e) tells has is = (tt, tt)
