use Rattle.std.proofs.Common.{arith, rules}
use Rattle.std.proofs.lemmas.Bool.Decides.{nat_tests}
use Rattle.http_forms.specs.declared.reader.Incoming.TheVariants as incoming
use Rattle.http_forms.specs.declared.reader.ReadStop.TheVariants as stop
use Rattle.request_workers.proofs.Turns.{answered, refuses, idles, read_fails, read_lacks, tick_lacks, skips_kept, swept_all, swept_none, next_is, stop_is}
use Rattle.request_workers.proofs.link.take_request.Goals as goal

pub returns-in-Ok-Visit-clause-turn : goal.returns-in-Ok-Visit-clause-turn
returns-in-Ok-Visit-clause-turn g c =
    answered _ _ c.args.left _ _ _ _ _ _ _ _ _ _ _ _ c.in-Ok-Visit.request _ _
    (swept_all _ _ _ _ _ c.if-sweep.true c.sweep.ensures.swept)
    c.input.ensures.value (g.met.L.Link.input_set _ _)
    (next_is _ _ _ _ _ _ c.in-Ok-Visit.field-0-is c.in-Ok-Visit.ensures.next)
    (grind (arith, nat_tests, c.requires.some)) c.answer_request.ensures.answered

pub returns-in-Ok-Visit-clause-ticked : goal.returns-in-Ok-Visit-clause-ticked
returns-in-Ok-Visit-clause-ticked g c =
    skips_kept (g.A.Answering.rules c.args.answering.now) c.sweep.new.pass c.answer_request.new.pass c.sweep.new.ticked
    c.sweep.ensures.ticked c.answer_request.ensures.skips

pub returns-in-Ok-Refused-clause-turn : goal.returns-in-Ok-Refused-clause-turn
returns-in-Ok-Refused-clause-turn g c =
    refuses _ _ c.args.left _ _ _ c.next.new.self.bytes.items _ _ _ _ _ _ c.in-Ok-Refused.reason _
    (swept_all _ _ _ _ _ c.if-sweep.true c.sweep.ensures.swept)
    c.input.ensures.value (g.met.L.Link.input_set _ _)
    (next_is _ _ _ _ _ _ c.in-Ok-Refused.field-0-is c.in-Ok-Refused.ensures.next)
    c.refuse.ensures.refused

pub returns-in-Ok-Nothing-clause-turn : goal.returns-in-Ok-Nothing-clause-turn
returns-in-Ok-Nothing-clause-turn g c =
    let next = next_is _ _ _ _ _ incoming.Nothing c.in-Ok-Nothing.field-0-is c.in-Ok-Nothing.ensures.next in
    idles _ _ c.args.left _ _ _ c.next.new.self.bytes.items _ _ _ _ _
    (swept_all _ _ _ _ _ c.if-sweep.true c.sweep.ensures.swept)
    c.input.ensures.value (g.met.L.Link.input_set _ _) next.0 next.1 next.2

pub returns-in-Err-Failed-clause-turn : goal.returns-in-Err-Failed-clause-turn
returns-in-Err-Failed-clause-turn g c =
    let next = stop_is _ _ _ _ _ stop.Failed c.in-Err-Failed.field-0-is c.in-Err-Failed.ensures.next in
    read_fails _ _ c.args.left _ _ _ c.next.new.self.bytes.items _ _ _ _ _
    (swept_all _ _ _ _ _ c.if-sweep.true c.sweep.ensures.swept)
    c.input.ensures.value (g.met.L.Link.input_set _ _) next.0 next.1 (c.in-Err-Failed.ensures.failed (search rules))

pub returns-in-Err-Memory-clause-turn : goal.returns-in-Err-Memory-clause-turn
returns-in-Err-Memory-clause-turn g c =
    let next = stop_is _ _ _ _ _ stop.Memory c.in-Err-Memory.field-0-is c.in-Err-Memory.ensures.next in
    read_lacks _ _ c.args.left _ _ _ c.next.new.self.bytes.items _ _ _ _ _ _
    (swept_all _ _ _ _ _ c.if-sweep.true c.sweep.ensures.swept)
    c.input.ensures.value (g.met.L.Link.input_set _ _) next.1

pub returns-else-sweep-clause-turn : goal.returns-else-sweep-clause-turn
returns-else-sweep-clause-turn g c =
    tick_lacks _ _ c.args.left _ _ _ c.args.reader.now.bytes.items _ _ (swept_none _ _ _ _ _ c.if-sweep.false c.sweep.ensures.swept)
