use Rattle.std.proofs.Common.{sym, subst, ap, ◌∙◌}
use Rattle.request_workers.specs.Serving.{Serves, served_by}
use Rattle.request_workers.proofs.Told.{serves, of_link}
use Rattle.request_workers.proofs.serve.serve_one.Goals as goal

pub returns-clause-served : goal.returns-clause-served
returns-clause-served g c =
    let link = g.met.L.Link in
    let wrote = c.write_reply-written.ensures in
    let how = c.told.ensures ∙ ap (served_by c.in-Some.answer) c.is_ok.ensures.value in
    of_link (λ old new. Serves (g.A.Answering.rules c.args.answering.now) c.args.pass.now c.answer.new.pass old new c.told.result)
    _ _ _ _ _ _ _
    c.input.ensures.value
    (link.input_set _ _)
    c.output.ensures.value
    (link.output_set _ _)
    (subst (Serves _ _ _ _ _) (sym how)
    (serves _ _ _ c.in-Ok.incoming c.in-Some.answer _ _ c.write_reply-written.result
    c.in-Ok.ensures.came c.in-Some.ensures.answer
    (record { ok = wrote.ok; handed_on = wrote.handed; part = wrote.part; cause = wrote.cause })))
