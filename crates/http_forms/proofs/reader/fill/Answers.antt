use Rattle.std.proofs.Common.{rules, ◌≡◌, arith, subst, sym, Err}
use Rattle.http_forms.specs.Reader.{Fills}
use Rattle.http_forms.proofs.Pieces.{came_first, came_more, stopped, still_open, more_is_due, nearer, enough}
use Rattle.http_forms.proofs.reader.fill.Goals as goal

pub loop-wanted-init : goal.loop-wanted-init
loop-wanted-init g c =
    let says = c.wanted-wanted.ensures in
    came_first _ _ c.deref.result.now _ _ _ c.deref.ensures.value
    (record { goes_on = says.goes_on; knows = says.knows; decided = says.decided; short = says.short })

pub returns-in_err-read_more-clause-read : goal.returns-in_err-read_more-clause-read
returns-in_err-read_more-clause-read g c =
    let is : c.from_residual.result ≡ Err c.in_err-read_more.field-0.0 = search rules in
    subst (Fills _ _ _ _) (sym is)
    (stopped _ _ _ _ _ _ _ c.loop-wanted.wanted _ _ c.in_err-read_more.field-0.0 c.loop-wanted.invariant c.loop-wanted-test.true
    c.in_err-read_more.ensures.read)

pub returns-in_err-read_more-clause-prompt : goal.returns-in_err-read_more-clause-prompt
returns-in_err-read_more-clause-prompt g c =
    let here = c.loop-wanted.invariant in
    more_is_due _ _ _ _ c.loop-wanted.bytes.items here.got
    (still_open c.loop-wanted.bytes.items c.loop-wanted.wanted here.says.short c.loop-wanted-test.true)

pub loop-wanted-smaller : goal.loop-wanted-smaller
loop-wanted-smaller g c =
    nearer _ _ c.loop-wanted.bytes.items _ _ c.in_ok-read_more.ensures.read c.if-branch-eq0.false
    (still_open c.loop-wanted.bytes.items c.loop-wanted.wanted c.loop-wanted.invariant.says.short c.loop-wanted-test.true)

pub loop-wanted-preserved : goal.loop-wanted-preserved
loop-wanted-preserved g c =
    let says = c.wanted-wanted-in-loop-wanted.ensures in
    came_more _ _ _ _ _ _ c.deref-in-loop-wanted.result.now _ _ _ _ _ _ _ _ c.loop-wanted.invariant c.loop-wanted-test.true
    c.in_ok-read_more.ensures.read c.deref-in-loop-wanted.ensures.value
    (record { goes_on = says.goes_on; knows = says.knows; decided = says.decided; short = says.short })
    c.in_ok-read_more.ensures.later

pub returns-clause-read : goal.returns-clause-read
returns-clause-read g c =
    let here = c.loop-wanted.invariant in
    (here.got, λ e. cc, enough _ (here.says.decided (grind (arith, c.loop-wanted-test.false))))
