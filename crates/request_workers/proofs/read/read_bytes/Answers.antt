use Rattle.std.proofs.Common.{rules, ◌≡◌, arith, subst, sym, Err}
use Rattle.request_workers.specs.Bytes.{ReadsAll}
use Rattle.http_forms.proofs.Pieces.{still_open, enough}
use Rattle.request_workers.proofs.Reading.{came_first, came_more, stopped, nearer}
use Rattle.request_workers.proofs.read.read_bytes.Goals as goal

pub loop-wanted-init : goal.loop-wanted-init
loop-wanted-init g c =
    let says = c.wanted-wanted.ensures in
    came_first _ _ c.deref.result.now _ _ _ c.requires.none c.deref.ensures.value
    (record { goes_on = says.goes_on; knows = says.knows; decided = says.decided; short = says.short })

pub returns-in_err-read_piece-clause-read : goal.returns-in_err-read_piece-clause-read
returns-in_err-read_piece-clause-read g c =
    let is : c.from_residual.result ≡ Err c.in_err-read_piece.field-0.0 = search rules in
    subst (ReadsAll _ _ _) (sym is)
    (stopped _ _ _ _ _ _ c.loop-wanted.wanted _ _ c.in_err-read_piece.field-0.0 c.loop-wanted.invariant c.loop-wanted-test.true
    c.in_err-read_piece.ensures.read)

pub loop-wanted-smaller : goal.loop-wanted-smaller
loop-wanted-smaller g c =
    nearer _ _ c.loop-wanted.bytes.items _ _ _ c.in_ok-read_piece.ensures.read c.if-branch-eq0.false
    (still_open c.loop-wanted.bytes.items c.loop-wanted.wanted c.loop-wanted.invariant.short c.loop-wanted-test.true)

pub loop-wanted-preserved : goal.loop-wanted-preserved
loop-wanted-preserved g c =
    let says = c.wanted-wanted-in-loop-wanted.ensures in
    came_more _ _ _ _ _ c.deref-in-loop-wanted.result.now _ _ _ _ _ _ _ _ c.loop-wanted.invariant c.in_ok-read_piece.ensures.read
    c.deref-in-loop-wanted.ensures.value
    (record { goes_on = says.goes_on; knows = says.knows; decided = says.decided; short = says.short })
    c.in_ok-read_piece.ensures.later

pub returns-clause-read : goal.returns-clause-read
returns-clause-read g c =
    let here = c.loop-wanted.invariant in
    (here.taken, λ e. cc, enough _ (here.decided (grind (arith, c.loop-wanted-test.false))))
