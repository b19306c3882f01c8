use Rattle.std.proofs.Common.{codes, refl, ◌∙◌, ap, ◌||◌, Bool}
use Rattle.http_forms.proofs.Values.{says_one, says_same}
use Rattle.http_forms.proofs.fields.says_close.Goals as goal
use Rattle.http_forms.proofs.fields.says_close.Goals.{then-same_letters, else-same_letters}

pub loop-header-preserved : goal.loop-header-preserved
loop-header-preserved c = elim c.if-same_letters.branch [
  | then-same_letters w ↦
      says_one (codes "Connection") _ _ _ c.args.lines.now c.args.headers.now c.loop-header.header-index _ c.loop-header.says c.if-same_letters.says c.loop-header-test.true
      c.of.ensures w.of-then-same_letters.ensures refl w.if-same_letters.ensures c.loop-header.invariant
      (w.says-is ∙ ap (λ (b : Bool). c.loop-header.says || b) w.has_close-says.ensures)
  | else-same_letters w ↦
      w.says-is ∙ says_same (codes "Connection") _ _ c.args.lines.now c.args.headers.now c.loop-header.header-index _ c.loop-header.says c.loop-header-test.true
      c.of.ensures refl w.if-same_letters.ensures c.loop-header.invariant
]
