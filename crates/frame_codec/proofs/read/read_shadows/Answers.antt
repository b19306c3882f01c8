use Rattle.std.proofs.Common.{◌∙◌}
use Rattle.web_cells.specs.Views.{pair_of}
use Rattle.frame_codec.specs.Reading.{read_shadow}
use Rattle.frame_codec.proofs.Turns.{one_kept}
use Rattle.std.proofs.Common.{◌≡◌, rules, Err}
use Rattle.wire_bytes.specs.Reading.{read_count}
use Rattle.value_bytes.specs.declared.unread.Unread.TheVariants.{Misspelled}
use Rattle.value_bytes.proofs.Counts.{uncounted}
use Rattle.frame_codec.specs.Views.{shadows_of}
use Rattle.frame_codec.specs.Reading.{read_shadows}
use Rattle.frame_codec.proofs.Counts.{no_shadows}
use Rattle.frame_codec.proofs.read.read_shadows.Goals as goal

pub loop-turn-preserved : goal.loop-turn-preserved
loop-turn-preserved c =
    one_kept pair_of read_shadow c.in_ok-count.count c.loop-turn.turn c.loop-turn.shadows.items c.push.new.self.items c.in_ok-shadow.shadow
    c.loop-turn.cursor c.read_shadow.new.cursor c.in_ok-push.ensures.items c.loop-turn-test.true c.in_ok-shadow.ensures
    ∙ c.loop-turn.invariant

pub returns-in_err-count-clause-read : goal.returns-in_err-count-clause-read
returns-in_err-count-clause-read c =
    let bytes = c.args.cursor.now in
    let told : c.from_residual.result ≡ Err Misspelled = search rules in
    uncounted shadows_of c.in_err-count.field-0.0 (read_count bytes) (read_shadows bytes) c.from_residual.result c.count.new.cursor
    c.in_err-count.ensures.fault c.in_err-count.ensures.read (no_shadows bytes c.count.ensures.bytes) told
