use Rattle.instance_cells.specs.Views.{effect_of}
use Rattle.journal_records.specs.Reading.{read_effect}
use Rattle.journal_records.proofs.Chains.{pushed}
use Rattle.std.proofs.Common.{◌≡◌, rules, Err}
use Rattle.wire_bytes.specs.Reading.{read_count}
use Rattle.value_bytes.specs.declared.unread.Unread.TheVariants.{Misspelled}
use Rattle.value_bytes.proofs.Counts.{uncounted}
use Rattle.std.proofs.Common.{map}
use Rattle.journal_records.specs.Reading.{read_effects}
use Rattle.journal_records.proofs.Counts.{no_effects}
use Rattle.journal_records.proofs.decoding.effects.Goals as goal

pub loop-turn-preserved : goal.loop-turn-preserved
loop-turn-preserved c =
    pushed effect_of read_effect c.in_ok-count.count c.loop-turn.turn c.loop-turn.effects.items c.push.new.self.items c.in_ok-effect.effect c.loop-turn.cursor c.effect.new.cursor _
    c.in_ok-push.ensures.items c.loop-turn-test.true c.in_ok-effect.ensures c.loop-turn.invariant

pub returns-in_err-count-clause-read : goal.returns-in_err-count-clause-read
returns-in_err-count-clause-read c =
    let bytes = c.args.cursor.now in
    let told : c.from_residual.result ≡ Err Misspelled = search rules in
    uncounted (λ v. map effect_of v.items) c.in_err-count.field-0.0 (read_count bytes) (read_effects bytes) c.from_residual.result c.count.new.cursor
    c.in_err-count.ensures.fault c.in_err-count.ensures.read (no_effects bytes c.count.ensures.bytes) told
