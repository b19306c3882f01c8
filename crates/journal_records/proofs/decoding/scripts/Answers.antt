use Rattle.journal_records.specs.Views.{script_of}
use Rattle.journal_records.specs.Reading.{read_script}
use Rattle.journal_records.proofs.Chains.{pushed}
use Rattle.std.proofs.Common.{◌≡◌, rules, Err}
use Rattle.wire_bytes.specs.Reading.{read_count}
use Rattle.value_bytes.specs.declared.unread.Unread.TheVariants.{Misspelled}
use Rattle.value_bytes.proofs.Counts.{uncounted}
use Rattle.journal_records.specs.Views.{texts_in}
use Rattle.value_bytes.specs.Reading.{read_list}
use Rattle.journal_records.proofs.Counts.{no_scripts}
use Rattle.journal_records.proofs.decoding.scripts.Goals as goal

pub loop-turn-preserved : goal.loop-turn-preserved
loop-turn-preserved c =
    pushed script_of read_script c.in_ok-count.count c.loop-turn.turn c.loop-turn.scripts.items c.push.new.self.items c.in_ok-script.script c.loop-turn.cursor c.script.new.cursor _
    c.in_ok-push.ensures.items c.loop-turn-test.true c.in_ok-script.ensures c.loop-turn.invariant

pub returns-in_err-count-clause-read : goal.returns-in_err-count-clause-read
returns-in_err-count-clause-read c =
    let bytes = c.args.cursor.now in
    let told : c.from_residual.result ≡ Err Misspelled = search rules in
    uncounted texts_in c.in_err-count.field-0.0 (read_count bytes) (read_list read_script bytes) c.from_residual.result c.count.new.cursor
    c.in_err-count.ensures.fault c.in_err-count.ensures.read (no_scripts bytes c.count.ensures.bytes) told
