use Rattle.std.proofs.Common.{◌≡◌, rules, Err}
use Rattle.wire_bytes.specs.Reading.{read_count}
use Rattle.value_bytes.specs.declared.unread.Unread.TheVariants.{Misspelled}
use Rattle.value_bytes.specs.Reading.{read_within, read_list}
use Rattle.value_bytes.proofs.Counts.{uncounted, no_values}
use Rattle.value_bytes.proofs.read.+values.Goals as goal

pub list_within-returns-in_err-count-clause-read : goal.list_within-returns-in_err-count-clause-read
list_within-returns-in_err-count-clause-read t c =
    let bytes = c.args.cursor.now in
    let told : c.from_residual.result ≡ Err Misspelled = search rules in
    uncounted (λ vs. vs) c.in_err-count.field-0.0 (read_count bytes) (read_list (read_within c.args.levels) bytes) c.from_residual.result c.count.new.cursor
    c.in_err-count.ensures.fault c.in_err-count.ensures.read (no_values c.args.levels bytes c.count.ensures.bytes) told
