use Rattle.std.proofs.Common.{◌≡◌, rules, Err}
use Rattle.wire_bytes.specs.Reading.{read_count}
use Rattle.value_bytes.specs.declared.unread.Unread.TheVariants.{Misspelled}
use Rattle.value_bytes.specs.Reading.{read_list}
use Rattle.value_bytes.proofs.Counts.{uncounted}
use Rattle.journal_records.specs.Reading.{read_number}
use Rattle.journal_records.proofs.Counts.{no_pages}
use Rattle.journal_records.proofs.decoding.pages.Goals as goal

pub returns-in_err-count-clause-read : goal.returns-in_err-count-clause-read
returns-in_err-count-clause-read c =
    let bytes = c.args.cursor.now in
    let told : c.from_residual.result ≡ Err Misspelled = search rules in
    uncounted (λ v. v.items) c.in_err-count.field-0.0 (read_count bytes) (read_list read_number bytes) c.from_residual.result c.count.new.cursor
    c.in_err-count.ensures.fault c.in_err-count.ensures.read (no_pages bytes c.count.ensures.bytes) told
