use Rattle.std.proofs.Common.{◌≡◌, rules, Err}
use Rattle.wire_bytes.specs.Reading.{read_count}
use Rattle.value_bytes.specs.declared.unread.Unread.TheVariants.{Misspelled}
use Rattle.value_bytes.proofs.Counts.{uncounted}
use Rattle.frame_codec.specs.Views.{frames_of}
use Rattle.frame_codec.specs.Reading.{read_frames}
use Rattle.frame_codec.proofs.Counts.{no_frames}
use Rattle.frame_codec.proofs.read.read_frames.Goals as goal

pub returns-in_err-count-clause-read : goal.returns-in_err-count-clause-read
returns-in_err-count-clause-read c =
    let bytes = c.args.cursor.now in
    let told : c.from_residual.result ≡ Err Misspelled = search rules in
    uncounted frames_of c.in_err-count.field-0.0 (read_count bytes) (read_frames c.args.script.now bytes) c.from_residual.result c.count.new.cursor
    c.in_err-count.ensures.fault c.in_err-count.ensures.read (no_frames c.args.script.now bytes c.count.ensures.bytes) told
