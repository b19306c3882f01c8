use Rattle.value_bytes.proofs.Numbers.{utf8_is_read, no_utf8_is_read}
use Rattle.value_bytes.proofs.fields.text.Goals as goal

pub returns-in_ok-from_str-in-Ok : goal.returns-in_ok-from_str-in-Ok
returns-in_ok-from_str-in-Ok c =
    let read = utf8_is_read c.args.cursor.now c.in_ok-bytes.bytes.now c.string.new.cursor c.in_ok-bytes.ensures c.in-Ok.ensures.cases.1 in
    cc (read, c.in-Ok.ensures.cases.0, c.new.ensures, c.in_ok-from_str-in-Ok.ensures.ok)

pub returns-in-Err : goal.returns-in-Err
returns-in-Err c =
    no_utf8_is_read c.args.cursor.now c.in_ok-bytes.bytes.now c.string.new.cursor c.in_ok-bytes.ensures c.in-Err.ensures.cases.0
