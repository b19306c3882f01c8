use Rattle.book_redo.proofs.ToldState.{form_fits, form_read_if}
use Rattle.book_redo.proofs.stored.read_form.Goals as goal

pub decode_form-requires : goal.decode_form-requires
decode_form-requires c = form_fits c.args.behind.now c.before-2.result c.root-root.ensures.script c.requires c.before-2.ensures

pub returns : goal.returns
returns c =
    form_read_if c.args.behind.now c.before-2.result c.args.bytes.now c.decode_form.result c.root-root.ensures.script c.before-2.ensures c.decode_form.ensures
