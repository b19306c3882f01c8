use Rattle.std.proofs.Common.{◌∙◌, sym}
use Rattle.script_nodes.specs.Views.{scripts_of, library_of}
use Rattle.shelf.proofs.Setups.{not_same}
use Rattle.shelf.proofs.present.is_present.Goals as goal

pub returns-then-present-len : goal.returns-then-present-len
returns-then-present-len c =
    sym (not_same (scripts_of c.args.setup.now) (library_of c.args.library.now).setup (λ e. c.if-present-len.true (c.present.ensures ∙ (sym e ∙ sym c.len.ensures))))
