use Rattle.std.proofs.Common.{sym, ◌∙◌}
use Rattle.page_names.specs.Views.{name_of}
use Rattle.script_nodes.specs.Setup.{has_name}
use Rattle.script_nodes.specs.Views.{named_of}
use Rattle.script_nodes.proofs.Places.{position_map}
use Rattle.script_nodes.proofs.setup.Setup.place.Goals as goal

pub returns : goal.returns
returns c =
    let same = position_map (has_name (name_of c.args.name.now)) named_of c.args.self.now.scripts.items in
    c.place_of.ensures ∙ rw (c.as_bytes.ensures.bytes, c.deref.ensures.value) (sym same)
