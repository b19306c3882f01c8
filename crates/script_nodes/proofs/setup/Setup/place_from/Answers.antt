use Rattle.std.proofs.Common.{sym, ◌∙◌, drop}
use Rattle.std.proofs.lemmas.List.{drop-map}
use Rattle.page_names.specs.Views.{name_of}
use Rattle.script_nodes.specs.Setup.{has_name}
use Rattle.script_nodes.specs.Views.{named_of}
use Rattle.script_nodes.proofs.Places.{position_map, whole_drop}
use Rattle.script_nodes.proofs.setup.Setup.place_from.Goals as goal

pub returns : goal.returns
returns c =
    let later = drop c.args.first c.args.self.now.scripts.items in
    let same = position_map (has_name (name_of c.args.name.now)) named_of later in
    c.place_of.ensures ∙ rw (c.as_bytes.ensures.bytes, c.deref.ensures.value, whole_drop, drop-map) (sym same)
