use Rattle.std.proofs.Common.{sym, ◌∙◌}
use Rattle.std.specs.Str.{bytes_eq}
use Rattle.script_nodes.proofs.Places.{position_map}
use Rattle.core_syntax.proofs.cell_names.place_among.Goals as goal

pub returns : goal.returns
returns c = c.first_place.ensures ∙ sym (position_map (bytes_eq c.args.name.now) (λ n. n.now) c.args.names.now)
