use Rattle.std.proofs.Common.{rules, ◌≡◌, [], length, map, nat_le, true, false, sym, ◌∙◌, ap}
use Rattle.std.specs.Prelude.{◌&&◌}
use Rattle.std.proofs.lemmas.List.{length-map}
use Rattle.script_nodes.specs.Views.{scripts_of}
use Rattle.setup_reader.specs.Views.{told_of}
use Rattle.setup_reader.proofs.Retold.{read_behind, right_count, wrong_count}
use Rattle.setup_reader.proofs.texts.setup_of.Goals as goal

pub returns-then-not-is_setup_length : goal.returns-then-not-is_setup_length
returns-then-not-is_setup_length c =
    let count : (nat_le 1 (length c.args.texts.now) && nat_le (length c.args.texts.now) 15) ≡ false = search rules in
    sym (wrong_count (map told_of c.args.texts.now) (rw length-map count))

pub loop-told-init : goal.loop-told-init
loop-told-init c =
    let count : (nat_le 1 (length c.args.texts.now) && nat_le (length c.args.texts.now) 15) ≡ true = search rules in
    let none : scripts_of c.new-setup.result ≡ [] = search rules in
    ap (λ ss. read_behind ss (map told_of c.args.texts.now)) none ∙ right_count (map told_of c.args.texts.now) (rw length-map count)
