use Rattle.std.proofs.Common.{subst, arith, ◌≡◌, List, ℕ, map, length}
use Rattle.std.specs.Prelude.{OnOk}
use Rattle.std.proofs.lemmas.List.{length-map}
use Rattle.script_value.specs.Views.{meaning}
use Rattle.value_bytes.specs.Spelling.{most_levels}
use Rattle.value_bytes.proofs.Trees.{all_written, values_whole}
use Rattle.value_bytes.proofs.write.write_values.Goals as goal

pub write_all-requires : goal.write_all-requires
write_all-requires c = all_written most_levels (map meaning c.args.values.now) c.requires.1

pub returns : goal.returns
returns c =
    let whole = values_whole c.args.writer.now c.u32.new.self (length c.args.values.now) (map meaning c.args.values.now) c.in_ok-u32.ensures.ok (grind (arith, length-map)) in
    subst (λ (bytes : List ℕ). OnOk c.write_all.result (c.write_all.new.writer ≡ bytes)) whole c.write_all.ensures
