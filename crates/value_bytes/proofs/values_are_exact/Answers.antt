use Rattle.value_bytes.specs.Spelling.{value_bytes, values_bytes, HasBytes, HaveBytes, most_levels}
use Rattle.value_bytes.specs.Reading.{read_value, read_values}
use Rattle.value_bytes.proofs.Lists.{list_exact, no_prefix}
use Rattle.value_bytes.proofs.Trees.{value_exact}
use Rattle.value_bytes.proofs.values_are_exact.Goals as goal

pub returns : goal.returns
returns c =
    let values = value_exact most_levels in
    let lists = list_exact value_bytes HasBytes read_value values in
    record {
      value = values;
      list = lists;
      prefix = no_prefix value_bytes HasBytes read_value values;
      prefixes = no_prefix values_bytes HaveBytes read_values lists;
    }
