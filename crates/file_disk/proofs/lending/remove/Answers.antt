use Rattle.std.proofs.Common.{ℕ, not, nat_eq, rules}
use Rattle.std.proofs.lemmas.Fn.{filter_same}
use Rattle.file_disk.proofs.lending.remove.Goals as goal

pub returns : goal.returns
returns c = filter_same _ (λ (n : ℕ). not (nat_eq n c.args.number)) _ (λ x b q h. (search rules, search rules)) _ _ c.retain.ensures.filtered
