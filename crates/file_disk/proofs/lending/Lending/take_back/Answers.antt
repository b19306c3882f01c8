use Rattle.std.proofs.Common.{ℕ, nat_eq, List, ap, ◌∙◌}
use Rattle.std.specs.List.{list_any}
use Rattle.file_disk.proofs.Outs.{none_left, others_left}
use Rattle.file_disk.proofs.lending.Lending.take_back.Goals as goal

pub returns-clause-home : goal.returns-clause-home
returns-clause-home c = ap (λ (l : List ℕ). list_any (λ n. nat_eq n c.args.number) l) c.remove.ensures ∙ none_left c.args.number c.args.self.now.out.items

pub returns-clause-others : goal.returns-clause-others
returns-clause-others c = λ n differ. ap (λ (l : List ℕ). list_any (λ m. nat_eq m n) l) c.remove.ensures ∙ others_left n c.args.number c.args.self.now.out.items differ
