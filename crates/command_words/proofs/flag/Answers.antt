use Rattle.std.proofs.Common.{◌≡◌, ◌∙◌, sym, ap, Some, [], unwrap_or, codes, inl, inr}
use Rattle.std.specs.Str.{bytes_eq}
use Rattle.clap.specs.Matches.{found_of}
use Rattle.clap.proofs.WalkLemmas.{one_text-rows}
use Rattle.command_words.proofs.flag.Goals as goal

pub returns : goal.returns
returns c = record {
  value = λ held. elim held [
    | inl set ↦ c.get_flag.ensures.value (one_text-rows (found_of c.args.matches.now) c.args.id.now ∙ set)
        ∙ sym (ap (λ o. bytes_eq (unwrap_or o []) (codes "true")) set)
    | inr unset ↦ c.get_flag.ensures.other (one_text-rows (found_of c.args.matches.now) c.args.id.now ∙ unset)
        ∙ sym (ap (λ o. bytes_eq (unwrap_or o []) (codes "true")) unset)
  ];
}
