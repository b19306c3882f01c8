use Rattle.std.proofs.Common.{sym, subst, List, ℕ}
use Rattle.std.specs.List.{AllByRecursion}
use Rattle.script_nodes.specs.Views.{named_of, scripts_of}
use Rattle.journal_records.specs.Fields.{ScriptFits}
use Rattle.journal_records.proofs.Chains.{text_there, none_past}
use Rattle.journal_records.proofs.grammar.place_fits.Goals as goal

pub returns : goal.returns
returns c =
    let here = text_there (scripts_of c.args.setup.now) c.args.place (named_of c.in-Some.named.now) c.in-Some.ensures in (
      λ f.
          let both = subst (λ (texts : List (List ℕ × List ℕ)). AllByRecursion ScriptFits texts) here f in
          (c.is_short.ensures.1 both.0, both.1),
      λ f. subst (λ (texts : List (List ℕ × List ℕ)). AllByRecursion ScriptFits texts) (sym here) (c.is_short.ensures.0 f.0, f.1),
    )

pub unreachable-requires : goal.unreachable-requires
unreachable-requires c = none_past (scripts_of c.args.setup.now) c.args.place c.in-None.ensures c.requires
