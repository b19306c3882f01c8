use Rattle.std.proofs.Common.{◌≡◌, sym, subst, ◌^◌, min, length, Option, List, ℕ}
use Rattle.std.specs.Prelude.{IfSome}
use Rattle.script_nodes.specs.Views.{named_of, scripts_of}
use Rattle.journal_records.specs.Fields.{script_bytes}
use Rattle.journal_records.proofs.Chains.{text_at, none_past}
use Rattle.journal_records.proofs.encoding.place_length.Goals as goal

pub returns : goal.returns
returns c =
    let here = text_at (scripts_of c.args.setup.now) c.args.place (named_of c.in-Some.named.now) c.in-Some.ensures in
    subst (λ (o : Option (List ℕ × List ℕ)). IfSome o (λ t. c.script_length.result ≡ min (length (script_bytes t)) (2 ^ 63))) (sym here) c.script_length.ensures

pub unreachable-requires : goal.unreachable-requires
unreachable-requires c = none_past (scripts_of c.args.setup.now) c.args.place c.in-None.ensures c.requires
