use Rattle.std.proofs.Common.{◌++◌, ◌+◌, ◌∙◌, sym, ap, subst, arith, length, drop, List, ℕ}
use Rattle.std.specs.List.{flat_map, AllByRecursion}
use Rattle.script_nodes.specs.Views.{named_of, scripts_of}
use Rattle.journal_records.specs.Fields.{script_bytes, ScriptFits}
use Rattle.journal_records.specs.Records.{texts_of}
use Rattle.journal_records.proofs.Chains.{text_there, none_past, on_ok, onto}
use Rattle.journal_records.proofs.encoding.write_place.Goals as goal

pub write_script-requires : goal.write_script-requires
write_script-requires c =
    let here = text_there (scripts_of c.args.setup.now) c.args.place (named_of c.in-Some.named.now) c.in-Some.ensures in
    let both = subst (λ (texts : List (List ℕ × List ℕ)). AllByRecursion ScriptFits texts) here c.requires.fit in
    (omega (arith, both.0.0, ap length c.as_bytes.ensures.bytes), omega (arith, both.0.1, ap length c.as_slice.ensures))

pub unreachable-requires : goal.unreachable-requires
unreachable-requires c = none_past (scripts_of c.args.setup.now) c.args.place c.in-None.ensures c.requires.within

pub returns : goal.returns
returns c =
    let s = named_of c.in-Some.named.now in
    let scripts = scripts_of c.args.setup.now in
    let here = text_there scripts c.args.place s c.in-Some.ensures in
    let tail = flat_map script_bytes (drop (c.args.place + 1) (texts_of scripts)) in
    let name = c.as_bytes.ensures.bytes in
    let text = c.as_slice.ensures in
    on_ok c.write_script.result _ _ c.write_script.ensures (λ e.
    onto c.args.writer.now (script_bytes (c.as_bytes.result.now, c.as_slice.result.now)) c.write_script.new.writer tail e
    ∙ (λ i. c.args.writer.now ++ (script_bytes (name i, text i) ++ tail))
    ∙ ap (λ (texts : List (List ℕ × List ℕ)). c.args.writer.now ++ flat_map script_bytes texts) (sym here))
