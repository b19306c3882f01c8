use Rattle.std.proofs.Common.{◌≡◌, ◌∙◌, refl, ap, rules, length, ℕ, [], ◌∷◌, ◌++◌}
use Rattle.web_disk.specs.Change.{CutTo, span}
use Rattle.web_disk.specs.Memory.{changes, sizes}
use Rattle.web_disk.specs.declared.trace.Call.TheVariants.{Cut}
use Rattle.web_disk.proofs.Traces.{pushed, pushed_whole, kept_after}
use Rattle.web_disk.proofs.trace.Trace.cut.Goals as goal

pub returns-clause-adds : goal.returns-clause-adds
returns-clause-adds c =
    let long : c.len-end.result ≡ length c.args.self.now.bytes.items = search rules in
    record {
      first = refl;
      changes = ap (λ l. changes l c.args.self.now.pieces.items) c.push_reserved.ensures.items ∙ pushed c.args.self.now.calls.items (Cut c.args.len) c.args.self.now.pieces.items c.requires.kept.whole refl;
      touched = c.push_reserved-2.ensures.items ∙ ap (λ (n : ℕ). c.args.self.now.touched.items ++ span c.args.len n ∷ []) long;
      bytes = c.truncate.ensures.items;
    }

pub returns-clause-kept : goal.returns-clause-kept
returns-clause-kept c =
    kept_after (CutTo c.args.len) _ _ c.requires.kept (returns-clause-adds c)
    (ap sizes c.push_reserved.ensures.items ∙ pushed_whole c.args.self.now.calls.items (Cut c.args.len) c.args.self.now.pieces.items c.requires.kept.whole refl)
