use Rattle.std.proofs.Common.{◌∙◌, refl, ap}
use Rattle.web_disk.specs.Change.{Torn}
use Rattle.web_disk.specs.Memory.{changes, sizes}
use Rattle.web_disk.specs.declared.trace.Call.TheVariants.{Spoil}
use Rattle.web_disk.proofs.Traces.{pushed, pushed_whole, kept_after}
use Rattle.web_disk.proofs.trace.Trace.spoil.Goals as goal

pub returns-clause-adds : goal.returns-clause-adds
returns-clause-adds c = record {
  first = refl;
  changes = ap (λ l. changes l c.args.self.now.pieces.items) c.push_reserved.ensures.items ∙ pushed c.args.self.now.calls.items (Spoil c.args.span) c.args.self.now.pieces.items c.requires.kept.whole refl;
  touched = c.push_reserved-2.ensures.items;
  bytes = refl;
}

pub returns-clause-kept : goal.returns-clause-kept
returns-clause-kept c =
    kept_after (Torn c.args.span) _ _ c.requires.kept (returns-clause-adds c)
    (ap sizes c.push_reserved.ensures.items ∙ pushed_whole c.args.self.now.calls.items (Spoil c.args.span) c.args.self.now.pieces.items c.requires.kept.whole refl)
