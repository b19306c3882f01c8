use Rattle.std.proofs.Common.{◌∙◌, refl, ap}
use Rattle.web_disk.specs.Change.{Synced}
use Rattle.web_disk.specs.Memory.{changes, sizes}
use Rattle.web_disk.specs.declared.trace.Call.TheVariants.{Sync}
use Rattle.web_disk.proofs.Traces.{pushed, pushed_whole, kept_after}
use Rattle.web_disk.proofs.trace.Trace.sync.Goals as goal

pub returns-clause-adds : goal.returns-clause-adds
returns-clause-adds c = record {
  first = refl;
  changes = ap (λ l. changes l c.args.self.now.pieces.items) c.push_reserved.ensures.items ∙ pushed c.args.self.now.calls.items (Sync) c.args.self.now.pieces.items c.requires.kept.whole refl;
  touched = c.clear.ensures.items;
  bytes = refl;
}

pub returns-clause-kept : goal.returns-clause-kept
returns-clause-kept c =
    kept_after (Synced) _ _ c.requires.kept (returns-clause-adds c)
    (ap sizes c.push_reserved.ensures.items ∙ pushed_whole c.args.self.now.calls.items (Sync) c.args.self.now.pieces.items c.requires.kept.whole refl)
