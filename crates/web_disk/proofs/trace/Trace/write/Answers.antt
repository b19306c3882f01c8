use Rattle.std.proofs.Common.{◌≡◌, ◌++◌, List, ℕ, length, refl}
use Rattle.web_disk.specs.Change.{Put}
use Rattle.web_disk.proofs.Traces.{pushed_write_to, pushed_write_to_whole, kept_after}
use Rattle.web_disk.proofs.trace.Trace.write.Goals as goal

pub returns-clause-adds : goal.returns-clause-adds
returns-clause-adds c =
    let pieces : c.extend_from_slice.new.self.items ≡ c.args.self.now.pieces.items ++ c.args.piece.now = c.in-Ok.ensures.items in
    record {
      first = refl {A = List ℕ};
      changes = pushed_write_to _ _ c.args.place (length c.args.piece.now) _ _ c.args.piece.now c.requires.kept.whole c.push_reserved.ensures.items pieces (refl {A = ℕ});
      touched = c.push_reserved-2.ensures.items;
      bytes = c.overwrite.ensures.bytes;
    }

pub returns-clause-kept : goal.returns-clause-kept
returns-clause-kept c =
    let pieces : c.extend_from_slice.new.self.items ≡ c.args.self.now.pieces.items ++ c.args.piece.now = c.in-Ok.ensures.items in
    kept_after (Put c.args.place c.args.piece.now) _ _ c.requires.kept (returns-clause-adds c)
    (pushed_write_to_whole _ _ c.args.place (length c.args.piece.now) _ _ c.args.piece.now c.requires.kept.whole c.push_reserved.ensures.items pieces (refl {A = ℕ}))
