use Rattle.std.proofs.Common.{◌≡◌, ◌∙◌, ap, subst, [], Bool, List, length, arith}
use Rattle.replay_spec.specs.Book.{File}
use Rattle.replay_spec.specs.Compaction.{file_length}
use Rattle.script_nodes.specs.Views.{library_of}
use Rattle.book_recovery.specs.InstanceBook.Views.{instances_of}
use Rattle.file_copies.specs.OfFileNotes.Files.{IsPicked}
use Rattle.file_copies.proofs.OfFileNotes.Plans.{plan_length}
use Rattle.shelf.specs.Compacting.{length_for}
use Rattle.shelf.proofs.Planned.{total_is}
use Rattle.shelf.proofs.compaction.plan_file.Goals as goal

pub returns-clause-plan : goal.returns-clause-plan
returns-clause-plan c =
    let b = c.args.book.now in
    let notes = c.args.notes.now in
    let kept = c.in-Ok-compacted.ensures in
    let picked : IsPicked c.in-Ok.plan.items notes c.in-Ok-compacted.kept = subst (λ (ts : List Bool). IsPicked ts notes c.in-Ok-compacted.kept) c.as_slice.ensures.value kept.notes in
    let total = c.in-Some.ensures.some in
    let long : c.in-Some.len ≡ length_for (library_of c.args.library.now) b notes =
    total ∙ (total_is c.in-Ok-compacted.kept kept.noted picked.told ∙ ap (λ (f : File). file_length f) kept.file) in
    let low = c.longest-longest.ensures.low picked.drawn in
    record {
      plan = c.in-Ok.ensures;
      its = record {
        many = ap (λ (ts : List Bool). length ts) (c.in-Ok.ensures []) ∙ plan_length (instances_of [] b.instances) notes.notes.items;
        picked = picked;
        len = total;
        short = omega (arith, c.if-len-gt-MAX_LEN.false);
        longest = c.longest-longest.ensures.longest;
        first = c.longest-longest.ensures.first;
        low = omega (arith, low, total, c.if-len-gt-MAX_LEN.false);
      };
      file = kept.file;
      noted = kept.noted;
      length_is = long;
    }

pub returns-then-len-gt-MAX_LEN-clause-refused : goal.returns-then-len-gt-MAX_LEN-clause-refused
returns-then-len-gt-MAX_LEN-clause-refused c =
    let kept = c.in-Ok-compacted.ensures in (
      c.in-Some.ensures.some ∙ (total_is c.in-Ok-compacted.kept kept.noted kept.notes.told ∙ ap (λ (f : File). file_length f) kept.file),
      omega (arith, c.if-len-gt-MAX_LEN.true),
    )
