use Rattle.std.proofs.Common.{◌∙◌, ap, sym, length, arith}
use Rattle.page_journal.specs.Settled.{bodies_in}
use Rattle.file_notes.specs.JournalRecords.Roles.{behind_front}
use Rattle.file_copies.specs.Copies.{copied}
use Rattle.file_copies.proofs.Copied.{all_copied, copy_is, copy_short, whole_file}
use Rattle.file_copies.proofs.copying.compacted_file.Goals as goal

pub returns-clause-file : goal.returns-clause-file
returns-clause-file g c told =
    let bodies = bodies_in g.D.Disk.view c.args.journal.now in
    let old = c.in_ok-copier.copier in
    let new = c.for_each.new.taker in
    let begun = c.in_ok-copier.ensures in
    let done = c.in_ok-finish.ensures in
    let many = ap (λ xs. length xs) begun.plan_is ∙ (c.requires.planned ∙ sym (ap (λ xs. length xs) begun.notes_are)) in
    copy_is c.args.notes.now c.args.plan.now c.args.number.now old new bodies begun (all_copied old new 8 bodies many (c.in_ok-for_each.ensures.taken told)) done.sound _ done.closed

pub returns-clause-whole_file : goal.returns-clause-whole_file
returns-clause-whole_file g c =
    let handed = c.in_ok-for_each.ensures.handed in
    let bodies = handed.0 in
    let old = c.in_ok-copier.copier in
    let new = c.for_each.new.taker in
    let begun = c.in_ok-copier.ensures in
    let done = c.in_ok-finish.ensures in
    let many = ap (λ xs. length xs) begun.plan_is ∙ (c.requires.planned ∙ sym (ap (λ xs. length xs) begun.notes_are)) in
    let all = all_copied old new 8 bodies many handed.1 in
    let most = c.args.longest in
    let drawn = c.requires.longest.drawn in
    let number = c.requires.number in
    (whole_file (copied c.args.plan.now c.args.notes.now.drawn c.args.number.now (behind_front bodies)) _ most (omega (arith, c.requires.short, done.long)) (copy_is c.args.notes.now c.args.plan.now c.args.number.now old new bodies begun all done.sound _ done.closed)
    (copy_short c.args.notes.now c.args.plan.now c.args.number.now old new bodies begun all done.sound most c.requires.first (omega (arith, drawn, number)) c.requires.longest.all)).0
