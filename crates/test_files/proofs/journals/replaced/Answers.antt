use Rattle.test_files.proofs.Whole.{is_whole}
use Rattle.test_files.proofs.journals.replaced.Goals as goal

pub replace-requires-clause-file : goal.replace-requires-clause-file
replace-requires-clause-file g c = is_whole _ c.in_ok-room_to_replace.ensures.ready.buffer
