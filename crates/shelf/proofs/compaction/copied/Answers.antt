use Rattle.std.proofs.Common.{◌≡◌, ◌∙◌, ap, sym, refl, ℕ, Bool, List, length, subst, arith, Result, Ok, Err, IfOk}
use Rattle.std.specs.Global.{Vec}
use Rattle.disk_trio.specs.Trio.{trio_view}
use Rattle.disk_trio.specs.Laws.{only_left}
use Rattle.page_journal.specs.Replacing.{IsWholeFile}
use Rattle.web_disk.proofs.Moments.{started}
use Rattle.journal_records.specs.Records.{draws, body_of}
use Rattle.file_copies.specs.OfFileNotes.declared.note.Note.{Note}
use Rattle.file_copies.specs.OfFileNotes.Files.{IsLonger}
use Rattle.file_copies.specs.OfFileNotes.Notes.{picked}
use Rattle.file_copies.specs.declared.copying.CopyFault.{CopyFault}
use Rattle.shelf.specs.declared.compaction.Planned.{Planned}
use Rattle.shelf.specs.Compacting.{IsWholeCopy}
use Rattle.shelf.proofs.compaction.copied.Goals as goal

nine : (n : ℕ) → length (body_of (draws n)) ≡ 9
nine n = refl

pub compacted_file-requires-clause-number : goal.compacted_file-requires-clause-number
compacted_file-requires-clause-number g c =
    let long = ap (λ (x : List ℕ). length x) (c.as_slice-2.ensures ∙ c.in-Ok.ensures) in
    let drawn = c.requires.planned.longest.drawn in
    omega (arith, long, nine c.args.number, drawn)

pub compacted_file-requires-clause-longest : goal.compacted_file-requires-clause-longest
compacted_file-requires-clause-longest g c =
    let p = c.args.planned.now in
    subst (λ (ts : List Bool). IsLonger (picked ts c.args.notes.now.notes.items) p.longest) (sym c.as_slice.ensures.value)
    (subst (λ (ns : List Note). IsLonger ns p.longest) c.requires.planned.picked.notes c.requires.planned.longest)

pub compacted_file-requires-clause-first : goal.compacted_file-requires-clause-first
compacted_file-requires-clause-first g c =
    let head = c.requires.planned.picked.head in let first = c.requires.planned.first in omega (arith, head, first)

whole_copy : (p : Planned) (r : Result (Vec ℕ) CopyFault) → IfOk r (λ file. IsWholeFile file.items p.longest) → IfOk r (λ file. length file.items ≡ p.len) → IfOk r (IsWholeCopy p)
whole_copy p (Ok file) whole len = record { whole = whole; len = len }
whole_copy p (Err e) whole len = tt

pub returns-clause-file : goal.returns-clause-file
returns-clause-file g c = whole_copy c.args.planned.now c.compacted_file.result c.compacted_file.ensures.whole_file c.compacted_file.ensures.len

-- there was no memory for the record of the number

pub returns-in_default-clause-quiet : goal.returns-in_default-clause-quiet
returns-in_default-clause-quiet g c =
    let v = trio_view c.args.journal.now.disk in
    record { seen = refl; images = λ image left. left; moments = started v v.images (only_left g.F.Disk c.args.journal.now.disk); faults = omega arith; ready = omega arith; end = omega arith; left = omega arith }
