use Rattle.std.proofs.Common.{◌≡◌, ◌∙◌, sym, subst, ℕ, Bool, List, length}
use Rattle.page_journal.specs.Records.{at_rest}
use Rattle.page_journal.specs.Settled.{bodies_in, length_of}
use Rattle.setup_reader.specs.Texts.{setup_of_texts}
use Rattle.book_redo.specs.JournalSpec.Old.{book_of_format}
use Rattle.book_recovery.specs.declared.found.Found.{Found}
use Rattle.book_recovery.specs.Found.{Finds, IsFoundInOrder, HasStates}
use Rattle.book_recovery.specs.Reading.{Gives, HasFew}
use Rattle.std.specs.Global.{Vec}
use Rattle.file_notes.specs.declared.notes.FileNotes.{FileNotes}
use Rattle.file_notes.specs.Files.{IsNoted}
use Rattle.book_recovery.specs.Anew.{ReadsAnew}
use Rattle.book_recovery.specs.Noting.{WhereMade, NotesFile}
use Rattle.book_recovery.proofs.Filed.{noted_of_all, anew_of_all}
use Rattle.book_recovery.proofs.Took.{all_bytes, all_same, owned_of_all, taken_all, gives_alike, kept_alike, finds, in_order}
use Rattle.book_recovery.proofs.read.read_book.Goals as goal

pub for_each-requires-clause-ready : goal.for_each-requires-clause-ready
for_each-requires-clause-ready g c = subst (λ (f : Found). HasFew 8 f) (sym c.new-reader.ensures.found) tt

pub returns-clause-found : goal.returns-clause-found
returns-clause-found g c told =
    let shelf = c.args.shelf in
    let format = c.args.journal.now.format in
    let bodies = bodies_in g.D.Disk.view c.args.journal.now in
    let old = c.new-reader.result in
    let new = c.for_each.new.taker in
    let start = c.new-reader.ensures in
    let took = c.in_ok-for_each.ensures.taken told in
    let all = taken_all format shelf bodies old new start.shelf (start.format ∙ c.format.ensures) start.found start.follows start.seen took c.finish.ensures.sound.kept in
    let made = book_of_format format setup_of_texts shelf bodies in
    let long : length (at_rest bodies) ≡ length_of {D = g.row.D.Denot} c.args.journal.now = sym (c.requires.settled told).end in
    let here = subst (λ (n : ℕ). Gives shelf n new.follows new.alone new.found new.seen made) long all.1 in
    subst (λ (t : Bool). Finds shelf (length_of {D = g.row.D.Denot} c.args.journal.now) t c.finish.result.found made) (sym c.finish.ensures.follows)
    (subst (λ (f : Found). Finds shelf (length_of {D = g.row.D.Denot} c.args.journal.now) new.follows f made) (sym c.finish.ensures.found)
    (finds shelf (length_of {D = g.row.D.Denot} c.args.journal.now) new.follows new.alone new.found new.seen made all.0 here))

pub returns-clause-gives : goal.returns-clause-gives
returns-clause-gives g c told =
    let shelf = c.args.shelf in
    let format = c.args.journal.now.format in
    let bodies = bodies_in g.D.Disk.view c.args.journal.now in
    let old = c.new-reader.result in
    let new = c.for_each.new.taker in
    let start = c.new-reader.ensures in
    let took = c.in_ok-for_each.ensures.taken told in
    let all = taken_all format shelf bodies old new start.shelf (start.format ∙ c.format.ensures) start.found start.follows start.seen took c.finish.ensures.sound.kept in
    let made = book_of_format format setup_of_texts shelf bodies in
    let long : length (at_rest bodies) ≡ length_of {D = g.row.D.Denot} c.args.journal.now = sym (c.requires.settled told).end in
    let here = subst (λ (n : ℕ). Gives shelf n new.follows new.alone new.found new.seen made) long all.1 in
    let end = c.finish.ensures in
    gives_alike shelf (length_of {D = g.row.D.Denot} c.args.journal.now) made new.follows c.finish.result.follows new.alone c.finish.result.alone new.found c.finish.result.found new.seen c.finish.result.seen
    end.follows end.alone end.found end.seen here

pub returns-clause-kept : goal.returns-clause-kept
returns-clause-kept g c =
    let handed = c.in_ok-for_each.ensures.handed in
    let new = c.for_each.new.taker in
    let end = c.finish.ensures in
    kept_alike c.args.shelf new.shelf new.alone c.finish.result.alone new.found c.finish.result.found new.seen c.finish.result.seen
    (all_same 8 handed.0 c.new-reader.result new handed.1 ∙ c.new-reader.ensures.shelf) end.alone end.found end.seen end.sound.kept

pub returns-clause-handed : goal.returns-clause-handed
returns-clause-handed g c =
    let shelf = c.args.shelf in
    let format = c.args.journal.now.format in
    let handed = c.in_ok-for_each.ensures.handed in
    let bodies = handed.0 in
    let old = c.new-reader.result in
    let new = c.for_each.new.taker in
    let start = c.new-reader.ensures in
    let all = taken_all format shelf bodies old new start.shelf (start.format ∙ c.format.ensures) start.found start.follows start.seen handed.1 c.finish.ensures.sound.kept in
    let end = c.finish.ensures in
    record {
      bodies = bodies;
      bytes = all_bytes 8 bodies old new handed.1;
      gives =
          gives_alike shelf (length (at_rest bodies)) (book_of_format format setup_of_texts shelf bodies) new.follows c.finish.result.follows new.alone c.finish.result.alone new.found c.finish.result.found new.seen
          c.finish.result.seen end.follows end.alone end.found end.seen all.1;
    }

pub returns-clause-bytes : goal.returns-clause-bytes
returns-clause-bytes g c told =
    all_bytes 8 (bodies_in g.D.Disk.view c.args.journal.now) c.new-reader.result c.for_each.new.taker (c.in_ok-for_each.ensures.taken told)

pub returns-clause-states : goal.returns-clause-states
returns-clause-states g c told own =
    let shelf = c.args.shelf in
    let format = c.args.journal.now.format in
    let bodies = bodies_in g.D.Disk.view c.args.journal.now in
    let old = c.new-reader.result in
    let new = c.for_each.new.taker in
    let start = c.new-reader.ensures in
    let took = c.in_ok-for_each.ensures.taken told in
    subst (λ (f : Found). HasStates f) (sym c.finish.ensures.found) (owned_of_all format shelf bodies old new start.shelf (start.format ∙ c.format.ensures) start.found start.follows start.seen took own)

pub returns-clause-in_order : goal.returns-clause-in_order
returns-clause-in_order g c =
    let shelf = c.args.shelf in
    let format = c.args.journal.now.format in
    let handed = c.in_ok-for_each.ensures.handed in
    let bodies = handed.0 in
    let old = c.new-reader.result in
    let new = c.for_each.new.taker in
    let start = c.new-reader.ensures in
    let took = handed.1 in
    let all = taken_all format shelf bodies old new start.shelf (start.format ∙ c.format.ensures) start.found start.follows start.seen took c.finish.ensures.sound.kept in
    subst (λ (f : Found). IsFoundInOrder shelf f) (sym c.finish.ensures.found)
    (in_order c.bodies_of_any_format_fit.ensures format shelf bodies (all_bytes 8 bodies old new took) (length (at_rest bodies)) new.follows new.alone new.found new.seen all.0 all.1)

pub returns-clause-notes : goal.returns-clause-notes
returns-clause-notes g c told =
    let shelf = c.args.shelf in
    let format = c.args.journal.now.format in
    let bodies = bodies_in g.D.Disk.view c.args.journal.now in
    let new = c.for_each.new.taker in
    let start = c.new-reader.ensures in
    let all = noted_of_all format shelf bodies c.new-reader.result new start.shelf (start.format ∙ c.format.ensures) start.found start.follows start.seen start.marks (c.in_ok-for_each.ensures.taken told) in
    let made = book_of_format format setup_of_texts shelf bodies in
    subst (λ (f : Found). WhereMade f (NotesFile format shelf bodies c.finish.result.notes made)) (sym c.finish.ensures.found)
    (subst (λ (n : FileNotes). WhereMade new.found (NotesFile format shelf bodies n made)) (sym c.finish.ensures.notes) all)

pub returns-clause-anew : goal.returns-clause-anew
returns-clause-anew g c told =
    let shelf = c.args.shelf in
    let format = c.args.journal.now.format in
    let bodies = bodies_in g.D.Disk.view c.args.journal.now in
    let new = c.for_each.new.taker in
    let start = c.new-reader.ensures in
    let all = anew_of_all format shelf bodies c.new-reader.result new start.shelf (start.format ∙ c.format.ensures) start.found start.follows start.seen start.anew (c.in_ok-for_each.ensures.taken told) in
    subst (λ (f : Found). WhereMade f (ReadsAnew format shelf bodies c.finish.result.anew.items)) (sym c.finish.ensures.found)
    (subst (λ (xs : Vec (List ℕ)). WhereMade new.found (ReadsAnew format shelf bodies xs.items)) (sym c.finish.ensures.anew) all)

pub returns-clause-noted : goal.returns-clause-noted
returns-clause-noted g c = subst (λ (n : FileNotes). IsNoted n) (sym c.finish.ensures.notes) c.finish.ensures.sound.noted
