use Rattle.std.proofs.Common.{◌≡◌, ap, subst, List, [], true}
use Rattle.script_nodes.specs.Views.{library_of}
use Rattle.page_journal.specs.Records.{newest}
use Rattle.book_redo.specs.InstanceBook.declared.numbered.Numbered.{Numbered}
use Rattle.book_redo.specs.InstanceBook.Orders.{numbers_of}
use Rattle.file_notes.specs.declared.notes.FileNotes.{FileNotes}
use Rattle.book_recovery.specs.declared.found.Found.{Found}
use Rattle.book_recovery.specs.declared.found.Found.TheVariants as found
use Rattle.book_recovery.specs.Noting.{NotesWith}
use Rattle.book_recovery.specs.Reading.{seen_by, GivesWith}
use Rattle.book_recovery.proofs.Adopted.{begins_so, notes_so, never_begun, begun_of_another}
use Rattle.book_recovery.proofs.adoption.adopt_first.Goals as goal

pub returns-in-Made-clause-begins : goal.returns-in-Made-clause-begins
returns-in-Made-clause-begins c =
    let shelf = c.args.shelf in
    let body = c.args.body.now in
    let seen = c.new.result in
    let none : seen_by seen ≡ [] = ap (λ (xs : List (Numbered (Unit {0}))). numbers_of xs) c.new.ensures in
    let fed = c.first-found.new.self.follows in
    begins_so shelf body seen fed none c.in-Made.begun c.in-Made.told (c.first-found.ensures.begun c.requires.fed).1
    (subst (λ (f : Found). GivesWith newest shelf 14 body true true found.Nothing fed true f seen seen) c.in-Made.is c.first-found.ensures.gives)

pub returns-in-Made-clause-notes : goal.returns-in-Made-clause-notes
returns-in-Made-clause-notes c =
    let shelf = c.args.shelf in
    let body = c.args.body.now in
    let seen = c.new.result in
    let none : seen_by seen ≡ [] = ap (λ (xs : List (Numbered (Unit {0}))). numbers_of xs) c.new.ensures in
    let known = c.first-found.new.self.notes in
    notes_so shelf body seen c.first-found.new.self.follows none c.in-Made.begun c.in-Made.told c.args.notes.now known
    (λ m is.
    subst (λ (n : FileNotes). NotesWith newest shelf 14 body n known (found.Made c.in-Made.begun c.in-Made.told) m) c.replace.ensures.value
    (subst (λ (f : Found). NotesWith newest shelf 14 body c.replace.result known f m) c.in-Made.is (c.first-found.ensures.notes m is)))

pub returns-in-Damaged-clause-begins : goal.returns-in-Damaged-clause-begins
returns-in-Damaged-clause-begins c =
    let shelf = c.args.shelf in
    let body = c.args.body.now in
    let seen = c.new.result in
    let none : seen_by seen ≡ [] = ap (λ (xs : List (Numbered (Unit {0}))). numbers_of xs) c.new.ensures in
    let fed = c.first-found.new.self.follows in
    never_begun shelf body seen fed none c.args.book.now (library_of c.args.library.now) c.in-Damaged.place
    (subst (λ (f : Found). GivesWith newest shelf 14 body true true found.Nothing fed true f seen seen) c.in-Damaged.is c.first-found.ensures.gives)

pub returns-in-Other-clause-begins : goal.returns-in-Other-clause-begins
returns-in-Other-clause-begins c =
    let shelf = c.args.shelf in
    let body = c.args.body.now in
    let seen = c.new.result in
    let none : seen_by seen ≡ [] = ap (λ (xs : List (Numbered (Unit {0}))). numbers_of xs) c.new.ensures in
    let fed = c.first-found.new.self.follows in
    begun_of_another shelf body seen fed none c.args.book.now (library_of c.args.library.now) c.in-Other.place
    (subst (λ (f : Found). GivesWith newest shelf 14 body true true found.Nothing fed true f seen seen) c.in-Other.is c.first-found.ensures.gives)
