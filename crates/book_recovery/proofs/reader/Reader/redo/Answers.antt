use Rattle.std.proofs.Common.{◌∙◌, ◌∷◌, [], ap, sym, subst, ℕ, Bool, List, Option, Some, None, Ok}
use Rattle.std.specs.Global.{Vec}
use Rattle.script_nodes.specs.Views.{library_of}
use Rattle.replay_spec.specs.Invariant.{Among}
use Rattle.replay_spec.specs.Recovery.{is_repeated}
use Rattle.replay_spec.proofs.Stand.{orderly_less}
use Rattle.book_redo.specs.InstanceBook.Standing.{book_under}
use Rattle.book_redo.specs.Redo.{number_by, IsRedoneBy}
use Rattle.journal_records.specs.Views.{logged_of}
use Rattle.book_redo.specs.JournalSpec.Before.{state_at}
use Rattle.book_redo.specs.declared.renew.Renewed.{Renewed}
use Rattle.book_redo.specs.Renewing.{IsRenewed}
use Rattle.file_notes.specs.declared.notes.FileNotes.{FileNotes}
use Rattle.file_notes.specs.Files.{StaysAsTold}
use Rattle.book_recovery.specs.Anew.{HasAnew, KeepsTold}
use Rattle.book_recovery.specs.Reading.{seen_by, IsMadeAgain, IsMadeIn}
use Rattle.book_recovery.proofs.Counted.{told_few}
use Rattle.book_recovery.proofs.Made.{free, low_of}
use Rattle.book_recovery.proofs.Took.{whole_by}
use Rattle.book_recovery.proofs.Told.{again_told, told_made, passed_makes}
use Rattle.book_recovery.proofs.Noting.{takes_by, noted_told, noted_passed, anew_told, anew_passed}
use Rattle.book_recovery.proofs.reader.Reader.redo.Goals as goal

pub as_newest-requires-clause-kept : goal.as_newest-requires-clause-kept
as_newest-requires-clause-kept c = let tells = c.requires.kept.tells in ((λ n. state_at n tells.0.states), tells.1.states)

pub as_newest-requires-clause-runs : goal.as_newest-requires-clause-runs
as_newest-requires-clause-runs c one =
    let old = c.args.self.now in
    let l = library_of c.args.library.now in
    record {
      whole = whole_by old.shelf old.alone old.seen c.args.book.now l c.requires.kept;
      orderly = orderly_less (λ (n : ℕ). Among n (seen_by old.seen) → ⊥) (λ (n : ℕ). ⊥) (book_under l c.args.book.now).instances (λ n no. absurd no) c.requires.kept.orderly.instances;
    }

pub redo-requires-clause-unnumbered : goal.redo-requires-clause-unnumbered
redo-requires-clause-unnumbered c none =
    let old = c.args.self.now in
    let l = library_of c.args.library.now in
    let r = logged_of c.args.logged in
    let is = subst (λ (x : Renewed). IsRenewed old.format l c.args.book.now r x) c.in-Told.is c.in_ok-told.ensures.renewed in
    again_told old.format l c.args.book.now old.seen r c.in-Told.told c.number_of-number.result c.has_seen-again.result is c.number_of-number.ensures.number c.has_seen-again.ensures
    ∙ ap (λ (o : Option ℕ). is_repeated o (seen_by old.seen)) none

pub redo-requires-clause-low : goal.redo-requires-clause-low
redo-requires-clause-low c =
    low_of c.args.self.now.shelf c.args.self.now.alone c.args.self.now.seen c.args.book.now (library_of c.args.library.now) c.requires.kept c.args.book.now.numbers

pub redo-requires-clause-kept : goal.redo-requires-clause-kept
redo-requires-clause-kept c = let tells = c.requires.kept.tells in ((λ n. state_at n tells.0.states), tells.1.states)

pub redo-requires-clause-free : goal.redo-requires-clause-free
redo-requires-clause-free c fresh_is =
    let old = c.args.self.now in
    let l = library_of c.args.library.now in
    let r = logged_of c.args.logged in
    let is = subst (λ (x : Renewed). IsRenewed old.format l c.args.book.now r x) c.in-Told.is c.in_ok-told.ensures.renewed in
    let so = again_told old.format l c.args.book.now old.seen r c.in-Told.told c.number_of-number.result c.has_seen-again.result is c.number_of-number.ensures.number c.has_seen-again.ensures in
    free old.shelf old.alone old.seen c.args.book.now l (number_by (logged_of c.in-Told.told)) c.requires.kept (sym so ∙ fresh_is)

pub returns-then-not-branch-clause-made : goal.returns-then-not-branch-clause-made
returns-then-not-branch-clause-made c =
    let old = c.args.self.now in
    let l = library_of c.args.library.now in
    let r = logged_of c.args.logged in
    let b = c.args.book.now in
    let t = c.in-Told.told in
    let again = c.has_seen-again.result in
    let is = subst (λ (x : Renewed). IsRenewed old.format l b r x) c.in-Told.is c.in_ok-told.ensures.renewed in
    let so = again_told old.format l b old.seen r t c.number_of-number.result again is c.number_of-number.ensures.number c.has_seen-again.ensures in
    told_made old.format l old.seen r t again b (Ok None) is so
    (c.redo.new.book, subst (λ (u : Bool). IsRedoneBy l (logged_of t) again u b c.redo.new.book) c.if-not-branch.true c.in_ok-redo-in-Told.ensures.redone)

pub returns-else-not-branch-clause-made : goal.returns-else-not-branch-clause-made
returns-else-not-branch-clause-made c =
    let old = c.args.self.now in
    let l = library_of c.args.library.now in
    let r = logged_of c.args.logged in
    let b = c.args.book.now in
    let t = c.in-Told.told in
    let again = c.has_seen-again.result in
    let is = subst (λ (x : Renewed). IsRenewed old.format l b r x) c.in-Told.is c.in_ok-told.ensures.renewed in
    let so = again_told old.format l b old.seen r t c.number_of-number.result again is c.number_of-number.ensures.number c.has_seen-again.ensures in
    let makes : IsMadeAgain l (logged_of t) again b (Some c.redo.new.book) =
    subst (λ (u : Bool). IsRedoneBy l (logged_of t) again u b c.redo.new.book) c.if-not-branch.false c.in_ok-redo-in-Told.ensures.redone in
    told_made old.format l old.seen r t again b (Ok (Some c.redo.new.book)) is so makes

pub returns-else-not-branch-clause-count : goal.returns-else-not-branch-clause-count
returns-else-not-branch-clause-count c =
    let old = c.args.self.now in
    let l = library_of c.args.library.now in
    let r = logged_of c.args.logged in
    let b = c.args.book.now in
    let t = c.in-Told.told in
    let again = c.has_seen-again.result in
    let is = subst (λ (x : Renewed). IsRenewed old.format l b r x) c.in-Told.is c.in_ok-told.ensures.renewed in
    let so = again_told old.format l b old.seen r t c.number_of-number.result again is c.number_of-number.ensures.number c.has_seen-again.ensures in
    let makes : IsMadeAgain l (logged_of t) again b (Some c.redo.new.book) =
    subst (λ (u : Bool). IsRedoneBy l (logged_of t) again u b c.redo.new.book) c.if-not-branch.false c.in_ok-redo-in-Told.ensures.redone in
    let in_all : IsMadeIn old.format l old.seen r b (Some c.redo.new.book) = told_made old.format l old.seen r t again b (Ok (Some c.redo.new.book)) is so makes in
    told_few old.format old.shelf old.alone l old.seen r b (Some c.redo.new.book) c.requires.kept in_all

pub returns-else-not-branch-clause-notes : goal.returns-else-not-branch-clause-notes
returns-else-not-branch-clause-notes c =
    let old = c.args.self.now in
    let l = library_of c.args.library.now in
    let r = logged_of c.args.logged in
    let b = c.args.book.now in
    let t = c.in-Told.told in
    let again = c.has_seen-again.result in
    let is = subst (λ (x : Renewed). IsRenewed old.format l b r x) c.in-Told.is c.in_ok-told.ensures.renewed in
    let so = again_told old.format l b old.seen r t c.number_of-number.result again is c.number_of-number.ensures.number c.has_seen-again.ensures in
    let makes : IsMadeAgain l (logged_of t) again b (Some c.redo.new.book) =
    subst (λ (u : Bool). IsRedoneBy l (logged_of t) again u b c.redo.new.book) c.if-not-branch.false c.in_ok-redo-in-Told.ensures.redone in
    let noting = c.in_ok-noting-in-Told.noting in
    let mid = c.see.new.self.notes in
    let same : StaysAsTold old.notes mid =
    subst (StaysAsTold old.notes) (sym c.see.ensures.notes) (subst (λ (n : FileNotes). StaysAsTold n c.room.new.self.notes) c.keep_told.ensures.notes c.room.ensures.nothing.notes) in
    let takes = takes_by l b (logged_of t) again c.args.length noting old.notes mid c.tell.new.notes c.in_ok-noting-in-Told.ensures.of same c.tell.ensures.notes in
    noted_told old.format l old.seen b c.args.length old.notes c.tell.new.notes r t again (Ok (Some c.redo.new.book)) is so takes makes

pub returns-else-not-branch-clause-anew : goal.returns-else-not-branch-clause-anew
returns-else-not-branch-clause-anew c =
    let old = c.args.self.now in
    let l = library_of c.args.library.now in
    let r = logged_of c.args.logged in
    let b = c.args.book.now in
    let t = c.in-Told.told in
    let again = c.has_seen-again.result in
    let is = subst (λ (x : Renewed). IsRenewed old.format l b r x) c.in-Told.is c.in_ok-told.ensures.renewed in
    let so = again_told old.format l b old.seen r t c.number_of-number.result again is c.number_of-number.ensures.number c.has_seen-again.ensures in
    let now = c.see.new.self.anew in
    let keeps : KeepsTold old.format (logged_of t) old.anew now =
    subst (λ (a : Vec (List ℕ)). KeepsTold old.format (logged_of t) old.anew a) (sym (c.see.ensures.anew ∙ c.room.ensures.anew)) c.in_ok-keep_told-in-Told.ensures.anew in
    anew_told old.format l old.seen b r t old.anew now (Ok (Some c.redo.new.book)) is keeps

pub returns-in_ok-room-in-Passed-clause-placed : goal.returns-in_ok-room-in-Passed-clause-placed
returns-in_ok-room-in-Passed-clause-placed c = c.count.ensures.placed (library_of c.args.library.now).all c.requires.kept.placed

pub returns-in_ok-room-in-Passed-clause-count : goal.returns-in_ok-room-in-Passed-clause-count
returns-in_ok-room-in-Passed-clause-count c =
    let old = c.args.self.now in
    let l = library_of c.args.library.now in
    let r = logged_of c.args.logged in
    let b = c.args.book.now in
    let is = subst (λ (x : Renewed). IsRenewed old.format l b r x) c.in-Passed.is c.in_ok-told.ensures.renewed in
    told_few old.format old.shelf old.alone l old.seen r b (Some c.count.new.book) c.requires.kept
    (passed_makes old.format l old.seen r c.number_of-number.result b c.count.new.book is c.number_of-number.ensures.number c.count.ensures.book)

pub returns-in_ok-room-in-Passed-clause-notes : goal.returns-in_ok-room-in-Passed-clause-notes
returns-in_ok-room-in-Passed-clause-notes c =
    let old = c.args.self.now in
    let l = library_of c.args.library.now in
    let r = logged_of c.args.logged in
    let b = c.args.book.now in
    let is = subst (λ (x : Renewed). IsRenewed old.format l b r x) c.in-Passed.is c.in_ok-told.ensures.renewed in
    let same : StaysAsTold old.notes c.see-in-Passed.new.self.notes =
    subst (StaysAsTold old.notes) (sym c.see-in-Passed.ensures.notes) (subst (λ (n : FileNotes). StaysAsTold n c.room-in-Passed.new.self.notes) c.keep.ensures.notes c.room-in-Passed.ensures.nothing.notes) in
    noted_passed old.format l old.seen b c.args.length old.notes c.pass.new.self r c.see-in-Passed.new.self.notes c.count.new.book is same c.pass.ensures.file c.pass.ensures.marks

pub returns-in_ok-room-in-Passed-clause-anew : goal.returns-in_ok-room-in-Passed-clause-anew
returns-in_ok-room-in-Passed-clause-anew c =
    let old = c.args.self.now in
    let l = library_of c.args.library.now in
    let r = logged_of c.args.logged in
    let b = c.args.book.now in
    let is = subst (λ (x : Renewed). IsRenewed old.format l b r x) c.in-Passed.is c.in_ok-told.ensures.renewed in
    let bytes = c.new-in-Passed.result in
    let has : HasAnew old.format (bytes ∷ []) old.anew c.see-in-Passed.new.self.anew =
    subst (λ (a : Vec (List ℕ)). HasAnew old.format (bytes ∷ []) old.anew a) (sym (c.see-in-Passed.ensures.anew ∙ c.room-in-Passed.ensures.anew)) c.in_ok-keep-in-Passed.ensures.anew in
    anew_passed old.format l old.seen b c.count.new.book r bytes old.anew c.see-in-Passed.new.self.anew is has
