use Rattle.std.proofs.Common.{◌≡◌, ◌+◌, ◌∙◌, ap, sym, subst, ℕ, Bool, true, false, map, List, length, Some, option_map, refl}
use Rattle.script_nodes.specs.Views.{library_of}
use Rattle.script_nodes.specs.declared.library.ScriptText.{ScriptText}
use Rattle.setup_reader.proofs.Retold.{setup_kept}
use Rattle.journal_records.specs.Records.{renews}
use Rattle.journal_records.specs.Old.{read_record_in}
use Rattle.journal_records.specs.Views.{logged_of, script_of}
use Rattle.journal_records.specs.declared.records.Logged.{Logged}
use Rattle.book_redo.specs.InstanceBook.declared.in_order.InOrder.{InOrder}
use Rattle.setup_reader.specs.Texts.{setup_of_texts}
use Rattle.book_redo.specs.JournalSpec.Old.{with_body_at}
use Rattle.file_notes.specs.declared.notes.FileNotes.{FileNotes}
use Rattle.std.specs.Global.{Vec}
use Rattle.book_recovery.specs.Anew.{KeepsAnew}
use Rattle.book_recovery.specs.Noted.{NotesSetup}
use Rattle.book_recovery.specs.Reading.{may_stand, found_as, IsKept, Gives, Renews}
use Rattle.book_recovery.proofs.Way.{is_nine_in, renewed_gives, renewed_kept, renewed_states}
use Rattle.book_recovery.proofs.Noting.{renewed_noted, renewed_anew}
use Rattle.book_recovery.proofs.Later.{unless_taken, few_left, later_gives, later_owned, later_kept, later_notes, later_bodies}
use Rattle.book_recovery.proofs.reader.Reader.later.Goals as goal

-- ---- a record of another setup

pub returns-in-Texts-clause-gives : goal.returns-in-Texts-clause-gives
returns-in-Texts-clause-gives c place m is =
    let w = c.in-Some in
    let v = c.in-Texts in
    let old = c.args.self.now in
    let body = c.args.body.now in
    let l = library_of c.args.library.now in
    let b = c.args.book.now in
    let named = map script_of v.scripts.items in
    let f = found_as place c.renewed.result b c.renewed.new.library in
    let made : Renews place b l named f = subst (λ (ts : List ScriptText). Renews place b l (map script_of ts) f) c.deref.ensures.value (c.renewed.ensures.renews place b) in
    let reads : read_record_in old.format body ≡ Some (renews named) =
    sym c.in_ok-logged.ensures.read ∙ (ap (option_map logged_of) w.is ∙ ap (λ (x : Logged). Some (logged_of x)) v.is) in
    let next = with_body_at old.format setup_of_texts old.shelf place body m in
    subst (λ (t : Bool). Gives old.shelf (place + 5 + length body + 1) t false f c.renewed.new.self.seen next) (sym (c.renewed.ensures.same.follows ∙ c.copy.ensures.same.follows))
    (subst (λ (seen : InOrder (Unit {0})). Gives old.shelf (place + 5 + length body + 1) old.follows false f seen next) (sym (c.renewed.ensures.seen ∙ c.copy.ensures.seen))
    (renewed_gives old.format old.shelf place body l old.follows old.alone old.seen b named f reads c.requires.kept.placed made m is))

pub returns-in-Texts-clause-owns : goal.returns-in-Texts-clause-owns
returns-in-Texts-clause-owns c place left states =
    let f = found_as place c.renewed.result c.args.book.now c.renewed.new.library in
    renewed_states place (library_of c.args.library.now) c.args.book.now (map script_of c.deref.result.now) f (c.renewed.ensures.renews place c.args.book.now) states

pub returns-in-Texts-clause-kept : goal.returns-in-Texts-clause-kept
returns-in-Texts-clause-kept c place =
    let old = c.args.self.now in
    let b = c.args.book.now in
    let f = found_as place c.renewed.result b c.renewed.new.library in
    subst (λ (seen : InOrder (Unit {0})). IsKept old.shelf false seen f) (sym (c.renewed.ensures.seen ∙ c.copy.ensures.seen))
    (renewed_kept old.shelf place (library_of c.args.library.now) old.alone old.seen b (map script_of c.deref.result.now) f setup_kept c.requires.kept (c.renewed.ensures.renews place b))

pub returns-in-Texts-clause-notes : goal.returns-in-Texts-clause-notes
returns-in-Texts-clause-notes c place m is =
    let w = c.in-Some in
    let v = c.in-Texts in
    let old = c.args.self.now in
    let body = c.args.body.now in
    let l = library_of c.args.library.now in
    let b = c.args.book.now in
    let named = map script_of v.scripts.items in
    let f = found_as place c.renewed.result b c.renewed.new.library in
    let made : Renews place b l named f = subst (λ (ts : List ScriptText). Renews place b l (map script_of ts) f) c.deref.ensures.value (c.renewed.ensures.renews place b) in
    let first : NotesSetup named (length body) c.copy.new.self.notes c.renewed.new.self.notes f =
    subst (λ (ts : List ScriptText). NotesSetup (map script_of ts) (length body) c.copy.new.self.notes c.renewed.new.self.notes f) c.deref.ensures.value (c.renewed.ensures.notes place b) in
    let noted : NotesSetup named (length body) old.notes c.renewed.new.self.notes f =
    subst (λ (n : FileNotes). NotesSetup named (length body) n c.renewed.new.self.notes f) c.copy.ensures.notes first in
    let reads : read_record_in old.format body ≡ Some (renews named) =
    sym c.in_ok-logged.ensures.read ∙ (ap (option_map logged_of) w.is ∙ ap (λ (x : Logged). Some (logged_of x)) v.is) in
    renewed_noted old.format old.shelf place body l old.follows old.alone old.seen b old.notes c.renewed.new.self.notes named f reads made noted m is

pub returns-in-Texts-clause-anew : goal.returns-in-Texts-clause-anew
returns-in-Texts-clause-anew c place m is =
    let w = c.in-Some in
    let v = c.in-Texts in
    let old = c.args.self.now in
    let body = c.args.body.now in
    let l = library_of c.args.library.now in
    let b = c.args.book.now in
    let named = map script_of v.scripts.items in
    let f = found_as place c.renewed.result b c.renewed.new.library in
    let reads : read_record_in old.format body ≡ Some (renews named) =
    sym c.in_ok-logged.ensures.read ∙ (ap (option_map logged_of) w.is ∙ ap (λ (x : Logged). Some (logged_of x)) v.is) in
    let keeps : KeepsAnew old.format body old.anew c.renewed.new.self.anew =
    subst (λ (a : Vec (List ℕ)). KeepsAnew old.format body old.anew a) (sym c.renewed.ensures.anew) c.in_ok-copy.ensures.anew in
    renewed_anew old.format old.shelf place body l old.follows old.alone old.seen b old.anew c.renewed.new.self.anew named f reads keeps m is

-- ---- one that tells no setup

pub returns-clause-gives : goal.returns-clause-gives
returns-clause-gives c place m is =
    let w = c.in-Some in
    let old = c.args.self.now in
    let rust = c.args.library.now in
    let l = library_of rust in
    let body = c.args.body.now in
    let r = logged_of w.logged in
    let reads : read_record_in old.format body ≡ Some r = sym c.in_ok-logged.ensures.read ∙ ap (option_map logged_of) w.is in
    let stands : may_stand old.alone (length l.setup) r ≡ true =
    ap (λ (n : ℕ). may_stand old.alone n r) (sym c.present.ensures) ∙ (sym c.may_stand.ensures ∙ c.if-not-may_stand.false) in
    let nine = is_nine_in c.records_are_exact.ensures old.format body r (λ i. (c.type_inv.body i).fits) reads in
    let f = found_as place c.redo.result c.redo.new.book rust in
    subst (λ (t : Bool). Gives old.shelf (place + 5 + length body + 1) t false f c.redo.new.self.seen (with_body_at old.format setup_of_texts old.shelf place body m)) (sym c.redo.ensures.same.follows)
    (later_gives old.format old.shelf body rust old.follows old.alone old.seen c.redo.new.self.seen c.args.book.now c.redo.new.book r reads stands c.redo.result nine c.redo.ensures.made c.redo.ensures.sees place m is)

pub returns-clause-owns : goal.returns-clause-owns
returns-clause-owns c place own states =
    let w = c.in-Some in
    let old = c.args.self.now in
    let rust = c.args.library.now in
    let l = library_of rust in
    let body = c.args.body.now in
    let r = logged_of w.logged in
    let reads : read_record_in old.format body ≡ Some r = sym c.in_ok-logged.ensures.read ∙ ap (option_map logged_of) w.is in
    let stands : may_stand old.alone (length l.setup) r ≡ true =
    ap (λ (n : ℕ). may_stand old.alone n r) (sym c.present.ensures) ∙ (sym c.may_stand.ensures ∙ c.if-not-may_stand.false) in
    later_owned old.format old.shelf body rust old.follows old.alone old.seen c.redo.new.self.seen c.args.book.now c.redo.new.book r reads stands c.redo.result c.redo.ensures.made place own states

pub returns-clause-kept : goal.returns-clause-kept
returns-clause-kept c place =
    let w = c.in-Some in
    let old = c.args.self.now in
    let rust = c.args.library.now in
    let l = library_of rust in
    let body = c.args.body.now in
    let r = logged_of w.logged in
    let reads : read_record_in old.format body ≡ Some r = sym c.in_ok-logged.ensures.read ∙ ap (option_map logged_of) w.is in
    let stands : may_stand old.alone (length l.setup) r ≡ true =
    ap (λ (n : ℕ). may_stand old.alone n r) (sym c.present.ensures) ∙ (sym c.may_stand.ensures ∙ c.if-not-may_stand.false) in
    later_kept old.format old.shelf body rust old.follows old.alone old.seen c.redo.new.self.seen c.args.book.now c.redo.new.book r reads stands c.redo.result c.requires.kept c.redo.ensures.made c.redo.ensures.sees
    c.redo.ensures.placed place

pub returns-clause-notes : goal.returns-clause-notes
returns-clause-notes c place m is =
    let w = c.in-Some in
    let old = c.args.self.now in
    let rust = c.args.library.now in
    let l = library_of rust in
    let body = c.args.body.now in
    let r = logged_of w.logged in
    let reads : read_record_in old.format body ≡ Some r = sym c.in_ok-logged.ensures.read ∙ ap (option_map logged_of) w.is in
    let stands : may_stand old.alone (length l.setup) r ≡ true =
    ap (λ (n : ℕ). may_stand old.alone n r) (sym c.present.ensures) ∙ (sym c.may_stand.ensures ∙ c.if-not-may_stand.false) in
    let nine = is_nine_in c.records_are_exact.ensures old.format body r (λ i. (c.type_inv.body i).fits) reads in
    later_notes old.format old.shelf body rust old.follows old.alone old.seen c.redo.new.self.seen c.args.book.now c.redo.new.book r reads stands c.redo.result old.notes c.redo.new.self.notes nine c.redo.ensures.made
    c.redo.ensures.sees c.redo.ensures.notes place m is

pub returns-clause-anew : goal.returns-clause-anew
returns-clause-anew c place m is =
    let w = c.in-Some in
    let old = c.args.self.now in
    let rust = c.args.library.now in
    let l = library_of rust in
    let body = c.args.body.now in
    let r = logged_of w.logged in
    let reads : read_record_in old.format body ≡ Some r = sym c.in_ok-logged.ensures.read ∙ ap (option_map logged_of) w.is in
    let stands : may_stand old.alone (length l.setup) r ≡ true =
    ap (λ (n : ℕ). may_stand old.alone n r) (sym c.present.ensures) ∙ (sym c.may_stand.ensures ∙ c.if-not-may_stand.false) in
    later_bodies old.format old.shelf body rust old.follows old.alone old.seen c.redo.new.self.seen c.args.book.now c.redo.new.book r reads stands c.redo.result old.anew c.redo.new.self.anew c.redo.ensures.anew place m is

pub returns-clause-count : goal.returns-clause-count
returns-clause-count c = few_left c.redo.result c.args.book.now c.redo.new.book c.redo.ensures.count c.redo.ensures.book

pub returns-clause-library : goal.returns-clause-library
returns-clause-library c = unless_taken c.redo.result _ refl
