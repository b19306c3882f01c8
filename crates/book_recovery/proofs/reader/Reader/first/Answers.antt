use Rattle.std.proofs.Common.{◌≡◌, ℕ, ◌+◌, ◌∙◌, ap, sym, subst, map, List, length, Some, option_map, Bool, not, true, false}
use Rattle.script_nodes.specs.declared.library.ScriptText.{ScriptText}
use Rattle.setup_reader.proofs.Retold.{setup_kept}
use Rattle.setup_reader.specs.Texts.{setup_of_texts}
use Rattle.journal_records.specs.Records.{begins}
use Rattle.journal_records.specs.Old.{read_record_in}
use Rattle.journal_records.specs.Views.{logged_of, script_of}
use Rattle.journal_records.specs.declared.records.Logged.{Logged}
use Rattle.book_redo.specs.JournalSpec.Old.{with_body_at}
use Rattle.book_recovery.specs.declared.found.Found.TheVariants as found
use Rattle.book_recovery.specs.Reading.{turns, Gives, IsKept, Begins}
use Rattle.book_recovery.proofs.Made.{first_no_begin, first_turned}
use Rattle.book_recovery.proofs.Way.{first_gives, first_kept, first_states, is_nine_in, not_begin, turned_role}
use Rattle.book_recovery.proofs.Counted.{begun_few}
use Rattle.std.specs.Global.{Vec}
use Rattle.book_recovery.specs.Anew.{KeepsAnew}
use Rattle.book_recovery.proofs.Noting.{turned_noted, first_anew, copied_on}
use Rattle.book_recovery.proofs.reader.Reader.first.Goals as goal

pub returns-in-Begin-clause-gives : goal.returns-in-Begin-clause-gives
returns-in-Begin-clause-gives c m is =
    let w = c.in-Ok-Some in
    let v = c.in-Begin in
    let old = c.args.self.now in
    let place = c.args.place in
    let body = c.args.body.now in
    let named = map script_of v.scripts.items in
    let reads : read_record_in old.format body ≡ Some (begins v.shelf named) =
    sym w.ensures.read ∙ (ap (option_map logged_of) w.field-0-is ∙ ap (λ (l : Logged). Some (logged_of l)) v.is) in
    let told : Begins c.copy.new.self.shelf place v.shelf named c.begun.result =
    subst (λ (ts : List ScriptText). Begins c.copy.new.self.shelf place v.shelf (map script_of ts) c.begun.result) c.deref.ensures.value c.begun.ensures.begins in
    let made : Begins old.shelf place v.shelf named c.begun.result = subst (λ (k : ℕ). Begins k place v.shelf named c.begun.result) c.copy.ensures.same.shelf told in
    subst (λ (t : Bool). Gives old.shelf (place + 5 + length body + 1) t true c.begun.result old.seen (with_body_at old.format setup_of_texts old.shelf place body m)) (sym (c.begun.ensures.same.follows ∙ c.copy.ensures.same.follows))
    (first_gives old.format old.shelf place body v.shelf named old.follows old.seen c.begun.result reads made m is)

pub returns-in-Begin-clause-owns : goal.returns-in-Begin-clause-owns
returns-in-Begin-clause-owns c =
    first_states c.copy.new.self.shelf c.args.place c.in-Begin.shelf (map script_of c.deref.result.now) c.begun.result c.begun.ensures.begins

pub returns-in-Begin-clause-kept : goal.returns-in-Begin-clause-kept
returns-in-Begin-clause-kept c none =
    subst (λ (k : ℕ). IsKept k true c.args.self.now.seen c.begun.result) c.copy.ensures.same.shelf
    (first_kept c.copy.new.self.shelf c.args.place c.in-Begin.shelf (map script_of c.deref.result.now) c.args.self.now.seen c.begun.result setup_kept c.begun.ensures.begins none)

pub returns-in-Begin-clause-few : goal.returns-in-Begin-clause-few
returns-in-Begin-clause-few c =
    begun_few c.copy.new.self.shelf c.args.place c.in-Begin.shelf (map script_of c.deref.result.now) c.begun.result c.begun.ensures.begins
    (c.args.place + 5 + length c.args.body.now)

-- ---- a record that tells whether the shelf follows

pub returns-then-turns-clause-gives : goal.returns-then-turns-clause-gives
returns-then-turns-clause-gives c m is =
    let w = c.in-Ok-Some in
    let old = c.args.self.now in
    first_turned old.format old.shelf c.args.place c.args.body.now old.follows old.seen m is (logged_of w.logged) (sym w.ensures.read ∙ ap (option_map logged_of) w.field-0-is)
    (is_nine_in c.records_are_exact.ensures old.format c.args.body.now (logged_of w.logged) (λ i. (c.type_inv.body i).fits) (sym w.ensures.read ∙ ap (option_map logged_of) w.field-0-is))
    (ap (λ (u : Bool). turns u c.args.place (logged_of w.logged)) (sym c.copy.ensures.same.follows) ∙ (sym c.turns.ensures.turns ∙ c.if-turns.true))
    c.turns.new.self.follows (c.turns.ensures.turned c.if-turns.true ∙ ap not c.copy.ensures.same.follows)

pub returns-then-turns-clause-notes : goal.returns-then-turns-clause-notes
returns-then-turns-clause-notes c m is =
    let old = c.args.self.now in
    turned_noted old.format old.shelf c.args.place c.args.body.now old.follows c.turns.new.self.follows old.seen old.notes c.turns.new.self.notes m (c.turns.ensures.notes ∙ c.copy.ensures.notes) is
    (returns-then-turns-clause-gives c m is)

pub returns-then-turns-clause-anew : goal.returns-then-turns-clause-anew
returns-then-turns-clause-anew c m is =
    let old = c.args.self.now in
    let body = c.args.body.now in
    let copies : KeepsAnew old.format body old.anew c.copy.new.self.anew =
    copied_on c.copy.result (KeepsAnew old.format body old.anew c.copy.new.self.anew) (sym c.is_err.ensures.value ∙ c.if-is_err.false) c.copy.ensures.anew in
    let keeps : KeepsAnew old.format body old.anew c.turns.new.self.anew = subst (λ (a : Vec (List ℕ)). KeepsAnew old.format body old.anew a) (sym c.turns.ensures.anew) copies in
    first_anew old.format old.shelf (c.args.place + 1) body old.follows old.anew c.turns.new.self.anew found.Nothing keeps m is.before

pub returns-then-turns-clause-begun : goal.returns-then-turns-clause-begun
returns-then-turns-clause-begun c apart =
    let w = c.in-Ok-Some in
    let old = c.args.self.now in
    let role = turned_role c.records_are_exact.ensures old.format c.args.body.now old.follows c.args.place (logged_of w.logged) (λ i. (c.type_inv.body i).fits) (sym w.ensures.read ∙ ap (option_map logged_of) w.field-0-is)
    (ap (λ (u : Bool). turns u c.args.place (logged_of w.logged)) (sym c.copy.ensures.same.follows) ∙ (sym c.turns.ensures.turns ∙ c.if-turns.true)) in
    absurd (let off : true ≡ false = sym role ∙ apart in let never : ⊥ = cc off in never)

-- ---- one that may not stand there

pub returns-clause-gives : goal.returns-clause-gives
returns-clause-gives c m is =
    let w = c.in-Ok-Some in
    let old = c.args.self.now in
    first_no_begin old.format old.shelf c.args.place c.args.body.now old.follows old.seen m is (logged_of w.logged) (sym w.ensures.read ∙ ap (option_map logged_of) w.field-0-is) (not_begin w.logged c.in_default.not-Begin)
    (ap (λ (u : Bool). turns u c.args.place (logged_of w.logged)) (sym c.copy.ensures.same.follows) ∙ (sym c.turns.ensures.turns ∙ c.if-turns.false))
