-- A shelf that is opened on an audited file goes on as one on a file of its own.
use Rattle.std.proofs.Common.{◌≡◌, ℕ, List, [], ◌∷◌, Some, slice_get, refl}
use Rattle.script_nodes.specs.Setup.{Named}
use Rattle.replay_spec.specs.Book.{Book}
use Rattle.replay_spec.specs.Rules.{Rules}
use Rattle.replay_spec.specs.Step.{crash, lost, step}
use Rattle.replay_spec.specs.Invariant.{IsSound}
use Rattle.replay_spec.specs.Laws.{Moment, book_after, Leads}
use Rattle.replay_spec.specs.Remade.{NamesItsCells}
use Rattle.replay_spec.proofs.Barred.{some_setup}
use Rattle.replay_spec.proofs.Steps.{books_stay}
use Rattle.server_limits.specs.Limits.{most_fuel}
use Rattle.journal_records.specs.Laws.{AreRecordsExact}
use Rattle.journal_spec.specs.Lengths.{journal_rules}
use Rattle.journal_spec.specs.Opening.{opened_book}
use Rattle.journal_spec.specs.Whole.{AreWhole, HasWholeScripts}
use Rattle.journal_spec.proofs.Owned.{names_cells}
use Rattle.journal_spec.proofs.Fitting.{any_fit}
use Rattle.audit_spec.specs.Findings.{shelf_in}
use Rattle.audit_spec.specs.Meaning.{CanGoOn, AuditedJournalsGoOn}
use Rattle.audit_spec.proofs.Lawful.{sound_books}

-- an opening with a setup is a crash that gives it
opened_leads : (shelf : ℕ) (scripts : List Named) (b : Book) → Leads b (opened_book shelf scripts b)
unfolding step
opened_leads shelf scripts b =
    let rules : Rules = record { fuel = most_fuel; life = 0; instances = 0; pages = 0; journal = Some (journal_rules shelf) } in
    let m : Moment = record { rules = rules; nonce = 0; event = crash scripts; fate = lost } in
    record { moments = m ∷ []; lawful = (tt, tt); there = refl }

can_go_on : (shelf : ℕ) (scripts : List Named) (b : Book) → IsSound b → HasWholeScripts b → AreWhole scripts → CanGoOn (opened_book shelf scripts b)
can_go_on shelf scripts b sound whole setup = record {
  sound = books_stay.1 b (opened_book shelf scripts b) sound (opened_leads shelf scripts b);
  named = record {
    setup = some_setup (λ (ss : List Named). (k : ℕ) (s : Named) → slice_get ss k ≡ Some s → NamesItsCells s) b scripts (λ k s at. names_cells s (whole.setup k s at)) (λ k s at. names_cells s (setup k s at));
    instances = λ k i at. names_cells i.script (whole.instances k i at);
  };
  up = refl;
}

pub go_on : AreRecordsExact → AuditedJournalsGoOn
go_on x format texts bodies n m scripts setups setup h is =
    let shelf = shelf_in format bodies in
    let fit = any_fit x format texts shelf bodies m is in
    let b = opened_book shelf scripts m.book in
    let can = can_go_on shelf scripts m.book (sound_books x format texts bodies n m setups h is).0 (fit.whole setups.whole) setup in
    (can, λ ms lawful. books_stay.1 b (book_after ms b) can.sound (record { moments = ms; lawful = lawful; there = refl }))
