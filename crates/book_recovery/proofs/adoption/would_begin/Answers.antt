use Rattle.std.proofs.Common.{◌≡◌, ◌∙◌, ap, sym, subst, map, List, Some, None, option_map}
use Rattle.std.specs.Prelude.{IfSome, IfNone}
use Rattle.script_nodes.specs.declared.library.ScriptText.{ScriptText}
use Rattle.page_journal.specs.Records.{newest}
use Rattle.setup_reader.specs.Texts.{setup_of_texts}
use Rattle.journal_records.specs.Records.{begins}
use Rattle.journal_records.specs.Old.{read_record_in}
use Rattle.journal_records.specs.Views.{logged_of, script_of}
use Rattle.journal_records.specs.declared.records.Logged.{Logged}
use Rattle.book_recovery.specs.Reading.{IsSetupOf}
use Rattle.book_recovery.proofs.Would.{begun_if}
use Rattle.book_recovery.proofs.adoption.would_begin.Goals as goal

pub returns : goal.returns
returns c =
    let body = c.args.body.now in
    let v = c.in-Begin in
    let named = map script_of v.scripts.items in
    let setup = c.in_ok-setup.setup in
    let reads : read_record_in newest body ≡ Some (begins v.number named) =
    sym c.in_ok-logged.ensures.read ∙ (ap (option_map logged_of) c.in-Some.is ∙ ap (λ (x : Logged). Some (logged_of x)) v.is) in
    let some : IfSome setup (IsSetupOf named) = subst (λ (ts : List ScriptText). IfSome setup (IsSetupOf (map script_of ts))) c.deref.ensures.value c.in_ok-setup.ensures.some in
    let none : IfNone setup (setup_of_texts named ≡ None) =
    subst (λ (ts : List ScriptText). IfNone setup (setup_of_texts (map script_of ts) ≡ None)) c.deref.ensures.value c.in_ok-setup.ensures.none in
    record { stands = begun_if c.args.shelf body v.number named reads c.if-number-shelf.false setup some none c.is_some.result c.is_some.ensures }
