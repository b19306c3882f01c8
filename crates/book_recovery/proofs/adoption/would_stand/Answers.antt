use Rattle.std.proofs.Common.{◌≡◌, ◌∙◌, ap, sym, subst, map, ℕ, List, length, true, Some, None, option_map}
use Rattle.std.specs.Prelude.{IfSome, IfNone}
use Rattle.script_nodes.specs.Views.{library_of}
use Rattle.script_nodes.specs.declared.library.ScriptText.{ScriptText}
use Rattle.page_journal.specs.Records.{newest}
use Rattle.setup_reader.specs.Texts.{setup_of_texts}
use Rattle.journal_records.specs.Records.{renews}
use Rattle.journal_records.specs.Old.{read_record_in}
use Rattle.journal_records.specs.Views.{logged_of, script_of}
use Rattle.journal_records.specs.declared.records.Logged.{Logged}
use Rattle.book_recovery.specs.Reading.{may_stand, IsSetupOf}
use Rattle.book_recovery.proofs.Would.{renewed_if, stands_as}
use Rattle.book_recovery.proofs.adoption.would_stand.Goals as goal

pub returns-in-Texts : goal.returns-in-Texts
returns-in-Texts c =
    let body = c.args.body.now in
    let v = c.in-Texts in
    let named = map script_of v.scripts.items in
    let setup = c.in_ok-setup.setup in
    let reads : read_record_in newest body ≡ Some (renews named) =
    sym c.in_ok-logged.ensures.read ∙ (ap (option_map logged_of) c.in-Some.is ∙ ap (λ (x : Logged). Some (logged_of x)) v.is) in
    let some : IfSome setup (IsSetupOf named) = subst (λ (ts : List ScriptText). IfSome setup (IsSetupOf (map script_of ts))) c.deref.ensures.value c.in_ok-setup.ensures.some in
    let none : IfNone setup (setup_of_texts named ≡ None) =
    subst (λ (ts : List ScriptText). IfNone setup (setup_of_texts (map script_of ts) ≡ None)) c.deref.ensures.value c.in_ok-setup.ensures.none in
    record {
      stands = λ place m is.
          renewed_if c.args.shelf place body (library_of c.args.library.now) true c.args.alone c.args.seen.now c.args.book.now m is named reads setup some none c.is_some.result c.is_some.ensures;
    }

pub returns : goal.returns
returns c =
    let body = c.args.body.now in
    let l = library_of c.args.library.now in
    let told = c.in-Some.logged in
    let r = logged_of told in
    let reads : read_record_in newest body ≡ Some r = sym c.in_ok-logged.ensures.read ∙ ap (option_map logged_of) c.in-Some.is in
    let stands : may_stand c.args.alone (length l.setup) r ≡ true =
    ap (λ (n : ℕ). may_stand c.args.alone n r) (sym c.present.ensures) ∙ (sym c.may_stand.ensures ∙ c.if-not-may_stand.false) in
    record { stands = λ place m is. stands_as c.args.shelf place body l true c.args.alone c.args.seen.now c.args.book.now m is told c.is_read.result reads stands c.is_read.ensures }
