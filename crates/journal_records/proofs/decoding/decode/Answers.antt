use Rattle.std.proofs.Common.{sym, ◌≡◌, ◌∙◌, ap, refl}
use Rattle.std.specs.Prelude.{None}
use Rattle.std.proofs.lemmas.Bool.{false≢true}
use Rattle.journal_records.specs.Old.{read_front_in, read_record_in}
use Rattle.journal_records.specs.Views.{logged_of}
use Rattle.journal_records.proofs.Exact.{record_spells}
use Rattle.journal_records.proofs.Older.{record_fits, newest, whole_record, more_than_a_record, no_record}
use Rattle.journal_records.proofs.decoding.decode.Goals as goal

pub returns-then-at_end-clause-read : goal.returns-then-at_end-clause-read
returns-then-at_end-clause-read c =
    let e = ap (read_front_in c.args.format) (sym c.over-cursor.ensures) ∙ c.in-Ok.ensures in
    sym (whole_record c.args.format c.args.body.now c.front.new.cursor (logged_of c.in-Ok.logged) e (c.if-at_end.ensures.0 refl))

pub returns-then-at_end-clause-fits : goal.returns-then-at_end-clause-fits
returns-then-at_end-clause-fits c =
    let e = ap (read_front_in c.args.format) (sym c.over-cursor.ensures) ∙ c.in-Ok.ensures in
    record_fits c.args.format c.args.body.now (logged_of c.in-Ok.logged) (λ i. (c.type_inv.body i).fits)
    (whole_record c.args.format c.args.body.now c.front.new.cursor (logged_of c.in-Ok.logged) e (c.if-at_end.ensures.0 refl))

pub returns-then-at_end-clause-spelled : goal.returns-then-at_end-clause-spelled
returns-then-at_end-clause-spelled c = λ is_newest.
    let e = ap (read_front_in c.args.format) (sym c.over-cursor.ensures) ∙ c.in-Ok.ensures in
    record_spells c.args.body.now (logged_of c.in-Ok.logged) (λ i. (c.type_inv.body i).fits)
    (sym (newest c.args.body.now) ∙ ap (λ f. read_record_in f c.args.body.now) (sym is_newest)
    ∙ whole_record c.args.format c.args.body.now c.front.new.cursor (logged_of c.in-Ok.logged) e (c.if-at_end.ensures.0 refl))

pub returns-else-at_end-clause-read : goal.returns-else-at_end-clause-read
returns-else-at_end-clause-read c =
    let e = ap (read_front_in c.args.format) (sym c.over-cursor.ensures) ∙ c.in-Ok.ensures in
    sym (more_than_a_record c.args.format c.args.body.now c.front.new.cursor (logged_of c.in-Ok.logged) e (λ empty. false≢true (c.if-at_end.ensures.1 empty)))

pub returns-in-Err-Misspelled-clause-read : goal.returns-in-Err-Misspelled-clause-read
returns-in-Err-Misspelled-clause-read c =
    let none : read_front_in c.args.format c.over-cursor.result ≡ None = rw c.in-Err-Misspelled.field-0-is at c.in-Err-Misspelled.ensures in
    sym (no_record c.args.format c.args.body.now (ap (read_front_in c.args.format) (sym c.over-cursor.ensures) ∙ none))
