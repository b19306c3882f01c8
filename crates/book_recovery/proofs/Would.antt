-- Whether a record would stand after those that made a book.
use Rattle.std.proofs.Common.{◌≡◌, ◌∙◌, ap, sym, subst, ℕ, ◌+◌, ◌==◌, Bool, true, false, List, length, Option, Some, None, is_some, Result, Ok, Err, if◌then◌else◌, refl, arith}
use Rattle.std.specs.Prelude.{IfOk, IfSome, IfNone}
use Rattle.std.specs.declared.alloc.AllocError.{AllocError}
use Rattle.std.proofs.lemmas.Bool.Decides.{nat_tests}
use Rattle.script_nodes.specs.Setup.{Named, Library}
use Rattle.script_nodes.specs.declared.setup.Setup.{Setup}
use Rattle.script_nodes.specs.Views.{scripts_of}
use Rattle.page_journal.specs.Records.{newest}
use Rattle.replay_spec.specs.Book.{Change, ends, finishes, sweeps}
use Rattle.journal_records.specs.Records.{begins, renews}
use Rattle.journal_records.specs.Old.{read_record_in}
use Rattle.journal_records.specs.Views.{logged_of, page_change, ending_of, finish_of}
use Rattle.journal_records.specs.declared.records.Logged.{Logged}
use Rattle.journal_records.specs.declared.records.Logged.TheVariants as logged
use Rattle.setup_reader.specs.Texts.{setup_of_texts}
use Rattle.book_redo.specs.InstanceBook.declared.in_order.InOrder.{InOrder}
use Rattle.book_redo.specs.InstanceBook.declared.book.Book as kept
use Rattle.book_redo.specs.JournalSpec.Before.{Made}
use Rattle.book_redo.specs.JournalSpec.Retaking.{Told, unread, misread, told, told_in}
use Rattle.book_redo.specs.JournalSpec.Making.{Making, begun, made, other, began, made_in, fed_by, first_setup, told_next, next_setup, with_drawn}
use Rattle.book_redo.specs.JournalSpec.Old.{change_next, next_at, second_at, with_body_at}
use Rattle.book_redo.specs.Redo.{is_read}
use Rattle.book_recovery.specs.Adopting.{begun_by, TellsStanding, IsReadBehind}
use Rattle.book_recovery.specs.Found.{beside_file}
use Rattle.book_recovery.specs.Reading.{making_of, may_stand, IsMadeAs, IsSetupOf}
use Rattle.book_recovery.proofs.Made.{comes_at, renewed_damaged}

-- ---- the first one

module _ (shelf : ℕ) (body : List ℕ) where
  module _ (number : ℕ) (named : List (List ℕ × List ℕ)) (read : read_record_in newest body ≡ Some (begins number named)) where
    begins_by : (o : Option (List Named)) → setup_of_texts named ≡ o → begun_by shelf body ≡ first_setup true shelf 14 (length body) number o
    begins_by o reads = ap (fed_by setup_of_texts shelf 14 (length body)) read ∙ ap (first_setup true shelf 14 (length body) number) reads

    pub begun_if : number ≡ shelf → (o : Option Setup) → IfSome o (IsSetupOf named) → IfNone o (setup_of_texts named ≡ None) → (t : Bool) → t ≡ is_some o → TellsStanding (Ok t) (begun_by shelf body)
    begun_if same None some none t is =
        subst (λ (u : Bool). TellsStanding (Ok u) (begun_by shelf body)) (sym is) (ap made_in (begins_by None none))
    begun_if same (Some setup) some none t is =
        let scripts = scripts_of setup in
        let here : (number == shelf) ≡ true = grind (arith, nat_tests, same) in
        subst (λ (u : Bool). TellsStanding (Ok u) (begun_by shelf body)) (sym is)
        (began true shelf 14 (length body) scripts, ap made_in (begins_by (Some scripts) some.read ∙ ap (λ (u : Bool). if u then begun (began true shelf 14 (length body) scripts) else other 14) here))

-- ---- a later one

-- what is told of the state of a page stands, where it can be read
told_stands : (place n : ℕ) (w : Made) (c : Change) (x : Told) (t : Bool) → t ≡ is_read x → TellsStanding (Ok t) (told_next place n w c x)
told_stands place n w c unread t is = subst (λ (u : Bool). TellsStanding (Ok u) (told_next place n w c unread)) (sym is) (_, refl)
told_stands place n w c misread t is = subst (λ (u : Bool). TellsStanding (Ok u) (told_next place n w c misread)) (sym is) refl
told_stands place n w c (told d) t is = subst (λ (u : Bool). TellsStanding (Ok u) (told_next place n w c (told d))) (sym is) (_, refl)

made_behind : (t : Bool) (m k : Making) → m ≡ k → TellsStanding (Ok t) k → TellsStanding (Ok t) m
made_behind t m k e h = subst (TellsStanding (Ok t)) (sym e) h

module _ (shelf place : ℕ) (body : List ℕ) (library : Library) (fed alone : Bool) (before : InOrder (Unit {0})) (b : kept.Book) (m : Making) (is : IsMadeAs shelf (place + 1) fed alone b library before m) where
  abbrev w : Made
  w = is.whole

  abbrev next : Making
  next = with_body_at newest setup_of_texts shelf place body m

  pub renewed_if : (named : List (List ℕ × List ℕ)) → read_record_in newest body ≡ Some (renews named) → (o : Option Setup) → IfSome o (IsSetupOf named) → IfNone o (setup_of_texts named ≡ None)
      → (t : Bool) → t ≡ is_some o → TellsStanding (Ok t) next
  renewed_if named read None some none t so =
      subst (λ (u : Bool). TellsStanding (Ok u) next) (sym so) (ap made_in (renewed_damaged newest shelf place body library fed alone before b m is named read none))
  renewed_if named read (Some setup) some none t so =
      subst (λ (u : Bool). TellsStanding (Ok u) next) (sym so) (_, ap made_in (by_alone alone is.is ∙ ap (next_setup place (length body) w) some.read))
    where
      by_alone : (u : Bool) → m ≡ making_of u w → next ≡ next_setup place (length body) w (setup_of_texts named)
      by_alone true e = ap (with_body_at newest setup_of_texts shelf place body) e ∙ ap (second_at newest setup_of_texts place (length body) w) read
      by_alone false e = ap (with_body_at newest setup_of_texts shelf place body) e ∙ ap (next_at newest setup_of_texts place (length body) w) read

  -- what tells no page stands
  quiet_stands : (c : Change) (t : Bool) → t ≡ true → told_in w.earlier w.book c None ≡ unread → next ≡ change_next newest place (length body) w c None → TellsStanding (Ok t) next
  quiet_stands c t so none comes =
      made_behind t next (told_next place (length body) w c unread) (comes ∙ ap (told_next place (length body) w c) none) (told_stands place (length body) w c unread t so)

  pub stands_if : (l : Logged) (t : Bool) → read_record_in newest body ≡ Some (logged_of l) → may_stand alone (length library.setup) (logged_of l) ≡ true → IsReadBehind library b (logged_of l) t → TellsStanding (Ok t) next
  stands_if (logged.Begin s scripts) t read stands reads = absurd (let never : ⊥ = cc stands in never)
  stands_if (logged.Page p state) t read stands reads =
      let c = page_change p in
      made_behind t next (told_next place (length body) w c (told_in w.earlier w.book c (Some state)))
      (comes_at newest shelf place body library fed alone before b m is c (Some state) read stands)
      (told_stands place (length body) w c (told_in w.earlier w.book c (Some state)) t (reads w (beside_file fed (place + 1) w.book.file) 0 0 is.book is.tells.states))
  stands_if (logged.Ended e) t read stands reads =
      quiet_stands (ends (ending_of e)) t reads refl (comes_at newest shelf place body library fed alone before b m is (ends (ending_of e)) None read stands)
  stands_if (logged.Finish f) t read stands reads =
      quiet_stands (finishes (finish_of f)) t reads refl (comes_at newest shelf place body library fed alone before b m is (finishes (finish_of f)) None read stands)
  stands_if (logged.Sweep clock) t read stands reads =
      quiet_stands (sweeps clock) t reads refl (comes_at newest shelf place body library fed alone before b m is (sweeps clock) None read stands)
  stands_if (logged.Texts scripts) t read stands reads = absurd (let never : ⊥ = cc stands in never)
  stands_if (logged.Drawn number) t read stands reads = subst (λ (u : Bool). TellsStanding (Ok u) next) (sym reads) (with_drawn number w, ap made_in (by_alone alone is.is stands))
    where
      by_alone : (u : Bool) → m ≡ making_of u w → u ≡ true → next ≡ made (with_drawn number w)
      by_alone true e single = ap (with_body_at newest setup_of_texts shelf place body) e ∙ ap (second_at newest setup_of_texts place (length body) w) read
      by_alone false e single = absurd (let never : ⊥ = cc single in never)
  stands_if logged.Follow t read stands reads = absurd (let never : ⊥ = cc stands in never)
  stands_if logged.Promoted t read stands reads = absurd (let never : ⊥ = cc stands in never)

  pub stands_as : (l : Logged) (x : Result Bool AllocError) → read_record_in newest body ≡ Some (logged_of l) → may_stand alone (length library.setup) (logged_of l) ≡ true
      → IfOk x (IsReadBehind library b (logged_of l)) → TellsStanding x next
  stands_as l (Ok t) read stands reads = stands_if l t read stands reads
  stands_as l (Err e) read stands reads = tt
