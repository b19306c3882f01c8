-- A shelf in order stays so where a change lands that would be taken in again, whatever its page's state is.
use Rattle.std.proofs.Common.{◌≡◌, ◌∙◌, ap, sym, subst, refl, ℕ, ◌+◌, ◌≤◌, ◌^◌, ◌++◌, ◌∷◌, [], Bool, IsTrue, true, false, List, length, Option, Some, None, option_map, Contains, inl, arith}
use Rattle.script_value.specs.declared.outcome.TxName.{TxName}
use Rattle.book_recovery.specs.SetupReader.Texts.{setup_of_texts as texts}
use Rattle.web_disk.specs.View.{View, LeavesOnly}
use Rattle.page_journal.specs.Records.{newest, stored}
use Rattle.page_journal.specs.Holding.{MayHold}
use Rattle.page_journal.specs.Settled as journal
use Rattle.page_journal.specs.Settled.{IsSettled, view_of, bodies_in, length_of, is_broken}
use Rattle.page_journal.specs.declared.journal.Journal.{Journal}
use Rattle.replay_spec.specs.Book.{Change, opens, extends, ends, finishes, sweeps, landing, Doubt, Book, spend, reopened}
use Rattle.replay_spec.specs.Change.{clock_by, land}
use Rattle.replay_spec.specs.Step.{kept, recovered}
use Rattle.replay_spec.specs.Recovery.{of_length, number_in}
use Rattle.replay_spec.specs.Invariant.{Among, IsOf, IsOrderlyChange}
use Rattle.replay_spec.proofs.Stand.{among_of, Later}
use Rattle.replay_spec.proofs.Orderly.{published, failed}
use Rattle.journal_records.specs.Records.{changes, IsInGrammar}
use Rattle.journal_records.specs.Laws.{AreRecordsExact}
use Rattle.book_recovery.specs.JournalSpec.Before.{States, Made}
use Rattle.book_recovery.specs.JournalSpec.Making as make
use Rattle.book_recovery.specs.JournalSpec.Making.{made_in}
use Rattle.book_recovery.specs.JournalSpec.Retaking.{Told, told_in, with_state}
use Rattle.book_recovery.specs.JournalSpec.Whole.{HasWholeScripts}
use Rattle.book_recovery.specs.JournalSpec.Keeping.{IsTakenAs, IsTaken, IsOut, without_number, landed_in, Keeps, body_by}
use Rattle.book_recovery.specs.JournalSpec.Standing.{adds, Between, Carries, HasRoom, if_kept, Throughout}
use Rattle.book_recovery.specs.JournalSpec.Disks.{IsFit}
use Rattle.book_recovery.specs.JournalSpec.Spelling.{IsTickInRange, IsInRange}
use Rattle.book_recovery.specs.JournalSpec.Laws.{LandingsAreKept, LandingsStandBetween}
use Rattle.book_recovery.proofs.JournalSpec.Fitting.{whole_by}
use Rattle.book_recovery.proofs.JournalSpec.Taking.{IsNew}
use Rattle.book_recovery.proofs.JournalSpec.Standings.{settled_stands, written, left_standing, OnlyNow, CountsNow}
use Rattle.book_recovery.specs.InstanceBook.Makes.{HasSomeStates}
use Rattle.shelf.specs.declared.doubt.Doubt as doubt_type
use Rattle.shelf.specs.declared.shelf.Shelf.{Shelf}
use Rattle.shelf.specs.Views.{doubt_of, library_in, book_in, IsInOrder}
use Rattle.book_recovery.specs.Found.{HasToldStates}
use Rattle.shelf.specs.Events.{HasMoments}
use Rattle.shelf.proofs.Standing.{IsQuietCall, throughout_alike}
use Rattle.value_bytes.specs.Laws.{AreBytes}
use Rattle.file_copies.specs.OfFileNotes.Files.{marks_in, IsNoted}
use Rattle.shelf.proofs.Newest.{newest_images, makes_so}
use Rattle.shelf.proofs.Known.{known_added, known_doubted, may_newest, marked}
use Rattle.shelf.proofs.Leads.{leads_in, unfed, out_leads}
use Rattle.shelf.proofs.Order.{order_of}
use Rattle.shelf.proofs.Taken.{number_of, taken_fits}
use Rattle.shelf.proofs.Tales.{told_landed}

-- the change of a segment leaves the clock
clock_stays : (k : ℕ) (c : Change) (clock : ℕ) → IsOf k c → clock_by c clock ≡ clock
clock_stays k (opens o) clock e = refl
clock_stays k (extends x) clock e = refl
clock_stays k (ends x) clock e = refl
clock_stays k (finishes f) clock e = refl
clock_stays k (sweeps tick) clock e = absurd e

no_tick : (k : ℕ) (c : Change) → IsOf k c → IsTickInRange c
no_tick k (opens o) e = tt
no_tick k (extends x) e = tt
no_tick k (ends x) e = tt
no_tick k (finishes f) e = tt
no_tick k (sweeps tick) e = absurd e

-- where a change is in doubt
abbrev pub doubted_in : (count : ℕ) → Change → (inside : List TxName) → Book → Book
doubted_in count c inside b = record b { down = Some (record { count = count; work = landing c inside }) }

module _ {D N : Type 0} (view : D → View) (tells : Bool) (s : Shelf D N) (order : IsInOrder view tells s) (up : s.down ≡ None) (k : ℕ) (out : Contains (book_in view s).out k)
    (c : Change) (is_its : IsOf k c) (state : Option (List ℕ)) (inside : List TxName) (fits : IsInGrammar (changes c state)) (x : Told) (taken : IsTakenAs (book_in view s) c inside x)
    (read : (told : IsTrue tells) → told_in ((order.fit told).holds (ap (λ (o : Option doubt_type.Doubt). option_map doubt_of o) up)).earlier (book_in view s) c state ≡ x)
    (room : length_of s.journal + 5 + length (body_by c state) ≤ 2 ^ 30) where
  abbrev b : Book
  b = book_in view s

  abbrev shelf : ℕ
  shelf = s.rules.number

  abbrev body : List ℕ
  body = body_by c state

  -- the book after the change, and the one where it is in doubt
  abbrev pub landed_book : Book
  landed_book = land (of_length (length body)) c inside (spend k b)

  abbrev pub doubted_book : (count : ℕ) → Book
  doubted_book count = doubted_in count c inside (spend k b)

  leads : s.follower ≡ None
  leads = out_leads view tells s order k out

  abbrev none_down : b.down ≡ None
  none_down = ap (λ (o : Option doubt_type.Doubt). option_map doubt_of o) up

  number : number_in c ≡ Some k
  number = number_of k c is_its

  its_out : IsOut b (number_in c)
  its_out = subst (IsOut b) (sym number) out

  landed_is : landed_in (length body) c inside b ≡ landed_book
  landed_is = ap (λ (o : Option ℕ). land (of_length (length body)) c inside (without_number o b)) number

  change_fits : IsOrderlyChange b.clock b.instances c
  change_fits = taken_fits b c inside x taken

  -- each is a later book
  pub landed_later : Later b landed_book
  landed_later = published (of_length (length body)) b k c inside order.orderly (among_of b.out k out) none_down change_fits is_its

  pub doubted_later : (count : ℕ) → Later b (doubted_book count)
  doubted_later count = failed b count k c inside order.orderly (among_of b.out k out) change_fits is_its

  whole_landed : HasWholeScripts landed_book
  whole_landed = record {
    setup = order.scripts_are.setup;
    instances = whole_by b.scripts b.instances c inside order.orderly.instances.apart order.scripts_are.setup order.scripts_are.instances;
  }

  range_landed : IsInRange landed_book
  range_landed =
      let clock = clock_stays k c b.clock is_its in
      record { drawn = order.range.drawn; clock = omega (arith, clock, order.range.clock); doubt = order.range.doubt }

  range_doubted : (count : ℕ) → IsInRange (doubted_book count)
  range_doubted count = record { drawn = order.range.drawn; clock = order.range.clock; doubt = no_tick k c is_its }

  module _ (told : IsTrue tells) where
    abbrev fit : IsFit view texts shelf s.journal b
    fit = order.fit told

    abbrev bodies : List (List ℕ)
    bodies = bodies_in view s.journal

    has_room : HasRoom bodies (adds body)
    has_room = let settled = fit.settled none_down in omega (arith, settled.end, room)

    abbrev there : Keeps texts shelf bodies b
    there = fit.holds none_down

    taken_there : IsTaken there.earlier b c state inside
    taken_there = subst (IsTakenAs b c inside) (sym (read told)) taken

    new_there : IsNew there.earlier.seen c
    new_there n e seen =
        let both : Some n ≡ Some k = sym (number_of n c e) ∙ number in
        let same : n ≡ k = cc both in
        there.recoverable.used k (subst (λ (m : ℕ). Among m there.earlier.seen) same seen) (inl (among_of b.out k out))

    keeps : LandingsAreKept → Keeps texts shelf (bodies ++ body ∷ []) landed_book
    keeps law = subst (Keeps texts shelf (bodies ++ body ∷ [])) landed_is (law texts shelf bodies b c state inside there none_down (leads_in s leads) fits taken_there its_out)

    between : LandingsStandBetween → (l : Between texts shelf b landed_book) × Carries newest bodies (adds body) l
    between law =
        subst (λ (d : Book). (l : Between texts shelf b d) × Carries newest bodies (adds body) l) landed_is
        (law texts shelf bodies b c state inside there none_down (leads_in s leads) fits taken_there its_out has_room)

    -- at each moment of a call that adds the body
    module _ (mid new : Journal D) (call : IsQuietCall view tells s.journal mid) (run : LeavesOnly (view_of view mid) (view_of view new) (MayHold newest (bodies_in view mid) body)) where
      throughout : LandingsStandBetween → OnlyNow (view_of view s.journal) → Throughout texts shelf b landed_book (view_of view s.journal) (view_of view new)
      throughout law only_now =
          let l = between law in
          let here : LeavesOnly (view_of view mid) (view_of view new) (MayHold newest bodies body) =
          subst (λ (bs : List (List ℕ)). LeavesOnly (view_of view mid) (view_of view new) (MayHold newest bs body)) (ap stored call.seen) run in
          written newest bodies texts shelf b landed_book (view_of view s.journal) (view_of view mid) (view_of view new) (adds body) only_now (newest_images view s.journal (fit.settled none_down) order.knows.newest_is) l.0 l.1 call.images call.time here

  module _ (t : Shelf D N) (told_same : t.library ≡ s.library) (limits : t.rules ≡ s.rules) (mid : Journal D) (call : IsQuietCall view tells s.journal mid)
      (run : IsTrue tells → LeavesOnly (view_of view mid) (view_of view t.journal) (MayHold newest (bodies_in view mid) body)) (some : HasSomeStates (library_in t).all t.book) (sound : journal.IsSound t.journal) where
    -- its record was added
    module _ (is : book_in view t ≡ landed_book) where
      -- the records tell one state more
      tells_then : AreRecordsExact → (told : IsTrue tells) (m : Made) → made_in (make.book_of texts shelf (bodies told ++ body ∷ [])) ≡ Some m → HasToldStates (library_in t).all (with_state (Some k) x (there told).earlier.states) t.book
          → HasToldStates (library_in t).all m.earlier.states t.book
      tells_then exact told m made_there stay =
          let states = (there told).earlier.states in
          let first = told_landed exact shelf (bodies told) b c state inside (there told) fits (taken_there told) (new_there told) (leads_in s leads) m made_there in
          let then_them : m.earlier.states ≡ with_state (Some k) x states = first ∙ (ap (λ (o : Option ℕ). with_state o (told_in (there told).earlier b c state) states) number ∙ ap (λ (y : Told). with_state (Some k) y states) (read told)) in
          subst (λ (ys : States). HasToldStates (library_in t).all ys t.book) (sym then_them) stay

      pub landed_order : AreRecordsExact → LandingsAreKept → is_broken t.journal ≡ false → (IsTrue tells → IsSettled view t.journal × (bodies_in view t.journal ≡ bodies_in view mid ++ body ∷ []))
          → ((told : IsTrue tells) → HasToldStates (library_in t).all (with_state (Some k) x (there told).earlier.states) t.book)
          → t.journal.format ≡ newest → IsNoted t.notes → marks_in t.notes ≡ marks_in s.notes ++ true ∷ [] → AreBytes body → t.follower ≡ s.follower → IsInOrder view tells t
      landed_order exact law whole added stay now noted marks bytes followed =
          order_of view tells s t landed_book order some landed_later.orderly
          whole_landed range_landed refl is told_same limits followed (record {
            sound = sound;
            whole = λ _. whole;
            fit = λ told.
                let settled = (added told).0 in
                let these : bodies told ++ body ∷ [] ≡ bodies_in view t.journal = ap (λ (bs : List (List ℕ)). bs ++ body ∷ []) (sym (ap stored call.seen)) ∙ sym (added told).1 in
                let all = subst (λ (bs : List (List ℕ)). Keeps texts shelf bs landed_book) these (keeps told law) in
                record { settled = λ _. settled; holds = λ _. all; stands = settled_stands view texts shelf t.journal landed_book settled (makes_so view shelf t.journal landed_book now (all.earlier, all.makes)) none_down };
            told = λ told _ m made_there.
                let these : bodies told ++ body ∷ [] ≡ bodies_in view t.journal = ap (λ (bs : List (List ℕ)). bs ++ body ∷ []) (sym (ap stored call.seen)) ∙ sym (added told).1 in
                tells_then exact told m (ap (λ (bs : List (List ℕ)). made_in (make.book_of texts shelf bs)) these ∙ made_there) (stay told);
            knows = known_added view tells shelf s.journal mid t.journal (s.down ≡ None) (t.down ≡ None) s.notes t.notes body order.knows up call now noted marks bytes added
                (λ told. marked exact shelf (bodies told) b c state inside (there told) fits (taken_there told) (new_there told) (leads_in s leads));
            fed = unfed view tells t (followed ∙ leads);
          })

      pub landed_run : LandingsStandBetween → IsTrue tells → OnlyNow (view s.journal.disk) → HasMoments view s t
      landed_run law told only_now =
          let n = length body in
          let up_there : landed_book.down ≡ None = none_down in
          let same : if_kept n landed_book ≡ landed_book = ap (λ (o : Option Doubt). recovered (of_length n) kept o landed_book) up_there in
          let run_here = throughout told mid t.journal call (run told) law only_now in (
            n,
            subst (λ (y : Book). Throughout texts shelf b (if_kept n y) (view s.journal.disk) (view t.journal.disk)) (sym is)
                (subst (λ (y : Book). Throughout texts shelf b y (view s.journal.disk) (view t.journal.disk)) (sym same) run_here),
          )

    -- it is in doubt
    module _ (count : ℕ) (is : book_in view t ≡ doubted_book count) (in_doubt : t.down ≡ None → ⊥) where
      abbrev d : Book
      d = doubted_book count

      kept_same : reopened landed_book ≡ reopened (if_kept (length body) d)
      kept_same = refl

      pub doubted_order : LandingsStandBetween → OnlyNow (view s.journal.disk) → CountsNow (view t.journal.disk) → t.journal.format ≡ newest → IsNoted t.notes → t.follower ≡ s.follower → IsInOrder view tells t
      doubted_order law only_now counts now noted followed =
          order_of view tells s t d order some (doubted_later count).orderly
          (record { setup = order.scripts_are.setup; instances = order.scripts_are.instances }) (range_doubted count) refl is told_same limits followed (record {
            sound = sound;
            whole = λ none. absurd (in_doubt none);
            fit = λ told. record {
              settled = λ none. absurd (let no : ⊥ = cc none in no);
              holds = λ none. absurd (let no : ⊥ = cc none in no);
              stands = (left_standing texts shelf (length body) b landed_book d (view s.journal.disk) (view t.journal.disk) counts (throughout told mid t.journal call (run told) law only_now) refl kept_same).0;
            };
            told = λ told none. absurd (in_doubt none);
            knows = known_doubted view tells shelf t.journal (t.down ≡ None) t.notes now noted (λ told. may_newest (view_of view mid) (view_of view t.journal) (bodies_in view mid) body counts (run told)) in_doubt;
            fed = unfed view tells t (followed ∙ leads);
          })

      pub doubted_run : LandingsStandBetween → IsTrue tells → OnlyNow (view s.journal.disk) → HasMoments view s t
      doubted_run law told only_now =
          let n = length body in (
            n,
            subst (λ (y : Book). Throughout texts shelf b (if_kept n y) (view s.journal.disk) (view t.journal.disk)) (sym is)
                (throughout_alike shelf b landed_book (if_kept n d) (view s.journal.disk) (view t.journal.disk) kept_same (throughout told mid t.journal call (run told) law only_now)),
          )
