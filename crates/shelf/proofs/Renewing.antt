-- A shelf goes on with a setup, after records that make a book.
use Rattle.std.proofs.Common.{◌≡◌, inl, inr, ⊎_elim, ℕ, ◌+◌, ◌≤◌, ◌<◌, ◌^◌, Bool, true, false, List, [], ◌∷◌, ◌++◌, length, Some, None, Result, Ok, Err, IfOk, IsTrue, if◌then◌else◌, refl, sym, ◌∙◌, ap, subst, arith}
use Rattle.std.specs.Prelude.{OnOk, IsErrOf}
use Rattle.std.proofs.lemmas.Bool.Decides.{leb_tells}
use Rattle.std.proofs.lemmas.Option.{same_Some}
use Rattle.book_recovery.specs.SetupReader.Texts.{setup_of_texts as texts, IsReadSetup}
use Rattle.script_nodes.specs.Setup.{Named, Library}
use Rattle.script_nodes.specs.Views.{library_of}
use Rattle.script_nodes.specs.declared.library.Library as kept
use Rattle.web_disk.specs.View.{View, LeavesOnly}
use Rattle.page_journal.specs.Records.{newest, frames}
use Rattle.page_journal.specs.Holding.{MayHold, Holdable}
use Rattle.page_journal.specs.Settled.{IsSettled, view_of, bodies_in, length_of, length_with}
use Rattle.page_journal.specs.declared.journal.Journal.{Journal}
use Rattle.page_journal.proofs.Mending.{leaves_map}
use Rattle.page_journal.proofs.Scans.{quiet_none}
use Rattle.replay_spec.specs.Book.{Book, File, Instance, reopened, are_same}
use Rattle.replay_spec.specs.Book.{renewed as setup_line}
use Rattle.replay_spec.specs.Change.{with_line}
use Rattle.replay_spec.specs.Compaction.{renewed_length, renewed_file}
use Rattle.replay_spec.specs.Invariant.{IsOrderly}
use Rattle.journal_records.specs.Records.{IsInGrammar, renewal_of}
use Rattle.journal_records.specs.Laws.{AreRecordsExact}
use Rattle.book_recovery.specs.JournalSpec.Before.{state_at, Earlier, Made, plain}
use Rattle.replay_spec.specs.Recovery.{resettled}
use Rattle.book_recovery.proofs.JournalSpec.Makings.{renewed_push}
use Rattle.book_recovery.specs.JournalSpec.Lengths.{journal_rules}
use Rattle.book_recovery.specs.JournalSpec.Making.{Making, nothing, waits, waited, begun, made, damaged, other, waiting, beside, next_setup, made_in, book_of}
use Rattle.book_recovery.specs.JournalSpec.Opening as opening
use Rattle.book_recovery.specs.JournalSpec.Opening.{renewal_body, opened_book, opened_on}
use Rattle.book_recovery.specs.JournalSpec.Owning.{AreOwn}
use Rattle.book_recovery.specs.JournalSpec.Standing.{adds, Hold, Held, ThroughoutFrom}
use Rattle.book_recovery.specs.JournalSpec.Keeping.{Keeps, KeepsWith}
use Rattle.book_recovery.specs.JournalSpec.Events.{IsGiven}
use Rattle.book_recovery.specs.JournalSpec.Whole.{AreWhole, HasWholeScripts}
use Rattle.book_recovery.specs.JournalSpec.Disks.{IsFit}
use Rattle.book_recovery.specs.JournalSpec.Laws.{ASetupIsItsTexts, RenewalsAreKept, RenewalsStandBetween}
use Rattle.book_recovery.proofs.JournalSpec.Standings.{carried, settled_stands, OnlyNow}
use Rattle.book_recovery.specs.InstanceBook.declared.book.Book.{Book as RustBook}
use Rattle.book_recovery.specs.InstanceBook.Views as views
use Rattle.book_recovery.specs.InstanceBook.Views.{Beside}
use Rattle.book_recovery.specs.InstanceBook.Places as places
use Rattle.book_recovery.specs.InstanceBook.Places.{given}
use Rattle.book_recovery.specs.InstanceBook.Makes.{HasItsStates}
use Rattle.book_recovery.specs.Found.{FindsBook, IsBookInOrder, beside_file}
use Rattle.book_recovery.proofs.Longer.{instances_longer, places_longer, states_longer}
use Rattle.value_bytes.specs.Laws.{AreBytes}
use Rattle.journal_records.specs.Old.{read_record_in}
use Rattle.book_recovery.specs.JournalSpec.Old.{book_of_format, format_of_now}
use Rattle.book_recovery.specs.JournalSpec.Reading.{AreAllBytes}
use Rattle.file_copies.specs.OfFileNotes.declared.notes.FileNotes.{FileNotes}
use Rattle.book_recovery.specs.Noting.{mark_by, marks_of}
use Rattle.shelf.proofs.Setups.{few_scripts}
use Rattle.shelf.proofs.Known.{bodies_more, mark_made, bytes_more}
use Rattle.shelf.specs.Files.{file_in, read_file, KnowsRead, NotesRenewed}
use Rattle.shelf.specs.Opening.{making_of, opening_bodies, HasOwnRecords, OpensOwn, TellsSetup, TellsFull, IsLibraryOf, IsOpenedBook, Opens, Renews, IsMadeOf, IsDoneUnlessOutside, with_book}
use Rattle.shelf.specs.Owning.{StaysOwnThroughout}
use Rattle.shelf.specs.Views.{TellsStates}
use Rattle.book_recovery.specs.Found.{HasToldStates}
use Rattle.shelf.specs.Faults.{IsReadFaultOf}
use Rattle.shelf.specs.declared.begin.BeginFault.{BeginFault}
use Rattle.shelf.specs.declared.begin.BeginFault.TheVariants as fault
use Rattle.shelf.proofs.Openings.{found_fit, read_beside, there, found_is, found_again, found_makes, found_told}
use Rattle.shelf.proofs.Owned.{with_added, stays_own, settled_own, quiet_own}
use Rattle.shelf.proofs.Newest.{own_in, makes_so}

-- ---- what a setup adds, by what the records made

module _ (scripts : List Named) (shelf : ℕ) where
  pub opened_by : (m : Making) (x : Made) → made_in m ≡ Some x → opened_on shelf scripts m ≡ Some (record x { book = opened_book shelf scripts x.book })
  opened_by nothing x is = absurd (let no : ⊥ = cc in no)
  opened_by waited x is = absurd (let no : ⊥ = cc in no)
  opened_by (waits s) x is = let same : waiting s ≡ x = cc in ap (λ (z : Made). Some (record z { book = opened_book shelf scripts z.book })) same
  opened_by (begun y) x is = let same : y ≡ x = cc in ap (λ (z : Made). Some (record z { book = opened_book shelf scripts z.book })) same
  opened_by (made y) x is = let same : y ≡ x = cc in ap (λ (z : Made). Some (record z { book = opened_book shelf scripts z.book })) same
  opened_by (damaged p) x is = absurd (let no : ⊥ = cc in no)
  opened_by (other p) x is = absurd (let no : ⊥ = cc in no)

  pub bodies_by : (m : Making) (x : Made) → made_in m ≡ Some x → opening_bodies scripts shelf m ≡ opening.opening_bodies scripts x.book
  bodies_by nothing x is = absurd (let no : ⊥ = cc in no)
  bodies_by waited x is = absurd (let no : ⊥ = cc in no)
  bodies_by (waits s) x is = let same : waiting s ≡ x = cc in ap (λ (z : Made). opening.opening_bodies scripts z.book) same
  bodies_by (begun y) x is = let same : y ≡ x = cc in ap (λ (z : Made). opening.opening_bodies scripts z.book) same
  bodies_by (made y) x is = let same : y ≡ x = cc in ap (λ (z : Made). opening.opening_bodies scripts z.book) same
  bodies_by (damaged p) x is = absurd (let no : ⊥ = cc in no)
  bodies_by (other p) x is = absurd (let no : ⊥ = cc in no)

-- what the outside refuses is no fault of the records
pub outside_refuses : {T : Type 0} (scripts : List Named) (shelf : ℕ) (m : Making) (e : BeginFault) → IsDoneUnlessOutside {T = T} (Err e) → IsReadFaultOf scripts shelf m e
outside_refuses scripts shelf m e (inl h) = let is : e ≡ fault.DiskFault = cc h in subst (IsReadFaultOf scripts shelf m) (sym is) tt
outside_refuses scripts shelf m e (inr (inl h)) = let is : e ≡ fault.Memory = cc h in subst (IsReadFaultOf scripts shelf m) (sym is) tt
outside_refuses scripts shelf m e (inr (inr h)) = absurd (let no : ⊥ = cc h in no)

-- where it was not the disk, there was no memory
pub by_memory : {T : Type 0} (e : BeginFault) → IsDoneUnlessOutside {T = T} (Err e) → (e ≡ fault.DiskFault → ⊥) → IsErrOf {T = T} (Err e) fault.Memory
by_memory e (inl h) other_one = absurd (other_one (let is : e ≡ fault.DiskFault = cc h in is))
by_memory e (inr (inl h)) other_one = h
by_memory e (inr (inr h)) other_one = absurd (let none : ⊥ = cc h in none)

-- a book that was found is one that a shelf can be opened with
pub opened_book_of : (shelf : ℕ) (fed : Bool) (b : RustBook) (library : Library) → IsBookInOrder shelf b library → IsOpenedBook shelf fed b library
opened_book_of shelf fed b library o = record {
  placed = o.placed;
  kept = o.kept;
  shelf_is = o.shelf_is;
  read = λ leads. o.read;
  few = few_scripts library.setup o.read;
  orderly = o.orderly fed;
  whole = o.whole fed;
  range = o.range fed;
  again = o.again fed;
}

-- ---- a book that was read of a journal, under its library

module _ {D : Type 0} (view : D → View) (tells : Bool) (scripts : List Named) (shelf : ℕ) (j : Journal D) (b : RustBook) (old : kept.Library)
    (finds : IsTrue tells → FindsBook shelf (length_of j) false b (library_of old) (making_of view shelf j)) (order : IsBookInOrder shelf b (library_of old))
    (now_is : j.format ≡ newest) (settled : IsTrue tells → IsSettled view j) (only_now : OnlyNow (view_of view j)) (x : AreRecordsExact) (read : IsReadSetup scripts) (whole : AreWhole scripts) (renews : IsInGrammar (renewal_of scripts)) where
  abbrev pub lib : Library
  lib = library_of old

  abbrev pub pre : Book
  pre = there view shelf false j b lib

  whole_there : HasWholeScripts pre
  whole_there = order.whole false (length_of j) (read_file view shelf j)

  old_fit : IsTrue tells → IsFit view texts shelf j pre
  old_fit told = found_fit view shelf false j pre x (settled told) now_is whole_there (λ leads. order.read) (found_makes view shelf false j b lib (finds told)) (found_again view shelf false j b lib (finds told))

  up : pre.down ≡ None
  up = refl

  own_now : IsTrue tells → HasOwnRecords view shelf j → StaysOwnThroughout shelf (view_of view j) (view_of view j)
  own_now told own = quiet_own shelf (view_of view j) (view_of view j) (quiet_none (view_of view j) only_now).moments (settled_own view shelf j (settled told) (own_in view shelf j now_is own))

  -- ---- with the setup that it had

  module _ (its : ASetupIsItsTexts) (same : are_same scripts lib.setup ≡ true) where
    its_here : (scripts ≡ lib.setup) × (opened_book shelf scripts pre ≡ reopened pre)
    its_here = its texts shelf scripts pre read order.read same

    same_made : (told : IsTrue tells) → IsMadeOf view scripts shelf false j j (b, old)
    same_made told =
        let f = finds told in
        let opened : opened_book shelf scripts f.whole.book ≡ reopened pre = ap (opened_book shelf scripts) (found_is view shelf false j b lib f) ∙ its_here.1 in
        (f.whole.earlier, opened_by scripts shelf (making_of view shelf j) f.whole f.is ∙ ap (λ (y : Book). Some (record { book = y; earlier = f.whole.earlier })) opened)

    none_added : (told : IsTrue tells) → opening_bodies scripts shelf (making_of view shelf j) ≡ []
    none_added told =
        let f = finds told in
        bodies_by scripts shelf (making_of view shelf j) f.whole f.is
        ∙ (ap (λ (y : Book). opening.opening_bodies scripts y) (found_is view shelf false j b lib f) ∙ ap (λ (t : Bool). if t then [] else renewal_body scripts ∷ []) same)

    pub same_opens : Opens view tells scripts shelf false j j (Ok (b, old))
    same_opens = record {
      begun = λ told. same_made told;
      fit = λ told. old_fit told;
      told = λ told. found_told view shelf false j b lib (finds told);
      in_order = opened_book_of shelf false b lib order;
      setup = λ leads. sym its_here.0;
      own_moments = λ told own. own_now told own;
      refused = λ told. tt;
      quiet = λ told some other. inl (quiet_none (view_of view j) only_now);
      keeps = λ told no. inl (none_added told, (refl, λ image left. left));
      cause = λ e. absurd (let no : ⊥ = cc e in no);
      later = omega arith;
    }

    pub same_own : HasOwnRecords view shelf j → HasItsStates lib.all b → OpensOwn view shelf j (b, old)
    same_own own states = record { records = own; states = states }

  -- ---- with another one

  module _ (differs : are_same scripts lib.setup ≡ false) (kept_law : RenewalsAreKept) (between : RenewalsStandBetween) where
    abbrev pub body : List ℕ
    body = renewal_body scripts

    given_setup : IsGiven texts scripts
    given_setup = record { read = read; whole = whole; renews = renews }

    abbrev pub opened : Book
    opened = opened_book shelf scripts pre

    keeps_old : IsTrue tells → Keeps texts shelf (bodies_in view j) pre
    keeps_old told = (old_fit told).holds up

    keeps_new : IsTrue tells → KeepsWith texts shelf (bodies_in view j) (body ∷ []) opened
    keeps_new told = kept_law texts shelf (bodies_in view j) pre scripts (keeps_old told) given_setup refl differs

    pub one_added : (told : IsTrue tells) → opening_bodies scripts shelf (making_of view shelf j) ≡ body ∷ []
    one_added told =
        let f = finds told in
        bodies_by scripts shelf (making_of view shelf j) f.whole f.is
        ∙ (ap (λ (y : Book). opening.opening_bodies scripts y) (found_is view shelf false j b lib f) ∙ ap (λ (t : Bool). if t then [] else body ∷ []) differs)

    long_is : opened.length ≡ length_with j body
    long_is = ap (λ (t : Bool). if t then length_of j else renewed_length (Some (journal_rules shelf)) scripts (length_of j)) differs ∙ omega arith

    room : IsTrue tells → length_with j body ≤ 2 ^ 30 → Holdable (bodies_in view j) body
    room told short = omega (arith, short, (settled told).end)

    own_more : (told : IsTrue tells) → HasOwnRecords view shelf j → AreOwn texts shelf (bodies_in view j ++ body ∷ [])
    own_more told own = (keeps_new told).own own

    pub renewed_moments : (told : IsTrue tells) (v : View) → length_with j body ≤ 2 ^ 30 → LeavesOnly (view_of view j) v (MayHold newest (bodies_in view j) body) → HasOwnRecords view shelf j
        → StaysOwnThroughout shelf (view_of view j) v
    renewed_moments told v short run own = stays_own shelf (view_of view j) v (with_added shelf (bodies_in view j) body (room told short) own (own_more told own)) run

    pub renewed_between : (told : IsTrue tells) (new : Journal D) → length_with j body ≤ 2 ^ 30 → LeavesOnly (view_of view j) (view_of view new) (MayHold newest (bodies_in view j) body)
        → Renews view scripts shelf j new
    renewed_between told new short run =
        let f = finds told in
        let is = found_is view shelf false j b lib f in
        let l = between texts shelf (bodies_in view j) pre scripts (keeps_old told) given_setup refl differs (room told short) in
        let run_held = leaves_map (view_of view j) (view_of view new) (Hold newest (bodies_in view j) (adds body)) (Held l.0) (carried newest (bodies_in view j) (adds body) l.0 l.1) run in
        let Q : Book → Type 0 = λ y. ThroughoutFrom (bodies_in view j) texts shelf y (opened_book shelf scripts y) (view_of view j) (view_of view new) in
        record {
          made = f.whole;
          found = f.is;
          moments = subst Q (sym is) (l.0, l.1.format, l.1.bodies_are, run_held);
        }

    -- the setup was told, and the library has it
    module _ (new : Journal D) (new_is : new.format ≡ newest) (now : kept.Library) (has : IsLibraryOf lib.all scripts now) where
      lib_is : library_of now ≡ record { all = lib.all ++ scripts; setup = scripts }
      lib_is = ap (λ (all : List Named). record (library_of now) { all = all }) has.all ∙ ap (λ (ss : List Named). record { all = lib.all ++ scripts; setup = ss }) has.setup

      -- the library, as it is told
      abbrev pub told_lib : Library
      told_lib = record { all = lib.all ++ scripts; setup = scripts }

      abbrev pub over : (y : Beside) → Book
      over y = views.book_of told_lib y b

      over_is : (y : Beside) → over y ≡ record (views.book_of lib y b) { scripts = scripts }
      over_is y = ap (λ (is : List Instance). record (views.book_of lib y b) { scripts = scripts; instances = is }) (instances_longer scripts lib.all b order.placed)

      with_setup : (y : Book) → IsOrderly y → IsOrderly (record y { scripts = scripts })
      with_setup y o = record { below = o.below; different = o.different; doubted = o.doubted; logged = o.logged; instances = o.instances; doubt = o.doubt }

      told_order : IsBookInOrder shelf b told_lib
      told_order = record {
        placed = places_longer scripts lib.all b order.placed;
        kept = (order.kept.0, states_longer scripts lib.all (given order.kept.0) b order.kept.1);
        shelf_is = order.shelf_is;
        read = read;
        orderly = λ fed n f. subst IsOrderly (sym (over_is (beside_file fed n f))) (with_setup (views.book_of lib (beside_file fed n f) b) (order.orderly fed n f));
        whole = λ fed n f. subst HasWholeScripts (sym (over_is (beside_file fed n f))) (record { setup = whole; instances = (order.whole fed n f).instances });
        range = λ fed n f. let r = order.range fed n f in record { drawn = r.drawn; clock = r.clock; doubt = r.doubt };
        again = λ fed n f.
            let y = beside_file fed n f in
            over_is y ∙ (ap (λ (z : Book). record z { scripts = scripts }) (order.again fed n f) ∙ ap reopened (sym (over_is y)));
      }

      pub renewed_order : IsBookInOrder shelf b (library_of now)
      renewed_order = subst (IsBookInOrder shelf b) (sym lib_is) told_order

      pub renewed_states : HasItsStates lib.all b → HasItsStates (library_of now).all b
      renewed_states states = subst (λ (all : List Named). HasItsStates all b) (sym has.all) (states_longer scripts lib.all (places.own tt) b states)

      module _ (told : IsTrue tells) (ends : IsSettled view new) (bodies : bodies_in view new ≡ bodies_in view j ++ body ∷ []) (long : length_of new ≡ length_with j body) where
        abbrev pub f : FindsBook shelf (length_of j) false b lib (making_of view shelf j)
        f = finds told

        keeps_then : Keeps texts shelf (bodies_in view new) opened
        keeps_then = subst (λ (bs : List (List ℕ)). Keeps texts shelf bs opened) (sym bodies) (keeps_new told).keeps.keeps

        file_is : read_file view shelf new ≡ opened.file
        file_is = ap file_in keeps_then.makes

        abbrev pub new_beside : Beside
        new_beside = read_beside view shelf false new

        post_is : views.book_of (library_of now) new_beside b ≡ opened
        post_is =
            let here : read_beside view shelf false new ≡ record { length = opened.length; file = opened.file; down = None; follows = false } =
            ap (λ (n : ℕ). record new_beside { length = n }) (long ∙ sym long_is) ∙ ap (λ (y : File). record { length = opened.length; file = y; down = None; follows = false }) file_is in
            ap (λ (l : Library). views.book_of l new_beside b) lib_is
            ∙ (over_is new_beside
            ∙ (ap (λ (y : Beside). record (views.book_of lib y b) { scripts = scripts }) here
            ∙ ap (λ (z : Book). record z { scripts = scripts; length = opened.length; file = opened.file }) (found_again view shelf false j b lib f)))

        made_is : opened_book shelf scripts f.whole.book ≡ reopened (views.book_of (library_of now) new_beside b)
        made_is = ap (opened_book shelf scripts) (found_is view shelf false j b lib f) ∙ ap reopened (sym post_is)

        pub renewed_made : IsMadeOf view scripts shelf false j new (b, now)
        renewed_made = (f.whole.earlier, opened_by scripts shelf (making_of view shelf j) f.whole f.is ∙ ap (λ (y : Book). Some (record { book = y; earlier = f.whole.earlier })) made_is)

        pub renewed_fit : IsFit view texts shelf new (views.book_of (library_of now) new_beside b)
        renewed_fit = subst (IsFit view texts shelf new) (sym post_is) (record {
          settled = λ _. ends;
          holds = λ _. keeps_then;
          stands = settled_stands view texts shelf new opened ends (makes_so view shelf new opened new_is (keeps_then.earlier, keeps_then.makes)) refl;
        })

        pub renewed_told : TellsStates view (library_of now).all shelf new b
        renewed_told m is =
            let pushed = renewed_push x texts shelf (bodies_in view j) f.whole scripts f.is (ap (λ (y : Book). y.follows) (found_is view shelf false j b lib f)) renews read in
            let these : made_in (book_of texts shelf (bodies_in view new)) ≡ made_in (next_setup (8 + length (frames (bodies_in view j))) (length body) f.whole (Some scripts)) =
            ap (λ (bs : List (List ℕ)). made_in (book_of texts shelf bs)) bodies ∙ ap made_in pushed in
            let both : Some (beside f.whole.earlier (resettled (length body) scripts (plain f.whole))) ≡ Some m = sym these ∙ is in
            let same : f.whole.earlier ≡ m.earlier = ap (λ (y : Made). y.earlier) (same_Some (beside f.whole.earlier (resettled (length body) scripts (plain f.whole))) m both) in
            subst (λ (all : List Named). HasToldStates all m.earlier.states b) (sym has.all)
            (states_longer scripts lib.all (given (λ n. state_at n m.earlier.states)) b (subst (λ (e : Earlier). HasToldStates lib.all e.states b) same f.told))

        -- the record of the setup is one that recovery takes
        pub renewed_known : (old_notes new_notes : FileNotes) → KnowsRead view shelf j old_notes → NotesRenewed scripts old_notes new_notes → AreBytes body → KnowsRead view shelf new new_notes
        renewed_known old_notes new_notes known more small =
            let reads : read_record_in newest body ≡ Some (renewal_of scripts) = x.newest body ∙ x.back (renewal_of scripts) renews in
            let now_made : made_in (book_of_format newest texts shelf (bodies_in view j)) ≡ Some f.whole = ap made_in (format_of_now texts shelf (bodies_in view j)) ∙ f.is in
            let one : marks_of newest texts shelf 8 (bodies_in view j ++ body ∷ []) nothing ≡ marks_of newest texts shelf 8 (bodies_in view j) nothing ++ true ∷ [] =
            bodies_more newest shelf 8 (bodies_in view j) body nothing
            ∙ ap (λ (ts : List Bool). marks_of newest texts shelf 8 (bodies_in view j) nothing ++ ts) (mark_made f.whole (book_of_format newest texts shelf (bodies_in view j)) body (ap (λ (y : Book). y.follows) (found_is view shelf false j b lib f)) now_made ∙ ap (mark_by newest f.whole) reads) in
            let lined : opened.file ≡ with_line (setup_line scripts (length body)) (read_file view shelf j) =
            ap (λ (t : Bool). if t then read_file view shelf j else renewed_file (Some (journal_rules shelf)) scripts (read_file view shelf j)) differs in
            record {
              records = record {
                marks = more.marks ∙ (ap (λ (ts : List Bool). ts ++ true ∷ []) known.records.marks ∙ (sym one ∙ ap (λ (bs : List (List ℕ)). marks_of newest texts shelf 8 bs nothing) (sym bodies)));
                bytes = subst AreAllBytes (sym bodies) (bytes_more (bodies_in view j) body known.records.bytes small);
              };
              file = more.file ∙ (ap (with_line (setup_line scripts (length body))) known.file ∙ (sym lined ∙ sym file_is));
            }

    -- ---- what is answered

    module _ (new : Journal D) (new_is : new.format ≡ newest) (now : kept.Library) where
      short_opens : (result : Result (Unit {0}) BeginFault) → length_with j body ≤ 2 ^ 30 → TellsSetup view tells j new body result → OnOk result (IsLibraryOf lib.all scripts now)
          → Opens view tells scripts shelf false j new (with_book b now result)
      short_opens (Ok done) short t has = record {
        begun = λ told. renewed_made new new_is now has told (t.added told).0 (t.added told).1 t.len;
        fit = λ told. renewed_fit new new_is now has told (t.added told).0 (t.added told).1 t.len;
        told = λ told. renewed_told new new_is now has told (t.added told).0 (t.added told).1 t.len;
        in_order = opened_book_of shelf false b (library_of now) (renewed_order new new_is now has);
        setup = λ leads. has.setup;
        own_moments = λ told own. renewed_moments told (view_of view new) short (t.moments told) own;
        refused = λ told. tt;
        quiet = λ told some other. inr (renewed_between told new short (t.moments told));
        keeps = λ told no. inr ((t.added told).0, (t.added told).1 ∙ ap (λ (more : List (List ℕ)). bodies_in view j ++ more) (sym (one_added told)));
        cause = λ e. absurd (let no : ⊥ = cc e in no);
        later = t.later;
      }
      short_opens (Err e) short t has = record {
        begun = λ told. tt;
        fit = λ told. tt;
        told = λ told. tt;
        in_order = tt;
        setup = λ leads. tt;
        own_moments = λ told own. renewed_moments told (view_of view new) short (t.moments told) own;
        refused = λ told. outside_refuses scripts shelf (making_of view shelf j) e t.refused;
        quiet = λ told some other. inr (renewed_between told new short (t.moments told));
        keeps = λ told no. inl (refl, t.untouched (by_memory e t.refused (λ (is : e ≡ fault.DiskFault). no (λ i. Err (is i)))));
        cause = λ h. t.cause (let is : e ≡ fault.DiskFault = cc h in λ i. Err (is i));
        later = t.later;
      }

      -- what is known of the file, where the setup was told
      pub other_known : (result : Result (Unit {0}) BeginFault) → (length_with j body ≤ 2 ^ 30 → TellsSetup view tells j new body result) → (2 ^ 30 < length_with j body → TellsFull j new body result)
          → OnOk result (IsLibraryOf lib.all scripts now) → (told : IsTrue tells) → (old_notes new_notes : FileNotes) → KnowsRead view shelf j old_notes → OnOk result (NotesRenewed scripts old_notes new_notes) → OnOk result (KnowsRead view shelf new new_notes)
      other_known (Err e) short full has told old_notes new_notes known more = tt
      other_known (Ok done) short full has told old_notes new_notes known more =
          let fits : length_with j body ≤ 2 ^ 30 = ⊎_elim (λ t. t.1) (λ t. absurd (let no : ⊥ = cc ((full t.1).told) in no)) (leb_tells (length_with j body) (2 ^ 30)) in
          let t = short fits in
          renewed_known new new_is now has told (t.added told).0 (t.added told).1 t.len old_notes new_notes known more t.bytes

      full_here : 2 ^ 30 < length_with j body → Opens view tells scripts shelf false j j (Err (fault.Full (length_with j body)))
      full_here long = record {
        begun = λ told. tt;
        fit = λ told. tt;
        told = λ told. tt;
        in_order = tt;
        setup = λ leads. tt;
        own_moments = λ told own. own_now told own;
        refused = λ told.
            let f = finds told in
            record {
              made = record f.whole { book = opened_book shelf scripts f.whole.book };
              opened = opened_by scripts shelf (making_of view shelf j) f.whole f.is;
              is = ap (λ (y : Book). (opened_book shelf scripts y).length) (found_is view shelf false j b lib f) ∙ long_is;
              long = long;
              another = λ y is.
                  let same : f.whole ≡ y = same_Some f.whole y (sym f.is ∙ is) in
                  ap (λ (z : Made). are_same scripts z.book.scripts) (sym same)
                  ∙ (ap (λ (z : Book). are_same scripts z.scripts) (found_is view shelf false j b lib f) ∙ differs);
            };
        quiet = λ told some other. inl (quiet_none (view_of view j) only_now);
        keeps = λ told no. inl (refl, (refl, λ image left. left));
        cause = λ h. absurd (let no : ⊥ = cc h in no);
        later = omega arith;
      }

      full_opens : (result : Result (Unit {0}) BeginFault) → 2 ^ 30 < length_with j body → TellsFull j new body result → Opens view tells scripts shelf false j new (with_book b now result)
      full_opens result long t =
          subst (λ (k : Journal D). Opens view tells scripts shelf false j k (with_book b now result)) (sym t.journal)
          (subst (λ (r : Result (Unit {0}) BeginFault). Opens view tells scripts shelf false j j (with_book b now r)) (sym t.told) (full_here long))

      pub other_opens : (result : Result (Unit {0}) BeginFault) → (length_with j body ≤ 2 ^ 30 → TellsSetup view tells j new body result) → (2 ^ 30 < length_with j body → TellsFull j new body result)
          → OnOk result (IsLibraryOf lib.all scripts now) → Opens view tells scripts shelf false j new (with_book b now result)
      other_opens result short full has =
          ⊎_elim (λ t. short_opens result t.1 (short t.1) has) (λ t. full_opens result t.1 (full t.1)) (leb_tells (length_with j body) (2 ^ 30))

      short_own : (result : Result (Unit {0}) BeginFault) → TellsSetup view tells j new body result → OnOk result (IsLibraryOf lib.all scripts now)
          → (told : IsTrue tells) → HasOwnRecords view shelf j → HasItsStates lib.all b → IfOk (with_book b now result) (OpensOwn view shelf new)
      short_own (Ok done) t has told own states =
          record { records = subst (AreOwn texts shelf) (sym (t.added told).1) (own_more told own); states = renewed_states new new_is now has states }
      short_own (Err e) t has told own states = tt

      pub other_own : (result : Result (Unit {0}) BeginFault) → (length_with j body ≤ 2 ^ 30 → TellsSetup view tells j new body result) → (2 ^ 30 < length_with j body → TellsFull j new body result)
          → OnOk result (IsLibraryOf lib.all scripts now) → (told : IsTrue tells) → HasOwnRecords view shelf j → HasItsStates lib.all b → IfOk (with_book b now result) (OpensOwn view shelf new)
      other_own result short full has told own states =
          ⊎_elim (λ t. short_own result (short t.1) has told own states)
          (λ t. subst (λ (r : Result (Unit {0}) BeginFault). IfOk (with_book b now r) (OpensOwn view shelf new)) (sym (full t.1).told) tt)
          (leb_tells (length_with j body) (2 ^ 30))
