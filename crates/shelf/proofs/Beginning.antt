-- A shelf begins on a journal without the record that a journal begins with.
use Rattle.std.proofs.Common.{◌≡◌, ◌≢◌, inl, inr, ⊎_elim, ℕ, ◌≤◌, ◌<◌, ◌^◌, ◌+◌, Bool, false, List, [], ◌∷◌, ◌++◌, length, Some, None, Ok, Err, IsTrue, refl, sym, ◌∙◌, ap, subst, arith}
use Rattle.std.proofs.lemmas.Bool.Decides.{leb_tells}
use Rattle.book_recovery.specs.SetupReader.Texts.{setup_of_texts as texts, IsReadSetup}
use Rattle.script_nodes.specs.Setup.{Named, Library}
use Rattle.script_nodes.specs.Views.{library_of}
use Rattle.script_nodes.specs.declared.library.Library as kept
use Rattle.web_disk.specs.View.{View, LeavesOnly}
use Rattle.page_journal.specs.Records.{newest}
use Rattle.page_journal.proofs.Frames.{length-at_rest}
use Rattle.page_journal.specs.Holding.{MayHold}
use Rattle.page_journal.specs.Settled.{IsSettled, view_of, bodies_in, length_of, length_with}
use Rattle.page_journal.specs.declared.journal.Journal.{Journal}
use Rattle.page_journal.proofs.Scans.{quiet_none}
use Rattle.replay_spec.specs.Book.{Book, File, reopened}
use Rattle.replay_spec.specs.Rules.{Rules, first_file, empty_book}
use Rattle.replay_spec.specs.Invariant.{IsOrderly}
use Rattle.replay_spec.proofs.Orderly.{books_stay}
use Rattle.journal_records.specs.Records.{IsInGrammar, begin_of}
use Rattle.journal_records.specs.Laws.{AreRecordsExact}
use Rattle.book_recovery.specs.JournalSpec.Before.{Made, state_at, nothing_told, made_of}
use Rattle.book_recovery.specs.JournalSpec.Lengths.{journal_rules}
use Rattle.book_recovery.specs.JournalSpec.Making.{nothing, waited, began, made_in, book_of}
use Rattle.book_recovery.specs.JournalSpec.Opening.{first_body}
use Rattle.book_recovery.specs.JournalSpec.Owning.{AreOwn}
use Rattle.book_recovery.specs.JournalSpec.Standing.{Makes}
use Rattle.book_recovery.specs.JournalSpec.Whole.{AreWhole, HasWholeScripts}
use Rattle.book_recovery.specs.JournalSpec.Spelling.{IsInRange}
use Rattle.book_recovery.specs.JournalSpec.Disks.{IsFit}
use Rattle.book_recovery.specs.InstanceBook.declared.book.Book.{Book as RustBook}
use Rattle.book_recovery.specs.InstanceBook.Views as views
use Rattle.book_recovery.specs.InstanceBook.Views.{Beside}
use Rattle.book_recovery.specs.InstanceBook.Swept.{IsEmpty}
use Rattle.book_recovery.specs.InstanceBook.Makes.{HasPlaces, HasItsStates, HasWhatIsGiven}
use Rattle.book_recovery.specs.Found.{IsBookInOrder, beside_file}
use Rattle.file_copies.specs.OfFileNotes.declared.notes.FileNotes.{FileNotes}
use Rattle.book_recovery.specs.Noting.{marks_of}
use Rattle.book_recovery.specs.JournalSpec.Reading.{AreAllBytes}
use Rattle.book_recovery.proofs.JournalSpec.Standings.{OnlyNow}
use Rattle.shelf.specs.Files.{file_in, read_file, KnowsRead, NotesBegun}
use Rattle.shelf.specs.Opening.{making_of, OpensOwn, TellsSetup, TellsFull, IsLibraryOf, Opens, IsMadeOf}
use Rattle.shelf.specs.Owning.{StaysOwnThroughout}
use Rattle.shelf.specs.declared.begin.BeginFault.{BeginFault}
use Rattle.shelf.specs.declared.begin.BeginFault.TheVariants as fault
use Rattle.shelf.proofs.Bare.{Bare}
use Rattle.shelf.proofs.Openings.{read_beside, found_fit}
use Rattle.shelf.proofs.Renewing.{outside_refuses, by_memory, opened_book_of}
use Rattle.shelf.proofs.Known.{bytes_more}
use Rattle.shelf.proofs.Owned.{with_added, stays_own, settled_own, quiet_own}
use Rattle.shelf.proofs.Newest.{own_in}

module _ {D : Type 0} (view : D → View) (tells : Bool) (scripts : List Named) (shelf : ℕ) (j : Journal D) (now_is : j.format ≡ newest) (settled : IsTrue tells → IsSettled view j) (only_now : OnlyNow (view_of view j))
    (bare : IsTrue tells → Bare shelf (bodies_in view j)) (x : AreRecordsExact) (read : IsReadSetup scripts) (whole : AreWhole scripts) (begins : IsInGrammar (begin_of shelf scripts)) where
  abbrev pub body : List ℕ
  body = first_body scripts shelf

  -- how long the journal is
  at_first : (told : IsTrue tells) → length_of j ≡ (bare told).place + 1
  at_first told =
      let gate = (bare told).gate in
      let rest = length-at_rest (bodies_in view j) in
      omega (arith, (settled told).end, rest, gate)

  first_moments : (told : IsTrue tells) (v : View) → length_with j body ≤ 2 ^ 30 → LeavesOnly (view_of view j) v (MayHold newest (bodies_in view j) body) → StaysOwnThroughout shelf (view_of view j) v
  first_moments told v short run =
      stays_own shelf (view_of view j) v (with_added shelf (bodies_in view j) body (omega (arith, short, (settled told).end)) (bare told).own ((bare told).own_more body)) run

  some_not : (told : IsTrue tells) {A : Type 0} → making_of view shelf j ≢ nothing → making_of view shelf j ≢ waited → A
  some_not told some other = absurd ((bare told).some some other)

  -- ---- why it does not

  module _ (new : Journal D) (e : BeginFault) where
    short_refused : length_with j body ≤ 2 ^ 30 → TellsSetup {T = kept.Library} view tells j new body (Err e) → Opens view tells scripts shelf false j new (Err e)
    short_refused short t = record {
      begun = λ told. tt;
      fit = λ told. tt;
      told = λ told. tt;
      in_order = tt;
      setup = λ leads. tt;
      own_moments = λ told own. first_moments told (view_of view new) short (t.moments told);
      refused = λ told. outside_refuses scripts shelf (making_of view shelf j) e t.refused;
      quiet = λ told some other. some_not told some other;
      keeps = λ told no. inl (refl, t.untouched (by_memory e t.refused (λ (is : e ≡ fault.DiskFault). no (λ i. Err (is i)))));
      cause = λ h. t.cause (let is : e ≡ fault.DiskFault = cc h in λ i. Err (is i));
      later = t.later;
    }

    full_refused : 2 ^ 30 < length_with j body → TellsFull {T = kept.Library} j new body (Err e) → Opens view tells scripts shelf false j new (Err e)
    full_refused long t =
        let is : e ≡ fault.Full (length_with j body) = cc (t.told) in
        subst (λ (k : Journal D). Opens view tells scripts shelf false j k (Err e)) (sym t.journal)
        (subst (λ (f : BeginFault). Opens view tells scripts shelf false j j (Err f)) (sym is) (record {
          begun = λ told. tt;
          fit = λ told. tt;
          told = λ told. tt;
          in_order = tt;
          setup = λ leads. tt;
          own_moments = λ told own. quiet_own shelf (view_of view j) (view_of view j) (quiet_none (view_of view j) only_now).moments (settled_own view shelf j (settled told) (own_in view shelf j now_is own));
          refused = λ told. record {
            made = began false shelf (bare told).place (length body) scripts;
            opened = (bare told).opens scripts;
            is = omega (arith, at_first told);
            long = long;
            another = λ y is. absurd (let no : None ≡ Some y = sym (bare told).none ∙ is in let never : ⊥ = cc in never);
          };
          quiet = λ told some other. some_not told some other;
          keeps = λ told no. inl (refl, (refl, λ image left. left));
          cause = λ h. absurd (let no : ⊥ = cc h in no);
          later = omega arith;
        }))

    pub refused_opens : (length_with j body ≤ 2 ^ 30 → TellsSetup {T = kept.Library} view tells j new body (Err e)) → (2 ^ 30 < length_with j body → TellsFull {T = kept.Library} j new body (Err e))
        → Opens view tells scripts shelf false j new (Err e)
    refused_opens short full = ⊎_elim (λ t. short_refused t.1 (short t.1)) (λ t. full_refused t.1 (full t.1)) (leb_tells (length_with j body) (2 ^ 30))

  -- ---- it does

  module _ (new : Journal D) (new_is : new.format ≡ newest) (b : RustBook) (lib : kept.Library) (has : IsLibraryOf [] scripts lib) (empty_book_is : IsEmpty shelf b) (placed : (all : List Named) → HasPlaces all b) (given : HasWhatIsGiven b)
      (states : (all : List Named) → HasItsStates all b) where
    abbrev pub rules : Rules
    rules = record { fuel = 0; life = 0; instances = 0; pages = 0; journal = Some (journal_rules shelf) }

    abbrev pub first : Book
    first = empty_book rules scripts shelf

    abbrev pub told_lib : Library
    told_lib = record { all = scripts; setup = scripts }

    lib_is : library_of lib ≡ told_lib
    lib_is = ap (λ (all : List Named). record (library_of lib) { all = all }) has.all ∙ ap (λ (ss : List Named). record { all = scripts; setup = ss }) has.setup

    over : (fed : Bool) (n : ℕ) (f : File) → views.book_of told_lib (beside_file fed n f) b ≡ record first { length = n; file = f; follows = fed }
    over fed n f = ap (λ (y : Book). record y { length = n; file = f; follows = fed }) (empty_book_is told_lib rules)

    empty_order : IsBookInOrder shelf b told_lib
    empty_order = record {
      placed = placed scripts;
      kept = ((λ n. None), given (λ n. None) scripts);
      shelf_is = ap (λ (y : Book). y.shelf) (empty_book_is told_lib rules);
      read = read;
      orderly = λ fed n f.
          let o = books_stay.0 rules scripts shelf in
          subst IsOrderly (sym (over fed n f)) (record { below = o.below; different = o.different; doubted = o.doubted; logged = o.logged; instances = o.instances; doubt = o.doubt });
      whole = λ fed n f. subst HasWholeScripts (sym (over fed n f)) (record { setup = whole; instances = λ k i e. absurd (let no : ⊥ = cc e in no) });
      range = λ fed n f. subst IsInRange (sym (over fed n f)) (record { drawn = omega arith; clock = omega arith; doubt = tt });
      again = λ fed n f. over fed n f ∙ ap reopened (sym (over fed n f));
    }

    pub fresh_order : IsBookInOrder shelf b (library_of lib)
    fresh_order = subst (IsBookInOrder shelf b) (sym lib_is) empty_order

    module _ (told : IsTrue tells) (ends : IsSettled view new) (bodies : bodies_in view new ≡ bodies_in view j ++ body ∷ []) (long : length_of new ≡ length_with j body) where
      abbrev gate : ℕ
      gate = (bare told).place

      -- what the records make
      abbrev there : Made
      there = began false shelf gate (length body) scripts

      makes_there : made_in (book_of texts shelf (bodies_in view new)) ≡ Some there
      makes_there = ap (λ (bs : List (List ℕ)). made_in (book_of texts shelf bs)) bodies ∙ ap made_in ((bare told).more scripts begins read)

      file_is : read_file view shelf new ≡ first_file (14 + length body) scripts
      file_is = ap file_in makes_there

      long_is : length_of new ≡ gate + 6 + length body
      long_is = omega (arith, long, at_first told)

      abbrev pub post : Book
      post = views.book_of (library_of lib) (read_beside view shelf false new) b

      post_is : post ≡ there.book
      post_is =
          let here : read_beside view shelf false new ≡ beside_file false (gate + 6 + length body) (first_file (14 + length body) scripts) =
          ap (λ (n : ℕ). beside_file false n (read_file view shelf new)) long_is ∙ ap (beside_file false (gate + 6 + length body)) file_is in
          ap (λ (l : Library). views.book_of l (read_beside view shelf false new) b) lib_is
          ∙ (ap (λ (y : Beside). views.book_of told_lib y b) here ∙ over false (gate + 6 + length body) (first_file (14 + length body) scripts))

      there_is : there ≡ made_of post nothing_told
      there_is = ap (λ (y : Book). record { book = reopened y; earlier = nothing_told }) (sym post_is)

      made_is : IsMadeOf view scripts shelf false j new (b, lib)
      made_is = (nothing_told, (bare told).opens scripts ∙ ap (λ (m : Made). Some m) there_is)

      makes_post : Makes texts shelf (bodies_in view new) post
      makes_post = (nothing_told, makes_there ∙ ap (λ (m : Made). Some m) there_is)

      fit_is : IsFit view texts shelf new post
      fit_is = found_fit view shelf false new post x ends new_is (fresh_order.whole false (length_of new) (read_file view shelf new)) (λ leads. fresh_order.read) makes_post (post_is ∙ ap reopened (sym post_is))

      own_is : OpensOwn view shelf new (b, lib)
      own_is = record { records = subst (AreOwn texts shelf) (sym bodies) ((bare told).own_more body); states = states (library_of lib).all }

    short_opens : length_with j body ≤ 2 ^ 30 → TellsSetup view tells j new body (Ok lib) → Opens view tells scripts shelf false j new (Ok (b, lib))
    short_opens short t = record {
      begun = λ told. made_is told (t.added told).0 (t.added told).1 t.len;
      fit = λ told. fit_is told (t.added told).0 (t.added told).1 t.len;
      told = λ told m is. given (λ n. state_at n m.earlier.states) (library_of lib).all;
      in_order = opened_book_of shelf false b (library_of lib) fresh_order;
      setup = λ leads. has.setup;
      own_moments = λ told own. first_moments told (view_of view new) short (t.moments told);
      refused = λ told. tt;
      quiet = λ told some other. some_not told some other;
      keeps = λ told no. inr ((t.added told).0, (t.added told).1 ∙ ap (λ (more : List (List ℕ)). bodies_in view j ++ more) (sym ((bare told).adds scripts)));
      cause = λ e. absurd (let no : ⊥ = cc e in no);
      later = t.later;
    }

    module _ (short : length_with j body ≤ 2 ^ 30 → TellsSetup view tells j new body (Ok lib)) (full : 2 ^ 30 < length_with j body → TellsFull {T = kept.Library} j new body (Ok lib)) where
      told_short : length_with j body ≤ 2 ^ 30
      told_short = ⊎_elim (λ t. t.1) (λ t. absurd (let no : ⊥ = cc ((full t.1).told) in no)) (leb_tells (length_with j body) (2 ^ 30))

      pub fresh_opens : Opens view tells scripts shelf false j new (Ok (b, lib))
      fresh_opens = short_opens told_short (short told_short)

      pub fresh_own : IsTrue tells → OpensOwn view shelf new (b, lib)
      fresh_own told = let t = short told_short in own_is told (t.added told).0 (t.added told).1 t.len

      -- the record is known that a journal begins with, which has no note
      pub fresh_known : (told : IsTrue tells) → AreAllBytes (bodies_in view j) → (notes : FileNotes) → NotesBegun scripts shelf notes → KnowsRead view shelf new notes
      fresh_known told small notes noted_so =
          let t = short told_short in
          let these = (t.added told).1 in
          record {
            records = record {
              marks = noted_so.marks ∙ sym (ap (λ (bs : List (List ℕ)). marks_of newest texts shelf 8 bs nothing) these ∙ (bare told).marks body);
              bytes = subst AreAllBytes (sym these) (bytes_more (bodies_in view j) body small t.bytes);
            };
            file = noted_so.file ∙ sym (file_is told (t.added told).0 (t.added told).1 t.len);
          }
