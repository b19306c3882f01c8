-- A start and an answer that are told again land in a book, with their states.
use Rattle.std.proofs.Common.{◌≡◌, ◌∙◌, ap, sym, subst, ℕ, zero, suc, ◌<◌, Bool, true, false, List, [], ◌∷◌, length, reverse, slice_get, Option, Some, None, refl, arith, inl, inr}
use Rattle.std.specs.Prelude.{◌⊎◌}
use Rattle.std.specs.Bool.{⊤}
use Rattle.std.proofs.lemmas.Bool.{and_parts}
use Rattle.std.proofs.lemmas.Option.{same_Some, get_or_from_slice_get}
use Rattle.script_value.specs.Val.{Val}
use Rattle.script_value.specs.declared.outcome.TxName.{TxName}
use Rattle.prim_spec.specs.Same.{same}
use Rattle.instance_cells.specs.Cells.{landed, reads_of}
use Rattle.script_nodes.specs.Setup.{Named, Library}
use Rattle.script_nodes.specs.Views.{named_of}
use Rattle.script_nodes.specs.declared.script.SendKind.{SendKind}
use Rattle.script_nodes.specs.declared.script.SendKind.TheVariants.{Suspend, Forward}
use Rattle.replay_spec.specs.Tape.{recorded, Tape}
use Rattle.replay_spec.specs.Book as spec
use Rattle.replay_spec.specs.Book.{Page, at_number, Instance, Change, opens, extends, Book, instance_at, page_at, root_by, page_by}
use Rattle.replay_spec.specs.Change.{put_page, put_instance, mend, shown_by, fresh, opened_by, logged_by, land}
use Rattle.replay_spec.specs.Admission.{◌>>=◌, when, Place}
use Rattle.replay_spec.specs.Next.{home, page_tape, tape_for}
use Rattle.replay_spec.specs.Recovery.{can_go, if_can_go, page_of_numbers, opening_visit, extension_visit, redone}
use Rattle.replay_spec.specs.Marks.{Mark, stays}
use Rattle.replay_spec.proofs.Ancestors.{Grown, put_grown, ancestors_grown, chain_is}
use Rattle.replay_spec.proofs.Numbered.{put_length, number_of}
use Rattle.machine_states.specs.Machine.{Suspended, inside_of}
use Rattle.machine_states.specs.Laws.{IsStateOf}
use Rattle.machine_states.specs.Views.{suspended_of}
use Rattle.machine_states.specs.declared.frame.Suspended as stored
use Rattle.frame_codec.specs.Stored.{IsStored}
use Rattle.frame_codec.specs.Forms.{read_form}
use Rattle.instance_book.specs.KeptStates.Kept.{Kept, IsKeptBy, kept_of}
use Rattle.instance_book.specs.KeptStates.Links.{next_links, links_at, behind_at}
use Rattle.journal_records.specs.Fields as fields
use Rattle.journal_records.specs.Reading.{opening_from, extension_from}
use Rattle.journal_records.specs.Views.{origin_of, page_of as told_page, change_with, page_change}
use Rattle.journal_records.specs.declared.records.PageRecord.{PageRecord}
use Rattle.journal_spec.specs.Before.{States, state_at, Earlier, links_behind, before_told}
use Rattle.journal_spec.specs.Retaking.{Told, unread, told, told_as, told_by, script_for, if_held, held, states_with}
use Rattle.journal_spec.specs.Lengths.{state_over}
use Rattle.journal_spec.specs.Owning.{IsOwnState}
use Rattle.journal_spec.proofs.Owned.{is_state_over}
use Rattle.journal_spec.proofs.Telling.{at_number_again}
use Rattle.instance_book.specs.declared.numbered.Numbered.{Numbered}
use Rattle.instance_book.specs.declared.page.KeptPage.{KeptPage}
use Rattle.instance_book.specs.declared.instance.KeptInstance.{KeptInstance}
use Rattle.instance_book.specs.declared.place.Place as lent
use Rattle.instance_book.specs.declared.change.Opening.{Opening}
use Rattle.instance_book.specs.declared.change.Extension.{Extension}
use Rattle.instance_book.specs.declared.change.Change.TheVariants.{Opens, Extends}
use Rattle.instance_book.specs.declared.shown.ShownState.{ShownState}
use Rattle.instance_book.specs.declared.book.Book as kept
use Rattle.instance_book.specs.Views.{Beside, no_journal, book_of, instances_of, instance_of, pages_of, used_of, script_in, no_script, page_of, HasRoomAt, effects_in, new_in}
use Rattle.instance_book.specs.Places.{CanFollow, Source, own, given, source_in, kept_at, IsStateAt, HasState, AreStatesOf, IsNextIn, IsNextAt, arena_of}
use Rattle.instance_book.specs.Makes.{shelf_from, HasStatesFrom, HasItsStates, KeepsStates, StaysSame}
use Rattle.instance_book.specs.Changes.{begun_with, shown_with, gone_in, changed_by, OpensKept, HasRoomFor, KeepsStatesBy}
use Rattle.instance_book.specs.Standing.{book_under, place_of, BeginsAt}
use Rattle.instance_book.specs.Segments.{IsNewPage, root_instance, IsOpenedBy, IsExtendedBy}
use Rattle.book_redo.specs.Redo.{no_rules, counted_to, Counts, are_held, IsStateTold, IsAnswerTold, HasNoAnswer, told_of, HasToldStates, is_read, names_told, IsFree, IsUntold, told_states, IsLandedBy, IsLanded, OpensAt, first_in, opens_on, opens_so, LandsAs, HasFirstState, KeepsStatesOpened, takes_record, StandsThere, IsMisread, IsPassed, IsExtended}
use Rattle.instance_book.proofs.Seen.{mend_agrees, instance_some}
use Rattle.instance_book.proofs.Given.{more_given}
use Rattle.instance_book.proofs.States.{links_of, links_next}
use Rattle.book_redo.proofs.Passed.{can_when, told_more, none_either, names_there, names_again, counted_passed, passed, misread_so, formed_kept}

-- ---- a start

-- the opening that a record of a start tells of
abbrev pub opening_in : PageRecord → (script : ℕ) → spec.Opening
opening_in r k = opening_from k (told_page r [])

pub opening_is : (r : PageRecord) (k : ℕ) → origin_of r.origin ≡ fields.start k → page_change r ≡ opens (opening_in r k)
opening_is r k e = ap (λ (o : fields.Origin). change_with o r) e

-- the names that it lands with
opening_held : (b : Book) (k : ℕ) (s : Named) (r : PageRecord) (inside : List TxName) → slice_get b.scripts k ≡ Some s
    → held b (opens (opening_in r k)) inside ≡ when (opens_so s r) inside
opening_held b k s r inside found =
    ap (λ (x : Option Named). x >>= (λ a. if_can_go r.evicted.items [] (if_held (effects_in r) a.script.cells inside))) found
    ∙ can_when r.evicted.items [] (are_held (effects_in r) s.script.cells) inside

pub nothing_goes : (ns : List ℕ) → (ns ≡ [] → ⊥) → can_go ns [] ≡ false
nothing_goes [] full = absurd (full refl)
nothing_goes (n ∷ ns) full = refl

-- it can be of the book, or not
pub on_by : (s : Named) (r : PageRecord) (cells : List Val) (t : Bool) → cells ≡ s.script.cells → t ≡ opens_on cells r → opens_so s r ≡ t
on_by s r cells t its so = ap (λ (vs : List Val). opens_on vs r) (sym its) ∙ sym so

-- it is passed over
pub opens_passed : (place : ℕ) (s : Named) (r : PageRecord) (p : ShownState) (old new : kept.Book) → opens_so s r ≡ false → Counts r.ticket old new → OpensAt place s r p old new
opens_passed place s r p old new off counts library k starts origin beside =
    let b = book_of library beside old in
    let e = opening_is r k origin in
    let none : held b (page_change r) p.inside.items ≡ None =
    ap (λ (c : Change). held b c p.inside.items) e ∙ (opening_held b k s r p.inside.items starts.present ∙ ap (λ (t : Bool). when t p.inside.items) off) in
    counted_passed library old new (page_change r) r.ticket (ap logged_by e) counts beside ∙ ap (λ (o : Option (List TxName)). redone no_rules (page_change r) o b) (sym none)

-- the instance of a start
root_is : (all : List Named) (place : ℕ) (cells : List Val) (r : PageRecord) (inside : List TxName) (s : Named) (k : ℕ) → script_in all place ≡ s → cells ≡ s.script.cells
    → root_instance all place cells r inside ≡ shown_by (effects_in r) r.left.items r.kind [] (root_by (opening_in r k) inside) (fresh s r.ticket)
root_is all place cells r inside s k script its = by_kind r.kind
  where
    by_kind : (kind : SendKind) → root_instance all place cells r inside ≡ shown_by (effects_in r) r.left.items kind [] (root_by (opening_in r k) inside) (fresh s r.ticket)
    by_kind Suspend = rw (script, its) refl
    by_kind Forward = rw (script, its) refl

-- it lands
pub opens_landed : (place : ℕ) (s : Named) (r : PageRecord) (p : ShownState) (cells : List Val) (o : Opening) (old mid new : kept.Book) → opens_so s r ≡ true → cells ≡ s.script.cells
    → IsOpenedBy place cells r p o → StaysSame old mid
    → ((library : Library) (beside : Beside) → book_of library beside new ≡ counted_to r.ticket (changed_by library (Some (Opens o)) (book_of library beside mid)))
    → OpensAt place s r p old new
opens_landed place s r p cells o old mid new on its opens_as stays made library k starts origin beside =
    let b = book_of library beside old in
    let x = opening_in r k in
    let inside = p.inside.items in
    let e = opening_is r k origin in
    let names : held b (page_change r) inside ≡ Some inside =
    ap (λ (c : Change). held b c inside) e ∙ (opening_held b k s r inside starts.present ∙ ap (λ (t : Bool). when t inside) on) in
    let script : script_in library.all place ≡ s = get_or_from_slice_get library.all place s no_script starts.told in
    let begun : begun_with library.all o ≡ shown_by (effects_in r) r.left.items r.kind [] (root_by x inside) (fresh s r.ticket) =
    opens_as.begun library.all ∙ root_is library.all place cells r inside s k script its in
    let opened : opened_by (slice_get b.scripts k) x inside b.instances ≡ put_instance (shown_by (effects_in r) r.left.items r.kind [] (root_by x inside) (fresh s r.ticket)) b.instances =
    ap (λ (y : Option Named). opened_by y x inside b.instances) starts.present in
    made library beside
    ∙ (ap (λ (y : Book). counted_to r.ticket (changed_by library (Some (Opens o)) y)) (stays library beside)
    ∙ (ap (λ (i : Instance). counted_to r.ticket (record b { instances = put_instance i b.instances })) begun
    ∙ (ap (λ (is : List Instance). counted_to r.ticket (record b { instances = is })) (sym opened)
    ∙ sym (ap (λ (o : Option (List TxName)). redone no_rules (page_change r) o b) names ∙ ap (λ (c : Change). land no_rules c inside b) e))))

-- its page has its state
pub opens_kept : (source : Source ⊤) (all : List Named) (b : kept.Book) (shelf place : ℕ) (r : PageRecord) (p : ShownState) (cells : List Val) (o : Opening) → b.shelf ≡ shelf
    → IsOpenedBy place cells r p o → HasFirstState source all b place r p → OpensKept all (shelf_from source shelf) o
opens_kept source all b shelf place r p cells o same is first =
    let q = first_in r p in
    let sh = shelf_from source shelf in
    let s = script_in all place in
    let there : HasState s (source_in s sh r.ticket) (q ∷ []) q (kept_of p.kept) =
    subst (λ (n : ℕ). HasState s (source_in s (shelf_from source n) r.ticket) (q ∷ []) q (kept_of p.kept)) same first.state in
    record {
      place = subst (λ (m : ℕ). m < length all) (sym is.script) first.placed;
      pages = is.pages;
      shown = is.shown;
      state =
          subst (λ (m : ℕ). HasState (script_in all m) (source_in (script_in all m) sh o.page.number) (page_of o.page ∷ []) (page_of o.page) (kept_at o.page)) (sym is.script)
          (subst (λ (x : Page). HasState s (source_in s sh x.number) (x ∷ []) x (kept_at o.page)) (sym is.page.page)
          (subst (λ (k : Kept). HasState s (source_in s sh r.ticket) (q ∷ []) q k) (sym is.page.kept) there));
    }

-- what stands at a place
there_is : (xs : List Named) (k : ℕ) (x : Named) → slice_get xs k ≡ Some x → k < length xs
there_is [] k x e = absurd (let no : ⊥ = cc in no)
there_is (y ∷ ys) zero x e = omega arith
there_is (y ∷ ys) (suc k) x e = let low = there_is ys k x e in omega (arith, low)

pub begins_low : (library : Library) (k place : ℕ) (s : Named) → BeginsAt library k place s → place < length library.all
begins_low library k place s starts = there_is library.all place s starts.told

module _ (library : Library) (old : kept.Book) (k : ℕ) (r : PageRecord) (bytes : List ℕ) (again : Bool) where
  abbrev c : Change
  c = opens (opening_in r k)

  opening_absent : (new : kept.Book) → slice_get library.setup k ≡ None → Counts r.ticket old new → KeepsStates old new → IsLanded library c (Some bytes) again true old new
  opening_absent new none counts keeps earlier has =
      passed library old new earlier c (Some bytes) again unread r.ticket refl counts keeps (ap (λ (s : Option Named). told_by None s (Some bytes)) none) refl
      (λ beside. none_either again (held (book_of library beside old) c [])
      (ap (λ (s : Option Named). s >>= (λ a. if_can_go r.evicted.items [] (if_held (effects_in r) a.script.cells []))) none)) has

  module _ (place : ℕ) (s : Named) (starts : BeginsAt library k place s) where
    opening_misread : read_form (arena_of s.script) None bytes ≡ None → IsLanded library c (Some bytes) again false old old
    opening_misread none earlier has =
        misread_so library earlier c (Some bytes) again old (ap (λ (x : Option Named). told_by None x (Some bytes)) starts.present ∙ ap told_as none)

    module _ (p : ShownState) (is : IsStateTold (arena_of s.script) None 0 bytes p) where
      opening_state : (earlier : Earlier) → told_of library earlier old c (Some bytes) ≡ told (suspended_of p.state)
      opening_state earlier = ap (λ (x : Option Named). told_by None x (Some bytes)) starts.present ∙ ap told_as is.state

      opening_again : (new : kept.Book) → again ≡ true → Counts r.ticket old new → KeepsStates old new → IsLanded library c (Some bytes) again true old new
      opening_again new e counts keeps earlier has =
          passed library old new earlier c (Some bytes) again (told (suspended_of p.state)) r.ticket refl counts keeps (opening_state earlier) refl
          (λ beside. names_again again (book_of library beside old) c (suspended_of p.state) e) has

      -- its page has its state
      first_state : (source : Source ⊤)
          → IsStateAt s (source_in s (shelf_from source old.shelf) r.ticket) [] (first_in r p) (suspended_of p.state) → HasFirstState source library.all old place r p
      first_state source its =
          let script : script_in library.all place ≡ s = get_or_from_slice_get library.all place s no_script starts.told in
          let q = first_in r p in
          record {
            placed = begins_low library k place s starts;
            state =
                subst (λ (x : Named). HasState x (source_in x (shelf_from source old.shelf) r.ticket) (q ∷ []) q (kept_of p.kept)) (sym script) (record {
                  lineage = record { ancestors = []; are = refl; few = omega arith };
                  state = suspended_of p.state;
                  its = its;
                  bytes = is.stored.bytes;
                  kept = record { links_are = is.links_are; form = is.formed };
                });
          }

      opening_own : IsOwnState (book_under library old) c (told (suspended_of p.state)) → HasFirstState (own tt) library.all old place r p
      opening_own left =
          let b = book_under library old in
          let over : state_over s.script (tape_for (opening_visit b (opening_in r k) s) (recorded (reads_of (effects_in r)))) ≡ Some (suspended_of p.state) =
          ap (λ (x : Option Named). x >>= (λ y. state_over y.script (tape_for (opening_visit b (opening_in r k) y) (recorded (reads_of (effects_in r)))))) (sym starts.present) ∙ left in
          first_state (own tt) (is_state_over s.script (tape_for (opening_visit b (opening_in r k) s) (recorded (reads_of (effects_in r)))) (suspended_of p.state) over)

      opening_new : (new : kept.Book) → again ≡ false → origin_of r.origin ≡ fields.start k → OpensAt place s r p old new → KeepsStatesOpened place s r p old new
          → IsLanded library c (Some bytes) again true old new
      opening_new new e origin opens_at keeps earlier has = record {
        read_is = sym (ap is_read (opening_state earlier));
        book = λ _ beside.
            let b = book_of library beside old in
            let names : names_told again b c (told_of library earlier old c (Some bytes)) ≡ held b c p.inside.items =
            ap (names_told again b c) (opening_state earlier)
            ∙ names_there again b c (suspended_of p.state) (held b c p.inside.items) e (ap (held b c) (sym is.inside)) in
            subst (λ (x : Change). book_of library beside new ≡ redone no_rules x (held b x p.inside.items) b) (opening_is r k origin) (opens_at library k starts origin beside)
            ∙ sym (ap (λ (o : Option (List TxName)). redone no_rules c o b) names);
        same = λ no. absurd (let never : ⊥ = cc in never);
        told = λ _ free. by_test (opens_so s r) refl (free e);
        states = λ left states. keeps (own tt) library.all (λ _. opening_own (subst (IsOwnState (book_under library old) c) (opening_state earlier) left)) states;
      }
        where
          d : Suspended
          d = suspended_of p.state

          ss : States
          ss = earlier.states

          names : (t : Bool) → opens_so s r ≡ t → names_told again (book_under library old) c (told d) ≡ when t (inside_of d.frames)
          names t so =
              names_there again (book_under library old) c d (when t (inside_of d.frames)) e
              (opening_held (book_under library old) k s r (inside_of d.frames) starts.present ∙ ap (λ (b : Bool). when b (inside_of d.frames)) so)

          same : (t : Bool) → opens_so s r ≡ t → told_states library again c (told_of library earlier old c (Some bytes)) old ss ≡ states_with (when t (inside_of d.frames)) (Some r.ticket) (told d) ss
          same t so =
              ap (λ (x : Told). told_states library again c x old ss) (opening_state earlier) ∙ ap (λ (o : Option (List TxName)). states_with o (Some r.ticket) (told d) ss) (names t so)

          by_test : (t : Bool) → opens_so s r ≡ t → IsUntold (Some r.ticket) ss → HasToldStates library.all (told_states library again c (told_of library earlier old c (Some bytes)) old ss) new
          by_test false so free =
              subst (λ (xs : States). HasToldStates library.all xs new) (sym (same false so))
              (keeps (given (λ n. state_at n ss)) library.all (λ yes. absurd (let no : true ≡ false = sym yes ∙ so in let never : ⊥ = cc in never)) has)
          by_test true so free =
              let more : States = (r.ticket, d) ∷ ss in
              let known = told_more r.ticket d ss (free r.ticket refl) in
              let grown : HasToldStates library.all more old = more_given (λ n. state_at n ss) (λ n. state_at n more) known library.all old has in
              subst (λ (xs : States). HasToldStates library.all xs new) (sym (same true so))
              (keeps (given (λ n. state_at n more)) library.all (λ _. first_state (given (λ n. state_at n more)) (at_number_again r.ticket d ss, is.stored)) grown)

  pub opening_none : (new : kept.Book) → origin_of r.origin ≡ fields.start k → slice_get library.setup k ≡ None → Counts r.ticket old new → KeepsStates old new
      → IsLanded library (page_change r) (Some bytes) again true old new
  opening_none new origin none counts keeps =
      subst (λ (x : Change). IsLanded library x (Some bytes) again true old new) (sym (opening_is r k origin)) (opening_absent new none counts keeps)

  pub opening_bad : (place : ℕ) (s : Named) → BeginsAt library k place s → origin_of r.origin ≡ fields.start k → read_form (arena_of s.script) None bytes ≡ None
      → IsLanded library (page_change r) (Some bytes) again false old old
  opening_bad place s starts origin none =
      subst (λ (x : Change). IsLanded library x (Some bytes) again false old old) (sym (opening_is r k origin)) (opening_misread place s starts none)

  pub opening_seen : (place : ℕ) (s : Named) → BeginsAt library k place s → (p : ShownState) → IsStateTold (arena_of s.script) None 0 bytes p → (new : kept.Book) → again ≡ true
      → origin_of r.origin ≡ fields.start k → Counts r.ticket old new → KeepsStates old new → IsLanded library (page_change r) (Some bytes) again true old new
  opening_seen place s starts p is new e origin counts keeps =
      subst (λ (x : Change). IsLanded library x (Some bytes) again true old new) (sym (opening_is r k origin)) (opening_again place s starts p is new e counts keeps)

  pub opening_lands : (place : ℕ) (s : Named) → BeginsAt library k place s → (p : ShownState) → IsStateTold (arena_of s.script) None 0 bytes p → (new : kept.Book) → again ≡ false
      → origin_of r.origin ≡ fields.start k → OpensAt place s r p old new → KeepsStatesOpened place s r p old new → IsLanded library (page_change r) (Some bytes) again true old new
  opening_lands place s starts p is new e origin opens_at keeps =
      subst (λ (x : Change). IsLanded library x (Some bytes) again true old new) (sym (opening_is r k origin)) (opening_new place s starts p is new e origin opens_at keeps)

-- ---- an answer

-- the extension that a record of an answer tells of
abbrev pub extension_in : PageRecord → (instance page : ℕ) → (answer : Val) → spec.Extension
extension_in r k m answer = extension_from k m answer (told_page r [])

pub extension_is : (r : PageRecord) (k m : ℕ) (answer : Val) → origin_of r.origin ≡ fields.answered k m answer → page_change r ≡ extends (extension_in r k m answer)
extension_is r k m answer e = ap (λ (o : fields.Origin). change_with o r) e

-- the page of an answer has its state, after that of the page that it answers
next_state : (source : Source ⊤) (shelf : ℕ) (at : Place) (k0 : Kept) (r : PageRecord) (m : ℕ) (answer : Val) (p : ShownState) (bytes : List ℕ) (x : Numbered KeptPage)
    → (has : HasState at.instance.script (source_in at.instance.script (shelf_from source shelf) at.instance.number) at.instance.pages at.page k0)
    → page_at m at.instance.pages ≡ Some at.page → page_at r.ticket at.instance.pages ≡ None
    → IsStateTold (arena_of at.instance.script.script) (behind_at (next_links k0.links) (Some has.state)) (next_links k0.links) bytes p
    → IsStateAt at.instance.script (source_in at.instance.script (shelf_from source shelf) at.instance.number) (at.page ∷ has.lineage.ancestors) (new_in r (Some m) answer p.inside.items) (suspended_of p.state)
    → IsNewPage (new_in r (Some m) answer p.inside.items) (kept_of p.kept) x → IsNextIn (shelf_from source shelf) at.instance (page_of x) (kept_at x)
next_state source shelf at k0 r m answer p bytes x has shown unused is its new =
    subst (λ (y : Page). IsNextIn sh at.instance y (kept_at x)) (sym new.page) (subst (λ (k : Kept). IsNextIn sh at.instance q k) (sym new.kept) next)
  where
    sh : Source ℕ
    sh = shelf_from source shelf

    ps : List Page
    ps = at.instance.pages

    q : Page
    q = new_in r (Some m) answer p.inside.items

    older : List Page
    older = has.lineage.ancestors

    next : IsNextIn sh at.instance q (kept_of p.kept)
    next =
        let grown : Grown ps (put_page q ps) = put_grown q ps unused in
        let links : next_links k0.links ≡ links_at (length (at.page ∷ older)) = ap next_links (links_of at.instance.script (source_in at.instance.script sh at.instance.number) ps at.page k0 has) in
        let few = has.lineage.few in
        let form : IsKeptBy (Some has.state) (next_links k0.links) (suspended_of p.state) (kept_of p.kept).form =
        formed_kept has.state (next_links k0.links) (suspended_of p.state) (kept_of p.kept).form is.formed in
        record {
          unused = unused;
          state = record {
            lineage = record {
              ancestors = at.page ∷ older;
              are = (grown m at.page shown, ancestors_grown ps (put_page q ps) grown at.page older has.lineage.are);
              few = omega (arith, few, put_length (λ (y : Page). y.number) q ps unused);
            };
            state = suspended_of p.state;
            its = its;
            bytes = is.stored.bytes;
            kept = (
              has.state,
              (
                has.its,
                record {
                  links_are = is.links_are ∙ links;
                  form = subst (λ (n : ℕ). IsKeptBy (Some has.state) n (suspended_of p.state) (kept_of p.kept).form) links form;
                },
              ),
            );
          };
        }

-- what stands under numbers stands in the instance of its number
record StandsAt (is : List Instance) (k m : ℕ) (at : Place) : Type 0 where
  here : instance_at k is ≡ Some at.instance
  shown : page_at m at.instance.pages ≡ Some at.page

page_in : (k m : ℕ) (is : List Instance) (i : Instance) (o : Option Page) (at : Place) → instance_at k is ≡ Some i → page_at m i.pages ≡ o
    → (o >>= λ p. Some (record { instance = i; page = p })) ≡ Some at → StandsAt is k m at
page_in k m is i None at here shown e = absurd (let no : ⊥ = cc in no)
page_in k m is i (Some p) at here shown e =
    subst (λ (x : Place). StandsAt is k m x) (same_Some (record { instance = i; page = p }) at e) (record { here = here; shown = shown })

stands_at : (b : Book) (k m : ℕ) (at : Place) → page_of_numbers b k m ≡ Some at → StandsAt b.instances k m at
stands_at b k m at e = by_instance (instance_at k b.instances) refl e
  where
    by_instance : (o : Option Instance) → instance_at k b.instances ≡ o
        → (o >>= λ i. (page_at m i.pages >>= λ p. Some (record { instance = i; page = p }))) ≡ Some at → StandsAt b.instances k m at
    by_instance None here found = absurd (let no : ⊥ = cc in no)
    by_instance (Some i) here found = page_in k m b.instances i (page_at m i.pages) at here refl found

module _ (library : Library) (old : kept.Book) (k m : ℕ) (answer : Val) (r : PageRecord) (bytes : List ℕ) (again : Bool) where
  abbrev x : Change
  x = extends (extension_in r k m answer)

  extension_absent : (new : kept.Book) → page_of_numbers (book_under library old) k m ≡ None → Counts r.ticket old new → KeepsStates old new → IsLanded library x (Some bytes) again true old new
  extension_absent new none counts keeps earlier has =
      passed library old new earlier x (Some bytes) again unread r.ticket refl counts keeps
      (ap (λ (p : Option Place). told_by (before_told earlier (book_under library old) x) (p >>= (λ at. Some at.instance.script)) (Some bytes)) none) refl
      (λ beside. none_either again (held (book_of library beside old) x [])
      (ap (λ (p : Option Place). p >>= (λ at. if_can_go r.evicted.items at.instance.used (if_held (effects_in r) at.instance.cells []))) none)) has

  module _ (place : lent.Place) (there : StandsThere library old k m place) where
    abbrev at : Place
    at = place_of library.all place

    abbrev s : Named
    s = named_of place.script.now

    abbrev links : ℕ
    links = next_links place.page.now.item.state.links

    -- its pages have their states
    abbrev are : (source : Source ⊤) → HasStatesFrom source library.all old → AreStatesOf s place.instance.now.item.pages place.page.now
    are source has = record {
      home = source_in s (shelf_from source old.shelf) place.instance.now.number;
      all = (there.kept source has).pages;
      own = (there.kept source has).state;
    }

    script_is : at.instance.script ≡ s
    script_is = get_or_from_slice_get library.all place.instance.now.item.script s no_script there.placed

    stands : (beside : Beside) → StandsAt (book_of library beside old).instances k m at
    stands beside = stands_at (book_of library beside old) k m at there.found

    told_is : (earlier : Earlier) (has : HasToldStates library.all earlier.states old) (o : Option Suspended)
        → read_form (arena_of s.script) (behind_at links (Some (are (given (λ n. state_at n earlier.states)) has).own.state)) bytes ≡ o
        → told_of library earlier old x (Some bytes) ≡ told_as o
    told_is earlier has o so_read =
        let b = book_under library old in
        let own = (are (given (λ n. state_at n earlier.states)) has).own in
        let many : links ≡ links_behind at = links_next s (given (λ n. state_at n earlier.states)) (pages_of place.instance.now.item.pages) (page_of place.page.now) (kept_at place.page.now) own in
        let before : before_told earlier b x ≡ behind_at links (Some own.state) =
        ap (λ (p : Option Place). p >>= (λ y. behind_at (links_behind y) (state_at y.page.number earlier.states))) there.found
        ∙ (ap (λ (n : ℕ). behind_at n (state_at at.page.number earlier.states)) (sym many) ∙ ap (behind_at links) own.its.0) in
        let script : script_for b x ≡ Some s = ap (λ (p : Option Place). p >>= (λ y. Some y.instance.script)) there.found ∙ ap (λ (y : Named). Some y) script_is in
        ap (λ (d : Option Suspended). told_by d (script_for b x) (Some bytes)) before
        ∙ (ap (λ (y : Option Named). told_by (behind_at links (Some own.state)) y (Some bytes)) script ∙ ap told_as so_read)

    extension_misread : HasNoAnswer s place.instance.now.item.pages place.page.now bytes → IsLanded library x (Some bytes) again false old old
    extension_misread none earlier has =
        misread_so library earlier x (Some bytes) again old (told_is earlier has None (none (are (given (λ n. state_at n earlier.states)) has)))

    -- the names that it lands with
    extension_held : (beside : Beside) (inside : List TxName) → held (book_of library beside old) x inside ≡ when (takes_record r place.instance.now.item) inside
    extension_held beside inside =
        ap (λ (p : Option Place). p >>= (λ y. if_can_go r.evicted.items y.instance.used (if_held (effects_in r) y.instance.cells inside))) there.found
        ∙ can_when r.evicted.items (used_of place.instance.now.item.pages) (are_held (effects_in r) place.instance.now.item.cells) inside

    module _ (p : ShownState) (is : IsAnswerTold s place.instance.now.item.pages place.page.now bytes p) where
      abbrev d : Suspended
      d = suspended_of p.state

      extension_state : (earlier : Earlier) → HasToldStates library.all earlier.states old → told_of library earlier old x (Some bytes) ≡ told d
      extension_state earlier has = told_is earlier has (Some d) (is (are (given (λ n. state_at n earlier.states)) has)).state

      off_names : (again ≡ true) ⊎ (takes_record r place.instance.now.item ≡ false) → (beside : Beside) → names_told again (book_of library beside old) x (told d) ≡ None
      off_names (inl e) beside = names_again again (book_of library beside old) x d e
      off_names (inr off) beside =
          none_either again (held (book_of library beside old) x (inside_of d.frames))
          (extension_held beside (inside_of d.frames) ∙ ap (λ (t : Bool). when t (inside_of d.frames)) off)

      extension_off : (new : kept.Book) → (again ≡ true) ⊎ (takes_record r place.instance.now.item ≡ false) → Counts r.ticket old new → KeepsStates old new
          → IsLanded library x (Some bytes) again true old new
      extension_off new off counts keeps earlier has =
          passed library old new earlier x (Some bytes) again (told d) r.ticket refl counts keeps (extension_state earlier has) refl (off_names off) has

      -- it lands
      module _ (e : Extension) (extends_so : IsExtendedBy r m answer p place.instance.now e) (free : IsFree library.all (Some r.ticket) old) where
        unused : page_at r.ticket at.instance.pages ≡ None
        unused = free.no_page r.ticket refl k at.instance (stands no_journal).here

        numbered : e.instance ≡ k
        numbered = extends_so.instance ∙ number_of (λ (i : Instance). i.number) k (instances_of library.all old.instances) at.instance (stands no_journal).here

        extension_book : (new : kept.Book) → again ≡ false → takes_record r place.instance.now.item ≡ true
            → ((beside : Beside) → book_of library beside new ≡ counted_to r.ticket (changed_by library (Some (Extends e)) (book_of library beside old)))
            → (earlier : Earlier) → HasToldStates library.all earlier.states old
            → IsLandedBy library x (λ b. names_told again b x (told_of library earlier old x (Some bytes))) old new
        extension_book new fresh_is on made earlier has beside =
            let b = book_of library beside old in
            let inside = inside_of d.frames in
            let names : names_told again b x (told_of library earlier old x (Some bytes)) ≡ Some inside =
            ap (names_told again b x) (extension_state earlier has)
            ∙ names_there again b x d (Some inside) fresh_is (extension_held beside inside ∙ ap (λ (t : Bool). when t inside) on) in
            let q = page_by (extension_in r k m answer) inside in
            let here = (stands beside).here in
            let inside_is : p.inside.items ≡ inside = (is (are (given (λ n. state_at n earlier.states)) has)).inside in
            let goes : shown_with e.show (gone_in e) at.instance ≡ shown_by (effects_in r) r.left.items r.kind r.evicted.items q at.instance =
            extends_so.goes library.all place.instance.now.number
            ∙ ap (λ (ns : List TxName). shown_by (effects_in r) r.left.items r.kind r.evicted.items (new_in r (Some m) answer ns) at.instance) inside_is in
            made beside
            ∙ (ap (λ (n : ℕ). counted_to r.ticket (record b { instances = mend n (shown_with e.show (gone_in e)) b.instances })) numbered
            ∙ (ap (λ (is : List Instance). counted_to r.ticket (record b { instances = is }))
            (mend_agrees k (shown_with e.show (gone_in e)) (shown_by (effects_in r) r.left.items r.kind r.evicted.items q) b.instances at.instance here goes)
            ∙ sym (ap (λ (o : Option (List TxName)). redone no_rules x o b) names)))

        -- and its page has its state
        next_kept : (source : Source ⊤) (has : HasStatesFrom source library.all old)
            → IsStateAt at.instance.script (source_in at.instance.script (shelf_from source old.shelf) at.instance.number) (at.page ∷ (are source has).own.lineage.ancestors)
            (new_in r (Some m) answer p.inside.items) d
            → IsNextAt (shelf_from source old.shelf) (instances_of library.all old.instances) e.instance e.show.page
        next_kept source has its i found =
            let here = (stands no_journal).here in
            let same : at.instance ≡ i =
            same_Some at.instance i (sym here ∙ (ap (λ (n : ℕ). instance_at n (instances_of library.all old.instances)) (sym numbered) ∙ found)) in
            let sh = shelf_from source old.shelf in
            let P : Named → Type 0 = λ y.
            (h : HasState y (source_in y sh at.instance.number) at.instance.pages at.page (kept_at place.page.now))
            → IsStateTold (arena_of y.script) (behind_at links (Some h.state)) links bytes p
            → IsStateAt y (source_in y sh at.instance.number) (at.page ∷ h.lineage.ancestors) (new_in r (Some m) answer p.inside.items) d
            → IsNextIn sh (record at.instance { script = y }) (page_of e.show.page) (kept_at e.show.page) in
            let by : P at.instance.script = λ h told its.
            next_state source old.shelf at (kept_at place.page.now) r m answer p bytes e.show.page h (stands no_journal).shown unused told its extends_so.page in
            let there_is : P s = subst P script_is by in
            let mine : IsNextIn sh (record at.instance { script = s }) (page_of e.show.page) (kept_at e.show.page) =
            there_is (are source has).own (is (are source has))
            (subst (λ (y : Named). IsStateAt y (source_in y sh at.instance.number) (at.page ∷ (are source has).own.lineage.ancestors) (new_in r (Some m) answer p.inside.items) d) script_is its) in
            subst (λ (j : Instance). IsNextIn sh j (page_of e.show.page) (kept_at e.show.page)) same
            (subst (λ (y : Named). IsNextIn sh (record at.instance { script = y }) (page_of e.show.page) (kept_at e.show.page)) (sym script_is) mine)

        extension_own : HasItsStates library.all old → IsOwnState (book_under library old) x (told d)
            → IsNextAt (shelf_from (own tt) old.shelf) (instances_of library.all old.instances) e.instance e.show.page
        extension_own has left =
            let b = book_under library old in
            let v : Place → Tape = λ y. tape_for (extension_visit b (extension_in r k m answer) y) (recorded (reads_of (effects_in r))) in
            let over : state_over at.instance.script.script (v at) ≡ Some d = ap (λ (o : Option Place). o >>= (λ y. state_over y.instance.script.script (v y))) (sym there.found) ∙ left in
            let its = is_state_over at.instance.script.script (v at) d over in
            let h = (are (own tt) has).own.lineage in
            let tape : page_tape (home at.instance.script old.shelf at.instance.number) (reverse (at.page ∷ h.ancestors)) (new_in r (Some m) answer p.inside.items) ≡ v at =
            ap (λ (ps : List Page). page_tape (home at.instance.script old.shelf at.instance.number) ps (new_in r (Some m) answer p.inside.items)) (sym (chain_is at.instance.pages at.page h.ancestors h.are h.few)) in
            next_kept (own tt) has (subst (λ (t : Tape). IsStateOf (arena_of at.instance.script.script) t d) (sym tape) its)

        extension_given : (f : ℕ → Option Suspended) (has : HasStatesFrom (given f) library.all old) → f r.ticket ≡ Some d
            → IsNextAt (given f) (instances_of library.all old.instances) e.instance e.show.page
        extension_given f has first =
            let stored : IsStored (arena_of at.instance.script.script) d = subst (λ (y : Named). IsStored (arena_of y.script) d) (sym script_is) (is (are (given f) has)).stored in
            next_kept (given f) has (first, stored)

        extension_on : (new : kept.Book) → again ≡ false → takes_record r place.instance.now.item ≡ true
            → ((beside : Beside) → book_of library beside new ≡ counted_to r.ticket (changed_by library (Some (Extends e)) (book_of library beside old)))
            → ((source : Source ⊤) → IsNextAt (shelf_from source old.shelf) (instances_of library.all old.instances) e.instance e.show.page → HasStatesFrom source library.all old
            → HasStatesFrom source library.all new)
            → IsLanded library x (Some bytes) again true old new
        extension_on new fresh_is on made keeps earlier has = record {
          read_is = sym (ap is_read (extension_state earlier has));
          book = λ _. extension_book new fresh_is on made earlier has;
          same = λ no. absurd (let never : ⊥ = cc in never);
          told = λ _ free_of.
              let ss = earlier.states in
              let inside = inside_of d.frames in
              let more : States = (r.ticket, d) ∷ ss in
              let known = told_more r.ticket d ss (free_of fresh_is r.ticket refl) in
              let grown : HasToldStates library.all more old = more_given (λ n. state_at n ss) (λ n. state_at n more) known library.all old has in
              let names : names_told again (book_under library old) x (told d) ≡ Some inside =
              names_there again (book_under library old) x d (Some inside) fresh_is (extension_held no_journal inside ∙ ap (λ (t : Bool). when t inside) on) in
              let same : told_states library again x (told_of library earlier old x (Some bytes)) old ss ≡ more =
              ap (λ (y : Told). told_states library again x y old ss) (extension_state earlier has)
              ∙ ap (λ (o : Option (List TxName)). states_with o (Some r.ticket) (told d) ss) names in
              subst (λ (xs : States). HasToldStates library.all xs new) (sym same)
              (keeps (given (λ n. state_at n more)) (extension_given (λ n. state_at n more) grown (at_number_again r.ticket d ss)) grown);
          states = λ left states. keeps (own tt) (extension_own states (subst (IsOwnState (book_under library old) x) (extension_state earlier has) left)) states;
        }

        -- there is room for it
        extension_room : (mid : kept.Book) → takes_record r place.instance.now.item ≡ true → StaysSame old mid → HasRoomAt k mid.instances → HasRoomFor (Some (Extends e)) mid
        extension_room mid on stays room i found =
            let here : at_number (λ (j : Numbered KeptInstance). j.number) k mid.instances.things.items ≡ Some i =
            subst (λ (n : ℕ). at_number (λ (j : Numbered KeptInstance). j.number) n mid.instances.things.items ≡ Some i) numbered found in
            let as_before : instances_of library.all mid.instances ≡ instances_of library.all old.instances = ap (λ (b : Book). b.instances) (stays library no_journal) in
            let seen : at.instance ≡ instance_of library.all i =
            same_Some at.instance (instance_of library.all i) (sym (stands no_journal).here
            ∙ (ap (λ (is : List Instance). instance_at k is) (sym as_before) ∙ instance_some library.all k mid.instances.things.items i here)) in
            let number : e.show.page.number ≡ r.ticket = ap (λ (q : Page). q.number) extends_so.page.page in
            let goes : can_go r.evicted.items at.instance.used ≡ true =
            (and_parts (can_go r.evicted.items at.instance.used) (are_held (effects_in r) place.instance.now.item.cells) on).0 in
            record {
              room = room i here;
              next = subst (λ (z : Instance). CanFollow e.show.page (gone_in e) z.pages z.used) seen (record {
                unused = ap (λ (n : ℕ). page_at n at.instance.pages) number ∙ unused;
                stays = ap (λ (y : Mark). y.gone) extends_so.page.mark;
                goes = ap (λ (y : PageRecord). can_go y.evicted.items at.instance.used) extends_so.told ∙ goes;
              });
            }

  abbrev pub IsNow : (is_read : Bool) → (new : kept.Book) → Type 0
  IsNow is_read new = IsLanded library (page_change r) (Some bytes) again is_read old new

  abbrev IsIt : Type 0
  IsIt = origin_of r.origin ≡ fields.answered k m answer

  as_told : (so_read : Bool) (new : kept.Book) → IsIt → IsLanded library x (Some bytes) again so_read old new → IsNow so_read new
  as_told so_read new it landed = subst (λ (y : Change). IsLanded library y (Some bytes) again so_read old new) (sym (extension_is r k m answer it)) landed

  pub extension_none : (new : kept.Book) → IsIt → page_of_numbers (book_under library old) k m ≡ None → Counts r.ticket old new → KeepsStates old new → IsNow true new
  extension_none new it none counts keeps = as_told true new it (extension_absent new none counts keeps)

  pub extension_bad : IsIt → IsMisread library old k m bytes → IsNow false old
  extension_bad it is = as_told false old it (extension_misread is.place is.there is.none)

  pub extension_passed : (new : kept.Book) → IsIt → IsPassed library old k m r bytes again → Counts r.ticket old new → KeepsStates old new → IsNow true new
  extension_passed new it is counts keeps = as_told true new it (extension_off is.told.place is.told.there is.told.shown is.told.told new is.off counts keeps)

  pub extension_fits : (e : Extension) → IsExtended library old k m answer r bytes again e → IsFree library.all (Some r.ticket) old
      → (mid : kept.Book) → StaysSame old mid → HasRoomAt k mid.instances → HasRoomFor (Some (Extends e)) mid
  extension_fits e is free mid stays room =
      extension_room is.told.place is.told.there is.told.shown is.told.told e is.extension free mid is.on stays room

  pub extension_lands : (e : Extension) → IsExtended library old k m answer r bytes again e → IsFree library.all (Some r.ticket) old → IsIt
      → (mid new : kept.Book) → StaysSame old mid → KeepsStates old mid → LandsAs (Extends e) r.ticket mid new → KeepsStatesBy (Some (Extends e)) mid new → IsNow true new
  extension_lands e is free it mid new stays stay lands keeps =
      let shelf_is : mid.shelf ≡ old.shelf = ap (λ (b : Book). b.shelf) (stays library no_journal) in
      let as_before : instances_of library.all mid.instances ≡ instances_of library.all old.instances = ap (λ (b : Book). b.instances) (stays library no_journal) in
      as_told true new it (extension_on is.told.place is.told.there is.told.shown is.told.told e is.extension free new is.new is.on
      (λ beside. lands library beside ∙ ap (λ (b : Book). counted_to r.ticket (changed_by library (Some (Extends e)) b)) (stays library beside))
      (λ source next has.
      keeps source library.all
      (subst (λ (n : ℕ). IsNextAt (shelf_from source n) (instances_of library.all mid.instances) e.instance e.show.page) (sym shelf_is)
      (subst (λ (is : List Instance). IsNextAt (shelf_from source old.shelf) is e.instance e.show.page) (sym as_before) next))
      (stay source library.all has)))
