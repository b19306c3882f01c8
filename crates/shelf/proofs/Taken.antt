-- What can be landed would be taken in again by a recovery.
use Rattle.std.proofs.Common.{◌≡◌, ◌∙◌, ap, sym, subst, refl, ℕ, List, [], length, Bool, true, if◌then◌else◌, slice_get, Option, Some, None, option_map, inl, inr}
use Rattle.std.proofs.lemmas.Bool.{and_from}
use Rattle.script_value.specs.Val.{Val}
use Rattle.script_value.specs.declared.outcome.TxName.{TxName}
use Rattle.script_nodes.specs.Setup.{Named, Library}
use Rattle.page_names.specs.Names.{Destination, start, page}
use Rattle.page_names.specs.declared.names.PageName.{PageName}
use Rattle.instance_cells.specs.Cells.{Effect}
use Rattle.journal_records.specs.Fields as spec_records
use Rattle.journal_records.specs.Views.{origin_of as origin_in, change_with, page_change}
use Rattle.journal_records.specs.declared.records.PageRecord.{PageRecord}
use Rattle.replay_spec.specs.Eval as eval
use Rattle.replay_spec.specs.Book as spec
use Rattle.replay_spec.specs.Book.{Instance, Book, at_number, instance_at}
use Rattle.replay_spec.specs.Admission.{◌>>=◌, when, Place, Admission, begins, resumes, refused, refusal_of, admit}
use Rattle.replay_spec.specs.Recovery.{are_on, hold_over, can_go, if_can_go, page_of_numbers, number_in}
use Rattle.replay_spec.specs.Invariant.{IsOf, IsOrderlyChange}
use Rattle.replay_spec.proofs.Tests.{holds_is, on_is}
use Rattle.replay_spec.proofs.Admitted.{StandsAt, page_stands, page_is_no_start}
use Rattle.machine_states.specs.Machine.{Suspended}
use Rattle.machine_states.specs.Views.{segment_of, suspended_of}
use Rattle.machine_states.specs.declared.segment.Segment.{Segment}
use Rattle.book_recovery.specs.InstanceBook.FrameCodec.Spelling.{StateHasBytes}
use Rattle.book_recovery.specs.InstanceBook.FrameCodec.Forms.{RisesBefore, BindsBefore}
use Rattle.book_recovery.proofs.InstanceBook.FrameCodec.Formed.{forms_are_exact}
use Rattle.book_recovery.specs.JournalSpec.Retaking.{arena_of, Told, unread, misread, told, told_as, told_by, script_for, if_held, held}
use Rattle.book_recovery.specs.JournalSpec.Before.{Earlier, before_told}
use Rattle.book_recovery.specs.JournalSpec.Retaking as books
use Rattle.book_recovery.specs.JournalSpec.Lengths.{told_bytes, told_own}
use Rattle.book_recovery.specs.JournalSpec.Keeping.{IsTakenAs}
use Rattle.book_recovery.proofs.JournalSpec.Retaken.{held_fits}
use Rattle.book_recovery.specs.InstanceBook.declared.book.Book as kept
use Rattle.book_recovery.specs.InstanceBook.declared.change.Opening.{Opening}
use Rattle.book_recovery.specs.InstanceBook.declared.change.Extension.{Extension}
use Rattle.book_recovery.specs.InstanceBook.declared.change.Change.{Change}
use Rattle.book_recovery.specs.InstanceBook.declared.change.Change.TheVariants.{Opens, Extends, Ends, Finishes}
use Rattle.book_visits.specs.declared.ticket.Ticket.{Ticket}
use Rattle.book_recovery.specs.InstanceBook.Standing.{script_at}
use Rattle.book_recovery.specs.InstanceBook.Swept.{cells_at}
use Rattle.book_recovery.specs.InstanceBook.Views.{Beside, book_of, instance_of, instances_of}
use Rattle.book_recovery.specs.InstanceBook.declared.numbered.Numbered.{Numbered}
use Rattle.book_recovery.specs.InstanceBook.declared.in_order.InOrder.{InOrder}
use Rattle.book_recovery.specs.InstanceBook.declared.instance.KeptInstance.{KeptInstance}
use Rattle.book_recovery.specs.InstanceBook.Changes.{change_of, inside_of, gone_in, CanShowAt, HasRoomFor}
use Rattle.book_visits.specs.Changes.{IsSpelledIn}
use Rattle.book_visits.specs.Prepares.{opening_by, extension_by, ending_by, finish_by, IsStartBy, IsAnswerBy, IsChangeBy, OpensFrom, ExtendsFrom, KeepsStateOf, HasItsScript}
use Rattle.book_recovery.proofs.InstanceBook.Seen.{instance_some, instance_none, cells_seen}
use Rattle.shelf.specs.Holding.{AreHeld, AreHeldBy, IsWhole, IsWholeIn}
use Rattle.shelf.specs.Recording.{state_in, behind_in, told_in, BindsIn}
use Rattle.shelf.proofs.Now.{of_some}
use Rattle.shelf.proofs.Stated.{place_found, start_shows, answer_shows}
use Rattle.shelf.proofs.Told.{spelled_told}

-- ---- the number of a ticket's change

pub is_of : (t : Ticket) (s : eval.Segment) (d : Destination) (c : spec.Change) → IsChangeBy t s d c → IsOf t.number c
is_of t s (start name) (spec.opens o) h = ap (λ (x : spec.Opening). x.number) h
is_of t s (start name) (spec.extends x) h = absurd h
is_of t s (start name) (spec.ends e) h = absurd h
is_of t s (start name) (spec.finishes f) h = absurd h
is_of t s (start name) (spec.sweeps tick) h = absurd h
is_of t s (page name n) (spec.opens o) h = absurd h
is_of t s (page name n) (spec.extends x) h = ap (λ (y : spec.Extension). y.number) h
is_of t s (page name n) (spec.ends e) h = ap (λ (y : spec.Ending). y.number) h
is_of t s (page name n) (spec.finishes f) h = ap (λ (y : spec.Finish). y.number) h
is_of t s (page name n) (spec.sweeps tick) h = absurd h

pub number_of : (k : ℕ) (c : spec.Change) → IsOf k c → number_in c ≡ Some k
number_of k (spec.opens o) e = ap (λ (n : ℕ). Some n) e
number_of k (spec.extends x) e = ap (λ (n : ℕ). Some n) e
number_of k (spec.ends x) e = ap (λ (n : ℕ). Some n) e
number_of k (spec.finishes f) e = ap (λ (n : ℕ). Some n) e
number_of k (spec.sweeps tick) e = absurd e

-- ---- the page that is answered stands

pub page_there : (b : Book) (name : List ℕ) (n : PageName) (a : Admission) → admit b (page name n) ≡ a → refusal_of a ≡ None → (at : Place) × StandsAt b name n at
page_there b name n (begins k s) e ok = absurd (page_is_no_start b name n k s e)
page_there b name n (resumes at) e ok = (at, page_stands b name n at e)
page_there b name n (refused why) e ok = absurd (let no : ⊥ = cc in no)

held_passes : (es : List Effect) (cells : List Val) (inside : List TxName) → AreHeld es cells → if_held es cells inside ≡ Some inside
held_passes es cells inside h =
    ap (λ (t : Bool). when t inside) (and_from (are_on (length cells) es) (hold_over es cells) (on_is (length cells) es h.on) (holds_is es cells h.hold))

-- the bytes of a whole state are read back
read_back : (before : Option Suspended) (s : Named) (d : Suspended) (inside : List TxName) → IsWhole (arena_of s.script) d inside → StateHasBytes d → RisesBefore before → BindsBefore before d
    → told_by before (Some s) (told_bytes before d) ≡ told d
read_back before s d inside whole bytes rises binds =
    ap (told_by before (Some s)) (spelled_told before d bytes) ∙ ap told_as (forms_are_exact.back (arena_of s.script) before d rises (whole.stored bytes) binds)

-- the pages for which an extension's page goes can go
abbrev pub evicted_in : spec.Change → List ℕ
evicted_in (spec.opens o) = o.evicted
evicted_in (spec.extends x) = x.evicted
evicted_in _ = []

-- a page's record tells the pages that went for it
evicted_from : (o : spec_records.Origin) (p : PageRecord) → evicted_in (change_with o p) ≡ p.evicted.items
evicted_from (spec_records.start script) p = refl
evicted_from (spec_records.answered instance shown answer) p = refl

pub evicted_is : (p : PageRecord) → evicted_in (page_change p) ≡ p.evicted.items
evicted_is p = evicted_from (origin_in p.origin) p

pub goes_there : (all : List Named) (is : InOrder KeptInstance) (x : Extension) (n : ℕ) (i : Instance) → x.instance ≡ n → instance_at n (instances_of all is) ≡ Some i → CanShowAt x.instance x.show (gone_in x) is
    → can_go (gone_in x) i.used ≡ true
goes_there all is x n i same here room = by_item (at_number (λ j. j.number) x.instance is.things.items) refl
  where
    by_item : (o : Option (Numbered KeptInstance)) → at_number (λ j. j.number) x.instance is.things.items ≡ o → can_go (gone_in x) i.used ≡ true
    by_item None none =
        let gone : instance_at x.instance (instances_of all is) ≡ None = instance_none all x.instance is.things.items none in
        let there : instance_at x.instance (instances_of all is) ≡ Some i = ap (λ (k : ℕ). instance_at k (instances_of all is)) same ∙ here in
        absurd (let no : ⊥ = cc (gone, there) in no)
    by_item (Some j) found =
        let there : Some (instance_of all j) ≡ Some i =
        sym (instance_some all x.instance is.things.items j found) ∙ (ap (λ (k : ℕ). instance_at k (instances_of all is)) same ∙ here) in
        let its : instance_of all j ≡ i = cc there in
        subst (λ (y : Instance). can_go (gone_in x) y.used ≡ true) its (room j found).next.goes

module _ (l : Library) (beside : Beside) (book : kept.Book) (t : Ticket) (r : Segment) where
  abbrev b : Book
  b = book_of l beside book

  abbrev s : eval.Segment
  s = segment_of r

  -- what is told of the state of the change's page is that state, where it is read after what the ticket goes on from
  abbrev pub IsRead : Change → Type 0
  IsRead c =
      (earlier : Earlier) → before_told earlier b (change_of c) ≡ behind_in t c → RisesBefore (behind_in t c) → BindsIn t c
      → books.told_in earlier b (change_of c) (told_in t c) ≡ told_own (state_in c)

  abbrev pub IsTakenSo : Change → Type 0
  IsTakenSo c = IsTakenAs b (change_of c) (inside_of c) (told_own (state_in c)) × IsRead c

  -- so it is by what the change is
  opens_taken : (o : Opening) (named : Named) (x : spec.Opening) → x ≡ opening_by t x.effects x.left x → x.effects ≡ s.effects → change_of (Opens o) ≡ spec.opens x → slice_get l.setup t.start ≡ Some named
      → AreHeld s.effects named.script.cells → IsWhole (arena_of named.script) (suspended_of o.state) (inside_of (Opens o)) → StateHasBytes (suspended_of o.state) → IsTakenSo (Opens o)
  opens_taken o named x by effects is found holds here bytes =
      let d = suspended_of o.state in
      let inside = inside_of (Opens o) in
      let place : x.script ≡ t.start = ap (λ (y : spec.Opening). y.script) by in
      let there : slice_get l.setup x.script ≡ Some named = ap (slice_get l.setup) place ∙ found in
      let gone : x.evicted ≡ [] = ap (λ (y : spec.Opening). y.evicted) by in
      let can : held b (spec.opens x) inside ≡ Some inside =
      ap (λ (y : Option Named). y >>= (λ z. if_can_go x.evicted [] (if_held x.effects z.script.cells inside))) there
      ∙ (ap (λ (ns : List ℕ). if_can_go ns [] (if_held x.effects named.script.cells inside)) gone
      ∙ (ap (λ (es : List Effect). if_held es named.script.cells inside) effects ∙ held_passes s.effects named.script.cells inside holds)) in
      let read : (earlier : Earlier) → books.told_in earlier b (spec.opens x) (told_bytes None d) ≡ told d =
      λ earlier. ap (λ (y : Option Named). told_by None y (told_bytes None d)) there ∙ read_back None named d inside here bytes tt tt in (
        subst (λ (c : spec.Change). IsTakenAs b c inside (told d)) (sym is) (can, here.inside_is),
        λ earlier before rises binds. subst (λ (c : spec.Change). books.told_in earlier b c (told_bytes None d) ≡ told d) (sym is) (read earlier),
      )

  start_taken : (name : List ℕ) (o : Opening) → HasItsScript l t (start name) → OpensFrom t r (Some (Opens o)) → IsStartBy t s (change_of (Opens o)) → AreHeld s.effects t.cells → IsWholeIn l.all book (Opens o)
      → StateHasBytes (suspended_of o.state) → IsTakenSo (Opens o)
  start_taken name o has from is holds whole bytes =
      let d = suspended_of o.state in
      let place : o.instance.script ≡ t.script = from.1.1.script in
      let there : slice_get l.all o.instance.script ≡ Some has.named = ap (slice_get l.all) place ∙ has.told in
      let here : IsWhole (arena_of has.named.script) d (inside_of (Opens o)) = of_some (slice_get l.all o.instance.script) has.named _ there whole in
      let so = start_shows t s o.record is in
      opens_taken o has.named (opening_by t s.effects s.left so.0) refl refl so.1 has.present (subst (AreHeld s.effects) has.cells holds) here bytes

  -- of an answer to the page of this place
  module _ (name : List ℕ) (n : PageName) (at : Place) (stands : StandsAt b name n at) (holds : AreHeldBy book t (page name n) s.effects) where
    cells_there : cells_at n.instance book ≡ Some at.instance.cells
    cells_there = cells_seen l beside n.instance book ∙ ap (option_map (λ (i : Instance). i.cells)) stands.here

    held_there : AreHeld s.effects at.instance.cells
    held_there = of_some (cells_at n.instance book) at.instance.cells _ cells_there holds

    found : page_of_numbers b n.instance n.page ≡ Some at
    found = place_found b name n at stands

    can_be : (inside : List TxName) → (page_of_numbers b n.instance n.page >>= (λ y. if_held s.effects y.instance.cells inside)) ≡ Some inside
    can_be inside = ap (λ (x : Option Place). x >>= (λ y. if_held s.effects y.instance.cells inside)) found ∙ held_passes s.effects at.instance.cells inside held_there

    -- where the pages that go can go
    can_show : (gone : List ℕ) (inside : List TxName) → can_go gone at.instance.used ≡ true
        → (page_of_numbers b n.instance n.page >>= (λ y. if_can_go gone y.instance.used (if_held s.effects y.instance.cells inside))) ≡ Some inside
    can_show gone inside goes =
        ap (λ (x : Option Place). x >>= (λ y. if_can_go gone y.instance.used (if_held s.effects y.instance.cells inside))) found
        ∙ (ap (λ (q : Bool). if q then if_held s.effects at.instance.cells inside else None) goes ∙ held_passes s.effects at.instance.cells inside held_there)

    answer_taken : (x : Extension) → ExtendsFrom t r n.instance n.page (Some (Extends x)) → IsAnswerBy t s n.instance n.page (change_of (Extends x)) → IsWholeIn l.all book (Extends x)
        → StateHasBytes (suspended_of x.state) → can_go (gone_in x) at.instance.used ≡ true → IsTakenSo (Extends x)
    answer_taken x from is whole bytes goes =
        let d = suspended_of x.state in
        let inside = inside_of (Extends x) in
        let so = answer_shows t s n.instance n.page x.record is in
        let e = extension_by t n.instance n.page s.effects s.left so.0 in
        let change : change_of (Extends x) ≡ spec.extends e = so.1 in
        let went : gone_in x ≡ so.0.evicted = sym (evicted_is x.record) ∙ ap evicted_in change in
        let number : x.instance ≡ n.instance = from.1.1.instance in
        let script : script_at l.all x.instance book ≡ Some at.instance.script = ap (λ (k : ℕ). script_at l.all k book) number ∙ ap (option_map (λ (i : Instance). i.script)) stands.here in
        let here : IsWhole (arena_of at.instance.script.script) d inside = of_some (script_at l.all x.instance book) at.instance.script _ script whole in
        let before = behind_in t (Extends x) in
        let read : (earlier : Earlier) → before_told earlier b (spec.extends e) ≡ before → RisesBefore before → BindsIn t (Extends x) → books.told_in earlier b (spec.extends e) (told_bytes before d) ≡ told d =
        λ earlier same rises binds.
        ap (λ (o : Option Suspended). told_by o (script_for b (spec.extends e)) (told_bytes before d)) same
        ∙ (ap (λ (o : Option Place). told_by before (o >>= (λ z. Some z.instance.script)) (told_bytes before d)) found ∙ read_back before at.instance.script d inside here bytes rises binds) in (
          subst (λ (c : spec.Change). IsTakenAs b c inside (told d)) (sym change) (can_show so.0.evicted inside (subst (λ (ns : List ℕ). can_go ns at.instance.used ≡ true) went goes), here.inside_is),
          subst (λ (c : spec.Change). (earlier : Earlier) → before_told earlier b c ≡ before → RisesBefore before → BindsIn t (Extends x) → books.told_in earlier b c (told_bytes before d) ≡ told d) (sym change) read,
        )

    ending_taken : (e : spec.Ending) (inside : List TxName) → e ≡ ending_by t n.instance n.page s.effects s.left → IsTakenAs b (spec.ends e) inside unread
    ending_taken e inside is = subst (λ (y : spec.Ending). IsTakenAs b (spec.ends y) inside unread) (sym is) (can_be [], refl)

    finish_taken : (f : spec.Finish) (inside : List TxName) → f ≡ finish_by t n.instance n.page s.effects → IsTakenAs b (spec.finishes f) inside unread
    finish_taken f inside is = subst (λ (y : spec.Finish). IsTakenAs b (spec.finishes y) inside unread) (sym is) (can_be [], refl)

  pub is_taken : (d : Destination) (c : Change) → refusal_of (admit b d) ≡ None → HasItsScript l t d → KeepsStateOf t r d (Some c) → IsChangeBy t s d (change_of c) → AreHeldBy book t d s.effects → IsWholeIn l.all book c
      → IsSpelledIn c → HasRoomFor (Some c) book → IsTakenSo c
  is_taken (start name) (Opens o) ok has (inl none) is holds whole spelled room = absurd none
  is_taken (start name) (Opens o) ok has (inr from) is holds whole spelled room = start_taken name o has from is holds whole spelled
  is_taken (start name) (Extends x) ok has (inl none) is holds whole spelled room = absurd none
  is_taken (start name) (Extends x) ok has (inr from) is holds whole spelled room = absurd from.1.1
  is_taken (start name) (Ends e) ok has keeps is holds whole spelled room = absurd is
  is_taken (start name) (Finishes f) ok has keeps is holds whole spelled room = absurd is
  is_taken (page name n) (Opens o) ok has (inl none) is holds whole spelled room = absurd none
  is_taken (page name n) (Opens o) ok has (inr from) is holds whole spelled room = absurd from.1.1
  is_taken (page name n) (Extends x) ok has (inl none) is holds whole spelled room = absurd none
  is_taken (page name n) (Extends x) ok has (inr from) is holds whole spelled room =
      let p = page_there b name n (admit b (page name n)) refl ok in
      answer_taken name n p.0 p.1 holds x from is whole spelled (goes_there l.all book.instances x n.instance p.0.instance from.1.1.instance p.1.here room)
  is_taken (page name n) (Ends e) ok has keeps is holds whole spelled room =
      let p = page_there b name n (admit b (page name n)) refl ok in (ending_taken name n p.0 p.1 holds _ e.inside.items is, λ earlier same rises binds. refl)
  is_taken (page name n) (Finishes f) ok has keeps is holds whole spelled room =
      let p = page_there b name n (admit b (page name n)) refl ok in (finish_taken name n p.0 p.1 holds _ f.inside.items is, λ earlier same rises binds. refl)

-- ---- what would be taken fits the book

pub taken_fits : (b : Book) (c : spec.Change) (inside : List TxName) (x : Told) → IsTakenAs b c inside x → IsOrderlyChange b.clock b.instances c
taken_fits b c inside unread h = held_fits b c [] [] h.0
taken_fits b c inside misread h = absurd h
taken_fits b c inside (told d) h = held_fits b c inside inside h.0
