-- A change of a ticket's segment has the state that its script leaves, where the ticket is for its visit.
use Rattle.std.proofs.Common.{◌≡◌, ◌∙◌, ap, sym, subst, refl, ℕ, List, [], ◌∷◌, ◌++◌, length, slice_get, Option, Some, None, inl, inr}
use Rattle.std.proofs.lemmas.List.{map-append}
use Rattle.script_nodes.specs.Setup.{Named, Library}
use Rattle.page_names.specs.Names.{Destination, start, page}
use Rattle.page_names.specs.declared.names.PageName.{PageName}
use Rattle.instance_cells.specs.Cells.{reads_of}
use Rattle.journal_records.specs.Fields as spec_records
use Rattle.journal_records.specs.Reading.{opening_from, extension_from}
use Rattle.journal_records.specs.Views.{origin_of as origin_in, page_of as told_page, change_with, page_change}
use Rattle.journal_records.specs.declared.records.PageRecord.{PageRecord}
use Rattle.replay_spec.specs.Tape.{recorded, Answer, Tape, shows, finishes, ends, Outcome, paged, faulted, out_of_fuel}
use Rattle.replay_spec.specs.Eval as eval
use Rattle.replay_spec.specs.Book as spec
use Rattle.replay_spec.specs.Book.{Page, Book, chain}
use Rattle.replay_spec.specs.Admission.{◌>>=◌, Place, Admission, begins, resumes, refused, refusal_of, admit}
use Rattle.replay_spec.specs.Next.{Home, home, past, answered, page_tape, tape_for, start_visit, page_visit}
use Rattle.replay_spec.specs.Recovery.{page_of_numbers}
use Rattle.replay_spec.specs.Laws.{Waits}
use Rattle.replay_spec.proofs.Admitted.{StandsAt, page_stands, start_is_no_page, page_is_no_start}
use Rattle.machine_states.specs.Machine.{Suspended}
use Rattle.machine_states.specs.Laws.{started, Stops, IsStateOf}
use Rattle.machine_states.proofs.Halting.{script_stop}
use Rattle.machine_states.proofs.Law.{page_is_inside}
use Rattle.machine_states.proofs.Replay.{stops_as_run, one_state}
use Rattle.book_recovery.specs.InstanceBook.KeptStates.Links.{links_at, behind_at}
use Rattle.machine_states.specs.Views.{Keeps, origin_of, segment_of, state_of}
use Rattle.machine_states.specs.declared.segment.Outcome.{Outcome as StoredOutcome}
use Rattle.machine_states.specs.declared.segment.Outcome.TheVariants.{Shown, Finished, Ended, Faulted, Fuel}
use Rattle.machine_states.specs.declared.segment.Segment.{Segment}
use Rattle.book_recovery.specs.JournalSpec.Retaking.{arena_of}
use Rattle.book_recovery.specs.JournalSpec.Before.{links_behind}
use Rattle.book_recovery.specs.JournalSpec.Lengths.{kept_at, kept_by, state_over, state_by, chain_tape, own_state, own_before}
use Rattle.book_recovery.specs.JournalSpec.Whole.{IsWhole, HasWholeScripts}
use Rattle.book_recovery.specs.InstanceBook.declared.book.Book as kept
use Rattle.book_recovery.specs.InstanceBook.declared.change.Opening.{Opening}
use Rattle.book_recovery.specs.InstanceBook.declared.change.Extension.{Extension}
use Rattle.book_recovery.specs.InstanceBook.declared.change.Change.{Change}
use Rattle.book_recovery.specs.InstanceBook.declared.change.Change.TheVariants.{Opens, Extends, Ends, Finishes}
use Rattle.book_visits.specs.declared.ticket.Ticket.{Ticket}
use Rattle.book_recovery.specs.InstanceBook.Views.{Beside, book_of}
use Rattle.book_visits.specs.Views.{ticket_of}
use Rattle.book_recovery.specs.InstanceBook.Changes.{change_of}
use Rattle.book_visits.specs.Fits.{IsStateBehind, GoesOnFrom, FitsAs}
use Rattle.book_visits.specs.Laws.{KeepsStateAs}
use Rattle.book_visits.specs.Prepares.{opening_by, extension_by, IsStartBy, IsAnswerBy, IsChangeBy, OpensFrom, ExtendsFrom, KeepsStateOf}
use Rattle.shelf.specs.Recording.{state_in, behind_in}

-- ---- the state that is kept over a tape is the one that the script leaves

waits_keep : (o : Outcome) (k : Suspended) → Waits o → kept_at o k ≡ Some k
waits_keep (paged (shows kind) bytes) k waits = refl
waits_keep (paged finishes bytes) k waits = absurd waits
waits_keep (paged ends bytes) k waits = absurd waits
waits_keep (faulted f) k waits = absurd waits
waits_keep (out_of_fuel cost) k waits = absurd waits

pub left_over : (s : Named) (t : Tape) (d : Suspended) → IsWhole s → IsStateOf (arena_of s.script) t d → state_over s.script t ≡ Some d
unfolding state_over
left_over s t d w is =
    let a = arena_of s.script in
    let stop = script_stop a w.script t in
    let same = stops_as_run a w.script t stop.0 in
    let waits : Waits stop.0.outcome = subst Waits (sym (ap (λ (m : eval.Segment). m.outcome) same)) (page_is_inside a w.script t d is).0 in
    let its : IsStateOf a t stop.0.kept = record { stops = stop.0; waits = waits; is = refl } in
    ap (λ (o : Option (Stops a (started a t))). o >>= kept_by) stop.1 ∙ (waits_keep stop.0.outcome stop.0.kept waits ∙ ap (λ (y : Suspended). Some y) (one_state a t stop.0.kept d its is))

-- ---- by the kinds of admission and of change

-- a page's record that is the change of a start is an opening
module _ (t : Ticket) (s : eval.Segment) (p : PageRecord) where
  abbrev its : spec_records.Origin → spec.Change
  its o = change_with o p

  opens_so : (o : spec_records.Origin) → IsStartBy t s (its o) → (x : spec.Opening) × (its o ≡ spec.opens (opening_by t s.effects s.left x))
  opens_so (spec_records.start script) is = (opening_from script (told_page p []), ap spec.opens is)
  opens_so (spec_records.answered instance shown answer) is = absurd is

  extends_so : (n m : ℕ) (o : spec_records.Origin) → IsAnswerBy t s n m (its o) → (x : spec.Extension) × (its o ≡ spec.extends (extension_by t n m s.effects s.left x))
  extends_so n m (spec_records.start script) is = absurd is
  extends_so n m (spec_records.answered instance shown answer) is = (extension_from instance shown answer (told_page p []), ap spec.extends is)

pub start_shows : (t : Ticket) (s : eval.Segment) (p : PageRecord) → IsStartBy t s (page_change p) → (x : spec.Opening) × (page_change p ≡ spec.opens (opening_by t s.effects s.left x))
start_shows t s p is = opens_so t s p (origin_in p.origin) is

pub answer_shows : (t : Ticket) (s : eval.Segment) (n m : ℕ) (p : PageRecord) → IsAnswerBy t s n m (page_change p)
    → (x : spec.Extension) × (page_change p ≡ spec.extends (extension_by t n m s.effects s.left x))
answer_shows t s n m p is = extends_so t s p n m (origin_in p.origin) is

keeps_it : (o : StoredOutcome) (P : Suspended → Type 0) (d : Suspended) → Keeps o P → state_of o ≡ Some d → P d
keeps_it (Shown bytes kind state) P d k e = subst P (cc e) k
keeps_it (Finished bytes) P d k e = absurd (let no : ⊥ = cc in no)
keeps_it (Ended bytes) P d k e = absurd (let no : ⊥ = cc in no)
keeps_it (Faulted f) P d k e = absurd (let no : ⊥ = cc in no)
keeps_it (Fuel cost) P d k e = absurd (let no : ⊥ = cc in no)

pub place_found : (b : Book) (name : List ℕ) (n : PageName) (at : Place) → StandsAt b name n at → page_of_numbers b n.instance n.page ≡ Some at
place_found b name n at h = let here = h.here in let shown = h.shown in rw (here, shown) refl

module _ (all : List Named) (b : Book) (whole : HasWholeScripts b) (t : Ticket) (r : Segment) where
  abbrev IsLeft : Change → Type 0
  IsLeft c = state_by b (change_of c) ≡ state_in c

  opening_left : (k : ℕ) (s : Named) (o : Opening) → FitsAs all b t (begins k s) → KeepsStateAs b t (begins k s) r → OpensFrom t r (Some (Opens o)) → IsStartBy t (segment_of r) (change_of (Opens o))
      → IsLeft (Opens o)
  opening_left k s o fits over from is =
      let there : slice_get b.scripts t.start ≡ Some s = ap (slice_get b.scripts) fits.start ∙ fits.present in
      let tape : Named → Tape = λ x. tape_for (start_visit b (ticket_of t) k x) (recorded (reads_of (segment_of r).effects)) in
      let left = left_over s (tape s) from.0 (whole.setup t.start s there) (keeps_it r.outcome _ from.0 over from.1.0) in
      ap (state_by b) (start_shows t (segment_of r) o.record is).1
      ∙ (ap (λ (x : Option Named). x >>= (λ y. state_over y.script (tape y))) there ∙ (left ∙ ap (λ (x : Suspended). Some x) (sym from.1.1.told)))

  extension_left : (name : List ℕ) (n : PageName) (at : Place) (x : Extension) → StandsAt b name n at → KeepsStateAs b t (resumes at) r → ExtendsFrom t r n.instance n.page (Some (Extends x))
      → IsAnswerBy t (segment_of r) n.instance n.page (change_of (Extends x)) → IsLeft (Extends x)
  extension_left name n at x stands over from is =
      let tape : Place → Tape = λ y. tape_for (page_visit b (ticket_of t) y) (recorded (reads_of (segment_of r).effects)) in
      let left = left_over at.instance.script (tape at) from.0 (whole.instances n.instance at.instance stands.here) (keeps_it r.outcome _ from.0 over from.1.0) in
      ap (state_by b) (answer_shows t (segment_of r) n.instance n.page x.record is).1
      ∙ (ap (λ (y : Option Place). y >>= (λ z. state_over z.instance.script.script (tape z))) (place_found b name n at stands) ∙ (left ∙ ap (λ (y : Suspended). Some y) (sym from.1.1.told)))

  start_left : (name : List ℕ) (a : Admission) → admit b (start name) ≡ a → refusal_of a ≡ None → FitsAs all b t a → KeepsStateAs b t a r
      → (c : Change) → KeepsStateOf t r (start name) (Some c) → IsChangeBy t (segment_of r) (start name) (change_of c) → IsLeft c
  start_left name (resumes at) adm ok fits over c keeps is = absurd (start_is_no_page b name at adm)
  start_left name (refused why) adm ok fits over c keeps is = absurd (cc)
  start_left name (begins k s) adm ok fits over (Opens o) (inl none) is = absurd none
  start_left name (begins k s) adm ok fits over (Opens o) (inr from) is = opening_left k s o fits over from is
  start_left name (begins k s) adm ok fits over (Extends x) (inl none) is = absurd none
  start_left name (begins k s) adm ok fits over (Extends x) (inr from) is = absurd from.1.1
  start_left name (begins k s) adm ok fits over (Ends e) keeps is = absurd is
  start_left name (begins k s) adm ok fits over (Finishes f) keeps is = absurd is

  page_left : (name : List ℕ) (n : PageName) (a : Admission) → admit b (page name n) ≡ a → refusal_of a ≡ None → FitsAs all b t a → KeepsStateAs b t a r
      → (c : Change) → KeepsStateOf t r (page name n) (Some c) → IsChangeBy t (segment_of r) (page name n) (change_of c) → IsLeft c
  page_left name n (begins k s) adm ok fits over c keeps is = absurd (page_is_no_start b name n k s adm)
  page_left name n (refused why) adm ok fits over c keeps is = absurd (cc)
  page_left name n (resumes at) adm ok fits over (Opens o) (inl none) is = absurd none
  page_left name n (resumes at) adm ok fits over (Opens o) (inr from) is = absurd from.1.1
  page_left name n (resumes at) adm ok fits over (Extends x) (inl none) is = absurd none
  page_left name n (resumes at) adm ok fits over (Extends x) (inr from) is = extension_left name n at x (page_stands b name n at adm) over from is
  page_left name n (resumes at) adm ok fits over (Ends e) keeps is = refl
  page_left name n (resumes at) adm ok fits over (Finishes f) keeps is = refl

  pub state_left : (d : Destination) → refusal_of (admit b d) ≡ None → FitsAs all b t (admit b d) → KeepsStateAs b t (admit b d) r
      → (c : Change) → KeepsStateOf t r d (Some c) → IsChangeBy t (segment_of r) d (change_of c) → IsLeft c
  state_left (start name) ok fits over c keeps is = start_left name (admit b (start name)) refl ok fits over c keeps is
  state_left (page name n) ok fits over c keeps is = page_left name n (admit b (page name n)) refl ok fits over c keeps is

-- ---- the state that a page's is written after is what its ticket goes on from

tape_there : (h : Home) (qs : List Page) (p : Page) → chain_tape h (qs ++ p ∷ []) ≡ Some (page_tape h qs p)
tape_there h [] p = refl
tape_there h (q ∷ qs) p = ap (λ (l : List Answer). Some (record { first = past h q; later = l })) (map-append (answered h) qs (p ∷ []))

module _ (b : Book) (t : Ticket) (at : Place) (whole : IsWhole at.instance.script) where
  abbrev behind : List Page
  behind = chain at.instance.pages at.page

  own_is : (d : Suspended) → IsStateBehind (page_visit b (ticket_of t) at) d → own_state b.shelf at ≡ Some d
  own_is d from =
      let s = at.instance.script in
      let h = home s b.shelf at.instance.number in
      ap (λ (qs : List Page). chain_tape h qs >>= state_over s.script) from.chain
      ∙ (ap (λ (o : Option Tape). o >>= state_over s.script) (tape_there h from.ancestors from.page) ∙ left_over s (page_tape h from.ancestors from.page) d whole from.state)

  goes_behind : (o : Option Suspended) → GoesOnFrom (page_visit b (ticket_of t) at) o → behind_at (links_behind at) (own_state b.shelf at) ≡ behind_at (links_behind at) o
  goes_behind None from =
      let own = own_state b.shelf at in
      subst (λ (qs : List Page). behind_at (links_at (length qs)) own ≡ behind_at (links_at (length qs)) None) (sym from) refl
  goes_behind (Some d) from = ap (behind_at (links_behind at)) (own_is d from)

module _ (all : List Named) (b : Book) (whole : HasWholeScripts b) (t : Ticket) (r : Segment) where
  abbrev IsBehind : Change → Type 0
  IsBehind c = own_before b (change_of c) ≡ behind_in t c

  opening_behind : (o : Opening) → IsStartBy t (segment_of r) (change_of (Opens o)) → IsBehind (Opens o)
  opening_behind o is = ap (own_before b) (start_shows t (segment_of r) o.record is).1

  answer_behind : (name : List ℕ) (n : PageName) (a : Admission) → admit b (page name n) ≡ a → refusal_of a ≡ None → FitsAs all b t a → (x : Extension)
      → IsAnswerBy t (segment_of r) n.instance n.page (change_of (Extends x)) → IsBehind (Extends x)
  answer_behind name n (begins k sc) adm ok fits x is = absurd (page_is_no_start b name n k sc adm)
  answer_behind name n (refused why) adm ok fits x is = absurd (cc)
  answer_behind name n (resumes at) adm ok fits x is =
      let stands = page_stands b name n at adm in
      ap (own_before b) (answer_shows t (segment_of r) n.instance n.page x.record is).1
      ∙ (ap (λ (o : Option Place). o >>= (λ z. behind_at (links_behind z) (own_state b.shelf z))) (place_found b name n at stands)
      ∙ (goes_behind b t at (whole.instances n.instance at.instance stands.here) (origin_of t.from) fits.from ∙ ap (λ (l : ℕ). behind_at l (origin_of t.from)) (sym fits.links)))

  pub before_left : (d : Destination) → refusal_of (admit b d) ≡ None → FitsAs all b t (admit b d) → (c : Change) → KeepsStateOf t r d (Some c) → IsChangeBy t (segment_of r) d (change_of c) → IsBehind c
  before_left (start name) ok fits (Opens o) keeps is = opening_behind o is
  before_left (start name) ok fits (Extends x) (inl none) is = absurd none
  before_left (start name) ok fits (Extends x) (inr from) is = absurd from.1.1
  before_left (start name) ok fits (Ends e) keeps is = refl
  before_left (start name) ok fits (Finishes f) keeps is = refl
  before_left (page name n) ok fits (Opens o) (inl none) is = absurd none
  before_left (page name n) ok fits (Opens o) (inr from) is = absurd from.1.1
  before_left (page name n) ok fits (Extends x) keeps is = answer_behind name n (admit b (page name n)) refl ok fits x is
  before_left (page name n) ok fits (Ends e) keeps is = refl
  before_left (page name n) ok fits (Finishes f) keeps is = refl

-- whatever stands beside the book
pub before_beside : (l : Library) (b : kept.Book) (x y : Beside) (c : spec.Change) → own_before (book_of l x b) c ≡ own_before (book_of l y b) c
before_beside l b x y (spec.opens o) = refl
before_beside l b x y (spec.extends e) = refl
before_beside l b x y (spec.ends e) = refl
before_beside l b x y (spec.finishes f) = refl
before_beside l b x y (spec.sweeps tick) = refl

pub state_beside : (l : Library) (b : kept.Book) (x y : Beside) (c : spec.Change) → state_by (book_of l x b) c ≡ state_by (book_of l y b) c
state_beside l b x y (spec.opens o) = refl
state_beside l b x y (spec.extends e) = refl
state_beside l b x y (spec.ends e) = refl
state_beside l b x y (spec.finishes f) = refl
state_beside l b x y (spec.sweeps tick) = refl
