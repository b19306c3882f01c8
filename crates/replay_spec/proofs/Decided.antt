-- What a decision records is sound.
use Rattle.std.proofs.Common.{◌+◌, ◌≡◌, ◌++◌, ℕ, List, [], ◌∷◌, reverse, length, Option, Some, map, refl, sym, ap, subst, ◌∙◌, ⊎_elim, slice_get, append-nil, arith}
use Rattle.std.specs.Prelude.{⊤}
use Rattle.std.proofs.lemmas.List.{reverse-append, map-append}
use Rattle.script_value.specs.Val.{Val}
use Rattle.script_value.specs.declared.outcome.TxName.{TxName}
use Rattle.instance_cells.specs.Cells.{reads_of}
use Rattle.script_nodes.specs.Setup.{Named}
use Rattle.script_nodes.specs.declared.script.SendKind.{SendKind}
use Rattle.replay_spec.specs.Names.{Has}
use Rattle.replay_spec.specs.Tape.{Reads, present, recorded, Answer, Tape, shows, finishes, ends, Outcome, paged}
use Rattle.replay_spec.specs.Tape as tape
use Rattle.replay_spec.specs.Eval.{Segment, run, unread}
use Rattle.replay_spec.specs.Book as spec
use Rattle.replay_spec.specs.Book.{Page, Change, Book, instance_at, page_at, chain, page_by}
use Rattle.replay_spec.specs.Rules.{Rules}
use Rattle.replay_spec.specs.Admission.{or_else, Place, Admission, begins, resumes, refused, admit}
use Rattle.replay_spec.specs.Next.{Ticket, starts, Home, answered, past, tape_of, page_tape, Visit, url_for, home_of, newest, end_over, comes_to, start_visit, page_visit}
use Rattle.replay_spec.specs.Step.{Reply, Decision, replies, records, compacts, gone_for, unless, too_long, full_journal, with_room, opening, extension, ending, finish, reply_by, full, stopped, decide}
use Rattle.replay_spec.specs.Invariant.{with_more, Lineage, Replays, Leaving, IsSoundChange, IsSound}
use Rattle.replay_spec.specs.Laws.{IsWithin, longer, Pages, Waits}
use Rattle.replay_spec.proofs.Names.{has_none, open_none}
use Rattle.replay_spec.proofs.Follows.{follow, own_of, left_of}
use Rattle.replay_spec.proofs.Second.{pages_past}
use Rattle.replay_spec.proofs.Recorded.{recorded_is}
use Rattle.replay_spec.proofs.Ancestors.{chain_is}
use Rattle.replay_spec.proofs.Admitted.{Stands, Says, says}
use Rattle.replay_spec.proofs.Orderly.{stands_there}
use Rattle.replay_spec.proofs.Going.{Records}

-- a visit that shows a page over cells shows it over what it read, and reads just this
record Again (v : Visit) (fuel : ℕ) (cells : List Val) (kind : SendKind) (bytes : List ℕ) : Type 0 where
  stops : (more : List Val) → (comes_to v (recorded (reads_of (comes_to v (present cells fuel)).effects ++ more))).outcome ≡ paged (shows kind) bytes
  inside : (more : List Val) → (comes_to v (recorded (reads_of (comes_to v (present cells fuel)).effects ++ more))).entered ≡ (comes_to v (present cells fuel)).entered
  read : (more : List Val) → unread (end_over v (recorded (reads_of (comes_to v (present cells fuel)).effects ++ more))) ≡ more

again : (v : Visit) (fuel : ℕ) (cells : List Val) (kind : SendKind) (bytes : List ℕ) → (comes_to v (present cells fuel)).outcome ≡ paged (shows kind) bytes → Again v fuel cells kind bytes
again v fuel cells kind bytes e = record {
  stops = λ more. ap (λ (o : Segment). o.outcome) ((all more).0 (subst Pages (sym e) tt)) ∙ e;
  inside = λ more. ap (λ (o : Segment). o.entered) ((all more).0 (subst Pages (sym e) tt));
  read = λ more. (all more).1 (subst Waits (sym e) tt);
}
  where
    all : (more : List Val)
        → (Pages (comes_to v (present cells fuel)).outcome → comes_to v (recorded (reads_of (comes_to v (present cells fuel)).effects ++ more)) ≡ record (comes_to v (present cells fuel)) { effects = [] })
        × (Waits (comes_to v (present cells fuel)).outcome → unread (end_over v (recorded (reads_of (comes_to v (present cells fuel)).effects ++ more))) ≡ more)
    all more = recorded_is v.script.script (map (answered (home_of v)) v.pages) (newest v (present cells fuel)) (pages_past (home_of v) v.pages) fuel cells more

-- the tape after a page is the page's own with one more answer
pub tape_longer : (h : Home) (ps : List Page) (p : Page) (a : Answer) → tape_of h (ps ++ p ∷ []) a ≡ longer a (page_tape h ps p)
tape_longer h [] p a = refl
tape_longer h (q ∷ qs) p a = ap (λ (l : List Answer). record { first = past h q; later = l ++ a ∷ [] }) (map-append (answered h) qs (p ∷ []))

pub with_none : (p : Page) → with_more [] p ≡ p
with_none p = ap (λ (vs : List Val). record p { reads = vs }) (append-nil p.reads)

-- an answer to this page, which stands in the book, and the run after it
pub record Answers (b : Book) (t : Ticket) (at : Place) : Type 0 where
  pub here : instance_at at.instance.number b.instances ≡ Some at.instance
  pub shown : page_at at.page.number at.instance.pages ≡ Some at.page
  pub is_open : (x : TxName) → Has at.page.inside x → Has at.instance.closed x → ⊥
  pub lineage : Lineage at.instance.pages at.page
  pub within : (reads : Reads) → IsWithin at.page.inside (newest (page_visit b t at) reads).segment (comes_to (page_visit b t at) reads)

pub answers_of : (b : Book) (t : Ticket) (at : Place) → IsSound b → Stands b at → Answers b t at
answers_of b t at g h = record {
  here = here;
  shown = shown;
  is_open = λ x names shut. open_none at.instance.closed at.page.inside x h.is_open names shut;
  lineage = lineage;
  within = within;
}
  where
    here : instance_at at.instance.number b.instances ≡ Some at.instance
    here = (stands_there b at h).0

    shown : page_at at.page.number at.instance.pages ≡ Some at.page
    shown = (stands_there b at h).1

    lineage : Lineage at.instance.pages at.page
    lineage = g.orderly.instances.lineage at.instance.number at.instance here at.page.number at.page shown

    within : (reads : Reads) → IsWithin at.page.inside (newest (page_visit b t at) reads).segment (comes_to (page_visit b t at) reads)
    within reads =
        let s = at.instance.script in
        let v = page_visit b t at in
        let a = newest v reads in
        let h = home_of v in
        let older = reverse lineage.ancestors in
        let own : Replays s b.shelf at.instance.number lineage.ancestors at.page =
        g.instances.replays at.instance.number at.instance here at.page.number at.page shown lineage in
        let stops : (run s.script (page_tape h older at.page)).outcome ≡ paged (shows own.kind) own.bytes =
        subst (λ (p : Page). (run s.script (page_tape h older p)).outcome ≡ paged (shows own.kind) own.bytes) (with_none at.page) (own.stops []) in
        let inside : (run s.script (page_tape h older at.page)).entered ≡ at.page.inside =
        subst (λ (p : Page). (run s.script (page_tape h older p)).entered ≡ at.page.inside) (with_none at.page) (own.inside []) in
        let behind = (follow s.script).1 (page_tape h older at.page) a (subst Waits (sym stops) tt) in
        let tape : tape_of h v.pages a ≡ longer a (page_tape h older at.page) =
        ap (λ (ps : List Page). tape_of h ps a)
        (chain_is at.instance.pages at.page lineage.ancestors lineage.are lineage.few ∙ reverse-append (at.page ∷ []) lineage.ancestors)
        ∙ tape_longer h older at.page a in
        subst (λ (x : Tape). IsWithin at.page.inside a.segment (run s.script x)) (sym tape)
        (subst (λ (names : List TxName). IsWithin names a.segment (run s.script (longer a (page_tape h older at.page)))) inside behind)

-- what a decision records is sound
abbrev pub IsSoundDecision : Book → Decision → Type 0
IsSoundDecision b (replies r) = ⊤
IsSoundDecision b (records r c inside) = IsSoundChange b.scripts b.shelf b.instances c inside
IsSoundDecision b (compacts r) = ⊤

-- a refusal that comes first is sound
unless_sound : (b : Book) (o : Option Reply) (d : Decision) → IsSoundDecision b d → IsSoundDecision b (unless o d)
unless_sound b o d h = grind arith

recorded_sound : (rules : Rules) (b : Book) (r : Reply) (inside : List TxName) (c : Change) → IsSoundChange b.scripts b.shelf b.instances c inside
    → IsSoundDecision b (with_room rules b r inside (Some c))
recorded_sound rules b r inside c sound =
    unless_sound b (or_else (too_long rules.journal b c) (full_journal rules.journal b c)) (records r c inside) sound

start_sound : (rules : Rules) (b : Book) (t : Ticket) (k : ℕ) (s : Named) (outcome : Outcome) → slice_get b.scripts k ≡ Some s
    → let v = start_visit b t k s in
    let o = comes_to v (present s.script.cells rules.fuel) in
    o.outcome ≡ outcome → IsSoundDecision b (stopped rules b [] v o outcome)
start_sound rules b t k s (paged (shows kind) bytes) at e =
    let v = start_visit b t k s in
    let source = present s.script.cells rules.fuel in
    let now = (newest v source).segment in
    let o = comes_to v source in
    let within : IsWithin [] now o = (follow s.script).0 now in
    let c = spec.opens (opening rules b v o k kind) in
    let r = reply_by (shows kind) bytes (url_for v) in
    let replays = again v rules.fuel s.script.cells kind bytes e in
    unless_sound b (full rules (shows kind) (starts k) (length b.instances)) (with_room rules b r o.entered (Some c)) (recorded_sound rules b r o.entered c (record {
      parent = refl;
      nothing = λ x left. has_none x (left_of [] now o within x left);
      own = λ x h. ⊎_elim (λ none. absurd (has_none x none)) (λ mine. mine) (own_of [] now o within x h);
      script = s;
      at = at;
      replays = record { kind = kind; bytes = bytes; stops = replays.stops; inside = replays.inside; read = replays.read };
    }))
start_sound rules b t k s (paged finishes bytes) at e = tt
start_sound rules b t k s (paged ends bytes) at e = tt
start_sound rules b t k s (tape.faulted f) at e = tt
start_sound rules b t k s (tape.out_of_fuel cost) at e = tt

abbrev leaves : (rules : Rules) (b : Book) (t : Ticket) (at : Place) → Answers b t at
    → Leaving b.instances at.instance.number at.page.number (comes_to (page_visit b t at) (present at.instance.cells rules.fuel)).left
leaves rules b t at a =
    let source = present at.instance.cells rules.fuel in
    let v = page_visit b t at in
    record {
      instance = at.instance;
      page = at.page;
      here = a.here;
      shown = a.shown;
      is_open = a.is_open;
      among = left_of at.page.inside (newest v source).segment (comes_to v source) (a.within source);
    }

page_sound : (rules : Rules) (b : Book) (t : Ticket) (at : Place) (outcome : Outcome) → Answers b t at
    → let v = page_visit b t at in
    let o = comes_to v (present at.instance.cells rules.fuel) in
    o.outcome ≡ outcome → IsSoundDecision b (stopped rules b (gone_for rules t at) v o outcome)
page_sound rules b t at (paged (shows kind) bytes) a e =
    unless_sound b (full rules (shows kind) v.origin (length b.instances)) (with_room rules b r out.entered (Some c)) (recorded_sound rules b r out.entered c (record {
      from = leaves rules b t at a;
      parent = refl;
      own = own_of at.page.inside (newest v source).segment out (a.within source);
      replays = replays;
    }))
  where
    source : Reads
    source = present at.instance.cells rules.fuel

    v : Visit
    v = page_visit b t at

    out : Segment
    out = comes_to v source

    x : spec.Extension
    x = extension rules b (gone_for rules t at) v out at.instance.number at.page.number kind

    c : Change
    c = spec.extends x

    r : Reply
    r = reply_by (shows kind) bytes (url_for v)

    p : Page
    p = page_by x out.entered

    replays : (h : Lineage at.instance.pages at.page) → Replays at.instance.script b.shelf at.instance.number (at.page ∷ h.ancestors) p
    replays h =
        let chained : chain at.instance.pages at.page ≡ reverse (at.page ∷ h.ancestors) = chain_is at.instance.pages at.page h.ancestors h.are h.few in
        let shown = again v rules.fuel at.instance.cells kind bytes e in
        record {
          kind = kind;
          bytes = bytes;
          stops = λ more. ap (λ (ps : List Page). (comes_to (record v { pages = ps }) (recorded (reads_of out.effects ++ more))).outcome) (sym chained) ∙ shown.stops more;
          inside = λ more. ap (λ (ps : List Page). (comes_to (record v { pages = ps }) (recorded (reads_of out.effects ++ more))).entered) (sym chained) ∙ shown.inside more;
          read = λ more. ap (λ (ps : List Page). unread (end_over (record v { pages = ps }) (recorded (reads_of out.effects ++ more)))) (sym chained) ∙ shown.read more;
        }
page_sound rules b t at (paged finishes bytes) a e =
    let v = page_visit b t at in
    let o = comes_to v (present at.instance.cells rules.fuel) in
    let from = leaves rules b t at a in
    recorded_sound rules b (Reply.finished bytes) o.entered (spec.finishes (finish v o at.instance.number at.page.number))
    (record { instance = from.instance; page = from.page; here = from.here; shown = from.shown; is_open = from.is_open; among = λ x none. absurd (has_none x none) })
page_sound rules b t at (paged ends bytes) a e =
    let v = page_visit b t at in
    let o = comes_to v (present at.instance.cells rules.fuel) in
    recorded_sound rules b (Reply.ended bytes) o.entered (spec.ends (ending v o at.instance.number at.page.number)) (leaves rules b t at a)
page_sound rules b t at (tape.faulted f) a e = tt
page_sound rules b t at (tape.out_of_fuel cost) a e = tt

admitted_sound : (rules : Rules) (b : Book) (t : Ticket) (a : Admission) → IsSound b → Says b a → IsSoundDecision b (decide rules b t a)
admitted_sound rules b t (begins k s) g h = start_sound rules b t k s (comes_to (start_visit b t k s) (present s.script.cells rules.fuel)).outcome h refl
admitted_sound rules b t (resumes at) g h =
    page_sound rules b t at (comes_to (page_visit b t at) (present at.instance.cells rules.fuel)).outcome (answers_of b t at g h) refl
admitted_sound rules b t (refused r) g h = tt

-- so is what a publish records
pub recorded_sound_of : {lawful : Type 0} (rules : Rules) (b : Book) (t : Ticket) (c : Change) (inside : List TxName) → IsSound b → Records lawful rules b t c inside
    → IsSoundChange b.scripts b.shelf b.instances c inside
recorded_sound_of rules b t c inside g h = subst (IsSoundDecision b) h.decided (admitted_sound rules b t (admit b t.target) g (says b t.target))
