-- The names that a page is inside are all different, and none of them is closed when it is shown.
use Rattle.std.proofs.Common.{◌≡◌, ◌==◌, ◌<◌, ◌+◌, ◌-◌, ◌^◌, ◌++◌, ◌⊎◌, ℕ, List, [], ◌∷◌, length, Option, Some, None, Bool, not, filter, refl, sym, ap, subst, ◌∙◌, inl, inr, ⊎_elim, slice_get, arith}
use Rattle.std.specs.Prelude.{⊤}
use Rattle.std.proofs.lemmas.Bool.{cases_eq}
use Rattle.std.proofs.lemmas.Bool.Decides.{nat_tests}
use Rattle.std.proofs.lemmas.Option.{same_Some}
use Rattle.script_value.specs.declared.outcome.TxName.{TxName}
use Rattle.script_nodes.specs.Setup.{Named}
use Rattle.replay_spec.specs.Names.{Has}
use Rattle.replay_spec.specs.Tape.{present, finishes, ends, Outcome, paged}
use Rattle.replay_spec.specs.Tape as tape
use Rattle.replay_spec.specs.Eval.{Segment}
use Rattle.replay_spec.specs.Book.{Page, Instance, Opening, Change, opens, extends, sweeps, Doubt, Book, is_live, instance_at, page_at, spend, landing, compacting, Work, root_by, page_by}
use Rattle.replay_spec.specs.Book as change
use Rattle.replay_spec.specs.Rules.{Rules}
use Rattle.replay_spec.specs.Change.{mend, put_in_order, put_page, shown_by, ended_by, fresh, opened_by, instances_by, land}
use Rattle.replay_spec.specs.Compaction.{reopened_with}
use Rattle.replay_spec.specs.Admission.{or_else, Place, Admission, begins, resumes, refused, admit}
use Rattle.replay_spec.specs.Next.{Ticket, Visit, url_for, newest, comes_to, start_visit, page_visit}
use Rattle.replay_spec.specs.Step.{Reply, Decision, replies, records, compacts, unless, too_long, full_journal, with_room, change_by, reply_by, full, stopped, gone_for, decide, doubting}
use Rattle.replay_spec.specs.Invariant.{Apart, Unused, IsSound}
use Rattle.replay_spec.specs.Runs.{lands}
use Rattle.replay_spec.specs.Laws.{Distinct, IsInFuel, Moment, then_book, book_after, AreLawful, AreShort, names_in_doubt, NamesDiffer, NamesStayDifferent, ShownIsOpen}
use Rattle.replay_spec.proofs.Steps.{stepped}
use Rattle.replay_spec.proofs.Names.{has_none, has_parts, none_open}
use Rattle.replay_spec.proofs.Follows.{follow, own_of, distinct_of, apart_of}
use Rattle.replay_spec.proofs.Numbered.{put_found, put_other}
use Rattle.replay_spec.proofs.Found.{KeepsNumber, keep_found}
use Rattle.replay_spec.proofs.Stand.{among_of}
use Rattle.replay_spec.proofs.Admitted.{Says, says}
use Rattle.replay_spec.proofs.Sound.{held_by}
use Rattle.replay_spec.proofs.Decided.{Answers, answers_of}
use Rattle.replay_spec.proofs.Going.{Records, Goes, stays, draws, spends, publishes, fails, goes_to, fails_at, rewrites, fails_to_rewrite, keeps, keeps_rewritten, loses, goes}

-- what is found where one was put is that one, or was there
pub put_from : {A : Type 0} (number : A → ℕ) (n : ℕ) (x y : A) (ys : List A) → change.at_number number n (put_in_order number x ys) ≡ Some y → (x ≡ y) ⊎ (change.at_number number n ys ≡ Some y)
put_from number n x y ys found = ⊎_elim
    (λ same. inl (let there = put_found number x ys in cc))
    (λ other. inr (sym (put_other number n x ys other) ∙ found)) (cases_eq (number x) n)

-- what is found where one was changed is that one changed, or was there
pub mend_from : (k n : ℕ) (f : Instance → Instance) (is : List Instance) (j : Instance) → KeepsNumber f → instance_at k (mend n f is) ≡ Some j
    → (instance_at k is ≡ Some j) ⊎ ((i : Instance) × ((instance_at k is ≡ Some i) × (f i ≡ j)))
mend_from k n f [] j same found = inl found
mend_from k n f (i ∷ is) j same found = grind (arith, nat_tests, same i, mend_from k n f is j same)

-- the names of each page differ
abbrev Differ : List Instance → Type 0
Differ is = (k n : ℕ) (i : Instance) (p : Page) → instance_at k is ≡ Some i → page_at n i.pages ≡ Some p → Distinct p.inside

mended : (n : ℕ) (f : Instance → Instance) (is : List Instance) (inside : List TxName) → KeepsNumber f
    → ((m : ℕ) (i : Instance) (p : Page) → page_at m (f i).pages ≡ Some p → (page_at m i.pages ≡ Some p) ⊎ (p.inside ≡ inside)) → Differ is → Distinct inside → Differ (mend n f is)
mended n f is inside keep pages differ new k m j p here shown = ⊎_elim
    (λ old. differ k m j p old shown)
    (λ (i, (there, same)). ⊎_elim
    (λ old. differ k m i p there old)
    (λ is_new. subst Distinct (sym is_new) new)
    (pages m i p (subst (λ (x : Instance). page_at m x.pages ≡ Some p) (sym same) shown)))
    (mend_from k n f is j keep here)

added : (p : Page) (m : ℕ) (ps : List Page) (q : Page) → page_at m (put_page p ps) ≡ Some q → (page_at m ps ≡ Some q) ⊎ (q.inside ≡ p.inside)
added p m ps q found = ⊎_elim (λ same. inr (ap (λ (x : Page). x.inside) (sym same))) (λ old. inl old) (put_from (λ (x : Page). x.number) m p q ps found)

filtered : (g : Instance → Bool) (is : List Instance) → Apart is → Differ is → Differ (filter g is)
filtered g is apart differ k n i p here shown = differ k n i p (keep_found g k is i apart here) shown

opened : (s : Option Named) (o : Opening) (inside : List TxName) (is : List Instance) → Differ is → Distinct inside → Differ (opened_by s o inside is)
opened None o inside is differ new k n j p here shown = differ k n j p here shown
opened (Some s) o inside is differ new k n j p here shown =
    let i = shown_by o.effects o.left o.kind [] (root_by o inside) (fresh s o.number) in
    ⊎_elim
    (λ same. ⊎_elim (λ none. absurd (let never : ⊥ = cc in never)) (λ is_new. subst Distinct (sym is_new) new)
    (added (root_by o inside) n [] p (subst (λ (x : Instance). page_at n x.pages ≡ Some p) (sym same) shown)))
    (λ old. differ k n j p old shown) (put_from (λ (x : Instance). x.number) k i j is here)

-- a change keeps them so, where those that its page is inside differ
landed : (scripts : List Named) (c : Change) (inside : List TxName) (is : List Instance) → Apart is → Differ is → Distinct inside → Differ (instances_by scripts c inside is)
landed scripts (opens o) inside is apart differ new = opened (slice_get scripts o.script) o inside is differ new
landed scripts (extends x) inside is apart differ new =
    mended x.instance (shown_by x.effects x.left x.kind x.evicted (page_by x inside)) is inside (λ i. refl) (λ m i p found. added (page_by x inside) m i.pages p found) differ new
landed scripts (change.ends e) inside is apart differ new = mended e.instance (ended_by e) is inside (λ i. refl) (λ m i p found. inl found) differ new
landed scripts (change.finishes f) inside is apart differ new = filtered (λ i. not (i.number == f.instance)) is apart differ
landed scripts (sweeps tick) inside is apart differ new = filtered (is_live tick) is apart differ

-- what a decision records differs
abbrev DiffersBy : Decision → Type 0
DiffersBy (replies r) = ⊤
DiffersBy (records r c inside) = Distinct inside
DiffersBy (compacts r) = ⊤

unless_differs : (o : Option Reply) (d : Decision) → DiffersBy d → DiffersBy (unless o d)
unless_differs o d h = grind arith

room_differs : (rules : Rules) (b : Book) (r : Reply) (inside : List TxName) (o : Option Change) → Distinct inside → DiffersBy (with_room rules b r inside o)
room_differs rules b r inside None h = tt
room_differs rules b r inside (Some c) h = unless_differs (or_else (too_long rules.journal b c) (full_journal rules.journal b c)) (records r c inside) h

stopped_differs : (rules : Rules) (b : Book) (gone : List ℕ) (v : Visit) (s : Segment) (o : Outcome) → (IsInFuel o → Distinct s.entered) → DiffersBy (stopped rules b gone v s o)
stopped_differs rules b gone v s (paged how bytes) h =
    unless_differs (full rules how v.origin (length b.instances)) (with_room rules b (reply_by how bytes (url_for v)) s.entered (change_by rules b gone v s v.origin how))
    (room_differs rules b (reply_by how bytes (url_for v)) s.entered (change_by rules b gone v s v.origin how) (h tt))
stopped_differs rules b gone v s (tape.faulted f) h = tt
stopped_differs rules b gone v s (tape.out_of_fuel cost) h = tt

-- no page that is answered is inside a transaction of the new segment
older : (b : Book) (t : Ticket) (at : Place) → IsSound b → Unused b t.number → Answers b t at → (x : TxName) → Has at.page.inside x → x.ticket ≡ t.number → ⊥
older b t at g unused a x h same =
    g.instances.no_name x at.instance.number (held_by b.instances at.instance.number at.page.number at.instance at.page a.here a.shown x h) (subst (Unused b) (sym same) unused)

decided_differs : (rules : Rules) (b : Book) (t : Ticket) (a : Admission) → rules.fuel < 2 ^ 32 - 1 → IsSound b → Differ b.instances → Unused b t.number → Says b a
    → DiffersBy (decide rules b t a)
decided_differs rules b t (begins k s) less g differ unused h =
    let v = start_visit b t k s in
    let source = present s.script.cells rules.fuel in
    let now = (newest v source).segment in
    let o = comes_to v source in
    stopped_differs rules b [] v o o.outcome (λ fine. distinct_of [] now o rules.fuel ((follow s.script).0 now) fine refl less tt (λ x none. absurd (has_none x none)))
decided_differs rules b t (resumes at) less g differ unused h =
    let v = page_visit b t at in
    let source = present at.instance.cells rules.fuel in
    let now = (newest v source).segment in
    let o = comes_to v source in
    let a = answers_of b t at g h in
    stopped_differs rules b (gone_for rules t at) v o o.outcome
    (λ fine. distinct_of at.page.inside now o rules.fuel (a.within source) fine refl less (differ at.instance.number at.page.number at.instance at.page a.here a.shown) (older b t at g unused a))
decided_differs rules b t (refused r) less g differ unused h = tt

-- so does what a publish records
recorded_differs : {lawful : Type 0} (rules : Rules) (b : Book) (t : Ticket) (c : Change) (inside : List TxName) → rules.fuel < 2 ^ 32 - 1 → IsSound b → Differ b.instances → Records lawful rules b t c inside → lawful → Distinct inside
recorded_differs rules b t c inside less g differ h l =
    subst DiffersBy h.decided (decided_differs rules b t (admit b t.target) less g differ (inl (h.out l)) (says b t.target))

landed_names : (rules : Rules) (b d : Book) (c : Change) (inside : List TxName) → Apart b.instances → NamesDiffer b → Distinct inside → d.instances ≡ instances_by b.scripts c inside b.instances → d.down ≡ None
    → NamesDiffer d
landed_names rules b d c inside apart h new is up = record {
  pages = subst Differ (sym is) (landed b.scripts c inside b.instances apart h.pages new);
  doubt = λ x e. absurd (let no : ⊥ = cc in no);
}

doubted_names : (b d : Book) (count : ℕ) (w : Work) → NamesDiffer b → Distinct (names_in_doubt w) → d.instances ≡ b.instances
    → d.down ≡ Some (record { count = count; work = w }) → NamesDiffer d
doubted_names b d count w h new is down = record {
  pages = subst Differ (sym is) h.pages;
  doubt = λ x e. (let same : (record { count = count; work = w }) ≡ x = same_Some _ x (sym down ∙ e) in subst (λ (y : Doubt). Distinct (names_in_doubt y.work)) same new);
}

went_names : {lawful : Type 0} (rules : Rules) (b d : Book) (o : Option Change) → Goes lawful rules b o d → lawful → rules.fuel < 2 ^ 32 - 1 → IsSound b → NamesDiffer b → NamesDiffer d
went_names rules b d o stays l less g h = h
went_names rules b d o draws l less g h = record { pages = h.pages; doubt = h.doubt }
went_names rules b d o (spends n out) l less g h = record { pages = h.pages; doubt = h.doubt }
went_names rules b d o (publishes t c inside r) l less g h =
    landed_names rules b (land rules c inside (spend t.number b)) c inside g.orderly.instances.apart h (recorded_differs rules b t c inside less g h.pages r l) refl r.up
went_names rules b d o (fails count t c inside r) l less g h =
    doubted_names b (doubting count (landing c inside) (spend t.number b)) count (landing c inside) h (recorded_differs rules b t c inside less g h.pages r l) refl refl
went_names rules b d o (goes_to tick later up unfed) l less g h = landed_names rules b (land rules (sweeps tick) [] b) (sweeps tick) [] g.orderly.instances.apart h tt refl up
went_names rules b d o (fails_at count tick later up unfed) l less g h = doubted_names b (doubting count (landing (sweeps tick) []) b) count (landing (sweeps tick) []) h tt refl refl
went_names rules b d o (rewrites up unfed) l less g h = record { pages = h.pages; doubt = h.doubt }
went_names rules b d o (fails_to_rewrite count up unfed) l less g h = doubted_names b (doubting count compacting b) count compacting h tt refl refl
went_names rules b d o (keeps scripts count c inside down) l less g h =
    landed_names rules b (reopened_with rules.journal scripts (land rules c inside b)) c inside g.orderly.instances.apart h (h.doubt (record { count = count; work = landing c inside }) down) refl refl
went_names rules b d o (keeps_rewritten scripts count down) l less g h = record { pages = h.pages; doubt = λ x e. absurd (let no : ⊥ = cc in no) }
went_names rules b d o (loses scripts) l less g h = record { pages = h.pages; doubt = λ x e. absurd (let no : ⊥ = cc in no) }

ran_names : (b : Book) (ms : List Moment) → IsSound b → NamesDiffer b → AreLawful ms b → AreShort ms → NamesDiffer (book_after ms b)
ran_names b [] g h lawful short = h
ran_names b (m ∷ ms) g h lawful short =
    let d = then_book m b in
    ran_names d ms (stepped m b g lawful.0).sound
    (went_names m.rules b d (lands m.rules b m.event m.fate) (goes m.rules b m.nonce m.event m.fate) lawful.0 short.0 g h) lawful.1 short.1

pub stay_different : NamesStayDifferent
stay_different = (
  λ (rules : Rules) (scripts : List Named) (shelf : ℕ).
      record { pages = λ k n i p here shown. absurd (let no : ⊥ = cc in no); doubt = λ d e. absurd (let no : ⊥ = cc in no) },
  ran_names,
)

pub shown_open : ShownIsOpen
shown_open rules b t at g differ out e =
    let unused : Unused b t.number = inl (among_of b.out t.number out) in
    let a = answers_of b t at g (subst (Says b) e (says b t.target)) in
    let source = present at.instance.cells rules.fuel in
    let v = page_visit b t at in
    let now = (newest v source).segment in
    let o = comes_to v source in
    let before = older b t at g unused a in
    none_open (at.instance.closed ++ o.left) o.entered
    (λ (x : TxName) (h : Has o.entered x) (shut : Has (at.instance.closed ++ o.left) x).
    ⊎_elim
    (λ old. ⊎_elim (λ among. a.is_open x among old)
    (λ mine. g.instances.no_closed x at.instance.number (record { instance = at.instance; found = a.here; closed = old }) (subst (Unused b) (sym mine) unused))
    (own_of at.page.inside now o (a.within source) x h))
    (λ left. apart_of at.page.inside now o (a.within source) (differ.pages at.instance.number at.page.number at.instance at.page a.here a.shown) before x left h) (has_parts at.instance.closed o.left x shut))
