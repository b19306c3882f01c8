-- What a journal with own states told of each page is the state that its script left there.
use Rattle.std.proofs.Common.{◌≡◌, ◌≢◌, ◌≤◌, ◌==◌, ◌+◌, ℕ, suc, List, [], ◌∷◌, ◌++◌, map, reverse, length, slice_get, not, Bool, true, false, Option, Some, None, refl, sym, ap, subst, ◌∙◌, cond, ⊎_elim, arith, append_assoc}
use Rattle.std.specs.Prelude.{⊤}
use Rattle.std.proofs.lemmas.Bool.Decides.{nat_tests}
use Rattle.std.proofs.lemmas.List.{append-nil, map-append, reverse-append}
use Rattle.std.proofs.lemmas.Option.{same_Some}
use Rattle.script_value.specs.declared.outcome.TxName.{TxName}
use Rattle.instance_cells.specs.Cells.{reads_of}
use Rattle.script_nodes.specs.Setup.{Named}
use Rattle.replay_spec.specs.Tape.{recorded, Answer}
use Rattle.replay_spec.specs.Book.{Page, Instance, Opening, Extension, Change, opens, extends, ends, finishes, sweeps, renewed, File, Book, instance_at, page_at, parent_of, chain, is_live, root_by, page_by}
use Rattle.replay_spec.specs.Rules.{first_file}
use Rattle.replay_spec.specs.Change.{mend, put_page, shown_by, ended_by, fresh, opened_by, instances_by}
use Rattle.replay_spec.specs.Admission.{◌>>=◌, Place}
use Rattle.replay_spec.specs.Next.{home, past, answered, newest, tape_of}
use Rattle.replay_spec.specs.Recovery.{page_of_numbers, extension_visit, number_in, with_number, first_of}
use Rattle.replay_spec.specs.Invariant.{Apart, AreAncestors, Lineage, IsOf, AreOrderly}
use Rattle.replay_spec.specs.Remade.{IsOrderlyMade}
use Rattle.replay_spec.proofs.Numbered.{number_of, put_found, put_length}
use Rattle.replay_spec.proofs.Ancestors.{Grown, put_grown, chain_is, ancestors_grown, lineage_grown}
use Rattle.replay_spec.proofs.Stand.{Was, Since}
use Rattle.replay_spec.proofs.Landed.{never, land_well}
use Rattle.replay_spec.proofs.Found.{mend_other, mend_found, keep_found}
use Rattle.replay_spec.proofs.Differ.{put_from, mend_from}
use Rattle.replay_spec.proofs.Admitted.{came_from}
use Rattle.replay_spec.proofs.Recovered.{new_number, more_seen, Unseen}
use Rattle.replay_spec.proofs.Compacted.{line_orderly, first_orderly}
use Rattle.machine_states.specs.Machine.{Suspended, inside_of}
use Rattle.kept_states.specs.FrameCodec.Forms.{read_form}
use Rattle.kept_states.specs.Links.{behind_at}
use Rattle.page_journal.specs.Records.{frames}
use Rattle.journal_records.specs.Records.{Record, begins, changes, renews, draws, follows, promotes}
use Rattle.journal_records.specs.Reading.{read_record}
use Rattle.journal_spec.specs.Before.{States, state_at, Earlier, nothing_told, Made, plain, links_behind, before_told}
use Rattle.journal_spec.specs.Retaking.{arena_of, Told, unread, misread, told, told_as, told_by, told_in, held, landing, then_told, retaken}
use Rattle.journal_spec.specs.Lengths.{state_over, state_by, chain_tape, own_state, own_before}
use Rattle.journal_spec.specs.Whole.{HasOwnStates}
use Rattle.journal_spec.specs.Making.{Texts, Making, nothing, waits, waited, begun, made, damaged, other, has_script, beside, in_file, waiting, began, first_setup, first_by, start_by, fed_by, told_next, next_setup, promoted_by, next_by, second_by, with_body, made_in, book_of}
use Rattle.journal_spec.specs.Owning.{IsOwnState, IsOwnRecord, AreOwn, IsOwnBefore}
use Rattle.journal_spec.specs.Laws.{OwnStatesAreTold}
use Rattle.journal_spec.proofs.Makings.{with_push}
use Rattle.journal_spec.proofs.Retaken.{held_fits, landing_is, retaken_orderly, filed_orderly}

-- ---- what a change's page is written after

same_by : {A B : Type 0} (o : Option A) (f g : A → Option B) → ((x : A) → o ≡ Some x → f x ≡ g x) → (o >>= f) ≡ (o >>= g)
same_by None f g h = refl
same_by (Some x) f g h = h x refl

record Stands (b : Book) (k n : ℕ) (at : Place) : Type 0 where
  found : instance_at k b.instances ≡ Some at.instance
  shown : page_at n at.instance.pages ≡ Some at.page

stands : (b : Book) (k n : ℕ) (at : Place) → page_of_numbers b k n ≡ Some at → Stands b k n at
stands b k n at e =
    let i = came_from (instance_at k b.instances) _ at e in
    let p = came_from (page_at n i.0.pages) _ at i.1.1 in
    let place : Place = record { instance = i.0; page = p.0 } in
    let is : place ≡ at = same_Some place at p.1.1 in
    let there : Stands b k n place = record { found = i.1.0; shown = p.1.0 } in
    subst (λ (x : Place). Stands b k n x) is there

pub own_before_is : (earlier : Earlier) (b : Book) (c : Change) → HasOwnStates earlier b → before_told earlier b c ≡ own_before b c
own_before_is earlier b (opens o) h = refl
own_before_is earlier b (ends e) h = refl
own_before_is earlier b (finishes f) h = refl
own_before_is earlier b (sweeps tick) h = refl
own_before_is earlier b (extends x) h =
    same_by (page_of_numbers b x.instance x.page) (λ at. behind_at (links_behind at) (state_at at.page.number earlier.states))
    (λ at. behind_at (links_behind at) (own_state b.shelf at))
    (λ at e.
    let s = stands b x.instance x.page at e in
    let number = number_of (λ (p : Page). p.number) x.page at.instance.pages at.page s.shown in
    ap (behind_at (links_behind at)) (ap (λ (k : ℕ). state_at k earlier.states) number ∙ h x.instance x.page at.instance at.page s.found s.shown))

-- ---- the state of a page, by its chain

abbrev OwnIn : (shelf : ℕ) → States → List Instance → Type 0
OwnIn shelf states is =
    (k n : ℕ) (i : Instance) (p : Page) → instance_at k is ≡ Some i → page_at n i.pages ≡ Some p → state_at n states ≡ own_state shelf (record { instance = i; page = p })

abbrev state_behind : (shelf : ℕ) → Named → (number : ℕ) → List Page → Option Suspended
state_behind shelf s number qs = chain_tape (home s shelf number) qs >>= state_over s.script

same_own : (shelf : ℕ) (i j : Instance) (p : Page) → j.script ≡ i.script → j.number ≡ i.number → chain j.pages p ≡ chain i.pages p
    → own_state shelf (record { instance = i; page = p }) ≡ own_state shelf (record { instance = j; page = p })
same_own shelf i j p script number behind = λ x. state_behind shelf (sym script x) (sym number x) (sym behind x)

grown_chain : (ps qs : List Page) (p : Page) → Lineage ps p → Grown ps qs → length ps ≤ length qs → chain qs p ≡ chain ps p
grown_chain ps qs p h grown longer =
    let l = lineage_grown ps qs grown longer p h in
    chain_is qs p h.ancestors l.are l.few ∙ sym (chain_is ps p h.ancestors h.are h.few)

numbered : (k : ℕ) (is : List Instance) (i : Instance) → instance_at k is ≡ Some i → i.number ≡ k
numbered k is i found = number_of (λ (x : Instance). x.number) k is i found

-- a page that was there
old_own : (u : ℕ → Type 0) (shelf : ℕ) (states : States) (is js : List Instance) → AreOrderly u is → Since u is js → OwnIn shelf states is
    → (k n : ℕ) (j : Instance) (p : Page) → instance_at k js ≡ Some j → page_at n j.pages ≡ Some p → (u n → ⊥)
    → state_at n states ≡ own_state shelf (record { instance = j; page = p })
old_own u shelf states is js orderly since own k n j p found shown used =
    let at = since.paged k n p (record { instance = j; found = found; shown = shown }) used in
    let w = since.was k j found (λ unused. never (instance_at k is) at.instance (orderly.no_instance k unused) at.found) in
    let same : w.instance ≡ at.instance = same_Some w.instance at.instance (sym w.found ∙ at.found) in
    let was : Was is k j = w in
    let script : j.script ≡ at.instance.script = w.script ∙ ap (λ (i : Instance). i.script) same in
    let grown : Grown at.instance.pages j.pages = subst (λ (i : Instance). Grown i.pages j.pages) same w.grown in
    let longer : length at.instance.pages ≤ length j.pages = subst (λ (i : Instance). length i.pages ≤ length j.pages) same w.longer in
    let number : j.number ≡ at.instance.number = numbered k js j found ∙ sym (numbered k is at.instance at.found) in
    own k n at.instance p at.found at.shown
    ∙ same_own shelf at.instance j p script number (grown_chain at.instance.pages j.pages p (orderly.lineage k at.instance at.found n p at.shown) grown longer)

-- ---- a record without a page

abbrev pub IsQuiet : Change → Type 0
IsQuiet (opens o) = ⊥
IsQuiet (extends x) = ⊥
IsQuiet _ = ⊤

pub record Before (is : List Instance) (k : ℕ) (j : Instance) : Type 0 where
  pub instance : Instance
  pub found : instance_at k is ≡ Some instance
  pub pages : j.pages ≡ instance.pages
  pub script : j.script ≡ instance.script

pub quiet_from : (scripts : List Named) (is : List Instance) (c : Change) (names : List TxName) → Apart is → IsQuiet c → (k : ℕ) (j : Instance)
    → instance_at k (instances_by scripts c names is) ≡ Some j → Before is k j
quiet_from scripts is (opens o) names apart quiet k j found = absurd quiet
quiet_from scripts is (extends x) names apart quiet k j found = absurd quiet
quiet_from scripts is (ends e) names apart quiet k j found = ⊎_elim
    (λ (old : instance_at k is ≡ Some j). record { instance = j; found = old; pages = refl; script = refl })
    (λ ((i, there) : (i : Instance) × ((instance_at k is ≡ Some i) × (ended_by e i ≡ j))). record {
      instance = i;
      found = there.0;
      pages = ap (λ (x : Instance). x.pages) (sym there.1);
      script = ap (λ (x : Instance). x.script) (sym there.1);
    })
    (mend_from k e.instance (ended_by e) is j (λ i. refl) found)
quiet_from scripts is (finishes f) names apart quiet k j found =
    record { instance = j; found = keep_found (λ i. not (i.number == f.instance)) k is j apart found; pages = refl; script = refl }
quiet_from scripts is (sweeps tick) names apart quiet k j found =
    record { instance = j; found = keep_found (is_live tick) k is j apart found; pages = refl; script = refl }

quiet_own : (shelf : ℕ) (states : States) (scripts : List Named) (is : List Instance) (c : Change) (names : List TxName) → Apart is → IsQuiet c → OwnIn shelf states is
    → OwnIn shelf states (instances_by scripts c names is)
quiet_own shelf states scripts is c names apart quiet own k n j p found shown =
    let i = quiet_from scripts is c names apart quiet k j found in
    let number : j.number ≡ i.instance.number = numbered k (instances_by scripts c names is) j found ∙ sym (numbered k is i.instance i.found) in
    own k n i.instance p i.found (ap (λ (ps : List Page). page_at n ps) (sym i.pages) ∙ shown)
    ∙ same_own shelf i.instance j p i.script number (ap (λ (ps : List Page). chain ps p) i.pages)

-- where a script is there, something is read
not_unread : (before : Option Suspended) (s : Named) (state : Option (List ℕ)) → told_by before (Some s) state ≡ unread → ⊥
not_unread before s None e = let no : ⊥ = cc in no
not_unread before s (Some bytes) e = some (read_form (arena_of s.script) before bytes) e
  where
    some : (o : Option Suspended) → told_as o ≡ unread → ⊥
    some None f = let no : ⊥ = cc in no
    some (Some d) f = let no : ⊥ = cc in no

pub quiet_if : (earlier : Earlier) (b : Book) (c : Change) (state : Option (List ℕ)) (inside names : List TxName) → told_in earlier b c state ≡ unread → held b c inside ≡ Some names → IsQuiet c
quiet_if earlier b (opens o) state inside names e can =
    let s = came_from (slice_get b.scripts o.script) _ names can in
    not_unread None s.0 state (ap (λ (x : Option Named). told_by None x state) (sym s.1.0) ∙ e)
quiet_if earlier b (extends x) state inside names e can =
    let at = came_from (page_of_numbers b x.instance x.page) _ names can in
    let before = before_told earlier b (extends x) in
    not_unread before at.0.instance.script state
    (ap (λ (o : Option Place). told_by before (o >>= (λ y. Some y.instance.script)) state) (sym at.1.0) ∙ e)
quiet_if earlier b (ends e') state inside names e can = tt
quiet_if earlier b (finishes f) state inside names e can = tt
quiet_if earlier b (sweeps tick) state inside names e can = tt

-- ---- a record that shows a page

pub at_number_again : (n : ℕ) (d : Suspended) (ss : States) → state_at n ((n, d) ∷ ss) ≡ Some d
at_number_again n d ss = let same : (n == n) ≡ true = grind (arith, nat_tests) in ap (λ (t : Bool). cond t (Some d) (state_at n ss)) same

at_other : (m n : ℕ) (d : Suspended) (ss : States) → (m == n) ≡ false → state_at n ((m, d) ∷ ss) ≡ state_at n ss
at_other m n d ss differs = ap (λ (t : Bool). cond t (Some d) (state_at n ss)) differs

-- the page of the new number is that of a start
opened_own : (u : ℕ → Type 0) (b : Book) (o : Opening) (names : List TxName) (d : Suspended) → AreOrderly u b.instances → u o.number → state_by b (opens o) ≡ Some d
    → (k : ℕ) (j : Instance) (p : Page) → instance_at k (instances_by b.scripts (opens o) names b.instances) ≡ Some j → page_at o.number j.pages ≡ Some p
    → Some d ≡ own_state b.shelf (record { instance = j; page = p })
opened_own u b o names d orderly unused is k j p found shown =
    let s = came_from (slice_get b.scripts o.script) _ d is in
    let i = shown_by o.effects o.left o.kind [] (root_by o names) (fresh s.0 o.number) in
    let there : instance_at k (opened_by (Some s.0) o names b.instances) ≡ Some j = ap (λ (x : Option Named). instance_at k (opened_by x o names b.instances)) (sym s.1.0) ∙ found in
    ⊎_elim
    (λ (same : i ≡ j).
    let root : root_by o names ≡ p =
    same_Some (root_by o names) p (sym (put_found (λ (q : Page). q.number) (root_by o names) []) ∙ ap (λ (x : Instance). page_at o.number x.pages) same ∙ shown) in
    sym s.1.1 ∙ (λ z. own_state b.shelf (record { instance = same z; page = root z })))
    (λ (old : instance_at k b.instances ≡ Some j). absurd (never (page_at o.number j.pages) p (orderly.no_page o.number unused k j old) shown))
    (put_from (λ (x : Instance). x.number) k i j b.instances there)

-- the chain of a new page
new_chain : (ps : List Page) (q p : Page) (n : ℕ) → Lineage ps q → page_at n ps ≡ Some q → p.parent ≡ Some n → page_at p.number ps ≡ None
    → chain (put_page p ps) p ≡ chain ps q ++ p ∷ []
new_chain ps q p n h shown parent new =
    let grown = put_grown p ps new in
    let longer : length (put_page p ps) ≡ suc (length ps) = put_length (λ (x : Page). x.number) p ps new in
    let few = h.few in
    let older = ancestors_grown ps (put_page p ps) grown q h.ancestors h.are in
    let its : AreAncestors (put_page p ps) p (q ∷ h.ancestors) = (ap (parent_of (put_page p ps)) parent ∙ grown n q shown, older) in
    chain_is (put_page p ps) p (q ∷ h.ancestors) its (omega (arith, few, longer)) ∙ reverse-append (p ∷ []) (q ∷ h.ancestors)
    ∙ ap (λ (l : List Page). l ++ p ∷ []) (sym (chain_is ps q h.ancestors h.are h.few))

no_end : {A : Type 0} (xs : List A) (x : A) → xs ++ x ∷ [] ≡ [] → ⊥
no_end [] x e = let no : ⊥ = cc in no
no_end (y ∷ xs) x e = let no : ⊥ = cc in no

chain_full : (ps : List Page) (p : Page) → Lineage ps p → chain ps p ≡ [] → ⊥
chain_full ps p h e = no_end (reverse h.ancestors) p (sym (reverse-append (p ∷ []) h.ancestors) ∙ (sym (chain_is ps p h.ancestors h.are h.few) ∙ e))

-- the tape over which a page was shown is that of its visit
shown_over : (shelf : ℕ) (s : Named) (number : ℕ) (qs : List Page) (p : Page) (y : Answer) → (qs ≡ [] → ⊥) → answered (home s shelf number) p ≡ y
    → state_behind shelf s number (qs ++ p ∷ []) ≡ state_over s.script (tape_of (home s shelf number) qs y)
shown_over shelf s number [] p y full same = absurd (full refl)
shown_over shelf s number (r ∷ rs) p y full same =
    let h = home s shelf number in
    ap (λ (l : List Answer). state_over s.script (record { first = past h r; later = l }))
    (map-append (answered h) rs (p ∷ []) ∙ ap (λ (a : Answer). map (answered h) rs ++ a ∷ []) same)

-- the page of the new number is that of an answer
extended_own : (u : ℕ → Type 0) (b : Book) (x : Extension) (names : List TxName) (d : Suspended) → AreOrderly u b.instances → u x.number → state_by b (extends x) ≡ Some d
    → (k : ℕ) (j : Instance) (p : Page) → instance_at k (instances_by b.scripts (extends x) names b.instances) ≡ Some j → page_at x.number j.pages ≡ Some p
    → Some d ≡ own_state b.shelf (record { instance = j; page = p })
extended_own u b x names d orderly unused is k j p found shown = by_number (x.instance == k) refl
  where
    new : Page
    new = page_by x names

    f : Instance → Instance
    f = shown_by x.effects x.left x.kind x.evicted new

    elsewhere : x.instance ≢ k → Some d ≡ own_state b.shelf (record { instance = j; page = p })
    elsewhere differs =
        let old : instance_at k b.instances ≡ Some j = sym (mend_other k x.instance f b.instances (λ i. refl) differs) ∙ found in
        absurd (never (page_at x.number j.pages) p (orderly.no_page x.number unused k j old) shown)

    here : x.instance ≡ k → Some d ≡ own_state b.shelf (record { instance = j; page = p })
    here at_k =
        let at = came_from (page_of_numbers b x.instance x.page) _ d is in
        let i = at.0.instance in
        let q = at.0.page in
        let st = stands b x.instance x.page at.0 at.1.0 in
        let same : f i ≡ j =
        same_Some (f i) j
        (sym (mend_found x.instance f b.instances i (λ i. refl) st.found) ∙ (ap (λ (n : ℕ). instance_at n (mend x.instance f b.instances)) at_k ∙ found)) in
        let page : new ≡ p =
        same_Some new p (sym (put_found (λ (r : Page). r.number) new i.pages) ∙ (ap (λ (y : Instance). page_at x.number y.pages) same ∙ shown)) in
        let none : page_at x.number i.pages ≡ None = orderly.no_page x.number unused x.instance i st.found in
        let lineage = orderly.lineage x.instance i st.found x.page q st.shown in
        let behind = new_chain i.pages q new x.page lineage st.shown refl none in
        let y = newest (extension_visit b x at.0) (recorded (reads_of x.effects)) in
        let over = shown_over b.shelf i.script i.number (chain i.pages q) new y (chain_full i.pages q lineage) refl in
        sym at.1.1 ∙ (sym over ∙ (ap (λ (qs : List Page). state_behind b.shelf i.script i.number qs) (sym behind)
        ∙ (λ z. own_state b.shelf (record { instance = same z; page = page z }))))

    by_number : (t : Bool) → (x.instance == k) ≡ t → Some d ≡ own_state b.shelf (record { instance = j; page = p })
    by_number true e = here (grind (arith, nat_tests, e))
    by_number false e = elsewhere (grind (arith, nat_tests, e))

-- ---- one record more

-- the number that a page has
abbrev IsPageOf : Change → ℕ → Type 0
IsPageOf (opens o) n = o.number ≡ n
IsPageOf (extends x) n = x.number ≡ n
IsPageOf _ n = ⊥

new_own : (u : ℕ → Type 0) (b : Book) (c : Change) (names : List TxName) (d : Suspended) → AreOrderly u b.instances → ((m : ℕ) → IsOf m c → u m) → state_by b c ≡ Some d
    → (k n : ℕ) → IsPageOf c n → (j : Instance) (p : Page) → instance_at k (instances_by b.scripts c names b.instances) ≡ Some j → page_at n j.pages ≡ Some p
    → Some d ≡ own_state b.shelf (record { instance = j; page = p })
new_own u b (opens o) names d orderly fresh is k n number j p found shown =
    opened_own u b o names d orderly (fresh o.number refl) is k j p found (ap (λ (m : ℕ). page_at m j.pages) number ∙ shown)
new_own u b (extends x) names d orderly fresh is k n number j p found shown =
    extended_own u b x names d orderly (fresh x.number refl) is k j p found (ap (λ (m : ℕ). page_at m j.pages) number ∙ shown)
new_own u b (ends e) names d orderly fresh is k n number j p found shown = absurd number
new_own u b (finishes f) names d orderly fresh is k n number j p found shown = absurd number
new_own u b (sweeps tick) names d orderly fresh is k n number j p found shown = absurd number

module _ (m : Made) (c : Change) (inside names : List TxName) (d : Suspended) (orderly : IsOrderlyMade (plain m)) (own : HasOwnStates m.earlier m.book) (is : state_by m.book c ≡ Some d) (lands : landing m c inside ≡ Some names) where
  abbrev was : ℕ → Type 0
  was = Unseen m.earlier.seen

  abbrev then_ : ℕ → Type 0
  then_ = Unseen (with_number (number_in c) m.earlier.seen)

  abbrev after : List Instance
  after = instances_by m.book.scripts c names m.book.instances

  landed : AreOrderly then_ after × Since was m.book.instances after
  landed =
      let t = landing_is m c inside names lands in
      land_well m.book.scripts m.book.clock was then_ m.book.instances c names orderly.instances (held_fits m.book c inside names t.0) (new_number c m.earlier.seen t.1)
      (more_seen c m.earlier.seen)

  -- a page of another number was there
  other_own : (number : ℕ) → ((n : ℕ) → was n → (number ≡ n → ⊥) → then_ n) → (k n : ℕ) (j : Instance) (p : Page) → instance_at k after ≡ Some j → page_at n j.pages ≡ Some p
      → (number == n) ≡ false → state_at n ((number, d) ∷ m.earlier.states) ≡ own_state m.book.shelf (record { instance = j; page = p })
  other_own number still k n j p found shown apart =
      let differs : number ≡ n → ⊥ = λ e. let same : (number == n) ≡ true = grind (arith, nat_tests, e) in let no : ⊥ = cc in no in
      at_other number n d m.earlier.states apart
      ∙ old_own was m.book.shelf m.earlier.states m.book.instances after orderly.instances landed.1 own k n j p found shown
      (λ unseen. never (page_at n j.pages) p (landed.0.no_page n (still n unseen differs) k j found) shown)

  shown_own : (number : ℕ) → ((n : ℕ) → was n → (number ≡ n → ⊥) → then_ n) → ((n : ℕ) → number ≡ n → IsPageOf c n) → OwnIn m.book.shelf ((number, d) ∷ m.earlier.states) after
  shown_own number still page k n j p found shown = by_number (number == n) refl
    where
      by_number : (t : Bool) → (number == n) ≡ t → state_at n ((number, d) ∷ m.earlier.states) ≡ own_state m.book.shelf (record { instance = j; page = p })
      by_number true e =
          let same : number ≡ n = grind (arith, nat_tests, e) in
          let t = landing_is m c inside names lands in
          ap (λ (i : ℕ). state_at i ((number, d) ∷ m.earlier.states)) (sym same) ∙ (at_number_again number d m.earlier.states
          ∙ new_own was m.book c names d orderly.instances (new_number c m.earlier.seen t.1) is k n (page n same) j p found shown)
      by_number false e = other_own number still k n j p found shown e

-- with the state of its page
told_own_landed : (m : Made) (c : Change) (inside names : List TxName) (d : Suspended) → IsOrderlyMade (plain m) → HasOwnStates m.earlier m.book → state_by m.book c ≡ Some d
    → landing m c inside ≡ Some names → OwnIn m.book.shelf (then_told c (Some names) (told d) m.earlier).states (instances_by m.book.scripts c names m.book.instances)
told_own_landed m (opens o) inside names d orderly own is lands =
    shown_own m (opens o) inside names d orderly own is lands o.number (λ n unseen differs there. ⊎_elim differs unseen there) (λ n e. e)
told_own_landed m (extends x) inside names d orderly own is lands =
    shown_own m (extends x) inside names d orderly own is lands x.number (λ n unseen differs there. ⊎_elim differs unseen there) (λ n e. e)
told_own_landed m (ends e) inside names d orderly own is lands = absurd (let no : ⊥ = cc in no)
told_own_landed m (finishes f) inside names d orderly own is lands = absurd (let no : ⊥ = cc in no)
told_own_landed m (sweeps tick) inside names d orderly own is lands = absurd (let no : ⊥ = cc in no)

-- what was made has own states
abbrev pub IsOwnMade : Made → Type 0
IsOwnMade m = IsOrderlyMade (plain m) × HasOwnStates m.earlier m.book

pub told_retaken : (n : ℕ) (m : Made) (c : Change) (inside : List TxName) (d : Suspended) → IsOwnMade m → state_by m.book c ≡ Some d
    → let r = retaken n c (landing m c inside) (told d) m in HasOwnStates r.earlier r.book
told_retaken n m c inside d h is = by_landing (landing m c inside) refl
  where
    by_landing : (o : Option (List TxName)) → landing m c inside ≡ o → let r = retaken n c o (told d) m in HasOwnStates r.earlier r.book
    by_landing None e = h.1
    by_landing (Some names) e = told_own_landed m c inside names d h.0 h.1 is e

pub quiet_retaken : (n : ℕ) (m : Made) (c : Change) (state : Option (List ℕ)) (inside : List TxName) → IsOwnMade m → told_in m.earlier m.book c state ≡ unread
    → let r = retaken n c (landing m c inside) unread m in HasOwnStates r.earlier r.book
quiet_retaken n m c state inside h is = by_landing (landing m c inside) refl
  where
    quiet_states : (c : Change) (names : List TxName) → (then_told c (Some names) unread m.earlier).states ≡ m.earlier.states
    quiet_states (opens o) names = refl
    quiet_states (extends x) names = refl
    quiet_states (ends e) names = refl
    quiet_states (finishes f) names = refl
    quiet_states (sweeps tick) names = refl

    by_landing : (o : Option (List TxName)) → landing m c inside ≡ o → let r = retaken n c o unread m in HasOwnStates r.earlier r.book
    by_landing None e = h.1
    by_landing (Some names) e =
        let t = landing_is m c inside names e in
        subst (λ (ss : States). OwnIn m.book.shelf ss (instances_by m.book.scripts c names m.book.instances)) (sym (quiet_states c names))
        (quiet_own m.book.shelf m.earlier.states m.book.scripts m.book.instances c names h.0.instances.apart (quiet_if m.earlier m.book c state inside names is t.0) h.1)

-- ---- what bodies make

abbrev IsOwnMaking : Making → Type 0
IsOwnMaking (begun m) = IsOwnMade m × (m.earlier ≡ nothing_told)
IsOwnMaking (made m) = IsOwnMade m
IsOwnMaking _ = ⊤

told_making : (place n : ℕ) (m : Made) (c : Change) (state : Option (List ℕ)) (x : Told) → told_in m.earlier m.book c state ≡ x → IsOwnMade m → IsOwnState m.book c x
    → IsOwnMaking (told_next place n m c x)
told_making place n m c state unread e h own = (retaken_orderly n c [] unread m h.0, quiet_retaken n m c state [] h e)
told_making place n m c state misread e h own = tt
told_making place n m c state (told d) e h own =
    (retaken_orderly n c (inside_of d.frames) (told d) m h.0, told_retaken n m c (inside_of d.frames) d h own)

setup_making : (place n : ℕ) (m : Made) (o : Option (List Named)) → IsOwnMade m → IsOwnMaking (next_setup place n m o)
setup_making place n m None h = tt
setup_making place n m (Some scripts) h = (line_orderly (renewed scripts n) (plain m) h.0, h.1)

promoted_making : (place n : ℕ) (m : Made) (fed : Bool) → IsOwnMade m → IsOwnMaking (promoted_by place n m fed)
promoted_making place n m false h = tt
promoted_making place n m true h = (filed_orderly false (m.book.length + (n + 5)) m h.0, h.1)

next_making : (texts : Texts) (place n : ℕ) (m : Made) (r : Option Record) → IsOwnMade m → IsOwnRecord m r → IsOwnMaking (next_by texts place n m r)
next_making texts place n m None h own = tt
next_making texts place n m (Some (begins s named)) h own = tt
next_making texts place n m (Some (draws number)) h own = tt
next_making texts place n m (Some follows) h own = tt
next_making texts place n m (Some promotes) h own = promoted_making place n m m.book.follows h
next_making texts place n m (Some (renews named)) h own = setup_making place n m (texts named) h
next_making texts place n m (Some (changes c state)) h own = by_test (has_script (length m.book.scripts) c)
  where
    by_test : (t : Bool) → IsOwnMaking (cond t (told_next place n m c (told_in m.earlier m.book c state)) (damaged place))
    by_test false = tt
    by_test true = told_making place n m c state (told_in m.earlier m.book c state) refl h own

-- a file's first records show no page
first_own : (fed : Bool) (size shelf : ℕ) (f : File) → IsOwnMade (in_file fed size (beside nothing_told (first_of shelf f)))
first_own fed size shelf f = (filed_orderly fed size (beside nothing_told (first_of shelf f)) (first_orderly shelf f), λ k n i p found shown. absurd (let no : ⊥ = cc in no))

second_making : (texts : Texts) (place n : ℕ) (m : Made) (r : Option Record) → IsOwnMade m × (m.earlier ≡ nothing_told) → IsOwnRecord m r → IsOwnMaking (second_by texts place n m r)
second_making texts place n m None h own = tt
second_making texts place n m (Some (begins s named)) h own = tt
second_making texts place n m (Some (draws number)) h own =
    let f = record m.book.file { drawn = Some number } in
    subst (λ (e : Earlier). IsOwnMade (in_file m.book.follows (m.book.length + 14) (beside e (first_of m.book.shelf f)))) (sym h.1)
    (first_own m.book.follows (m.book.length + 14) m.book.shelf f)
second_making texts place n m (Some follows) h own = tt
second_making texts place n m (Some promotes) h own = next_making texts place n m (Some promotes) h.0 own
second_making texts place n m (Some (renews named)) h own = next_making texts place n m (Some (renews named)) h.0 own
second_making texts place n m (Some (changes c state)) h own = next_making texts place n m (Some (changes c state)) h.0 own

first_making : (texts : Texts) (fed : Bool) (shelf place n : ℕ) (r : Option Record) → IsOwnMaking (first_by texts fed shelf place n r)
first_making texts fed shelf place n None = tt
first_making texts fed shelf place n (Some (changes c state)) = tt
first_making texts fed shelf place n (Some (renews named)) = tt
first_making texts fed shelf place n (Some (draws number)) = tt
first_making texts fed shelf place n (Some follows) = tt
first_making texts fed shelf place n (Some promotes) = tt
first_making texts fed shelf place n (Some (begins s named)) = by_setup (texts named)
  where
    by_test : (scripts : List Named) (t : Bool) → IsOwnMaking (cond t (begun (began fed shelf place n scripts)) (other place))
    by_test scripts true = (first_own fed (place + 6 + n) shelf (first_file (14 + n) scripts), refl)
    by_test scripts false = tt

    by_setup : (o : Option (List Named)) → IsOwnMaking (first_setup fed shelf place n s o)
    by_setup None = tt
    by_setup (Some scripts) = by_test scripts (s == shelf)

start_making : (texts : Texts) (shelf place n : ℕ) (r : Option Record) → IsOwnMaking (start_by texts shelf place n r)
start_making texts shelf place n None = tt
start_making texts shelf place n (Some (begins s named)) = first_making texts false shelf place n (Some (begins s named))
start_making texts shelf place n (Some (changes c state)) = tt
start_making texts shelf place n (Some (renews named)) = tt
start_making texts shelf place n (Some (draws number)) = tt
start_making texts shelf place n (Some follows) = tt
start_making texts shelf place n (Some promotes) = tt

fed_making : (texts : Texts) (shelf place n : ℕ) (r : Option Record) → IsOwnMaking (fed_by texts shelf place n r)
fed_making texts shelf place n None = tt
fed_making texts shelf place n (Some (begins s named)) = first_making texts true shelf place n (Some (begins s named))
fed_making texts shelf place n (Some (changes c state)) = tt
fed_making texts shelf place n (Some (renews named)) = tt
fed_making texts shelf place n (Some (draws number)) = tt
fed_making texts shelf place n (Some follows) = tt
fed_making texts shelf place n (Some promotes) = tt

one_making : (texts : Texts) (shelf place : ℕ) (body : List ℕ) (x : Making) → IsOwnMaking x → ((m : Made) → made_in x ≡ Some m → IsOwnRecord m (read_record body))
    → IsOwnMaking (with_body texts shelf place body x)
one_making texts shelf place body nothing h own = start_making texts shelf place (length body) (read_record body)
one_making texts shelf place body (waits s) h own = fed_making texts shelf place (length body) (read_record body)
one_making texts shelf place body waited h own = first_making texts false shelf place (length body) (read_record body)
one_making texts shelf place body (begun m) h own = second_making texts place (length body) m (read_record body) h (own m refl)
one_making texts shelf place body (made m) h own = next_making texts place (length body) m (read_record body) h (own m refl)
one_making texts shelf place body (damaged p) h own = tt
one_making texts shelf place body (other p) h own = tt

all_making : (texts : Texts) (shelf : ℕ) (bodies front rest : List (List ℕ)) → AreOwn texts shelf bodies → front ++ rest ≡ bodies → IsOwnMaking (book_of texts shelf front)
    → IsOwnMaking (book_of texts shelf bodies)
all_making texts shelf bodies front [] own e h =
    subst (λ (bs : List (List ℕ)). IsOwnMaking (book_of texts shelf bs)) (sym (append-nil front) ∙ e) h
all_making texts shelf bodies front (body ∷ rest) own e h =
    all_making texts shelf bodies (front ++ body ∷ []) rest own (append_assoc front (body ∷ []) rest ∙ e)
    (subst IsOwnMaking (sym (with_push texts shelf 8 front body nothing))
    (one_making texts shelf (8 + length (frames front)) body (book_of texts shelf front) h (λ m is. own front rest body m (sym e) is)))

own_made : (x : Making) (m : Made) → made_in x ≡ Some m → IsOwnMaking x → IsOwnMade m
own_made nothing m is h = absurd (let no : ⊥ = cc in no)
own_made waited m is h = absurd (let no : ⊥ = cc in no)
own_made (waits s) m is h = let at : waiting s ≡ m = cc in subst IsOwnMade at (first_own true 15 s (first_file 0 []))
own_made (begun k) m is h = let at : k ≡ m = cc in subst IsOwnMade at h.0
own_made (made k) m is h = let at : k ≡ m = cc in subst IsOwnMade at h
own_made (damaged p) m is h = absurd (let no : ⊥ = cc in no)
own_made (other p) m is h = absurd (let no : ⊥ = cc in no)

pub own_are_told : OwnStatesAreTold
own_are_told texts shelf bodies m is own = (own_made (book_of texts shelf bodies) m is (all_making texts shelf bodies [] bodies own refl tt)).1

-- what a change's page is written after is then an own state
pub own_before_of : (earlier : Earlier) (b : Book) (o : Option Change) → HasOwnStates earlier b → IsOwnBefore earlier b o
own_before_of earlier b None h = tt
own_before_of earlier b (Some c) h = own_before_is earlier b c h
