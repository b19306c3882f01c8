-- What records make that are copied goes beside what all make, in the instances that stay.
use Rattle.std.proofs.Common.{◌≡◌, ℕ, ◌==◌, List, [], ◌∷◌, filter, Option, Some, None, Bool, true, false, refl, sym, ap, subst, ◌∙◌, ⊎_elim, arith, if◌then◌else◌, slice_get}
use Rattle.std.proofs.lemmas.Bool.Decides.{nat_tests}
use Rattle.script_value.specs.declared.outcome.TxName.{TxName}
use Rattle.script_nodes.specs.Setup.{Named}
use Rattle.replay_spec.specs.Book.{Page, Instance, Change, opens, extends, ends, finishes, sweeps, Book, instance_at, page_at}
use Rattle.replay_spec.specs.Change.{instances_by}
use Rattle.replay_spec.specs.Compaction.{is_there}
use Rattle.replay_spec.specs.Admission.{◌>>=◌, Place}
use Rattle.replay_spec.specs.Recovery.{page_of_numbers, number_in, is_repeated, with_number}
use Rattle.replay_spec.specs.Invariant.{Among, IsOf, AreOrderly}
use Rattle.replay_spec.specs.Remade.{IsOrderlyMade}
use Rattle.replay_spec.proofs.Stand.{Since}
use Rattle.replay_spec.proofs.Landed.{never, land_well}
use Rattle.replay_spec.proofs.Numbered.{number_of}
use Rattle.replay_spec.proofs.Recovered.{Unseen, place_is, new_number, more_seen}
use Rattle.replay_spec.proofs.Living.{lives}
use Rattle.replay_spec.proofs.Filed.{bare, SeenLess}
use Rattle.replay_spec.proofs.Compacted.{not_repeated, place_lives}
use Rattle.machine_states.specs.Machine.{Suspended}
use Rattle.kept_states.specs.Links.{behind_at}
use Rattle.journal_spec.specs.Before.{States, state_at, Made, plain, links_behind}
use Rattle.journal_spec.specs.Retaking.{Told, unread, misread, told, told_by, held, landing, with_state, then_told}
use Rattle.journal_spec.specs.Copying.{SameStates}
use Rattle.journal_spec.proofs.Retaken.{held_fits, landing_is}
use Rattle.journal_spec.proofs.Telling.{IsQuiet, quiet_from}

-- what is made of copies goes beside what is made of all
pub record Beside (ls : List Instance) (m k : Made) : Type 0 where
  pub shelf : k.book.shelf ≡ m.book.shelf
  pub scripts : k.book.scripts ≡ m.book.scripts
  pub clock : k.book.clock ≡ m.book.clock
  pub instances : k.book.instances ≡ filter (lives ls) m.book.instances
  pub seen : SeenLess k.earlier.seen m.earlier.seen
  pub states : SameStates k.book.instances m.earlier k.earlier
  pub first : k.book.file.scripts ≡ m.book.file.scripts
  pub head : k.book.file.head ≡ m.book.file.head

-- ---- a record needs no more of a book than its shelf, setup, clock and instances

pub held_bare : (b : Book) (c : Change) (inside : List TxName) → held b c inside ≡ held (bare b.shelf b.scripts b.clock b.instances) c inside
held_bare b (opens o) inside = refl
held_bare b (extends x) inside = refl
held_bare b (ends e) inside = refl
held_bare b (finishes f) inside = refl
held_bare b (sweeps tick) inside = refl

pub held_beside : (ls : List Instance) (m k : Made) (c : Change) (inside : List TxName) → Beside ls m k
    → held (bare m.book.shelf m.book.scripts m.book.clock (filter (lives ls) m.book.instances)) c inside ≡ held m.book c inside → held k.book c inside ≡ held m.book c inside
held_beside ls m k c inside h e =
    held_bare k.book c inside ∙ ((λ i. held (bare (h.shelf i) (h.scripts i) (h.clock i) (h.instances i)) c inside) ∙ e)

-- a page of an instance that stays is found by its numbers
pub place_beside : (ls : List Instance) (m k : Made) (n p : ℕ) → Beside ls m k → is_there n ls ≡ true → page_of_numbers k.book n p ≡ page_of_numbers m.book n p
place_beside ls m k n p h stay =
    ap (λ (is : List Instance). page_of_numbers (bare m.book.shelf m.book.scripts m.book.clock is) n p) h.instances ∙ place_lives m.book ls n p stay

-- and its state was told the same
before_beside : (ls : List Instance) (m k : Made) (n p : ℕ) → Beside ls m k → is_there n ls ≡ true
    → page_of_numbers k.book n p >>= (λ at. behind_at (links_behind at) (state_at at.page.number k.earlier.states))
    ≡ page_of_numbers m.book n p >>= (λ at. behind_at (links_behind at) (state_at at.page.number m.earlier.states))
before_beside ls m k n p h stay =
    ap (λ (o : Option Place). o >>= (λ at. behind_at (links_behind at) (state_at at.page.number k.earlier.states))) (place_beside ls m k n p h stay) ∙ by_place (page_of_numbers m.book n p) refl
  where
    by_place : (o : Option Place) → page_of_numbers m.book n p ≡ o
        → o >>= (λ at. behind_at (links_behind at) (state_at at.page.number k.earlier.states)) ≡ o >>= (λ at. behind_at (links_behind at) (state_at at.page.number m.earlier.states))
    by_place None e = refl
    by_place (Some at) e =
        let there = place_is k.book n p at (place_beside ls m k n p h stay ∙ e) in
        let number = number_of (λ (q : Page). q.number) p at.instance.pages at.page there.1 in
        let same = h.states n p at.instance at.page there.0 there.1 in
        ap (λ (s : Option Suspended). behind_at (links_behind at) s)
        (ap (λ (i : ℕ). state_at i k.earlier.states) number ∙ (same ∙ ap (λ (i : ℕ). state_at i m.earlier.states) (sym number)))

pub told_start : (ls : List Instance) (m k : Made) (place : ℕ) (state : Option (List ℕ)) → Beside ls m k → told_by None (slice_get k.book.scripts place) state ≡ told_by None (slice_get m.book.scripts place) state
told_start ls m k place state h = ap (λ (ss : List Named). told_by None (slice_get ss place) state) h.scripts

pub told_answer : (ls : List Instance) (m k : Made) (n p : ℕ) (state : Option (List ℕ)) → Beside ls m k → is_there n ls ≡ true
    → told_by (page_of_numbers k.book n p >>= (λ at. behind_at (links_behind at) (state_at at.page.number k.earlier.states))) (page_of_numbers k.book n p >>= (λ at. Some at.instance.script)) state
    ≡ told_by (page_of_numbers m.book n p >>= (λ at. behind_at (links_behind at) (state_at at.page.number m.earlier.states))) (page_of_numbers m.book n p >>= (λ at. Some at.instance.script)) state
told_answer ls m k n p state h stay =
    ap (λ (b : Option Suspended). told_by b (page_of_numbers k.book n p >>= (λ at. Some at.instance.script)) state) (before_beside ls m k n p h stay)
    ∙ ap (λ (o : Option Place). told_by (page_of_numbers m.book n p >>= (λ at. behind_at (links_behind at) (state_at at.page.number m.earlier.states))) (o >>= (λ at. Some at.instance.script)) state)
    (place_beside ls m k n p h stay)

-- what lands beside the others lands without those that go
pub lands_beside : (ls : List Instance) (m k : Made) (c : Change) (inside names : List TxName) → Beside ls m k → landing m c inside ≡ Some names → held k.book c inside ≡ held m.book c inside
    → landing k c inside ≡ Some names
lands_beside ls m k c inside names h lands same =
    let t = landing_is m c inside names lands in
    let new : is_repeated (number_in c) k.earlier.seen ≡ false = not_repeated c k.earlier.seen (λ x is_it there. new_number c m.earlier.seen t.1 x is_it (h.seen x there)) in
    ap (λ (b : Bool). if b then None else held k.book c inside) new ∙ (same ∙ t.0)

-- ---- states

pub unread_states : (number : Option ℕ) (ss : States) → with_state number unread ss ≡ ss
unread_states None ss = refl
unread_states (Some n) ss = refl

-- a state that is told of another page
same_cons : (q : ℕ) (d : Suspended) (n : ℕ) (ss ts : States) → ((q ≡ n → ⊥) → state_at n ts ≡ state_at n ss) → state_at n ((q, d) ∷ ts) ≡ state_at n ((q, d) ∷ ss)
same_cons q d n ss ts old = by_test (q == n) refl
  where
    by_test : (t : Bool) → (q == n) ≡ t → (if t then Some d else state_at n ts) ≡ (if t then Some d else state_at n ss)
    by_test true e = refl
    by_test false e = old (λ same. let yes : (q == n) ≡ true = grind (arith, nat_tests, same) in let no : ⊥ = cc in no)

pub other_cons : (q : ℕ) (d : Suspended) (n : ℕ) (ss : States) → (q ≡ n → ⊥) → state_at n ((q, d) ∷ ss) ≡ state_at n ss
other_cons q d n ss differs =
    let test : (q == n) ≡ false = grind (arith, nat_tests, differs) in ap (λ (t : Bool). if t then Some d else state_at n ss) test

not_more : (c : Change) (seen : List ℕ) (n : ℕ) → (Among n seen → ⊥) → (IsOf n c → ⊥) → Among n (with_number (number_in c) seen) → ⊥
not_more (opens o) seen n old new there = ⊎_elim (λ e. new e) (λ a. old a) there
not_more (extends x) seen n old new there = ⊎_elim (λ e. new e) (λ a. old a) there
not_more (ends e) seen n old new there = ⊎_elim (λ e. new e) (λ a. old a) there
not_more (finishes f) seen n old new there = ⊎_elim (λ e. new e) (λ a. old a) there
not_more (sweeps tick) seen n old new there = old there

-- a record that lands, with the page that it shows, on what was made of copies
module _ (m k : Made) (c : Change) (inside names : List TxName) (g : IsOrderlyMade (plain k)) (lands : landing k c inside ≡ Some names) (same : SameStates k.book.instances m.earlier k.earlier) where
  abbrev pub after : List Instance
  after = instances_by k.book.scripts c names k.book.instances

  landed : AreOrderly (Unseen (with_number (number_in c) k.earlier.seen)) after × Since (Unseen k.earlier.seen) k.book.instances after
  landed =
      let t = landing_is k c inside names lands in
      land_well k.book.scripts k.book.clock (Unseen k.earlier.seen) (Unseen (with_number (number_in c) k.earlier.seen)) k.book.instances c names g.instances
      (held_fits k.book c inside names t.0) (new_number c k.earlier.seen t.1) (more_seen c k.earlier.seen)

  old_states : (j n : ℕ) (i : Instance) (p : Page) → instance_at j after ≡ Some i → page_at n i.pages ≡ Some p → (IsOf n c → ⊥) → state_at n k.earlier.states ≡ state_at n m.earlier.states
  old_states j n i p found shown other =
      let used = λ (unseen : Unseen k.earlier.seen n). never (page_at n i.pages) p (landed.0.no_page n (not_more c k.earlier.seen n unseen other) j i found) shown in
      let at = landed.1.paged j n p (record { instance = i; found = found; shown = shown }) used in
      same j n at.instance p at.found at.shown

  told_states : (d : Suspended) → SameStates after (then_told c (Some names) (told d) m.earlier) (then_told c (Some names) (told d) k.earlier)
  told_states d = by_change c refl
    where
      by_change : (b : Change) → c ≡ b → SameStates after (record { seen = []; states = with_state (number_in b) (told d) m.earlier.states }) (record { seen = []; states = with_state (number_in b) (told d) k.earlier.states })
      by_change (opens o) e j n i p found shown =
          same_cons o.number d n m.earlier.states k.earlier.states (λ differs. old_states j n i p found shown (λ is_it. differs (subst (IsOf n) e is_it)))
      by_change (extends x) e j n i p found shown =
          same_cons x.number d n m.earlier.states k.earlier.states (λ differs. old_states j n i p found shown (λ is_it. differs (subst (IsOf n) e is_it)))
      by_change (ends x) e j n i p found shown =
          same_cons x.number d n m.earlier.states k.earlier.states (λ differs. old_states j n i p found shown (λ is_it. differs (subst (IsOf n) e is_it)))
      by_change (finishes x) e j n i p found shown =
          same_cons x.number d n m.earlier.states k.earlier.states (λ differs. old_states j n i p found shown (λ is_it. differs (subst (IsOf n) e is_it)))
      by_change (sweeps tick) e j n i p found shown = old_states j n i p found shown (λ is_it. subst (IsOf n) e is_it)

  quiet_states : IsQuiet c → SameStates after (then_told c (Some names) unread m.earlier) (then_told c (Some names) unread k.earlier)
  quiet_states quiet j n i p found shown =
      let was = quiet_from k.book.scripts k.book.instances c names g.instances.apart quiet j i found in
      ap (λ (ss : States). state_at n ss) (unread_states (number_in c) k.earlier.states)
      ∙ (same j n was.instance p was.found (ap (λ (ps : List Page). page_at n ps) (sym was.pages) ∙ shown)
      ∙ ap (λ (ss : States). state_at n ss) (sym (unread_states (number_in c) m.earlier.states)))

  pub kept_states : (x : Told) → (x ≡ unread → IsQuiet c) → (x ≡ misread → ⊥) → SameStates after (then_told c (Some names) x m.earlier) (then_told c (Some names) x k.earlier)
  kept_states unread quiet read = quiet_states (quiet refl)
  kept_states misread quiet read = absurd (read refl)
  kept_states (told d) quiet read = told_states d

-- a record that goes tells of a page that does not stay
pub left_states : (m k : Made) (c : Change) (x : Told) (names : Option (List TxName)) → IsOrderlyMade (plain k) → SeenLess k.earlier.seen m.earlier.seen
    → (names ≡ None → ⊥) → ((n : ℕ) → IsOf n c → Unseen m.earlier.seen n) → SameStates k.book.instances m.earlier k.earlier → SameStates k.book.instances (then_told c names x m.earlier) k.earlier
left_states m k c x None g less some new same j n i p found shown = absurd (some refl)
left_states m k c x (Some names) g less some new same j n i p found shown = same j n i p found shown ∙ sym (by_told x)
  where
    differs : (q : ℕ) → IsOf q c → q ≡ n → ⊥
    differs q is_it e =
        never (page_at n i.pages) p (g.instances.no_page n (λ there. new q is_it (less q (subst (λ (z : ℕ). Among z k.earlier.seen) (sym e) there))) j i found) shown

    by_change : (d : Suspended) (b : Change) → c ≡ b → state_at n (with_state (number_in b) (told d) m.earlier.states) ≡ state_at n m.earlier.states
    by_change d (opens o) e = other_cons o.number d n m.earlier.states (differs o.number (subst (IsOf o.number) (sym e) refl))
    by_change d (extends o) e = other_cons o.number d n m.earlier.states (differs o.number (subst (IsOf o.number) (sym e) refl))
    by_change d (ends o) e = other_cons o.number d n m.earlier.states (differs o.number (subst (IsOf o.number) (sym e) refl))
    by_change d (finishes o) e = other_cons o.number d n m.earlier.states (differs o.number (subst (IsOf o.number) (sym e) refl))
    by_change d (sweeps tick) e = refl

    no_state : (number : Option ℕ) → with_state number misread m.earlier.states ≡ m.earlier.states
    no_state None = refl
    no_state (Some q) = refl

    by_told : (x : Told) → state_at n (then_told c (Some names) x m.earlier).states ≡ state_at n m.earlier.states
    by_told unread = ap (λ (ss : States). state_at n ss) (unread_states (number_in c) m.earlier.states)
    by_told misread = ap (λ (ss : States). state_at n ss) (no_state (number_in c))
    by_told (told d) = by_change d c refl
