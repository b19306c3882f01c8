-- A page that stands goes on to stand as long as its instance does, with the state that was told of it.
use Rattle.std.proofs.Common.{◌≡◌, ℕ, zero, suc, List, [], slice_get, Option, Some, None, true, refl, sym, ap, subst, ◌∙◌}
use Rattle.std.proofs.lemmas.Option.{same_Some}
use Rattle.script_value.specs.declared.outcome.TxName.{TxName}
use Rattle.script_nodes.specs.Setup.{Named}
use Rattle.replay_spec.specs.Book.{Page, Instance, Change, opens, extends, ends, finishes, sweeps, instance_at, page_at, root_by, page_by}
use Rattle.replay_spec.specs.Change.{shown_by, fresh, opened_by}
use Rattle.replay_spec.specs.Compaction.{is_there, stays_in}
use Rattle.replay_spec.specs.Admission.{◌>>=◌, Place}
use Rattle.replay_spec.specs.Recovery.{page_of_numbers}
use Rattle.replay_spec.specs.Remade.{IsOrderlyMade}
use Rattle.replay_spec.proofs.Admitted.{came_from}
use Rattle.replay_spec.proofs.Found.{mend_found}
use Rattle.replay_spec.proofs.Landed.{never}
use Rattle.replay_spec.proofs.Living.{there_some}
use Rattle.replay_spec.proofs.Numbered.{number_of, put_found}
use Rattle.replay_spec.proofs.Recovered.{place_is}
use Rattle.machine_states.specs.Machine.{Suspended}
use Rattle.kept_states.specs.FrameCodec.Stored.{IsStored}
use Rattle.kept_states.specs.FrameCodec.Forms.{RisesBefore}
use Rattle.kept_states.specs.Links.{behind_at}
use Rattle.journal_spec.specs.Before.{state_at, Made, plain, links_behind, before_told}
use Rattle.journal_spec.specs.Retaking.{arena_of, told, script_for, retaken}
use Rattle.journal_spec.specs.Copying.{HasStored}
use Rattle.journal_spec.proofs.Telling.{at_number_again}
use Rattle.journal_spec.proofs.Walking.{Onward}

-- this is a state that fits the script and has a spelling
abbrev pub Stored : Named → Option Suspended → Type 0
Stored s o = (d : Suspended) × ((o ≡ Some d) × IsStored (arena_of s.script) d)

-- the state that was told of a page that stands is stored, where its instance stays
pub stays_stored : (m e : Made) (k n : ℕ) (i : Instance) (p : Page) → IsOrderlyMade (plain m) → Onward m e → HasStored e → is_there k e.book.instances ≡ true
    → instance_at k m.book.instances ≡ Some i → page_at n i.pages ≡ Some p → Stored i.script (state_at n m.earlier.states)
stays_stored m e k n i p g on has stay found shown = by_instance (instance_at k e.book.instances) refl
  where
    by_instance : (o : Option Instance) → instance_at k e.book.instances ≡ o → Stored i.script (state_at n m.earlier.states)
    by_instance None none = absurd (there_some k e.book.instances stay none)
    by_instance (Some j) there =
        let was = on.since.was k j there (λ unseen. never (instance_at k m.book.instances) i (g.instances.no_instance k unseen) found) in
        let same : was.instance ≡ i = same_Some was.instance i (sym was.found ∙ found) in
        let page : page_at n j.pages ≡ Some p = was.grown n p (ap (λ (x : Instance). page_at n x.pages) same ∙ shown) in
        let d = has k n j p there page in
        let state = on.told n (λ unseen. never (page_at n i.pages) p (g.instances.no_page n unseen k i found) shown) in
        let script : j.script ≡ i.script = was.script ∙ ap (λ (x : Instance). x.script) same in
        (d.0, (sym state ∙ d.1.0, subst (λ (s : Named). IsStored (arena_of s.script) d.0) script d.1.1))

behind_rises : (links : ℕ) (o : Option Suspended) → RisesBefore o → RisesBefore (behind_at links o)
behind_rises zero o h = tt
behind_rises (suc n) o h = h

-- so is that of the page that a record answers, whose web cells rise
pub before_rises_stored : (m e : Made) (c : Change) → IsOrderlyMade (plain m) → Onward m e → HasStored e → stays_in e.book.instances c ≡ true → RisesBefore (before_told m.earlier m.book c)
before_rises_stored m e (opens o) g on has stay = tt
before_rises_stored m e (ends x) g on has stay = tt
before_rises_stored m e (finishes f) g on has stay = tt
before_rises_stored m e (sweeps tick) g on has stay = tt
before_rises_stored m e (extends x) g on has stay = by_place (page_of_numbers m.book x.instance x.page) refl
  where
    by_place : (o : Option Place) → page_of_numbers m.book x.instance x.page ≡ o → RisesBefore (o >>= (λ at. behind_at (links_behind at) (state_at at.page.number m.earlier.states)))
    by_place None found = tt
    by_place (Some at) found =
        let there = place_is m.book x.instance x.page at found in
        let number = number_of (λ (q : Page). q.number) x.page at.instance.pages at.page there.1 in
        let d = stays_stored m e x.instance x.page at.instance at.page g on has stay there.0 there.1 in
        let state : state_at at.page.number m.earlier.states ≡ Some d.0 = ap (λ (n : ℕ). state_at n m.earlier.states) number ∙ d.1.0 in
        behind_rises (links_behind at) (state_at at.page.number m.earlier.states) (subst RisesBefore (sym state) d.1.1.shadows.rise)

-- and that of the page that it shows
pub new_stored : (m e : Made) (n : ℕ) (c : Change) (names : List TxName) (d : Suspended) (s : Named) → script_for m.book c ≡ Some s
    → IsOrderlyMade (plain (retaken n c (Some names) (told d) m)) → Onward (retaken n c (Some names) (told d) m) e → HasStored e → stays_in e.book.instances c ≡ true
    → IsStored (arena_of s.script) d
new_stored m e n (opens o) names d s is g on has stay =
    let i = shown_by o.effects o.left o.kind [] (root_by o names) (fresh s o.number) in
    let found : instance_at o.number (opened_by (slice_get m.book.scripts o.script) o names m.book.instances) ≡ Some i =
    ap (λ (x : Option Named). instance_at o.number (opened_by x o names m.book.instances)) is ∙ put_found (λ (x : Instance). x.number) i m.book.instances in
    let shown : page_at o.number i.pages ≡ Some (root_by o names) = put_found (λ (q : Page). q.number) (root_by o names) [] in
    let x = stays_stored (retaken n (opens o) (Some names) (told d) m) e o.number o.number i (root_by o names) g on has stay found shown in
    let same : x.0 ≡ d = same_Some x.0 d (sym x.1.0 ∙ at_number_again o.number d m.earlier.states) in
    subst (λ (y : Suspended). IsStored (arena_of s.script) y) same x.1.1
new_stored m e n (extends y) names d s is g on has stay =
    let at = came_from (page_of_numbers m.book y.instance y.page) (λ z. Some z.instance.script) s is in
    let there = place_is m.book y.instance y.page at.0 at.1.0 in
    let f = shown_by y.effects y.left y.kind y.evicted (page_by y names) in
    let found = mend_found y.instance f m.book.instances at.0.instance (λ i. refl) there.0 in
    let shown : page_at y.number (f at.0.instance).pages ≡ Some (page_by y names) = put_found (λ (q : Page). q.number) (page_by y names) at.0.instance.pages in
    let x = stays_stored (retaken n (extends y) (Some names) (told d) m) e y.instance y.number (f at.0.instance) (page_by y names) g on has stay found shown in
    let same : x.0 ≡ d = same_Some x.0 d (sym x.1.0 ∙ at_number_again y.number d m.earlier.states) in
    let script : at.0.instance.script ≡ s = same_Some at.0.instance.script s at.1.1 in
    subst (λ (z : Named). IsStored (arena_of z.script) d) script (subst (λ (z : Suspended). IsStored (arena_of at.0.instance.script.script) z) same x.1.1)
new_stored m e n (ends y) names d s is g on has stay = absurd (let no : ⊥ = cc in no)
new_stored m e n (finishes y) names d s is g on has stay = absurd (let no : ⊥ = cc in no)
new_stored m e n (sweeps tick) names d s is g on has stay = absurd (let no : ⊥ = cc in no)
