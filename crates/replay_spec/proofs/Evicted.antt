-- What evicts a page, and that it stays so.
use Rattle.std.proofs.Common.{◌≡◌, ◌≢◌, ◌==◌, ◌⊎◌, ℕ, List, [], ◌∷◌, Option, Some, None, Bool, true, false, not, filter, refl, sym, ap, subst, ◌∙◌, inl, inr, ⊎_elim, slice_get, arith}
use Rattle.std.proofs.lemmas.Bool.{cases_eq}
use Rattle.std.proofs.lemmas.Option.{same_Some}
use Rattle.script_value.specs.declared.outcome.TxName.{TxName}
use Rattle.script_value.specs.declared.outcome.Refusal.{Refusal}
use Rattle.script_value.specs.declared.outcome.Refusal.TheVariants.{Revoked, Expired}
use Rattle.script_nodes.specs.PageNames.Names.{page}
use Rattle.script_nodes.specs.PageNames.declared.names.PageName.{PageName}
use Rattle.script_nodes.specs.Setup.{Named}
use Rattle.replay_spec.specs.Names.{first_closed}
use Rattle.replay_spec.specs.Book.{Eviction, Instance, Opening, Extension, Change, opens, extends, ends, finishes, sweeps, Book, is_live, instance_at, evictor, is_expired, root_by, page_by}
use Rattle.replay_spec.specs.Change.{mend, evict, shown_by, ended_by, fresh, opened_by, instances_by}
use Rattle.replay_spec.specs.Admission.{when, or_else, is_one, closed_by, evicted_by, Place, resumes, admit}
use Rattle.replay_spec.specs.Runs.{lands}
use Rattle.replay_spec.specs.Invariant.{Apart, CanGo, IsKept, IsOf, IsOrderlyChange, Unused, IsOrderly}
use Rattle.replay_spec.specs.Laws.{IsLawful, Moment, then_book, book_after, AreLawful, Leads}
use Rattle.replay_spec.specs.Evicting.{EvictedIn, NothingElseEvicts}
use Rattle.replay_spec.proofs.Numbered.{number_of, put_other}
use Rattle.replay_spec.proofs.Found.{KeepsNumber, mend_found, mend_other, keep_found}
use Rattle.replay_spec.proofs.Landed.{never}
use Rattle.replay_spec.proofs.Goers.{pages_of}
use Rattle.replay_spec.proofs.Kept.{more_evictor, some_evictor, used_stands}
use Rattle.replay_spec.proofs.Admitted.{stands_at, resumes_place}
use Rattle.replay_spec.proofs.Going.{goes}
use Rattle.replay_spec.proofs.Orderly as orderly
use Rattle.replay_spec.proofs.Stand.{Later}
use Rattle.replay_spec.proofs.Lands.{LandsAs, lands_as}
use Rattle.replay_spec.proofs.Numbers.{Uses, uses}
use Rattle.replay_spec.proofs.Differ.{put_from, mend_from}

-- a page that went for another went now or before
went_by : (n number by : ℕ) (gone : List ℕ) (es : List Eviction) → evictor n (evict number gone es) ≡ Some by → (evictor n es ≡ Some by) ⊎ ((number ≡ by) × (is_one n gone ≡ true))
went_by n number by gone es h = by_test (is_one n gone) refl
  where
    by_test : (b : Bool) → is_one n gone ≡ b → (evictor n es ≡ Some by) ⊎ ((number ≡ by) × (is_one n gone ≡ true))
    by_test true e = inr (same_Some number by (sym (more_evictor n number gone es ∙ rw e refl) ∙ h), e)
    by_test false e = inl (sym (more_evictor n number gone es ∙ rw e refl) ∙ h)

went_stays : (n number by : ℕ) (gone : List ℕ) (es : List Eviction) → is_one n gone ≡ false → evictor n es ≡ Some by → evictor n (evict number gone es) ≡ Some by
went_stays n number by gone es other h = more_evictor n number gone es ∙ (rw other h)

-- a change evicts the pages that its record tells
record EvictsBy (o : Option Change) (k n by : ℕ) : Type 0 where
  extension : Extension
  is : o ≡ Some (extends extension)
  here : extension.instance ≡ k
  number : extension.number ≡ by
  gone : is_one n extension.evicted ≡ true

mended_at : (k n : ℕ) (f : Instance → Instance) (is : List Instance) (i j : Instance) → KeepsNumber f → instance_at k is ≡ Some i → instance_at k (mend n f is) ≡ Some j → (n ≡ k) ⊎ (i ≡ j)
mended_at k n f is i j keeps before behind = ⊎_elim (λ same. inl (sym same)) (λ other. inr (same_Some i j (sym before ∙ (sym (mend_other k n f is keeps (λ e. other (sym e))) ∙ behind)))) (cases_eq k n)

came_open : (s : Option Named) (is : List Instance) (o : Opening) (inside : List TxName) (k n by : ℕ) → EvictedIn (opened_by s o inside is) k n by → EvictedIn is k n by
came_open None is o inside k n by h = h
came_open (Some s) is o inside k n by h =
    let i = shown_by o.effects o.left o.kind [] (root_by o inside) (fresh s o.number) in
    ⊎_elim (λ same. absurd (let none : evictor n i.evicted ≡ Some by = subst (λ (x : Instance). evictor n x.evicted ≡ Some by) (sym same) h.evicted in let no : ⊥ = cc in no))
    (λ old. record { instance = h.instance; found = old; evicted = h.evicted }) (put_from (λ (x : Instance). x.number) k i h.instance is h.found)

came : (scripts : List Named) (is : List Instance) (c : Change) (inside : List TxName) (k n by : ℕ) → Apart is → EvictedIn (instances_by scripts c inside is) k n by
    → EvictedIn is k n by ⊎ EvictsBy (Some c) k n by
came scripts is (opens o) inside k n by apart h = inl (came_open (slice_get scripts o.script) is o inside k n by h)
came scripts is (extends x) inside k n by apart h =
    let f = shown_by x.effects x.left x.kind x.evicted (page_by x inside) in
    ⊎_elim (λ old. inl (record { instance = h.instance; found = old; evicted = h.evicted }))
    (λ (i, (there, same)).
    ⊎_elim (λ here.
    ⊎_elim (λ old. inl (record { instance = i; found = there; evicted = old })) (λ now. inr (record { extension = x; is = refl; here = here; number = now.0; gone = now.1 }))
    (went_by n x.number by x.evicted i.evicted (subst (λ (y : Instance). evictor n y.evicted ≡ Some by) (sym same) h.evicted)))
    (λ still. inl (record { instance = i; found = there; evicted = subst (λ (y : Instance). evictor n y.evicted ≡ Some by) (sym still) h.evicted }))
    (mended_at k x.instance f is i h.instance (λ y. refl) there h.found))
    (mend_from k x.instance f is h.instance (λ y. refl) h.found)
came scripts is (ends e) inside k n by apart h =
    ⊎_elim (λ old. inl (record { instance = h.instance; found = old; evicted = h.evicted }))
    (λ (i, (there, same)). inl (record { instance = i; found = there; evicted = subst (λ (y : Instance). evictor n y.evicted ≡ Some by) (sym same) h.evicted }))
    (mend_from k e.instance (ended_by e) is h.instance (λ y. refl) h.found)
came scripts is (finishes f) inside k n by apart h =
    inl (record { instance = h.instance; found = keep_found (λ i. not (i.number == f.instance)) k is h.instance apart h.found; evicted = h.evicted })
came scripts is (sweeps tick) inside k n by apart h = inl (record { instance = h.instance; found = keep_found (is_live tick) k is h.instance apart h.found; evicted = h.evicted })

came_by : (b d : Book) (o : Option Change) (k n by : ℕ) → Apart b.instances → LandsAs b o d → EvictedIn d.instances k n by → EvictedIn b.instances k n by ⊎ EvictsBy o k n by
came_by b d None k n by apart is h = inl (subst (λ (js : List Instance). EvictedIn js k n by) is h)
came_by b d (Some c) k n by apart (inside, (fits, is)) h = came b.scripts b.instances c inside k n by apart (subst (λ (js : List Instance). EvictedIn js k n by) is h)

-- an instance among those that a filter leaves stood there before
still_left : (g : Instance → Bool) (is : List Instance) (k n by : ℕ) → Apart is → EvictedIn is k n by → (instance_at k (filter g is) ≡ None) ⊎ EvictedIn (filter g is) k n by
still_left g is k n by apart h = by_case (instance_at k (filter g is)) refl
  where
    by_case : (o : Option Instance) → instance_at k (filter g is) ≡ o → (instance_at k (filter g is) ≡ None) ⊎ EvictedIn (filter g is) k n by
    by_case None e = inl e
    by_case (Some j) e =
        let same : h.instance ≡ j = same_Some h.instance j (sym h.found ∙ keep_found g k is j apart e) in
        inr (record { instance = j; found = e; evicted = subst (λ (y : Instance). evictor n y.evicted ≡ Some by) same h.evicted })

still_mended : (f : Instance → Instance) (is : List Instance) (m k n by : ℕ) → KeepsNumber f → (h : EvictedIn is k n by) → evictor n (f h.instance).evicted ≡ Some by → EvictedIn (mend m f is) k n by
still_mended f is m k n by keeps h changed = ⊎_elim
    (λ same. record { instance = f h.instance; found = ap (λ (l : ℕ). instance_at k (mend l f is)) (sym same) ∙ mend_found k f is h.instance keeps h.found; evicted = changed })
    (λ other. record { instance = h.instance; found = mend_other k m f is keeps (λ e. other (sym e)) ∙ h.found; evicted = h.evicted })
    (cases_eq k m)

still_open : (s : Option Named) (is : List Instance) (o : Opening) (inside : List TxName) (k n by : ℕ) → instance_at o.number is ≡ None → EvictedIn is k n by → EvictedIn (opened_by s o inside is) k n by
still_open None is o inside k n by new h = h
still_open (Some s) is o inside k n by new h =
    let i = shown_by o.effects o.left o.kind [] (root_by o inside) (fresh s o.number) in
    let other : o.number ≢ k = λ e. never (instance_at k is) h.instance (subst (λ (m : ℕ). instance_at m is ≡ None) e new) h.found in
    record { instance = h.instance; found = put_other (λ (x : Instance). x.number) k i is other ∙ h.found; evicted = h.evicted }

stays : (scripts : List Named) (clock : ℕ) (is : List Instance) (c : Change) (inside : List TxName) (k n by : ℕ) → Apart is → ((j : ℕ) (i : Instance) → instance_at j is ≡ Some i → IsKept i)
    → IsOrderlyChange clock is c → ((m : ℕ) → IsOf m c → instance_at m is ≡ None)
    → EvictedIn is k n by → (instance_at k (instances_by scripts c inside is) ≡ None) ⊎ EvictedIn (instances_by scripts c inside is) k n by
stays scripts clock is (opens o) inside k n by apart kept fits new h = inr (still_open (slice_get scripts o.script) is o inside k n by (new o.number refl) h)
stays scripts clock is (extends x) inside k n by apart kept fits new h =
    let f = shown_by x.effects x.left x.kind x.evicted (page_by x inside) in
    ⊎_elim
    (λ here. inr (still_mended f is x.instance k n by (λ y. refl) h
    (went_stays n x.number by x.evicted h.instance.evicted (not_going (is_one n x.evicted) refl (subst (λ (m : ℕ). CanGo is m x.evicted) here fits.1 h.instance h.found)) h.evicted)))
    (λ other. inr (record { instance = h.instance; found = mend_other k x.instance f is (λ y. refl) other ∙ h.found; evicted = h.evicted }))
    (cases_eq x.instance k)
  where
    not_going : (b : Bool) → is_one n x.evicted ≡ b → ((m : ℕ) → is_one m x.evicted ≡ true → is_one m (pages_of h.instance.used) ≡ true) → is_one n x.evicted ≡ false
    not_going false e go = e
    not_going true e go =
        absurd (let stands = used_stands h.instance n (kept k h.instance h.found) (go n e) in let went = some_evictor n by h.instance.evicted h.evicted in let no : ⊥ = cc in no)
stays scripts clock is (ends e) inside k n by apart kept fits new h = inr (still_mended (ended_by e) is e.instance k n by (λ y. refl) h h.evicted)
stays scripts clock is (finishes f) inside k n by apart kept fits new h = still_left (λ i. not (i.number == f.instance)) is k n by apart h
stays scripts clock is (sweeps tick) inside k n by apart kept fits new h = still_left (is_live tick) is k n by apart h

stays_by : (b d : Book) (o : Option Change) (k n by : ℕ) → IsOrderly b → LandsAs b o d → Uses b o d → EvictedIn b.instances k n by
    → (instance_at k d.instances ≡ None) ⊎ EvictedIn d.instances k n by
stays_by b d None k n by g is u h = inr (subst (λ (js : List Instance). EvictedIn js k n by) (sym is) h)
stays_by b d (Some c) k n by g (inside, (fits, is)) u h =
    subst (λ (js : List Instance). (instance_at k js ≡ None) ⊎ EvictedIn js k n by) (sym is)
    (stays b.scripts b.clock b.instances c inside k n by g.instances.apart g.instances.kept fits (λ m is_it. g.instances.no_instance m (u m is_it).0) h)

one_stays : (m : Moment) (b : Book) (k n by : ℕ) → IsOrderly b → IsLawful m.event b → EvictedIn b.instances k n by
    → (instance_at k (then_book m b).instances ≡ None) ⊎ EvictedIn (then_book m b).instances k n by
one_stays m b k n by g lawful h =
    let d = then_book m b in
    let o = lands m.rules b m.event m.fate in
    let went = goes m.rules b m.nonce m.event m.fate in
    stays_by b d o k n by g (lands_as m.rules b d o went g) (uses m.rules b d o went lawful g) h

-- an instance that is gone stays gone
gone_on : (b c : Book) (k : ℕ) → (Unused b k → ⊥) → Later b c → instance_at k b.instances ≡ None → instance_at k c.instances ≡ None
gone_on b c k used later none = by_case (instance_at k c.instances) refl
  where
    by_case : (o : Option Instance) → instance_at k c.instances ≡ o → instance_at k c.instances ≡ None
    by_case None e = e
    by_case (Some j) e = absurd (let was = later.since.was k j e used in never (instance_at k b.instances) was.instance none was.found)

run_stays : (ms : List Moment) (b : Book) (k n by : ℕ) → IsOrderly b → AreLawful ms b → EvictedIn b.instances k n by
    → (instance_at k (book_after ms b).instances ≡ None) ⊎ EvictedIn (book_after ms b).instances k n by
run_stays [] b k n by g lawful h = inr h
run_stays (m ∷ ms) b k n by g lawful h =
    let d = then_book m b in
    let one = orderly.stepped m b g lawful.0 in
    let used : Unused d k → ⊥ = λ u. never (instance_at k b.instances) h.instance (g.instances.no_instance k (one.fewer k u)) h.found in
    ⊎_elim
    (λ none. inl (gone_on d (book_after ms d) k used (orderly.led d (book_after ms d) one.orderly (record { moments = ms; lawful = lawful.1; there = refl })) none))
    (λ still. run_stays ms d k n by one.orderly lawful.1 still)
    (one_stays m b k n by g lawful.0 h)

some_never : (revoked : Bool) (o last : Option Refusal) (by : ℕ) → or_else (when revoked Revoked) (or_else o (or_else (evicted_by (Some by)) last)) ≡ None → ⊥
some_never revoked o last by e = grind (arith, e)

not_admitted : (b : Book) (name : List ℕ) (n : PageName) (by : ℕ) (at : Place) → EvictedIn b.instances n.instance n.page by → admit b (page name n) ≡ resumes at → ⊥
not_admitted b name n by at h e =
    let r = resumes_place b name n at e in
    let stands = stands_at b name n at r.0 in
    let same : h.instance ≡ at.instance = same_Some h.instance at.instance (sym h.found ∙ stands.here) in
    let number : at.page.number ≡ n.page = number_of (λ q. q.number) n.page at.instance.pages at.page stands.shown in
    let gone : evictor at.page.number at.instance.evicted ≡ Some by =
    ap (λ (m : ℕ). evictor m at.instance.evicted) number ∙ subst (λ (i : Instance). evictor n.page i.evicted ≡ Some by) same h.evicted in
    some_never (is_one at.page.number at.instance.revoked) (closed_by (first_closed at.instance.closed at.page.inside)) (when (is_expired b.clock at.page) (Expired at.page.deadline)) by
    (subst (λ (o : Option ℕ). or_else (when (is_one at.page.number at.instance.revoked) Revoked) (or_else (closed_by (first_closed at.instance.closed at.page.inside)) (or_else (evicted_by o) (when (is_expired b.clock at.page) (Expired at.page.deadline)))) ≡ None) gone r.1)

pub nothing_evicts : NothingElseEvicts
nothing_evicts = (
  λ (b : Book) (m : Moment) (g : IsOrderly b) (k n by : ℕ) (h : EvictedIn (then_book m b).instances k n by).
      let d = then_book m b in
      let o = lands m.rules b m.event m.fate in
      ⊎_elim (λ old. inl old) (λ x. inr (record { extension = x.extension; lands = x.is; here = x.here; number = x.number; gone = x.gone }))
      (came_by b d o k n by g.instances.apart (lands_as m.rules b d o (goes m.rules b m.nonce m.event m.fate) g) h),
  λ (b c : Book) (g : IsOrderly b) (l : Leads b c) (k n by : ℕ) (h : EvictedIn b.instances k n by).
      subst (λ (x : Book). (instance_at k x.instances ≡ None) ⊎ EvictedIn x.instances k n by) l.there (run_stays l.moments b k n by g l.lawful h),
  not_admitted,
)
