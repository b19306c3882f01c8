-- Nothing else closes a transaction, and nothing else frees an instance.
use Rattle.std.proofs.Common.{◌≡◌, ◌==◌, ◌++◌, ◌⊎◌, ℕ, List, [], ◌∷◌, Option, Some, None, Bool, true, false, not, filter, refl, sym, ap, subst, ◌∙◌, inl, inr, ⊎_elim, slice_get, arith}
use Rattle.std.specs.List.{list_all}
use Rattle.std.proofs.lemmas.Bool.{cases_eq}
use Rattle.std.proofs.lemmas.Bool.Decides.{nat_tests}
use Rattle.script_value.specs.declared.outcome.TxName.{TxName}
use Rattle.script_nodes.specs.Setup.{Named}
use Rattle.replay_spec.specs.Names.{Has}
use Rattle.replay_spec.specs.Book.{Instance, Opening, Finish, Change, opens, extends, ends, finishes, sweeps, Book, is_over, is_live, instance_at, root_by, page_by}
use Rattle.replay_spec.specs.Change.{mend, shown_by, ended_by, fresh, opened_by, instances_by}
use Rattle.replay_spec.specs.Runs.{lands}
use Rattle.replay_spec.specs.Invariant.{Apart, ClosedIn, IsSoundChange}
use Rattle.replay_spec.specs.Laws.{then_book, closes}
use Rattle.replay_spec.specs.Laws as law
use Rattle.replay_spec.specs.Promises.{NothingElseCloses, NothingElseFrees}
use Rattle.replay_spec.proofs.Names.{has_parts}
use Rattle.replay_spec.proofs.Numbered.{number_of, put_found, put_other}
use Rattle.replay_spec.proofs.Found.{KeepsNumber, mend_found, mend_other, keep_found}
use Rattle.replay_spec.proofs.Landed.{never}
use Rattle.replay_spec.proofs.Going.{goes}
use Rattle.replay_spec.proofs.Lands.{LandsAs, lands_as, LandsSound, lands_sound}
use Rattle.replay_spec.proofs.Differ.{put_from, mend_from}

-- what is closed in an instance that was changed so was closed, or was left
mended_closed : (k n : ℕ) (f : Instance → Instance) (left : List TxName) (is : List Instance) (t : TxName) → KeepsNumber f → ((i : Instance) → (f i).closed ≡ i.closed ++ left)
    → ClosedIn (mend n f is) k t → ClosedIn is k t ⊎ Has left t
mended_closed k n f left is t same closed h = ⊎_elim
    (λ old. inl (record { instance = h.instance; found = old; closed = h.closed }))
    (λ (i, (there, is_it)).
    let both : Has (i.closed ++ left) t = subst (λ (l : List TxName). Has l t) (closed i) (subst (λ (j : Instance). Has j.closed t) (sym is_it) h.closed) in
    ⊎_elim (λ old. inl (record { instance = i; found = there; closed = old })) (λ new. inr new) (has_parts i.closed left t both))
    (mend_from k n f is h.instance same h.found)

opened_closed : (s : Option Named) (o : Opening) (inside : List TxName) (is : List Instance) (k : ℕ) (t : TxName) → ((x : TxName) → Has o.left x → ⊥)
    → ClosedIn (opened_by s o inside is) k t → ClosedIn is k t
opened_closed None o inside is k t nothing h = h
opened_closed (Some s) o inside is k t nothing h =
    let i = shown_by o.effects o.left o.kind [] (root_by o inside) (fresh s o.number) in
    ⊎_elim (λ same. absurd (nothing t (subst (λ (j : Instance). Has j.closed t) (sym same) h.closed)))
    (λ old. record { instance = h.instance; found = old; closed = h.closed }) (put_from (λ (x : Instance). x.number) k i h.instance is h.found)

closed_by : (scripts : List Named) (shelf : ℕ) (is : List Instance) (c : Change) (inside : List TxName) (k : ℕ) (t : TxName) → Apart is → IsSoundChange scripts shelf is c inside
    → ClosedIn (instances_by scripts c inside is) k t → ClosedIn is k t ⊎ Has (closes is c) t
closed_by scripts shelf is (opens o) inside k t apart sound h = inl (opened_closed (slice_get scripts o.script) o inside is k t sound.nothing h)
closed_by scripts shelf is (extends x) inside k t apart sound h =
    mended_closed k x.instance (shown_by x.effects x.left x.kind x.evicted (page_by x inside)) x.left is t (λ i. refl) (λ i. refl) h
closed_by scripts shelf is (ends e) inside k t apart sound h = mended_closed k e.instance (ended_by e) e.left is t (λ i. refl) (λ i. refl) h
closed_by scripts shelf is (finishes f) inside k t apart sound h =
    inl (record { instance = h.instance; found = keep_found (λ i. not (i.number == f.instance)) k is h.instance apart h.found; closed = h.closed })
closed_by scripts shelf is (sweeps tick) inside k t apart sound h =
    inl (record { instance = h.instance; found = keep_found (is_live tick) k is h.instance apart h.found; closed = h.closed })

closed_landed : (b d : Book) (o : Option Change) (k : ℕ) (t : TxName) → Apart b.instances → LandsSound b o d → ClosedIn d.instances k t
    → ClosedIn b.instances k t ⊎ Has (law.closed_by b.instances o) t
closed_landed b d None k t apart is h = inl (subst (λ (js : List Instance). ClosedIn js k t) is h)
closed_landed b d (Some c) k t apart (inside, (sound, is)) h =
    closed_by b.scripts b.shelf b.instances c inside k t apart sound (subst (λ (js : List Instance). ClosedIn js k t) is h)

pub nothing_closes : NothingElseCloses
nothing_closes b m g k t h =
    let o = lands m.rules b m.event m.fate in
    let d = then_book m b in
    closed_landed b d o k t g.orderly.instances.apart (lands_sound m.rules b d o (goes m.rules b m.nonce m.event m.fate) g) h

-- what passes a test stays
kept : (f : Instance → Bool) (k : ℕ) (is : List Instance) (i : Instance) → instance_at k is ≡ Some i → f i ≡ true → instance_at k (filter f is) ≡ Some i
kept f k [] i found passes = absurd (let no : ⊥ = cc in no)
kept f k (j ∷ is) i found passes = grind (arith, nat_tests, kept f k is i)

-- an instance of this number is finished, or all its pages are expired at the tick or evicted
record FinishesIn (o : Option Change) (k : ℕ) : Type 0 where
  finish : Finish
  is : o ≡ Some (finishes finish)
  here : finish.instance ≡ k

record ExpiresIn (o : Option Change) (i : Instance) : Type 0 where
  tick : ℕ
  is : o ≡ Some (sweeps tick)
  over : list_all (is_over tick i.evicted) i.pages ≡ true

opened_there : (s : Option Named) (o : Opening) (inside : List TxName) (is : List Instance) (k : ℕ) (i : Instance) → instance_at k is ≡ Some i → instance_at k (opened_by s o inside is) ≡ None → ⊥
opened_there None o inside is k i found none = never (instance_at k is) i none found
opened_there (Some s) o inside is k i found none =
    let j = shown_by o.effects o.left o.kind [] (root_by o inside) (fresh s o.number) in
    ⊎_elim
    (λ same. never (instance_at k (opened_by (Some s) o inside is)) j none (ap (λ (m : ℕ). instance_at m (opened_by (Some s) o inside is)) (sym same) ∙ put_found (λ (x : Instance). x.number) j is))
    (λ other. never (instance_at k is) i (sym (put_other (λ (x : Instance). x.number) k j is other) ∙ none) found)
    (cases_eq o.number k)

mended_there : (n : ℕ) (f : Instance → Instance) (is : List Instance) (k : ℕ) (i : Instance) → KeepsNumber f → instance_at k is ≡ Some i → instance_at k (mend n f is) ≡ None → ⊥
mended_there n f is k i same found none = ⊎_elim
    (λ e. never (instance_at k (mend n f is)) (f i) none (ap (λ (m : ℕ). instance_at k (mend m f is)) (sym e) ∙ mend_found k f is i same found))
    (λ other. never (instance_at k is) i (sym (mend_other k n f is same (λ e. other (sym e))) ∙ none) found)
    (cases_eq k n)

not_live : (tick : ℕ) (is : List Instance) (k : ℕ) (i : Instance) → instance_at k is ≡ Some i → instance_at k (filter (is_live tick) is) ≡ None → (over : Bool) → list_all (is_over tick i.evicted) i.pages ≡ over → over ≡ true
not_live tick is k i found none true e = refl
not_live tick is k i found none false e =
    absurd (never (instance_at k (filter (is_live tick) is)) i none (kept (is_live tick) k is i found (ap (λ (x : Bool). not x) e)))

freed_by : (scripts : List Named) (is : List Instance) (c : Change) (inside : List TxName) (k : ℕ) (i : Instance) → instance_at k is ≡ Some i → instance_at k (instances_by scripts c inside is) ≡ None
    → FinishesIn (Some c) k ⊎ ExpiresIn (Some c) i
freed_by scripts is (opens o) inside k i found none = absurd (opened_there (slice_get scripts o.script) o inside is k i found none)
freed_by scripts is (extends x) inside k i found none = absurd (mended_there x.instance (shown_by x.effects x.left x.kind x.evicted (page_by x inside)) is k i (λ j. refl) found none)
freed_by scripts is (ends e) inside k i found none = absurd (mended_there e.instance (ended_by e) is k i (λ j. refl) found none)
freed_by scripts is (finishes f) inside k i found none = by_number (i.number == f.instance) refl
  where
    by_number : (b : Bool) → (i.number == f.instance) ≡ b → FinishesIn (Some (finishes f)) k ⊎ ExpiresIn (Some (finishes f)) i
    by_number true e = inl (record { finish = f; is = refl; here = (let number = number_of (λ (x : Instance). x.number) k is i found in grind (arith, nat_tests, e, number)) })
    by_number false e = absurd (never (instance_at k (filter (λ j. not (j.number == f.instance)) is)) i none (kept (λ j. not (j.number == f.instance)) k is i found (ap (λ (x : Bool). not x) e)))
freed_by scripts is (sweeps tick) inside k i found none =
    inr (record { tick = tick; is = refl; over = (let all = not_live tick is k i found none (list_all (is_over tick i.evicted) i.pages) refl in all) })

freed_landed : (b d : Book) (o : Option Change) (k : ℕ) (i : Instance) → LandsAs b o d → instance_at k b.instances ≡ Some i → instance_at k d.instances ≡ None → FinishesIn o k ⊎ ExpiresIn o i
freed_landed b d None k i is found none = absurd (never (instance_at k b.instances) i (subst (λ (js : List Instance). instance_at k js ≡ None) is none) found)
freed_landed b d (Some c) k i (inside, (fits, is)) found none = freed_by b.scripts b.instances c inside k i found (subst (λ (js : List Instance). instance_at k js ≡ None) is none)

pub nothing_frees : NothingElseFrees
nothing_frees b m g k i found none =
    let o = lands m.rules b m.event m.fate in
    let d = then_book m b in
    ⊎_elim (λ f. inl (record { finish = f.finish; lands = f.is; here = f.here })) (λ x. inr (record { tick = x.tick; lands = x.is; over = x.over }))
    (freed_landed b d o k i (lands_as m.rules b d o (goes m.rules b m.nonce m.event m.fate) g) found none)
