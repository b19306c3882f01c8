-- Runs of shelves over the events that were entered for them.
use Rattle.std.proofs.Common.{◌≡◌, ◌≢◌, ◌∙◌, ap, sym, subst, refl, ⊎_elim, ℕ, ◌+◌, ◌==◌, true, false, List, [], ◌∷◌, ◌++◌, slice_get, slice_set, Some, arith}
use Rattle.std.proofs.lemmas.Bool.{cases_eq, eq-eqb, ne_eqb}
use Rattle.std.proofs.lemmas.Option.{slice_get_within, same_Some}
use Rattle.replay_spec.specs.Book.{Book}
use Rattle.replay_spec.specs.Rules.{Rules}
use Rattle.replay_spec.specs.Step.{Event, Fate, Reply, taken, step}
use Rattle.replay_spec.specs.Runs.{Shelf, shelf_step, drawn_by, after, answers_to}
use Rattle.replay_spec.specs.Laws.{IsLawful, IsLawfulRun}
use Rattle.replay_spec.proofs.Goes as run
use Rattle.replay_spec.proofs.Goes.{after_append, lawful_append}
use Rattle.play_desk.specs.Desk.{counting, happening, in_64_bits}
use Rattle.play_desk.specs.Ledger.{Entry}
use Rattle.play_desk.specs.Laws.{events_on, replies_on, AreAlike, AreRuns, AreLawfulRuns}
use Rattle.play_desk.proofs.Places.{get_set, get_other}

events_append : (k : ℕ) (a b : List Entry) → events_on k (a ++ b) ≡ events_on k a ++ events_on k b
events_append k [] b = refl
events_append k (e ∷ a) b = grind (arith, events_append k a b)

replies_append : (k : ℕ) (a b : List Entry) → replies_on k (a ++ b) ≡ replies_on k a ++ replies_on k b
replies_append k [] b = refl
replies_append k (e ∷ a) b = grind (arith, replies_append k a b)

-- ---- shelves that are alike

pub alike_self : (s : Shelf) → AreAlike s s
alike_self s = record { rules = refl; book = refl; nonces = refl }

alike_chain : (s t u : Shelf) → AreAlike s t → AreAlike t u → AreAlike s u
alike_chain s t u h k = record { rules = k.rules ∙ h.rules; book = k.book ∙ h.book; nonces = k.nonces ∙ h.nonces }

pub in_64_alike : (s : Shelf) → AreAlike s (in_64_bits s)
in_64_alike s = record { rules = refl; book = refl; nonces = omega arith }

-- one more
next_alike : (a b : ℕ) → counting a ≡ counting b → counting (a + 1) ≡ counting (b + 1)
next_alike a b e = omega (arith, e)

drawn_alike : (r : Reply) (a b : ℕ) → counting a ≡ counting b → counting (drawn_by r a) ≡ counting (drawn_by r b)
drawn_alike (taken number nonce) a b e = next_alike a b e
drawn_alike r a b e = e

-- an event on shelves that are alike
step_alike : (s t : Shelf) (event : Event) (fate : Fate) → AreAlike s t
    → ((shelf_step counting t event fate).0 ≡ (shelf_step counting s event fate).0)
    × AreAlike (shelf_step counting s event fate).1 (shelf_step counting t event fate).1
step_alike s t event fate h =
    let same : step t.rules t.book (counting t.nonces) event fate ≡ step s.rules s.book (counting s.nonces) event fate =
    ap (λ (r : Rules). step r t.book (counting t.nonces) event fate) h.rules
    ∙ ap (λ (b : Book). step s.rules b (counting t.nonces) event fate) h.book
    ∙ ap (λ n. step s.rules s.book n event fate) h.nonces in
    let reply = ap (λ (x : Reply × Book). x.0) same in (
      reply,
      record {
        rules = h.rules;
        book = ap (λ (x : Reply × Book). x.1) same;
        nonces = ap (λ (r : Reply). counting (drawn_by r t.nonces)) reply
            ∙ drawn_alike (step s.rules s.book (counting s.nonces) event fate).0 t.nonces s.nonces h.nonces;
      },
    )

after_alike : (xs : List (Event × Fate)) (s t : Shelf) → AreAlike s t → AreAlike (after counting xs s) (after counting xs t)
after_alike [] s t h = h
after_alike (x ∷ xs) s t h = after_alike xs _ _ (step_alike s t x.0 x.1 h).1

answers_alike : (xs : List (Event × Fate)) (s t : Shelf) → AreAlike s t → answers_to counting xs t ≡ answers_to counting xs s
answers_alike [] s t h = refl
answers_alike (x ∷ xs) s t h =
    let one = step_alike s t x.0 x.1 h in
    ap (λ (r : Reply). r ∷ answers_to counting xs (shelf_step counting t x.0 x.1).1) one.0
    ∙ ap (λ (rs : List Reply). (shelf_step counting s x.0 x.1).0 ∷ rs) (answers_alike xs _ _ one.1)

lawful_alike : (xs : List (Event × Fate)) (s t : Shelf) → AreAlike s t → IsLawfulRun counting xs t → IsLawfulRun counting xs s
lawful_alike [] s t h lawful = tt
lawful_alike (x ∷ xs) s t h lawful =
    (subst (IsLawful x.0) h.book lawful.0, lawful_alike xs _ _ (step_alike s t x.0 x.1 h).1 lawful.1)

-- ---- runs

pub no_runs : (ss : List Shelf) → AreRuns [] ss ss
no_runs ss = record { answered = λ k s e. refl; left = λ k s e. (s, e, alike_self s) }

pub no_lawful : (ss : List Shelf) → AreLawfulRuns [] ss
no_lawful ss = λ k s here. tt

pub runs_then : (a b : List Entry) (old mid new : List Shelf) → AreRuns a old mid → AreRuns b mid new
    → AreRuns (a ++ b) old new
runs_then a b old mid new one two = record {
  answered = λ k s e.
      let there = one.left k s e in
      ap (λ (xs : List (Event × Fate)). answers_to counting xs s) (events_append k a b)
      ∙ run.replies_append counting (events_on k a) (events_on k b) s
      ∙ ap (λ (rs : List Reply). rs ++ answers_to counting (events_on k b) (after counting (events_on k a) s)) (one.answered k s e)
      ∙ ap (λ (rs : List Reply). replies_on k a ++ rs)
      (sym (answers_alike (events_on k b) (after counting (events_on k a) s) there.0 there.2) ∙ two.answered k there.0 there.1)
      ∙ sym (replies_append k a b);
  left = λ k s e.
      let there = one.left k s e in
      let last = two.left k there.0 there.1 in
      let all = ap (λ (xs : List (Event × Fate)). after counting xs s) (events_append k a b)
      ∙ after_append counting (events_on k a) (events_on k b) s in (
        last.0,
        last.1,
        subst (λ (x : Shelf). AreAlike x last.0) (sym all)
            (alike_chain _ _ _ (after_alike (events_on k b) (after counting (events_on k a) s) there.0 there.2) last.2),
      );
}

-- an event of a shelf
abbrev pub entry_of : (shelf : ℕ) → Shelf → Event → Fate → Entry
entry_of k s event fate = record { shelf = k; event = event; fate = fate; reply = (happening s event fate).0 }

pub one_run : (ss : List Shelf) (k : ℕ) (s : Shelf) (event : Event) (fate : Fate) → slice_get ss k ≡ Some s
    → AreRuns (entry_of k s event fate ∷ []) ss (slice_set ss k (happening s event fate).1)
one_run ss k s event fate here = record {
  answered = λ j t there. ⊎_elim (λ same. answered_same j t there same) (λ other. answered_other j t other) (cases_eq k j);
  left = λ j t there. ⊎_elim (λ same. left_same j t there same) (λ other. left_other j t there other) (cases_eq k j);
}
  where
    x : Entry
    x = entry_of k s event fate

    next : Shelf
    next = (happening s event fate).1

    it : (j : ℕ) (t : Shelf) → slice_get ss j ≡ Some t → k ≡ j → s ≡ t
    it j t there same = same_Some s t (sym here ∙ ap (slice_get ss) same ∙ there)

    answered_same : (j : ℕ) (t : Shelf) → slice_get ss j ≡ Some t → k ≡ j → answers_to counting (events_on j (x ∷ [])) t ≡ replies_on j (x ∷ [])
    answered_same j t there same =
        let test : (k == j) ≡ true = eq-eqb k j same in
        rw test (ap (λ (u : Shelf). (shelf_step counting u event fate).0 ∷ []) (sym (it j t there same)))

    answered_other : (j : ℕ) (t : Shelf) → k ≢ j → answers_to counting (events_on j (x ∷ [])) t ≡ replies_on j (x ∷ [])
    answered_other j t other = let test : (k == j) ≡ false = ne_eqb k j other in rw test refl

    left_same : (j : ℕ) (t : Shelf) → slice_get ss j ≡ Some t → k ≡ j
        → (u : Shelf) × (slice_get (slice_set ss k next) j ≡ Some u) × AreAlike (after counting (events_on j (x ∷ [])) t) u
    left_same j t there same =
        let test : (k == j) ≡ true = eq-eqb k j same in
        rw test (
          next,
          ap (slice_get (slice_set ss k next)) (sym same) ∙ get_set ss k next (slice_get_within ss k s here),
          subst (λ (u : Shelf). AreAlike (shelf_step counting u event fate).1 next) (it j t there same) (in_64_alike (shelf_step counting s event fate).1),
        )

    left_other : (j : ℕ) (t : Shelf) → slice_get ss j ≡ Some t → k ≢ j
        → (u : Shelf) × (slice_get (slice_set ss k next) j ≡ Some u) × AreAlike (after counting (events_on j (x ∷ [])) t) u
    left_other j t there other =
        let test : (k == j) ≡ false = ne_eqb k j other in rw test (t, get_other ss k j next other ∙ there, alike_self t)

pub lawful_then : (a b : List Entry) (old mid : List Shelf) → AreRuns a old mid → AreLawfulRuns a old
    → AreLawfulRuns b mid → AreLawfulRuns (a ++ b) old
lawful_then a b old mid ran one two = λ k s here.
    subst (λ (xs : List (Event × Fate)). IsLawfulRun counting xs s) (sym (events_append k a b))
    (let there = ran.left k s here in
    lawful_append counting (events_on k a) (events_on k b) s (one k s here)
    (lawful_alike (events_on k b) (after counting (events_on k a) s) there.0 there.2 (two k there.0 there.1)))

pub one_lawful : (ss : List Shelf) (k : ℕ) (s : Shelf) (event : Event) (fate : Fate) (reply : Reply) → slice_get ss k ≡ Some s
    → IsLawful event s.book → AreLawfulRuns (record { shelf = k; event = event; fate = fate; reply = reply } ∷ []) ss
one_lawful ss k s event fate reply here lawful = λ j t there. ⊎_elim (same j t there) (other j t) (cases_eq k j)
  where
    x : Entry
    x = record { shelf = k; event = event; fate = fate; reply = reply }

    same : (j : ℕ) (t : Shelf) → slice_get ss j ≡ Some t → k ≡ j → IsLawfulRun counting (events_on j (x ∷ [])) t
    same j t there e =
        let test : (k == j) ≡ true = eq-eqb k j e in
        let it : s ≡ t = same_Some s t (sym here ∙ ap (slice_get ss) e ∙ there) in
        rw test (subst (λ (u : Shelf). IsLawful event u.book) it lawful, tt)

    other : (j : ℕ) (t : Shelf) → k ≢ j → IsLawfulRun counting (events_on j (x ∷ [])) t
    other j t e = let test : (k == j) ≡ false = ne_eqb k j e in rw test tt
