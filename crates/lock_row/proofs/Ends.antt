-- Closing all locks with the seats of one pass, which all others were taken into.
use Rattle.std.proofs.Common.{◌≡◌, ◌≢◌, ℕ, zero, suc, ◌+◌, ◌-◌, ◌<◌, ◌≤◌, List, [], ◌∷◌, ◌++◌, Bool, true, false, leb, Some, slice_get, refl, ap, sym, ◌∙◌, subst, length, map, arith}
use Rattle.std.proofs.lemmas.Option.{slice_get_within}
use Rattle.std.proofs.lemmas.Bool.Decides.{nat_tests}
use mathlib.Core.Logic.{dite}
use native.Mathlib.Decide.{ℕ_discrete}
use Rattle.std.specs.List.{AllZip}
use Rattle.shelf_lock.specs.declared.kept.Kept.{Ghosts}
use Rattle.atomic_table.specs.Seated.{TableId}
use Rattle.shelf_lock.specs.declared.rule.Start.{Start}
use Rattle.shelf_lock.specs.Order.{both, made_by, Begins, MadeBelow}
use Rattle.lock_row.specs.Rows.{IsClosed, IsBack, IsNewFor, IsSpare, AreSpare, TellsAll}
use Rattle.shelf_lock.proofs.Closings.{from_next, tells}
use Rattle.lock_row.specs.Spots.{Spot, spot, Home, home, home_of}
use Rattle.lock_row.proofs.Places.{homes, same_at, one_of, get_there, map_length}

drop_last : {A : Type 0} → List A → List A
drop_last [] = []
drop_last (x ∷ []) = []
drop_last (x ∷ y ∷ ys) = x ∷ drop_last (y ∷ ys)

drop_last-snoc : {A : Type 0} (xs : List A) (x : A) → drop_last (xs ++ x ∷ []) ≡ xs
unfolding drop_last
drop_last-snoc [] x = refl
drop_last-snoc (y ∷ []) x = refl
drop_last-snoc (y ∷ z ∷ zs) x = ap (λ l. y ∷ l) (drop_last-snoc (z ∷ zs) x)

pub same_fronts : {A : Type 0} (xs ys : List A) (x y : A) → xs ++ x ∷ [] ≡ ys ++ y ∷ [] → xs ≡ ys
same_fronts xs ys x y e = sym (drop_last-snoc xs x) ∙ (ap drop_last e ∙ drop_last-snoc ys y)

pub zip_get : {A B : Type 0} (R : A → B → Type 0) (xs : List A) (ys : List B) (k : ℕ) (y : B) → AllZip R xs ys → slice_get ys k ≡ Some y → (x : A) × (slice_get xs k ≡ Some x) × R x y
zip_get R [] [] k y all e = absurd (cc e)
zip_get R [] (b ∷ bs) k y all e = elim all [ ]
zip_get R (a ∷ more) [] k y all e = elim all [ ]
zip_get R (a ∷ more) (b ∷ bs) zero y all e = (a, refl, subst (R a) (one_of e) all.0)
zip_get R (a ∷ more) (b ∷ bs) (suc k) y all e = zip_get R more bs k y all.1 e

pub zip_length : {A B : Type 0} (R : A → B → Type 0) (xs : List A) (ys : List B) → AllZip R xs ys → length ys ≡ length xs
zip_length R [] [] all = refl
zip_length R [] (b ∷ bs) all = elim all [ ]
zip_length R (a ∷ more) [] all = elim all [ ]
zip_length R (a ∷ more) (b ∷ bs) all = ap suc (zip_length R more bs all.1)

module _ {S O E : Type 0} (g : Ghosts S O E) where
  -- what is told of the pass `now` is told of this one and of the passes from n on
  abbrev pub TellsFrom : ℕ → List (List (Spot O E)) → (old now : List (Spot O E)) → Type 0
  TellsFrom n passes old now =
      (k : ℕ) (a : Spot O E) → slice_get now k ≡ Some a → (log : List E) → Begins g log a.known
      → ((b : Spot O E) → slice_get old k ≡ Some b → Begins g log b.known)
      × ((j : ℕ) (p : List (Spot O E)) → n ≤ j → slice_get passes j ≡ Some p → (b : Spot O E) → slice_get p k ≡ Some b → Begins g log b.known)

  -- one more pass was taken in
  pub tells_on : (passes : List (List (Spot O E))) (n : ℕ) (old now next other : List (Spot O E)) → TellsFrom (suc n) passes old now → slice_get passes n ≡ Some other
      → homes now ≡ homes next → homes other ≡ homes next
      → ((k : ℕ) (a m : Spot O E) → slice_get now k ≡ Some a → slice_get other k ≡ Some m → (b : Spot O E) × (slice_get next k ≡ Some b) × (b ≡ spot a.table (both a.known m.known)))
      → TellsFrom n passes old next
  tells_on passes n old now next other far at one two absorbed k c c_is log begins =
      let a = same_at now next k c one c_is in
      let m = same_at other next k c two c_is in
      let b = absorbed k a.0 m.0 a.1 m.1 in
      let is : c.known ≡ both a.0.known m.0.known = ap (λ (s : Spot O E). s.known) (one_of (sym c_is ∙ b.1) ∙ b.2) in
      let told = tells g a.0.known m.0.known c.known is log begins in
      let before = far k a.0 a.1 log told.0 in (
        before.0,
        from_next (λ p. (b : Spot O E) → slice_get p k ≡ Some b → Begins g log b.known) passes n other at
            (λ b b_is. subst (λ (s : Spot O E). Begins g log s.known) (one_of (sym m.1 ∙ b_is)) told.1)
            (λ j p le e b b_is. before.1 j p le e b b_is),
      )

  -- at first none was taken in
  pub tells_first : (passes : List (List (Spot O E))) (old : List (Spot O E)) → TellsFrom (length passes) passes old old
  tells_first passes old k a a_is log begins = (
    λ b b_is. subst (λ (s : Spot O E). Begins g log s.known) (one_of (sym a_is ∙ b_is)) begins,
    λ j p le e b b_is. absurd (let within = slice_get_within passes j p e in omega arith),
  )

  pub tells_all : (passes : List (List (Spot O E))) (old now : List (Spot O E)) → TellsFrom 0 passes old now → TellsAll g (old ∷ passes) now
  tells_all passes old now far k a a_is log begins zero p e b b_is = (far k a a_is log begins).0 b (ap (λ l. slice_get l k) (one_of e) ∙ b_is)
  tells_all passes old now far k a a_is log begins (suc j) p e b b_is = (far k a a_is log begins).1 j p (omega arith) e b b_is

  -- what is told of the last pass is told of all that were taken in, some into the first and some then into the next
  pub tells_both : (first next last : List (Spot O E)) (passes spare : List (List (Spot O E))) (k : ℕ) (a : Spot O E) (log : List E) → homes next ≡ homes last → TellsAll g (first ∷ passes) next → TellsAll g (next ∷ spare) last
      → slice_get last k ≡ Some a → Begins g log a.known
      → ((j : ℕ) (p : List (Spot O E)) → slice_get (first ∷ passes) j ≡ Some p → (b : Spot O E) → slice_get p k ≡ Some b → Begins g log b.known)
      × ((j : ℕ) (p : List (Spot O E)) → slice_get spare j ≡ Some p → (b : Spot O E) → slice_get p k ≡ Some b → Begins g log b.known)
  tells_both first next last passes spare k a log same one two at begins =
      let s = same_at next last k a same at in (
        λ j p e b b_is. one k s.0 s.1 log (two k a at log begins 0 next refl s.0 s.1) j p e b b_is,
        λ j p e b b_is. two k a at log begins (suc j) p e b b_is,
      )

  -- a caller who has seen nothing, and made nothing
  silent : (log : List E) (b : Spot O E) (who caller : ℕ) → caller ≡ who → IsNewFor caller b → Begins g log b.known → made_by g.caller who log ≡ []
  silent log b who caller is new begins =
      subst (λ (n : ℕ). made_by g.caller n log ≡ []) (new.0 ∙ is) (begins.1 ∙ ap (made_by g.caller b.known.caller) new.1)

  -- what is told of passes that no caller had
  pub none_above : (log : List E) (row : List (Home O)) (next k : ℕ) (spare : List (List (Spot O E))) (own : List (Spot O E)) → k < length row → AreSpare row next spare → IsSpare row (next + length spare) own
      → ((b : Spot O E) → slice_get own k ≡ Some b → Begins g log b.known)
      → ((j : ℕ) (p : List (Spot O E)) → slice_get spare j ≡ Some p → (b : Spot O E) → slice_get p k ≡ Some b → Begins g log b.known)
      → MadeBelow g (next + length spare + 1) log → MadeBelow g next log
  none_above log row next k spare own lt are is told_own told_spare below who le =
      dite (ℕ_discrete who (next + length spare))
      (λ same.
      let len = map_length (λ (s : Spot O E). home_of s) own in
      let len' = ap length is.0 in
      let b = get_there own k (omega arith) in
      silent log b.0 who (next + length spare) (sym same) (is.1 k b.0 b.1) (told_own b.0 b.1))
      (λ ne. by_order (leb (next + length spare) who) refl ne)
    where
      spared : who < next + length spare → made_by g.caller who log ≡ []
      spared few =
          let j = length spare - 1 - (who - next) in
          let within : j < length spare = omega arith in
          let p = get_there spare j within in
          let s = are j p.0 p.1 in
          let len = map_length (λ (s : Spot O E). home_of s) p.0 in
          let len' = ap length s.0 in
          let b = get_there p.0 k (omega arith) in
          let same : next + (length spare - 1 - j) ≡ who = omega arith in
          silent log b.0 who (next + (length spare - 1 - j)) same (s.1 k b.0 b.1) (told_spare j p.0 p.1 b.0 b.1)

      by_order : (b : Bool) → leb (next + length spare) who ≡ b → who ≢ next + length spare → made_by g.caller who log ≡ []
      by_order true e ne = let most : next + length spare ≤ who = grind (arith, nat_tests) in below who (omega arith)
      by_order false e ne = spared (let few : who < next + length spare = grind (arith, nat_tests) in few)

  -- what came back from these locks came back from their homes
  pub zip_back : {B : Type 0} (t : B → TableId) (key : B → Start S) (seats : ℕ) (locks : List B) (xs : List S)
      → ((k : ℕ) (l : B) (x : S) → slice_get locks k ≡ Some l → slice_get xs k ≡ Some x → MadeBelow g (key l).seats (g.history x) → MadeBelow g seats (g.history x))
      → AllZip (λ l x. IsClosed g (key l) x) locks xs → AllZip (λ h x. IsBack g h.opening seats x) (map (λ l. home (t l) (g.opening (key l).value.value ∷ [])) locks) xs
  zip_back t key seats [] [] few all = tt
  zip_back t key seats [] (x ∷ xs) few all = elim all [ ]
  zip_back t key seats (l ∷ ls) [] few all = elim all [ ]
  zip_back t key seats (l ∷ ls) (x ∷ xs) few all = (
    record { sound = all.0.0; opening_is = ap (λ o. o ∷ []) (sym all.0.1); callers = few 0 l x refl refl all.0.2 },
    zip_back t key seats ls xs (λ k m y e f. few (suc k) m y e f) all.1,
  )

-- what holds of pairs holds of the same lists under another name of the first
pub zip_along : {A B : Type 0} (R : A → B → Type 0) (xs ws : List A) (ys zs : List B) → xs ≡ ws → ys ≡ zs → AllZip R xs ys → AllZip R ws zs
zip_along R xs ws ys zs a b all = subst (λ l. AllZip R l zs) a (subst (AllZip R xs) b all)
