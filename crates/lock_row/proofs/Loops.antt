-- Walks over the places of a row.
use Rattle.std.proofs.Common.{◌≡◌, ◌≢◌, ℕ, zero, suc, List, [], ◌∷◌, length, Some, slice_get, set, refl, ap, sym, ◌∙◌, subst, arith}
use Rattle.std.proofs.lemmas.Option.{slice_get_within}
use mathlib.Core.Logic.{dite}
use native.Mathlib.Decide.{ℕ_discrete}
use Rattle.shelf_lock.specs.declared.kept.Kept.{Ghosts}
use Rattle.shelf_lock.specs.declared.view.View.{View}
use Rattle.shelf_lock.specs.declared.view.Role.TheVariants.{Outside}
use Rattle.shelf_lock.specs.Order.{made_by, posed, longer, both, GoesOn}
use Rattle.lock_row.specs.Spots.{Spot, spot, At}
use Rattle.lock_row.specs.Rows.{Hears, Absorbs, ZipsFrom}
use Rattle.lock_row.proofs.Places.{one_of, set_there}

module _ {A : Type 0} where
  pub apart_stays : (xs : List A) (k n : ℕ) (x : A) → k ≢ n → slice_get (set xs n x) k ≡ slice_get xs k
  apart_stays [] k n x ne = refl
  apart_stays (y ∷ ys) zero zero x ne = absurd (ne refl)
  apart_stays (y ∷ ys) zero (suc n) x ne = refl
  apart_stays (y ∷ ys) (suc k) zero x ne = refl
  apart_stays (y ∷ ys) (suc k) (suc n) x ne = apart_stays ys k n x (λ e. ne (ap suc e))

-- one more place was changed, from the last on
pub zips_on : {A B : Type 0} (R : B → A → A → Type 0) (old : List A) (others : List B) (new next : List A) (m : ℕ) (n : B) (a b : A) → ZipsFrom R (suc m) old others new → slice_get others m ≡ Some n
    → slice_get new m ≡ Some a → next ≡ set new m b → R n a b → ZipsFrom R m old others next
zips_on {A} {B} R old others new next m n a b far is at set_is rel =
    let beside : (k : ℕ) → k ≢ m → slice_get next k ≡ slice_get new k = λ k ne. ap (λ l. slice_get l k) set_is ∙ apart_stays new k m b ne in
    let Done : ℕ → Type 0 = λ k. (x : A) (z : B) → slice_get old k ≡ Some x → slice_get others k ≡ Some z → (y : A) × (slice_get next k ≡ Some y) × R z x y in
    let here : Done m = λ x z x_is z_is.
    let same : a ≡ x = one_of (sym at ∙ (far.1 m (omega arith) ∙ x_is)) in
    let other : n ≡ z = one_of (sym is ∙ z_is) in (
      b,
      ap (λ l. slice_get l m) set_is ∙ set_there new m b (slice_get_within new m a at),
      subst (λ u. R u x b) other (subst (λ u. R n u b) same rel),
    ) in (
      λ k le. dite (ℕ_discrete k m) (λ e. subst Done (sym e) here) (λ ne x z x_is z_is. let f = far.0 k (omega arith) x z x_is z_is in (f.0, beside k ne ∙ f.1, f.2)),
      λ k lt. beside k (λ (e : k ≡ m). absurd (omega arith)) ∙ far.1 k (omega arith),
    )

-- nothing was changed yet
pub zips_first : {A B : Type 0} (R : B → A → A → Type 0) (old : List A) (others : List B) (m : ℕ) → m ≡ length others → ZipsFrom R m old others old
zips_first R old others m is = (
  λ k le a n a_is n_is. absurd (let within = slice_get_within others k n n_is in omega arith),
  λ k lt. refl,
)

module _ {S O E : Type 0} (g : Ghosts S O E) where
  -- one more note was heard
  pub hears_on : (old notes new next : List (Spot O E)) (m : ℕ) (n : Spot O E) → ZipsFrom (Hears g) (suc m) old notes new → slice_get notes m ≡ Some n
      → At m (λ v w. (w ≡ posed Outside (longer v.seen n.known.seen) v) × GoesOn g v.caller w.seen (v.seen ∷ n.known.seen ∷ [])) new next → ZipsFrom (Hears g) m old notes next
  hears_on old notes new next m n far is at =
      let mine = ap (λ (v : View O E). made_by g.caller v.caller at.1.seen) at.4.0 ∙ at.4.1.1 in
      zips_on (Hears g) old notes new next m n at.0 (spot at.0.table at.1) far is at.2 at.3 (ap (spot at.0.table) at.4.0, at.4.1.0, at.4.1.2.0, mine)

-- one more seat was taken in
pub absorbs_on : {O E : Type 0} (old others new next : List (Spot O E)) (m : ℕ) (n : Spot O E) → ZipsFrom Absorbs (suc m) old others new → slice_get others m ≡ Some n
    → At m (λ v w. w ≡ both v n.known) new next → ZipsFrom Absorbs m old others next
absorbs_on old others new next m n far is at = zips_on Absorbs old others new next m n at.0 (spot at.0.table at.1) far is at.2 at.3 (ap (spot at.0.table) at.4)
