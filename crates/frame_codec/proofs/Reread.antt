-- What bytes say of a difference from a parent's state that fits.
use Rattle.std.proofs.Common.{◌≡◌, ℕ, zero, suc, ◌<◌, ◌==◌, ◌^◌, nat_lt, Bool, true, false, List, [], ◌∷◌, ◌++◌, length, take, reverse, Option, Some, None, refl, sym, ap, subst, ◌∙◌, arith, cond}
use Rattle.std.specs.Prelude.{option_map, IfSome, IsNone}
use Rattle.std.specs.List.{AllByRecursion}
use Rattle.std.specs.Str.{bytes_eq}
use Rattle.std.proofs.lemmas.Bool.{and_parts, and_from}
use Rattle.std.proofs.lemmas.Bool.Decides.{nat_tests}
use Rattle.std.proofs.lemmas.List.{reverse-reverse, length-reverse}
use Rattle.std.proofs.lemmas.Option.{none-some, cond_some, same_Some}
use Rattle.std.proofs.lemmas.Slice.Eq.{bytes_eq-Decides}
use Rattle.script_value.specs.Val.{Val}
use Rattle.web_cells.specs.Shadows.{bound_to, all_bound, Rise}
use Rattle.web_cells.specs.Own.{BindsAllOf}
use Rattle.script_nodes.specs.Arena.{Arena}
use Rattle.value_bytes.specs.Spelling.{HasBytes}
use Rattle.value_bytes.specs.Laws.{AreBytes}
use Rattle.machine_states.specs.Machine.{Frame, Suspended}
use Rattle.frame_codec.specs.Spelling.{FrameHasBytes, ShadowHasBytes, StateHasBytes}
use Rattle.frame_codec.specs.Walk.{frames_fit, shadows_fit}
use Rattle.frame_codec.specs.Stored.{IsStored}
use Rattle.frame_codec.specs.Deltas.{Delta, IsDelta, joined, delta_bytes, DeltaHasBytes, read_delta, SpellsDelta, HasNoDelta}
use Rattle.frame_codec.specs.Difference.{difference, is_short_list, fits_short, is_difference, if_difference, read_difference}
use Rattle.frame_codec.proofs.Differences.{joins, are_one, bound_still, delta_back, delta_spelled, each_has_bytes, fitting_so}
use Rattle.frame_codec.proofs.Walks.{fits_walk}
use Rattle.frame_codec.proofs.Cells.{fit_cells}
use Rattle.frame_codec.proofs.Computed.{differs}

-- ---- a state that is joined has a spelling, where it can be counted

all_take : {A : Type 0} (P : A → Type 0) (n : ℕ) (xs : List A) → AllByRecursion P xs → AllByRecursion P (take n xs)
all_take P zero xs h = tt
all_take P (suc n) [] h = tt
all_take P (suc n) (x ∷ xs) h = (h.0, all_take P n xs h.1)

pub all_append : {A : Type 0} (P : A → Type 0) (xs ys : List A) → AllByRecursion P xs → AllByRecursion P ys → AllByRecursion P (xs ++ ys)
all_append P [] ys h k = k
all_append P (x ∷ xs) ys h k = (h.0, all_append P xs ys h.1 k)

all_cond : {A : Type 0} (P : A → Type 0) (b : Bool) (xs ys : List A) → AllByRecursion P xs → AllByRecursion P ys → AllByRecursion P (cond b xs ys)
all_cond P true xs ys h k = h
all_cond P false xs ys h k = k

pub all_bound_to : (P : ℕ × Val → Type 0) (c : ℕ) (v : Val) (ss : List (ℕ × Val)) → P (c, v) → AllByRecursion P ss → AllByRecursion P (bound_to c v ss)
all_bound_to P c v [] p h = (p, tt)
all_bound_to P c v (s ∷ ss) p h =
    all_cond P (nat_lt c s.0) _ _ (p, h) (all_cond P (c == s.0) _ _ (p, h.1) (h.0, all_bound_to P c v ss p h.1))

pub all_all_bound : (P : ℕ × Val → Type 0) (made ss : List (ℕ × Val)) → AllByRecursion P made → AllByRecursion P ss → AllByRecursion P (all_bound made ss)
all_all_bound P [] ss h k = k
all_all_bound P (s ∷ made) ss h k = all_all_bound P made (bound_to s.0 s.1 ss) h.1 (all_bound_to P s.0 s.1 ss h.0 k)

short_means : {A : Type 0} (xs : List A) → is_short_list xs ≡ true → length xs < 2 ^ 32
short_means xs e = grind (arith, nat_tests, e)

means_short : {A : Type 0} (xs : List A) → length xs < 2 ^ 32 → is_short_list xs ≡ true
means_short xs h = grind (arith, nat_tests, h)

-- what the test says
record Short (a : Arena) (d : Suspended) : Type 0 where
  frames_fit : frames_fit a d.env (reverse d.frames) ≡ true
  shadows_fit : shadows_fit 0 (length a.web) d.shadows ≡ true
  env : length d.env < 2 ^ 32
  frames : length d.frames < 2 ^ 32
  shadows : length d.shadows < 2 ^ 32

is_short : (a : Arena) (d : Suspended) → fits_short a d ≡ true → Short a d
is_short a d e =
    let one = and_parts (frames_fit a d.env (reverse d.frames)) _ e in
    let two = and_parts (shadows_fit 0 (length a.web) d.shadows) _ one.1 in
    let three = and_parts (is_short_list d.env) _ two.1 in
    let four = and_parts (is_short_list d.frames) (is_short_list d.shadows) three.1 in
    record {
      frames_fit = one.0;
      shadows_fit = two.0;
      env = short_means d.env three.0;
      frames = short_means d.frames four.0;
      shadows = short_means d.shadows four.1;
    }

joined_has : (p : Suspended) (x : Delta) → StateHasBytes p → DeltaHasBytes x → length (joined p x).env < 2 ^ 32 → length (joined p x).frames < 2 ^ 32
    → length (joined p x).shadows < 2 ^ 32 → StateHasBytes (joined p x)
joined_has p x hp hx env frames shadows =
    let fs = take x.frames_shared (reverse p.frames) ++ x.frames in
    let again = sym (reverse-reverse fs) in
    let all = all_append FrameHasBytes (take x.frames_shared (reverse p.frames)) x.frames (all_take FrameHasBytes x.frames_shared (reverse p.frames) hp.frames.1) hx.frames.1 in
    let few = length-reverse (reverse fs) in
    record {
      env = (env, all_append HasBytes (take x.env_shared p.env) x.env (all_take HasBytes x.env_shared p.env hp.env.1) hx.env.1);
      frames = (omega (arith, few, frames), subst (λ (gs : List Frame). AllByRecursion FrameHasBytes gs) again all);
      shadows = (shadows, all_all_bound ShadowHasBytes x.shadows p.shadows hx.shadows.1 hp.shadows.1);
    }

short_is_stored : (a : Arena) (p : Suspended) (x : Delta) → IsStored a p → DeltaHasBytes x → fits_short a (joined p x) ≡ true → IsStored a (joined p x)
short_is_stored a p x sp hx e =
    let d = joined p x in
    let s = is_short a d e in
    let has = joined_has p x sp.bytes hx s.env s.frames s.shadows in
    (fitting_so a d d.env (reverse d.frames) d.shadows (length a.web) true (shadows_fit 0 (length a.web) d.shadows) refl refl refl refl has (sym s.frames_fit) refl refl).0
    s.shadows_fit

stored_is_short : (a : Arena) (d : Suspended) → IsStored a d → fits_short a d ≡ true
stored_is_short a d s =
    let few = length-reverse d.frames in
    let frames = s.bytes.frames.0 in
    and_from _ _ (fits_walk a d s.bytes.frames.1 s.fits)
    (and_from _ _ (fit_cells a d.shadows s.shadows)
    (and_from _ _ (means_short d.env s.bytes.env.0)
    (and_from _ _ (means_short d.frames (omega (arith, few, frames))) (means_short d.shadows s.bytes.shadows.0))))

-- ---- what is read

pub spelled_is_read : (a : Arena) (p : Suspended) (bytes : List ℕ) (x : Delta) → SpellsDelta a p bytes x → read_difference a p bytes ≡ Some x
spelled_is_read a p bytes x is =
    let d = joined p x in
    let read : read_delta a bytes ≡ Some x = ap (λ (b : List ℕ). read_delta a b) is.whole ∙ delta_back a p d x is.stored is.is is.has in
    let same : difference p d ≡ x = are_one p d (difference p d) x (differs p d) is.is in
    let these : bytes_eq (delta_bytes (difference p d)) bytes ≡ true =
    (bytes_eq-Decides (delta_bytes (difference p d)) bytes).1 (ap (λ (y : Delta). delta_bytes y) same ∙ sym is.whole) in
    let test : is_difference a p bytes x ≡ true = and_from _ _ (stored_is_short a d is.stored) these in
    ap (λ (o : Option Delta). if_difference a p bytes o) read ∙ ap (λ (b : Bool). cond b (Some x) None) test

-- the difference of the bytes that were read
record Reread (a : Arena) (p : Suspended) (bytes : List ℕ) (x : Delta) : Type 0 where
  read : read_delta a bytes ≡ Some x
  short : fits_short a (joined p x) ≡ true
  these : delta_bytes (difference p (joined p x)) ≡ bytes

reread : (a : Arena) (p : Suspended) (bytes : List ℕ) (x : Delta) (o : Option Delta) → read_delta a bytes ≡ o → if_difference a p bytes o ≡ Some x → Reread a p bytes x
reread a p bytes x None r e = absurd (none-some x e)
reread a p bytes x (Some y) r e =
    let c = cond_some (is_difference a p bytes y) y x e in
    let both = and_parts (fits_short a (joined p y)) _ c.0 in
    let these = (bytes_eq-Decides (delta_bytes (difference p (joined p y))) bytes).0 both.1 in
    record {
      read = r ∙ ap (λ (z : Delta). Some z) c.1;
      short = subst (λ (z : Delta). fits_short a (joined p z) ≡ true) c.1 both.0;
      these = subst (λ (z : Delta). delta_bytes (difference p (joined p z)) ≡ bytes) c.1 these;
    }

pub read_is_spelled : (a : Arena) (p : Suspended) (bytes : List ℕ) (x : Delta) → IsStored a p → AreBytes bytes → read_difference a p bytes ≡ Some x → SpellsDelta a p bytes x
read_is_spelled a p bytes x sp small e =
    let r = reread a p bytes x (read_delta a bytes) refl e in
    let d = joined p x in
    let spells = delta_spelled a bytes x small r.read in
    let stored = short_is_stored a p x sp spells.has r.short in
    let its = differs p d in
    let again = delta_back a p d (difference p d) stored its (each_has_bytes p d (difference p d) stored.bytes its) in
    let same : difference p d ≡ x =
    same_Some (difference p d) x (sym again ∙ ap (λ (b : List ℕ). read_delta a b) r.these ∙ r.read) in
    record { whole = spells.whole; has = spells.has; is = subst (λ (y : Delta). IsDelta p d y) same its; stored = stored }

-- what is written of a state that binds what its parent binds spells its difference
pub spells_difference : (a : Arena) (p d : Suspended) → Rise p.shadows → IsStored a d → BindsAllOf p.shadows d.shadows → SpellsDelta a p (delta_bytes (difference p d)) (difference p d)
spells_difference a p d rises sd all =
    let its = differs p d in
    let whole : joined p (difference p d) ≡ d = joins p d (difference p d) rises sd.shadows.rise all its in
    record {
      whole = refl;
      has = each_has_bytes p d (difference p d) sd.bytes its;
      is = subst (λ (e : Suspended). IsDelta p e (difference p d)) (sym whole) its;
      stored = subst (λ (e : Suspended). IsStored a e) (sym whole) sd;
    }

pub written_is_read : (a : Arena) (p d : Suspended) → Rise p.shadows → IsStored a d → BindsAllOf p.shadows d.shadows
    → read_difference a p (delta_bytes (difference p d)) ≡ Some (difference p d)
written_is_read a p d rises sd all = spelled_is_read a p (delta_bytes (difference p d)) (difference p d) (spells_difference a p d rises sd all)

-- where nothing is spelled, nothing is read
pub unspelled_is_none : (a : Arena) (p : Suspended) (bytes : List ℕ) → IsStored a p → AreBytes bytes → HasNoDelta a p bytes → read_difference a p bytes ≡ None
unspelled_is_none a p bytes sp small none = by_read (read_difference a p bytes) refl
  where
    by_read : (o : Option Delta) → read_difference a p bytes ≡ o → o ≡ None
    by_read None e = refl
    by_read (Some x) e =
        let s = read_is_spelled a p bytes x sp small e in
        absurd (none (joined p x) x s.stored (bound_still p.shadows x.shadows) s.is s.has s.whole)

-- what is found, where it is spelled so or nothing is, is what is read
pub found_is_read : {A : Type 0} (view : A → Delta) (a : Arena) (p : Suspended) (bytes : List ℕ) (found : Option A) → IsStored a p → AreBytes bytes
    → IfSome found (λ x. SpellsDelta a p bytes (view x)) → (IsNone found → HasNoDelta a p bytes) → option_map view found ≡ read_difference a p bytes
found_is_read view a p bytes None sp small spelled none = sym (unspelled_is_none a p bytes sp small (none refl))
found_is_read view a p bytes (Some x) sp small spelled none = sym (spelled_is_read a p bytes (view x) spelled)
