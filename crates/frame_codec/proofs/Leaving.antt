-- A state that leaves out web cells of its parent's differs as one that does not.
use Rattle.std.proofs.Common.{◌≡◌, ◌∙◌, ℕ, ◌+◌, ◌<◌, ◌≤◌, ◌==◌, ◌^◌, Bool, true, false, List, [], ◌∷◌, length, reverse, Option, Some, None, refl, sym, ap, subst, arith, cond}
use Rattle.std.specs.List.{AllByRecursion}
use Rattle.std.proofs.lemmas.Bool.Decides.{nat_tests}
use Rattle.std.proofs.lemmas.List.{reverse-reverse}
use Rattle.std.proofs.lemmas.Option.{none-some}
use Rattle.script_value.specs.Val.{Val}
use Rattle.web_cells.specs.Shadows.{binding, all_bound, last_shadow, AreAbove, Rise}
use Rattle.web_cells.specs.Own.{IsOwn}
use Rattle.web_cells.proofs.Shadowed.{last_binds, rise}
use Rattle.web_cells.proofs.Owned.{same_bindings, above_none, all_rise, or_that}
use Rattle.script_nodes.specs.Arena.{Arena}
use Rattle.machine_states.specs.Machine.{Frame, Suspended}
use Rattle.frame_codec.specs.Spelling.{ShadowHasBytes}
use Rattle.frame_codec.specs.Stored.{IsStored}
use Rattle.frame_codec.specs.Deltas.{Delta, Shares, IsDelta, joined, delta_bytes}
use Rattle.frame_codec.specs.Difference.{is_value, own_of, difference, read_difference, DifferencesAreExact}
use Rattle.frame_codec.proofs.Fronts as shared
use Rattle.frame_codec.proofs.Differences.{are_one, bound_still, delta_prefix, each_has_bytes}
use Rattle.frame_codec.proofs.Same.{bound_decides}
use Rattle.frame_codec.proofs.Computed.{owns, differs}
use Rattle.frame_codec.proofs.Reread.{all_all_bound, read_is_spelled, written_is_read}

abbrev Bindings : Type 0
Bindings = List (ℕ × Val)

-- ---- rising cells

own_above : (p : Bindings) (c : ℕ) (ss : Bindings) → AreAbove c ss → AreAbove c (own_of p ss)
own_above p c [] h = tt
own_above p c (s ∷ ss) h = by_test (is_value (binding s.0 p) s.1) (own_above p c ss h.1)
  where
    by_test : (b : Bool) → AreAbove c (own_of p ss) → AreAbove c (cond b (own_of p ss) (s ∷ own_of p ss))
    by_test true later = later
    by_test false later = (h.0, later)

own_rise : (p ss : Bindings) → Rise ss → Rise (own_of p ss)
own_rise p [] h = tt
own_rise p (s ∷ ss) h = by_test (is_value (binding s.0 p) s.1) (own_rise p ss h.1)
  where
    by_test : (b : Bool) → Rise (own_of p ss) → Rise (cond b (own_of p ss) (s ∷ own_of p ss))
    by_test true later = later
    by_test false later = (own_above p s.0 ss h.0, later)

-- of cells below a number there are no more than it says
few : (n : ℕ) (s : ℕ × Val) (ss : Bindings) → Rise (s ∷ ss) → AllByRecursion (λ t. t.0 < n) (s ∷ ss) → length (s ∷ ss) + s.0 ≤ n
few n s [] r h = omega (arith, h.0)
few n s (t ∷ ss) r h = let more = few n t ss r.1 h.1 in omega (arith, more, r.0.0)

few_bytes : (ss : Bindings) → Rise ss → AllByRecursion ShadowHasBytes ss → length ss < 2 ^ 32
few_bytes [] r h = omega arith
few_bytes (s ∷ ss) r h = let most = few 256 s ss r (all_small (s ∷ ss) h) in omega (arith, most)
  where
    all_small : (ss : Bindings) → AllByRecursion ShadowHasBytes ss → AllByRecursion (λ t. t.0 < 256) ss
    all_small [] h = tt
    all_small (t ∷ ss) h = (h.0.0, all_small ss h.1)

-- ---- bindings that a page has of its own

-- what the parent binds a cell to, and the page: where they are the same, it is none of its own
abbrev own_value : Option Val → Option Val → Option Val
own_value before None = None
own_value before (Some v) = cond (is_value before v) None (Some v)

own_binding : (p ss : Bindings) (c : ℕ) → Rise ss → binding c (own_of p ss) ≡ own_value (binding c p) (binding c ss)
own_binding p [] c h = refl
own_binding p (s ∷ ss) c h = by_cell (s.0 == c) refl (own_binding p ss c h.1)
  where
    at_cell : s.0 ≡ c → (b : Bool) → is_value (binding s.0 p) s.1 ≡ b → binding c (own_of p ss) ≡ own_value (binding c p) (binding c ss)
        → binding c (cond b (own_of p ss) (s ∷ own_of p ss)) ≡ own_value (binding c p) (Some s.1)
    at_cell is true e later =
        let none : binding c ss ≡ None = above_none c ss (subst (λ (k : ℕ). AreAbove k ss) is h.0) in
        let its : is_value (binding c p) s.1 ≡ true = subst (λ (k : ℕ). is_value (binding k p) s.1 ≡ true) is e in
        later ∙ ap (λ (o : Option Val). own_value (binding c p) o) none ∙ sym (ap (λ (t : Bool). cond t None (Some s.1)) its)
    at_cell is false e later =
        let its : is_value (binding c p) s.1 ≡ false = subst (λ (k : ℕ). is_value (binding k p) s.1 ≡ false) is e in
        let same : (s.0 == c) ≡ true = grind (arith, nat_tests, is) in
        ap (λ (t : Bool). cond t (Some s.1) (binding c (own_of p ss))) same ∙ sym (ap (λ (t : Bool). cond t None (Some s.1)) its)

    elsewhere : (s.0 == c) ≡ false → (b : Bool) → binding c (own_of p ss) ≡ own_value (binding c p) (binding c ss)
        → binding c (cond b (own_of p ss) (s ∷ own_of p ss)) ≡ own_value (binding c p) (binding c ss)
    elsewhere other true later = later
    elsewhere other false later = ap (λ (t : Bool). cond t (Some s.1) (binding c (own_of p ss))) other ∙ later

    by_cell : (t : Bool) → (s.0 == c) ≡ t → binding c (own_of p ss) ≡ own_value (binding c p) (binding c ss)
        → binding c (own_of p (s ∷ ss)) ≡ own_value (binding c p) (cond t (Some s.1) (binding c ss))
    by_cell true e later = let is : s.0 ≡ c = grind (arith, nat_tests, e) in at_cell is (is_value (binding s.0 p) s.1) refl later
    by_cell false e later = elsewhere e (is_value (binding s.0 p) s.1) later

untouched : (c : ℕ) (made : Bindings) (found : Option Val) → AreAbove c made → last_shadow c made found ≡ found
untouched c [] found h = refl
untouched c (s ∷ made) found h =
    let no : (s.0 == c) ≡ false = grind (arith, nat_tests, h.0) in
    ap (λ (t : Bool). last_shadow c made (cond t (Some s.1) found)) no ∙ untouched c made found h.1

last_rising : (c : ℕ) (made : Bindings) (found : Option Val) → Rise made → last_shadow c made found ≡ or_that (binding c made) found
last_rising c [] found h = refl
last_rising c (s ∷ made) found h = by_cell (s.0 == c) refl (last_rising c made found h.1)
  where
    by_cell : (t : Bool) → (s.0 == c) ≡ t → last_shadow c made found ≡ or_that (binding c made) found
        → last_shadow c made (cond t (Some s.1) found) ≡ or_that (cond t (Some s.1) (binding c made)) found
    by_cell true e later =
        let is : s.0 ≡ c = grind (arith, nat_tests, e) in untouched c made (Some s.1) (subst (λ (k : ℕ). AreAbove k made) is h.0)
    by_cell false e later = later

itself : (before : Option Val) → own_value before before ≡ None
itself None = refl
itself (Some w) = ap (λ (t : Bool). cond t None (Some w)) ((bound_decides (Some w) w).1 refl)

once : (before o : Option Val) → own_value before (or_that (own_value before o) before) ≡ own_value before o
once before None = itself before
once before (Some v) = by_test (is_value before v) refl
  where
    by_test : (b : Bool) → is_value before v ≡ b → own_value before (or_that (cond b None (Some v)) before) ≡ cond b None (Some v)
    by_test true e = itself before
    by_test false e = ap (λ (t : Bool). cond t None (Some v)) e

-- with its own the parent's bindings have the same own
own_again : (p ss : Bindings) → Rise p → Rise ss → own_of p (all_bound (own_of p ss) p) ≡ own_of p ss
own_again p ss hp hs =
    let own = own_of p ss in
    let whole = all_bound own p in
    let rises = own_rise p ss hs in
    same_bindings (own_of p whole) own (own_rise p whole (all_rise own p hp)) rises
    (λ c. own_binding p whole c (all_rise own p hp)
    ∙ ap (λ (o : Option Val). own_value (binding c p) o)
    (last_binds c own p ∙ last_rising c own (binding c p) rises ∙ ap (λ (o : Option Val). or_that o (binding c p)) (own_binding p ss c hs))
    ∙ once (binding c p) (binding c ss) ∙ sym (own_binding p ss c hs))

-- ---- the state that its difference makes of the parent's

own_all : (P : ℕ × Val → Type 0) (p ss : Bindings) → AllByRecursion P ss → AllByRecursion P (own_of p ss)
own_all P p [] h = tt
own_all P p (s ∷ ss) h = by_test (is_value (binding s.0 p) s.1) (own_all P p ss h.1)
  where
    by_test : (b : Bool) → AllByRecursion P (own_of p ss) → AllByRecursion P (cond b (own_of p ss) (s ∷ own_of p ss))
    by_test true later = later
    by_test false later = (h.0, later)

module _ (a : Arena) (p d : Suspended) (sp : IsStored a p) (sd : IsStored a d) where
  abbrev its : Delta
  its = difference p d

  abbrev full : Suspended
  full = joined p its

  env : full.env ≡ d.env
  env = sym (shared.whole p.env d.env its.env_shared its.env (differs p d).env)

  frames : full.frames ≡ d.frames
  frames =
      ap (λ (fs : List Frame). reverse fs) (sym (shared.whole (reverse p.frames) (reverse d.frames) its.frames_shared its.frames (differs p d).frames))
      ∙ reverse-reverse d.frames

  full_differs : IsDelta p full its
  full_differs = record {
    env = subst (λ (vs : List Val). Shares p.env vs its.env_shared its.env) (sym env) (differs p d).env;
    frames = subst (λ (fs : List Frame). Shares (reverse p.frames) (reverse fs) its.frames_shared its.frames) (sym frames) (differs p d).frames;
    shadows = subst (λ (l : Bindings). IsOwn p.shadows full.shadows l) (own_again p.shadows d.shadows sp.shadows.rise sd.shadows.rise) (owns p.shadows full.shadows);
  }

  rises : Rise full.shadows
  rises = all_rise (own_of p.shadows d.shadows) p.shadows sp.shadows.rise

  all : (P : ℕ × Val → Type 0) → AllByRecursion P p.shadows → AllByRecursion P d.shadows → AllByRecursion P full.shadows
  all P hp hd = all_all_bound P (own_of p.shadows d.shadows) p.shadows (own_all P p.shadows d.shadows hd) hp

  full_stored : IsStored a full
  full_stored =
      let bytes = all ShadowHasBytes sp.bytes.shadows.1 sd.bytes.shadows.1 in
      let same : record { env = d.env; frames = d.frames; shadows = full.shadows } ≡ full =
      λ i. record { env = sym env i; frames = sym frames i; shadows = full.shadows } in
      subst (λ (e : Suspended). IsStored a e) same (record {
        fits = record { node = sd.fits.node; sends = sd.fits.sends; works = sd.fits.works };
        shadows = record { rise = rises; named = all (λ s. s.0 < length a.web) sp.shadows.named sd.shadows.named };
        bytes = record { env = sd.bytes.env; frames = sd.bytes.frames; shadows = (few_bytes full.shadows rises bytes, bytes) };
      })

  full_read : read_difference a p (delta_bytes its) ≡ Some its
  full_read =
      let same : difference p full ≡ its = are_one p full (difference p full) its (differs p full) full_differs in
      subst (λ (x : Delta). read_difference a p (delta_bytes x) ≡ Some x) same
      (written_is_read a p full sp.shadows.rise full_stored (bound_still p.shadows its.shadows))

pub are_exact : DifferencesAreExact
are_exact a p sp = record {
  back = λ d sd all. written_is_read a p d sp.shadows.rise sd all;
  exact = λ bytes x small e. read_is_spelled a p bytes x sp small e;
  none = λ bytes e d sd whole.
      none-some (difference p d) (sym e ∙ ap (λ (b : List ℕ). read_difference a p b) whole ∙ full_read a p d sp sd);
  prefix = λ d e rest sd se same.
      let x = differs p d in
      let y = differs p e in
      delta_prefix a p d e (difference p d) (difference p e) rest sd se x y (each_has_bytes p d (difference p d) sd.bytes x)
      (each_has_bytes p e (difference p e) se.bytes y) same;
}
