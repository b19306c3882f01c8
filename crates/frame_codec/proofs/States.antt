-- States are spelled exactly.
use Rattle.std.proofs.Common.{◌≡◌, ℕ, ◌&&◌, Bool, true, List, [], ◌∷◌, length, reverse, Option, Some, None, refl, sym, ap, subst, ◌∙◌}
use mathlib.Core.List.{reverse_aux}
use Rattle.std.specs.List.{AllByRecursion}
use Rattle.std.proofs.lemmas.List.{append-nil, reverse-reverse}
use Rattle.std.proofs.lemmas.Option.{none-some, cond_some}
use Rattle.std.proofs.lemmas.Bool.{and_parts, cond-true}
use Rattle.script_value.specs.Val.{Val}
use Rattle.script_nodes.specs.Arena.{Arena}
use Rattle.value_bytes.specs.Spelling.{values_bytes, list_bytes, HaveBytes, FitsList}
use Rattle.value_bytes.specs.Reading.{read_list, read_values}
use Rattle.value_bytes.specs.Laws.{AreBytes, IsExact, HasNoPrefix}
use Rattle.value_bytes.proofs.Lists.{list_exact, no_prefix}
use Rattle.machine_states.specs.Machine.{Frame, node_at, Suspended}
use Rattle.machine_states.specs.Fits.{node_of}
use Rattle.frame_codec.specs.Spelling.{frame_bytes, shadow_bytes, state_bytes, FrameHasBytes, ShadowHasBytes}
use Rattle.frame_codec.specs.Stored.{IsStored}
use Rattle.frame_codec.specs.Walk.{frames_fit, shadows_fit}
use Rattle.frame_codec.specs.Reading.{read_both, read_frame, read_shadow, read_parts, fitting, read_state}
use Rattle.frame_codec.specs.Laws.{SpellsState, HasNone, AreStatesExact}
use Rattle.frame_codec.proofs.Frames.{both_bytes, BothFit, both_exact, values_exact, frame_exact, shadow_exact, LetFits, IsRead}
use Rattle.frame_codec.proofs.Walks.{walk_fits, fits_walk, lets_fit}
use Rattle.frame_codec.proofs.Cells.{cells_fit, fit_cells}

-- ---- lists

all_outside : {A : Type 0} (P : A → Type 0) (xs ys : List A) → AllByRecursion P (reverse_aux xs ys) → AllByRecursion P xs × AllByRecursion P ys
all_outside P [] ys h = (tt, h)
all_outside P (x ∷ xs) ys h =
    let more = all_outside P xs (x ∷ ys) h in
    ((more.1.0, more.0), more.1.1)

pub all_reversed : {A : Type 0} (P : A → Type 0) (xs : List A) → AllByRecursion P xs → AllByRecursion P (reverse xs)
all_reversed P xs h = (all_outside P (reverse xs) [] (subst (λ (ys : List _). AllByRecursion P ys) (sym (reverse-reverse xs)) h)).0

pub all_both : {A : Type 0} (P Q : A → Type 0) (xs : List A) → AllByRecursion P xs → AllByRecursion Q xs → AllByRecursion (λ x. P x × Q x) xs
all_both P Q [] p q = tt
all_both P Q (x ∷ xs) p q = ((p.0, q.0), all_both P Q xs p.1 q.1)

pub all_first : {A : Type 0} (P Q : A → Type 0) (xs : List A) → AllByRecursion (λ x. P x × Q x) xs → AllByRecursion P xs
all_first P Q [] h = tt
all_first P Q (x ∷ xs) h = (h.0.0, all_first P Q xs h.1)

-- ---- the parts of a state

abbrev pub Parts : Type 0
Parts = List Val × (List Frame × List (ℕ × Val))

-- frames and shadows, each one after the other after their count
abbrev pub lists_bytes : List Frame × List (ℕ × Val) → List ℕ
lists_bytes = both_bytes (list_bytes frame_bytes) (list_bytes shadow_bytes)

abbrev parts_bytes : Parts → List ℕ
parts_bytes = both_bytes values_bytes lists_bytes

-- frames and shadows can be written
abbrev pub ListsFit : Arena → List Frame × List (ℕ × Val) → Type 0
ListsFit a = BothFit (FitsList (IsRead a)) (FitsList ShadowHasBytes)

abbrev PartsFit : Arena → Parts → Type 0
PartsFit a = BothFit HaveBytes (ListsFit a)

parts_exact : (a : Arena) → IsExact parts_bytes (PartsFit a) (read_parts a)
parts_exact a =
    let lists = both_exact (list_bytes frame_bytes) (FitsList (IsRead a)) (read_list (read_frame a)) (list_bytes shadow_bytes) (FitsList ShadowHasBytes) (read_list read_shadow)
    (list_exact frame_bytes (IsRead a) (read_frame a) (frame_exact a)) (list_exact shadow_bytes ShadowHasBytes read_shadow shadow_exact) in
    both_exact values_bytes HaveBytes read_values lists_bytes (ListsFit a) (read_both (read_list (read_frame a)) (read_list read_shadow)) values_exact lists

abbrev pub parts_of : Suspended → Parts
parts_of d = (d.env, (reverse d.frames, d.shadows))

abbrev pub state_of : Parts → Suspended
state_of x = record { env = x.0; frames = reverse x.1.0; shadows = x.1.1 }

pub state_again : (d : Suspended) → state_of (parts_of d) ≡ d
state_again d = ap (λ (fs : List Frame). record { env = d.env; frames = fs; shadows = d.shadows }) (reverse-reverse d.frames)

pub stored_parts : (a : Arena) (d : Suspended) → IsStored a d → PartsFit a (parts_of d)
stored_parts a d s =
    let lets = all_reversed (λ f. LetFits f (node_at a (node_of f))) d.frames (lets_fit a d.frames s.fits.node d.env s.fits.works) in
    let frames = all_both FrameHasBytes (λ f. LetFits f (node_at a (node_of f))) (reverse d.frames) s.bytes.frames.1 lets in
    (s.bytes.env, ((s.bytes.frames.0, frames), s.bytes.shadows))

-- ---- back

abbrev is_fitting : Arena → Parts → Bool
is_fitting a x = frames_fit a x.0 x.1.0 && shadows_fit 0 (length a.web) x.1.1

state_back : (a : Arena) (d : Suspended) → IsStored a d → read_state a (state_bytes d) ≡ Some d
state_back a d s =
    let frames = fits_walk a d s.bytes.frames.1 s.fits in
    let shadows = fit_cells a d.shadows s.shadows in
    let test : is_fitting a (parts_of d) ≡ true = λ i. frames i && shadows i in
    ap (λ (b : List ℕ). read_state a b) (sym (append-nil (state_bytes d)))
    ∙ ap (λ o. fitting a o) ((parts_exact a).back (parts_of d) [] (stored_parts a d s))
    ∙ cond-true (is_fitting a (parts_of d)) (Some (state_of (parts_of d))) None test
    ∙ ap (λ (e : Suspended). Some e) (state_again d)

-- ---- what is read

-- the parts of a state that was read
record Fitted (a : Arena) (o : Option (Parts × List ℕ)) (d : Suspended) : Type 0 where
  parts : Parts
  read : o ≡ Some (parts, [])
  test : is_fitting a parts ≡ true
  same : state_of parts ≡ d

fitted : (a : Arena) (o : Option (Parts × List ℕ)) (d : Suspended) → fitting a o ≡ Some d → Fitted a o d
fitted a None d e = absurd (none-some d e)
fitted a (Some (x, [])) d e =
    let g = cond_some (is_fitting a x) (state_of x) d e in
    record { parts = x; read = refl; test = g.0; same = g.1 }
fitted a (Some (x, b ∷ rest)) d e = absurd (none-some d e)

state_spells : (a : Arena) (bytes : List ℕ) (d : Suspended) → AreBytes bytes → read_state a bytes ≡ Some d → SpellsState a bytes d
state_spells a bytes d small e =
    let f = fitted a (read_parts a bytes) d e in
    let x = f.parts in
    let s = (parts_exact a).exact bytes x [] small f.read in
    let b = and_parts (frames_fit a x.0 x.1.0) (shadows_fit 0 (length a.web) x.1.1) f.test in
    let again = sym (reverse-reverse x.1.0) in
    let frames = all_first FrameHasBytes (λ f. LetFits f (node_at a (node_of f))) x.1.0 s.fit.1.0.1 in
    subst (λ k. SpellsState a bytes k) f.same (record {
      whole = s.whole ∙ append-nil (parts_bytes x) ∙ ap (λ (fs : List Frame). parts_bytes (x.0, (fs, x.1.1))) again;
      stored = record {
        fits = walk_fits a x.0 x.1.0 x.1.1 frames b.0;
        shadows = cells_fit a x.1.1 b.1;
        bytes = record {
          env = s.fit.0;
          frames = subst (λ (fs : List Frame). FitsList FrameHasBytes fs) again (s.fit.1.0.0, frames);
          shadows = s.fit.1.1;
        };
      };
    })

state_prefix : (a : Arena) → HasNoPrefix state_bytes (IsStored a)
state_prefix a d e rest sd se same =
    let p = no_prefix parts_bytes (PartsFit a) (read_parts a) (parts_exact a) (parts_of d) (parts_of e) rest (stored_parts a d sd) (stored_parts a e se) same in
    (sym (state_again d) ∙ ap state_of p.0 ∙ state_again e, p.1)

pub states_are_exact : AreStatesExact
states_are_exact = record { back = state_back; exact = state_spells; prefix = state_prefix }

-- ---- what a decoder gives

-- what is read is spelled by the bytes
pub found_is_spelled : (a : Arena) (bytes : List ℕ) (d : Suspended) → read_state a bytes ≡ Some d → AreBytes bytes → SpellsState a bytes d
found_is_spelled a bytes d e small = state_spells a bytes d small e

-- where nothing is read, no state has the bytes
pub none_has_these : (a : Arena) (bytes : List ℕ) → read_state a bytes ≡ None → HasNone a bytes
none_has_these a bytes e d s whole =
    absurd (none-some d (sym e ∙ ap (λ (b : List ℕ). read_state a b) whole ∙ state_back a d s))
