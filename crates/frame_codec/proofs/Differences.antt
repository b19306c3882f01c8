-- Differences of states are exact.
use Rattle.std.proofs.Common.{arith, inl, inr, ◌≤◌, ◌≡◌, ℕ, ◌==◌, if◌then◌else◌, Bool, true, false, List, [], ◌∷◌, ◌++◌, length, take, reverse, Option, Some, None, refl, sym, ap, subst, ◌∙◌}
use Rattle.std.specs.Prelude.{IsTrue, map}
use Rattle.std.specs.List.{AllByRecursion}
use Rattle.std.proofs.lemmas.List.{append-nil, reverse-reverse, map-append, take-map}
use Rattle.std.proofs.lemmas.Bool.{false≢true}
use Rattle.std.proofs.lemmas.Option.{none-some, same_Some}
use Rattle.script_value.specs.Val.{Val}
use Rattle.web_cells.specs.Shadows.{binding, all_bound, last_shadow, Rise}
use Rattle.web_cells.specs.Own.{IsOwn, BindsAllOf}
use Rattle.web_cells.proofs.Shadowed.{last_binds}
use Rattle.web_cells.proofs.Owned as own
use Rattle.script_nodes.specs.Arena.{Arena}
use Rattle.wire_bytes.specs.Spelling.{u32_bytes}
use Rattle.wire_bytes.specs.Reading.{read_u32}
use Rattle.value_bytes.specs.Spelling.{values_bytes, list_bytes, HaveBytes, FitsList, HasBytes}
use Rattle.value_bytes.specs.Reading.{read_list, read_values}
use Rattle.value_bytes.specs.Laws.{AreBytes, IsExact}
use Rattle.value_bytes.proofs.Numbers.{u32_exact}
use Rattle.value_bytes.proofs.Lists.{list_exact, no_prefix}
use Rattle.machine_states.specs.Machine.{Frame, node_at, Suspended}
use Rattle.machine_states.specs.Fits.{node_of, Fits}
use Rattle.machine_states.specs.declared.frame.Frame.{Frame as Stored}
use Rattle.machine_states.specs.Views.{frame_of, stack}
use Rattle.frame_codec.specs.Spelling.{frame_bytes, shadow_bytes, IsShort, FrameHasBytes, ShadowHasBytes, StateHasBytes}
use Rattle.frame_codec.specs.Walk.{frames_fit, shadows_fit}
use Rattle.frame_codec.specs.Stored.{IsStored}
use Rattle.frame_codec.specs.Reading.{read_both, read_frame, read_shadow}
use Rattle.frame_codec.specs.Deltas.{Delta, Shares, IsDelta, GoesOnFrom, joined, delta_bytes, DeltaHasBytes, DeltaParts, read_delta_parts, as_delta, read_delta, SpellsDelta, HasNoDelta, DeltasAreOne, EachDeltaHasBytes}
use Rattle.frame_codec.proofs.Frames.{both_bytes, BothFit, both_exact, values_exact, frame_exact, shadow_exact, LetFits, IsRead}
use Rattle.frame_codec.proofs.Walks.{lets_fit, walk_fits, fits_walk}
use Rattle.frame_codec.proofs.Cells.{cells_fit, fit_cells}
use Rattle.frame_codec.proofs.Order.{kept_order}
use Rattle.frame_codec.proofs.States.{all_reversed, all_both, all_first, state_again, lists_bytes, ListsFit}
use Rattle.frame_codec.proofs.Fronts as shared

-- ---- laws

-- the parent's state with the difference is the state
pub joins : (p s : Suspended) (d : Delta) → Rise p.shadows → Rise s.shadows → BindsAllOf p.shadows s.shadows → IsDelta p s d → joined p d ≡ s
joins p s d hp hs all is =
    let env = sym (shared.whole p.env s.env d.env_shared d.env is.env) in
    let frames = ap (λ (fs : List Frame). reverse fs) (sym (shared.whole (reverse p.frames) (reverse s.frames) d.frames_shared d.frames is.frames)) ∙ reverse-reverse s.frames in
    let shadows = own.give_back p.shadows s.shadows d.shadows hp hs all is.shadows in
    λ i. record { env = env i; frames = frames i; shadows = shadows i }

pub are_one : DeltasAreOne
are_one p s d e x y =
    let env = shared.one p.env s.env d.env_shared e.env_shared d.env e.env x.env y.env in
    let frames = shared.one (reverse p.frames) (reverse s.frames) d.frames_shared e.frames_shared d.frames e.frames x.frames y.frames in
    let shadows = own.are_one p.shadows s.shadows d.shadows e.shadows x.shadows y.shadows in
    λ i. record { env_shared = env.0 i; env = env.1 i; frames_shared = frames.0 i; frames = frames.1 i; shadows = shadows i }

last_some : (c : ℕ) (made : List (ℕ × Val)) (v : Val) → ¬ (last_shadow c made (Some v) ≡ None)
last_some c [] v e = cc
last_some c (s ∷ made) v e = by_cell (s.0 == c) e (λ w. last_some c made w)
  where
    by_cell : (t : Bool) → last_shadow c made (if t then Some s.1 else Some v) ≡ None → ((w : Val) → ¬ (last_shadow c made (Some w) ≡ None)) → ⊥
    by_cell true f later = later s.1 f
    by_cell false f later = later v f

-- what the parent binds is bound
pub bound_still : (p made : List (ℕ × Val)) → BindsAllOf p (all_bound made p)
bound_still p made c e = by_binding (binding c p) (sym (last_binds c made p) ∙ e)
  where
    by_binding : (o : Option Val) → last_shadow c made o ≡ None → o ≡ None
    by_binding None f = refl
    by_binding (Some v) f = absurd (last_some c made v f)

-- ---- what is written is read

abbrev parts_of : Delta → DeltaParts
parts_of d = (d.env_shared, (d.env, (d.frames_shared, (d.frames, d.shadows))))

abbrev framed_bytes : ℕ × (List Frame × List (ℕ × Val)) → List ℕ
framed_bytes = both_bytes u32_bytes lists_bytes

abbrev FramedFit : Arena → ℕ × (List Frame × List (ℕ × Val)) → Type 0
FramedFit a = BothFit IsShort (ListsFit a)

abbrev behind_bytes : List Val × (ℕ × (List Frame × List (ℕ × Val))) → List ℕ
behind_bytes = both_bytes values_bytes framed_bytes

abbrev BehindFit : Arena → List Val × (ℕ × (List Frame × List (ℕ × Val))) → Type 0
BehindFit a = BothFit HaveBytes (FramedFit a)

parts_exact : (a : Arena) → IsExact (both_bytes u32_bytes behind_bytes) (BothFit IsShort (BehindFit a)) (read_delta_parts a)
parts_exact a =
    let lists = both_exact (list_bytes frame_bytes) (FitsList (IsRead a)) (read_list (read_frame a)) (list_bytes shadow_bytes) (FitsList ShadowHasBytes) (read_list read_shadow)
    (list_exact frame_bytes (IsRead a) (read_frame a) (frame_exact a)) (list_exact shadow_bytes ShadowHasBytes read_shadow shadow_exact) in
    let framed = both_exact u32_bytes IsShort read_u32 lists_bytes (ListsFit a) (read_both (read_list (read_frame a)) (read_list read_shadow)) u32_exact lists in
    let behind = both_exact values_bytes HaveBytes read_values framed_bytes (FramedFit a)
    (read_both read_u32 (read_both (read_list (read_frame a)) (read_list read_shadow))) values_exact framed in
    both_exact u32_bytes IsShort read_u32 behind_bytes (BehindFit a)
    (read_both read_values (read_both read_u32 (read_both (read_list (read_frame a)) (read_list read_shadow)))) u32_exact behind

pub all_behind : {A : Type 0} (P : A → Type 0) (xs ys : List A) → AllByRecursion P (xs ++ ys) → AllByRecursion P ys
all_behind P [] ys h = h
all_behind P (x ∷ xs) ys h = all_behind P xs ys h.1

-- the frames of a difference are read as the state's are
pub frames_are_read : (a : Arena) (p s : Suspended) (d : Delta) → IsStored a s → IsDelta p s d → DeltaHasBytes d → FitsList (IsRead a) d.frames
frames_are_read a p s d stored is has =
    let P : Frame → Type 0 = λ f. LetFits f (node_at a (node_of f)) in
    let lets : AllByRecursion P (reverse s.frames) = all_reversed P s.frames (lets_fit a s.frames stored.fits.node s.env stored.fits.works) in
    let behind : AllByRecursion P d.frames =
    all_behind P (take d.frames_shared (reverse p.frames)) d.frames
    (subst (λ (fs : List Frame). AllByRecursion P fs) (shared.whole (reverse p.frames) (reverse s.frames) d.frames_shared d.frames is.frames) lets) in
    (has.frames.0, all_both FrameHasBytes P d.frames has.frames.1 behind)

pub delta_back : (a : Arena) (p s : Suspended) (d : Delta) → IsStored a s → IsDelta p s d → DeltaHasBytes d → read_delta a (delta_bytes d) ≡ Some d
delta_back a p s d stored is has =
    let frames = frames_are_read a p s d stored is has in
    ap (λ (b : List ℕ). read_delta a b) (sym (append-nil (delta_bytes d)))
    ∙ ap (λ o. as_delta o) ((parts_exact a).back (parts_of d) [] (has.env_shared, (has.env, (has.frames_shared, (frames, has.shadows)))))

-- the parts of a difference that was read
as_parts : (o : Option (DeltaParts × List ℕ)) (d : Delta) → as_delta o ≡ Some d → o ≡ Some (parts_of d, [])
as_parts None d e = absurd (none-some d e)
as_parts (Some (x, [])) d e =
    let same = same_Some (record { env_shared = x.0; env = x.1.0; frames_shared = x.1.1.0; frames = x.1.1.1.0; shadows = x.1.1.1.1 }) d e in
    ap (λ (y : Delta). Some (parts_of y, [])) same
as_parts (Some (x, b ∷ rest)) d e = absurd (none-some d e)

-- what is read is spelled so
pub record IsDeltaRead (a : Arena) (bytes : List ℕ) (d : Delta) : Type 0 where
  pub whole : bytes ≡ delta_bytes d
  pub has : DeltaHasBytes d

pub delta_spelled : (a : Arena) (bytes : List ℕ) (d : Delta) → AreBytes bytes → read_delta a bytes ≡ Some d → IsDeltaRead a bytes d
delta_spelled a bytes d small e =
    let s = (parts_exact a).exact bytes (parts_of d) [] small (as_parts (read_delta_parts a bytes) d e) in
    let frames = all_first FrameHasBytes (λ f. LetFits f (node_at a (node_of f))) d.frames s.fit.1.1.1.0.1 in
    record {
      whole = s.whole ∙ append-nil (delta_bytes d);
      has = record {
        env_shared = s.fit.0;
        env = s.fit.1.0;
        frames_shared = s.fit.1.1.0;
        frames = (s.fit.1.1.1.0.0, frames);
        shadows = s.fit.1.1.1.1;
      };
    }

-- what is after one parent's state is no front of what else is
delta_of_parts : DeltaParts → Delta
delta_of_parts x = record { env_shared = x.0; env = x.1.0; frames_shared = x.1.1.0; frames = x.1.1.1.0; shadows = x.1.1.1.1 }

pub delta_prefix : (a : Arena) (p s t : Suspended) (d e : Delta) (rest : List ℕ) → IsStored a s → IsStored a t → IsDelta p s d → IsDelta p t e
    → DeltaHasBytes d → DeltaHasBytes e → delta_bytes d ++ rest ≡ delta_bytes e → (d ≡ e) × (rest ≡ [])
unfolding delta_of_parts
delta_prefix a p s t d e rest ss st is ie hd he same =
    let first : BothFit IsShort (BehindFit a) (parts_of d) = (hd.env_shared, (hd.env, (hd.frames_shared, (frames_are_read a p s d ss is hd, hd.shadows)))) in
    let second : BothFit IsShort (BehindFit a) (parts_of e) = (he.env_shared, (he.env, (he.frames_shared, (frames_are_read a p t e st ie he, he.shadows)))) in
    let both = no_prefix (both_bytes u32_bytes behind_bytes) (BothFit IsShort (BehindFit a)) (read_delta_parts a) (parts_exact a) (parts_of d) (parts_of e) rest first second same in
    (ap delta_of_parts both.0, both.1)

-- ---- what differs has a spelling

fits_rest : {A : Type 0} (P : A → Type 0) (xs ys : List A) (n : ℕ) (rest : List A) → Shares xs ys n rest → FitsList P ys → IsShort n × FitsList P rest
fits_rest P xs ys n rest h fit =
    let len = shared.within xs ys n rest h in
    let few = fit.0 in
    let all = all_behind P (take n xs) rest (subst (λ (l : List _). AllByRecursion P l) (shared.whole xs ys n rest h) fit.1) in
    (omega (arith, len, few), (omega (arith, len, few), all))

own_fit : (p ss own : List (ℕ × Val)) → IsOwn p ss own → AllByRecursion ShadowHasBytes ss → AllByRecursion ShadowHasBytes own × (length own ≤ length ss)
own_fit p [] own i h = subst (λ (l : List (ℕ × Val)). AllByRecursion ShadowHasBytes l × (length l ≤ 0)) (sym i) (tt, omega arith)
own_fit p (s ∷ ss) own (inl i) h =
    let more = own_fit p ss own i.1 h.1 in
    let few = more.1 in (more.0, omega (arith, few))
own_fit p (s ∷ ss) own (inr i) h =
    let more = own_fit p ss i.1.0 i.1.1.1 h.1 in
    let few = more.1 in
    subst (λ (l : List (ℕ × Val)). AllByRecursion ShadowHasBytes l × (length l ≤ length (s ∷ ss))) (sym i.1.1.0) ((h.0, more.0), omega (arith, few))

pub each_has_bytes : EachDeltaHasBytes
each_has_bytes p s d has is =
    let env = fits_rest HasBytes p.env s.env d.env_shared d.env is.env has.env in
    let frames = fits_rest FrameHasBytes (reverse p.frames) (reverse s.frames) d.frames_shared d.frames is.frames has.frames in
    let shadows = own_fit p.shadows s.shadows d.shadows is.shadows has.shadows.1 in
    let few = shadows.1 in
    let short = has.shadows.0 in
    record { env_shared = env.0; env = env.1; frames_shared = frames.0; frames = frames.1; shadows = (omega (arith, few, short), shadows.0) }

-- ---- a state of the program that fits

never_fits : (a : Arena) (d : Suspended) → frames_fit a d.env (reverse d.frames) ≡ false → IsStored a d → ⊥
never_fits a d test s = false≢true (sym test ∙ fits_walk a d s.bytes.frames.1 s.fits)

-- its frames do not fit
pub unfitting : (a : Arena) (d : Suspended) (env : List Val) (fs : List Frame) (test : Bool) → env ≡ d.env → fs ≡ reverse d.frames
    → test ≡ frames_fit a env fs → test ≡ false → IsStored a d → ⊥
unfitting a d env fs test e f is not s = never_fits a d (ap (λ (vs : List Val). frames_fit a vs (reverse d.frames)) (sym e) ∙ ap (λ (gs : List Frame). frames_fit a env gs) (sym f) ∙ sym is ∙ not) s

-- its frames fit
pub fitting_so : (a : Arena) (d : Suspended) (env : List Val) (fs : List Frame) (ss : List (ℕ × Val)) (cells : ℕ) (test last : Bool)
    → env ≡ d.env → fs ≡ reverse d.frames → ss ≡ d.shadows → cells ≡ length a.web → StateHasBytes d
    → test ≡ frames_fit a env fs → test ≡ true → last ≡ shadows_fit 0 cells ss → (IsTrue last → IsStored a d) × (IsStored a d → IsTrue last)
fitting_so a d env fs ss cells test last e f g n has is so shown =
    let walks : frames_fit a d.env (reverse d.frames) ≡ true =
    ap (λ (vs : List Val). frames_fit a vs (reverse d.frames)) (sym e) ∙ ap (λ (gs : List Frame). frames_fit a env gs) (sym f) ∙ sym is ∙ so in
    let cell : last ≡ shadows_fit 0 (length a.web) d.shadows =
    shown ∙ ap (λ (k : ℕ). shadows_fit 0 k ss) n ∙ ap (λ (l : List (ℕ × Val)). shadows_fit 0 (length a.web) l) g in (
      λ t. record {
        fits = subst (λ (x : Suspended). Fits a x) (state_again d) (walk_fits a d.env (reverse d.frames) d.shadows has.frames.1 walks);
        shadows = cells_fit a d.shadows (sym cell ∙ t);
        bytes = has;
      },
      λ s. cell ∙ fit_cells a d.shadows s.shadows,
    )

-- the frames of a joined state
pub frames_joined : (xs ys zs : List Stored) (k : ℕ) → zs ≡ take k xs ++ ys → stack zs ≡ reverse (take k (reverse (stack xs)) ++ map frame_of ys)
frames_joined xs ys zs k e =
    ap (λ (fs : List Frame). reverse fs)
    (ap (λ (l : List Stored). map frame_of l) e ∙ map-append frame_of (take k xs) ys
    ∙ ap (λ (fs : List Frame). fs ++ map frame_of ys) (sym (take-map frame_of k xs) ∙ ap (λ (fs : List Frame). take k fs) (sym (kept_order xs))))

-- ---- what is read

-- what these bytes say, and the state that has them as its difference
record Known (p s : Suspended) (said d : Delta) : Type 0 where
  same : said ≡ d
  whole : joined p said ≡ s

known : (a : Arena) (p : Suspended) (bytes : List ℕ) (said : Delta) → Rise p.shadows → read_delta a bytes ≡ Some said
    → (s : Suspended) (d : Delta) → IsStored a s → BindsAllOf p.shadows s.shadows → IsDelta p s d → DeltaHasBytes d → bytes ≡ delta_bytes d → Known p s said d
known a p bytes said hp read s d stored all is has whole =
    let same = same_Some said d (sym read ∙ ap (λ (b : List ℕ). read_delta a b) whole ∙ delta_back a p s d stored is has) in
    record { same = same; whole = ap (λ (x : Delta). joined p x) same ∙ joins p s d hp stored.shadows.rise all is }

-- where the bytes say nothing
pub nothing_said : (a : Arena) (p : Suspended) (bytes : List ℕ) → read_delta a bytes ≡ None → HasNoDelta a p bytes
nothing_said a p bytes read s d stored all is has whole =
    none-some d (sym read ∙ ap (λ (b : List ℕ). read_delta a b) whole ∙ delta_back a p s d stored is has)

-- where what they say makes no state that fits
pub not_stored : (a : Arena) (p j : Suspended) (bytes : List ℕ) (said : Delta) → Rise p.shadows → read_delta a bytes ≡ Some said → j ≡ joined p said
    → (IsStored a j → ⊥) → HasNoDelta a p bytes
not_stored a p j bytes said hp read join other s d stored all is has whole =
    let k = known a p bytes said hp read s d stored all is has whole in
    other (subst (λ (x : Suspended). IsStored a x) (sym k.whole ∙ sym join) stored)

-- where the state that they make differs otherwise
pub another_spelling : (a : Arena) (p j : Suspended) (bytes : List ℕ) (said e : Delta) → Rise p.shadows → read_delta a bytes ≡ Some said → j ≡ joined p said
    → IsDelta p j e → (DeltaHasBytes e × (bytes ≡ delta_bytes e) → ⊥) → HasNoDelta a p bytes
another_spelling a p j bytes said e hp read join differs other s d stored all is has whole =
    let k = known a p bytes said hp read s d stored all is has whole in
    let same : e ≡ d = are_one p s e d (subst (λ (x : Suspended). IsDelta p x e) (join ∙ k.whole) differs) is in
    other (subst (λ (x : Delta). DeltaHasBytes x × (bytes ≡ delta_bytes x)) (sym same) (has, whole))

-- where they spell it
pub spelled_so : (a : Arena) (p j : Suspended) (bytes : List ℕ) (said e : Delta) → Rise p.shadows → j ≡ joined p said → IsStored a j → IsDelta p j e
    → (GoesOnFrom p j → joined p e ≡ j) → DeltaHasBytes e × (bytes ≡ delta_bytes e) → SpellsDelta a p bytes e
spelled_so a p j bytes said e hp join stored differs back has =
    let all : BindsAllOf p.shadows j.shadows =
    subst (λ (x : Suspended). BindsAllOf p.shadows x.shadows) (sym join) (bound_still p.shadows said.shadows) in
    let same : j ≡ joined p e = sym (back (record { rises = hp; rise = stored.shadows.rise; all = all })) in
    record {
      whole = has.1;
      has = has.0;
      is = subst (λ (x : Suspended). IsDelta p x e) same differs;
      stored = subst (λ (x : Suspended). IsStored a x) same stored;
    }
