-- Fronts of states: what is read of them, and how they are joined.
use Rattle.std.proofs.Common.{◌≡◌, ℕ, zero, suc, ◌+◌, ◌-◌, ◌<◌, ◌≤◌, ◌^◌, min, List, [], ◌∷◌, ◌++◌, length, take, drop, reverse, Some, refl, sym, ap, ◌∙◌, arith, append_assoc}
use Rattle.std.specs.Prelude.{map}
use Rattle.std.specs.List.{flat_map, AllByRecursion}
use Rattle.std.proofs.lemmas.List.{append-nil, reverse-reverse, take-map, take-take, take_min}
use Rattle.script_value.specs.Val.{Val}
use Rattle.script_value.specs.Pieces.{◌>>=◌}
use Rattle.web_cells.specs.Shadows.{all_bound}
use Rattle.web_cells.proofs.Owned as own
use Rattle.script_nodes.specs.Arena.{Arena}
use Rattle.wire_bytes.specs.Spelling.{u32_bytes}
use Rattle.wire_bytes.specs.Reading.{value_of}
use Rattle.value_bytes.specs.Spelling.{value_bytes, list_bytes, HasBytes, FitsList, most_levels}
use Rattle.value_bytes.specs.Reading.{Reader, read_several, read_list, read_value}
use Rattle.value_bytes.specs.Laws.{IsExact}
use Rattle.value_bytes.proofs.Numbers.{u32_exact}
use Rattle.value_bytes.proofs.Lists.{list_exact}
use Rattle.value_bytes.proofs.Trees.{value_exact}
use Rattle.machine_states.specs.Machine.{Frame, Suspended}
use Rattle.machine_states.specs.declared.frame.Frame.{Frame as Stored}
use Rattle.machine_states.specs.Views.{frame_of, stack}
use Rattle.frame_codec.specs.Spelling.{frame_bytes, shadow_bytes, ShadowHasBytes}
use Rattle.frame_codec.specs.Stored.{IsStored}
use Rattle.frame_codec.specs.Reading.{read_frame, read_shadow}
use Rattle.frame_codec.specs.Deltas.{Delta, Shares, IsDelta, DeltaHasBytes}
use Rattle.frame_codec.specs.Parted.{state_parts, delta_parts}
use Rattle.frame_codec.specs.Fronts.{front, delta_front, AreFrontsRead, FrontsJoin, read_first, read_behind, read_front, read_delta_front}
use Rattle.frame_codec.specs.declared.need.Need.{Need}
use Rattle.frame_codec.proofs.Frames.{frame_exact, shadow_exact, IsRead}
use Rattle.frame_codec.proofs.States.{stored_parts}
use Rattle.frame_codec.proofs.Cells.{fit_cells}
use Rattle.frame_codec.proofs.Shades.{bound_in_order}
use Rattle.frame_codec.proofs.Order.{kept_order}
use Rattle.frame_codec.proofs.Differences.{frames_are_read}

-- ---- what is read

module _ {A : Type 0} (spelled : A → List ℕ) (fits : A → Type 0) (read : Reader A) (law : IsExact spelled fits read) where
  several_first : (k : ℕ) (xs : List A) (rest : List ℕ) → AllByRecursion fits xs → k ≤ length xs
      → read_several read k (flat_map spelled xs ++ rest) ≡ Some (take k xs, flat_map spelled (drop k xs) ++ rest)
  several_first zero xs rest fit few = refl
  several_first (suc k) [] rest fit few = absurd (omega (arith, few))
  several_first (suc k) (x ∷ xs) rest fit few =
      ap (λ (bytes : List ℕ). read_several read (suc k) bytes) (append_assoc (spelled x) (flat_map spelled xs) rest)
      ∙ ap (λ o. o >>= λ y. (read_several read k y.1 >>= λ ys. Some (y.0 ∷ ys.0, ys.1))) (law.back x (flat_map spelled xs ++ rest) fit.0)
      ∙ ap (λ o. o >>= λ ys. Some (x ∷ ys.0, ys.1)) (several_first k xs rest fit.1 (omega (arith, few)))

  -- what is left of a list after its first
  left_of : (most : ℕ) → List A → List ℕ
  left_of most xs = flat_map spelled (drop (min most (length xs)) xs) ++ []

  first_back : (most : ℕ) (xs : List A) → FitsList fits xs → read_first read most (list_bytes spelled xs) ≡ Some (take most xs, left_of most xs)
  unfolding left_of
  first_back most xs fit =
      let k = min most (length xs) in
      ap (λ (bytes : List ℕ). read_first read most (u32_bytes (length xs) ++ bytes)) (sym (append-nil (flat_map spelled xs)))
      ∙ ap (λ o. o >>= λ count. read_several read (min most count.0) count.1) (u32_exact.back (length xs) (flat_map spelled xs ++ []) fit.0)
      ∙ several_first k xs [] fit.1 (omega arith) ∙ ap (λ (ys : List A). Some (ys, left_of most xs)) (take_min most xs)

  first_said : (most : ℕ) (xs : List A) → FitsList fits xs → value_of (read_first read most (list_bytes spelled xs)) ≡ Some (take most xs)
  first_said most xs fit = ap value_of (first_back most xs fit)

  behind_said : (most shared : ℕ) (xs : List A) → shared < 2 ^ 32 → FitsList fits xs
      → value_of (read_behind read most (u32_bytes shared ++ list_bytes spelled xs)) ≡ Some (min most shared, take (most - shared) xs)
  behind_said most shared xs short fit =
      ap (λ o. value_of (o >>= λ s. (read_first read (most - s.0) s.1 >>= λ ys. Some ((min most s.0, ys.0), ys.1)))) (u32_exact.back shared (list_bytes spelled xs) short)
      ∙ ap (λ o. value_of (o >>= λ ys. Some ((min most shared, ys.0), ys.1))) (first_back (most - shared) xs fit)

shadows_said : (ss : List (ℕ × Val)) → FitsList ShadowHasBytes ss → value_of (read_list read_shadow (list_bytes shadow_bytes ss)) ≡ Some ss
shadows_said ss fit =
    ap (λ (bytes : List ℕ). value_of (read_list read_shadow bytes)) (sym (append-nil (list_bytes shadow_bytes ss)))
    ∙ ap value_of ((list_exact shadow_bytes ShadowHasBytes read_shadow shadow_exact).back ss [] fit)

-- of a state that fits the script its front
pub front_back : (a : Arena) (n : Need) (d : Suspended) → IsStored a d → read_front a n (state_parts d) ≡ Some (front n d)
front_back a n d s =
    let parts = stored_parts a d s in
    let env = first_said value_bytes HasBytes read_value (value_exact most_levels) n.variables d.env parts.0 in
    let frames = first_said frame_bytes (IsRead a) (read_frame a) (frame_exact a) n.frames (reverse d.frames) parts.1.0 in
    let shadows = shadows_said d.shadows parts.1.1 in
    let bound = bound_in_order (length a.web) d.shadows (fit_cells a d.shadows s.shadows) in
    let read_frames = value_of (read_first (read_frame a) n.frames (list_bytes frame_bytes (reverse d.frames))) in
    let read_shadows = value_of (read_list read_shadow (list_bytes shadow_bytes d.shadows)) in
    ap (λ o. o >>= λ vs. (read_frames >>= λ fs. (read_shadows >>= λ ss. Some (record { env = vs; frames = reverse fs; shadows = all_bound ss [] })))) env
    ∙ ap (λ o. o >>= λ fs. (read_shadows >>= λ ss. Some (record { env = take n.variables d.env; frames = reverse fs; shadows = all_bound ss [] }))) frames
    ∙ ap (λ o. o >>= λ ss. Some (record { env = take n.variables d.env; frames = reverse (take n.frames (reverse d.frames)); shadows = all_bound ss [] })) shadows
    ∙ ap (λ (ss : List (ℕ × Val)). Some (record { env = take n.variables d.env; frames = reverse (take n.frames (reverse d.frames)); shadows = ss })) bound

-- of a difference what it has of a front
pub delta_front_back : (a : Arena) (n : Need) (p s : Suspended) (d : Delta) → IsStored a s → IsDelta p s d → DeltaHasBytes d
    → read_delta_front a n (delta_parts d) ≡ Some (delta_front n d)
delta_front_back a n p s d stored is has =
    let env = behind_said value_bytes HasBytes read_value (value_exact most_levels) n.variables d.env_shared d.env has.env_shared has.env in
    let frames = behind_said frame_bytes (IsRead a) (read_frame a) (frame_exact a) n.frames d.frames_shared d.frames has.frames_shared (frames_are_read a p s d stored is has) in
    let shadows = shadows_said d.shadows has.shadows in
    let read_frames = value_of (read_behind (read_frame a) n.frames (u32_bytes d.frames_shared ++ list_bytes frame_bytes d.frames)) in
    let read_shadows = value_of (read_list read_shadow (list_bytes shadow_bytes d.shadows)) in
    ap (λ o. o >>= λ vs. (read_frames >>= λ fs. (read_shadows >>= λ ss. Some (record { env_shared = vs.0; env = vs.1; frames_shared = fs.0; frames = fs.1; shadows = ss })))) env
    ∙ ap (λ o. o >>= λ fs. (read_shadows >>= λ ss. Some (record { env_shared = min n.variables d.env_shared; env = take (n.variables - d.env_shared) d.env; frames_shared = fs.0; frames = fs.1; shadows = ss }))) frames
    ∙ ap (λ o. o >>= λ ss. Some (record { env_shared = min n.variables d.env_shared; env = take (n.variables - d.env_shared) d.env; frames_shared = min n.frames d.frames_shared; frames = take (n.frames - d.frames_shared) d.frames; shadows = ss })) shadows

pub are_read : AreFrontsRead
are_read = record { state = front_back; delta = delta_front_back }

-- ---- what is joined

-- the front of the second list is that of the first, as far as it is shared, and of the rest
front_shared : {A : Type 0} (n k : ℕ) (xs ys rest : List A) → Shares xs ys k rest → take (min n k) xs ++ take (n - k) rest ≡ take n ys
front_shared n zero xs ys rest h =
    let none : min n 0 ≡ 0 = omega arith in
    let all : n - 0 ≡ n = omega arith in
    ap (λ (i : ℕ). take i xs ++ take (n - 0) rest) none ∙ ap (λ (i : ℕ). take i rest) all ∙ ap (λ (l : List _). take n l) (sym h.0)
front_shared zero (suc k) xs ys rest h =
    let none : min 0 (suc k) ≡ 0 = omega arith in
    let nothing : 0 - suc k ≡ 0 = omega arith in
    ap (λ (i : ℕ). take i xs ++ take (0 - suc k) rest) none ∙ ap (λ (i : ℕ). take i rest) nothing
front_shared (suc n) (suc k) [] ys rest h = absurd h
front_shared (suc n) (suc k) (x ∷ xs) [] rest h = absurd h
front_shared (suc n) (suc k) (x ∷ xs) (y ∷ ys) rest h =
    let more : min (suc n) (suc k) ≡ suc (min n k) = omega arith in
    let less : suc n - suc k ≡ n - k = omega arith in
    ap (λ (i : ℕ). take i (x ∷ xs) ++ take (suc n - suc k) rest) more ∙ ap (λ (i : ℕ). x ∷ take (min n k) xs ++ take i rest) less
    ∙ (λ i. h.0 i ∷ front_shared n k xs ys rest h.1 i)

-- the same, where the first is no longer than what is shared
twice : {A : Type 0} (n k : ℕ) (xs ys rest : List A) → Shares xs ys k rest → take (min n k) (take (min n k) xs) ++ take (n - k) rest ≡ take n ys
twice n k xs ys rest h =
    ap (λ (l : List _). l ++ take (n - k) rest) (take-take (min n k) (min n k) xs (omega arith)) ∙ front_shared n k xs ys rest h

pub fronts_join : FrontsJoin
fronts_join n p d x on is =
    let k = min n.frames x.frames_shared in
    let env = twice n.variables x.env_shared p.env d.env x.env is.env in
    let frames = ap (λ (fs : List Frame). reverse (take k fs ++ take (n.frames - x.frames_shared) x.frames)) (reverse-reverse (take k (reverse p.frames)))
    ∙ ap (λ (fs : List Frame). reverse fs) (twice n.frames x.frames_shared (reverse p.frames) (reverse d.frames) x.frames is.frames) in
    let shadows = own.give_back p.shadows d.shadows x.shadows on.rises on.rise on.all is.shadows in
    λ i. record { env = env i; frames = frames i; shadows = shadows i }

-- ---- frames of the program

pub frames_taken : (xs zs : List Stored) (k : ℕ) → zs ≡ take k xs → stack zs ≡ reverse (take k (reverse (stack xs)))
frames_taken xs zs k e =
    ap (λ (fs : List Frame). reverse fs)
    (ap (λ (l : List Stored). map frame_of l) e ∙ sym (take-map frame_of k xs) ∙ ap (λ (fs : List Frame). take k fs) (sym (kept_order xs)))
