-- Spellings in their parts.
use Rattle.std.proofs.Common.{◌≡◌, ℕ, ◌+◌, ◌-◌, ◌<◌, ◌^◌, min, arith, List, ◌∷◌, ◌++◌, length, take, drop, sym, ap, ◌∙◌, append_assoc, length-append}
use Rattle.std.proofs.lemmas.List.{take-append-drop}
use Rattle.std.proofs.Math.Seq.{take-append_seam, drop-append_seam}
use Rattle.wire_bytes.specs.Spelling.{u32_bytes}
use Rattle.value_bytes.specs.Spelling.{values_bytes, list_bytes}
use Rattle.frame_codec.specs.Spelling.{frame_bytes, shadow_bytes}
use Rattle.frame_codec.specs.Deltas.{Delta, delta_bytes}
use Rattle.frame_codec.specs.Parted.{Parted, whole_of, delta_parts}
use Rattle.frame_codec.specs.PartedViews.{cut}

-- the parts of a difference one after the other are the byte of its form and its spelling
pub delta_whole : (x : Parted) (d : Delta) → x ≡ delta_parts d → whole_of x ≡ 1 ∷ delta_bytes d
delta_whole x d e =
    let frames = list_bytes frame_bytes d.frames in
    let shadows = list_bytes shadow_bytes d.shadows in
    ap whole_of e ∙ ap (λ (l : List ℕ). 1 ∷ l) (append_assoc (u32_bytes d.env_shared) (values_bytes d.env) ((u32_bytes d.frames_shared ++ frames) ++ shadows)
    ∙ ap (λ (l : List ℕ). u32_bytes d.env_shared ++ (values_bytes d.env ++ l)) (append_assoc (u32_bytes d.frames_shared) frames shadows))

-- one after the other they are all bytes
pub whole_again : (bytes : List ℕ) (i j : ℕ) → bytes ≡ whole_of (cut bytes i j)
whole_again bytes i j =
    sym (
    sym (append_assoc (take i (take j bytes)) (drop i (take j bytes)) (drop j bytes))
    ∙ ap (λ (l : List ℕ). l ++ drop j bytes) (take-append-drop i (take j bytes)) ∙ take-append-drop j bytes
    )

-- Cut where its parts end, the bytes are those parts.
pub cut_there : (env frames shadows bytes : List ℕ) (i j : ℕ) → bytes ≡ env ++ (frames ++ shadows) → i ≡ length env → j ≡ length env + length frames
    → cut bytes i j ≡ record { env = env; frames = frames; shadows = shadows }
cut_there env frames shadows bytes i j e f g =
    let whole : bytes ≡ (env ++ frames) ++ shadows = e ∙ sym (append_assoc env frames shadows) in
    let end : j ≡ length (env ++ frames) = g ∙ sym (length-append env frames) in
    let front : take j bytes ≡ env ++ frames = (λ k. take (end k) (whole k)) ∙ take-append_seam (env ++ frames) shadows in
    let back : drop j bytes ≡ shadows = (λ k. drop (end k) (whole k)) ∙ drop-append_seam (env ++ frames) shadows in
    let first : take i (take j bytes) ≡ env = (λ k. take (f k) (front k)) ∙ take-append_seam env frames in
    let second : drop i (take j bytes) ≡ frames = (λ k. drop (f k) (front k)) ∙ drop-append_seam env frames in
    λ k. record { env = first k; frames = second k; shadows = back k }

-- The lengths of the first two parts are counted up to 2^63, which is more than there are bytes.
pub cut_counted : (env frames shadows bytes : List ℕ) (a b v f e g i k j : ℕ) → bytes ≡ env ++ (frames ++ shadows) → length bytes < 2 ^ 63
    → length env ≡ v + a → length frames ≡ f + b → e ≡ min v (2 ^ 63) → g ≡ min f (2 ^ 63) → i ≡ min (e + a) (2 ^ 64 - 1) → k ≡ min (i + g) (2 ^ 64 - 1)
    → j ≡ min (k + b) (2 ^ 64 - 1) → cut bytes i j ≡ record { env = env; frames = frames; shadows = shadows }
cut_counted env frames shadows bytes a b v f e g i k j whole low first second counted more at on end =
    let all : length bytes ≡ length env + (length frames + length shadows) = ap length whole ∙ (length-append env (frames ++ shadows) ∙ ap (λ (n : ℕ). length env + n) (length-append frames shadows)) in
    cut_there env frames shadows bytes i j whole
    (omega (arith, all, low, first, second, counted, more, at, on, end)) (omega (arith, all, low, first, second, counted, more, at, on, end))
