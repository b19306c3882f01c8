-- How long bodies are.
use Rattle.std.proofs.Common.{◌≡◌, ℕ, zero, suc, ◌+◌, ◌*◌, ◌<◌, List, [], ◌∷◌, ◌++◌, length, map, take, get_or, min, ◌^◌, refl, ap, ◌∙◌, arith, length-append}
use Rattle.std.specs.List.{flat_map}
use Rattle.std.proofs.lemmas.List.{map_more}
use Rattle.script_value.specs.declared.outcome.TxName.{TxName}
use Rattle.script_nodes.specs.Setup.{Named}
use Rattle.instance_cells.specs.Views.{effect_of}
use Rattle.instance_cells.specs.declared.effect.Effect.{Effect}
use Rattle.replay_spec.specs.Book.{Ending, Finish}
use Rattle.wire_bytes.specs.Spelling.{u64_bytes, byte_string}
use Rattle.value_bytes.specs.Spelling.{value_bytes, list_bytes}
use Rattle.journal_records.specs.Fields.{name_bytes, effect_bytes, script_bytes, origin_bytes, send_byte}
use Rattle.journal_records.specs.Records.{IsTextLength, text_of, texts_of, Page, effects_bytes, names_bytes, page_bytes, ending_bytes, finish_bytes}

pub page_length : (p : Page)
    → length (page_bytes p)
    ≡ 25 + length (origin_bytes p.origin) + length (effects_bytes p.effects) + length (names_bytes p.left) + length (list_bytes u64_bytes p.evicted)
    + length (byte_string p.state)
page_length p =
    let last = list_bytes u64_bytes p.evicted ++ byte_string p.state in
    let tail = u64_bytes p.deadline ++ last in
    let left = names_bytes p.left ++ send_byte p.kind ∷ tail in
    omega (
      arith,
      length-append (list_bytes u64_bytes p.evicted) (byte_string p.state),
      length-append (u64_bytes p.deadline) last,
      length-append (origin_bytes p.origin) (effects_bytes p.effects ++ left),
      length-append (effects_bytes p.effects) left,
      length-append (names_bytes p.left) (send_byte p.kind ∷ tail),
    )

pub ending_length : (e : Ending)
    → length (ending_bytes e) ≡ 24 + length (value_bytes e.answer) + length (effects_bytes e.effects) + length (names_bytes e.left)
ending_length e =
    omega (
      arith,
      length-append (value_bytes e.answer) (effects_bytes e.effects ++ names_bytes e.left),
      length-append (effects_bytes e.effects) (names_bytes e.left),
    )

pub finish_length : (f : Finish) → length (finish_bytes f) ≡ 24 + length (value_bytes f.answer) + length (effects_bytes f.effects)
finish_length f = omega (arith, length-append (value_bytes f.answer) (effects_bytes f.effects))

each_name : (ts : List TxName) → length (flat_map name_bytes ts) ≡ 12 * length ts
unfolding name_bytes
each_name [] = refl
each_name (t ∷ ts) = omega (arith, each_name ts)

pub names_length : (ts : List TxName) → length (names_bytes ts) ≡ 4 + 12 * length ts
names_length ts = omega (arith, each_name ts)

each_behind : {B : Type 0} (spelled : B → List ℕ) (ys : List B) (y : B)
    → length (flat_map spelled (ys ++ y ∷ [])) ≡ length (flat_map spelled ys) + length (spelled y)
each_behind spelled [] y = omega (arith, length-append (spelled y) [])
each_behind spelled (z ∷ zs) y =
    omega (arith, each_behind spelled zs y, length-append (spelled z) (flat_map spelled (zs ++ y ∷ [])), length-append (spelled z) (flat_map spelled zs))

each_more : {A B : Type 0} (spelled : B → List ℕ) (view : A → B) (xs : List A) (i : ℕ) (d : A) → i < length xs
    → length (flat_map spelled (map view (take (i + 1) xs))) ≡ length (flat_map spelled (map view (take i xs))) + length (spelled (view (get_or xs i d)))
each_more spelled view xs i d h =
    rw (map_more view xs i d h) (each_behind spelled (map view (take i xs)) (view (get_or xs i d)))

pub effects_more : (xs : List Effect) (i : ℕ) (d : Effect) → i < length xs
    → length (effects_bytes (map effect_of (take (i + 1) xs))) ≡ length (effects_bytes (map effect_of (take i xs))) + length (effect_bytes (effect_of (get_or xs i d)))
effects_more xs i d h = omega (arith, each_more effect_bytes effect_of xs i d h)

each_number : (ns : List ℕ) → length (flat_map u64_bytes ns) ≡ 8 * length ns
each_number [] = refl
each_number (n ∷ ns) = omega (arith, each_number ns)

pub numbers_length : (ns : List ℕ) → length (list_bytes u64_bytes ns) ≡ 4 + 8 * length ns
numbers_length ns = omega (arith, each_number ns)

-- one more script of a setup is counted
pub text_more : (scripts : List Named) (i n k : ℕ) → i < length scripts → IsTextLength scripts i n
    → min (min (k + length (flat_map script_bytes (take i (texts_of scripts)))) (2 ^ 63) + n) (2 ^ 63)
    ≡ min (k + length (flat_map script_bytes (take (i + 1) (texts_of scripts)))) (2 ^ 63)
text_more [] i n k h e = omega arith
text_more (s ∷ scripts) zero n k h e = omega (arith, e, length-append (script_bytes (text_of s)) [])
text_more (s ∷ scripts) (suc i) n k h e =
    let bytes = script_bytes (text_of s) in
    let before : length (flat_map script_bytes (take (suc i) (texts_of (s ∷ scripts)))) ≡ length bytes + length (flat_map script_bytes (take i (texts_of scripts))) =
    length-append bytes (flat_map script_bytes (take i (texts_of scripts))) in
    let next : suc i + 1 ≡ suc (i + 1) = omega arith in
    let behind : length (flat_map script_bytes (take (suc i + 1) (texts_of (s ∷ scripts)))) ≡ length bytes + length (flat_map script_bytes (take (i + 1) (texts_of scripts))) =
    ap (λ (k : ℕ). length (flat_map script_bytes (take k (texts_of (s ∷ scripts))))) next
    ∙ length-append bytes (flat_map script_bytes (take (i + 1) (texts_of scripts))) in
    omega (arith, text_more scripts i n (k + length bytes) (omega arith) e, before, behind)
