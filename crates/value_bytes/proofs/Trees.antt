-- Values are spelled exactly.
use Rattle.std.proofs.Common.{◌≡◌, ℕ, zero, suc, ◌<◌, ◌≤◌, ◌^◌, ◌==◌, Bool, true, false, cond, List, [], ◌∷◌, ◌++◌, length, map, get_or, drop, drop-cons, Option, Some, refl, sym, ap, subst, ◌∙◌, arith, append_assoc, ◌⊎◌, inl, inr}
use Rattle.std.specs.List.{flat_map, AllByRecursion}
use Rattle.std.proofs.lemmas.Bool.Decides.{nat_tests}
use Rattle.std.proofs.lemmas.Option.{some_pair_parts, none-some}
use Rattle.script_value.specs.Val.{Val, Vals, number, truth, text, symbol, list, no_vals, val, vals_of, items_of, depth, depth_all}
use Rattle.script_value.specs.Views.{meaning}
use Rattle.script_value.specs.declared.value.Value.{Value}
use Rattle.script_value.proofs.Folds.{items_of-vals_of, vals_of-items_of}
use Rattle.wire_bytes.specs.Spelling.{u32_bytes}
use Rattle.value_bytes.specs.Spelling.{count_of, value_bytes, all_bytes, list_bytes, Fits, AllFit, HasBytesWithin}
use Rattle.value_bytes.specs.Reading.{Reader, seen_as, read_i64, read_utf8, read_kind, read_front, read_none, read_list, read_within, read_items_within}
use Rattle.value_bytes.specs.Laws.{AreBytes, Spells, IsExact}
use Rattle.value_bytes.proofs.Numbers.{seen_some, tail_are_bytes, i64_exact, utf8_exact}
use Rattle.value_bytes.proofs.Lists.{list_exact}

-- ---- several values, as a tree and as a list

pub all_bytes-vals_of : (vs : List Val) → all_bytes (vals_of vs) ≡ flat_map value_bytes vs
all_bytes-vals_of [] = refl
all_bytes-vals_of (v ∷ vs) = ap (λ (r : List ℕ). value_bytes v ++ r) (all_bytes-vals_of vs)

all_bytes-items : (vs : Vals) → all_bytes vs ≡ flat_map value_bytes (items_of vs)
all_bytes-items no_vals = refl
all_bytes-items (val v vs) = ap (λ (r : List ℕ). value_bytes v ++ r) (all_bytes-items vs)

each_fits : (levels : ℕ) (vs : Vals) → depth_all vs ≤ levels → AllFit vs → AllByRecursion (HasBytesWithin levels) (items_of vs)
each_fits levels no_vals deep fit = tt
each_fits levels (val v vs) deep fit =
    (record { deep = omega arith; fits = fit.0 }, each_fits levels vs (omega arith) fit.1)

all_fit : (levels : ℕ) (vs : List Val) → AllByRecursion (HasBytesWithin levels) vs → (depth_all (vals_of vs) ≤ levels) × AllFit (vals_of vs)
all_fit levels [] fit = (omega arith, tt)
all_fit levels (v ∷ vs) fit =
    let more = all_fit levels vs fit.1 in
    (omega (arith, fit.0.deep, more.0), (fit.0.fits, more.1))

-- how many there are, as a tree and as a list
pub count_of-vals_of : (vs : List Val) → count_of (vals_of vs) ≡ length vs
count_of-vals_of vs = ap length (items_of-vals_of vs)

pub all_written : (levels : ℕ) (vs : List Val) → AllByRecursion (HasBytesWithin levels) vs → AllFit (vals_of vs)
all_written levels vs fit = (all_fit levels vs fit).1

pub list_fits : (vs : List Val) → (length vs < 2 ^ 32) × AllFit (vals_of vs) → Fits (list (vals_of vs))
list_fits vs fit = (omega (arith, fit.0, count_of-vals_of vs), fit.1)

pub list_has_fit : (vs : List Val) → Fits (list (vals_of vs)) → (length vs < 2 ^ 32) × AllFit (vals_of vs)
list_has_fit vs fit = (omega (arith, fit.0, count_of-vals_of vs), fit.1)

-- ---- the items of a list

pub record AreItemsExact (levels : ℕ) (read : Reader (List Val)) : Type 0 where
  pub back : (vs : Vals) (rest : List ℕ) → depth (list vs) ≤ levels → Fits (list vs)
      → read ((u32_bytes (count_of vs) ++ all_bytes vs) ++ rest) ≡ Some (items_of vs, rest)
  pub exact : (bytes : List ℕ) (vs : List Val) (rest : List ℕ) → AreBytes bytes → read bytes ≡ Some (vs, rest)
      → (bytes ≡ (u32_bytes (count_of (vals_of vs)) ++ all_bytes (vals_of vs)) ++ rest) × (depth (list (vals_of vs)) ≤ levels) × Fits (list (vals_of vs))

no_items : AreItemsExact 0 read_none
no_items = record {
  back = λ vs rest deep fits. absurd (omega arith);
  exact = λ bytes vs rest small e. absurd cc;
}

below : (levels : ℕ) (read : Reader Val) → IsExact value_bytes (HasBytesWithin levels) read → AreItemsExact (suc levels) (read_list read)
below levels read law =
    let lists = list_exact value_bytes (HasBytesWithin levels) read law in
    record {
      back = λ vs rest deep fits.
          ap (λ (b : List ℕ). read_list read ((u32_bytes (count_of vs) ++ b) ++ rest)) (all_bytes-items vs)
          ∙ lists.back (items_of vs) rest (fits.0, each_fits levels vs (omega arith) fits.1);
      exact = λ bytes vs rest small e.
          let s = lists.exact bytes vs rest small e in
          let more = all_fit levels vs s.fit.1 in
          let count : count_of (vals_of vs) ≡ length vs = ap length (items_of-vals_of vs) in (
            s.whole ∙ (λ i. (u32_bytes (sym count i) ++ sym (all_bytes-vals_of vs) i) ++ rest),
            omega (arith, more.0),
            (omega (arith, count, s.fit.0), more.1),
          );
    }

-- ---- a value

front_back : (levels : ℕ) (items : Reader (List Val)) → AreItemsExact levels items
    → (v : Val) (rest : List ℕ) → HasBytesWithin levels v → read_front items (value_bytes v ++ rest) ≡ Some (v, rest)
front_back levels items law (number n) rest has = ap (seen_as number) (i64_exact.back n rest has.fits)
front_back levels items law (truth true) rest has = refl
front_back levels items law (truth false) rest has = refl
front_back levels items law (text t) rest has = ap (seen_as text) (utf8_exact.back t rest has.fits)
front_back levels items law (symbol s) rest has = ap (seen_as symbol) (utf8_exact.back s rest has.fits)
front_back levels items law (list vs) rest has =
    ap (seen_as (λ ws. list (vals_of ws))) (law.back vs rest has.deep has.fits)
    ∙ ap (λ (ws : Vals). Some (list ws, rest)) (vals_of-items_of vs)

pub chosen : {A : Type 0} (b : Bool) (x y z : A) → cond b x y ≡ z → ((b ≡ true) × (x ≡ z)) ⊎ ((b ≡ false) × (y ≡ z))
chosen true x y z e = inl (refl, e)
chosen false x y z e = inr (refl, e)

number_spells : (levels kind : ℕ) (bytes : List ℕ) (v : Val) (rest : List ℕ) → AreBytes bytes → kind ≡ 0 → seen_as number (read_i64 bytes) ≡ Some (v, rest)
    → Spells value_bytes (HasBytesWithin levels) (kind ∷ bytes) v rest
number_spells levels kind bytes v rest small k e =
    let s = seen_some number (read_i64 bytes) v rest e in
    let x = i64_exact.exact bytes s.0 rest small s.1 in
    subst (λ w. Spells value_bytes (HasBytesWithin levels) (kind ∷ bytes) w rest) s.2
    (record { whole = λ i. k i ∷ x.whole i; fit = record { deep = omega arith; fits = x.fit } })

abbrev put : Bool → List ℕ → Option (Val × List ℕ)
put b bytes = Some (truth b, bytes)

truth_spells : (levels kind : ℕ) (b : Bool) (bytes : List ℕ) (v : Val) (rest : List ℕ) → kind ∷ [] ≡ value_bytes (truth b)
    → put b bytes ≡ Some (v, rest) → Spells value_bytes (HasBytesWithin levels) (kind ∷ bytes) v rest
truth_spells levels kind b bytes v rest k e =
    let parts = some_pair_parts (truth b) v bytes rest e in
    subst (λ w. Spells value_bytes (HasBytesWithin levels) (kind ∷ bytes) w rest) parts.0
    (record { whole = λ i. k i ++ parts.1 i; fit = record { deep = omega arith; fits = tt } })

text_spells : (levels kind : ℕ) (bytes : List ℕ) (v : Val) (rest : List ℕ) → AreBytes bytes → kind ≡ 3 → seen_as text (read_utf8 bytes) ≡ Some (v, rest)
    → Spells value_bytes (HasBytesWithin levels) (kind ∷ bytes) v rest
text_spells levels kind bytes v rest small k e =
    let s = seen_some text (read_utf8 bytes) v rest e in
    let x = utf8_exact.exact bytes s.0 rest small s.1 in
    subst (λ w. Spells value_bytes (HasBytesWithin levels) (kind ∷ bytes) w rest) s.2
    (record { whole = λ i. k i ∷ x.whole i; fit = record { deep = omega arith; fits = x.fit } })

symbol_spells : (levels kind : ℕ) (bytes : List ℕ) (v : Val) (rest : List ℕ) → AreBytes bytes → kind ≡ 4 → seen_as symbol (read_utf8 bytes) ≡ Some (v, rest)
    → Spells value_bytes (HasBytesWithin levels) (kind ∷ bytes) v rest
symbol_spells levels kind bytes v rest small k e =
    let s = seen_some symbol (read_utf8 bytes) v rest e in
    let x = utf8_exact.exact bytes s.0 rest small s.1 in
    subst (λ w. Spells value_bytes (HasBytesWithin levels) (kind ∷ bytes) w rest) s.2
    (record { whole = λ i. k i ∷ x.whole i; fit = record { deep = omega arith; fits = x.fit } })

list_spells : (levels kind : ℕ) (items : Reader (List Val)) → AreItemsExact levels items
    → (bytes : List ℕ) (v : Val) (rest : List ℕ) → AreBytes bytes → kind ≡ 5 → seen_as (λ ws. list (vals_of ws)) (items bytes) ≡ Some (v, rest)
    → Spells value_bytes (HasBytesWithin levels) (kind ∷ bytes) v rest
list_spells levels kind items law bytes v rest small k e =
    let s = seen_some (λ ws. list (vals_of ws)) (items bytes) v rest e in
    let x = law.exact bytes s.0 rest small s.1 in
    subst (λ w. Spells value_bytes (HasBytesWithin levels) (kind ∷ bytes) w rest) s.2
    (record { whole = λ i. k i ∷ x.0 i; fit = record { deep = x.1; fits = x.2 } })

kind_spells : (levels : ℕ) (items : Reader (List Val)) → AreItemsExact levels items
    → (kind : ℕ) (bytes : List ℕ) (v : Val) (rest : List ℕ) → AreBytes bytes → read_kind items kind bytes ≡ Some (v, rest)
    → Spells value_bytes (HasBytesWithin levels) (kind ∷ bytes) v rest
kind_spells levels items law kind bytes v rest small e =
    elim (chosen (kind == 0) _ _ _ e) [
      | inl t ↦ number_spells levels kind bytes v rest small (grind (arith, nat_tests, t.0)) t.1
      | inr f ↦ elim (chosen (kind == 1) _ _ _ f.1) [
        | inl t ↦ truth_spells levels kind false bytes v rest (ap (λ (k : ℕ). k ∷ []) (grind (arith, nat_tests, t.0))) t.1
        | inr f ↦ elim (chosen (kind == 2) _ _ _ f.1) [
          | inl t ↦ truth_spells levels kind true bytes v rest (ap (λ (k : ℕ). k ∷ []) (grind (arith, nat_tests, t.0))) t.1
          | inr f ↦ elim (chosen (kind == 3) _ _ _ f.1) [
            | inl t ↦ text_spells levels kind bytes v rest small (grind (arith, nat_tests, t.0)) t.1
            | inr f ↦ elim (chosen (kind == 4) _ _ _ f.1) [
              | inl t ↦ symbol_spells levels kind bytes v rest small (grind (arith, nat_tests, t.0)) t.1
              | inr f ↦ elim (chosen (kind == 5) _ _ _ f.1) [
                | inl t ↦ list_spells levels kind items law bytes v rest small (grind (arith, nat_tests, t.0)) t.1
                | inr f ↦ absurd (none-some (v, rest) f.1)
              ]
            ]
          ]
        ]
      ]
    ]

front_spells : (levels : ℕ) (items : Reader (List Val)) → AreItemsExact levels items
    → (bytes : List ℕ) (v : Val) (rest : List ℕ) → AreBytes bytes → read_front items bytes ≡ Some (v, rest)
    → Spells value_bytes (HasBytesWithin levels) bytes v rest
front_spells levels items law [] v rest small e = absurd cc
front_spells levels items law (kind ∷ bytes) v rest small e = kind_spells levels items law kind bytes v rest (tail_are_bytes kind bytes small) e

pub value_exact : (levels : ℕ) → IsExact value_bytes (HasBytesWithin levels) (read_within levels)
unfolding read_within
value_exact zero = record { back = front_back 0 read_none no_items; exact = front_spells 0 read_none no_items }
value_exact (suc levels) =
    let items = below levels (read_within levels) (value_exact levels) in
    record {
      back = front_back (suc levels) (read_list (read_within levels)) items;
      exact = front_spells (suc levels) (read_list (read_within levels)) items;
    }

-- a value is read by its kind, its items one level down
pub within_front : (levels : ℕ) (bytes : List ℕ) → read_within levels bytes ≡ read_front (read_items_within levels) bytes
unfolding read_within
within_front zero bytes = refl
within_front (suc levels) bytes = refl

-- ---- writing

pub fits_here : (xs : List Value) (i : ℕ) (d : Value) → i < length xs → AllFit (vals_of (map meaning (drop i xs))) → d ≡ get_or xs i d → Fits (meaning d)
fits_here xs i d h f e =
    let here : drop i xs ≡ get_or xs i d ∷ drop (suc i) xs = drop-cons xs i d h in
    let both : AllFit (vals_of (map meaning (get_or xs i d ∷ drop (suc i) xs))) = subst (λ (ys : List Value). AllFit (vals_of (map meaning ys))) here f in
    subst (λ (v : Value). Fits (meaning v)) (sym e) both.0

pub list_whole : (old kind counted : List ℕ) (n : ℕ) (vs ws : List Val) → kind ≡ old ++ 5 ∷ [] → counted ≡ kind ++ u32_bytes n → n ≡ length vs → ws ≡ vs
    → counted ++ all_bytes (vals_of ws) ≡ old ++ value_bytes (list (vals_of vs))
list_whole old kind counted n vs ws a b c d =
    let count : n ≡ count_of (vals_of vs) = c ∙ sym (count_of-vals_of vs) in
    (λ i. b i ++ all_bytes (vals_of (d i)))
    ∙ append_assoc kind (u32_bytes n) (all_bytes (vals_of vs))
    ∙ ap (λ (k : List ℕ). k ++ (u32_bytes n ++ all_bytes (vals_of vs))) a
    ∙ append_assoc old (5 ∷ []) (u32_bytes n ++ all_bytes (vals_of vs))
    ∙ ap (λ (m : ℕ). old ++ 5 ∷ (u32_bytes m ++ all_bytes (vals_of vs))) count

pub values_whole : (old counted : List ℕ) (n : ℕ) (vs : List Val) → counted ≡ old ++ u32_bytes n → n ≡ length vs
    → counted ++ all_bytes (vals_of vs) ≡ old ++ list_bytes value_bytes vs
values_whole old counted n vs b c =
    ap (λ (k : List ℕ). k ++ all_bytes (vals_of vs)) b
    ∙ append_assoc old (u32_bytes n) (all_bytes (vals_of vs))
    ∙ (λ i. old ++ (u32_bytes (c i) ++ all_bytes-vals_of vs i))
