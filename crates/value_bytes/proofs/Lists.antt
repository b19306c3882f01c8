-- Lists of what is spelled exactly are spelled exactly.
use Rattle.std.proofs.Common.{◌≡◌, ℕ, zero, suc, List, [], ◌∷◌, ◌++◌, length, Some, refl, sym, ap, subst, ◌∙◌, arith, append_assoc}
use Rattle.std.specs.List.{flat_map, AllByRecursion}
use Rattle.std.proofs.lemmas.List.{append-nil}
use Rattle.std.proofs.lemmas.Option.{some_pair_parts}
use Rattle.script_value.specs.Pieces.{◌>>=◌}
use Rattle.wire_bytes.specs.Spelling.{u32_bytes}
use Rattle.wire_bytes.specs.Reading.{read_u32}
use Rattle.value_bytes.specs.Spelling.{list_bytes, FitsList}
use Rattle.value_bytes.specs.Reading.{Reader, read_several, read_list}
use Rattle.value_bytes.specs.Laws.{AreBytes, Spells, IsExact, HasNoPrefix}
use Rattle.value_bytes.proofs.Numbers.{bind_some, rest_are_bytes, u32_exact}

several_back : {A : Type 0} (spelled : A → List ℕ) (fits : A → Type 0) (read : Reader A) → IsExact spelled fits read
    → (xs : List A) (rest : List ℕ) → AllByRecursion fits xs → read_several read (length xs) (flat_map spelled xs ++ rest) ≡ Some (xs, rest)
several_back spelled fits read law [] rest fit = refl
several_back spelled fits read law (x ∷ xs) rest fit =
    ap (λ (bytes : List ℕ). read_several read (suc (length xs)) bytes) (append_assoc (spelled x) (flat_map spelled xs) rest)
    ∙ ap (λ o. o >>= λ y. (read_several read (length xs) y.1 >>= λ ys. Some (y.0 ∷ ys.0, ys.1))) (law.back x (flat_map spelled xs ++ rest) fit.0)
    ∙ ap (λ o. o >>= λ ys. Some (x ∷ ys.0, ys.1)) (several_back spelled fits read law xs rest fit.1)

-- what so many that were read are spelled by
pub record Several {A : Type 0} (spelled : A → List ℕ) (fits : A → Type 0) (n : ℕ) (bytes : List ℕ) (xs : List A) (rest : List ℕ) : Type 0 where
  pub whole : bytes ≡ flat_map spelled xs ++ rest
  pub fit : AllByRecursion fits xs
  pub count : length xs ≡ n

pub several_exact : {A : Type 0} (spelled : A → List ℕ) (fits : A → Type 0) (read : Reader A) → IsExact spelled fits read
    → (n : ℕ) (bytes : List ℕ) (xs : List A) (rest : List ℕ) → AreBytes bytes → read_several read n bytes ≡ Some (xs, rest)
    → Several spelled fits n bytes xs rest
several_exact spelled fits read law zero bytes xs rest small e =
    let parts = some_pair_parts [] xs bytes rest e in
    subst (λ ys. Several spelled fits zero bytes ys rest) parts.0 (record { whole = parts.1; fit = tt; count = refl })
several_exact spelled fits read law (suc n) bytes xs rest small e =
    let b = bind_some (read bytes) (λ y. (read_several read n y.1 >>= λ ys. Some (y.0 ∷ ys.0, ys.1))) (xs, rest) e in
    let x = b.0.0 in
    let s = law.exact bytes x b.0.1 small b.1 in
    let c = bind_some (read_several read n b.0.1) (λ ys. Some (x ∷ ys.0, ys.1)) (xs, rest) b.2 in
    let more = several_exact spelled fits read law n b.0.1 c.0.0 c.0.1 (rest_are_bytes bytes (spelled x) b.0.1 s.whole small) c.1 in
    let parts = some_pair_parts (x ∷ c.0.0) xs c.0.1 rest c.2 in
    subst (λ ys. Several spelled fits (suc n) bytes ys rest) parts.0 (record {
      whole = s.whole ∙ ap (λ (r : List ℕ). spelled x ++ r) (more.whole ∙ ap (λ (r : List ℕ). flat_map spelled c.0.0 ++ r) parts.1)
          ∙ sym (append_assoc (spelled x) (flat_map spelled c.0.0) rest);
      fit = (s.fit, more.fit);
      count = ap (λ (k : ℕ). suc k) more.count;
    })

list_back : {A : Type 0} (spelled : A → List ℕ) (fits : A → Type 0) (read : Reader A) → IsExact spelled fits read
    → (xs : List A) (rest : List ℕ) → FitsList fits xs → read_list read (list_bytes spelled xs ++ rest) ≡ Some (xs, rest)
list_back spelled fits read law xs rest fit =
    ap (read_list read) (append_assoc (u32_bytes (length xs)) (flat_map spelled xs) rest)
    ∙ ap (λ o. o >>= λ count. read_several read count.0 count.1) (u32_exact.back (length xs) (flat_map spelled xs ++ rest) fit.0)
    ∙ several_back spelled fits read law xs rest fit.1

list_spells : {A : Type 0} (spelled : A → List ℕ) (fits : A → Type 0) (read : Reader A) → IsExact spelled fits read
    → (bytes : List ℕ) (xs : List A) (rest : List ℕ) → AreBytes bytes → read_list read bytes ≡ Some (xs, rest)
    → Spells (list_bytes spelled) (FitsList fits) bytes xs rest
list_spells spelled fits read law bytes xs rest small e =
    let b = bind_some (read_u32 bytes) (λ count. read_several read count.0 count.1) (xs, rest) e in
    let n = u32_exact.exact bytes b.0.0 b.0.1 small b.1 in
    let s = several_exact spelled fits read law b.0.0 b.0.1 xs rest (rest_are_bytes bytes (u32_bytes b.0.0) b.0.1 n.whole small) b.2 in
    record {
      whole = n.whole ∙ ap (λ (r : List ℕ). u32_bytes b.0.0 ++ r) s.whole ∙ sym (append_assoc (u32_bytes b.0.0) (flat_map spelled xs) rest)
          ∙ ap (λ k. (u32_bytes k ++ flat_map spelled xs) ++ rest) (sym s.count);
      fit = (omega (arith, n.fit, s.count), s.fit);
    }

pub list_exact : {A : Type 0} (spelled : A → List ℕ) (fits : A → Type 0) (read : Reader A) → IsExact spelled fits read
    → IsExact (list_bytes spelled) (FitsList fits) (read_list read)
list_exact spelled fits read law = record { back = list_back spelled fits read law; exact = list_spells spelled fits read law }

-- what is read back has no spelling that begins another one
pub no_prefix : {A : Type 0} (spelled : A → List ℕ) (fits : A → Type 0) (read : Reader A) → IsExact spelled fits read → HasNoPrefix spelled fits
no_prefix spelled fits read law x y rest fx fy e =
    let first = law.back x rest fx in
    let second = law.back y [] fy in
    let same = sym first ∙ ap read (e ∙ sym (append-nil (spelled y))) ∙ second in
    some_pair_parts x y rest [] same
