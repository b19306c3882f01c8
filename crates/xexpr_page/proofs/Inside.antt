-- What is escaped stays inside.
use Rattle.std.proofs.Common.{◌≡◌, ℕ, Bool, true, false, List, [], ◌∷◌, ◌++◌, cond, refl}
use Rattle.std.specs.Prelude.{◌==◌, codes}
use Rattle.std.proofs.lemmas.Bool.{eqb-false}
use Rattle.script_value.specs.Texts.{lacks}
use Rattle.script_value.proofs.Texts.{lacks-append}
use Rattle.page_spec.specs.Markup.{text_byte, attribute_byte, escaped_text, escaped_attribute}
use Rattle.page_spec.specs.Laws.{is_entity, nothing, entity, other, Inside}

lacks_one : (c b : ℕ) → (b == c) ≡ false → lacks c (b ∷ []) ≡ true
lacks_one c b h = rw h refl

entity_inside : (e rest : List ℕ) → lacks 60 e ≡ true → lacks 62 e ≡ true → is_entity e ≡ true → Inside rest → Inside (e ++ rest)
entity_inside e rest l g h i =
    record { no_less = lacks-append 60 e rest l i.no_less; no_greater = lacks-append 62 e rest g i.no_greater; entities = entity e rest h i.entities }

byte_inside : (b : ℕ) (rest : List ℕ) → (b == 38) ≡ false → (b == 60) ≡ false → (b == 62) ≡ false → Inside rest → Inside (b ∷ rest)
byte_inside b rest a l g i =
    record {
      no_less = lacks-append 60 (b ∷ []) rest (lacks_one 60 b l) i.no_less;
      no_greater = lacks-append 62 (b ∷ []) rest (lacks_one 62 b g) i.no_greater;
      entities = other b rest (eqb-false b 38 a) i.entities;
    }

text_byte_inside : (b : ℕ) (rest : List ℕ) → Inside rest → Inside (text_byte b ++ rest)
text_byte_inside b rest i =
    let third : Bool → List ℕ = λ v. cond v (codes "&gt;") (b ∷ []) in
    let second : Bool → List ℕ = λ v. cond v (codes "&lt;") (third (b == 62)) in
    let first : Bool → List ℕ = λ v. cond v (codes "&amp;") (second (b == 60)) in
    elim (b == 38) as (λ v. (b == 38) ≡ v → Inside (first v ++ rest)) [
      | true ↦ λ a. entity_inside (codes "&amp;") rest refl refl refl i
      | false ↦ λ a. elim (b == 60) as (λ v. (b == 60) ≡ v → Inside (second v ++ rest)) [
        | true ↦ λ l. entity_inside (codes "&lt;") rest refl refl refl i
        | false ↦ λ l. elim (b == 62) as (λ v. (b == 62) ≡ v → Inside (third v ++ rest)) [
          | true ↦ λ g. entity_inside (codes "&gt;") rest refl refl refl i
          | false ↦ λ g. byte_inside b rest a l g i
        ] refl
      ] refl
    ] refl

text_byte_lacks : (b : ℕ) → (b == 34) ≡ false → lacks 34 (text_byte b) ≡ true
text_byte_lacks b h =
    let third : Bool → List ℕ = λ v. cond v (codes "&gt;") (b ∷ []) in
    let second : Bool → List ℕ = λ v. cond v (codes "&lt;") (third (b == 62)) in
    let first : Bool → List ℕ = λ v. cond v (codes "&amp;") (second (b == 60)) in
    elim (b == 38) as (λ v. lacks 34 (first v) ≡ true) [
      | true ↦ refl
      | false ↦ elim (b == 60) as (λ v. lacks 34 (second v) ≡ true) [
        | true ↦ refl
        | false ↦ elim (b == 62) as (λ v. lacks 34 (third v) ≡ true) [ true ↦ refl | false ↦ lacks_one 34 b h ]
      ]
    ]

abbrev Quoted : List ℕ → Type 0
Quoted bytes = Inside bytes × (lacks 34 bytes ≡ true)

attribute_byte_inside : (b : ℕ) (rest : List ℕ) → Quoted rest → Quoted (attribute_byte b ++ rest)
attribute_byte_inside b rest q =
    let byte : Bool → List ℕ = λ v. cond v (codes "&quot;") (text_byte b) in
    elim (b == 34) as (λ v. (b == 34) ≡ v → Quoted (byte v ++ rest)) [
      | true ↦ λ e. (entity_inside (codes "&quot;") rest refl refl refl q.0, lacks-append 34 (codes "&quot;") rest refl q.1)
      | false ↦ λ e. (text_byte_inside b rest q.0, lacks-append 34 (text_byte b) rest (text_byte_lacks b e) q.1)
    ] refl

pub texts_inside : (t : List ℕ) → Inside (escaped_text t)
texts_inside [] = record { no_less = refl; no_greater = refl; entities = nothing }
texts_inside (b ∷ t) = text_byte_inside b (escaped_text t) (texts_inside t)

pub attributes_inside : (t : List ℕ) → Inside (escaped_attribute t) × (lacks 34 (escaped_attribute t) ≡ true)
attributes_inside [] = (record { no_less = refl; no_greater = refl; entities = nothing }, refl)
attributes_inside (b ∷ t) = attribute_byte_inside b (escaped_attribute t) (attributes_inside t)
