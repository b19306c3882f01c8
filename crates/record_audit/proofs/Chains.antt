-- Chains of pages, walked from the newest on.
use Rattle.std.proofs.Common.{◌≡◌, ◌∙◌, ap, sym, ℕ, suc, List, [], ◌∷◌, ◌++◌, map, reverse, append_assoc, Option, Some, None, refl, subst}
use Rattle.std.proofs.lemmas.List.{map-append, reverse-append}
use Rattle.replay_spec.specs.Book.{Page, parent_of, chain_within}
use Rattle.replay_spec.proofs.Ancestors.{chain_none}

pub map_reverse : {A B : Type 0} (f : A → B) (xs : List A) → map f (reverse xs) ≡ reverse (map f xs)
map_reverse f [] = refl
map_reverse f (x ∷ xs) =
    let here = reverse-append (x ∷ []) xs in
    let there = reverse-append (f x ∷ []) (map f xs) in
    let both = map-append f (reverse xs) (x ∷ []) in
    let more = map_reverse f xs in
    cc

module _ {A : Type 0} (f : Page → A) (ps : List Page) (whole : List A) where
  -- what is left of a chain, before what was walked of it, the newest first
  abbrev pub IsLeft : (n : ℕ) → Option Page → (walked : List A) → Type 0
  IsLeft n o walked = map f (chain_within n ps o) ++ reverse walked ≡ whole

  -- one page more is walked
  pub left_step : (n m : ℕ) (p : Page) (o : Option Page) (walked : List A) → n ≡ suc m → parent_of ps p.parent ≡ o → IsLeft n (Some p) walked → IsLeft m o (walked ++ f p ∷ [])
  left_step n m p o walked more parent left =
      let now : map f (chain_within m ps (parent_of ps p.parent) ++ p ∷ []) ++ reverse walked ≡ whole = subst (λ (k : ℕ). IsLeft k (Some p) walked) more left in
      let front = map-append f (chain_within m ps (parent_of ps p.parent)) (p ∷ []) in
      let back = reverse-append walked (f p ∷ []) in
      let grouped = append_assoc (map f (chain_within m ps (parent_of ps p.parent))) (f p ∷ []) (reverse walked) in
      let goal : map f (chain_within m ps (parent_of ps p.parent)) ++ reverse (walked ++ f p ∷ []) ≡ whole = cc in
      subst (λ (x : Option Page). IsLeft m x (walked ++ f p ∷ [])) parent goal

  -- at its first page nothing is left
  pub left_none : (n : ℕ) (walked : List A) → IsLeft n None walked → reverse walked ≡ whole
  left_none n walked left = ap (λ (xs : List Page). map f xs ++ reverse walked) (sym (chain_none n ps)) ∙ left
