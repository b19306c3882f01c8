-- Names of void elements, by their lengths.
use Rattle.std.proofs.Common.{inl, inr, ◌≡◌, ℕ, true, false, ◌&&◌, List, [], ◌∷◌, length, refl, sym, ap, ◌∙◌, subst, arith}
use Rattle.std.specs.Prelude.{◌==◌, ◌||◌, codes, nat_le}
use Rattle.std.specs.List.{list_any, list_all, filter}
use Rattle.std.specs.Str.{bytes_eq}
use Rattle.std.proofs.Math.Bool.{or-false}
use Rattle.std.proofs.lemmas.Bool.{and_parts, or_cases, eq-eqb, leb-true, false_from_ne_true}
use Rattle.std.proofs.lemmas.Slice.Eq.{bytes_eq-Decides}
use Rattle.std.proofs.lemmas.Map.Views.{any-filter_same}
use Rattle.page_spec.specs.Markup.{is_void, void_names}

-- a name is one of those of its own length, or none
void_of_length : (n : List ℕ) (k : ℕ) → length n ≡ k → is_void n ≡ list_any (bytes_eq n) (filter (λ (m : List ℕ). length m == k) void_names)
void_of_length n k h = sym (any-filter_same (bytes_eq n) (λ (m : List ℕ). length m == k) true same void_names)
  where
    same : (m : List ℕ) → bytes_eq n m ≡ true → (length m == k) ≡ true
    same m e = eq-eqb (length m) k (ap length (sym ((bytes_eq-Decides n m).0 e)) ∙ h)

pub void_of_2 : (n : List ℕ) → length n ≡ 2 → is_void n ≡ (bytes_eq n (codes "br") || bytes_eq n (codes "hr"))
void_of_2 n h = void_of_length n 2 h ∙ ap (λ b. bytes_eq n (codes "br") || b) (or-false (bytes_eq n (codes "hr")))

pub void_of_3 : (n : List ℕ) → length n ≡ 3 → is_void n ≡ (bytes_eq n (codes "col") || (bytes_eq n (codes "img") || bytes_eq n (codes "wbr")))
void_of_3 n h =
    void_of_length n 3 h ∙ ap (λ b. bytes_eq n (codes "col") || (bytes_eq n (codes "img") || b)) (or-false (bytes_eq n (codes "wbr")))

pub void_of_4 : (n : List ℕ) → length n ≡ 4
    → is_void n ≡ (bytes_eq n (codes "area") || (bytes_eq n (codes "base") || (bytes_eq n (codes "link") || bytes_eq n (codes "meta"))))
void_of_4 n h =
    void_of_length n 4 h
    ∙ ap (λ b. bytes_eq n (codes "area") || (bytes_eq n (codes "base") || (bytes_eq n (codes "link") || b))) (or-false (bytes_eq n (codes "meta")))

pub void_of_5 : (n : List ℕ) → length n ≡ 5 → is_void n ≡ (bytes_eq n (codes "embed") || (bytes_eq n (codes "input") || bytes_eq n (codes "track")))
void_of_5 n h =
    void_of_length n 5 h ∙ ap (λ b. bytes_eq n (codes "embed") || (bytes_eq n (codes "input") || b)) (or-false (bytes_eq n (codes "track")))

pub void_of_6 : (n : List ℕ) → length n ≡ 6 → is_void n ≡ bytes_eq n (codes "source")
void_of_6 n h = void_of_length n 6 h ∙ or-false (bytes_eq n (codes "source"))

-- a name among others that have a length from 2 to 6 has one too
named_length : (n : List ℕ) (ms : List (List ℕ)) → list_any (bytes_eq n) ms ≡ true
    → list_all (λ (m : List ℕ). nat_le 2 (length m) && nat_le (length m) 6) ms ≡ true → (nat_le 2 (length n) && nat_le (length n) 6) ≡ true
named_length n [] h k = absurd (cc)
named_length n (m ∷ ms) h k =
    let q = and_parts (nat_le 2 (length m) && nat_le (length m) 6) (list_all (λ (m : List ℕ). nat_le 2 (length m) && nat_le (length m) 6) ms) k in
    elim (or_cases (bytes_eq n m) (list_any (bytes_eq n) ms) h) [
      | inl e ↦ subst (λ a. (nat_le 2 (length a) && nat_le (length a) 6) ≡ true) (sym ((bytes_eq-Decides n m).0 e)) q.0
      | inr e ↦ named_length n ms e q.1
    ]

-- a name of another length is none of them
pub void_of_no_length : (n : List ℕ) → (length n ≡ 2 → ⊥) → (length n ≡ 3 → ⊥) → (length n ≡ 4 → ⊥) → (length n ≡ 5 → ⊥) → (length n ≡ 6 → ⊥)
    → is_void n ≡ false
void_of_no_length n h2 h3 h4 h5 h6 = false_from_ne_true (is_void n) (λ e.
    let q = and_parts (nat_le 2 (length n)) (nat_le (length n) 6) (named_length n void_names e refl) in
    omega (arith, leb-true 2 (length n) q.0, leb-true (length n) 6 q.1, h2, h3, h4, h5, h6))
