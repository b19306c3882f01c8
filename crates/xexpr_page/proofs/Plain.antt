-- A text of plain bytes is on a page as it is.
use Rattle.std.proofs.Common.{◌≡◌, ℕ, Bool, true, false, List, [], ◌∷◌, refl, ap}
use Rattle.std.specs.Prelude.{◌==◌, ◌||◌, not}
use Rattle.std.specs.List.{list_all}
use Rattle.std.proofs.lemmas.Bool.{and_parts}
use Rattle.page_spec.specs.Markup.{text_byte, attribute_byte, escaped_text, escaped_attribute}
use Rattle.xexpr_page.specs.Plain.{is_plain_in_text, is_plain_in_attribute}

not_any : (x y z : Bool) → not (x || y || z) ≡ true → (x ≡ false) × ((y ≡ false) × (z ≡ false))
not_any true y z h = absurd (cc)
not_any false true z h = absurd (cc)
not_any false false true h = absurd (cc)
not_any false false false h = (refl, (refl, refl))

plain_byte : (b : ℕ) → is_plain_in_text b ≡ true → text_byte b ≡ b ∷ []
plain_byte b h =
    let q = not_any (b == 38) (b == 60) (b == 62) h in
    rw (q.0, q.1.0, q.1.1) refl

not_true : (x : Bool) → not x ≡ true → x ≡ false
not_true true h = absurd (cc)
not_true false h = refl

plain_in_attribute : (b : ℕ) → is_plain_in_attribute b ≡ true → attribute_byte b ≡ b ∷ []
plain_in_attribute b h =
    let q = and_parts (not (b == 34)) (is_plain_in_text b) h in
    rw (not_true (b == 34) q.0) (plain_byte b q.1)

pub plain_text : (t : List ℕ) → list_all is_plain_in_text t ≡ true → escaped_text t ≡ t
plain_text [] h = refl
plain_text (b ∷ bs) h =
    let q = and_parts (is_plain_in_text b) (list_all is_plain_in_text bs) h in
    rw (plain_byte b q.0) (ap (λ r. b ∷ r) (plain_text bs q.1))

pub plain_attribute : (t : List ℕ) → list_all is_plain_in_attribute t ≡ true → escaped_attribute t ≡ t
plain_attribute [] h = refl
plain_attribute (b ∷ bs) h =
    let q = and_parts (is_plain_in_attribute b) (list_all is_plain_in_attribute bs) h in
    rw (plain_in_attribute b q.0) (ap (λ r. b ∷ r) (plain_attribute bs q.1))
