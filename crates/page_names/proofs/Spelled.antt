-- A destination and its one spelling.
use Rattle.std.proofs.Common.{◌≡◌, ℕ, ◌^◌, ◌<◌, true, List, ◌∷◌, ◌++◌, Option, Some, None, IsTrue, refl, ◌∙◌, ap, subst, arith, codes}
use Rattle.std.specs.List.{list_all}
use Rattle.std.specs.Char.{is_ascii_digit}
use Rattle.std.specs.Fmt.{decimal}
use Rattle.std.proofs.lemmas.Bool.{and_parts}
use Rattle.page_names.specs.declared.names.PageName.{PageName}
use Rattle.script_value.specs.Pieces.{cut_at, behind, number_below}
use Rattle.page_names.specs.Hex.{hex_number, hex16}
use Rattle.page_names.specs.Names.{is_name_byte, is_name, Destination, start, page, spelling, numbers_spelling, IsPageName, IsDestination, name_in, numbers_in, destination_in, named_by}
use Rattle.std.proofs.lemmas.Option.{cond_some, same_Some}
use Rattle.script_value.specs.Texts.{lacks}
use Rattle.script_value.proofs.Options.{bound, mapped}
use Rattle.script_value.proofs.Numerals.{number_spelled, number_found, decimal_digits}
use Rattle.page_names.proofs.Hex.{hex_spelled, hex_found}
use Rattle.script_value.proofs.Cuts.{behind_spelled, cut_spelled, cut_found, cut_none, lacking}

-- ---- what is read is spelled so

numbers_spelled : (bytes : List ℕ) (p : PageName) → numbers_in bytes ≡ Some p → (bytes ≡ numbers_spelling p) × IsPageName p
numbers_spelled bytes p e =
    let a = bound (cut_at 42 bytes) _ p e in
    let b = bound (cut_at 42 a.0.1) _ p a.2 in
    let c = bound (cut_at 42 b.0.1) _ p b.2 in
    let s = bound (number_below (2 ^ 32) a.0.0) _ p c.2 in
    let i = bound (number_below (2 ^ 64) b.0.0) _ p s.2 in
    let k = bound (number_below (2 ^ 64) c.0.0) _ p i.2 in
    let n = bound (hex_number c.0.1) _ p k.2 in
    let shelf = number_spelled (2 ^ 32) a.0.0 s.0 (omega arith) s.1 in
    let instance = number_spelled (2 ^ 64) b.0.0 i.0 (omega arith) i.1 in
    let number = number_spelled (2 ^ 64) c.0.0 k.0 (omega arith) k.1 in
    let nonce = hex_spelled c.0.1 n.0 n.1 in
    let one = cut_spelled 42 bytes a.0.0 a.0.1 a.1 in
    let two = cut_spelled 42 a.0.1 b.0.0 b.0.1 b.1 in
    let three = cut_spelled 42 b.0.1 c.0.0 c.0.1 c.1 in
    let read : PageName = record { shelf = s.0; instance = i.0; page = k.0; nonce = n.0 } in
    let last : b.0.1 ≡ decimal k.0 ++ 42 ∷ hex16 n.0 =
    three ∙ ap (λ x. x ++ 42 ∷ c.0.1) number.0 ∙ ap (λ x. decimal k.0 ++ 42 ∷ x) nonce.0 in
    let later : a.0.1 ≡ decimal i.0 ++ 42 ∷ (decimal k.0 ++ 42 ∷ hex16 n.0) =
    two ∙ ap (λ x. x ++ 42 ∷ b.0.1) instance.0 ∙ ap (λ x. decimal i.0 ++ 42 ∷ x) last in
    let spelled : bytes ≡ numbers_spelling read =
    one ∙ ap (λ x. x ++ 42 ∷ a.0.1) shelf.0 ∙ ap (λ x. decimal s.0 ++ 42 ∷ x) later in
    let fits : IsPageName read = record { shelf = shelf.1; instance = instance.1; page = number.1; nonce = nonce.1 } in
    let P : PageName → Type 0 = λ q. (bytes ≡ numbers_spelling q) × IsPageName q in
    subst P (same_Some _ _ n.2) (spelled, fits)

name_spelled : (bytes name : List ℕ) → name_in bytes ≡ Some name → (bytes ≡ name) × IsTrue (is_name name)
name_spelled bytes name e =
    let c = cond_some (is_name bytes) bytes name e in
    let P : List ℕ → Type 0 = λ n. IsTrue (is_name n) in
    (c.1, subst P c.1 c.0)

inner_spelled : (bytes : List ℕ) (cut : Option (List ℕ × List ℕ)) (d : Destination) → cut_at 59 bytes ≡ cut → destination_in bytes cut ≡ Some d
    → (codes "/servlets/" ++ bytes ≡ spelling d) × IsDestination d
inner_spelled bytes None d cut e =
    let m = mapped (name_in bytes) start d e in
    let named = name_spelled bytes m.0 m.1 in
    let P : Destination → Type 0 = λ x. (codes "/servlets/" ++ bytes ≡ spelling x) × IsDestination x in
    subst P m.2 (ap (λ xs. codes "/servlets/" ++ xs) named.0, named.1)
inner_spelled bytes (Some parts) d cut e =
    let a = bound (name_in parts.0) _ d e in
    let b = bound (numbers_in parts.1) _ d a.2 in
    let named = name_spelled parts.0 a.0 a.1 in
    let numbered = numbers_spelled parts.1 b.0 b.1 in
    let whole : bytes ≡ a.0 ++ 59 ∷ numbers_spelling b.0 =
    cut_spelled 59 bytes parts.0 parts.1 cut ∙ ap (λ n. n ++ 59 ∷ parts.1) named.0 ∙ ap (λ n. a.0 ++ 59 ∷ n) numbered.0 in
    let P : Destination → Type 0 = λ x. (codes "/servlets/" ++ bytes ≡ spelling x) × IsDestination x in
    subst P (same_Some _ _ b.2) (ap (λ xs. codes "/servlets/" ++ xs) whole, (named.1, numbered.1))

-- bytes that name a destination are its spelling
pub named_spelled : (bytes : List ℕ) (d : Destination) → named_by bytes ≡ Some d → (bytes ≡ spelling d) × IsDestination d
unfolding named_by
named_spelled bytes d e =
    let b = bound (behind (codes "/servlets/") bytes) _ d e in
    let inner = inner_spelled b.0 (cut_at 59 b.0) d refl b.2 in
    (behind_spelled (codes "/servlets/") bytes b.0 b.1 ∙ inner.0, inner.1)

-- ---- what is spelled so is read

starless : (n : ℕ) → n < 2 ^ 64 → lacks 42 (decimal n) ≡ true
starless n small = lacking is_ascii_digit 42 refl (decimal n) (decimal_digits n small)

numbers_found : (p : PageName) → IsPageName p → numbers_in (numbers_spelling p) ≡ Some p
numbers_found p fits =
    let after_page = hex16 p.nonce in
    let after_instance = decimal p.page ++ 42 ∷ hex16 p.nonce in
    let after_shelf = decimal p.instance ++ 42 ∷ (decimal p.page ++ 42 ∷ hex16 p.nonce) in
    let one = cut_found 42 (decimal p.shelf) after_shelf (starless p.shelf (omega (arith, fits.shelf))) in
    let two = cut_found 42 (decimal p.instance) after_instance (starless p.instance fits.instance) in
    let three = cut_found 42 (decimal p.page) after_page (starless p.page fits.page) in
    let s = number_found (2 ^ 32) p.shelf (omega arith) fits.shelf in
    let i = number_found (2 ^ 64) p.instance (omega arith) fits.instance in
    let k = number_found (2 ^ 64) p.page (omega arith) fits.page in
    let n = hex_found p.nonce fits.nonce in
    rw (one, two, three, s, i, k, n) refl

ends : (name : List ℕ) → IsTrue (is_name name) → lacks 59 name ≡ true
ends name is = let two = and_parts _ (list_all is_name_byte name) is in lacking is_name_byte 59 refl name two.1

-- a destination's spelling names it
pub spelling_named : (d : Destination) → IsDestination d → named_by (spelling d) ≡ Some d
unfolding named_by
spelling_named (start name) is = let whole = cut_none 59 name (ends name is) in rw (whole, is) refl
spelling_named (page name numbers) is =
    let cut = cut_found 59 name (numbers_spelling numbers) (ends name is.0) in
    let found = numbers_found numbers is.1 in
    rw (cut, is.0, found) refl
