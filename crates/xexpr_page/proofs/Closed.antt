-- What is well formed closes its elements.
use Rattle.std.proofs.Common.{inl, inr, ◌≡◌, ℕ, Bool, true, false, ◌&&◌, not, List, [], ◌∷◌, ◌++◌, Some, None, refl, sym, ap, ◌∙◌, subst, append_assoc, append-nil}
use Rattle.std.specs.Prelude.{◌==◌, codes}
use Rattle.std.specs.List.{list_all, list_any}
use Rattle.std.specs.Str.{bytes_eq}
use Rattle.std.proofs.lemmas.Bool.{cond-true, cond-false, and_parts, eqb-true, or_cases, and_from, false_from_ne_true, true≢false}
use Rattle.std.proofs.lemmas.List.Sums.{take_while-cons}
use Rattle.std.proofs.lemmas.Slice.Eq.{bytes_eq-Decides}
use Rattle.script_value.specs.Texts.{lacks}
use Rattle.script_value.proofs.Texts.{lacks-append}
use Rattle.page_spec.specs.Markup.{is_lower, is_element_byte, is_raw_text, is_attribute_byte, is_void, void_names, is_element, is_attribute, is_entity_name, is_letter, is_letter_or_digit, named_entity, start_tag, end_tag}
use Rattle.page_spec.specs.Nesting.{AreAttributes, no_more, one_more, IsMarkup, empty, characters, an_entity, a_void_tag, an_element}
use Rattle.page_spec.specs.Tags.{opened_by, name_of, open_behind, fits, fits_in_tag, MarkupCloses}
use Rattle.xexpr_page.proofs.Grammar.{element_not_void}

-- bytes that pass a test lack a byte that fails it
lacks_one : (p : ℕ → Bool) (c b : ℕ) → p c ≡ false → p b ≡ true → (b == c) ≡ false
lacks_one p c b h k = false_from_ne_true (b == c) (λ e. true≢false (sym k ∙ (ap p (eqb-true b c e) ∙ h)))

lacks_all : (p : ℕ → Bool) (c : ℕ) (bs : List ℕ) → p c ≡ false → list_all p bs ≡ true → lacks c bs ≡ true
lacks_all p c [] h k = refl
lacks_all p c (b ∷ bs) h k =
    let q = and_parts (p b) (list_all p bs) k in
    rw (lacks_one p c b h q.0, lacks_all p c bs h q.1) refl

lacks_first : (c b : ℕ) (bs : List ℕ) → lacks c (b ∷ bs) ≡ true → ((b == c) ≡ false) × (lacks c bs ≡ true)
lacks_first c b bs h = let q = and_parts (not (b == c)) (lacks c bs) h in (not_parts (b == c) q.0, q.1)
  where
    not_parts : (x : Bool) → not x ≡ true → x ≡ false
    not_parts true h = absurd (cc)
    not_parts false h = refl

-- characters open and close nothing
over_characters : (names : List (List ℕ)) (t bs : List ℕ) → lacks 60 t ≡ true → lacks 62 t ≡ true → fits (Some names) (t ++ bs) ≡ fits (Some names) bs
over_characters names [] bs h k = refl
over_characters names (b ∷ t) bs h k =
    let l = lacks_first 60 b t h in
    let g = lacks_first 62 b t k in
    rw (l.0, g.0) (over_characters names t bs l.1 g.1)

-- a tag is read up to its end
over_tag : (tag : List ℕ) (names : List (List ℕ)) (t bs : List ℕ) → lacks 60 t ≡ true → lacks 62 t ≡ true
    → fits_in_tag tag names (t ++ 62 ∷ bs) ≡ fits (open_behind (tag ++ t) names) bs
over_tag tag names [] bs h k = ap (λ a. fits (open_behind a names) bs) (sym (append-nil tag))
over_tag tag names (b ∷ t) bs h k =
    let l = lacks_first 60 b t h in
    let g = lacks_first 62 b t k in
    rw (l.0, g.0)
    (over_tag (tag ++ b ∷ []) names t bs l.1 g.1 ∙ ap (λ a. fits (open_behind a names) bs) (append_assoc tag (b ∷ []) t))

-- names hold nothing but element bytes
void_bytes : (n : List ℕ) → is_void n ≡ true → list_all is_element_byte n ≡ true
void_bytes n h = all_named n void_names h refl
  where
    named : (n m : List ℕ) → bytes_eq n m ≡ true → list_all is_element_byte m ≡ true → list_all is_element_byte n ≡ true
    named n m e k = subst (λ a. list_all is_element_byte a ≡ true) (sym ((bytes_eq-Decides n m).0 e)) k

    all_named : (n : List ℕ) (ms : List (List ℕ)) → list_any (bytes_eq n) ms ≡ true → list_all (list_all is_element_byte) ms ≡ true → list_all is_element_byte n ≡ true
    all_named n [] h k = absurd (cc)
    all_named n (m ∷ ms) h k =
        let q = and_parts (list_all is_element_byte m) (list_all (list_all is_element_byte) ms) k in
        elim (or_cases (bytes_eq n m) (list_any (bytes_eq n) ms) h) [
          | inl e ↦ named n m e q.0
          | inr e ↦ all_named n ms e q.1
        ]

element_bytes : (n : List ℕ) → is_element n ≡ true → list_all is_element_byte n ≡ true
element_bytes [] h = absurd (cc)
element_bytes (b ∷ bs) h =
    let p = first_two (is_lower b) (list_all is_element_byte bs) (not (is_void (b ∷ bs))) (not (is_raw_text (b ∷ bs))) h in
    and_from (is_element_byte b) (list_all is_element_byte bs) (rw p.0 refl) p.1
  where
    first_two : (x y z u : Bool) → (x && y && z && u) ≡ true → (x ≡ true) × (y ≡ true)
    first_two x y z u h = and_parts x y (and_parts (x && y) z (and_parts (x && y && z) u h).0).0

attribute_bytes : (n : List ℕ) → is_attribute n ≡ true → list_all is_attribute_byte n ≡ true
attribute_bytes [] h = absurd (cc)
attribute_bytes (b ∷ bs) h =
    let p = and_parts (is_letter b) (list_all is_attribute_byte bs) h in
    and_from (is_attribute_byte b) (list_all is_attribute_byte bs) (rw p.0 refl) p.1

entity_bytes : (n : List ℕ) → is_entity_name n ≡ true → list_all is_letter_or_digit n ≡ true
entity_bytes [] h = absurd (cc)
entity_bytes (b ∷ bs) h =
    let p = and_parts (is_letter b) (list_all is_letter_or_digit bs) h in
    and_from (is_letter_or_digit b) (list_all is_letter_or_digit bs) (rw p.0 refl) p.1

-- bytes without `<` and `>`
abbrev NoTag : List ℕ → Type 0
NoTag t = (lacks 60 t ≡ true) × (lacks 62 t ≡ true)

no_tag_behind : (a b : List ℕ) → NoTag a → NoTag b → NoTag (a ++ b)
no_tag_behind a b h k = (lacks-append 60 a b h.0 k.0, lacks-append 62 a b h.1 k.1)

-- what stands after a tag's name: nothing, or a space first
abbrev IsBehindName : List ℕ → Type 0
IsBehindName [] = Unit {0}
IsBehindName (b ∷ bs) = b ≡ 32

no_tag_in_attributes : {a : List ℕ} → AreAttributes a → NoTag a
no_tag_in_attributes no_more = (refl, refl)
no_tag_in_attributes (one_more n t others named i quoted more) =
    let name = attribute_bytes n named in
    let first = no_tag_behind (codes " ") n (refl, refl) (lacks_all is_attribute_byte 60 n refl name, lacks_all is_attribute_byte 62 n refl name) in
    let equals = no_tag_behind (codes " " ++ n) (codes "=\"") first (refl, refl) in
    let value = no_tag_behind (codes " " ++ n ++ codes "=\"") t equals (i.no_less, i.no_greater) in
    let pair = no_tag_behind (codes " " ++ n ++ codes "=\"" ++ t) (codes "\"") value (refl, refl) in
    no_tag_behind (codes " " ++ n ++ codes "=\"" ++ t ++ codes "\"") others pair (no_tag_in_attributes more)

attributes_behind_name : {a : List ℕ} → AreAttributes a → IsBehindName a
attributes_behind_name no_more = tt
attributes_behind_name (one_more n t others named i quoted more) = refl

-- a tag's name ends before its attributes
name_read : (n a : List ℕ) → lacks 32 n ≡ true → IsBehindName a → name_of (n ++ a) ≡ n
name_read [] [] h k = refl
name_read [] (b ∷ a) h k = take_while-cons (λ c. not (c == 32)) b a ∙ rw k refl
name_read (b ∷ n) a h k =
    let l = lacks_first 32 b n h in
    take_while-cons (λ c. not (c == 32)) b (n ++ a) ∙ rw l.0 (ap (λ c. b ∷ c) (name_read n a l.1 k))

-- a name of element bytes has no space, no tag, and no `/` first
record IsName (n : List ℕ) : Type 0 where
  no_space : lacks 32 n ≡ true
  no_slash : lacks 47 n ≡ true
  no_tag : NoTag n

name_of_element_bytes : (n : List ℕ) → list_all is_element_byte n ≡ true → IsName n
name_of_element_bytes n h =
    record {
      no_space = lacks_all is_element_byte 32 n refl h;
      no_slash = lacks_all is_element_byte 47 n refl h;
      no_tag = (lacks_all is_element_byte 60 n refl h, lacks_all is_element_byte 62 n refl h);
    }

-- what a start tag opens, and an end tag closes
over_start : (names : List (List ℕ)) (b : ℕ) (n a bs : List ℕ) → list_all is_element_byte (b ∷ n) ≡ true → AreAttributes a
    → fits (Some names) (start_tag (b ∷ n) a ++ bs) ≡ fits (opened_by (b ∷ n) names) bs
over_start names b n a bs h k =
    let f = name_of_element_bytes (b ∷ n) h in
    let l = lacks_first 47 b n f.no_slash in
    let inner = no_tag_behind (b ∷ n) a f.no_tag (no_tag_in_attributes k) in
    ap (λ c. fits_in_tag [] names c) (append_assoc ((b ∷ n) ++ a) (codes ">") bs)
    ∙ over_tag [] names ((b ∷ n) ++ a) bs inner.0 inner.1
    ∙ ap (λ o. fits o bs) (cond-false (b == 47) _ _ l.0 ∙ ap (λ c. opened_by c names) (name_read (b ∷ n) a f.no_space (attributes_behind_name k)))

over_end : (names : List (List ℕ)) (n bs : List ℕ) → list_all is_element_byte n ≡ true → fits (Some (n ∷ names)) (end_tag n ++ bs) ≡ fits (Some names) bs
over_end names n bs h =
    let f = name_of_element_bytes n h in
    let inner = no_tag_behind (codes "/") n (refl, refl) f.no_tag in
    ap (λ c. fits_in_tag [] (n ∷ names) (47 ∷ c)) (append_assoc n (codes ">") bs)
    ∙ over_tag [] (n ∷ names) (47 ∷ n) bs inner.0 inner.1
    ∙ ap (λ o. fits o bs) (cond-true (bytes_eq n n) (Some names) None ((bytes_eq-Decides n n).1 refl))

over_void : (names : List (List ℕ)) (n a bs : List ℕ) → is_void n ≡ true → AreAttributes a → fits (Some names) (start_tag n a ++ bs) ≡ fits (Some names) bs
over_void names [] a bs h k = absurd (cc)
over_void names (b ∷ n) a bs h k =
    over_start names b n a bs (void_bytes (b ∷ n) h) k ∙ ap (λ o. fits o bs) (cond-true (is_void (b ∷ n)) (Some names) (Some ((b ∷ n) ∷ names)) h)

over_opening : (names : List (List ℕ)) (n a bs : List ℕ) → is_element n ≡ true → AreAttributes a → fits (Some names) (start_tag n a ++ bs) ≡ fits (Some (n ∷ names)) bs
over_opening names [] a bs h k = absurd (cc)
over_opening names (b ∷ n) a bs h k =
    over_start names b n a bs (element_bytes (b ∷ n) h) k
    ∙ ap (λ o. fits o bs) (cond-false (is_void (b ∷ n)) (Some names) (Some ((b ∷ n) ∷ names)) (element_not_void (b ∷ n) h))

over_entity : (names : List (List ℕ)) (n bs : List ℕ) → is_entity_name n ≡ true → fits (Some names) (named_entity n ++ bs) ≡ fits (Some names) bs
over_entity names n bs h =
    let e = entity_bytes n h in
    let name = no_tag_behind (codes "&") n (refl, refl) (lacks_all is_letter_or_digit 60 n refl e, lacks_all is_letter_or_digit 62 n refl e) in
    let whole = no_tag_behind (codes "&" ++ n) (codes ";") name (refl, refl) in
    over_characters names (named_entity n) bs whole.0 whole.1

parts_of : (s i e o bs : List ℕ) → ((s ++ i ++ e) ++ o) ++ bs ≡ s ++ (i ++ (e ++ (o ++ bs)))
parts_of s i e o bs = append_assoc (s ++ i ++ e) o bs ∙ (append_assoc (s ++ i) e (o ++ bs) ∙ append_assoc s i (e ++ (o ++ bs)))

-- markup leaves open what was open
over_markup : {m : List ℕ} (names : List (List ℕ)) (bs : List ℕ) → IsMarkup m → fits (Some names) (m ++ bs) ≡ fits (Some names) bs
over_markup names bs empty = refl
over_markup names bs (characters t others i more) =
    ap (λ c. fits (Some names) c) (append_assoc t others bs) ∙ over_characters names t (others ++ bs) i.no_less i.no_greater ∙ over_markup names bs more
over_markup names bs (an_entity n others named more) =
    ap (λ c. fits (Some names) c) (append_assoc (named_entity n) others bs) ∙ over_entity names n (others ++ bs) named ∙ over_markup names bs more
over_markup names bs (a_void_tag n a others named k more) =
    ap (λ c. fits (Some names) c) (append_assoc (start_tag n a) others bs) ∙ over_void names n a (others ++ bs) named k ∙ over_markup names bs more
over_markup names bs (an_element n a inner others named k i more) =
    ap (λ c. fits (Some names) c) (parts_of (start_tag n a) inner (end_tag n) others bs)
    ∙ over_opening names n a (inner ++ (end_tag n ++ (others ++ bs))) named k
    ∙ over_markup (n ∷ names) (end_tag n ++ (others ++ bs)) i
    ∙ over_end names n (others ++ bs) (element_bytes n named)
    ∙ over_markup names bs more

pub markup_closes : MarkupCloses
markup_closes bytes m = ap (λ c. fits (Some []) c) (sym (append-nil bytes)) ∙ over_markup [] [] m
