-- Fields of a head, taken one by one, and blanks at the ends of a text.
use Rattle.std.proofs.Common.{◌≡◌, ◌≤◌, ◌<◌, ◌+◌, Some, None, nat_lt, ◌*◌, ◌-◌, ◌||◌, ◌++◌, ◌∷◌, ℕ, suc, List, [], Bool, true, false, length, take, drop, map, get_or, arith, refl, sym, ap, ◌∙◌, subst, append-nil, zero}
use Rattle.std.specs.Prelude.{if◌then◌else◌}
use Rattle.std.specs.Char.{digit_value}
use Rattle.std.specs.Int.{IsInRange}
use Rattle.std.proofs.lemmas.Bool.Decides.{nat_tests}
use Rattle.std.proofs.lemmas.Str.{digit_value_digit}
use Rattle.std.proofs.lemmas.List.{take_more, map-append}
use Rattle.std.proofs.lemmas.Int.Digits.{digits_value_push}
use Rattle.std.specs.Char.{is_ascii_digit}
use Rattle.std.specs.List.{All, list_all, list_any, slice_split, position, position_or_len, before_first, after_first}
use Rattle.std.proofs.lemmas.List.Splits.{slice_split_first, slice_split_none}
use Rattle.std.proofs.lemmas.List.Folds.{list_any-append}
use Rattle.std.proofs.lemmas.List.Sums.{fails_before_first}
use Rattle.httparse.specs.Grammar.{trim_ows}
use Rattle.std.specs.Str.{str_eq_ignore_ascii_case}
use Rattle.std.specs.Str.Parse.{digits_value}
use Rattle.std.proofs.Math.Bool.{or-false}
use Rattle.httparse.specs.Spans.{header_bytes}
use Rattle.httparse.specs.declared.spans.HeaderSpan.{HeaderSpan}
use Rattle.http_forms.specs.Fields.{values_of, is_comma, is_close, options, say_close}
use Rattle.http_forms.specs.Found.{IsFound}
use Rattle.http_forms.specs.declared.fields.Found.{Found}

values_of-append : (name : List ℕ) (xs ys : List (List ℕ × List ℕ)) → values_of name (xs ++ ys) ≡ values_of name xs ++ values_of name ys
values_of-append name [] ys = refl
values_of-append name (x ∷ xs) ys = grind (arith, values_of-append name xs ys)

one_more : (name : List ℕ) (values : List (List ℕ)) (field : List ℕ × List ℕ)
    → values ++ values_of name (field ∷ []) ≡ (if str_eq_ignore_ascii_case field.0 name then values ++ field.1 ∷ [] else values)
one_more name values field = grind (arith, append-nil values)

-- the values of the first fields and of one more
pub values_more : (name : List ℕ) (lines : List ℕ) (hs : List HeaderSpan) (i : ℕ) (d : HeaderSpan) → i < length hs
    → values_of name (map (header_bytes lines) (take (i + 1) hs))
    ≡ (if str_eq_ignore_ascii_case (header_bytes lines (get_or hs i d)).0 name then values_of name (map (header_bytes lines) (take i hs)) ++ (header_bytes lines (get_or hs i d)).1 ∷ [] else values_of name (map (header_bytes lines) (take i hs)))
values_more name lines hs i d h =
    ap (λ xs. values_of name (map (header_bytes lines) xs)) (take_more hs i d h)
    ∙ (ap (values_of name) (map-append (header_bytes lines) (take i hs) (get_or hs i d ∷ []))
    ∙ (values_of-append name (map (header_bytes lines) (take i hs)) (header_bytes lines (get_or hs i d) ∷ [])
    ∙ one_more name (values_of name (map (header_bytes lines) (take i hs))) (header_bytes lines (get_or hs i d))))

each_digit : (ds : List ℕ) (i : ℕ) → i < length ds → list_all is_ascii_digit ds ≡ true → is_ascii_digit (get_or ds i 0) ≡ true
each_digit [] i h all = absurd (omega arith)
each_digit (d ∷ ds) zero h all = grind (arith, all)
each_digit (d ∷ ds) (suc i) h all = each_digit ds i (omega arith) (grind (arith, all))

digit_at : (d : ℕ) → is_ascii_digit d ≡ true → digit_value d ≡ d - 48
digit_at d h = let r : IsInRange 48 57 d = grind (arith, nat_tests, h) in let e = digit_value_digit d r in omega arith

-- the number of the first digits and of one more
pub number_more : (ds : List ℕ) (i : ℕ) → i < length ds → list_all is_ascii_digit ds ≡ true
    → digits_value 10 (take (i + 1) ds) ≡ digits_value 10 (take i ds) * 10 + (get_or ds i 0 - 48)
number_more ds i h all =
    ap (digits_value 10) (take_more ds i 0 h) ∙ (digits_value_push 10 (take i ds) (get_or ds i 0)
    ∙ ap (λ d. digits_value 10 (take i ds) * 10 + d) (digit_at (get_or ds i 0) (each_digit ds i h all)))

test_true : {A : Type 0} (b : Bool) (x y : A) → b ≡ true → (if b then x else y) ≡ x
test_true true x y h = refl
test_true false x y h = absurd (cc)

test_false : {A : Type 0} (b : Bool) (x y : A) → b ≡ false → (if b then x else y) ≡ y
test_false true x y h = absurd (cc)
test_false false x y h = refl

-- what is found with one field more, of this name or of another
pub found_one : (name tested label value lines : List ℕ) (hs : List HeaderSpan) (i : ℕ) (d : HeaderSpan) (found more : Found) → i < length hs
    → label ≡ (header_bytes lines (get_or hs i d)).0 → value ≡ (header_bytes lines (get_or hs i d)).1 → tested ≡ name → true ≡ str_eq_ignore_ascii_case label tested
    → IsFound (values_of name (map (header_bytes lines) (take i hs))) found
    → ((values : List (List ℕ)) → IsFound values found → IsFound (values ++ value ∷ []) more)
    → IsFound (values_of name (map (header_bytes lines) (take (i + 1) hs))) more
found_one name tested label value lines hs i d found more h is val same test so_far f =
    let yes : str_eq_ignore_ascii_case (header_bytes lines (get_or hs i d)).0 name ≡ true = sym (test ∙ (ap (λ x. str_eq_ignore_ascii_case x tested) is ∙ ap (str_eq_ignore_ascii_case (header_bytes lines (get_or hs i d)).0) same)) in
    subst (λ vs. IsFound vs more) (sym (values_more name lines hs i d h ∙ test_true _ _ _ yes))
    (subst (λ (v : List ℕ). IsFound (values_of name (map (header_bytes lines) (take i hs)) ++ v ∷ []) more) val (f (values_of name (map (header_bytes lines) (take i hs))) so_far))

pub found_same : (name tested label lines : List ℕ) (hs : List HeaderSpan) (i : ℕ) (d : HeaderSpan) (found : Found) → i < length hs
    → label ≡ (header_bytes lines (get_or hs i d)).0 → tested ≡ name → false ≡ str_eq_ignore_ascii_case label tested
    → IsFound (values_of name (map (header_bytes lines) (take i hs))) found → IsFound (values_of name (map (header_bytes lines) (take (i + 1) hs))) found
found_same name tested label lines hs i d found h is same test so_far =
    let other : str_eq_ignore_ascii_case (header_bytes lines (get_or hs i d)).0 name ≡ false = sym (test ∙ (ap (λ x. str_eq_ignore_ascii_case x tested) is ∙ ap (str_eq_ignore_ascii_case (header_bytes lines (get_or hs i d)).0) same)) in
    subst (λ vs. IsFound vs found) (sym (values_more name lines hs i d h ∙ test_false _ _ _ other)) so_far

-- values, and one more
say_close-push : (values : List (List ℕ)) (value : List ℕ) → say_close (values ++ value ∷ []) ≡ (say_close values || list_any is_close (options value))
say_close-push values value =
    list_any-append (λ v. list_any is_close (options v)) values (value ∷ []) ∙ ap (λ (b : Bool). say_close values || b) (or-false (list_any is_close (options value)))

-- whether it is said that the connection closes, with one field more, of this name or of another
pub says_one : (name tested label value lines : List ℕ) (hs : List HeaderSpan) (i : ℕ) (d : HeaderSpan) (says more : Bool) → i < length hs
    → label ≡ (header_bytes lines (get_or hs i d)).0 → value ≡ (header_bytes lines (get_or hs i d)).1 → tested ≡ name → true ≡ str_eq_ignore_ascii_case label tested
    → says ≡ say_close (values_of name (map (header_bytes lines) (take i hs))) → more ≡ (says || list_any is_close (options value))
    → more ≡ say_close (values_of name (map (header_bytes lines) (take (i + 1) hs)))
says_one name tested label value lines hs i d says more h is val same test so_far now =
    let yes : str_eq_ignore_ascii_case (header_bytes lines (get_or hs i d)).0 name ≡ true = sym (test ∙ (ap (λ x. str_eq_ignore_ascii_case x tested) is ∙ ap (str_eq_ignore_ascii_case (header_bytes lines (get_or hs i d)).0) same)) in
    let values = values_of name (map (header_bytes lines) (take i hs)) in
    now ∙ (ap (λ (b : Bool). b || list_any is_close (options value)) so_far
    ∙ (ap (λ (v : List ℕ). say_close values || list_any is_close (options v)) val
    ∙ (sym (say_close-push values (header_bytes lines (get_or hs i d)).1) ∙ ap say_close (sym (values_more name lines hs i d h ∙ test_true _ _ _ yes)))))

pub says_same : (name tested label lines : List ℕ) (hs : List HeaderSpan) (i : ℕ) (d : HeaderSpan) (says : Bool) → i < length hs
    → label ≡ (header_bytes lines (get_or hs i d)).0 → tested ≡ name → false ≡ str_eq_ignore_ascii_case label tested
    → says ≡ say_close (values_of name (map (header_bytes lines) (take i hs))) → says ≡ say_close (values_of name (map (header_bytes lines) (take (i + 1) hs)))
says_same name tested label lines hs i d says h is same test so_far =
    let other : str_eq_ignore_ascii_case (header_bytes lines (get_or hs i d)).0 name ≡ false = sym (test ∙ (ap (λ x. str_eq_ignore_ascii_case x tested) is ∙ ap (str_eq_ignore_ascii_case (header_bytes lines (get_or hs i d)).0) same)) in
    so_far ∙ ap say_close (sym (values_more name lines hs i d h ∙ test_false _ _ _ other))

-- ---- options between commas

-- where the first comma is
comma_at : (value : List ℕ) (i : ℕ) → position is_comma value ≡ Some i → (position_or_len is_comma value ≡ i) × (i < length value)
comma_at value i is = by_test (nat_lt (position_or_len is_comma value) (length value)) refl
  where
    by_test : (b : Bool) → nat_lt (position_or_len is_comma value) (length value) ≡ b → (position_or_len is_comma value ≡ i) × (i < length value)
    by_test true e =
        let same : position_or_len is_comma value ≡ i = (let f : Some (position_or_len is_comma value) ≡ Some i = sym (rw e refl) ∙ is in cc) in
        (same, grind (arith, nat_tests, e, same))
    by_test false e = (let f : None ≡ Some i = sym (rw e refl) ∙ is in cc)

-- where there is none
no_comma : (value : List ℕ) → position is_comma value ≡ None → length value ≤ position_or_len is_comma value
no_comma value is = by_test (nat_lt (position_or_len is_comma value) (length value)) refl
  where
    by_test : (b : Bool) → nat_lt (position_or_len is_comma value) (length value) ≡ b → length value ≤ position_or_len is_comma value
    by_test true e = (let f : Some (position_or_len is_comma value) ≡ None = sym (rw e refl) ∙ is in cc)
    by_test false e = grind (arith, nat_tests, e)

-- the part before the first comma, and the others
options_first : (value : List ℕ) (i : ℕ) → position is_comma value ≡ Some i
    → list_any is_close (options value) ≡ (is_close (trim_ows (take i value)) || list_any is_close (options (drop (i + 1) value)))
options_first value i is =
    let at = comma_at value i is in
    let cut : slice_split is_comma value ≡ before_first is_comma value ∷ slice_split is_comma (after_first is_comma value) = slice_split_first is_comma value 0 (omega (arith, at.0, at.1)) in
    ap (λ (parts : List (List ℕ)). list_any is_close (map trim_ows parts)) cut
    ∙ ap (λ (k : ℕ). is_close (trim_ows (take k value)) || list_any is_close (options (drop (k + 1) value))) at.0

-- it is the option
pub close_first : (value rest : List ℕ) (i : ℕ) (b : Bool) → position is_comma rest ≡ Some i → list_any is_close (options rest) ≡ list_any is_close (options value)
    → b ≡ is_close (trim_ows (take i rest)) → b ≡ true → true ≡ list_any is_close (options value)
close_first value rest i b is so_far test says =
    sym (sym so_far ∙ (options_first rest i is ∙ ap (λ (x : Bool). x || list_any is_close (options (drop (i + 1) rest))) (sym test ∙ says)))

-- it is another one
pub close_later : (value rest : List ℕ) (i : ℕ) (b : Bool) → position is_comma rest ≡ Some i → list_any is_close (options rest) ≡ list_any is_close (options value)
    → b ≡ is_close (trim_ows (take i rest)) → b ≡ false → list_any is_close (options (drop (i + 1) rest)) ≡ list_any is_close (options value)
close_later value rest i b is so_far test other =
    sym (options_first rest i is ∙ ap (λ (x : Bool). x || list_any is_close (options (drop (i + 1) rest))) (sym test ∙ other)) ∙ so_far

-- it is the last one
pub close_last : (value rest : List ℕ) (b : Bool) → position is_comma rest ≡ None → list_any is_close (options rest) ≡ list_any is_close (options value)
    → b ≡ is_close (trim_ows rest) → b ≡ list_any is_close (options value)
close_last value rest b is so_far test =
    let far = no_comma rest is in
    let none : All (λ x. is_comma x ≡ false) rest = λ k d m. fails_before_first is_comma rest k d (omega (arith, far, m)) in
    test ∙ (sym (or-false (is_close (trim_ows rest))) ∙ (ap (λ (parts : List (List ℕ)). list_any is_close (map trim_ows parts)) (sym (slice_split_none is_comma rest none)) ∙ so_far))
