-- Operations give shallow values.
use Rattle.std.proofs.Common.{◌≡◌, ℕ, ℤ, pos, negsuc, List, [], ◌∷◌, map, length, slice_get, Bool, true, false, if◌then◌else◌, Option, Some, None, Result, Ok, Err, refl, arith}
use Rattle.std.specs.Prelude.{nat_lt, ◌+ℤ◌, ◌-ℤ◌, ◌*ℤ◌, neg_ℤ, int_div, int_rem, ⊤}
use Rattle.std.specs.Str.{chars}
use Rattle.std.specs.Ordering.{int_eq}
use Rattle.std.proofs.lemmas.Bool.Decides.{nat_tests}
use Rattle.script_value.specs.Val.{Val, number, truth, text, symbol, list, no_vals, val, vals_of, items_of, depth, depth_all}
use Rattle.script_value.specs.Numbers.{is_in_range}
use Rattle.script_value.specs.declared.outcome.Op.{Op}
use Rattle.script_value.specs.declared.outcome.Op.TheVariants as op
use Rattle.script_value.specs.declared.outcome.Fault.{Fault}
use Rattle.script_value.specs.declared.outcome.Fault.TheVariants.{WrongType, Overflow, Deep, Zero}
use Rattle.prim_spec.specs.Numbers as numbers
use Rattle.prim_spec.specs.Lists as lists
use Rattle.prim_spec.specs.Texts as texts
use Rattle.prim_spec.specs.Bindings as bindings
use Rattle.prim_spec.specs.Table.{asks, are_equal, value_of}
use Rattle.journal_spec.specs.Depths.{IsShallow}

abbrev pub GivesShallow : Result Val Fault → Type 0
GivesShallow (Ok v) = IsShallow v
GivesShallow (Err k) = ⊤

chosen : (t : Bool) (r : Result Val Fault) (k : Fault) → GivesShallow r → GivesShallow (if t then r else Err k)
chosen true r k h = h
chosen false r k h = tt

refused : (t : Bool) (r : Result Val Fault) (k : Fault) → GivesShallow r → GivesShallow (if t then Err k else r)
refused true r k h = tt
refused false r k h = h

pub within : (v : Val) → GivesShallow (lists.within_depth v)
within v = by_test (nat_lt 200 (depth v)) refl
  where
    by_test : (t : Bool) → nat_lt 200 (depth v) ≡ t → GivesShallow (if t then Err Deep else Ok v)
    by_test true e = tt
    by_test false e = grind (arith, nat_tests, e)

ranged : (n : ℤ) → GivesShallow (numbers.in_range n)
ranged n = chosen (is_in_range n) (Ok (number n)) Overflow (omega arith)

sums : (s : ℤ) (vs : List Val) → GivesShallow (numbers.sum_from s vs)
sums s [] = omega arith
sums s (number n ∷ vs) = chosen (is_in_range (s +ℤ n)) (numbers.sum_from (s +ℤ n) vs) Overflow (sums (s +ℤ n) vs)
sums s _ = tt

products : (s : ℤ) (vs : List Val) → GivesShallow (numbers.product_from s vs)
products s [] = omega arith
products s (number n ∷ vs) = chosen (is_in_range (s *ℤ n)) (numbers.product_from (s *ℤ n) vs) Overflow (products (s *ℤ n) vs)
products s _ = tt

differences : (s : ℤ) (vs : List Val) → GivesShallow (numbers.difference_from s vs)
differences s [] = omega arith
differences s (number n ∷ vs) = chosen (is_in_range (s -ℤ n)) (numbers.difference_from (s -ℤ n) vs) Overflow (differences (s -ℤ n) vs)
differences s _ = tt

lesses : (n : ℤ) (vs : List Val) → GivesShallow (numbers.less n vs)
lesses n [] = ranged (neg_ℤ n)
lesses n (v ∷ vs) = differences n (v ∷ vs)

difference : (vs : List Val) → GivesShallow (numbers.difference vs)
difference (number n ∷ vs) = lesses n vs
difference _ = tt

of_two : (f : ℤ → ℤ → Result Val Fault) → ((a b : ℤ) → GivesShallow (f a b)) → (o : Result (ℤ × ℤ) Fault) → GivesShallow (numbers.of_two f o)
of_two f h (Ok p) = h p.0 p.1
of_two f h (Err k) = tt

quotients : (a b : ℤ) → GivesShallow (numbers.quotient_of a b)
quotients a b = refused (int_eq b (pos 0)) (numbers.in_range (int_div a b)) Zero (ranged (int_div a b))

remainders : (a b : ℤ) → GivesShallow (numbers.remainder_of a b)
remainders a b = refused (int_eq b (pos 0)) (Ok (number (int_rem a b))) Zero (omega arith)

compared : (test : ℤ → ℤ → Bool) (vs : List Val) → GivesShallow (numbers.compares test vs)
compared test vs = of_two (λ a b. Ok (truth (test a b))) (λ a b. omega arith) (numbers.two_numbers vs)

asked : (test : Val → Bool) (vs : List Val) → GivesShallow (asks test vs)
asked test (v ∷ []) = omega arith
asked test _ = tt

equal : (vs : List Val) → GivesShallow (are_equal vs)
equal (v ∷ w ∷ []) = omega arith
equal _ = tt

cons : (vs : List Val) → GivesShallow (lists.cons vs)
cons (v ∷ list vs ∷ []) = within (list (val v vs))
cons _ = tt

first : (vs : List Val) → GivesShallow (lists.first vs)
first (list no_vals ∷ []) = tt
first (list (val v vs) ∷ []) = within v
first _ = tt

rest : (vs : List Val) → GivesShallow (lists.rest vs)
rest (list no_vals ∷ []) = tt
rest (list (val v vs) ∷ []) = within (list vs)
rest _ = tt

pub listed : (vs : List Val) → GivesShallow (lists.list_of vs)
listed vs = within (list (vals_of vs))

counted : (vs : List Val) → GivesShallow (lists.length_of vs)
counted (list vs ∷ []) = ranged (pos (length (items_of vs)))
counted _ = tt

reversed : (vs : List Val) → GivesShallow (lists.reversed vs)
reversed (list vs ∷ []) = listed _
reversed _ = tt

found : (o : Option Val) → GivesShallow (lists.found o)
found None = tt
found (Some v) = within v

item : (vs : List Val) → GivesShallow (lists.item vs)
item (list vs ∷ number (pos n) ∷ []) = found (slice_get (items_of vs) n)
item (list vs ∷ number (negsuc n) ∷ []) = tt
item _ = tt

text_length : (vs : List Val) → GivesShallow (texts.length_of vs)
text_length (text t ∷ []) = ranged (pos (length (chars t)))
text_length _ = tt

equal_texts : (vs : List Val) → GivesShallow (texts.equal_texts vs)
equal_texts (text s ∷ text t ∷ []) = omega arith
equal_texts _ = tt

text_of_number : (vs : List Val) → GivesShallow (texts.text_of_number vs)
text_of_number (number n ∷ []) = omega arith
text_of_number _ = tt

maybe_number : (o : Option ℤ) → IsShallow (texts.number_or_false o)
maybe_number None = omega arith
maybe_number (Some n) = omega arith

number_of_text : (vs : List Val) → GivesShallow (texts.number_of_text vs)
number_of_text (text t ∷ []) = maybe_number _
number_of_text _ = tt

text_of_symbol : (vs : List Val) → GivesShallow (texts.text_of_symbol vs)
text_of_symbol (symbol s ∷ []) = omega arith
text_of_symbol _ = tt

symbol_of_text : (vs : List Val) → GivesShallow (texts.symbol_of_text vs)
symbol_of_text (text t ∷ []) = omega arith
symbol_of_text _ = tt

of_texts : (f : List (List ℕ) → Result Val Fault) → ((ts : List (List ℕ)) → GivesShallow (f ts)) → (vs : List Val) → GivesShallow (bindings.of_texts f vs)
of_texts f h (symbol key ∷ list vs ∷ []) = chosen (bindings.are_bindings vs) (f (bindings.texts_for key vs)) WrongType (h (bindings.texts_for key vs))
of_texts f h _ = tt

single : (ts : List (List ℕ)) → GivesShallow (bindings.single ts)
single (t ∷ []) = omega arith
single _ = tt

texts_flat : (ts : List (List ℕ)) → depth_all (vals_of (map text ts)) ≡ 0
texts_flat [] = refl
texts_flat (t ∷ ts) = omega (arith, texts_flat ts)

any_text : (ts : List (List ℕ)) → GivesShallow (bindings.any_text ts)
any_text [] = omega arith
any_text (t ∷ ts) = omega arith

pub operation : (o : Op) (vs : List Val) → GivesShallow (value_of o vs)
operation op.Add vs = chosen (numbers.are_numbers vs) (numbers.sum_from (pos 0) vs) WrongType (sums (pos 0) vs)
operation op.Multiply vs = chosen (numbers.are_numbers vs) (numbers.product_from (pos 1) vs) WrongType (products (pos 1) vs)
operation op.Subtract vs = chosen (numbers.are_numbers vs) (numbers.difference vs) WrongType (difference vs)
operation op.Quotient vs = of_two numbers.quotient_of quotients (numbers.two_numbers vs)
operation op.Remainder vs = of_two numbers.remainder_of remainders (numbers.two_numbers vs)
operation op.Equal vs = compared _ vs
operation op.Less vs = compared _ vs
operation op.Greater vs = compared _ vs
operation op.AtMost vs = compared _ vs
operation op.AtLeast vs = compared _ vs
operation op.Not vs = asked _ vs
operation op.IsEqual vs = equal vs
operation op.IsNumber vs = asked _ vs
operation op.IsString vs = asked _ vs
operation op.IsSymbol vs = asked _ vs
operation op.IsBoolean vs = asked _ vs
operation op.IsList vs = asked _ vs
operation op.IsNull vs = asked _ vs
operation op.List vs = listed vs
operation op.Cons vs = cons vs
operation op.Car vs = first vs
operation op.Cdr vs = rest vs
operation op.Append vs = chosen (lists.are_lists vs) (lists.list_of (lists.joined vs)) WrongType (listed (lists.joined vs))
operation op.Length vs = counted vs
operation op.Reverse vs = reversed vs
operation op.ListRef vs = item vs
operation op.StringAppend vs = chosen (texts.are_texts vs) (Ok (text (texts.joined vs))) WrongType (omega arith)
operation op.StringLength vs = text_length vs
operation op.StringEqual vs = equal_texts vs
operation op.NumberToString vs = text_of_number vs
operation op.StringToNumber vs = number_of_text vs
operation op.SymbolToString vs = text_of_symbol vs
operation op.StringToSymbol vs = symbol_of_text vs
operation op.ExtractBindingSingle vs = of_texts bindings.single single vs
operation op.ExtractBindings vs = of_texts bindings.all_texts (λ ts. omega (arith, texts_flat ts)) vs
operation op.ExistsBinding vs = of_texts bindings.any_text any_text vs
