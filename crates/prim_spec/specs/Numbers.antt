-- What operations on numbers give.
use Rattle.std.specs.Prelude.{ℤ, pos, ◌+ℤ◌, ◌-ℤ◌, ◌*ℤ◌, neg_ℤ, int_div, int_rem, Bool, true, false, List, [], ◌∷◌, Result, Ok, Err, if◌then◌else◌}
use Rattle.std.specs.Ordering.{int_eq}
use Rattle.script_value.specs.Val.{Val, number, truth}
use Rattle.script_value.specs.Numbers.{is_in_range}
use Rattle.script_value.specs.declared.outcome.Fault.{Fault}
use Rattle.script_value.specs.declared.outcome.Fault.TheVariants.{WrongType, Overflow, Zero}

-- whether each of these values is a number
abbrev pub are_numbers : List Val → Bool
are_numbers [] = true
are_numbers (number n ∷ vs) = are_numbers vs
are_numbers _ = false

-- a number in the range of 64 bits with a sign, or the fault where it is out of the range
abbrev pub in_range : ℤ → Result Val Fault
in_range n = if is_in_range n then Ok (number n) else Err Overflow

-- the sum from left to right, each partial sum in range
abbrev pub sum_from : ℤ → List Val → Result Val Fault
sum_from s [] = Ok (number s)
sum_from s (number n ∷ vs) = if is_in_range (s +ℤ n) then sum_from (s +ℤ n) vs else Err Overflow
sum_from s _ = Err WrongType

-- the product from left to right, each partial product in range
abbrev pub product_from : ℤ → List Val → Result Val Fault
product_from p [] = Ok (number p)
product_from p (number n ∷ vs) = if is_in_range (p *ℤ n) then product_from (p *ℤ n) vs else Err Overflow
product_from p _ = Err WrongType

-- a number less others, from left to right, each partial difference in range
abbrev pub difference_from : ℤ → List Val → Result Val Fault
difference_from d [] = Ok (number d)
difference_from d (number n ∷ vs) = if is_in_range (d -ℤ n) then difference_from (d -ℤ n) vs else Err Overflow
difference_from d _ = Err WrongType

-- a number less others; with no others it is negated
abbrev pub less : ℤ → List Val → Result Val Fault
less n [] = in_range (neg_ℤ n)
less n (v ∷ vs) = difference_from n (v ∷ vs)

-- what `-` gives: the first number less the others, or a fault
abbrev pub difference : List Val → Result Val Fault
difference (number n ∷ vs) = less n vs
difference _ = Err WrongType

-- the quotient, rounded towards zero
abbrev pub quotient_of : ℤ → ℤ → Result Val Fault
quotient_of a b = if int_eq b (pos 0) then Err Zero else in_range (int_div a b)

-- the remainder, which has the sign of the dividend
abbrev pub remainder_of : ℤ → ℤ → Result Val Fault
remainder_of a b = if int_eq b (pos 0) then Err Zero else Ok (number (int_rem a b))

-- the two numbers that an operation asks for, or the fault that its operands are others
abbrev pub two_numbers : List Val → Result (ℤ × ℤ) Fault
two_numbers (number a ∷ number b ∷ []) = Ok (a, b)
two_numbers _ = Err WrongType

-- what two numbers give
abbrev pub of_two : (ℤ → ℤ → Result Val Fault) → Result (ℤ × ℤ) Fault → Result Val Fault
of_two f (Ok p) = f p.0 p.1
of_two f (Err k) = Err k

-- whether two numbers pass this test, as a value
abbrev pub compares : (ℤ → ℤ → Bool) → List Val → Result Val Fault
compares test vs = of_two (λ a b. Ok (truth (test a b))) (two_numbers vs)
