-- Effects on cells, computed.
use Rattle.std.specs.Prelude.{◌≡◌, ◌^◌, ◌-◌, pos, negsuc, List, [], ◌∷◌, Ok, Err, refl, codes}
use Rattle.script_value.specs.Val.{Val, number, text}
use Rattle.script_value.specs.declared.outcome.Fault.TheVariants.{WrongType, Overflow}
use Rattle.instance_cells.specs.Cells.{Effect, read, set, add, sum, commit, reads_of}

-- one item in stock, and a note
abbrev cells : List Val
cells = number (pos 1) ∷ text (codes "none") ∷ []

-- a purchase: the stock is read, and one taken
abbrev purchase : List Effect
purchase = read 0 (number (pos 1)) ∷ add 0 (negsuc 0) ∷ []

-- a purchase takes one of the item
pub a_purchase : commit purchase cells ≡ number (pos 0) ∷ text (codes "none") ∷ []
a_purchase = refl

-- a purchase read how many there were
pub what_it_read : reads_of purchase ≡ number (pos 1) ∷ []
what_it_read = refl

-- an add goes to what an earlier set wrote
pub an_add_after_a_set : commit (set 0 (number (pos 5)) ∷ add 0 (pos 2) ∷ []) cells ≡ number (pos 7) ∷ text (codes "none") ∷ []
an_add_after_a_set = refl

-- both ends of the range of 64 bits with a sign, and what is past them
pub greatest : sum (number (pos (2 ^ 63 - 2))) (pos 1) ≡ Ok (number (pos (2 ^ 63 - 1)))
greatest = refl

-- an add past the greatest number is the fault of an overflow
pub past_the_greatest : sum (number (pos (2 ^ 63 - 1))) (pos 1) ≡ Err Overflow
past_the_greatest = refl

-- an add may give the least number
pub least : sum (number (negsuc (2 ^ 63 - 2))) (negsuc 0) ≡ Ok (number (negsuc (2 ^ 63 - 1)))
least = refl

-- an add past the least number is the fault of an overflow
pub past_the_least : sum (number (negsuc (2 ^ 63 - 1))) (negsuc 0) ≡ Err Overflow
past_the_least = refl

-- an add to a text is the fault of a wrong type
pub an_add_to_a_text : sum (text (codes "1")) (pos 1) ≡ Err WrongType
an_add_to_a_text = refl
