-- How many turns a number says.
use Rattle.std.specs.Prelude.{ℕ, ℤ, pos, negsuc, Result, Ok, Err}
use Rattle.script_value.specs.declared.outcome.Fault.{Fault}
use Rattle.script_value.specs.declared.outcome.Fault.TheVariants.{WrongType}

-- how many turns a number says; a negative one, as what is no number, is the fault of a wrong type
abbrev pub count_of : Result ℤ Fault → Result ℕ Fault
count_of (Ok (pos n)) = Ok n
count_of (Ok (negsuc n)) = Err WrongType
count_of (Err k) = Err k
