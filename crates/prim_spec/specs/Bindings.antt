-- What operations on bindings give: a list of lists of a symbol and a text.
use Rattle.std.specs.Prelude.{ℕ, ◌&&◌, Bool, true, false, List, [], ◌∷◌, ◌++◌, Option, Some, None, is_some, Result, Ok, Err, map, if◌then◌else◌}
use Rattle.std.specs.Str.{bytes_eq}
use Rattle.script_value.specs.Val.{Val, Vals, truth, text, symbol, list, no_vals, val, vals_of}
use Rattle.script_value.specs.declared.outcome.Fault.{Fault}
use Rattle.script_value.specs.declared.outcome.Fault.TheVariants.{WrongType, Binding}

-- the symbol and the text that two values are, where they are these
abbrev pub pair_of : Val → Val → Option (List ℕ × List ℕ)
pair_of (symbol k) (text t) = Some (k, t)
pair_of _ _ = None

-- the two texts of a list of a key and a text, if it is one
abbrev pub pair_in : Vals → Option (List ℕ × List ℕ)
pair_in (val v (val w no_vals)) = pair_of v w
pair_in _ = None

-- the symbol and the text of a binding, which is a list of the two
abbrev pub binding_in : Val → Option (List ℕ × List ℕ)
binding_in (list vs) = pair_in vs
binding_in _ = None

-- whether each of these items is a list of a symbol and a text
abbrev pub are_bindings : Vals → Bool
are_bindings no_vals = true
are_bindings (val v vs) = is_some (binding_in v) && are_bindings vs

-- the text of a binding of this key
abbrev pub text_for : List ℕ → Option (List ℕ × List ℕ) → List (List ℕ)
text_for key None = []
text_for key (Some b) = if bytes_eq b.0 key then b.1 ∷ [] else []

-- the text of a value, where that is a binding of this key
abbrev pub text_in : List ℕ → Val → List (List ℕ)
text_in key v = text_for key (binding_in v)

-- the texts of the bindings of this key, in order
abbrev pub texts_for : List ℕ → Vals → List (List ℕ)
texts_for key no_vals = []
texts_for key (val v vs) = text_in key v ++ texts_for key vs

-- the texts that are bound to a key among these values, in their order
abbrev pub texts_among : List ℕ → List Val → List (List ℕ)
texts_among key vs = texts_for key (vals_of vs)

-- what a function gives for the texts of a key, where the operands are the symbol of the key and bindings
abbrev pub of_texts : (List (List ℕ) → Result Val Fault) → List Val → Result Val Fault
of_texts f (symbol key ∷ list vs ∷ []) = if are_bindings vs then f (texts_for key vs) else Err WrongType
of_texts f _ = Err WrongType

-- the text of a list of one text, or the fault where there is not one
abbrev pub single : List (List ℕ) → Result Val Fault
single (t ∷ []) = Ok (text t)
single _ = Err Binding

-- the list of these texts, as a value
abbrev pub all_texts : List (List ℕ) → Result Val Fault
all_texts ts = Ok (list (vals_of (map text ts)))

-- whether there is a text among these, as a value
abbrev pub any_text : List (List ℕ) → Result Val Fault
any_text [] = Ok (truth false)
any_text (t ∷ ts) = Ok (truth true)
