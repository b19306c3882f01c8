-- The answers of the code and the grammar.
use Rattle.std.proofs.Common.{ℕ, List, sym, ◌∙◌}
use Rattle.std.specs.Prelude.{Result, Ok, Err, IfOk}
use Rattle.script_value.specs.Val.{Val}
use Rattle.sexp_reader.specs.declared.fault.ReadFault.{ReadFault}
use Rattle.sexp_reader.specs.declared.fault.ReadFault.TheVariants.{Memory, At}
use Rattle.sexp_reader.specs.Read.{read}
use Rattle.sexp_reader.specs.Spells.{Spells}
use Rattle.sexp_reader.specs.Views.{Gives}
use Rattle.sexp_reader.proofs.Taken.{read_spells}
use Rattle.sexp_reader.proofs.Again.{spells_read}

pub answer_spells : {X : Type 0} (view : X → List Val) (bytes : List ℕ) (r : Result X ReadFault) → Gives view r (read bytes)
    → IfOk r (λ x. Spells bytes (view x))
answer_spells view bytes (Ok x) h = read_spells bytes (view x) h
answer_spells view bytes (Err e) h = tt

pub answer_found : {X : Type 0} (view : X → List Val) (bytes : List ℕ) (r : Result X ReadFault) → Gives view r (read bytes)
    → (wanted : List Val) → Spells bytes wanted → Gives view r (Ok wanted)
answer_found view bytes (Ok x) h wanted s = sym (spells_read bytes wanted s) ∙ h
answer_found view bytes (Err Memory) h wanted s = tt
answer_found view bytes (Err (At error)) h wanted s = sym (spells_read bytes wanted s) ∙ h
