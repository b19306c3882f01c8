-- The text of a measured run's setup is read without a fault.
use Rattle.std.proofs.Common.{◌≡◌, ◌∙◌, Bool, true, false, List, [], ◌∷◌, ℕ, Result, Ok, Err, refl, sym, ap}
use Rattle.std.specs.Fmt.{digits}
use Rattle.std.specs.Str.{is_utf8, chars}
use Rattle.std.specs.Str.Lossy.{utf8_valid_len}
use Rattle.std.proofs.Math.Utf8.{encode}
use Rattle.core_syntax.specs.Definitions.{expanded}
use Rattle.core_syntax.specs.Heads.{syntax_of, page_form_of}
use Rattle.script_nodes.specs.PrimSpec.Table.{number_operation_of, test_of, list_operation_of, text_operation_of}
use Rattle.setup_reader.specs.declared.setup.Ending.TheVariants.{Input}
use Rattle.setup_reader.specs.Setup.{Parsed, Fault, section_in, setup_of}
use Rattle.measured_run.specs.Scripts.{text_of, setup_text}
use Rattle.measured_run.specs.Setups.{IsSetup, load_scripts, scripts_in}

is_nil : List ℕ → Bool
is_nil [] = true
is_nil (b ∷ bytes) = false

is_whole : Result Parsed Fault → Bool
is_whole (Ok setup) = is_nil setup.steps
is_whole (Err fault) = false

whole : is_whole (setup_of Input setup_text) ≡ true
unfolding is_whole is_nil setup_of section_in text_of digits is_utf8 chars encode utf8_valid_len expanded syntax_of page_form_of number_operation_of test_of list_operation_of text_operation_of
whole = refl

no_bytes : (bytes : List ℕ) → is_nil bytes ≡ true → bytes ≡ []
unfolding is_nil
no_bytes [] h = refl
no_bytes (b ∷ bytes) h = cc

by_answer : (r : Result Parsed Fault) → is_whole r ≡ true → r ≡ Ok (record { scripts = scripts_in r; steps = [] })
unfolding is_whole
by_answer (Ok setup) h =
    let made : List ℕ → Result Parsed Fault = λ bytes. Ok (record { scripts = setup.scripts; steps = bytes }) in
    ap made (no_bytes setup.steps h)
by_answer (Err fault) h = cc

pub is_setup : IsSetup
unfolding load_scripts
is_setup = by_answer (setup_of Input setup_text) whole

-- what its text is read as
pub read_scripts : (bytes : List ℕ) (p : Parsed) → bytes ≡ setup_text → setup_of Input bytes ≡ Ok p → p.scripts ≡ load_scripts
read_scripts bytes p is read =
    let same = sym read ∙ ap (setup_of Input) is ∙ is_setup in ap scripts_in same

pub no_fault : (bytes : List ℕ) (fault : Fault) → bytes ≡ setup_text → setup_of Input bytes ≡ Err fault → ⊥
no_fault bytes fault is read =
    let same = sym read ∙ ap (setup_of Input) is ∙ is_setup in cc
