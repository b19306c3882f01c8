-- The scripts of a setup are few and short.
use Rattle.std.proofs.Common.{◌≡◌, ◌≤◌, List, [], ◌∷◌, ◌++◌, ℕ, length, nat_le, true, Result, Ok, Err, IfOk, arith}
use Rattle.std.specs.List.{list_all}
use Rattle.std.specs.Prelude.{◌&&◌}
use Rattle.std.proofs.lemmas.Bool.{and_parts}
use Rattle.std.proofs.lemmas.Bool.Decides.{nat_tests}
use Rattle.page_names.specs.Names.{is_name, is_name_byte}
use Rattle.script_nodes.specs.Setup.{Named}
use Rattle.setup_reader.specs.declared.setup.Ending.{Ending}
use Rattle.setup_reader.specs.declared.fault.SetupFault.{SetupFault}
use Rattle.setup_reader.specs.Limits.{AreShort}
use Rattle.setup_reader.specs.Setup.{Parsed, setup_of}
use Rattle.setup_reader.specs.Sections.{AreScripts}
use Rattle.setup_reader.specs.Views.{Gives}
use Rattle.setup_reader.proofs.Sections.{setup_spelled}

pub short_name : (name : List ℕ) → is_name name ≡ true → length name ≤ 32
short_name name is =
    let parts = and_parts (nat_le 1 (length name) && nat_le (length name) 32) (list_all is_name_byte name) is in
    let size = and_parts (nat_le 1 (length name)) (nat_le (length name) 32) parts.0 in
    grind (arith, nat_tests, size.1)

are_short : (before scripts : List Named) → AreScripts before scripts → AreShort scripts
are_short before [] are = tt
are_short before (s ∷ ss) are = (short_name s.name are.0.named, are.0.spelled.short, are_short (before ++ s ∷ []) ss are.1.1)

pub answer_few : {X : Type 0} (view : X → Parsed) (ending : Ending) (input : List ℕ) (r : Result X SetupFault) → Gives view r (setup_of ending input)
    → IfOk r (λ x. length (view x).scripts ≤ 15)
answer_few view ending input (Ok x) h = (setup_spelled ending input (view x) h).few
answer_few view ending input (Err e) h = tt

pub answer_short : {X : Type 0} (view : X → Parsed) (ending : Ending) (input : List ℕ) (r : Result X SetupFault) → Gives view r (setup_of ending input)
    → IfOk r (λ x. AreShort (view x).scripts)
answer_short view ending input (Ok x) h = are_short [] (view x).scripts (setup_spelled ending input (view x) h).scripts
answer_short view ending input (Err e) h = tt
