-- The turns of reading a setup.
use Rattle.std.proofs.Common.{◌≡◌, ℕ, suc, ◌-◌, ◌≤◌, ◌<◌, List, [], ◌∷◌, ◌++◌, length, length-append, None, Result, Ok, Err, refl, sym, ◌∙◌, ap, arith}
use Rattle.script_nodes.specs.Setup.{Named}
use Rattle.setup_reader.specs.declared.setup.Ending.{Ending}
use Rattle.setup_reader.specs.declared.fault.SetupKind.TheVariants.{End}
use Rattle.setup_reader.specs.declared.fault.SetupFault.{SetupFault}
use Rattle.setup_reader.specs.declared.fault.SetupFault.TheVariants.{Memory, At}
use Rattle.setup_reader.specs.Views.{Fails}
use Rattle.setup_reader.specs.Setup.{Parsed, Fault, at_section, section_in, script_at, ended, after, ending_at, unless_ended, setup_from, setup_of}

one_more : (n : ℕ) → n ≤ 15 → 16 - n ≡ suc (15 - n)
one_more n h = omega arith

-- the input ends
pub at_end : (ending : Ending) (total : ℕ) (scripts : List Named) → length scripts ≤ 15
    → setup_from (16 - length scripts) ending total scripts [] ≡ unless_ended (ending_at ending []) (ended total scripts) (Err (at_section total End))
at_end ending total scripts few = rw (one_more (length scripts) few) refl

by_count : (ending : Ending) (scripts : List Named) (total : ℕ) (rest : List ℕ) → length scripts ≤ 15
    → setup_from (16 - length scripts) ending total scripts rest ≡ setup_from (suc (15 - length scripts)) ending total scripts rest
by_count ending scripts total rest few = ap (λ n. setup_from n ending total scripts rest) (one_more (length scripts) few)

-- what is read where the setup does not end
abbrev section : Ending → ℕ → List Named → List ℕ → Result Parsed Fault
section ending total scripts rest =
    after (script_at (total - length rest) scripts (section_in rest)) (λ found. setup_from (15 - length scripts) ending total (scripts ++ found.0 ∷ []) found.1)

-- a section stands here, or a fault
pub at_other : (ending : Ending) (total : ℕ) (scripts : List Named) (rest : List ℕ) → length scripts ≤ 15 → 0 < length rest
    → ending_at ending rest ≡ None → setup_from (16 - length scripts) ending total scripts rest ≡ section ending total scripts rest
at_other ending total scripts [] few some e = absurd (omega arith)
at_other ending total scripts (b ∷ bs) few some e =
    by_count ending scripts total (b ∷ bs) few
    ∙ ap (λ o. unless_ended o (ended (total - length (b ∷ bs)) scripts) (section ending total scripts (b ∷ bs))) e

-- after the section the setup goes on
pub goes_on : (ending : Ending) (total : ℕ) (scripts : List Named) (rest : List ℕ) (found : Named × List ℕ) → length scripts ≤ 15 → 0 < length rest
    → ending_at ending rest ≡ None → script_at (total - length rest) scripts (section_in rest) ≡ Ok found
    → setup_from (16 - length scripts) ending total scripts rest
    ≡ setup_from (16 - length (scripts ++ found.0 ∷ [])) ending total (scripts ++ found.0 ∷ []) found.1
goes_on ending total scripts rest found few some e h =
    let count : 16 - length (scripts ++ found.0 ∷ []) ≡ 15 - length scripts = omega (arith, length-append scripts (found.0 ∷ [])) in
    at_other ending total scripts rest few some e
    ∙ ap (λ r. after r (λ x. setup_from (15 - length scripts) ending total (scripts ++ x.0 ∷ []) x.1)) h
    ∙ ap (λ n. setup_from n ending total (scripts ++ found.0 ∷ []) found.1) (sym count)

-- a fault ends it
pub stops : (ending : Ending) (total : ℕ) (scripts : List Named) (rest : List ℕ) (fault : Fault) → length scripts ≤ 15 → 0 < length rest
    → ending_at ending rest ≡ None → script_at (total - length rest) scripts (section_in rest) ≡ Err fault
    → setup_from (16 - length scripts) ending total scripts rest ≡ Err fault
stops ending total scripts rest fault few some e h =
    at_other ending total scripts rest few some e
    ∙ ap (λ r. after r (λ x. setup_from (15 - length scripts) ending total (scripts ++ x.0 ∷ []) x.1)) h

pub begins : (ending : Ending) (input : List ℕ) (scripts : List Named) → scripts ≡ []
    → setup_of ending input ≡ setup_from (16 - length scripts) ending (length input) scripts input
unfolding setup_of
begins ending input scripts e = rw e refl

-- the reader's fault is the setup's
pub fails : (e : SetupFault) (ending : Ending) (input : List ℕ) (scripts : List Named) (rest : List ℕ)
    → setup_of ending input ≡ setup_from (16 - length scripts) ending (length input) scripts rest → length scripts ≤ 15 → 0 < length rest
    → ending_at ending rest ≡ None
    → Fails e (script_at (length input - length rest) scripts (section_in rest)) → Fails e (setup_of ending input)
fails Memory ending input scripts rest reached few some none h = tt
fails (At e) ending input scripts rest reached few some none h = reached ∙ stops ending (length input) scripts rest _ few some none h
