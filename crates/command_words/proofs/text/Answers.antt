use Rattle.std.proofs.Common.{◌≡◌, ◌∙◌, sym, ap, Some, None, Option, option_map, [], unwrap_or}
use Rattle.clap.specs.Matches.{found_of}
use Rattle.clap.specs.Walk.{first_of}
use Rattle.clap.proofs.WalkLemmas.{first_value-rows}
use Rattle.command_words.specs.Reads.{rows_in}
use Rattle.command_words.proofs.text.Goals as goal

none_some : {X : Type 0} (o : Option X) (x : X) → o ≡ None → o ≡ Some x → ⊥
none_some o x e f = cc

pub returns-in_default-clause-refused : goal.returns-in_default-clause-refused
returns-in_default-clause-refused c = λ usage held.
    let none : first_of c.args.id.now (rows_in c.args.matches.now) ≡ None =
    sym (first_value-rows (found_of c.args.matches.now) c.args.id.now) ∙ sym c.get_str.ensures ∙ ap (option_map (λ s. s.now)) c.in_default.is in
    none_some _ held.0 none held.1

pub returns-clause-value : goal.returns-clause-value
returns-clause-value c =
    let text : first_of c.args.id.now (rows_in c.args.matches.now) ≡ Some c.in-Some.found.now =
    sym (first_value-rows (found_of c.args.matches.now) c.args.id.now) ∙ sym c.get_str.ensures ∙ ap (option_map (λ s. s.now)) c.in-Some.is in
    c.new.ensures ∙ c.in_ok-from_str.ensures.ok ∙ sym (ap (λ o. unwrap_or o []) text)
