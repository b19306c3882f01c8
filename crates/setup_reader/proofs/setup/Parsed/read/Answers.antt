use Rattle.std.proofs.Common.{rules, inl, inr, refl, ◌≡◌, ◌<◌, length, None, Ok, Err, ◌-◌, [], ◌∷◌, ◌++◌, arith, ap, ◌∙◌, length-append}
use Rattle.script_nodes.specs.Views.{scripts_of, named_of}
use Rattle.setup_reader.specs.Setup as spec
use Rattle.setup_reader.specs.declared.fault.SetupFault.TheVariants.{Memory}
use Rattle.setup_reader.specs.Views.{Fails}
use Rattle.setup_reader.proofs.Standing.{same_error, script_text, started_text}
use Rattle.setup_reader.proofs.Turns.{begins, goes_on, fails}
use Rattle.setup_reader.proofs.setup.Parsed.read.Goals as goal

pub sections-init : goal.sections-init
sections-init c =
    let none : scripts_of c.new-setup.result ≡ [] = search rules in
    record { goes_on = begins c.args.ending c.args.input.now _ none; few = omega (arith, ap length none); within = omega arith; started = inl refl }

pub returns-in_err-script-clause-value : goal.returns-in_err-script-clause-value
returns-in_err-script-clause-value c =
    let reached = c.sections.invariant in
    let e = c.in_err-script.field-0.0 in
    let none : spec.ending_at c.args.ending c.sections.rest.now ≡ None = search rules in
    let some : 0 < length c.sections.rest.now = search rules in
    let failed : Fails e (spec.script_at (length c.args.input.now - length c.sections.rest.now) (scripts_of c.sections.setup) (spec.section_in c.sections.rest.now)) = search rules in
    let told : c.from_residual.result ≡ Err e = search rules in
    rw told (fails e c.args.ending c.args.input.now (scripts_of c.sections.setup) c.sections.rest.now reached.goes_on reached.few some none failed)

pub returns-in_err-script-clause-memory : goal.returns-in_err-script-clause-memory
returns-in_err-script-clause-memory c = λ h.
    let told : c.from_residual.result ≡ Err c.in_err-script.field-0.0 = search rules in
    started_text c.args.input.now c.sections.rest.now c.sections.invariant.started (c.in_err-script.ensures.memory (same_error c.in_err-script.field-0.0 Memory c.from_residual.result told h))

pub returns-in_err-push-clause-memory : goal.returns-in_err-push-clause-memory
returns-in_err-push-clause-memory c = λ h.
    let found : spec.script_at (length c.args.input.now - length c.sections.rest.now) (scripts_of c.sections.setup) (spec.section_in c.sections.rest.now)
    ≡ Ok (named_of c.in_ok-script.script, c.in_ok-script.later.now) = search rules in
    started_text c.args.input.now c.sections.rest.now c.sections.invariant.started (script_text _ (scripts_of c.sections.setup) c.sections.rest.now _ found)

pub sections-preserved : goal.sections-preserved
sections-preserved c =
    let reached = c.sections.invariant in
    let found : spec.script_at (length c.args.input.now - length c.sections.rest.now) (scripts_of c.sections.setup) (spec.section_in c.sections.rest.now)
    ≡ Ok (named_of c.in_ok-script.script, c.in_ok-script.later.now) = search rules in
    let none : spec.ending_at c.args.ending c.sections.rest.now ≡ None = search rules in
    let some : 0 < length c.sections.rest.now = search rules in
    let more : scripts_of c.push.new.self ≡ scripts_of c.sections.setup ++ named_of c.in_ok-script.script ∷ [] = search rules in
    record {
      goes_on = rw more (reached.goes_on ∙ goes_on _ _ _ _ _ reached.few some none found);
      few = omega (arith, ap length more, length-append (scripts_of c.sections.setup) (named_of c.in_ok-script.script ∷ []), c.in_ok-script.ensures.few);
      within = omega (arith, reached.within, c.in_ok-script.ensures.shorter);
      started = inr (started_text c.args.input.now c.sections.rest.now reached.started (script_text _ (scripts_of c.sections.setup) c.sections.rest.now _ found));
    }
