use Rattle.std.proofs.Common.{◌≡◌, ◌++◌, map}
use Rattle.form_urlencoded.specs.Form.{raw_pairs}
use Rattle.form_urlencoded.specs.Parse.{pairs_left}
use Rattle.http_forms.specs.Answers.{binding_of}
use Rattle.http_forms.proofs.answer.push_pairs.Given as goal

abbrev pub invariant-loop-pair : goal.invariant-loop-pair
invariant-loop-pair l = l.bindings ++ map binding_of (pairs_left l.pair-iterator) ≡ l.initial.bindings ++ map binding_of (raw_pairs l.pairs)
