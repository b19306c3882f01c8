use Rattle.std.proofs.Common.{◌≡◌, ℕ, suc, ◌<◌, ◌≤◌, length}
use Rattle.std.specs.Prelude.{IsUtf8}
use Rattle.sexp_reader.specs.Read.{pieces, start, after_gap}
use Rattle.sexp_reader.specs.Views.{state_of}
use Rattle.sexp_reader.proofs.reader.scan.Given as goal

abbrev pub invariant-loop-rest : goal.invariant-loop-rest
invariant-loop-rest l = record {
  same : (n : ℕ) × (length l.rest < n)
      × (pieces n (length l.text) (state_of l.reader) l.rest ≡ pieces (suc (length l.text)) (length l.text) start (after_gap l.text));
  shorter : length l.rest ≤ length l.text;
  utf8 : IsUtf8 l.rest;
}

abbrev pub decreases-loop-rest : goal.decreases-loop-rest
decreases-loop-rest l = length l.rest
