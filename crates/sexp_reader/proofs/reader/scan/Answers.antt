use Rattle.std.proofs.Common.{refl, arith, [], sym, ◌<◌, length, List, ℕ, subst}
use Rattle.std.specs.Prelude.{IsUtf8}
use Rattle.std.proofs.lemmas.Result.{err_from_is_err_and}
use Rattle.sexp_reader.specs.Views.{state_of}
use Rattle.sexp_reader.proofs.Utf8.{gap_utf8, piece_utf8}
use Rattle.sexp_reader.proofs.Turns.{first_piece, more_pieces, fails_piece, some_left}
use Rattle.sexp_reader.proofs.reader.scan.Goals as goal

pub loop-rest-init : goal.loop-rest-init
loop-rest-init c =
    let P : List ℕ → Type 0 = λ t. IsUtf8 t in
    record {
      same = first_piece c.args.text.now c.after_gap-rest.result.now (state_of c.new-reader.result) c.new-reader.ensures c.after_gap-rest.ensures.gap c.after_gap-rest.ensures.shorter;
      shorter = c.after_gap-rest.ensures.shorter;
      utf8 = subst P (sym c.after_gap-rest.ensures.gap) (gap_utf8 _ [] c.args.text.now (λ _. refl) c.requires);
    }

pub returns-in_err-take_piece : goal.returns-in_err-take_piece
returns-in_err-take_piece c =
    let p = err_from_is_err_and c.from_residual.result c.from_residual.ensures.1 in
    let same = c.loop-rest.invariant.same in
    let some : 0 < length c.loop-rest.rest.now = some_left _ _ c.is_empty.ensures c.loop-rest-test.true in
    rw (p.1, p.2) (fails_piece _ same.0 _ _ _ _ same.1 some same.2 c.in_err-take_piece.ensures.found)

pub loop-rest-preserved : goal.loop-rest-preserved
loop-rest-preserved c =
    let P : List ℕ → Type 0 = λ t. IsUtf8 t in
    let same = c.loop-rest.invariant.same in
    let some : 0 < length c.loop-rest.rest.now = some_left _ _ c.is_empty.ensures c.loop-rest-test.true in
    let done = c.in_ok-take_piece.ensures in
    let gone = c.after_gap-rest-in-loop-rest.ensures in
    record {
      same = more_pieces same.0 _ _ _ _ _ _ _ same.1 some same.2 done.found gone.gap (omega (arith, done.shorter, gone.shorter));
      shorter = omega (arith, done.shorter, gone.shorter);
      utf8 = subst P (sym gone.gap) (gap_utf8 _ [] _ (λ _. refl) (piece_utf8 _ _ _ _ _ c.loop-rest.invariant.utf8 done.found));
    }
