use Rattle.std.proofs.Common.{◌≤◌, ◌^◌, ℕ, ap, sym, subst, [], arith}
use Rattle.replay_spec.specs.Book.{Book}
use Rattle.instance_book.specs.Views.{no_journal}
use Rattle.book_redo.proofs.Redone.{sweep_off, sweep_on}
use Rattle.book_redo.proofs.landing.redo_sweep.Goals as goal

pub returns-then-tick-clock-clause-landed : goal.returns-then-tick-clock-clause-landed
returns-then-tick-clock-clause-landed c library = sweep_off library c.args.tick c.args.book.now (omega (arith, c.if-tick-clock.true, c.clock.ensures.clock))

pub returns-clause-landed : goal.returns-clause-landed
returns-clause-landed c library =
    let not_late = c.if-tick-clock.false in
    sweep_on library c.args.tick c.args.book.now _ (omega (arith, not_late, c.clock.ensures.clock)) c.free_expired.ensures.book c.free_expired.ensures.states

pub returns-clause-low : goal.returns-clause-low
returns-clause-low c below = subst (λ (n : ℕ). n ≤ 2 ^ 62) (sym (ap (λ (b : Book). b.logged) (c.free_expired.ensures.book (record { all = []; setup = [] }) no_journal))) below
