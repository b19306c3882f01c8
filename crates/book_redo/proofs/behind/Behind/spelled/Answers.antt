use Rattle.std.proofs.Common.{◌∙◌, sym}
use Rattle.machine_states.specs.Views.{origin_of, suspended_of}
use Rattle.instance_book.specs.KeptStates.Kept.{kept_of}
use Rattle.book_redo.proofs.Spelled.{spelled_some, spelled_none}
use Rattle.book_redo.proofs.behind.Behind.spelled.Goals as goal

pub returns-in-Some : goal.returns-in-Some
returns-in-Some c =
    let x = c.args.self.now in
    let has =
    spelled_some c.kept_are_written.ensures (origin_of x.from) x.links (suspended_of c.args.state.now) (kept_of c.in_ok-kept.kept) c.in-Some.bytes.now c.in_ok-kept.ensures (sym c.in-Some.ensures) in
    (c.new.ensures ∙ (c.in_ok-to_vec-in-Some.ensures.items_if_clones_equal (λ x y e. e) ∙ has.0), has.1, has.2)

pub returns : goal.returns
returns c =
    let x = c.args.self.now in
    spelled_none (origin_of x.from) x.links (suspended_of c.args.state.now) (kept_of c.in_ok-kept.kept) c.in_ok-kept.ensures (sym c.in-None.ensures)
