use Rattle.std.proofs.Common.{◌∙◌, ◌<◌, ◌≤◌, ◌^◌, ap, sym, subst, ℕ, true, false, [], length}
use Rattle.std.proofs.lemmas.Bool.{and_parts}
use Rattle.script_nodes.specs.Views.{named_of}
use Rattle.replay_spec.specs.Book as spec
use Rattle.replay_spec.specs.Recovery.{can_go}
use Rattle.instance_book.specs.Views.{no_journal, effects_in}
use Rattle.book_redo.specs.Redo.{are_held}
use Rattle.book_redo.proofs.Passed.{held_on}
use Rattle.book_redo.proofs.Landed.{on_by, opens_passed, opens_landed, opens_kept}
use Rattle.book_redo.proofs.landing.open.Goals as goal

pub returns-then-not-can_open-clause-opens : goal.returns-then-not-can_open-clause-opens
returns-then-not-can_open-clause-opens c =
    let s = named_of c.args.begins.script.now in
    opens_passed c.args.begins.place s c.args.told c.args.page c.args.book.now c.pass_over.new.book
    (on_by s c.args.told c.in_ok-cells.cells false (c.in_ok-cells.ensures ∙ (c.as_slice.ensures ∙ c.instance_defaults-defaults.ensures)) c.if-not-can_open.ensures) c.pass_over.ensures.book

pub returns-then-not-can_open-clause-placed : goal.returns-then-not-can_open-clause-placed
returns-then-not-can_open-clause-placed c all low has = c.pass_over.ensures.placed all has

pub returns-then-not-can_open-clause-states : goal.returns-then-not-can_open-clause-states
returns-then-not-can_open-clause-states c source all first has = c.pass_over.ensures.states source all has

pub opened-requires-clause-on : goal.opened-requires-clause-on
opened-requires-clause-on c =
    let es = effects_in c.args.told in
    let cells = c.in_ok-cells.cells in
    held_on es cells (and_parts (can_go c.args.told.evicted.items []) (are_held es cells) (sym c.if-not-can_open.ensures)).1

pub returns-clause-opens : goal.returns-clause-opens
returns-clause-opens c =
    let s = named_of c.args.begins.script.now in
    let cells = c.in_ok-cells.cells in
    let its = c.in_ok-cells.ensures ∙ (c.as_slice.ensures ∙ c.instance_defaults-defaults.ensures) in
    opens_landed c.args.begins.place s c.args.told c.args.page cells c.in_ok-opening.opening c.args.book.now c.opened.new.self c.land.new.book (on_by s c.args.told cells true its c.if-not-can_open.ensures) its
    c.in_ok-opening.ensures.opens c.in_ok-opening.ensures.book c.land.ensures.book

pub returns-clause-placed : goal.returns-clause-placed
returns-clause-placed c all low has =
    c.land.ensures.placed all (subst (λ (k : ℕ). k < length all) (sym c.in_ok-opening.ensures.opens.script) low) (c.in_ok-opening.ensures.placed all has)

pub returns-clause-states : goal.returns-clause-states
returns-clause-states c source all first has =
    let s = named_of c.args.begins.script.now in
    let cells = c.in_ok-cells.cells in
    let its = c.in_ok-cells.ensures ∙ (c.as_slice.ensures ∙ c.instance_defaults-defaults.ensures) in
    let shelf_is = sym (ap (λ (b : spec.Book). b.shelf) (c.in_ok-opening.ensures.book (record { all = []; setup = [] }) no_journal)) in
    c.land.ensures.states source all
    (opens_kept source all c.args.book.now _ c.args.begins.place c.args.told c.args.page cells c.in_ok-opening.opening shelf_is c.in_ok-opening.ensures.opens
    (first (on_by s c.args.told cells true its c.if-not-can_open.ensures))) (c.in_ok-opening.ensures.states source all has)

pub returns-clause-low : goal.returns-clause-low
returns-clause-low c below =
    c.land.ensures.low (subst (λ (n : ℕ). n ≤ 2 ^ 62) (sym (ap (λ (b : spec.Book). b.logged) (c.in_ok-opening.ensures.book (record { all = []; setup = [] }) no_journal))) below)
