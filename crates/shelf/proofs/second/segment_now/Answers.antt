use Rattle.std.proofs.Common.{◌≡◌, ◌∙◌, ap, sym, subst, refl, map, length, List, ℕ, Some, None, option_map, slice_get, true, false}
use Rattle.std.proofs.lemmas.Option.{same_Some, get_or_from_slice_get}
use Rattle.script_value.specs.Val.{Val}
use Rattle.script_nodes.specs.Setup.{Named, Library}
use Rattle.script_nodes.specs.Views.{library_of, named_of}
use Rattle.page_names.specs.Names.{Destination, page}
use Rattle.page_names.specs.Views.{target_of, name_of}
use Rattle.page_names.specs.declared.names.PageName.{PageName}
use Rattle.page_names.specs.declared.names.Target.{Target}
use Rattle.instance_cells.specs.Cells.{Effect, Holds, AreOn}
use Rattle.instance_cells.specs.Views.{effect_of}
use Rattle.instance_cells.specs.declared.effect.Effect as rust
use Rattle.replay_spec.specs.Book.{Instance, Book}
use Rattle.replay_spec.specs.Admission.{refusal_of, admit}
use Rattle.book_recovery.specs.InstanceBook.Standing.{book_under}
use Rattle.book_recovery.specs.InstanceBook.Swept.{cells_in, cells_at}
use Rattle.book_recovery.specs.InstanceBook.declared.book.Book as kept
use Rattle.book_visits.specs.declared.ticket.Ticket.{Ticket}
use Rattle.book_recovery.specs.InstanceBook.Views.{no_journal, script_in, no_script}
use Rattle.book_recovery.proofs.InstanceBook.Seen.{cells_seen}
use Rattle.shelf.specs.Holding.{AreHeld}
use Rattle.shelf.specs.Tickets.{GoesOnWhere}
use Rattle.shelf.specs.Views.{HoldIn, HaveTheirCells}
use Rattle.shelf.proofs.Tickets.{as_many_cells}
use Rattle.shelf.proofs.Replayed.{shows_whole, start_held, page_held, held_on, on_cells_of}
use Rattle.shelf.proofs.Now.{of_some, gone_refused, keeps_state, held_segment, rerun_segment, if_some}
use Rattle.shelf.proofs.second.segment_now.Goals as goal
use Rattle.shelf.proofs.second.segment_now.Goals.{Then-holds}

-- the instance whose page is answered has as many cells as the ticket's script
as_many_now : (l : Library) (b : kept.Book) (t : Ticket) (d : Destination) (name : List ℕ) (n : PageName) (named : Named) (cells : List Val) → d ≡ page name n → slice_get l.all t.script ≡ Some named
    → cells_at n.instance b ≡ Some cells → refusal_of (admit (book_under l b) d) ≡ None → GoesOnWhere l b t d → HaveTheirCells (book_under l b) → length named.script.cells ≡ length cells
as_many_now l b t d name n named cells is found here ok goes theirs =
    let under = book_under l b in
    let there = as_many_cells l b t name n (subst (λ (x : Destination). refusal_of (admit under x) ≡ None) is ok) (subst (λ (x : Destination). GoesOnWhere l b t x) is goes) theirs in
    let its : script_in l.all t.script ≡ named = get_or_from_slice_get l.all t.script named no_script found in
    let same : there.0.cells ≡ cells = same_Some there.0.cells cells (ap (option_map (λ (i : Instance). i.cells)) (sym there.1.0) ∙ (sym (cells_seen l no_journal n.instance b) ∙ here)) in
    ap (λ (s : Named). length s.script.cells) (sym its) ∙ (there.1.1 ∙ ap (λ (vs : List Val). length vs) same)

-- what holds over the cells of now holds over those of the answered page's instance
hold_over : (b : Book) (d : Destination) (name : List ℕ) (n : PageName) (cells : List Val) (es : List Effect) → d ≡ page name n → cells_in n.instance b ≡ Some cells → HoldIn b d es → Holds es cells
hold_over b d name n cells es is here hold = of_some (cells_in n.instance b) cells (λ vs. Holds es vs) here (subst (λ (x : Destination). HoldIn b x es) is hold)

-- ---- a start

pub returns-in_default-target-clause-held : goal.returns-in_default-target-clause-held
returns-in_default-target-clause-held c =
    start_held (library_of c.args.library.now) c.args.book.now c.args.ticket.now (target_of c.args.ticket.now.target) (name_of c.in_default-target.field-0) c.args.fuel c.args.first (ap target_of c.in_default-target.is)
    c.requires.script c.requires.segment

pub returns-in_default-target-clause-on : goal.returns-in_default-target-clause-on
returns-in_default-target-clause-on c =
    held_on c.args.book.now c.args.ticket.now (target_of c.args.ticket.now.target) (map effect_of c.args.first.effects.items)
    (start_held (library_of c.args.library.now) c.args.book.now c.args.ticket.now (target_of c.args.ticket.now.target) (name_of c.in_default-target.field-0) c.args.fuel c.args.first (ap target_of c.in_default-target.is)
    c.requires.script c.requires.segment)

pub returns-in_default-target-clause-whole : goal.returns-in_default-target-clause-whole
returns-in_default-target-clause-whole c = shows_whole (library_of c.args.library.now).all c.args.ticket.now c.args.fuel c.args.ticket.now.cells c.args.first c.requires.runs c.requires.segment

-- ---- an answer that is admitted, whose instance is there

pub unreachable-requires-in_default-cells : goal.unreachable-requires-in_default-cells
unreachable-requires-in_default-cells c =
    let b = book_under (library_of c.args.library.now) c.args.book.now in
    let n = c.in-Page.page.instance in
    let gone : cells_in n b ≡ None = sym (cells_seen (library_of c.args.library.now) no_journal n c.args.book.now) ∙ (sym c.cells.ensures ∙ ap (option_map (λ x. x.now)) c.in_default-cells.is) in
    gone_refused b (name_of c.in-Page.field-0) c.in-Page.page (admit b (target_of c.args.ticket.now.target)) gone (ap (λ (x : Target). admit b (target_of x)) (sym c.in-Page.is)) c.requires.admitted

-- ---- an answer, where the first run's effects hold over the cells of now

pub holds-requires : goal.holds-requires
holds-requires c =
    let named = c.in-Some.named.now in
    let cells = c.in-Some-cells.cells.now in
    let many : length named.script.cells ≡ length cells =
    as_many_now (library_of c.args.library.now) c.args.book.now c.args.ticket.now (target_of c.args.ticket.now.target) (name_of c.in-Page.field-0) c.in-Page.page (named_of named) cells (ap target_of c.in-Page.is) (sym c.in-Some.ensures) (sym c.in-Some-cells.ensures)
    c.requires.admitted c.requires.goes c.requires.cells in
    let on = on_cells_of (library_of c.args.library.now).all c.args.ticket.now (named_of named) c.args.fuel c.args.ticket.now.cells c.args.first cells (sym c.in-Some.ensures)
    many c.requires.segment in
    subst (λ (es : List rust.Effect). AreOn (length cells) (map effect_of es)) (sym c.deref.ensures.value) on

-- they hold over them
first_holds : (c : Then-holds) → Holds (map effect_of c.args.first.effects.items) c.in-Some-cells.cells.now
first_holds c = subst (λ (es : List rust.Effect). Holds (map effect_of es) c.in-Some-cells.cells.now) c.deref.ensures.value (c.if-holds.ensures.0 refl)

pub returns-then-holds-clause-held : goal.returns-then-holds-clause-held
returns-then-holds-clause-held c =
    let b = c.args.book.now in
    let es = map effect_of c.args.first.effects.items in
    let shown = c.in-Page.page in
    let named = c.in-Some.named.now in
    let cells = c.in-Some-cells.cells.now in
    let many : length named.script.cells ≡ length cells =
    as_many_now (library_of c.args.library.now) c.args.book.now c.args.ticket.now (target_of c.args.ticket.now.target) (name_of c.in-Page.field-0) c.in-Page.page (named_of named) cells (ap target_of c.in-Page.is) (sym c.in-Some.ensures) (sym c.in-Some-cells.ensures)
    c.requires.admitted c.requires.goes c.requires.cells in
    let held : AreHeld es cells = record {
      on = on_cells_of (library_of c.args.library.now).all c.args.ticket.now (named_of named) c.args.fuel c.args.ticket.now.cells c.args.first cells (sym c.in-Some.ensures)
          many c.requires.segment;
      hold = first_holds c;
    } in
    page_held b c.args.ticket.now (target_of c.args.ticket.now.target) (name_of c.in-Page.field-0) shown es (ap target_of c.in-Page.is)
    (if_some (cells_at shown.instance b) cells (AreHeld es) (sym c.in-Some-cells.ensures) held)

pub returns-then-holds-clause-on : goal.returns-then-holds-clause-on
returns-then-holds-clause-on c =
    held_on c.args.book.now c.args.ticket.now (target_of c.args.ticket.now.target) (map effect_of c.args.first.effects.items) (returns-then-holds-clause-held c)

pub returns-then-holds-clause-whole : goal.returns-then-holds-clause-whole
returns-then-holds-clause-whole c = shows_whole (library_of c.args.library.now).all c.args.ticket.now c.args.fuel c.args.ticket.now.cells c.args.first c.requires.runs c.requires.segment

pub returns-then-holds-clause-segment : goal.returns-then-holds-clause-segment
returns-then-holds-clause-segment c own =
    let b = book_under (library_of c.args.library.now) c.args.book.now in
    let t = c.args.ticket.now in
    let named = c.in-Some.named.now in
    let shown = c.in-Page.page in
    let here : cells_in shown.instance b ≡ Some c.in-Some-cells.cells.now = sym (cells_seen (library_of c.args.library.now) no_journal shown.instance c.args.book.now) ∙ sym c.in-Some-cells.ensures in
    held_segment (library_of c.args.library.now).all b t (name_of c.in-Page.field-0) named.script c.root-root.ensures.script (named_of named) refl (sym c.in-Some.ensures) c.args.fuel t.cells c.args.first c.requires.segment shown c.in-Some-cells.cells.now here
    c.effects_hold_run_same.ensures (admit b (target_of t.target)) (ap (λ (x : Target). admit b (target_of x)) (sym c.in-Page.is)) own.fits (first_holds c)

pub returns-then-holds-clause-state : goal.returns-then-holds-clause-state
returns-then-holds-clause-state c own =
    let b = book_under (library_of c.args.library.now) c.args.book.now in
    let t = c.args.ticket.now in
    let named = c.in-Some.named.now in
    keeps_state (library_of c.args.library.now).all b t (name_of c.in-Page.field-0) named.script c.root-root.ensures.script (named_of named) refl (sym c.in-Some.ensures) c.args.fuel t.cells c.args.first c.requires.segment (admit b (target_of t.target)) own.fits

-- ---- an answer that is run again over the cells of now

pub returns-in-Ok-clause-segment : goal.returns-in-Ok-clause-segment
returns-in-Ok-clause-segment c own =
    let b = book_under (library_of c.args.library.now) c.args.book.now in
    let t = c.args.ticket.now in
    let named = c.in-Some.named.now in
    let shown = c.in-Page.page in
    let here : cells_in shown.instance b ≡ Some c.in-Some-cells.cells.now = sym (cells_seen (library_of c.args.library.now) no_journal shown.instance c.args.book.now) ∙ sym c.in-Some-cells.ensures in
    rerun_segment (library_of c.args.library.now).all b t (name_of c.in-Page.field-0) named.script c.root-root.ensures.script (named_of named) refl (sym c.in-Some.ensures) c.args.fuel c.in-Some-cells.cells.now c.in-Ok.segment c.in-Ok.ensures.run
    shown c.in-Some-cells.cells.now here (admit b (target_of t.target)) (ap (λ (x : Target). admit b (target_of x)) (sym c.in-Page.is)) own.fits refl

pub returns-in-Ok-clause-state : goal.returns-in-Ok-clause-state
returns-in-Ok-clause-state c own =
    let b = book_under (library_of c.args.library.now) c.args.book.now in
    let t = c.args.ticket.now in
    let named = c.in-Some.named.now in
    keeps_state (library_of c.args.library.now).all b t (name_of c.in-Page.field-0) named.script c.root-root.ensures.script (named_of named) refl (sym c.in-Some.ensures) c.args.fuel c.in-Some-cells.cells.now c.in-Ok.segment c.in-Ok.ensures.run
    (admit b (target_of t.target)) own.fits

-- the effects of the first run don't hold over them
pub returns-in-Ok-clause-first : goal.returns-in-Ok-clause-first
returns-in-Ok-clause-first c own hold =
    let b = book_under (library_of c.args.library.now) c.args.book.now in
    let shown = c.in-Page.page in
    let cells = c.in-Some-cells.cells.now in
    let here : cells_in shown.instance b ≡ Some cells = sym (cells_seen (library_of c.args.library.now) no_journal shown.instance c.args.book.now) ∙ sym c.in-Some-cells.ensures in
    let over = hold_over b (target_of c.args.ticket.now.target) (name_of c.in-Page.field-0) shown cells (map effect_of c.args.first.effects.items) (ap target_of c.in-Page.is) here hold in
    let no : false ≡ true = c.if-holds.ensures.1 (subst (λ (xs : List rust.Effect). Holds (map effect_of xs) cells) (sym c.deref.ensures.value) over) in
    absurd (cc no)

pub returns-clause-first : goal.returns-clause-first
returns-clause-first c own hold =
    let b = book_under (library_of c.args.library.now) c.args.book.now in
    let shown = c.in-Page.page in
    let cells = c.in-Some-cells.cells.now in
    let here : cells_in shown.instance b ≡ Some cells = sym (cells_seen (library_of c.args.library.now) no_journal shown.instance c.args.book.now) ∙ sym c.in-Some-cells.ensures in
    let over = hold_over b (target_of c.args.ticket.now.target) (name_of c.in-Page.field-0) shown cells (map effect_of c.args.first.effects.items) (ap target_of c.in-Page.is) here hold in
    let no : false ≡ true = c.if-holds.ensures.1 (subst (λ (xs : List rust.Effect). Holds (map effect_of xs) cells) (sym c.deref.ensures.value) over) in
    absurd (cc no)

pub returns-in-Ok-clause-held : goal.returns-in-Ok-clause-held
returns-in-Ok-clause-held c =
    let b = c.args.book.now in
    let r = c.in-Ok.segment in
    let es = map effect_of r.effects.items in
    let shown = c.in-Page.page in
    let cells = c.in-Some-cells.cells.now in
    let named = c.in-Some.named.now in
    let many : length named.script.cells ≡ length cells =
    as_many_now (library_of c.args.library.now) c.args.book.now c.args.ticket.now (target_of c.args.ticket.now.target) (name_of c.in-Page.field-0) c.in-Page.page (named_of named) cells (ap target_of c.in-Page.is) (sym c.in-Some.ensures) (sym c.in-Some-cells.ensures)
    c.requires.admitted c.requires.goes c.requires.cells in
    let held : AreHeld es cells = record {
      on = on_cells_of (library_of c.args.library.now).all c.args.ticket.now (named_of named) c.args.fuel cells r cells (sym c.in-Some.ensures) many c.in-Ok.ensures.run;
      hold = (c.in-Ok.ensures.run (named_of named) (sym c.in-Some.ensures)).consistent.hold;
    } in
    page_held b c.args.ticket.now (target_of c.args.ticket.now.target) (name_of c.in-Page.field-0) shown es (ap target_of c.in-Page.is)
    (if_some (cells_at shown.instance b) cells (AreHeld es) (sym c.in-Some-cells.ensures) held)

pub returns-in-Ok-clause-on : goal.returns-in-Ok-clause-on
returns-in-Ok-clause-on c =
    held_on c.args.book.now c.args.ticket.now (target_of c.args.ticket.now.target) (map effect_of c.in-Ok.segment.effects.items) (returns-in-Ok-clause-held c)

pub returns-in-Ok-clause-whole : goal.returns-in-Ok-clause-whole
returns-in-Ok-clause-whole c =
    shows_whole (library_of c.args.library.now).all c.args.ticket.now c.args.fuel c.in-Some-cells.cells.now c.in-Ok.segment c.requires.runs c.in-Ok.ensures.run
