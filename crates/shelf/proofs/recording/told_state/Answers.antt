use Rattle.std.proofs.Common.{◌≡◌, sym, subst, IfOk}
use Rattle.machine_states.specs.Views.{origin_of, suspended_of}
use Rattle.book_recovery.specs.InstanceBook.Places.{kept_at}
use Rattle.book_recovery.specs.InstanceBook.declared.change.Change.{Change}
use Rattle.std.specs.Prelude.{None}
use Rattle.shelf.specs.Recording.{IsKeptIn, told_in, lent}
use Rattle.shelf.proofs.Replayed.{if_ok}
use Rattle.shelf.proofs.Told.{kept_told}
use Rattle.shelf.proofs.recording.told_state.Goals as goal

pub returns-in-Opens-clause-told : goal.returns-in-Opens-clause-told
returns-in-Opens-clause-told c =
    let o = c.in-Opens.opening in
    let t = c.args.ticket.now in
    let d = suspended_of o.state in
    let kept = subst (IsKeptIn t) c.in-Opens.is c.requires.kept in
    let is = if_ok c.state_bytes.result c.state_bytes.ensures (λ bytes h. kept_told c.kept_are_written.ensures None 0 d (kept_at o.page).form kept.form (lent bytes) h) in
    subst (λ (x : Change). IfOk c.state_bytes.result (λ bytes. lent bytes ≡ told_in t x)) (sym c.in-Opens.is) is

pub returns-in-Extends-clause-told : goal.returns-in-Extends-clause-told
returns-in-Extends-clause-told c =
    let x = c.in-Extends.extension in
    let t = c.args.ticket.now in
    let d = suspended_of x.state in
    let kept = subst (IsKeptIn t) c.in-Extends.is c.requires.kept in
    let r = c.state_bytes-in-Extends.result in
    let is = if_ok r c.state_bytes-in-Extends.ensures (λ bytes h. kept_told c.kept_are_written.ensures (origin_of t.from) t.links d (kept_at x.show.page).form kept.form (lent bytes) h) in
    subst (λ (y : Change). IfOk r (λ bytes. lent bytes ≡ told_in t y)) (sym c.in-Extends.is) is
