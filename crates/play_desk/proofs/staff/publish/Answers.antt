use Rattle.std.proofs.Common.{◌≡◌, ◌<◌, ◌∙◌, ℕ, Bool, ap, sym, subst, slice_get, List, Option, None, Some, length, slice_index_or, slice_set, arith}
use Rattle.script_nodes.specs.Views.{library_of}
use Rattle.script_nodes.specs.declared.library.Library.{Library}
use Rattle.web_disk.specs.View.{View}
use Rattle.shelf.specs.Visits.{IsRunnable, ticket_of, reply_of, Ticket}
use Rattle.web_outside.specs.declared.nonces.Counting.{Counting}
use Rattle.shelf.specs.Going.{TicketsGoOnToFit}
use Rattle.shelf.specs.Views.{fate_by, IsOwnVisit}
use Rattle.shelf.specs.declared.shelf.Shelf.{Shelf}
use Rattle.std.proofs.lemmas.Option.{slice_get_within}
use Rattle.play_steps.specs.Rules.{Comes}
use Rattle.play_desk.specs.Desk.{desk_publish, is_fault}
use Rattle.play_desk.specs.Staff.{AreFit, AreOwn, HoldsAt, IsUnspent, RoseBeside, desk_with, faults_in, place_of}
use Rattle.play_desk.proofs.Fitting.{fit_publish, numbers_set, of_held}
use Rattle.play_desk.proofs.Owning.{fits_there, own_publish}
use Rattle.play_desk.proofs.Happening.{happens}
use Rattle.play_desk.proofs.Counting.{faults_later, faults_rise, told_rise}
use Rattle.play_desk.proofs.Places.{at_index, same_set}
use Rattle.play_desk.proofs.Stepping.{count_is, held_there, is_answered, is_event, nothing_held, publish_step, publishes, shelf_there}
use Rattle.play_desk.proofs.staff.publish.Goals as goal

pub returns-in_default-clause-step : goal.returns-in_default-clause-step
returns-in_default-clause-step g c own scripts =
    let s = c.args.staff.now in
    let view = g.D.Disk.view in
    let same : c.handed_in.new.tickets ≡ s.tickets = c.in_default.ensures.without ∙ same_set s.tickets c.args.worker None c.in_default.ensures.ticket in
    is_answered _ _ _ _ _ (nothing_held _ c.args.worker (held_there s.tickets c.args.worker None c.in_default.ensures.ticket))
    (ap (λ (ts : List (Option Ticket)). desk_with view scripts s.shelves.items ts) same)

pub returns-in_default-clause-fit : goal.returns-in_default-clause-fit
returns-in_default-clause-fit g c =
    let s = c.args.staff.now in
    let same : c.handed_in.new.tickets ≡ s.tickets = c.in_default.ensures.without ∙ same_set s.tickets c.args.worker None c.in_default.ensures.ticket in
    subst (λ (ts : List (Option Ticket)). AreFit g.D.Disk.view g.D.Disk.tells s.shelves.items ts) (sym same) c.requires.fit

pub returns-in_default-clause-own : goal.returns-in_default-clause-own
returns-in_default-clause-own g c own =
    let s = c.args.staff.now in
    let same : c.handed_in.new.tickets ≡ s.tickets = c.in_default.ensures.without ∙ same_set s.tickets c.args.worker None c.in_default.ensures.ticket in
    subst (λ (ts : List (Option Ticket)). AreOwn g.D.Disk.view g.D.Disk.tells s.shelves.items ts) (sym same) own

-- the place of a ticket's shelf is one
place_is : {D : Type 0} (view : D → View) (xs : List (Shelf D Counting)) (count place worker : ℕ) (t : Ticket) → count ≡ length xs
    → place ≡ place_of count worker t → HoldsAt (IsUnspent view) xs (place_of (length xs) worker t) t
    → (place_of (length xs) worker t ≡ place) × (place < length xs)
place_is view xs count place worker t len is o =
    let same : place_of (length xs) worker t ≡ place = ap (λ n. place_of n worker t) (sym len) ∙ sym is in
    let low = slice_get_within xs (place_of (length xs) worker t) o.shelf o.there in
    (same, subst (λ k. k < length xs) same low)

-- the place of a ticket's shelf, where its worker's number is another number's
placed : (count place number worker : ℕ) (t : Ticket) → place ≡ place_of count number t → number ≡ worker → place ≡ place_of count worker t
placed count place number worker t is same = is ∙ ap (λ w. place_of count w t) same

pub shelf_for-place-requires : goal.shelf_for-place-requires
shelf_for-place-requires g c =
    let o = c.requires.fit.unspent c.args.worker c.in-Some.ticket c.in-Some.ensures.ticket in
    let low = slice_get_within c.args.staff.now.shelves.items _ o.shelf o.there in
    omega (arith, low, c.len.ensures, c.args.staff.now.shelves.ok)

pub index_mut-shelf-requires : goal.index_mut-shelf-requires
index_mut-shelf-requires g c =
    let s = c.args.staff.now in
    let o = c.requires.fit.unspent c.args.worker c.in-Some.ticket c.in-Some.ensures.ticket in
    let at = place_is g.D.Disk.view s.shelves.items c.len.result _ c.args.worker c.in-Some.ticket (c.len.ensures ∙ s.shelves.ok.0) (placed c.len.result c.shelf_for-place.result c.from.result c.args.worker c.in-Some.ticket c.shelf_for-place.ensures c.from.ensures) o in
    omega (arith, at.1, s.shelves.ok)

-- the ticket is unspent on the shelf in its place
held_there_so : {D : Type 0} (view : D → View) (tells : Bool) (xs : List (Shelf D Counting)) (ts : List (Option Ticket)) (count k worker : ℕ)
    (x d : Shelf D Counting) (t : Ticket) → AreFit view tells xs ts → slice_get ts worker ≡ Some (Some t) → count ≡ length xs
    → k ≡ place_of count worker t → x ≡ slice_index_or xs k d → IsUnspent view x t
held_there_so view tells xs ts count k worker x d t fit held len place is =
    let at = place_is view xs count k worker t len place (fit.unspent worker t held) in
    of_held (IsUnspent view) xs ts k worker x t fit.unspent (at_index xs k x d at.1 is) held at.0

pub segment_of-segment-requires-clause-fits : goal.segment_of-segment-requires-clause-fits
segment_of-segment-requires-clause-fits g c =
    let s = c.args.staff.now in
    let x = c.index_mut-shelf.result.now in
    let t = c.in-Some.ticket in
    subst (λ (l : Library). IsRunnable (library_of l).all t) (sym c.library.ensures)
    (held_there_so g.D.Disk.view g.D.Disk.tells s.shelves.items s.tickets c.len.result c.shelf_for-place.result c.args.worker x x t c.requires.fit
    c.in-Some.ensures.ticket (c.len.ensures ∙ s.shelves.ok.0) (placed c.len.result c.shelf_for-place.result c.from.result c.args.worker c.in-Some.ticket c.shelf_for-place.ensures c.from.ensures) c.index_mut-shelf.ensures.value).runs

pub publish-requires-clause-in_order : goal.publish-requires-clause-in_order
publish-requires-clause-in_order g c =
    let s = c.args.staff.now in
    let x = c.index_mut-shelf.result.now in
    let k = c.shelf_for-place.result in
    let o = c.requires.fit.unspent c.args.worker c.in-Some.ticket c.in-Some.ensures.ticket in
    let at = place_is g.D.Disk.view s.shelves.items c.len.result k c.args.worker c.in-Some.ticket (c.len.ensures ∙ s.shelves.ok.0) (placed c.len.result c.shelf_for-place.result c.from.result c.args.worker c.in-Some.ticket c.shelf_for-place.ensures c.from.ensures) o in
    c.requires.fit.in_order k x (at_index s.shelves.items k x x at.1 c.index_mut-shelf.ensures.value)

pub publish-requires-clause-out : goal.publish-requires-clause-out
publish-requires-clause-out g c =
    let s = c.args.staff.now in
    let x = c.index_mut-shelf.result.now in
    (held_there_so g.D.Disk.view g.D.Disk.tells s.shelves.items s.tickets c.len.result c.shelf_for-place.result c.args.worker x x c.in-Some.ticket
    c.requires.fit c.in-Some.ensures.ticket (c.len.ensures ∙ s.shelves.ok.0) (placed c.len.result c.shelf_for-place.result c.from.result c.args.worker c.in-Some.ticket c.shelf_for-place.ensures c.from.ensures) c.index_mut-shelf.ensures.value).out

pub publish-requires-clause-runs : goal.publish-requires-clause-runs
publish-requires-clause-runs g c =
    let s = c.args.staff.now in
    let x = c.index_mut-shelf.result.now in
    (held_there_so g.D.Disk.view g.D.Disk.tells s.shelves.items s.tickets c.len.result c.shelf_for-place.result c.args.worker x x c.in-Some.ticket
    c.requires.fit c.in-Some.ensures.ticket (c.len.ensures ∙ s.shelves.ok.0) (placed c.len.result c.shelf_for-place.result c.from.result c.args.worker c.in-Some.ticket c.shelf_for-place.ensures c.from.ensures) c.index_mut-shelf.ensures.value).runs

pub publish-requires-clause-script : goal.publish-requires-clause-script
publish-requires-clause-script g c =
    let s = c.args.staff.now in
    let x = c.index_mut-shelf.result.now in
    (held_there_so g.D.Disk.view g.D.Disk.tells s.shelves.items s.tickets c.len.result c.shelf_for-place.result c.args.worker x x c.in-Some.ticket
    c.requires.fit c.in-Some.ensures.ticket (c.len.ensures ∙ s.shelves.ok.0) (placed c.len.result c.shelf_for-place.result c.from.result c.args.worker c.in-Some.ticket c.shelf_for-place.ensures c.from.ensures) c.index_mut-shelf.ensures.value).script

pub publish-requires-clause-goes : goal.publish-requires-clause-goes
publish-requires-clause-goes g c =
    let s = c.args.staff.now in
    let x = c.index_mut-shelf.result.now in
    (held_there_so g.D.Disk.view g.D.Disk.tells s.shelves.items s.tickets c.len.result c.shelf_for-place.result c.args.worker x x c.in-Some.ticket
    c.requires.fit c.in-Some.ensures.ticket (c.len.ensures ∙ s.shelves.ok.0) (placed c.len.result c.shelf_for-place.result c.from.result c.args.worker c.in-Some.ticket c.shelf_for-place.ensures c.from.ensures) c.index_mut-shelf.ensures.value).goes

-- a ticket of an own shelf that is published is for the visit of its target
visits : {D : Type 0} (view : D → View) (tells : Bool) (xs : List (Shelf D Counting)) (ts : List (Option Ticket)) (k worker : ℕ)
    (x : Shelf D Counting) (t : Ticket) → TicketsGoOnToFit → AreOwn view tells xs ts → slice_get xs k ≡ Some x
    → slice_get ts worker ≡ Some (Some t) → place_of (length xs) worker t ≡ k → IsOwnVisit view tells x t
visits view tells xs ts k worker x t law own here held place = record {
  own = own.own k x here;
  fits = fits_there view tells xs ts k worker x t law own here held place;
}

pub returns-clause-step : goal.returns-clause-step
returns-clause-step g c own scripts =
    let s = c.args.staff.now in
    let view = g.D.Disk.view in
    let xs = s.shelves.items in
    let x = c.index_mut-shelf.result.now in
    let y = c.publish.new.self in
    let k = c.shelf_for-place.result in
    let t = c.in-Some.ticket in
    let e = c.publish.result in
    let o = c.requires.fit.unspent c.args.worker t c.in-Some.ensures.ticket in
    let at = place_is g.D.Disk.view xs c.len.result k c.args.worker t (c.len.ensures ∙ s.shelves.ok.0) (placed c.len.result c.shelf_for-place.result c.from.result c.args.worker t c.shelf_for-place.ensures c.from.ensures) o in
    let here = at_index xs k x x at.1 c.index_mut-shelf.ensures.value in
    let visit = visits view g.D.Disk.tells xs s.tickets k c.args.worker x t c.tickets_go_on_to_fit.ensures own here c.in-Some.ensures.ticket at.0 in
    let h = happens view x y _ (reply_of e) (c.publish.ensures.event visit) in
    let step = is_event _ (desk_with view scripts (slice_set xs k y) (slice_set s.tickets c.args.worker None)) _ _ e _ (fate_by (reply_of e))
    (publishes _ c.args.worker (ticket_of t) k _ (held_there s.tickets c.args.worker (Some t) c.in-Some.ensures.ticket)
    (ap (λ n. place_of n c.args.worker t) (count_is view scripts xs s.tickets) ∙ at.0) (shelf_there view scripts xs s.tickets k x here))
    (publish_step view scripts xs s.tickets k c.args.worker x y t e h)
    (λ fails. faults_rise g.D.Disk.view xs k x y here (told_rise _ _ (reply_of e) c.publish.ensures.cause fails)) in
    subst (λ (ts : List (Option Ticket)). Comes is_fault (RoseBeside (faults_in g.D.Disk.view xs) (faults_in g.D.Disk.view (slice_set xs k y)))
    (desk_publish (desk_with view scripts xs s.tickets) c.args.worker) (desk_with view scripts xs s.tickets) e (desk_with view scripts (slice_set xs k y) ts))
    (sym c.in-Some.ensures.without) step

pub returns-clause-fit : goal.returns-clause-fit
returns-clause-fit g c =
    let s = c.args.staff.now in
    let view = g.D.Disk.view in
    let xs = s.shelves.items in
    let x = c.index_mut-shelf.result.now in
    let y = c.publish.new.self in
    let k = c.shelf_for-place.result in
    let t = c.in-Some.ticket in
    let o = c.requires.fit.unspent c.args.worker t c.in-Some.ensures.ticket in
    let at = place_is g.D.Disk.view xs c.len.result k c.args.worker t (c.len.ensures ∙ s.shelves.ok.0) (placed c.len.result c.shelf_for-place.result c.from.result c.args.worker t c.shelf_for-place.ensures c.from.ensures) o in
    let here = at_index xs k x x at.1 c.index_mut-shelf.ensures.value in
    subst (λ (ts : List (Option Ticket)). AreFit view g.D.Disk.tells (slice_set xs k y) ts) (sym c.in-Some.ensures.without)
    (fit_publish view g.D.Disk.tells xs s.tickets k c.args.worker x y t c.requires.fit here c.in-Some.ensures.ticket at.0
    c.publish.ensures.spent c.publish.ensures.in_order c.publish.ensures.rules c.publish.ensures.library c.publish.ensures.tickets)

pub returns-clause-own : goal.returns-clause-own
returns-clause-own g c own =
    let s = c.args.staff.now in
    let view = g.D.Disk.view in
    let xs = s.shelves.items in
    let x = c.index_mut-shelf.result.now in
    let y = c.publish.new.self in
    let k = c.shelf_for-place.result in
    let t = c.in-Some.ticket in
    let e = c.publish.result in
    let o = c.requires.fit.unspent c.args.worker t c.in-Some.ensures.ticket in
    let at = place_is g.D.Disk.view xs c.len.result k c.args.worker t (c.len.ensures ∙ s.shelves.ok.0) (placed c.len.result c.shelf_for-place.result c.from.result c.args.worker t c.shelf_for-place.ensures c.from.ensures) o in
    let here = at_index xs k x x at.1 c.index_mut-shelf.ensures.value in
    let unspent = of_held (IsUnspent view) xs s.tickets k c.args.worker x t c.requires.fit.unspent here c.in-Some.ensures.ticket at.0 in
    let visit = visits view g.D.Disk.tells xs s.tickets k c.args.worker x t c.tickets_go_on_to_fit.ensures own here c.in-Some.ensures.ticket at.0 in
    let h = happens view x y _ (reply_of e) (c.publish.ensures.event visit) in
    subst (λ (ts : List (Option Ticket)). AreOwn view g.D.Disk.tells (slice_set xs k y) ts) (sym c.in-Some.ensures.without)
    (own_publish view g.D.Disk.tells xs s.tickets k c.args.worker x y t e own here unspent h c.publish.ensures.library (c.publish.ensures.own visit))

pub returns-clause-there : goal.returns-clause-there
returns-clause-there g c =
    let s = c.args.staff.now in
    let xs = s.shelves.items in
    let x = c.index_mut-shelf.result.now in
    let y = c.publish.new.self in
    let k = c.shelf_for-place.result in
    let t = c.in-Some.ticket in
    let o = c.requires.fit.unspent c.args.worker t c.in-Some.ensures.ticket in
    let at = place_is g.D.Disk.view xs c.len.result k c.args.worker t (c.len.ensures ∙ s.shelves.ok.0) (placed c.len.result c.shelf_for-place.result c.from.result c.args.worker t c.shelf_for-place.ensures c.from.ensures) o in
    let here = at_index xs k x x at.1 c.index_mut-shelf.ensures.value in
    record {
      numbers = numbers_set xs k x y here c.publish.ensures.rules;
      later = faults_later g.D.Disk.view xs k x y here c.publish.ensures.later;
    }
