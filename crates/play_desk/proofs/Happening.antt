-- The events of a desk's shelf.
use Rattle.std.proofs.Common.{◌≡◌, ◌∙◌, ap, subst, ℕ, arith}
use Rattle.web_disk.specs.View.{View}
use Rattle.web_outside.specs.Counted.{counted}
use Rattle.web_outside.specs.declared.nonces.Counting.{Counting}
use Rattle.page_names.specs.Names.{Destination}
use Rattle.script_value.specs.Val.{Val}
use Rattle.replay_spec.specs.Book.{Book}
use Rattle.replay_spec.specs.Step.{Event, take, Fate, step}
use Rattle.replay_spec.specs.Step as spec
use Rattle.replay_spec.specs.Runs as runs
use Rattle.replay_spec.specs.Runs.{drawn_by}
use Rattle.replay_spec.specs.Laws as laws
use Rattle.replay_spec.specs.Laws.{Moment, then_book, RefusedIsUnchanged}
use Rattle.shelf.specs.Views.{book_in, shelf_of, rules_of, fate_by, HasGiven, IsEvent}
use Rattle.shelf.specs.declared.shelf.Shelf.{Shelf}
use Rattle.play_desk.specs.Desk.{counting, happening, in_64_bits}
use Rattle.play_desk.specs.Staff.{shelf_at}

-- the counter of a shelf gives the nonces after those that it has given
has_given : (c : Counting) → HasGiven counting (counted c 0) (counted c)
has_given c k = omega arith

-- an event of a shelf, as the desk has it
abbrev pub Happens : {D : Type 0} → (D → View) → (s new : Shelf D Counting) → Event → spec.Reply → Type 0
Happens view s new what reply = happening (shelf_at view s) what (fate_by reply) ≡ (reply, shelf_at view new)

pub happens : {D : Type 0} (view : D → View) (s new : Shelf D Counting) (what : Event) (reply : spec.Reply)
    → IsEvent view counted s new what reply → Happens view s new what reply
happens view s new what reply done =
    let given = counted s.nonces 0 in
    let same : counting (drawn_by reply given) ≡ counted new.nonces 0 =
    (let first = done.nonces counting given (has_given s.nonces) 0 in omega (arith, first)) in
    ap (λ (x : spec.Reply × runs.Shelf). (x.0, in_64_bits x.1)) (done.step counting given (has_given s.nonces))
    ∙ ap (λ n. (reply, shelf_of view n new)) same

-- what an event of a shelf meets
abbrev pub moment_of : {D : Type 0} → (D → View) → Shelf D Counting → Event → spec.Reply → Moment
moment_of view s what reply =
    record { rules = rules_of s.rules; nonce = counting (counted s.nonces 0); event = what; fate = fate_by reply }

-- the book after it
pub then_is : {D : Type 0} (view : D → View) (s new : Shelf D Counting) (what : Event) (reply : spec.Reply)
    → Happens view s new what reply → then_book (moment_of view s what reply) (book_in view s) ≡ book_in view new
then_is view s new what reply h = ap (λ (x : spec.Reply × runs.Shelf). x.1.book) h

-- and its reply
pub reply_is : {D : Type 0} (view : D → View) (s new : Shelf D Counting) (what : Event) (reply : spec.Reply)
    → Happens view s new what reply
    → (step (rules_of s.rules) (book_in view s) (counting (counted s.nonces 0)) what (fate_by reply)).0 ≡ reply
reply_is view s new what reply h = ap (λ (x : spec.Reply × runs.Shelf). x.0) h

-- what a take comes to
pub took : {D : Type 0} → RefusedIsUnchanged → (view : D → View) (s new : Shelf D Counting) (d : Destination) (a : Val) (reply : spec.Reply)
    → Happens view s new (take d a) reply → laws.Takes (book_in view s) (counting (counted s.nonces 0)) reply (book_in view new)
took law view s new d a reply h =
    let nonce = counting (counted s.nonces 0) in
    let rules = rules_of s.rules in
    let b = book_in view s in
    subst (λ (p : spec.Reply × Book). laws.Takes b nonce p.0 p.1)
    (ap (λ (x : spec.Reply × runs.Shelf). (x.0, x.1.book)) h)
    ((law rules b nonce (fate_by reply)).0 d a)

-- a take does not touch the disk
no_fault : (b : Book) (d : Destination) (nonce : ℕ) (fate : Fate) (count : ℕ) → (spec.take_by b d nonce fate).0 ≡ spec.disk_failed count → ⊥
no_fault b d nonce fate count e = grind (arith, e)

pub take_no_fault : {D : Type 0} (view : D → View) (s new : Shelf D Counting) (d : Destination) (a : Val) (count : ℕ)
    → Happens view s new (take d a) (spec.disk_failed count) → ⊥
unfolding step
take_no_fault view s new d a count h =
    no_fault (book_in view s) d (counting (counted s.nonces 0)) (spec.disk_fault count) count (reply_is view s new (take d a) (spec.disk_failed count) h)
