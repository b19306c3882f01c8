use Rattle.std.proofs.Common.{◌≡◌, ◌∙◌, ap, subst, refl, ℕ, ◌+◌, ◌++◌, ◌∷◌, [], List, false, length, map, Option, arith}
use Rattle.web_disk.specs.View.{LeavesOnly}
use Rattle.value_bytes.specs.Laws.{AreBytes}
use Rattle.page_journal.specs.Records.{newest, stored}
use Rattle.page_journal.specs.Holding.{MayHold}
use Rattle.page_journal.specs.Settled.{bodies_in, length_of, view_of}
use Rattle.page_journal.proofs.Scans.{quiet_none}
use Rattle.journal_records.specs.Records.{promotes, body_of}
use Rattle.file_copies.specs.OfFileNotes.declared.note.Note.{Note}
use Rattle.file_copies.specs.OfFileNotes.Notes.{is_told}
use Rattle.shelf.specs.declared.follower.Follower.{Follower}
use Rattle.shelf.specs.Views.{IsInOrder}
use Rattle.shelf.proofs.Adding.{as_before, then_adds, can_be_fed, settled_fed}
use Rattle.shelf.proofs.Promoting.{promoted_shelf}
use Rattle.shelf.proofs.Still.{order_still}
use Rattle.shelf.proofs.shelf.Shelf.promote.Goals as goal

pub returns-then-len-gt-MAX_LEN-clause-any_moment : goal.returns-then-len-gt-MAX_LEN-clause-any_moment
returns-then-len-gt-MAX_LEN-clause-any_moment g c =
    let s = c.args.self.now in (quiet_none (view_of g.D.Disk.view s.journal) (g.met.D.Disk.only_now s.journal.disk)).moments

-- there was no memory for a note

pub returns-then-is_err-clause-in_order : goal.returns-then-is_err-clause-in_order
returns-then-is_err-clause-in_order g c = λ can.
    let s = c.args.self.now in
    let order = c.requires.in_order (can_be_fed s c.in-Some.follower c.in-Some.is c.in_default-fallen.is) in
    subst (λ (o : Option Follower). IsInOrder g.D.Disk.view g.D.Disk.tells (record s { notes = c.room.new.self; follower = o })) c.in-Some.is
    (order_still g.D.Disk.view g.D.Disk.tells s s.journal c.room.new.self (record { settled = λ told settled. settled; format = refl; seen = refl; images = λ image left. left }) refl c.room.ensures.same order order.sound refl c.room.ensures.noted)

pub returns-then-is_err-clause-any_moment : goal.returns-then-is_err-clause-any_moment
returns-then-is_err-clause-any_moment g c =
    let s = c.args.self.now in (quiet_none (view_of g.D.Disk.view s.journal) (g.met.D.Disk.only_now s.journal.disk)).moments

-- nor for the record

pub returns-then-is_err-2-clause-in_order : goal.returns-then-is_err-2-clause-in_order
returns-then-is_err-2-clause-in_order g c = λ can.
    let s = c.args.self.now in
    let done = c.room-2.ensures in
    let order = c.requires.in_order (can_be_fed s c.in-Some.follower c.in-Some.is c.in_default-fallen.is) in
    subst (λ (o : Option Follower). IsInOrder g.D.Disk.view g.D.Disk.tells (record s { journal = c.room-2.new.self; notes = c.room.new.self; follower = o })) c.in-Some.is
    (order_still g.D.Disk.view g.D.Disk.tells s c.room-2.new.self c.room.new.self (record { settled = λ told settled. done.settled told; format = done.format; seen = done.seen; images = done.images }) done.len c.room.ensures.same order done.sound done.whole c.room.ensures.noted)

pub returns-then-is_err-2-clause-any_moment : goal.returns-then-is_err-2-clause-any_moment
returns-then-is_err-2-clause-any_moment g c =
    let s = c.args.self.now in
    as_before (view_of g.D.Disk.view s.journal) (view_of g.D.Disk.view c.room-2.new.self) (g.met.D.Disk.only_now s.journal.disk) c.room-2.ensures.images c.room-2.ensures.time

-- it was added

pub returns-in-Ok-added-clause-promotes : goal.returns-in-Ok-added-clause-promotes
returns-in-Ok-added-clause-promotes g c =
    let view = g.D.Disk.view in
    let s = c.args.self.now in
    let f = c.in-Some.follower in
    let order = c.requires.in_order (can_be_fed s f c.in-Some.is c.in_default-fallen.is) in
    let mid = c.room-2.new.self in
    let new = c.added.new.journal in
    let here : c.as_slice.result.now ≡ body_of promotes = c.as_slice.ensures ∙ c.in-Ok.ensures in
    let long : length_of new ≡ length_of s.journal + 6 = omega (arith, c.in-Ok-added.ensures.len, c.room-2.ensures.len, ap (λ (x : List ℕ). length x) here) in
    promoted_shelf view g.D.Disk.tells s f c.in-Some.is order c.promotions_make_the_book.ensures c.records_are_exact.ensures new c.pass.new.self
    (λ told. let both = c.in-Ok-added.ensures.ok told in (both.0, both.1 ∙ (ap (λ (bs : List (List ℕ)). bs ++ c.as_slice.result.now ∷ []) (ap stored c.room-2.ensures.seen) ∙ ap (λ (x : List ℕ). bodies_in view s.journal ++ x ∷ []) here)))
    c.added.ensures.sound c.in-Ok-added.ensures.whole c.added.ensures.newest long (c.pass.ensures.file ∙ c.room.ensures.same.file) (c.pass.ensures.marks ∙ ap (λ (ns : List Note). map is_told ns ++ false ∷ []) c.room.ensures.same.notes) c.pass.ensures.noted
    (subst AreBytes here c.added.ensures.bytes)

pub returns-in-Ok-added-clause-any_moment : goal.returns-in-Ok-added-clause-any_moment
returns-in-Ok-added-clause-any_moment g c = λ told can.
    let view = g.D.Disk.view in
    let s = c.args.self.now in
    let order = c.requires.in_order can in
    let mid = c.room-2.new.self in
    let new = c.added.new.journal in
    then_adds view s.journal (body_of promotes) (settled_fed s c.in-Some.follower c.in-Some.is view g.D.Disk.tells order told) order.knows.newest_is (g.met.D.Disk.only_now s.journal.disk) mid c.room-2.ensures.images c.room-2.ensures.time new c.room-2.ensures.seen
    (subst (λ (x : List ℕ). LeavesOnly (view mid.disk) (view new.disk) (MayHold newest (bodies_in view mid) x)) (c.as_slice.ensures ∙ c.in-Ok.ensures) (c.added.ensures.any_moment told))

-- or not

pub returns-clause-any_moment : goal.returns-clause-any_moment
returns-clause-any_moment g c = λ told can.
    let view = g.D.Disk.view in
    let s = c.args.self.now in
    let order = c.requires.in_order can in
    let mid = c.room-2.new.self in
    let new = c.added.new.journal in
    then_adds view s.journal (body_of promotes) (settled_fed s c.in-Some.follower c.in-Some.is view g.D.Disk.tells order told) order.knows.newest_is (g.met.D.Disk.only_now s.journal.disk) mid c.room-2.ensures.images c.room-2.ensures.time new c.room-2.ensures.seen
    (subst (λ (x : List ℕ). LeavesOnly (view mid.disk) (view new.disk) (MayHold newest (bodies_in view mid) x)) (c.as_slice.ensures ∙ c.in-Ok.ensures) (c.added.ensures.any_moment told))
