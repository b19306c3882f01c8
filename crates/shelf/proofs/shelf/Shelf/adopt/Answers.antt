use Rattle.std.proofs.Common.{◌≡◌, ◌∙◌, ap, sym, subst, refl, ℕ, ◌+◌, ◌++◌, ◌∷◌, [], List, Bool, true, false, length, Option, Some, Ok, arith}
use Rattle.page_journal.specs.Records.{stored}
use Rattle.page_journal.specs.Settled.{length_of, length_with, view_of}
use Rattle.page_journal.proofs.Scans.{quiet_none}
use Rattle.shelf.specs.declared.follower.Follower.{Follower}
use Rattle.shelf.specs.Following.{IsFedMore, TellsPlace}
use Rattle.shelf.specs.Views.{book_in, IsInOrder}
use Rattle.shelf.proofs.Adding.{as_before, then_adds, can_be_fed, settled_fed}
use Rattle.shelf.proofs.Adopting.{stands_nowhere, stands_there, fed_stands, adopted, adopted_order}
use Rattle.shelf.proofs.Known.{told_still}
use Rattle.shelf.proofs.Quiet.{untouched}
use Rattle.shelf.proofs.Still.{order_still}
use Rattle.shelf.proofs.Unmoved.{same_book, kept_order}
use Rattle.shelf.proofs.shelf.Shelf.adopt.Goals as goal

-- there is no room for the record

pub returns-in-Ok-true-clause-adopts : goal.returns-in-Ok-true-clause-adopts
returns-in-Ok-true-clause-adopts g c =
    let view = g.D.Disk.view in
    let s = c.args.self.now in
    let f = c.in-Some.follower in
    let body = c.args.body.now in
    let order = c.requires.in_order (can_be_fed s f c.in-Some.is c.in_default-fallen.is) in
    let some = subst (λ (t : Bool). TellsPlace s.rules.number body f s.book s.library (Ok t)) c.in-Ok-true.field-0-test c.in-Ok-true.ensures in
    record {
      stays = record {
        could = can_be_fed s f c.in-Some.is c.in_default-fallen.is;
        can = can_be_fed (record s { follower = Some f }) f refl c.in_default-fallen.is;
        book = ap (λ (o : Option Follower). book_in view (record s { follower = o })) (sym c.in-Some.is);
        disk = untouched (view s.journal.disk);
      };
      stands = stands_there view g.D.Disk.tells s f c.in-Some.is order body c.one_body_more.ensures (sym c.is_role.ensures ∙ c.if-is_role.false) some;
      is = ap (λ (k : ℕ). k + 5 + length body) c.len.ensures.len;
      long = omega (arith, c.if-len-gt-MAX_LEN.true);
    }

pub returns-in-Ok-true-clause-any_moment : goal.returns-in-Ok-true-clause-any_moment
returns-in-Ok-true-clause-any_moment g c =
    let s = c.args.self.now in (quiet_none (view_of g.D.Disk.view s.journal) (g.met.D.Disk.only_now s.journal.disk)).moments

pub returns-in-Ok-false-clause-adopts : goal.returns-in-Ok-false-clause-adopts
returns-in-Ok-false-clause-adopts g c =
    let view = g.D.Disk.view in
    let s = c.args.self.now in
    let f = c.in-Some.follower in
    let body = c.args.body.now in
    let order = c.requires.in_order (can_be_fed s f c.in-Some.is c.in_default-fallen.is) in
    let none = subst (λ (t : Bool). TellsPlace s.rules.number body f s.book s.library (Ok t)) c.in-Ok-false.field-0-test c.in-Ok-false.ensures in
    record {
      stays = record {
        could = can_be_fed s f c.in-Some.is c.in_default-fallen.is;
        can = can_be_fed (record s { follower = Some f }) f refl c.in_default-fallen.is;
        book = ap (λ (o : Option Follower). book_in view (record s { follower = o })) (sym c.in-Some.is);
        disk = untouched (view s.journal.disk);
      };
      nowhere = stands_nowhere view g.D.Disk.tells s f c.in-Some.is order body c.one_body_more.ensures none;
    }

pub returns-in-Ok-false-clause-any_moment : goal.returns-in-Ok-false-clause-any_moment
returns-in-Ok-false-clause-any_moment g c =
    let s = c.args.self.now in (quiet_none (view_of g.D.Disk.view s.journal) (g.met.D.Disk.only_now s.journal.disk)).moments

pub returns-in-Err-clause-any_moment : goal.returns-in-Err-clause-any_moment
returns-in-Err-clause-any_moment g c =
    let s = c.args.self.now in (quiet_none (view_of g.D.Disk.view s.journal) (g.met.D.Disk.only_now s.journal.disk)).moments

-- there was no memory for it

pub returns-then-is_err-clause-in_order : goal.returns-then-is_err-clause-in_order
returns-then-is_err-clause-in_order g c = λ can.
    let s = c.args.self.now in
    let done = c.room.ensures in
    let order = c.requires.in_order (can_be_fed s c.in-Some.follower c.in-Some.is c.in_default-fallen.is) in
    subst (λ (o : Option Follower). IsInOrder g.D.Disk.view g.D.Disk.tells (record s { journal = c.room.new.self; follower = o })) c.in-Some.is
    (order_still g.D.Disk.view g.D.Disk.tells s c.room.new.self s.notes (record { settled = λ told settled. done.settled told; format = done.format; seen = done.seen; images = done.images }) done.len (told_still s.notes) order done.sound done.whole order.knows.noted)

pub returns-then-is_err-clause-any_moment : goal.returns-then-is_err-clause-any_moment
returns-then-is_err-clause-any_moment g c =
    let s = c.args.self.now in
    as_before (view_of g.D.Disk.view s.journal) (view_of g.D.Disk.view c.room.new.self) (g.met.D.Disk.only_now s.journal.disk) c.room.ensures.images c.room.ensures.time

-- it stands nowhere, or there was no memory to read it

pub returns-in-Ok-false-fed_more-clause-adopts : goal.returns-in-Ok-false-fed_more-clause-adopts
returns-in-Ok-false-fed_more-clause-adopts g c =
    let view = g.D.Disk.view in
    let s = c.args.self.now in
    let f = c.in-Some.follower in
    let body = c.args.body.now in
    let next = c.fed_more.new in
    let done = c.room.ensures in
    let order = c.requires.in_order (can_be_fed s f c.in-Some.is c.in_default-fallen.is) in
    let more = subst (λ (t : Bool). IsFedMore s.rules.number body f next.follower s.book next.book s.library next.library s.notes next.notes (Ok t)) c.in-Ok-false-fed_more.field-0-test c.in-Ok-false-fed_more.ensures.more in
    record {
      stays = record {
        could = can_be_fed s f c.in-Some.is c.in_default-fallen.is;
        can = can_be_fed (record s { journal = c.room.new.self; book = next.book; library = next.library; notes = next.notes; follower = Some next.follower }) next.follower refl (more.0.fallen ∙ c.in_default-fallen.is);
        book = same_book view g.D.Disk.tells s f c.in-Some.is order next.follower next.book next.library next.notes more.0 c.room.new.self (record { settled = λ told settled. done.settled told; format = done.format; seen = done.seen; images = done.images }) done.len done.sound done.whole c.fed_more.ensures.noted;
        disk = record { faults = done.faults; seen = done.seen; images = done.images };
      };
      nowhere = stands_nowhere view g.D.Disk.tells s f c.in-Some.is order body c.one_body_more.ensures more.1;
    }

pub returns-in-Ok-false-fed_more-clause-in_order : goal.returns-in-Ok-false-fed_more-clause-in_order
returns-in-Ok-false-fed_more-clause-in_order g c = λ can.
    let s = c.args.self.now in
    let f = c.in-Some.follower in
    let next = c.fed_more.new in
    let done = c.room.ensures in
    let order = c.requires.in_order (can_be_fed s f c.in-Some.is c.in_default-fallen.is) in
    let more = subst (λ (t : Bool). IsFedMore s.rules.number c.args.body.now f next.follower s.book next.book s.library next.library s.notes next.notes (Ok t)) c.in-Ok-false-fed_more.field-0-test c.in-Ok-false-fed_more.ensures.more in
    kept_order g.D.Disk.view g.D.Disk.tells s f c.in-Some.is order next.follower next.book next.library next.notes more.0 c.room.new.self (record { settled = λ told settled. done.settled told; format = done.format; seen = done.seen; images = done.images }) done.len done.sound done.whole c.fed_more.ensures.noted

pub returns-in-Ok-false-fed_more-clause-any_moment : goal.returns-in-Ok-false-fed_more-clause-any_moment
returns-in-Ok-false-fed_more-clause-any_moment g c =
    let s = c.args.self.now in
    as_before (view_of g.D.Disk.view s.journal) (view_of g.D.Disk.view c.room.new.self) (g.met.D.Disk.only_now s.journal.disk) c.room.ensures.images c.room.ensures.time

pub returns-in-Err-fed_more-clause-adopts : goal.returns-in-Err-fed_more-clause-adopts
returns-in-Err-fed_more-clause-adopts g c =
    let s = c.args.self.now in
    let f = c.in-Some.follower in
    let next = c.fed_more.new in
    let done = c.room.ensures in
    let order = c.requires.in_order (can_be_fed s f c.in-Some.is c.in_default-fallen.is) in
    let kept = c.in-Err-fed_more.ensures.more in
    record {
      could = can_be_fed s f c.in-Some.is c.in_default-fallen.is;
      can = can_be_fed (record s { journal = c.room.new.self; book = next.book; library = next.library; notes = next.notes; follower = Some next.follower }) next.follower refl (kept.fallen ∙ c.in_default-fallen.is);
      book = same_book g.D.Disk.view g.D.Disk.tells s f c.in-Some.is order next.follower next.book next.library next.notes kept c.room.new.self (record { settled = λ told settled. done.settled told; format = done.format; seen = done.seen; images = done.images }) done.len done.sound done.whole c.fed_more.ensures.noted;
      disk = record { faults = done.faults; seen = done.seen; images = done.images };
    }

pub returns-in-Err-fed_more-clause-in_order : goal.returns-in-Err-fed_more-clause-in_order
returns-in-Err-fed_more-clause-in_order g c = λ can.
    let s = c.args.self.now in
    let f = c.in-Some.follower in
    let next = c.fed_more.new in
    let done = c.room.ensures in
    let order = c.requires.in_order (can_be_fed s f c.in-Some.is c.in_default-fallen.is) in
    kept_order g.D.Disk.view g.D.Disk.tells s f c.in-Some.is order next.follower next.book next.library next.notes c.in-Err-fed_more.ensures.more c.room.new.self (record { settled = λ told settled. done.settled told; format = done.format; seen = done.seen; images = done.images }) done.len done.sound done.whole c.fed_more.ensures.noted

pub returns-in-Err-fed_more-clause-any_moment : goal.returns-in-Err-fed_more-clause-any_moment
returns-in-Err-fed_more-clause-any_moment g c =
    let s = c.args.self.now in
    as_before (view_of g.D.Disk.view s.journal) (view_of g.D.Disk.view c.room.new.self) (g.met.D.Disk.only_now s.journal.disk) c.room.ensures.images c.room.ensures.time

-- it was added

pub returns-in-Ok-clause-adopts : goal.returns-in-Ok-clause-adopts
returns-in-Ok-clause-adopts g c =
    let view = g.D.Disk.view in
    let s = c.args.self.now in
    let f = c.in-Some.follower in
    let body = c.args.body.now in
    let next = c.fed_more.new in
    let new = c.added.new.journal in
    let order = c.requires.in_order (can_be_fed s f c.in-Some.is c.in_default-fallen.is) in
    let more = subst (λ (t : Bool). IsFedMore s.rules.number body f next.follower s.book next.book s.library next.library s.notes next.notes (Ok t)) c.in-Ok-true-fed_more.field-0-test c.in-Ok-true-fed_more.ensures.more in
    let long : length_of new ≡ length_with s.journal body = omega (arith, c.in-Ok.ensures.len, c.room.ensures.len) in
    adopted view g.D.Disk.tells s f c.in-Some.is order body next.follower next.book next.library next.notes more c.one_body_more.ensures c.bodies_of_any_format_fit.ensures c.records_are_exact.ensures c.added.ensures.bytes new
    (λ told. let both = c.in-Ok.ensures.ok told in (both.0, both.1 ∙ ap (λ (bs : List (List ℕ)). bs ++ body ∷ []) (ap stored c.room.ensures.seen))) c.added.ensures.sound c.in-Ok.ensures.whole c.added.ensures.newest c.fed_more.ensures.noted
    (sym c.is_role.ensures ∙ c.if-is_role.false) long

pub returns-in-Ok-clause-in_order : goal.returns-in-Ok-clause-in_order
returns-in-Ok-clause-in_order g c = λ can.
    let view = g.D.Disk.view in
    let s = c.args.self.now in
    let f = c.in-Some.follower in
    let body = c.args.body.now in
    let next = c.fed_more.new in
    let new = c.added.new.journal in
    let order = c.requires.in_order (can_be_fed s f c.in-Some.is c.in_default-fallen.is) in
    let more = subst (λ (t : Bool). IsFedMore s.rules.number body f next.follower s.book next.book s.library next.library s.notes next.notes (Ok t)) c.in-Ok-true-fed_more.field-0-test c.in-Ok-true-fed_more.ensures.more in
    adopted_order view g.D.Disk.tells s f c.in-Some.is order body next.follower next.book next.library next.notes more c.one_body_more.ensures c.bodies_of_any_format_fit.ensures c.records_are_exact.ensures c.added.ensures.bytes new
    (λ told. let both = c.in-Ok.ensures.ok told in (both.0, both.1 ∙ ap (λ (bs : List (List ℕ)). bs ++ body ∷ []) (ap stored c.room.ensures.seen))) c.added.ensures.sound c.in-Ok.ensures.whole c.added.ensures.newest c.fed_more.ensures.noted

pub returns-in-Ok-clause-any_moment : goal.returns-in-Ok-clause-any_moment
returns-in-Ok-clause-any_moment g c = λ told can.
    let s = c.args.self.now in
    let order = c.requires.in_order can in
    then_adds g.D.Disk.view s.journal c.args.body.now (settled_fed s c.in-Some.follower c.in-Some.is g.D.Disk.view g.D.Disk.tells order told) order.knows.newest_is (g.met.D.Disk.only_now s.journal.disk) c.room.new.self c.room.ensures.images c.room.ensures.time
    c.added.new.journal c.room.ensures.seen (c.added.ensures.any_moment told)

-- or not

pub returns-in-Err-added-clause-adopts : goal.returns-in-Err-added-clause-adopts
returns-in-Err-added-clause-adopts g c =
    let view = g.D.Disk.view in
    let s = c.args.self.now in
    let f = c.in-Some.follower in
    let body = c.args.body.now in
    let next = c.fed_more.new in
    let order = c.requires.in_order (can_be_fed s f c.in-Some.is c.in_default-fallen.is) in
    let more = subst (λ (t : Bool). IsFedMore s.rules.number body f next.follower s.book next.book s.library next.library s.notes next.notes (Ok t)) c.in-Ok-true-fed_more.field-0-test c.in-Ok-true-fed_more.ensures.more in (
      record {
        could = can_be_fed s f c.in-Some.is c.in_default-fallen.is;
        is = refl;
        counts = c.in-Err-added.ensures.count;
        rose = omega (arith, c.in-Err-added.ensures.cause, c.room.ensures.faults);
      },
      fed_stands view g.D.Disk.tells s f c.in-Some.is order body next.follower next.book next.library next.notes more c.one_body_more.ensures (sym c.is_role.ensures ∙ c.if-is_role.false),
    )

pub returns-in-Err-added-clause-any_moment : goal.returns-in-Err-added-clause-any_moment
returns-in-Err-added-clause-any_moment g c = λ told can.
    let s = c.args.self.now in
    let order = c.requires.in_order can in
    then_adds g.D.Disk.view s.journal c.args.body.now (settled_fed s c.in-Some.follower c.in-Some.is g.D.Disk.view g.D.Disk.tells order told) order.knows.newest_is (g.met.D.Disk.only_now s.journal.disk) c.room.new.self c.room.ensures.images c.room.ensures.time
    c.added.new.journal c.room.ensures.seen (c.added.ensures.any_moment told)
