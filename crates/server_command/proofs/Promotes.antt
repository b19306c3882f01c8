-- Shelves that are promoted, one after the other.
use Rattle.std.proofs.Common.{◌≡◌, ◌≢◌, ◌∙◌, inl, inr, ◌≤◌, ◌<◌, ◌+◌, ◌++◌, ◌∷◌, ℕ, Bool, true, false, IsTrue, List, [], length, Option, Some, None, Result, Ok, Err, IfSome, refl, sym, ap, subst, arith, append-nil, append_assoc}
use Rattle.std.specs.Prelude.{is_some, option_map}
use Rattle.std.specs.Io.KnownBytes.{Appends, Keeps}
use Rattle.script_value.specs.declared.outcome.Reply.{Reply}
use Rattle.script_value.specs.declared.outcome.Reply.TheVariants as reply
use Rattle.web_outside.specs.Causes.{Rose}
use Rattle.web_outside.specs.Pieces.{AppendsPart}
use Rattle.web_outside.specs.declared.nonces.Counting.{Counting}
use Rattle.web_outside.proofs.Writes.{appends_kept, appends_none, appends_then}
use Rattle.web_disk.specs.View.{View, RackView, AreAmong, LeavesOnly, NoNewImage}
use Rattle.disk_trio.proofs.Views.{rose_later}
use Rattle.trio_rack.specs.Trios.{KeepsHome, shelves_of}
use Rattle.trio_rack.proofs.Homes.{disks_home, shelves_home}
use Rattle.page_follower.specs.OfShelf.JournalRecords.Records.{body_of, promotes}
use Rattle.page_journal.specs.Records.{at_rest, newest}
use Rattle.page_journal.specs.Holding.{IsClosed, MayHold}
use Rattle.page_journal.specs.Settled.{IsSettled, bodies_in}
use Rattle.page_journal.proofs.Mending.{leaves_map}
use Rattle.page_follower.proofs.Adoptions.{left_alone}
use Rattle.page_follower.specs.Moments.{HasRested}
use Rattle.page_follower.specs.OfShelf.Following.{AddsThroughout, CanBeFed, IsOpen, LeavesAsBefore, Promotes, PromotesThroughout, fallen_in}
use Rattle.page_follower.specs.OfShelf.Following as following
use Rattle.page_follower.specs.OfShelf.Opening.{HoldsAtRest, KeepsRecords, bodies_after}
use Rattle.replay_spec.specs.Admission.{◌>>=◌}
use Rattle.page_follower.specs.OfShelf.Views.{IsFed, IsInOrder, book_in, doubt_of, follows_in}
use Rattle.page_follower.specs.OfShelf.declared.follower.Follower.{Follower}
use Rattle.page_follower.specs.OfShelf.declared.shelf.Shelf.{Shelf}
use Rattle.play_steps.specs.Rules.{StaysUp}
use Rattle.play_desk.specs.Asking.{numbers_below}
use Rattle.play_desk.specs.Opening.{AreHome}
use Rattle.play_steps.specs.declared.stage.Reopen.{Reopen}
use Rattle.play_steps.specs.declared.stage.Reopen.TheVariants as reopen
use Rattle.play_desk.proofs.Asking.{asked_none, asked_one_more, asked_until}
use Rattle.server_command.specs.declared.program.Status.{Status}
use Rattle.server_command.specs.declared.program.Status.TheVariants as status
use Rattle.server_command.specs.Bare.{AreLent, AsksOne, GivesBack, HasOpened, IsShut, OpensSafely, StaysShut, refused, untaken}
use Rattle.server_command.specs.Command.{IsDoneUnlessFault}
use Rattle.server_command.specs.Feeding.{ArePromoted, CannotPromote, HaveComeTo, HavePromoted, IsPromoted, IsUnpromoted, LeavesPromotes, PromotesOne, PromotesSafely, StopsAtShelf, TellsBehind, TellsPromoted, all_told, cut_short, not_told, promoted_line, promoted_text, stopped, told_behind, unpromoted_for, untold_behind}
use Rattle.server_command.specs.Output.{memory_line, sinks}
use Rattle.server_command.specs.Racks.{AreBack, Racks, ShelfFailed, racks_of}
use Rattle.server_command.specs.Telling.{TellsUnopened}
use Rattle.server_command.specs.Telling as telling
use Rattle.server_command.proofs.Bare.{keeps_still, opened_now, rests, shelf_failed}
use Rattle.server_command.proofs.Endings.{since, tells as tells_line}
use Rattle.server_command.proofs.Openings.{failed_since}

-- ---- one shelf

module _ {D : Type 0} (view : D → View) (tells : Bool) where
  in_order : (s : Shelf D Counting) → IsOpen view tells s → follows_in s ≡ true → IsInOrder view tells s
  in_order s (inl p) on = p
  in_order s (inr p) on = absurd (let leads = p.leads in let no : ⊥ = cc (leads, on) in no)

  up_if : (s : Shelf D Counting) (f : Option Follower) → IfSome f (IsFed view tells s) → is_some f ≡ true → s.down ≡ None
  up_if s (Some f) fed on = fed.up
  up_if s None fed on = absurd (let no : ⊥ = cc in no)

  -- a shelf in order that follows has nothing in doubt
  up : (s : Shelf D Counting) → IsOpen view tells s → follows_in s ≡ true → (book_in view s).down ≡ None
  up s p on = ap (λ o. option_map doubt_of o) (up_if s s.follower (in_order s p on).fed on)

  stands_if : (s : Shelf D Counting) (f : Option Follower) (count : ℕ) → IfSome f (IsFed view tells s) → (f >>= (λ g. g.fallen)) ≡ Some count → ⊥
  stands_if s (Some f) count fed is = let none = fed.standing in let no : ⊥ = cc (none, is) in no
  stands_if s None count fed is = let no : ⊥ = cc in no

  -- and it has not fallen
  stands : (s : Shelf D Counting) (count : ℕ) → IsOpen view tells s → follows_in s ≡ true → fallen_in s ≡ Some count → ⊥
  stands s count p on is = stands_if s s.follower count (in_order s p on).fed is

  -- a shelf that was opened or promoted, with nothing in doubt, has its records on the disk
  settled : (s : Shelf D Counting) → IsTrue tells → IsOpen view tells s → (book_in view s).down ≡ None → IsSettled view s.journal
  settled s t (inl p) none = (p.fit t).settled none
  settled s t (inr p) none = p.readable.settled t

-- what a promotion came to, as it is told
abbrev pub promoted_for : Result Bool Reply → Result Bool Reopen
promoted_for (Ok followed) = Ok followed
promoted_for (Err r) = Err (unpromoted_for r)

-- the call of a shelf, between its opening and its closing
module _ {D : Type 0} (view : D → View) (tells told : Bool) (before mid after : RackView) (shelf : ℕ) (s new : Shelf D Counting)
    (knows : IsTrue told → IsTrue tells) (h : HasOpened view tells false (racks_of told before mid) shelf s)
    (g : GivesBack view (IsTrue told) shelf new.journal.disk mid after) where
  -- the records that stay of what was read are those that the shelf has
  has_records : IsTrue told → bodies_in view s.journal ≡ bodies_after shelf (view h.taken).seen
  has_records t = h.records t ∙ append-nil (bodies_after shelf (view h.taken).seen)

  lent : AreLent view (IsTrue told) before after shelf h.taken new.journal.disk
  lent = record { among = h.among; reads = h.reads; left = g.left }

  safely : IsTrue told → (IsTrue tells → AddsThroughout view s new (body_of promotes)) → CanBeFed s
      → LeavesOnly (view s.journal.disk) (view new.journal.disk) (MayHold newest (bodies_after shelf (view h.taken).seen) (body_of promotes))
  safely t moments can =
      subst (λ bs. LeavesOnly (view s.journal.disk) (view new.journal.disk) (MayHold newest bs (body_of promotes))) (has_records t) (moments (knows t) can)

  failed : Rose (view s.journal.disk).faults (view new.journal.disk).faults → ShelfFailed (racks_of told before after) shelf
  failed rose =
      shelf_failed view (IsTrue told) told before mid after shelf new.journal.disk (view h.taken).faults h.fresh h.takes h.rack_later g
      (let none = h.fresh in omega (arith, none, rose))

  -- where nothing was written since the opening, a crash leaves the records that were there
  rested : IsTrue told → NoNewImage (view s.journal.disk) (view new.journal.disk) → LeavesAsBefore view s new
      → HasRested (view s.journal.disk) (view new.journal.disk) (bodies_after shelf (view h.taken).seen)
  rested t images moments =
      subst (HasRested (view s.journal.disk) (view new.journal.disk)) (has_records t)
      (left_alone view s.journal new.journal (h.readable.settled (knows t)) (opened_now view tells s h.opens) images moments)

  -- these are the records with the one that tells the promotion after them or without it
  rests_safely : HasRested (view s.journal.disk) (view new.journal.disk) (bodies_after shelf (view h.taken).seen)
      → PromotesSafely shelf (view h.taken) (view s.journal.disk) (view new.journal.disk)
  rests_safely p =
      let bodies = bodies_after shelf (view h.taken).seen in
      leaves_map (view s.journal.disk) (view new.journal.disk) (IsClosed newest bodies) (MayHold newest bodies (body_of promotes)) (λ image is. inl is) p.moments

  -- nothing was written after the opening
  still : (why : Reopen) → following.StaysFed view s new → LeavesAsBefore view s new
      → (IsTrue told → CannotPromote (bodies_after shelf (view h.taken).seen) why) → IsUnpromoted view (IsTrue told) before after shelf why
  still why p moments cannot = record {
    taken = h.taken;
    opened = s.journal.disk;
    given = new.journal.disk;
    lent = lent;
    followed = λ t. sym (h.follows_is t) ∙ p.could.follows_on;
    cannot = cannot;
    opens = h.safely;
    safely = λ t. rests_safely (rested t p.disk.images moments);
    rests = λ t other. rested t p.disk.images moments;
    keeps = λ t other. keeps_still shelf [] (view h.taken) (view s.journal.disk) (view new.journal.disk) p.disk.seen p.disk.images (h.keeps t);
  }

  -- a call of the disk failed as the record was added
  fell : (count : ℕ) → following.HasFallen view s new count → (IsTrue tells → AddsThroughout view s new (body_of promotes))
      → IsUnpromoted view (IsTrue told) before after shelf reopen.Disk
  fell count p moments = record {
    taken = h.taken;
    opened = s.journal.disk;
    given = new.journal.disk;
    lent = lent;
    followed = λ t. sym (h.follows_is t) ∙ p.could.follows_on;
    cannot = λ t. tt;
    opens = h.safely;
    safely = λ t. safely t moments p.could;
    rests = λ t other. absurd (other refl);
    keeps = λ t other. absurd (other refl);
  }

  -- what promoting it came to
  pub promotes_one : (r : Result Bool Reply) → Promotes view tells s new r → PromotesThroughout view tells s new r
      → PromotesOne view (racks_of told before after) shelf (promoted_for r)
  promotes_one (Ok true) p run = (
    g.asked ∙ h.asked,
    record {
      taken = h.taken;
      opened = s.journal.disk;
      given = new.journal.disk;
      lent = lent;
      followed_is = λ t. sym (sym (h.follows_is t) ∙ p.could.follows_on);
      opens = h.safely;
      safely = λ t on. safely t run p.could;
      quiet = λ t no. absurd (let n : ⊥ = cc in n);
      left = λ t.
          let down : (book_in view new).down ≡ None = ap (λ b. b.down) p.book ∙ up view tells s h.opens p.could.follows_on in
          let rest = rests view new.journal (settled view tells new (knows t) p.opened down) (opened_now view tells new p.opened) in
          subst (λ bs. HoldsAtRest newest bs (view new.journal.disk)) (p.bodies (knows t) ∙ ap (λ bs. bs ++ body_of promotes ∷ []) (has_records t)) rest;
      lawful = h.lawful;
    },
  )
  promotes_one (Ok false) p run =
      let same : s ≡ new = sym p.same in (
        g.asked ∙ h.asked,
        record {
          taken = h.taken;
          opened = s.journal.disk;
          given = new.journal.disk;
          lent = lent;
          followed_is = λ t. sym (sym (h.follows_is t) ∙ p.leads);
          opens = h.safely;
          safely = λ t on. absurd (let n : ⊥ = cc in n);
          quiet = λ t no. subst (λ (x : Shelf D Counting). OpensSafely false shelf (view h.taken) (view x.journal.disk)) same (h.safely t);
          left = λ t. subst (λ (x : Shelf D Counting). KeepsRecords shelf [] (view h.taken) (view x.journal.disk)) same (h.keeps t);
          lawful = h.lawful;
        },
      )
  promotes_one (Err (reply.Down count)) p run = absurd (stands view tells s count h.opens p.follows_on p.fallen)
  promotes_one (Err (reply.JournalFull n)) p run = (
    λ e. absurd (let no : ⊥ = cc in no),
    inr (still (reopen.Full n) p.stays run (λ t.
        let is = p.is in
        let end = (h.readable.settled (knows t)).end in
        let long = ap (λ bs. length (at_rest bs)) (has_records t) in
        (omega (arith, is, end, long), p.long))),
  )
  promotes_one (Err (reply.DiskFault count)) p run = (λ e. failed p.rose, inr (fell count p run))
  promotes_one (Err reply.Memory) p run = (λ e. absurd (let no : ⊥ = cc in no), inr (still reopen.Memory p run (λ t. tt)))
  promotes_one (Err r) p run = absurd p

-- a shelf was not opened
pub shut_one : {D : Type 0} (view : D → View) (rack : Racks) (shelf : ℕ) (why : Reopen) → StaysShut view false rack shelf why
    → PromotesOne view rack shelf (Err why)
shut_one view rack shelf why p = (p.failed, inl p.shut)

-- ---- what is told after a text

pub tells_behind : (text : List ℕ) (shelf : ℕ) (why : Reopen) (how : Status) (old mid new : Option (List ℕ)) (first between last : ℕ) → first ≤ between
    → Appends old mid text → TellsUnopened shelf why how (sinks mid new between last) → TellsBehind text shelf why how (sinks old new first last)
tells_behind text shelf why how old mid new first between last le front (telling.told line is same prints) =
    told_behind line is same (tells_line old mid new text line first last front (since mid new line first between last le prints))
tells_behind text shelf why how old mid new first between last le front (telling.untold is line) =
    untold_behind is (tells_line old mid new text memory_line first last front (since mid new memory_line first between last le line))

-- ---- one after the other

-- what a rack lends between two moments it lends between an earlier one and a later one, where nothing else was written on the disks
lent_wider : {D : Type 0} (view : D → View) (told : Type 0) (first before after last : RackView) (shelf : ℕ) (taken given : D)
    → (told → AreAmong ((shelves_of before).holds shelf) ((shelves_of first).holds shelf)) → (told → AreAmong ((shelves_of last).holds shelf) ((shelves_of after).holds shelf))
    → AreLent view told before after shelf taken given → AreLent view told first last shelf taken given
lent_wider view told first before after last shelf taken given front back p = record {
  among = λ t image h. front t image (p.among t image h);
  reads = p.reads;
  left = λ t image h. p.left t image (back t image h);
}

promoted_wider : {D : Type 0} (view : D → View) (told : Type 0) (first before after last : RackView) (shelf : ℕ) (followed : Bool)
    → (told → AreAmong ((shelves_of before).holds shelf) ((shelves_of first).holds shelf)) → (told → AreAmong ((shelves_of last).holds shelf) ((shelves_of after).holds shelf))
    → IsPromoted view told before after shelf followed → IsPromoted view told first last shelf followed
promoted_wider view told first before after last shelf followed front back p = record {
  taken = p.taken;
  opened = p.opened;
  given = p.given;
  lent = lent_wider view told first before after last shelf p.taken p.given front back p.lent;
  followed_is = p.followed_is;
  opens = p.opens;
  safely = p.safely;
  quiet = p.quiet;
  left = p.left;
  lawful = p.lawful;
}

unpromoted_wider : {D : Type 0} (view : D → View) (told : Type 0) (first before after : RackView) (shelf : ℕ) (why : Reopen)
    → (told → AreAmong ((shelves_of before).holds shelf) ((shelves_of first).holds shelf))
    → IsUnpromoted view told before after shelf why → IsUnpromoted view told first after shelf why
unpromoted_wider view told first before after shelf why front p = record {
  taken = p.taken;
  opened = p.opened;
  given = p.given;
  lent = lent_wider view told first before after after shelf p.taken p.given front (λ t image h. h) p.lent;
  followed = p.followed;
  cannot = p.cannot;
  opens = p.opens;
  safely = p.safely;
  rests = p.rests;
  keeps = p.keeps;
}

shut_wider : {D : Type 0} (view : D → View) (told : Type 0) (fed : Bool) (first before after : RackView) (shelf : ℕ) (why : Reopen)
    → (told → AreAmong ((shelves_of before).holds shelf) ((shelves_of first).holds shelf))
    → IsShut view told fed before after shelf why → IsShut view told fed first after shelf why
shut_wider view told fed first before after shelf why front (untaken outside among) = untaken outside (λ t image h. front t image (among t image h))
shut_wider view told fed first before after shelf why front (refused taken given lent unfit keeps safely) =
    refused taken given (lent_wider view told first before after after shelf taken given front (λ t image h. h) lent) unfit keeps safely

-- those in front of a shelf are as they were, whatever was done with its disks
front_stays : {D : Type 0} (view : D → View) (told : Type 0) (first before after : RackView) (k n : ℕ) (followed : List Bool) → k + length followed ≤ n
    → ((m : ℕ) → m ≢ n → AreAmong ((shelves_of after).holds m) ((shelves_of before).holds m)) → ArePromoted view told first before k followed
    → ArePromoted view told first after k followed
front_stays view told first before after k n [] low others p = tt
front_stays view told first before after k n (f ∷ fs) low others p = (
  promoted_wider view told first first before after k f (λ t image h. h) (λ t. others k (λ e. omega (arith, e, low))) p.0,
  front_stays view told first before after (k + 1) n fs (omega (arith, low)) others p.1,
)

one_more : {D : Type 0} (view : D → View) (told : Type 0) (first after : RackView) (k n : ℕ) (followed : List Bool) (f : Bool) → k + length followed ≡ n
    → ArePromoted view told first after k followed → IsPromoted view told first after n f → ArePromoted view told first after k (followed ++ f ∷ [])
one_more view told first after k n [] f is p q =
    (let same : n ≡ k = omega (arith, is) in subst (λ m. IsPromoted view told first after m f) same q, tt)
one_more view told first after k n (x ∷ xs) f is p q = (p.0, one_more view told first after (k + 1) n xs f (omega (arith, is)) p.1 q)

longer : (xs : List Bool) (x : Bool) (n : ℕ) → length xs ≡ n → length (xs ++ x ∷ []) ≡ n + 1
longer [] x n is = omega (arith, is)
longer (y ∷ xs) x n is = (let rest = longer xs x (length xs) refl in omega (arith, is, rest))

pub promoted_none : {D : Type 0} (view : D → View) (tells : Bool) (rack : RackView) → HavePromoted view (racks_of tells rack rack) []
promoted_none view tells rack = record { each = tt; behind = λ n low image h. h; asked = asked_none rack; later = omega arith }

module _ {D : Type 0} (view : D → View) (tells : Bool) (before now after : RackView) where
  -- one more was promoted, or did not follow
  promoted_more : (n : ℕ) (followed : List Bool) (f : Bool) → HavePromoted view (racks_of tells before now) followed → length followed ≡ n
      → PromotesOne view (racks_of tells now after) n (Ok f) → AsksOne (racks_of tells now after) n
      → HavePromoted view (racks_of tells before after) (followed ++ f ∷ [])
  promoted_more n followed f p many q rest =
      let size = longer followed f n many in
      record {
        each = one_more view (IsTrue tells) before after 0 n followed f (omega (arith, many))
            (front_stays view (IsTrue tells) before now after 0 n followed (omega (arith, many)) rest.others p.each)
            (promoted_wider view (IsTrue tells) before now after after n f (λ t. p.behind n (omega (arith, many))) (λ t image h. h) q.1);
        behind = λ m low image h. p.behind m (omega (arith, low, size, many)) image (rest.others m (λ e. omega (arith, e, low, size)) image h);
        asked = subst (λ m. after.asked ≡ before.asked ++ numbers_below m) (sym size)
            (asked_one_more n before now after after (subst (λ m. now.asked ≡ before.asked ++ numbers_below m) many p.asked) q.0 refl);
        later = omega (arith, p.later, rest.later);
      }

  come_to : (count : ℕ) (followed : List Bool) → length followed < count → HavePromoted view (racks_of tells before now) followed
      → AsksOne (racks_of tells now after) (length followed) → HaveComeTo view (racks_of tells before after) count followed
  come_to count followed low p rest = record {
    low = low;
    each = front_stays view (IsTrue tells) before now after 0 (length followed) followed (omega arith) rest.others p.each;
    behind = λ m above image h. p.behind m (omega (arith, above)) image (rest.others m (λ e. omega (arith, e, above)) image h);
    asked = asked_until count (length followed) before now after after low p.asked rest.asked refl;
    later = omega (arith, p.later, rest.later);
  }

  -- one was not
  stops_at : (count : ℕ) (followed : List Bool) (why : Reopen) → length followed < count → HavePromoted view (racks_of tells before now) followed
      → StaysUp (shelves_of before).failed (shelves_of now).failed → PromotesOne view (racks_of tells now after) (length followed) (Err why)
      → AsksOne (racks_of tells now after) (length followed) → StopsAtShelf view (racks_of tells before after) count followed why
  stops_at count followed why low p up q rest = record {
    come = come_to count followed low p rest;
    failed = λ e. failed_since (length followed) before now after p.later up (q.0 e);
    stops = elim q.1 [
      | inl shut ↦ inl (shut_wider view (IsTrue tells) false before now after (length followed) why (λ t. p.behind (length followed) (omega arith)) shut)
      | inr un ↦ inr (unpromoted_wider view (IsTrue tells) before now after (length followed) why (λ t. p.behind (length followed) (omega arith)) un)
    ];
  }

-- ---- what is told

-- the line of one more
text_more : (k n : ℕ) (followed : List Bool) (f : Bool) → k + length followed ≡ n
    → promoted_text k (followed ++ f ∷ []) ≡ promoted_text k followed ++ promoted_line n f
text_more k n [] f is =
    let same : k ≡ n = omega (arith, is) in append-nil (promoted_line k f) ∙ ap (λ m. promoted_line m f) same
text_more k n (x ∷ xs) f is =
    ap (λ l. promoted_line k x ++ l) (text_more (k + 1) n xs f (omega (arith, is)))
    ∙ sym (append_assoc (promoted_line k x) (promoted_text (k + 1) xs) (promoted_line n f))

-- the shelves in front of this one were promoted, or did not follow, and this was told of them
pub record HasTold {D : Type 0} (view : D → View) (rack : Racks) (n : ℕ) (old new : Option (List ℕ)) : Type 0 where
  pub followed : List Bool
  pub passed : HavePromoted view rack followed
  pub many : length followed ≡ n
  pub text : Appends old new (promoted_text 0 followed)
  pub home : KeepsHome rack.before rack.after
  pub failed_later : StaysUp (shelves_of rack.before).failed (shelves_of rack.after).failed

pub told_none : {D : Type 0} (view : D → View) (tells : Bool) (rack : RackView) (old : Option (List ℕ)) → HasTold view (racks_of tells rack rack) 0 old old
told_none view tells rack old = record {
  followed = [];
  passed = promoted_none view tells rack;
  many = refl;
  text = appends_none old;
  home = λ n home. home;
  failed_later = λ n. omega arith;
}

module _ {D : Type 0} (view : D → View) (tells : Bool) (before now after : RackView) (n : ℕ) (old mid new : Option (List ℕ)) (p : HasTold view (racks_of tells before now) n old mid)
    (rest : AsksOne (racks_of tells now after) n) where
  pub keeps_home : KeepsHome before after
  keeps_home k home = rest.home k (p.home k home)

  pub told_more : (f : Bool) → PromotesOne view (racks_of tells now after) n (Ok f) → Appends mid new (promoted_line n f)
      → HasTold view (racks_of tells before after) (n + 1) old new
  told_more f q line = record {
    followed = p.followed ++ f ∷ [];
    passed = promoted_more view tells before now after n p.followed f p.passed p.many q rest;
    many = longer p.followed f n p.many;
    text = subst (Appends old new) (sym (text_more 0 n p.followed f (omega (arith, p.many))))
        (appends_then old mid new (promoted_text 0 p.followed) (promoted_line n f) p.text line);
    home = keeps_home;
    failed_later = λ k. (let one = p.failed_later k in let two = rest.failed_later k in omega (arith, one, two));
  }

  -- the line of one more could not be told
  pub untold_leaves : (count : ℕ) (f : Bool) (how : Status) (first between last : ℕ) → n < count → first ≤ between
      → PromotesOne view (racks_of tells now after) n (Ok f) → TellsPromoted n f (Err how) (sinks mid new between last)
      → LeavesPromotes view (racks_of tells before after) count how (sinks old new first last)
  untold_leaves count f status.Write first between last low le q line =
      let size = longer p.followed f n p.many in
      cut_short (p.followed ++ f ∷ []) (promoted_more view tells before now after n p.followed f p.passed p.many q rest) (omega (arith, size, low)) refl
      (rose_later first between last le line.0)
      (subst (AppendsPart old new) (sym (text_more 0 n p.followed f (omega (arith, p.many)))) (record {
        front = promoted_text 0 p.followed ++ line.1.front;
        rest = line.1.rest;
        is = ap (λ l. promoted_text 0 p.followed ++ l) line.1.is ∙ sym (append_assoc (promoted_text 0 p.followed) line.1.front line.1.rest);
        written = appends_then old mid new (promoted_text 0 p.followed) line.1.front p.text line.1.written;
      }))
  untold_leaves count f status.Memory first between last low le q line =
      not_told p.followed f (promoted_more view tells before now after n p.followed f p.passed p.many q rest) (omega (arith, low, p.many)) refl
      (tells_line old mid new (promoted_text 0 p.followed) memory_line first last p.text (since mid new memory_line first between last le line))
  untold_leaves count f how first between last low le q line = absurd line

  -- one was not promoted, and that was told
  pub stopped_leaves : (count : ℕ) (why : Reopen) (how : Status) (first between last : ℕ) → n < count → first ≤ between
      → PromotesOne view (racks_of tells now after) n (Err why) → TellsUnopened n why how (sinks mid new between last)
      → LeavesPromotes view (racks_of tells before after) count how (sinks old new first last)
  stopped_leaves count why how first between last low le q line =
      stopped p.followed why
      (stops_at view tells before now after count p.followed why (omega (arith, low, p.many)) p.passed p.failed_later
      (subst (λ m. PromotesOne view (racks_of tells now after) m (Err why)) (sym p.many) q)
      (subst (AsksOne (racks_of tells now after)) (sym p.many) rest))
      (subst (λ m. TellsBehind (promoted_text 0 p.followed) m why how (sinks old new first last)) (sym p.many)
      (tells_behind (promoted_text 0 p.followed) n why how old mid new first between last le p.text line))

-- all are told, and that was handed on or not
pub whole_leaves : {D : Type 0} (view : D → View) (rack : Racks) (count : ℕ) (how : Status) (old mid new : Option (List ℕ)) (first between last : ℕ)
    → HasTold view rack count old mid → Keeps mid new → first ≤ between → IsDoneUnlessFault how between last
    → LeavesPromotes view rack count how (sinks old new first last)
whole_leaves view rack count how old mid new first between last p kept le (inl is) =
    all_told p.followed p.passed p.many is (appends_kept old mid new (promoted_text 0 p.followed) p.text kept)
whole_leaves view rack count how old mid new first between last p kept le (inr is) =
    cut_short p.followed p.passed (omega (arith, p.many)) is.0 (rose_later first between last le is.1) (record {
      front = promoted_text 0 p.followed;
      rest = [];
      is = sym (append-nil (promoted_text 0 p.followed));
      written = appends_kept old mid new (promoted_text 0 p.followed) p.text kept;
    })

-- disks that were home are home again
pub back_of : (before after : RackView) → AreHome before.out → KeepsHome before after → before.faults ≤ after.faults
    → AreBack before after
back_of before after home keeps later = record { home = disks_home after (λ n. keeps n (shelves_home before home n)); later = later }
