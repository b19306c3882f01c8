-- Records that a shelf is fed, one after the other.
use Rattle.std.proofs.Common.{◌≡◌, ◌≤◌, ◌<◌, ◌+◌, ◌-◌, ◌++◌, ◌∷◌, ◌∙◌, ◌^◌, ℕ, zero, suc, Bool, true, false, IsTrue, List, [], Option, Some, None, Err, length, arith, sym, ap, refl, subst, append_assoc, append-nil, length-append}
use Rattle.std.specs.Io.KnownBytes.{Appends}
use Rattle.shelf.proofs.WebOutside.Writes.{appends_then}
use Rattle.shelf.specs.WebDisk.View.{View, LeavesOnly, NoNewImage}
use Rattle.shelf.specs.WireBytes.Spelling.{u32_bytes}
use Rattle.shelf.specs.PageJournal.Holding.{IsClosed}
use Rattle.shelf.specs.PageJournal.Records.{at_rest, framed, newest, stored}
use Rattle.shelf.specs.PageJournal.Settled.{IsSettled, bodies_in}
use Rattle.shelf.specs.PageJournal.declared.journal.Journal.{Journal}
use Rattle.shelf.proofs.PageJournal.Holds.{settled_images}
use Rattle.shelf.proofs.PageJournal.Mending.{leaves_map}
use Rattle.shelf.specs.PageJournal.Scanned.{IsQuiet}
use Rattle.shelf.specs.JournalRecords.Roles.{feed_of}
use Rattle.shelf.specs.Views.{follows_in}
use Rattle.shelf.specs.Following.{AddsThroughout, Adopts, AdoptsThroughout, CanBeFed, HasAdopted, IsInOrderIfFed, LeavesAsBefore, StaysFed, fallen_in}
use Rattle.shelf.specs.declared.adopt.AdoptFault.{AdoptFault}
use Rattle.shelf.specs.declared.adopt.AdoptFault.TheVariants as fault
use Rattle.shelf.specs.declared.shelf.Shelf.{Shelf}
use Rattle.page_follower.specs.Acks.{ack_line, acks_behind, IsAcked, IsUnacked}
use Rattle.page_follower.specs.Comparing.{Progress, Acknowledges, Tells, TellsNothing}
use Rattle.page_follower.specs.Ends.{end_for}
use Rattle.page_follower.specs.Feed.{fed}
use Rattle.page_follower.specs.Held.{Adopting, AdoptsNext, Feeds, GoesOnAdopting, HasAcked, HasCompared, IsRefused, StopsAdopting, StopsComparing, compared, adopted}
use Rattle.page_follower.specs.Moments.{HasFed, HasGained, HasRested, HoldsOnly, IsFedOn, IsOffered, refused_record, written_record}
use Rattle.page_follower.specs.Reading.{Came, Got}
use Rattle.page_follower.specs.declared.fault.FollowEnd.{FollowEnd}
use Rattle.page_follower.specs.declared.fault.FollowEnd.TheVariants as end
use Rattle.page_follower.proofs.Moments.{fed_last}
use Rattle.page_follower.proofs.Ordered.{of_newest, settled}
use Rattle.page_follower.proofs.Readings.{got_then}
use Rattle.page_follower.proofs.Taken.{acked_none}
use Rattle.page_follower.proofs.Told.{adopted_by_less}

-- ---- one record more

-- the record came that was adopted, wherever the source and the place of the feed are told after it
came_to : (old mid new : Progress) (body : List ℕ) → Came old.source mid.source old.place mid.place body → new.source ≡ mid.source → new.place ≡ mid.place
    → Came old.source new.source old.place new.place body
came_to old mid new body came source place =
    subst (λ s. Got old.source s old.place new.place (framed body)) (sym source)
    (subst (λ p. Got old.source mid.source old.place p (framed body)) (sym place) came)

-- a record came that the shelf was fed, and whether it was acknowledged
pub adopted_next : {D : Type 0} (view : D → View) (old mid new : Progress) (before after : D) (body : List ℕ) (held holds : List (List ℕ))
    (o : Option FollowEnd) → Came old.source mid.source old.place mid.place body → mid.sink ≡ old.sink → mid.acks ≡ old.acks
    → holds ≡ held ++ body ∷ [] → HasGained (view before) (view after) held body → Tells mid new o
    → AdoptsNext view old new before after held holds o
adopted_next view old mid new before after body held holds None came sink acks grows gained tells = (
  body,
  record {
    came = came_to old mid new body came tells.stays.source tells.stays.place;
    acked = subst (λ s. IsAcked s new.sink new.acks) sink tells.acked;
    acks = tells.acks ∙ ap (λ n. n + 1) acks;
  },
  grows,
  gained,
)
adopted_next view old mid new before after body held holds (Some end.Held) came sink acks grows gained tells = absurd tells
adopted_next view old mid new before after body held holds (Some end.Promoted) came sink acks grows gained tells = absurd tells
adopted_next view old mid new before after body held holds (Some (end.Feed f)) came sink acks grows gained tells = absurd tells
adopted_next view old mid new before after body held holds (Some (end.Other p)) came sink acks grows gained tells = absurd tells
adopted_next view old mid new before after body held holds (Some (end.Record p)) came sink acks grows gained tells = absurd tells
adopted_next view old mid new before after body held holds (Some (end.Full n)) came sink acks grows gained tells = absurd tells
adopted_next view old mid new before after body held holds (Some end.DiskFault) came sink acks grows gained tells = absurd tells
adopted_next view old mid new before after body held holds (Some end.Unwritten) came sink acks grows gained tells = (
  written_record body,
  record {
    body = body;
    offers = refl;
    came = came_to old mid new body came tells.stays.source tells.stays.place;
    unacked = subst (λ s. IsUnacked s new.sink (old.acks + 1)) sink (subst (λ n. IsUnacked mid.sink new.sink (n + 1)) acks tells.unacked);
    acks = tells.acks ∙ acks;
    grows = grows;
  },
  gained.moments,
)
adopted_next view old mid new before after body held holds (Some end.Memory) came sink acks grows gained tells = absurd tells

-- the shelf's journal has one record more, and a crash at any moment left it with that one or without it
pub gained : {D N : Type 0} (view : D → View) (tells : Bool) (before after : Shelf D N) (body : List ℕ) → IsTrue tells → HasAdopted view tells before after body
    → IsInOrderIfFed view tells after → AddsThroughout view before after body
    → HasGained (view before.journal.disk) (view after.journal.disk) (bodies_in view before.journal) body
gained view tells before after body told adopts order run =
    let here = settled view tells after adopts.can (order adopts.can) told in record {
      moments = run adopts.could;
      left = λ image left.
          subst (λ l. IsClosed newest l image) (adopts.bodies told)
          (subst (λ f. IsClosed f (bodies_in view after.journal) image) (of_newest view tells after (order adopts.can))
          (settled_images view after.journal here image left));
      fits = subst (λ l. length (at_rest l) ≤ 2 ^ 30) (adopts.bodies told) (let e = here.end in let f = here.fits in omega arith);
    }

-- a disk that holds these records was left alone
pub left_alone : {D : Type 0} (view : D → View) (old new : Journal D) → IsSettled view old → old.format ≡ newest → NoNewImage (view old.disk) (view new.disk)
    → LeavesOnly (view old.disk) (view new.disk) (view old.disk).images → HasRested (view old.disk) (view new.disk) (bodies_in view old)
left_alone view old new here now images moments =
    let held : HoldsOnly (view old.disk) (bodies_in view old) =
    λ image left. subst (λ f. IsClosed f (bodies_in view old) image) now (settled_images view old here image left) in
    record {
      moments = leaves_map (view old.disk) (view new.disk) (view old.disk).images (IsClosed newest (bodies_in view old)) held moments;
      left = λ image left. held image (images image left);
    }

-- it was read
pub quiet_rested : {D : Type 0} (view : D → View) (old new : Journal D) → IsSettled view old → old.format ≡ newest
    → IsQuiet (view old.disk) (view new.disk) → HasRested (view old.disk) (view new.disk) (bodies_in view old)
quiet_rested view old new here now quiet = left_alone view old new here now quiet.images quiet.moments

-- a record came that the shelf was not fed
module _ {D N : Type 0} (view : D → View) (tells : Bool) (old new : Progress) (before after : Shelf D N) (body : List ℕ) (told : IsTrue tells)
    (can : CanBeFed before) (order : IsInOrderIfFed view tells before) (came : Came old.source new.source old.place new.place body)
    (nothing : TellsNothing old new) where
  -- it was refused
  refused : StaysFed view before after → LeavesAsBefore view before after → IsRefused old new (refused_record body) (bodies_in view before.journal) (bodies_in view after.journal)
      × IsOffered view (bodies_in view before.journal) before.journal.disk (refused_record body) after.journal.disk
  refused stays moments = (
    record { body = body; offers = refl; came = came; tells = nothing; stays = ap stored stays.disk.seen },
    left_alone view before.journal after.journal (settled view tells before can (order can) told) (of_newest view tells before (order can)) stays.disk.images moments,
  )

  -- for this reason
  pub stops_by : (f : AdoptFault) → Adopts view tells before after body (Err f) → AdoptsThroughout view tells before after body (Err f)
      → AdoptsNext view old new before.journal.disk after.journal.disk (bodies_in view before.journal) (bodies_in view after.journal) (Some (end_for f old.place))
  stops_by fault.Leader adopts run =
      absurd (let leads : follows_in before ≡ false = adopts.leads in let follows : follows_in before ≡ true = can.follows_on in
      let no : ⊥ = cc in no)
  stops_by (fault.Down count) adopts run =
      absurd (let fallen : fallen_in before ≡ Some count = adopts.fallen in let standing : fallen_in before ≡ None = can.standing in
      let no : ⊥ = cc in no)
  stops_by fault.Outside adopts run = let both = refused adopts.stays run in (refused_record body, (refl, both.0), both.1)
  stops_by (fault.Full n) adopts run = let both = refused adopts.stays run in (refused_record body, both.0, both.1)
  stops_by (fault.DiskFault count) adopts run = (
    written_record body,
    record { body = body; offers = refl; came = came; tells = nothing },
    run told can,
  )
  stops_by fault.Memory adopts run = let both = refused adopts run in (refused_record body, both.0, both.1)

-- ---- all records

-- the lines of some records, and then of another
acks_more : (done n : ℕ) → acks_behind done (suc n) ≡ acks_behind done n ++ ack_line (done + n + 1)
acks_more done zero = append-nil (ack_line (done + 1)) ∙ ap ack_line (let e : done + 1 ≡ done + 0 + 1 = omega arith in e)
acks_more done (suc n) =
    ap (λ l. ack_line (done + 1) ++ l) (acks_more (done + 1) n) ∙ sym (append_assoc (ack_line (done + 1)) (acks_behind (done + 1) n) (ack_line (done + 1 + n + 1)))
    ∙ ap (λ k. (ack_line (done + 1) ++ acks_behind (done + 1) n) ++ ack_line k) (let e : done + 1 + n + 1 ≡ done + suc n + 1 = omega arith in e)

-- records one after the other, and then another
fed_more : (bodies : List (List ℕ)) (body : List ℕ) → fed (bodies ++ body ∷ []) ≡ fed bodies ++ framed body
fed_more [] body = append-nil (framed body)
fed_more (b ∷ bodies) body = ap (λ l. framed b ++ l) (fed_more bodies body) ∙ sym (append_assoc (framed b) (fed bodies) (framed body))

-- records that were acknowledged, and then another
acked_last : (old mid new : Progress) (bodies : List (List ℕ)) (body : List ℕ) → HasAcked old mid bodies → Acknowledges mid new body
    → HasAcked old new (bodies ++ body ∷ [])
acked_last old mid new bodies body p q =
    let count : length (bodies ++ body ∷ []) ≡ suc (length bodies) = let l = length-append bodies (body ∷ []) in omega arith in
    let number : new.acks ≡ old.acks + length bodies + 1 = let a = p.acks in let b = q.acks in omega arith in
    record {
      got = subst (Got old.source new.source old.place new.place) (sym (fed_more bodies body))
          (got_then old.source mid.source new.source old.place mid.place new.place (fed bodies) (framed body) p.got q.came);
      written = subst (λ n. Appends old.sink.written new.sink.written (acks_behind old.acks n)) (sym count)
          (subst (Appends old.sink.written new.sink.written) (sym (acks_more old.acks (length bodies)))
          (subst (λ k. Appends old.sink.written new.sink.written (acks_behind old.acks (length bodies) ++ ack_line k)) number
          (appends_then old.sink.written mid.sink.written new.sink.written (acks_behind old.acks (length bodies)) (ack_line new.acks)
          p.written q.acked.written)));
      handed = λ h. q.acked.handed;
      still_handed = λ h. q.acked.handed;
      acks = omega arith;
      later = let a = p.later in let b = q.acked.later in omega arith;
    }

-- nothing was adopted yet
pub adopting_none : {D : Type 0} (view : D → View) (p : Progress) (disk : D) (held : List (List ℕ)) → GoesOnAdopting view p p disk disk held held
adopting_none view p disk held = record { more = []; acked = acked_none p; grows = sym (append-nil held); are_fed = (refl, refl) }

-- a record more, and whether following goes on
pub adopting_more : {D : Type 0} (view : D → View) (old mid new : Progress) (before between after : D) (held so_far holds : List (List ℕ))
    (o : Option FollowEnd) → GoesOnAdopting view old mid before between held so_far → AdoptsNext view mid new between after so_far holds o
    → Adopting view old new before after held holds o
adopting_more view old mid new before between after held so_far holds None p (body, acks, grows, gains) = record {
  more = p.more ++ body ∷ [];
  acked = acked_last old mid new p.more body p.acked acks;
  grows = grows ∙ ap (λ l. l ++ body ∷ []) p.grows ∙ append_assoc held p.more (body ∷ []);
  are_fed = fed_last view held before between after old.sink mid.sink new.sink old.acks p.more body p.are_fed
      (subst (λ l. HasGained (view between) (view after) l body) p.grows gains)
      (subst (IsAcked mid.sink new.sink) (acks.acks ∙ ap (λ n. n + 1) p.acked.acks) acks.acked);
}
adopting_more view old mid new before between after held so_far holds (Some e) p (offer, stops, last) = record {
  more = p.more;
  mid = mid;
  acked = p.acked;
  offer = offer;
  stops = subst (λ l. StopsAdopting mid new offer l holds e) p.grows stops;
  told = (between, p.are_fed, subst (λ l. IsOffered view l between offer after) p.grows last);
}

-- how much is to be read, where following goes on
abbrev pub left_to_read : Option FollowEnd → (place : ℕ) → ℕ
left_to_read None place = suc (1073741824 - place)
left_to_read (Some e) place = 0

-- with a record more less is to be read
pub less_to_read : (o n : Option FollowEnd) (before after : ℕ) → o ≡ None → (n ≡ None → before < after) → after ≤ 1073741824
    → left_to_read n after < left_to_read o before
less_to_read None None before after is nearer within = let h = nearer refl in omega arith
less_to_read None (Some e) before after is nearer within = omega arith
less_to_read (Some x) n before after is nearer within = absurd (cc)

-- ---- the whole feed

-- what was done with a feed after its head, where the records that are held were compared: following went on, or not
pub fed_all : {D : Type 0} (view : D → View) (begun between new : Progress) (before read after : D) (held holds : List (List ℕ)) (b : Option FollowEnd)
    (e : FollowEnd) → between.ending ≡ b → HasRested (view before) (view read) held → HasCompared begun between (feed_of held) → new.ending ≡ Some e
    → ((b ≡ None → ⊥) → (new ≡ between) × (holds ≡ held) × (after ≡ read))
    → (b ≡ None → Adopting view between new read after held holds (Some e)) → Feeds (HasFed view held before after) begun new held holds e
fed_all view begun between new before read after held holds (Some x) e goes rested compares ends same adopts =
    let rest = same (λ none. let never : ⊥ = cc in never) in
    compared (subst (λ p. HasCompared begun p (feed_of held)) (sym rest.0) compares) ends
    (rest.1, (read, rested, (read, (refl, refl), rest.2)))
fed_all view begun between new before read after held holds None e goes rested compares ends same adopts =
    adopted between compares goes
    (adopted_by_less (IsFedOn view held read after) (HasFed view held before after) (λ sink acks more told offer on. (read, rested, on)) between new held holds e
    (adopts refl))

-- records have places at least as far as their number
acked_below : (old new : Progress) (bodies : List (List ℕ)) → HasAcked old new bodies → old.acks ≤ old.place → new.acks ≤ new.place
acked_below old new bodies p room = let a = p.acks in let b = p.got.place in let l = long bodies in omega arith
  where
    long : (xs : List (List ℕ)) → length xs ≤ length (fed xs)
    long [] = omega arith
    long (x ∷ xs) = let h = long xs in let l = length-append (framed x) (fed xs) in let m = length-append (u32_bytes (length x)) x in omega arith

-- where all records that are held were compared, and following goes on
pub compared_below : (old new : Progress) (held : List (List ℕ)) → HasCompared old new held → new.ending ≡ None → old.acks ≤ old.place
    → new.acks ≤ new.place
compared_below old new held p is room = by_rest p.rest (subst (StopsComparing p.mid new p.rest) is p.stops)
  where
    by_rest : (rest : List (List ℕ)) → StopsComparing p.mid new rest None → new.acks ≤ new.place
    by_rest [] same = subst (λ (q : Progress). q.acks ≤ q.place) (sym same) (acked_below old p.mid p.same p.acked room)
    by_rest (h ∷ rest) never = absurd never

-- ---- the shelf

-- a shelf of which only the journal is another one can be fed as before
pub can_still : {D N : Type 0} (old new : Shelf D N) → new ≡ record old { journal = new.journal } → CanBeFed old → CanBeFed new
can_still old new same can = record {
  follows_on = ap follows_in same ∙ can.follows_on;
  standing = ap fallen_in same ∙ can.standing;
}

-- and so it could before
pub could_before : {D N : Type 0} (old new : Shelf D N) → new ≡ record old { journal = new.journal } → CanBeFed new → CanBeFed old
could_before old new same can = record {
  follows_on = sym (ap follows_in same) ∙ can.follows_on;
  standing = sym (ap fallen_in same) ∙ can.standing;
}
