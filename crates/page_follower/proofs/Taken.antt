-- Records that are compared with a feed, or sent as one, one after the other.
use Rattle.std.proofs.Common.{◌≡◌, ◌++◌, ◌∷◌, ◌∙◌, ℕ, Bool, true, false, not, cond, List, [], Option, Some, None, length, arith, sym, ap, refl, subst}
use Rattle.std.specs.Io.KnownBytes.{Appends}
use Rattle.std.proofs.KnownBytes.{Appends-nil}
use Rattle.shelf.specs.WebOutside.View.{SinkView}
use Rattle.shelf.proofs.WebOutside.Writes.{appends_then, then_part, longer_part}
use Rattle.shelf.specs.PageJournal.Records.{framed}
use Rattle.shelf.specs.PageJournal.Taken.{TakesAll}
use Rattle.shelf.specs.JournalRecords.Roles.{feed_of, is_role}
use Rattle.page_follower.specs.Acks.{ack_line, acks_behind}
use Rattle.page_follower.specs.Comparing.{Progress, Acknowledges, Compares, GoesOn}
use Rattle.page_follower.specs.Feed.{fed}
use Rattle.page_follower.specs.Held.{HasAcked, HasCompared, StopsComparing}
use Rattle.page_follower.specs.Sending.{Writes, WritesPart, WritesUnless, Sends}
use Rattle.page_follower.specs.declared.fault.FollowEnd.{FollowEnd}
use Rattle.page_follower.proofs.Readings.{got_nothing, got_then}

-- ---- which records are of a feed

-- a record that tells whether a shelf follows is in no feed
pub feed_without : (body : List ℕ) (bodies : List (List ℕ)) → is_role body ≡ true → feed_of (body ∷ bodies) ≡ feed_of bodies
feed_without body bodies is = ap (λ b. cond (not b) (body ∷ feed_of bodies) (feed_of bodies)) is

-- each other one is
pub feed_with_it : (body : List ℕ) (bodies : List (List ℕ)) → is_role body ≡ false → feed_of (body ∷ bodies) ≡ body ∷ feed_of bodies
feed_with_it body bodies is = ap (λ b. cond (not b) (body ∷ feed_of bodies) (feed_of bodies)) is

-- ---- acknowledging

-- no record was acknowledged yet
pub acked_none : (p : Progress) → HasAcked p p []
acked_none p = record {
  got = got_nothing p.source p.place;
  written = Appends-nil p.sink.written;
  handed = λ h. absurd (omega arith);
  still_handed = λ h. h;
  acks = omega arith;
  later = omega arith;
}

-- a record, and then others
pub acked_first : (old mid new : Progress) (body : List ℕ) (bodies : List (List ℕ)) → Acknowledges old mid body → HasAcked mid new bodies
    → HasAcked old new (body ∷ bodies)
acked_first old mid new body bodies p q = record {
  got = got_then old.source mid.source new.source old.place mid.place new.place (framed body) (fed bodies) p.came q.got;
  written = subst (λ n. Appends old.sink.written new.sink.written (ack_line n ++ acks_behind n (length bodies))) p.acks
      (appends_then old.sink.written mid.sink.written new.sink.written (ack_line mid.acks) (acks_behind mid.acks (length bodies))
      p.acked.written q.written);
  handed = λ h. q.still_handed p.acked.handed;
  still_handed = λ h. q.still_handed p.acked.handed;
  acks = let a = p.acks in let b = q.acks in omega arith;
  later = let a = p.acked.later in let b = q.later in omega arith;
}

-- ---- comparing

-- where following had ended nothing is done
pub still : {C : Type 0} (at : C → Progress) (takes : C → ℕ → List ℕ → C → Type 0)
    → ((old new : C) (place : ℕ) (body : List ℕ) → takes old place body new → GoesOn (at old).ending (is_role body) (at old) (at new) body)
    → (e : FollowEnd) (bodies : List (List ℕ)) (place : ℕ) (old new : C) → (at old).ending ≡ Some e → TakesAll takes old place bodies new
    → at new ≡ at old
still at takes step e [] place old new is taken = ap at taken
still at takes step e (body ∷ bodies) place old new is taken =
    let mid = taken.0 in
    let same : at mid ≡ at old = subst (λ o. GoesOn o (is_role body) (at old) (at mid) body) is (step old mid place body taken.1) in
    still at takes step e bodies _ mid new (ap (λ p. p.ending) same ∙ is) taken.2 ∙ same

-- One record of the feed that is held, by how following ended with it, and then the others: `later` is what came of these where it goes on, and
-- `stays` that nothing was done where it does not.
by_end : (old mid new : Progress) (body : List ℕ) (bodies : List (List ℕ)) (o : Option FollowEnd) → mid.ending ≡ o → Compares old mid body o
    → (mid.ending ≡ None → HasCompared mid new bodies) → ((e : FollowEnd) → mid.ending ≡ Some e → new ≡ mid) → HasCompared old new (body ∷ bodies)
by_end old mid new body bodies None is acks later stays =
    let rest = later is in
    record {
      same = body ∷ rest.same;
      rest = rest.rest;
      all = ap (λ l. body ∷ l) rest.all;
      mid = rest.mid;
      acked = acked_first old mid rest.mid body rest.same acks rest.acked;
      stops = rest.stops;
    }
by_end old mid new body bodies (Some e) is stops later stays = record {
  same = [];
  rest = body ∷ bodies;
  all = refl;
  mid = old;
  acked = acked_none old;
  stops = subst (λ p. StopsComparing old p (body ∷ bodies) p.ending) (sym (stays e is))
      (subst (λ o. StopsComparing old mid (body ∷ bodies) o) (sym is) stops);
}

-- one record that is held, by whether it is of the feed, and then the others
by_role : (old mid new : Progress) (body : List ℕ) (bodies : List (List ℕ)) (r : Bool) → is_role body ≡ r → old.ending ≡ None → GoesOn None r old mid body
    → (mid.ending ≡ None → HasCompared mid new (feed_of bodies)) → ((e : FollowEnd) → mid.ending ≡ Some e → new ≡ mid)
    → HasCompared old new (feed_of (body ∷ bodies))
by_role old mid new body bodies true role is goes later stays =
    subst (λ l. HasCompared old new l) (sym (feed_without body bodies role))
    (subst (λ p. HasCompared p new (feed_of bodies)) goes (later (ap (λ (p : Progress). p.ending) goes ∙ is)))
by_role old mid new body bodies false role is goes later stays =
    subst (λ l. HasCompared old new l) (sym (feed_with_it body bodies role))
    (by_end old mid new body (feed_of bodies) mid.ending refl goes later stays)

-- the records that are held were compared
pub compared_each : {C : Type 0} (at : C → Progress) (takes : C → ℕ → List ℕ → C → Type 0)
    → ((old new : C) (place : ℕ) (body : List ℕ) → takes old place body new → GoesOn (at old).ending (is_role body) (at old) (at new) body)
    → (bodies : List (List ℕ)) (place : ℕ) (old new : C) → (at old).ending ≡ None → TakesAll takes old place bodies new
    → HasCompared (at old) (at new) (feed_of bodies)
compared_each at takes step [] place old new is taken =
    let same : at new ≡ at old = ap at taken in
    record {
      same = [];
      rest = [];
      all = refl;
      mid = at old;
      acked = acked_none (at old);
      stops = subst (λ o. StopsComparing (at old) (at new) [] o) (sym (ap (λ (p : Progress). p.ending) same ∙ is)) same;
    }
compared_each at takes step (body ∷ bodies) place old new is taken =
    by_role (at old) (at taken.0) (at new) body bodies (is_role body) refl is
    (subst (λ o. GoesOn o (is_role body) (at old) (at taken.0) body) is (step old taken.0 place body taken.1))
    (λ none. compared_each at takes step bodies _ taken.0 new none taken.2)
    (λ e some. still at takes step e bodies _ taken.0 new some taken.2)

-- ---- sending

-- a record, and then others
sent_first : (old mid new : SinkView) (first rest : List ℕ) (failed : Bool) → Writes old mid first → WritesUnless failed mid new rest
    → WritesUnless failed old new (first ++ rest)
sent_first old mid new first rest false p q = record {
  written = appends_then old.written mid.written new.written first rest p.written q.written;
  later = let a = p.later in let b = q.later in omega arith;
}
sent_first old mid new first rest true p q = record {
  written = then_part old.written mid.written new.written first rest p.written q.written;
  later = let a = p.later in let b = q.later in omega arith;
  rose = let a = p.later in let b = q.rose in omega arith;
}

-- after a write that failed nothing is sent
pub sent_no_more : {C : Type 0} (at : C → SinkView) (failed : C → Bool) (takes : C → ℕ → List ℕ → C → Type 0)
    → ((old new : C) (place : ℕ) (body : List ℕ) → takes old place body new → Sends (failed old) (is_role body) (at old) (at new) body (failed new))
    → (bodies : List (List ℕ)) (place : ℕ) (old new : C) → failed old ≡ true → TakesAll takes old place bodies new
    → (at new ≡ at old) × (failed new ≡ true)
sent_no_more at failed takes step [] place old new is taken = (ap at taken, ap failed taken ∙ is)
sent_no_more at failed takes step (body ∷ bodies) place old new is taken =
    let mid = taken.0 in
    let sent = subst (λ f. Sends f (is_role body) (at old) (at mid) body (failed mid)) is (step old mid place body taken.1) in
    let later = sent_no_more at failed takes step bodies _ mid new sent.0 taken.2 in
    (later.0 ∙ sent.1, later.1)

-- One record of a feed, by whether its write failed, and then the others: `later` is what came of these where it did not, and `stays` that nothing
-- was written where it did.
by_failure : (old mid new : SinkView) (body : List ℕ) (bodies : List (List ℕ)) (f fails : Bool) → WritesUnless f old mid (framed body)
    → (f ≡ false → WritesUnless fails mid new (fed bodies)) → (f ≡ true → (new ≡ mid) × (fails ≡ true))
    → WritesUnless fails old new (framed body ++ fed bodies)
by_failure old mid new body bodies false fails writes later stays = sent_first old mid new (framed body) (fed bodies) fails writes (later refl)
by_failure old mid new body bodies true fails part later stays =
    let still = stays refl in
    subst (λ f. WritesUnless f old new (framed body ++ fed bodies)) (sym still.1)
    (subst (λ v. WritesPart old v (framed body ++ fed bodies)) (sym still.0)
    (record { written = longer_part old.written mid.written (framed body) (fed bodies) part.written; later = part.later; rose = part.rose }))

-- one record of a journal, by whether it is of the feed, and then the others
sent_by_role : (old mid new : SinkView) (body : List ℕ) (bodies : List (List ℕ)) (r f fails : Bool) → is_role body ≡ r → Sends false r old mid body f
    → (f ≡ false → WritesUnless fails mid new (fed (feed_of bodies))) → (f ≡ true → (new ≡ mid) × (fails ≡ true))
    → WritesUnless fails old new (fed (feed_of (body ∷ bodies)))
sent_by_role old mid new body bodies true f fails role sends later stays =
    subst (λ l. WritesUnless fails old new (fed l)) (sym (feed_without body bodies role))
    (subst (λ v. WritesUnless fails v new (fed (feed_of bodies))) sends.1 (later sends.0))
sent_by_role old mid new body bodies false f fails role sends later stays =
    subst (λ l. WritesUnless fails old new (fed l)) (sym (feed_with_it body bodies role))
    (by_failure old mid new body (feed_of bodies) f fails sends later stays)

-- the records of a journal were sent
pub sent_each : {C : Type 0} (at : C → SinkView) (failed : C → Bool) (takes : C → ℕ → List ℕ → C → Type 0)
    → ((old new : C) (place : ℕ) (body : List ℕ) → takes old place body new → Sends (failed old) (is_role body) (at old) (at new) body (failed new))
    → (bodies : List (List ℕ)) (place : ℕ) (old new : C) → failed old ≡ false → TakesAll takes old place bodies new
    → WritesUnless (failed new) (at old) (at new) (fed (feed_of bodies))
sent_each at failed takes step [] place old new is taken =
    subst (λ c. WritesUnless (failed c) (at old) (at c) []) (sym taken)
    (subst (λ f. WritesUnless f (at old) (at old) []) (sym is) (record { written = Appends-nil (at old).written; later = omega arith }))
sent_each at failed takes step (body ∷ bodies) place old new is taken =
    sent_by_role (at old) (at taken.0) (at new) body bodies (is_role body) (failed taken.0) (failed new) refl
    (subst (λ f. Sends f (is_role body) (at old) (at taken.0) body (failed taken.0)) is (step old taken.0 place body taken.1))
    (λ none. sent_each at failed takes step bodies _ taken.0 new none taken.2)
    (λ some. sent_no_more at failed takes step bodies _ taken.0 new some taken.2)
