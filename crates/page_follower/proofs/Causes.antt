-- What failed where following came to its end.
use Rattle.std.proofs.Common.{◌≡◌, ◌≤◌, ℕ, Bool, true, false, List, [], ◌∷◌, Option, Some, None, arith, sym, ap, refl, subst}
use Rattle.shelf.specs.WebOutside.Causes.{Rose}
use Rattle.shelf.specs.WebOutside.View.{SourceView, SinkView}
use Rattle.shelf.specs.WebDisk.View.{View}
use Rattle.shelf.specs.PageJournal.Taken.{TakesAll}
use Rattle.shelf.specs.JournalRecords.Roles.{is_role}
use Rattle.page_follower.specs.Causes.{CountOn, Faults, HasCauses, IsCausedBy, faults_at, faults_of}
use Rattle.page_follower.specs.Comparing.{Compares, FindsNone, GoesOn, Progress}
use Rattle.page_follower.specs.Held.{Begins}
use Rattle.page_follower.specs.Reading.{NoHead}
use Rattle.page_follower.specs.declared.fault.FeedFault.{FeedFault}
use Rattle.page_follower.specs.declared.fault.FeedFault.TheVariants as fault
use Rattle.page_follower.specs.declared.fault.FollowEnd.{FollowEnd}
use Rattle.page_follower.specs.declared.fault.FollowEnd.TheVariants as end
use Rattle.page_follower.proofs.Taken.{still}

-- a count rose after some calls that did not lower it
rose_later : (old mid new : ℕ) → old ≤ mid → Rose mid new → Rose old new
rose_later old mid new later rose = omega arith

-- what failed after some calls failed since those before them
caused_later : (old mid new : Faults) (o : Option FollowEnd) → CountOn old mid → IsCausedBy mid new o → IsCausedBy old new o
caused_later old mid new None later c = tt
caused_later old mid new (Some end.Held) later c = tt
caused_later old mid new (Some end.Promoted) later c = c
caused_later old mid new (Some (end.Feed fault.Head)) later c = tt
caused_later old mid new (Some (end.Feed (fault.Cut place))) later c = tt
caused_later old mid new (Some (end.Feed fault.Long)) later c = tt
caused_later old mid new (Some (end.Feed fault.Failed)) later c = rose_later old.source mid.source new.source later.source c
caused_later old mid new (Some (end.Feed fault.Memory)) later c = tt
caused_later old mid new (Some (end.Other place)) later c = tt
caused_later old mid new (Some (end.Record place)) later c = tt
caused_later old mid new (Some (end.Full len)) later c = tt
caused_later old mid new (Some end.DiskFault) later c = rose_later old.disk mid.disk new.disk later.disk c
caused_later old mid new (Some end.Unwritten) later c = rose_later old.sink mid.sink new.sink later.sink c
caused_later old mid new (Some end.Memory) later c = tt

-- calls that did not end following, and then others
pub causes_then : (old mid new : Faults) (o : Option FollowEnd) → CountOn old mid → HasCauses mid new o → HasCauses old new o
causes_then old mid new o p q = record {
  later = record {
    source = let a = p.source in let b = q.later.source in omega arith;
    sink = let a = p.sink in let b = q.later.sink in omega arith;
    disk = let a = p.disk in let b = q.later.disk in omega arith;
  };
  caused = caused_later old mid new o p q.caused;
}

-- no call was made
pub causes_none : (f : Faults) → HasCauses f f None
causes_none f = record { later = record { source = omega arith; sink = omega arith; disk = omega arith }; caused = tt }

-- no record came, for this reason
pub none_causes : (old new : Progress) (v : View) (f : FeedFault) → FindsNone old new f → HasCauses (faults_at old v) (faults_at new v) (Some (end.Feed f))
none_causes old new v f n = record {
  later = record { source = n.later; sink = let e = ap (λ (s : SinkView). s.faults) n.tells.sink in omega arith; disk = omega arith };
  caused = by_fault f n;
}
  where
    by_fault : (x : FeedFault) → FindsNone old new x → IsCausedBy (faults_at old v) (faults_at new v) (Some (end.Feed x))
    by_fault fault.Head m = tt
    by_fault (fault.Cut place) m = tt
    by_fault fault.Long m = tt
    by_fault fault.Failed m = m.none.rose
    by_fault fault.Memory m = tt

-- a record was compared
compared_causes : (old new : Progress) (v : View) (body : List ℕ) (o : Option FollowEnd) → Compares old new body o
    → HasCauses (faults_at old v) (faults_at new v) o
compared_causes old new v body None c = record {
  later = record { source = c.came.later; sink = c.acked.later; disk = omega arith };
  caused = tt;
}
compared_causes old new v body (Some end.Held) c = record {
  later = record { source = c.ended.got.later; sink = let e = ap (λ (s : SinkView). s.faults) c.tells.sink in omega arith; disk = omega arith };
  caused = tt;
}
compared_causes old new v body (Some end.Promoted) c = absurd c
compared_causes old new v body (Some (end.Feed f)) c = none_causes old new v f c
compared_causes old new v body (Some (end.Other place)) c = record {
  later = record { source = c.came.came.later; sink = let e = ap (λ (s : SinkView). s.faults) c.tells.sink in omega arith; disk = omega arith };
  caused = tt;
}
compared_causes old new v body (Some (end.Record place)) c = absurd c
compared_causes old new v body (Some (end.Full len)) c = absurd c
compared_causes old new v body (Some end.DiskFault) c = absurd c
compared_causes old new v body (Some end.Unwritten) c = record {
  later = record { source = c.came.later; sink = c.unacked.later; disk = omega arith };
  caused = c.unacked.rose;
}
compared_causes old new v body (Some end.Memory) c = absurd c

-- nothing was done
same_causes : (old new : Progress) (v : View) → new ≡ old → old.ending ≡ None → HasCauses (faults_at old v) (faults_at new v) new.ending
same_causes old new v same is =
    subst (λ p. HasCauses (faults_at old v) (faults_at p v) p.ending) (sym same)
    (subst (HasCauses (faults_at old v) (faults_at old v)) (sym is) (causes_none (faults_at old v)))

-- a record that is held came to a taker
taken_causes : (old new : Progress) (v : View) (body : List ℕ) (role : Bool) → old.ending ≡ None → GoesOn None role old new body
    → HasCauses (faults_at old v) (faults_at new v) new.ending
taken_causes old new v body true is same = same_causes old new v same is
taken_causes old new v body false is c = compared_causes old new v body new.ending c

-- One record that is held, by how following ended with it, and then the others: `later` is what came of these where it goes on, and `stays` that
-- nothing was done where it does not.
causes_by_end : (old mid new : Progress) (v : View) (o : Option FollowEnd) → mid.ending ≡ o → HasCauses (faults_at old v) (faults_at mid v) mid.ending
    → (mid.ending ≡ None → HasCauses (faults_at mid v) (faults_at new v) new.ending) → ((e : FollowEnd) → mid.ending ≡ Some e → new ≡ mid)
    → HasCauses (faults_at old v) (faults_at new v) new.ending
causes_by_end old mid new v None is first later stays = causes_then (faults_at old v) (faults_at mid v) (faults_at new v) new.ending first.later (later is)
causes_by_end old mid new v (Some e) is first later stays =
    subst (λ p. HasCauses (faults_at old v) (faults_at p v) p.ending) (sym (stays e is)) first

-- the records that are held were compared
same_each : {C : Type 0} (at : C → Progress) (takes : C → ℕ → List ℕ → C → Type 0) (v : View)
    → ((old new : C) (place : ℕ) (body : List ℕ) → takes old place body new → GoesOn (at old).ending (is_role body) (at old) (at new) body)
    → (bodies : List (List ℕ)) (place : ℕ) (old new : C) → (at old).ending ≡ None → TakesAll takes old place bodies new
    → HasCauses (faults_at (at old) v) (faults_at (at new) v) (at new).ending
same_each at takes v step [] place old new is taken = same_causes (at old) (at new) v (ap at taken) is
same_each at takes v step (body ∷ bodies) place old new is taken =
    causes_by_end (at old) (at taken.0) (at new) v (at taken.0).ending refl
    (taken_causes (at old) (at taken.0) v body (is_role body) is
    (subst (λ o. GoesOn o (is_role body) (at old) (at taken.0) body) is (step old taken.0 place body taken.1)))
    (λ none. same_each at takes v step bodies _ taken.0 new none taken.2)
    (λ e some. still at takes step e bodies _ taken.0 new some taken.2)

-- and the disk was read for that
pub each_causes : {C : Type 0} (at : C → Progress) (takes : C → ℕ → List ℕ → C → Type 0) (v w : View)
    → ((old new : C) (place : ℕ) (body : List ℕ) → takes old place body new → GoesOn (at old).ending (is_role body) (at old) (at new) body)
    → v.faults ≤ w.faults → (bodies : List (List ℕ)) (place : ℕ) (old new : C) → (at old).ending ≡ None → TakesAll takes old place bodies new
    → HasCauses (faults_at (at old) v) (faults_at (at new) w) (at new).ending
each_causes at takes v w step risen bodies place old new is taken =
    causes_then (faults_at (at old) v) (faults_at (at old) w) (faults_at (at new) w) (at new).ending
    (record { source = omega arith; sink = omega arith; disk = risen }) (same_each at takes w step bodies place old new is taken)

-- ---- the whole feed

-- following went on after some calls, or it had ended with them
pub all_causes : (old mid new : Faults) (o : Option FollowEnd) (e : FollowEnd) → HasCauses old mid o → (o ≡ None → HasCauses mid new (Some e))
    → ((o ≡ None → ⊥) → (o ≡ Some e) × (new ≡ mid)) → HasCauses old new (Some e)
all_causes old mid new None e first later ended = causes_then old mid new (Some e) first.later (later refl)
all_causes old mid new (Some x) e first later ended =
    let done = ended (λ none. let never : ⊥ = cc none in never) in
    subst (λ f. HasCauses old f (Some e)) (sym done.1) (subst (HasCauses old mid) done.0 first)

-- a call of the disk failed
pub failed_causes : (old new : Progress) (v w : View) (o : Option FollowEnd) → HasCauses (faults_at old v) (faults_at new w) o → Rose v.faults w.faults
    → HasCauses (faults_at old v) (faults_at new w) (Some end.DiskFault)
failed_causes old new v w o first rose = record { later = first.later; caused = rose }

-- there was no head
pub head_causes : (source : SourceView) (sink : SinkView) (new : Progress) (v : View) (e : FollowEnd) → Begins source sink new (Some e)
    → source.faults ≤ new.source.faults → HasCauses (faults_of source sink v) (faults_at new v) (Some e)
head_causes source sink new v end.Held b later = absurd b
head_causes source sink new v end.Promoted b later = absurd b
head_causes source sink new v (end.Feed f) b later = record {
  later = record { source = later; sink = let e = ap (λ (s : SinkView). s.faults) b.1.0 in omega arith; disk = omega arith };
  caused = by_fault f b.0;
}
  where
    by_fault : (x : FeedFault) → NoHead source new.source x → IsCausedBy (faults_of source sink v) (faults_at new v) (Some (end.Feed x))
    by_fault fault.Head n = tt
    by_fault (fault.Cut place) n = tt
    by_fault fault.Long n = tt
    by_fault fault.Failed n = n.rose
    by_fault fault.Memory n = tt
head_causes source sink new v (end.Other place) b later = absurd b
head_causes source sink new v (end.Record place) b later = absurd b
head_causes source sink new v (end.Full n) b later = absurd b
head_causes source sink new v end.DiskFault b later = absurd b
head_causes source sink new v end.Unwritten b later = absurd b
head_causes source sink new v end.Memory b later = absurd b

-- the head came
pub begun_causes : (source : SourceView) (sink : SinkView) (begun : Progress) (v : View) (new : Faults) (e : FollowEnd) → Begins source sink begun None
    → HasCauses (faults_at begun v) new (Some e) → HasCauses (faults_of source sink v) new (Some e)
begun_causes source sink begun v new e b later =
    causes_then (faults_of source sink v) (faults_at begun v) new (Some e)
    (record { source = b.0.later; sink = let x = ap (λ (s : SinkView). s.faults) b.1.0 in omega arith; disk = omega arith }) later

-- the same, by what the source and the output are after it
pub causes_to : {S O : Type 0} (source : S → SourceView) (sink : O → SinkView) (old : Faults) (s r : S) (o p : O) (v : View) (e : Option FollowEnd)
    → HasCauses old (faults_of (source s) (sink o) v) e → s ≡ r → o ≡ p → HasCauses old (faults_of (source r) (sink p) v) e
causes_to source sink old s r o p v e causes from to =
    subst (λ x. HasCauses old (faults_of (source x) (sink p) v) e) from (subst (λ x. HasCauses old (faults_of (source s) (sink x) v) e) to causes)
