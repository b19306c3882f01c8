-- What of a shelf stays while it is fed.
use Rattle.std.proofs.Common.{◌≡◌, ◌∙◌, Option, Some, None, ap, sym, refl, subst}
use Rattle.shelf.specs.Following.{CanBeFed}
use Rattle.shelf.specs.Views.{follows_in}
use Rattle.shelf.specs.declared.shelf.Shelf.{Shelf}
use Rattle.page_follower.specs.Keeping.{IsKept}
use Rattle.page_follower.specs.declared.fault.FollowEnd.{FollowEnd}
use Rattle.page_follower.proofs.Adoptions.{can_still}

-- nothing was done
pub kept_none : {D N : Type 0} (s : Shelf D N) → CanBeFed s → IsKept s s None
kept_none s can = record { rules_are = refl; nonces_are = refl; follows_on = refl; can = λ h. can }

-- a call, and then another
pub kept_then : {D N : Type 0} (old mid new : Shelf D N) (o p : Option FollowEnd) → IsKept old mid o → IsKept mid new p → IsKept old new p
kept_then old mid new o p a b = record {
  rules_are = b.rules_are ∙ a.rules_are;
  nonces_are = b.nonces_are ∙ a.nonces_are;
  follows_on = b.follows_on ∙ a.follows_on;
  can = b.can;
}

-- its journal was read
pub kept_read : {D N : Type 0} (old new : Shelf D N) → new ≡ record old { journal = new.journal } → CanBeFed old → IsKept old new None
kept_read old new same can = record {
  rules_are = ap (λ s. s.rules) same;
  nonces_are = ap (λ s. s.nonces) same;
  follows_on = ap follows_in same;
  can = λ h. can_still old new same can;
}

-- following went on after some calls, or it had ended with them
pub all_kept : {D N : Type 0} (old mid new : Shelf D N) (o : Option FollowEnd) (e : FollowEnd) → IsKept old mid None
    → (o ≡ None → IsKept mid new (Some e)) → ((o ≡ None → ⊥) → new ≡ mid) → IsKept old new (Some e)
all_kept old mid new None e first later ended = kept_then old mid new None (Some e) first (later refl)
all_kept old mid new (Some x) e first later ended =
    subst (λ s. IsKept old s (Some e)) (sym (ended (λ none. let never : ⊥ = cc none in never)))
    (record {
      rules_are = first.rules_are;
      nonces_are = first.nonces_are;
      follows_on = first.follows_on;
      can = λ h. first.can (λ none. let never : ⊥ = cc none in never);
    })
