-- Shelves that follow another one's journal, and such as do not.
use Rattle.std.proofs.Common.{◌≡◌, ap, subst, refl, ℕ, Bool, false, List, [], Option, Some, None, is_some, IfSome, option_map, Contains}
use Rattle.web_disk.specs.View.{View}
use Rattle.replay_spec.specs.Book.{Book}
use Rattle.replay_spec.specs.Invariant.{Among}
use Rattle.replay_spec.specs.Step.{barred}
use Rattle.replay_spec.proofs.Stand.{among_of}
use Rattle.shelf.specs.declared.doubt.Doubt as doubt_type
use Rattle.shelf.specs.declared.follower.Follower.{Follower}
use Rattle.shelf.specs.declared.shelf.Shelf.{Shelf}
use Rattle.shelf.specs.Views.{doubt_of, follows_in, book_in, IsFree, IsFed, IsInOrder}
use Rattle.shelf.proofs.Now.{if_none}
use Rattle.shelf.proofs.Steps.{free_bars}

-- one that has no follower's part does not follow
pub leads_in : {D N : Type 0} (s : Shelf D N) → s.follower ≡ None → follows_in s ≡ false
leads_in s none = ap (λ (o : Option Follower). is_some o) none

-- what is asked of its part is asked of none
pub unfed : {D N : Type 0} (view : D → View) (tells : Bool) (s : Shelf D N) → s.follower ≡ None → IfSome s.follower (IsFed view tells s)
unfed view tells s none = if_none s.follower (IsFed view tells s) none

-- nothing bars it, where nothing is in doubt
pub bars_none : {D N : Type 0} (view : D → View) (s : Shelf D N) → IsFree s → barred (book_in view s) ≡ None
bars_none view s free = free_bars (book_in view s) (ap (λ (o : Option doubt_type.Doubt). option_map doubt_of o) free.up) (leads_in s free.leads)

-- a shelf on which a number is out does not follow
pub out_leads : {D N : Type 0} (view : D → View) (tells : Bool) (s : Shelf D N) → IsInOrder view tells s → (n : ℕ) → Contains (book_in view s).out n → s.follower ≡ None
out_leads view tells s order n out = by_part s.follower order.fed
  where
    by_part : (o : Option Follower) → IfSome o (IsFed view tells s) → o ≡ None
    by_part None fed = refl
    by_part (Some f) fed =
        let none : Among n [] = subst (λ (ns : List ℕ). Among n ns) (ap (λ (b : Book). b.out) fed.again) (among_of (book_in view s).out n out) in absurd none
