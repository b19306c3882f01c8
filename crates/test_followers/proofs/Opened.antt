-- A shelf that was opened without a setup is in order where it can be fed, and can be fed where it follows.
use Rattle.std.proofs.Common.{◌≡◌, ◌∙◌, inl, inr, Bool, true, false, Option, Some, None, IfSome, is_some, sym, refl}
use Rattle.std.proofs.lemmas.Bool.{false≢true}
use Rattle.web_disk.specs.View.{View}
use Rattle.shelf.specs.declared.follower.Follower.{Follower}
use Rattle.shelf.specs.declared.shelf.Shelf.{Shelf}
use Rattle.shelf.specs.Following.{IsOpen, CanBeFed, IsInOrderIfFed}
use Rattle.shelf.specs.Views.{follows_in, IsFed}
use Rattle.shelf.proofs.Adding as adding

-- it is in order where it can be fed
pub in_order_fed : {D N : Type 0} (view : D → View) (tells : Bool) (s : Shelf D N) → IsOpen view tells s → IsInOrderIfFed view tells s
in_order_fed view tells s (inl order) can = order
in_order_fed view tells s (inr none) can = absurd (false≢true (sym none.leads ∙ can.follows_on))

-- it can be fed where it follows
pub can_be_fed : {D N : Type 0} (view : D → View) (tells : Bool) (s : Shelf D N) → IsOpen view tells s → follows_in s ≡ true → CanBeFed s
can_be_fed view tells s (inl order) so = by_part s.follower refl order.fed so
  where
    by_part : (o : Option Follower) → s.follower ≡ o → IfSome o (IsFed view tells s) → is_some o ≡ true → CanBeFed s
    by_part None is fed never = absurd (false≢true never)
    by_part (Some f) is fed follows = adding.can_be_fed s f is fed.standing
can_be_fed view tells s (inr none) so = absurd (false≢true (sym none.leads ∙ so))
