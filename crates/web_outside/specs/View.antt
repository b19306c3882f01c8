-- What contracts see of the outside.
use Rattle.std.specs.Prelude.{ℕ, Bool, List, Option}

-- what contracts see of a source
pub record SourceView : Type 0 where
  -- the bytes that are left, where the source tells them
  pub left : Option (List ℕ)
  -- how often a call failed
  pub faults : ℕ

-- what contracts see of a sink
pub record SinkView : Type 0 where
  -- the bytes that were written, where the sink tells them
  pub written : Option (List ℕ)
  -- the written bytes that a flush handed on, where the sink tells them
  pub handed : Option (List ℕ)
  -- how often a call failed
  pub faults : ℕ

-- what contracts see of a link: its two halves
pub record LinkView : Type 0 where
  pub input : SourceView
  pub output : SinkView

-- what contracts see of a porch
pub record PorchView (L : Type 0) : Type 0 where
  -- the links that are still to come, in order, where the porch tells them
  pub coming : Option (List L)
  -- the links that were handed back, as they were then, in order, where the porch tells them
  pub served : Option (List L)
  -- how many links it gave, and how many it gives at most
  pub given : ℕ
  pub most : ℕ
  -- whether a link that it gave was not handed back
  pub lent : Bool
  -- how often a call failed
  pub faults : ℕ

-- what contracts see of a door
pub record DoorView (P L : Type 0) : Type 0 where
  -- the links that the porches of the next listening at this port give, a list for each worker, where the door tells them
  pub links : (port : ℕ) → Option (List (List L))
  -- the porches that were closed last, as they were then, where the door keeps them
  pub closed : Option (List P)
  -- how often a call failed, of the door or of a porch that was closed
  pub faults : ℕ

-- what contracts see of seeds
pub record SeedsView (N : Type 0) : Type 0 where
  -- the sources that the next draw of so many gives, where the seeds tell them
  pub gives : (count : ℕ) → Option (List N)
  -- how often a call failed
  pub faults : ℕ
