-- Worked rows.
use Rattle.std.specs.Prelude.{◌≡◌, refl}
use Rattle.kept_states.specs.Links.{links_at}

-- the state of a root is kept by itself
a_root : links_at 0 ≡ 0
a_root = refl

-- the state of the page after a root is kept as a delta
the_first_behind_it : links_at 1 ≡ 1
the_first_behind_it = refl

-- a state may be 32 deltas from a whole one
the_farthest : links_at 32 ≡ 32
the_farthest = refl

-- the state after 32 deltas is kept by itself
by_itself_again : links_at 33 ≡ 0
by_itself_again = refl

-- the state after that is kept as a delta again
and_from_there : links_at 34 ≡ 1
and_from_there = refl
