-- What workers counted together.
use Rattle.std.specs.Prelude.{ℕ, List, [], ◌∷◌}
use Rattle.request_workers.specs.Counting.{Count, nothing, both}
use Rattle.request_workers.specs.Tallies.{count_of}
use Rattle.request_workers.specs.declared.tally.Tally.{Tally}
use Rattle.request_workers.specs.declared.tally.WorkEnd.{WorkEnd}
use Rattle.request_workers.specs.declared.tally.WorkEnd.TheVariants as ends

-- What workers counted together.
abbrev pub total : List Tally → Count
total [] = nothing
total (t ∷ tallies) = both (count_of t) (total tallies)

-- How two workers ended together: with a failure, where the first failed, and else as the second did.
abbrev pub end_with : WorkEnd → WorkEnd → WorkEnd
end_with ends.Done later = later
end_with ends.Failed later = ends.Failed

-- how workers ended together: no more links came, or a porch failed
abbrev pub end_of : List Tally → WorkEnd
end_of [] = ends.Done
end_of (t ∷ tallies) = end_with t.end (end_of tallies)
