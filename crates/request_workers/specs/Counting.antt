-- What a worker counts.
use Rattle.std.specs.Prelude.{ℕ, ◌+◌}
use Rattle.request_workers.specs.Linking.{Visited}
use Rattle.request_workers.specs.declared.link.LinkEnd.{LinkEnd}
use Rattle.request_workers.specs.declared.link.LinkEnd.TheVariants as ends

-- what is counted: visits that were answered with a page, and others; links on which reading or writing failed; and dropped links
pub record Count : Type 0 where
  pub pages : ℕ
  pub refused : ℕ
  pub failed : ℕ
  pub dropped : ℕ

-- the count before anything was served
abbrev pub nothing : Count
nothing = record { pages = 0; refused = 0; failed = 0; dropped = 0 }

-- the count of one connection that was dropped
abbrev pub one_dropped : Count
one_dropped = record nothing { dropped = 1 }

-- the count of one connection that failed
abbrev pub one_failed : Count
one_failed = record nothing { failed = 1 }

-- the counts of both together
abbrev pub both : Count → Count → Count
both a b = record {
  pages = a.pages + b.pages;
  refused = a.refused + b.refused;
  failed = a.failed + b.failed;
  dropped = a.dropped + b.dropped;
}

-- what the end of a link adds to its visits
abbrev pub end_count : LinkEnd → Count
end_count ends.Closed = nothing
end_count (ends.Refused reason) = nothing
end_count ends.Idle = nothing
end_count ends.ReadFault = one_failed
end_count ends.WriteFault = one_failed
end_count ends.Memory = one_dropped

-- what one link counts, by its visits and its end
abbrev pub link_count : Visited → LinkEnd → Count
link_count visited end = both (record nothing { pages = visited.pages; refused = visited.refused }) (end_count end)
