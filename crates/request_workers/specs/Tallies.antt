-- The counts of a tally.
use Rattle.std.specs.Prelude.{ℕ, ◌<◌}
use Rattle.request_workers.specs.Counting.{Count, link_count}
use Rattle.request_workers.specs.Linking.{links_count}
use Rattle.request_workers.specs.declared.link.Links.{Links}
use Rattle.request_workers.specs.declared.tally.Tally.{Tally}

-- the counts that the program's tally stands for
abbrev pub count_of : Tally → Count
count_of tally = record { pages = tally.pages; refused = tally.refused; failed = tally.failed; dropped = tally.dropped }

-- What the program counted of one link, by its visits and its end.
abbrev pub served_count : Links → Count
served_count links = link_count (links_count links) links.end

-- each count is below this limit
pub record IsBelow (count : Count) (limit : ℕ) : Type 0 where
  pub pages : count.pages < limit
  pub refused : count.refused < limit
  pub failed : count.failed < limit
  pub dropped : count.dropped < limit
