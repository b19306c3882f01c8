-- How following ends where a record is not adopted.
use Rattle.std.specs.Prelude.{ℕ}
use Rattle.shelf.specs.declared.adopt.AdoptFault.{AdoptFault}
use Rattle.shelf.specs.declared.adopt.AdoptFault.TheVariants as fault
use Rattle.page_follower.specs.declared.fault.FollowEnd.{FollowEnd}
use Rattle.page_follower.specs.declared.fault.FollowEnd.TheVariants as end

-- how following ends where a shelf is not fed the record at this place
abbrev pub end_for : AdoptFault → (place : ℕ) → FollowEnd
end_for fault.Leader place = end.Promoted
end_for (fault.Down count) place = end.DiskFault
end_for fault.Outside place = end.Record place
end_for (fault.Full len) place = end.Full len
end_for (fault.DiskFault count) place = end.DiskFault
end_for fault.Memory place = end.Memory
