-- What failed where following or exporting came to its end. It is told on any disk, also on one that does not tell its bytes.
use Rattle.std.specs.Prelude.{⊤, ◌≤◌, ℕ, Option, Some, None, Result, Ok, Err}
use Rattle.shelf.specs.WebOutside.Causes.{Rose}
use Rattle.shelf.specs.WebOutside.View.{SourceView, SinkView}
use Rattle.shelf.specs.WebDisk.View.{View}
use Rattle.page_follower.specs.Comparing.{Progress}
use Rattle.page_follower.specs.declared.exporting.ExportFault.{ExportFault}
use Rattle.page_follower.specs.declared.exporting.ExportFault.TheVariants as export_fault
use Rattle.page_follower.specs.declared.fault.FeedFault.TheVariants as fault
use Rattle.page_follower.specs.declared.fault.FollowEnd.{FollowEnd}
use Rattle.page_follower.specs.declared.fault.FollowEnd.TheVariants as end

-- how often calls of the source, of the output and of the disk had failed
pub record Faults : Type 0 where
  pub source : ℕ
  pub sink : ℕ
  pub disk : ℕ

-- how often calls of source, output and disk had failed, by what contracts see of the three
abbrev pub faults_of : SourceView → SinkView → View → Faults
faults_of source sink disk = record { source = source.faults; sink = sink.faults; disk = disk.faults }

-- how often calls of source, output and disk had failed where a follower stood so in its feed
abbrev pub faults_at : Progress → View → Faults
faults_at p disk = faults_of p.source p.sink disk

-- Which of source, output and disk failed where following ended so. It did not end since the shelf does not follow.
abbrev pub IsCausedBy : (old new : Faults) → Option FollowEnd → Type 0
IsCausedBy old new None = ⊤
IsCausedBy old new (Some end.Held) = ⊤
IsCausedBy old new (Some end.Promoted) = ⊥
IsCausedBy old new (Some (end.Feed fault.Head)) = ⊤
IsCausedBy old new (Some (end.Feed (fault.Cut place))) = ⊤
IsCausedBy old new (Some (end.Feed fault.Long)) = ⊤
IsCausedBy old new (Some (end.Feed fault.Failed)) = Rose old.source new.source
IsCausedBy old new (Some (end.Feed fault.Memory)) = ⊤
IsCausedBy old new (Some (end.Other place)) = ⊤
IsCausedBy old new (Some (end.Record place)) = ⊤
IsCausedBy old new (Some (end.Full len)) = ⊤
IsCausedBy old new (Some end.DiskFault) = Rose old.disk new.disk
IsCausedBy old new (Some end.Unwritten) = Rose old.sink new.sink
IsCausedBy old new (Some end.Memory) = ⊤

-- no count of faults fell
pub record CountOn (old new : Faults) : Type 0 where
  pub source : old.source ≤ new.source
  pub sink : old.sink ≤ new.sink
  pub disk : old.disk ≤ new.disk

-- no count of faults fell, and that rose of what ended following, if it ended
pub record HasCauses (old new : Faults) (o : Option FollowEnd) : Type 0 where
  pub later : CountOn old new
  pub caused : IsCausedBy old new o

-- which of the output and the disk failed where exporting ended so
abbrev pub IsExportCausedBy : (sink told : SinkView) → (old new : View) → Result (Unit {0}) ExportFault → Type 0
IsExportCausedBy sink told old new (Ok x) = ⊤
IsExportCausedBy sink told old new (Err export_fault.DiskFault) = Rose old.faults new.faults
IsExportCausedBy sink told old new (Err export_fault.Unwritten) = Rose sink.faults told.faults

-- the output's count did not fall, and of the output and the disk that count rose that ended exporting, if it was not done
pub record HasExportCauses (sink told : SinkView) (old new : View) (result : Result (Unit {0}) ExportFault) : Type 0 where
  pub later : sink.faults ≤ told.faults
  pub caused : IsExportCausedBy sink told old new result
