-- Which of what these tests share may go to another thread, or be seen by several.
use mathlib.Core.List.{[], ◌∷◌}
use mir.Syntax.{Sym}
use denote.RattleType.{RattleType}
use denote.Ref.{NamedLft, ShrRef}
use denote.Slice.{ShrSlice}
use denote.Struct.Tuple.{TupleAt}
use denote.Struct.Field.{u64-field}
use denote.Param.Send.{IsSend, IsSync, recorded_send, recorded_sync, sendable}
use Rattle.std.proofs.Crossing.{crosses}
use Rattle.std.specs.contracts.alloc.Global as Global
use Rattle.shelf_lock.specs.declared.kept.Kept.{Ghosts}
use Rattle.lock_row.specs.contracts.seats.RowPass as RowPass
use Rattle.web_disk.specs.contracts.memory.MemoryDisk as MemoryDisk
use Rattle.web_disk.specs.contracts.memory.MemoryDiskDisk.TheImpl as memory
use Rattle.disk_trio.specs.contracts.trio.Disks as Disks
use Rattle.disk_trio.specs.contracts.current.DisksDisk.TheImpl as trios
use Rattle.web_outside.specs.contracts.nonces.Counting as Counting
use Rattle.web_outside.specs.contracts.nonces.CountingNonces.TheImpl as nonces
use Rattle.site.specs.contracts.kept.KeptShelf as KeptShelf
use Rattle.site.specs.contracts.site.Site as Site
use Rattle.site.proofs.Crossings.{disks, disks_sync, kept, row_pass, site_sync}

pub shelf : (D N : RattleType) → IsSend D → IsSend N → IsSend (KeptShelf.the_row D N)
shelf D N d n = recorded_send (KeptShelf.the_field D N).row _ _ (KeptShelf.the_type D N).to_one (kept D N d n)

pub pass : (T T' T'' : RattleType) (g : Ghosts T.Denot T'.Denot T''.Denot) → IsSend T → IsSend (RowPass.the_row T T' T'' g)
pass T T' T'' g t = let all = row_pass T T' T'' g t in search (sendable, all) depth 30

disk : IsSend MemoryDisk.the_row
disk = search (sendable, crosses) depth 40 fits 100000

shared_disk : IsSync MemoryDisk.the_row
shared_disk = search (sendable, crosses) depth 40 fits 100000

counting : IsSend Counting.the_row
counting = search (sendable, crosses) depth 40 fits 100000

shared_counting : IsSync Counting.the_row
shared_counting = search (sendable, crosses) depth 40 fits 100000

-- the disks of a shelf
abbrev pub three : RattleType
three = Disks.the_row MemoryDisk.the_row memory.ghosts

pub shared_site : IsSync (Site.the_row three Counting.the_row (trios.ghosts MemoryDisk.the_row memory.ghosts trios.no_dict) nonces.ghosts)
shared_site =
    let d = trios.ghosts MemoryDisk.the_row memory.ghosts trios.no_dict in
    let N = Counting.the_row in
    recorded_sync (Site.the_field three N d nonces.ghosts).row _ _ (Site.the_type three N d nonces.ghosts).to_one
    (site_sync three N d nonces.ghosts (disks MemoryDisk.the_row memory.ghosts disk) counting (disks_sync MemoryDisk.the_row memory.ghosts shared_disk) shared_counting)

pub shared_memory : IsSync Global.the_row
shared_memory = search (sendable, crosses) depth 40 fits 100000

pub shared_number : IsSync u64-field.row
shared_number = search sendable depth 20

-- what a closure holds that refers to five things, of which one is a slice
pub shared_five : (ν : Sym) (a b c d e : NamedLft) (R M S N U : RattleType) → IsSync R → IsSync M → IsSync S → IsSync N → IsSync U
    → IsSync (TupleAt ν (ShrRef a.mir a.lft R ∷ ShrRef b.mir b.lft M ∷ ShrRef c.mir c.lft S ∷ ShrSlice d.mir d.lft N ∷ ShrRef e.mir e.lft U ∷ []))
shared_five ν a b c d e R M S N U r m s n u = search sendable depth 40 fits 100000
