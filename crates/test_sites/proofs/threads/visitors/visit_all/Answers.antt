use mathlib.Core.List.{List, [], ◌∷◌}
use Rattle.std.specs.Prelude.{codes}
use mir.Syntax.{Sym, named}
use denote.Exit.{no}
use denote.RattleType.{RattleType}
use denote.Ref.{NamedLft, ShrRef}
use denote.Slice.{ShrSlice}
use denote.Struct.Tuple.{TupleAt}
use denote.Struct.Field.{u64-field}
use denote.Param.{param}
use denote.Param.Send.{IsSend, IsSync, arg_sync, param_sync, recorded_sync, sendable}
use Rattle.std.proofs.Crossing.{crosses}
use Rattle.std.specs.contracts.alloc.Global as Global
use Rattle.web_disk.specs.contracts.memory.MemoryDisk as MemoryDisk
use Rattle.web_disk.specs.contracts.memory.MemoryDiskDisk.TheImpl as memory
use Rattle.disk_trio.specs.contracts.current.DisksDisk.TheImpl as trios
use Rattle.web_outside.specs.contracts.nonces.Counting as Counting
use Rattle.web_outside.specs.contracts.nonces.CountingNonces.TheImpl as nonces
use Rattle.site.specs.contracts.site.Site as Site
use Rattle.test_sites.specs.contracts.threads.notes.Note as Note
use Rattle.test_sites.specs.contracts.threads.visitors.Visitor as Visitor
use Rattle.test_sites.proofs.Crossings.{pass, shared_five, shared_memory, shared_number, shared_site, shelf, three}
use Rattle.test_sites.proofs.threads.visitors.visit_all.Goals as goal

note : IsSend Note.the_field.row
note = search (sendable, crosses) depth 40 fits 100000

visitor : IsSend Visitor.the_field.row
visitor = search (sendable, crosses, pass, shelf, note) depth 40 fits 100000

note_field : IsSync Note.the_field.row
note_field = search (sendable, crosses) depth 40 fits 100000

shared_note : IsSync Note.the_row
shared_note = recorded_sync Note.the_field.row _ _ Note.the_type.to_one note_field

pub for_each_mut-requires-send-T : goal.for_each_mut-requires-send-T
for_each_mut-requires-send-T g c κs within = search (sendable, visitor) depth 40 fits 100000

pub for_each_mut-requires-sync-F : goal.for_each_mut-requires-sync-F
for_each_mut-requires-sync-F g c κs within =
    let R = param 0 g.row.R in
    let S = Site.the_row three Counting.the_row (trios.ghosts MemoryDisk.the_row memory.ghosts trios.no_dict) nonces.ghosts in
    let a : NamedLft = record { mir = named 6; lft = κs.1.1.1.1.1.1.0 } in
    let b : NamedLft = record { mir = named 7; lft = κs.1.1.1.1.1.1.1.0 } in
    let s : NamedLft = record { mir = named 8; lft = κs.1.1.1.1.1.1.1.1.0 } in
    let d : NamedLft = record { mir = named 9; lft = κs.1.1.1.1.1.1.1.1.1.0 } in
    let e : NamedLft = record { mir = named 10; lft = κs.1.1.1.1.1.1.1.1.1.1.0 } in
    let ν : Sym = codes "test_sites::threads::visitors::fn::visit_all::for_each_mut+Self" in
    let held : List RattleType =
    ShrRef a.mir a.lft R ∷ ShrRef b.mir b.lft Global.the_row ∷ ShrRef s.mir s.lft S ∷ ShrSlice d.mir d.lft Note.the_row ∷ ShrRef e.mir e.lft u64-field.row ∷ [] in
    param_sync 2 _ (arg_sync _ no (TupleAt ν held)
    (shared_five ν a b s d e R Global.the_row S Note.the_row u64-field.row c.type_bounds.sync-R shared_memory shared_site shared_note shared_number))
