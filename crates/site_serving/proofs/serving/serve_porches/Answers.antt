use Rattle.std.proofs.Common.{◌≡◌, ◌∙◌, ◌<◌, ℕ, length, get_or, sym, ap, subst, arith}
use Rattle.std.specs.Prelude.{vec_len}
use denote.Exit.{no}
use mir.Syntax.{named}
use denote.Param.{param}
use denote.Param.Send.{IsSend, IsSync, arg_send, arg_sync, param_send, param_sync, recorded_send, recorded_sync, sendable}
use Rattle.shelf_lock.specs.declared.kept.Kept.{Ghosts}
use Rattle.lock_row.specs.contracts.seats.RowPass as RowPass
use denote.Ref.{NamedLft}
use Rattle.web_disk.specs.declared.disk.Disk as disk
use Rattle.web_outside.specs.declared.nonces.Nonces as nonces
use denote.RattleType.{RattleType}
use Rattle.site.specs.contracts.kept.KeptShelfKept.TheImpl.{ghosts, no_dict}
use Rattle.site.specs.contracts.running.Running as Running
use Rattle.site.specs.contracts.kept.KeptShelf as KeptShelf
use Rattle.site.specs.contracts.opening.Opening as Opened
use Rattle.site.specs.contracts.entry.KeptEntry as KeptEntry
use Rattle.site.specs.contracts.site.Site as Site
use Rattle.disk_trio.specs.Trio.{trio_view}
use Rattle.disk_trio.specs.contracts.trio.Disks as Disks
use Rattle.disk_trio.specs.contracts.current.DisksDisk.TheImpl as trios
use Rattle.site.proofs.Crossings.{disks, disks_sync, kept, row_pass, site_sync}
use Rattle.request_workers.specs.Tallies.{count_of, IsBelow}
use Rattle.request_workers.specs.declared.tally.Tally.{Tally}
use Rattle.site_serving.specs.Totals.{end_of, total}
use Rattle.site_serving.specs.Kept.{kept_of}
use Rattle.site_serving.specs.Serving.{views}
use Rattle.site_serving.proofs.Served.{all_small, as_many, door_rose, leaves_all, opened_all}
use Rattle.site_serving.proofs.serving.serve_porches.Goals as goal

shelf_send : (D N : RattleType) → IsSend D → IsSend N → IsSend (KeptShelf.the_row D N)
shelf_send D N d n = recorded_send (KeptShelf.the_field D N).row _ _ (KeptShelf.the_type D N).to_one (kept D N d n)

passes_send : (T T' T'' : RattleType) (g : Ghosts T.Denot T'.Denot T''.Denot) → IsSend T → IsSend (RowPass.the_row T T' T'' g)
passes_send T T' T'' g t = let all = row_pass T T' T'' g t in search (sendable, all) depth 30

site_row : (D N : RattleType) (d : disk.Ghosts D.Denot) (n : nonces.Ghosts N.Denot) → IsSend D → IsSend N → IsSync D → IsSync N → IsSync (Site.the_row D N d n)
site_row D N d n ds ns dy ny = recorded_sync (Site.the_field D N d n).row _ _ (Site.the_type D N d n).to_one (site_sync D N d n ds ns dy ny)

running : (a : NamedLft) (R D N : RattleType) (d : disk.Ghosts D.Denot) (n : nonces.Ghosts N.Denot) → IsSync R → IsSync (Site.the_row D N d n) → IsSync (Running.the_row a R D N d n)
running a R D N d n here there = search sendable depth 30

pub serve_all-tallies-requires-send-A-Pass : goal.serve_all-tallies-requires-send-A-Pass
serve_all-tallies-requires-send-A-Pass g c κs within =
    let b = c.type_bounds in
    let F = param 1 g.row.F in
    let D = Disks.the_row F g.F.Disk in
    let N = param 2 g.row.N in
    let T = KeptShelf.the_row D N in
    let O = Opened.the_row D N in
    let E = KeptEntry.the_row in
    let k = ghosts D N (trios.ghosts F g.F.Disk no_dict) no_dict g.N.Nonces no_dict no_dict in
    param_send 5 _ (arg_send _ no (RowPass.the_row T O E k) (passes_send T O E k (shelf_send D N (disks F g.F.Disk b.send-F) b.send-N)))

pub serve_all-tallies-requires-sync-A : goal.serve_all-tallies-requires-sync-A
serve_all-tallies-requires-sync-A g c κs within =
    let b = c.type_bounds in
    let R = param 0 g.row.R in
    let F = param 1 g.row.F in
    let D = Disks.the_row F g.F.Disk in
    let N = param 2 g.row.N in
    let d = trios.ghosts F g.F.Disk no_dict in
    let n = g.N.Nonces in
    let a : NamedLft = record { mir = named 6; lft = κs.1.1.1.1.1.1.0 } in
    param_sync 0 _ (arg_sync _ no (Running.the_row a R D N d n)
    (running a R D N d n b.sync-R (site_row D N d n (disks F g.F.Disk b.send-F) b.send-N (disks_sync F g.F.Disk b.sync-F) b.sync-N)))

pub serve_all-tallies-requires-clause-own : goal.serve_all-tallies-requires-clause-own
serve_all-tallies-requires-clause-own g c κs within = λ k p here. (c.requires.manned.first k p here).own

pub total-tally-requires-clause-few : goal.total-tally-requires-clause-few
total-tally-requires-clause-few g c =
    let tallies = c.serve_all-tallies.result.items in
    let value : length c.deref.result.now ≡ length tallies = ap length c.deref.ensures.value in
    let many : length tallies ≡ length c.args.passes.items = as_many _ _ _ _ _ _ _ _ _ _ c.serve_all-tallies.ensures.served in
    let size : length c.args.passes.items ≡ vec_len c.args.passes = c.requires.manned.many in
    let few = c.requires.few in
    omega (arith, value, many, size, few)

pub total-tally-requires-clause-small : goal.total-tally-requires-clause-small
total-tally-requires-clause-small g c =
    subst (λ ts. (k : ℕ) (d : Tally) → k < length ts → IsBelow (count_of (get_or ts k d)) 1000000001) (sym c.deref.ensures.value)
    (all_small _ _ _ _ _ _ _ _ _ _ c.serve_all-tallies.ensures.served)

pub returns-clause-ends : goal.returns-clause-ends
returns-clause-ends g c =
    let v = views trio_view g.F.Disk.tells g.A.Porch.Link.Link.view g.A.Porch.Porch.view g.N.Nonces.nonce (g.C.Clock.shows c.args.clock.now) in
    let tallies = c.serve_all-tallies.result.items in
    let histories = c.close-disks.result.2.items in
    let closed = c.close-disks.ensures in
    let value : c.deref.result.now ≡ tallies = c.deref.ensures.value in
    record {
      kept = kept_of histories tallies;
      told = c.keep.ensures;
      leaves = leaves_all v c.args.site c.args.requests c.args.passes.items c.args.porches.items c.serve_all-tallies.new.passes.items c.serve_all-tallies.new.porches.items
          tallies c.close-disks.result.0.items c.close-disks.result.1.items histories (g.A.Door.view c.close.new.self) (vec_len c.args.passes)
          (record {
            served = c.serve_all-tallies.ensures.served;
            own = c.serve_all-tallies.ensures.own;
            first = c.requires.manned.first;
            many = closed.histories;
            opened = opened_all trio_view g.F.Disk.tells g.N.Nonces.nonce c.args.site.row.homes c.args.site.row.seats c.close-disks.result.0.items c.close-disks.result.1.items
                histories closed.disks closed.nonces closed.histories closed.back;
            told = closed.told;
          })
          c.requires.manned.many c.requires.manned.given closed.disks closed.nonces closed.back c.close.ensures.closed;
      count = c.total-tally.ensures.count ∙ ap total value;
      end = c.total-tally.ensures.end ∙ ap end_of value;
    }

pub returns-clause-failed : goal.returns-clause-failed
returns-clause-failed g c = λ failed.
    let faults = (g.A.Door.view c.args.door.now).faults in
    let value = c.deref.ensures.value in
    door_rose _ _ _ _ _ c.args.passes.items c.args.porches.items c.serve_all-tallies.new.passes.items c.serve_all-tallies.new.porches.items
    c.serve_all-tallies.result.items faults faults (g.A.Door.view c.close.new.self).faults c.serve_all-tallies.ensures.served
    (sym (c.total-tally.ensures.end ∙ ap end_of value) ∙ failed) (omega arith) c.close.ensures.faults
