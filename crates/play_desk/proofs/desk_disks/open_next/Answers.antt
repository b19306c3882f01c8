use Rattle.std.proofs.Common.{◌≡◌, subst, [], Err, rules}
use Rattle.script_nodes.specs.Views.{scripts_of}
use Rattle.web_disk.specs.View.{AreAmong}
use Rattle.shelf.specs.declared.rules.Rules.{Rules}
use Rattle.disk_trio.specs.Trio.{trio_view}
use Rattle.trio_rack.specs.Trios.{shelves_of}
use Rattle.play_desk.proofs.Keeping.{all_kept_in, closed_kept}
use Rattle.play_desk.proofs.desk_disks.open_next.Goals as goal

pub returns-in_err-shelf-clause-keeps : goal.returns-in_err-shelf-clause-keeps
returns-in_err-shelf-clause-keeps g c rack_tells tells =
    let why = c.in_err-shelf.field-0.0 in
    let told : c.from_residual.result ≡ Err why = search rules in
    rw told (closed_kept (trio_view {G = g.F.Disk}) (scripts_of c.args.setup.now) c.args.rules.number ((shelves_of (g.R.Rack.view c.args.rack.now)).holds c.args.rules.number)
    (shelves_of (g.R.Rack.view c.opened.new.rack)).holds why
    (c.in_err-shelf.ensures.keeps rack_tells tells))

-- a shelf for which there was no place
pub returns-in-Err-clause-keeps : goal.returns-in-Err-clause-keeps
returns-in-Err-clause-keeps g c rack_tells tells other =
    let n = c.args.rules.number in
    let held = (shelves_of (g.R.Rack.view c.args.rack.now)).holds n in
    let now = (shelves_of (g.R.Rack.view c.put_back.new.rack)).holds in
    let shelf = c.in_ok-shelf.shelf in
    let images = (trio_view shelf.journal.disk).images in
    let given : AreAmong (now shelf.rules.number) images = search (rules, c.put_back.ensures.images rack_tells tells) in
    all_kept_in (scripts_of c.args.setup.now) n held held [] images (now n) (λ image h. h)
    (subst (λ (r : Rules). AreAmong (now r.number) images) c.in_ok-shelf.ensures.rules given) (c.in_ok-shelf.ensures.keeps rack_tells tells)

pub returns-in-Ok-clause-opened : goal.returns-in-Ok-clause-opened
returns-in-Ok-clause-opened g c =
    let opened = c.in_ok-shelf.ensures in
    record {
      shelf = c.in_ok-shelf.shelf;
      behind = search rules;
      in_order = opened.in_order;
      rules = opened.rules;
      empty = opened.empty;
      own = opened.own;
      keeps = opened.keeps;
      taken = opened.rack;
      asked = opened.asked_all;
      later = opened.later;
      rack_later = opened.rack_later;
    }
