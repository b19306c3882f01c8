use Rattle.std.proofs.Common.{sym}
use Rattle.site_serving.proofs.Served.{all_untouched}
use Rattle.site_serving.proofs.serving.give_up.Goals as goal

pub close-disks-requires-clause-own : goal.close-disks-requires-clause-own
close-disks-requires-clause-own g c = λ j p here. (c.requires.first j p here).own

pub returns-clause-untouched : goal.returns-clause-untouched
returns-clause-untouched g c =
    let closed = c.close-disks.ensures in
    all_untouched g.D.Disk.view g.D.Disk.tells g.N.Nonces.nonce c.args.site c.args.passes.items c.args.passes.len c.close-disks.result.0.items c.close-disks.result.1.items
    c.close-disks.result.2.items (record { given = c.requires.given; many = sym c.args.passes.ok.0; first = c.requires.first }) closed.disks closed.nonces closed.histories closed.back closed.told
