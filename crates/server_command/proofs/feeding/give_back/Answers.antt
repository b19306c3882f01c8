use Rattle.std.proofs.Common.{arith}
use Rattle.server_command.proofs.Openings.{both_tell}
use Rattle.server_command.proofs.feeding.give_back.Goals as goal

pub returns : goal.returns
returns g c =
    let p = c.give_trio.ensures in
    record {
      gives = record {
        home = p.home;
        leaves = record { others_out = p.others_out; others = p.others; disks = p.other_disks; failed = omega (arith, p.counted_whole); others_failed = p.others_counted };
      };
      left = λ t. p.images (both_tell _ _ t).0 (both_tell _ _ t).1;
      counted = p.counted_whole;
      counts = p.faults;
      asked = p.asked;
      later = omega (arith, p.faults, c.faults-count.ensures, c.faults-count.type_inv);
    }
