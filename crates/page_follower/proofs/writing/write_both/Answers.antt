use Rattle.std.proofs.Common.{refl}
use Rattle.page_follower.proofs.Texts.{whole_then, part_then, part_alone}
use Rattle.page_follower.proofs.writing.write_both.Goals as goal

pub returns-in_err-write_all-clause-part : goal.returns-in_err-write_all-clause-part
returns-in_err-write_all-clause-part g c = part_alone _ _ c.args.first.now _ c.args.second.now refl c.in_err-write_all.ensures.part

pub returns-clause-ok : goal.returns-clause-ok
returns-clause-ok g c =
    whole_then _ _ _ c.args.first.now _ c.args.second.now c.write_all-2.result refl c.in_ok-write_all.ensures.ok c.write_all-2.ensures.ok

pub returns-clause-part : goal.returns-clause-part
returns-clause-part g c = part_then _ _ _ c.args.first.now _ c.args.second.now refl c.in_ok-write_all.ensures.ok c.write_all-2.ensures.part
