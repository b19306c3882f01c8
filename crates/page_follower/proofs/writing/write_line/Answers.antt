use Rattle.std.proofs.Common.{◌++◌, ◌∙◌, ap, codes, refl, subst}
use Rattle.shelf.specs.WebOutside.Pieces.{AppendsPart}
use Rattle.page_follower.proofs.Texts.{whole_as, whole_then, part_then, part_alone}
use Rattle.page_follower.proofs.writing.write_line.Goals as goal

pub returns-in_err-write_all-clause-part : goal.returns-in_err-write_all-clause-part
returns-in_err-write_all-clause-part g c = part_alone _ _ (codes "ack ") _ _ refl c.in_err-write_all.ensures.part

pub returns-clause-ok : goal.returns-clause-ok
returns-clause-ok g c =
    whole_then _ _ _ (codes "ack ") _ _ c.write_both.result refl c.in_ok-write_all.ensures.ok
    (whole_as _ _ _ _ c.write_both.result (ap (λ l. l ++ codes "\n") (c.as_bytes.ensures.value ∙ c.format.ensures.text)) c.write_both.ensures.ok)

pub returns-clause-part : goal.returns-clause-part
returns-clause-part g c =
    part_then _ _ _ (codes "ack ") _ _ refl c.in_ok-write_all.ensures.ok
    (subst (AppendsPart _ _) (ap (λ l. l ++ codes "\n") (c.as_bytes.ensures.value ∙ c.format.ensures.text)) c.write_both.ensures.part)
