use Rattle.std.proofs.Common.{rules, ◌≡◌, Err, sym, subst}
use Rattle.page_follower.specs.Reading.{Compares}
use Rattle.page_follower.proofs.Records.{no_record, sized}
use Rattle.page_follower.proofs.reader.FeedReader.compare.Goals as goal

pub returns-in_err-matches-clause-compares : goal.returns-in_err-matches-clause-compares
returns-in_err-matches-clause-compares g c =
    let is : c.from_residual-in_err-matches.result ≡ Err c.in_err-matches.field-0.0 = search rules in
    subst (Compares _ _ _ _ _) (sym is)
    (no_record _ _ _ _ _ c.in-Some.size c.in_err-matches.field-0.0
    (sized _ _ _ _ c.in-Some.size c.in_ok-size.field-0 c.in_ok-size.ensures.sizes c.in-Some.is) c.size.new.self.within c.in_err-matches.ensures.matches)
