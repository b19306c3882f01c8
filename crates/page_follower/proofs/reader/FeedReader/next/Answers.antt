use Rattle.std.proofs.Common.{rules, ◌≡◌, Err, sym, subst}
use Rattle.page_follower.specs.Reading.{TakesNext}
use Rattle.page_follower.proofs.Records.{no_record, sized}
use Rattle.page_follower.proofs.reader.FeedReader.next.Goals as goal

pub returns-in_err-gather-in-Some-clause-takes : goal.returns-in_err-gather-in-Some-clause-takes
returns-in_err-gather-in-Some-clause-takes g c =
    let is : c.from_residual-in_err-gather-in-Some.result ≡ Err c.in_err-gather-in-Some.field-0.0 = search rules in
    subst (TakesNext _ _ _ _) (sym is)
    (no_record _ _ _ _ _ c.in-Some.size c.in_err-gather-in-Some.field-0.0
    (sized _ _ _ _ c.in-Some.size c.in_ok-size.field-0 c.in_ok-size.ensures.sizes c.in-Some.is) c.size.new.self.within c.in_err-gather-in-Some.ensures.gathers)
