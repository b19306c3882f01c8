use Rattle.page_follower.proofs.Moments.{first_records_are_found}
use Rattle.page_follower.proofs.first_records_are_found.Goals as goal

pub returns : goal.returns
returns c = first_records_are_found
