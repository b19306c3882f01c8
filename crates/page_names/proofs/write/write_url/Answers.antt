-- The URL is the page's spelling, so it names the page.
use Rattle.std.proofs.Common.{◌≡◌, arith}
use Rattle.std.proofs.lemmas.Grind.{common_steps}
use Rattle.page_names.specs.Names.{spelling, page, IsPageName}
use Rattle.page_names.specs.Views.{name_of}
use Rattle.page_names.proofs.Plain.{url_named}
use Rattle.page_names.proofs.write.write_url.Goals as goal

pub returns-clause-read_back : goal.returns-clause-read_back
returns-clause-read_back c =
    let spelled : c.new.result ≡ spelling (page (name_of c.args.name.now) c.args.numbers) = grind (arith, common_steps) in
    let fits : IsPageName c.args.numbers = record { shelf = omega arith; instance = omega arith; page = omega arith; nonce = omega arith } in
    url_named c.new.result (name_of c.args.name.now) c.args.numbers spelled c.args.name.now.named fits
