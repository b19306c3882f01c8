use Rattle.std.proofs.Common.{codes, ap, append-nil}
use Rattle.http_forms.specs.Reply.{message, page_message}
use Rattle.http_forms.specs.declared.status.Status.TheVariants.{Ok}
use Rattle.http_forms.proofs.Writing.{writes_as}
use Rattle.http_forms.proofs.reply.write_page.Goals as goal

pub returns : goal.returns
returns g c =
    writes_as _ _ _ _ (page_message c.args.closes c.args.page.now) _ _ (ap (message Ok c.args.closes (codes "text/html")) (append-nil c.args.page.now)) c.write_message.ensures
