use Rattle.std.proofs.Common.{sym, refl}
use Rattle.book_recovery.proofs.Made.{sees_put}
use Rattle.book_recovery.proofs.reader.Reader.see.Goals as goal

pub returns-in-Some-clause-sees : goal.returns-in-Some-clause-sees
returns-in-Some-clause-sees c k =
    sees_put c.in-Some.number k _ c.args.self.now.seen c.args.self.now.seen c.put.new.self c.args.number refl (sym c.in-Some.is) refl c.put.ensures
