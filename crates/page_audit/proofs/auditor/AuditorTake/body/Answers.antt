use Rattle.std.proofs.Common.{◌+◌, ◌∙◌, sym, subst, refl}
use Rattle.book_recovery.specs.declared.reader.Reader.{Reader}
use Rattle.book_recovery.specs.Reading.{HasFew}
use Rattle.page_audit.proofs.Going.{one_audited, one_ready}
use Rattle.page_audit.proofs.auditor.AuditorTake.body.Goals as goal

pub body-requires-clause-ready : goal.body-requires-clause-ready
body-requires-clause-ready c =
    subst (λ (r : Reader). HasFew c.args.place r.found) (sym (c.look.ensures.reader ∙ c.begin.ensures.same.1)) c.requires.ready.few

pub returns-clause-takes : goal.returns-clause-takes
returns-clause-takes c =
    one_audited c.args.self.now c.begin.new.self c.look.new.self
    (record { alloc = c.look.new.self.alloc; format = c.look.new.self.format; reader = c.body.new.self; records = c.look.new.self.records + 1; finding = c.look.new.self.finding })
    c.args.place c.args.body.now c.requires.ready c.begin.ensures c.look.ensures c.body.ensures.takes refl refl refl

pub returns-clause-ready : goal.returns-clause-ready
returns-clause-ready c =
    one_ready c.args.self.now c.begin.new.self c.look.new.self
    (record { alloc = c.look.new.self.alloc; format = c.look.new.self.format; reader = c.body.new.self; records = c.look.new.self.records + 1; finding = c.look.new.self.finding })
    c.args.place c.args.body.now c.requires.ready c.begin.ensures c.look.ensures c.body.ensures.takes refl refl refl c.body.ensures.ready
