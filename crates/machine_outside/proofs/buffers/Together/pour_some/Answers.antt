use Rattle.std.proofs.KnownBytes.{append_known-moved}
use Rattle.machine_outside.proofs.KeptBytes.{split_copy}
use Rattle.machine_outside.proofs.buffers.Together.pour_some.Goals as goal

-- the front of what was kept is in the sink, and the rest is kept
pub returns-clause-same : goal.returns-clause-same
returns-clause-same g c =
    let s = c.args.self.now in
    append_known-moved _ _ _ _ _ c.in_ok-self.ensures.bytes (split_copy c.in_ok-self.field-0 s.start s.bytes.items c.deref.result.now c.deref.ensures.value)
