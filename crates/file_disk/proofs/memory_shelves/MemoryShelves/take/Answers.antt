use Rattle.std.proofs.Common.{◌||◌, List, ℕ, Option, Some, not, sym, ◌∙◌, ap}
use Rattle.web_outside.specs.Views.{is_listed}
use Rattle.web_disk.specs.Racks.{has_disk}
use Rattle.web_disk.specs.declared.memory.MemoryDisk.{MemoryDisk}
use Rattle.file_disk.proofs.memory_shelves.MemoryShelves.take.Goals as goal

pub returns-clause-fails_only : goal.returns-clause-fails_only
returns-clause-fails_only c = λ small there none place failed.
    let fails = c.take.ensures.fails_only failed in
    let list = c.make.ensures.failing ∙ none in
    let kept = c.make.ensures.kept c.args.number there place in
    let never = ap (λ (l : List ℕ). is_listed c.make.new.self.rack.takes l || not (has_disk (Some (Some there)))) (sym list) ∙ ap (λ (p : Option (Option MemoryDisk)). is_listed c.make.new.self.rack.takes c.make.new.self.rack.failing.items || not (has_disk p)) (sym kept) ∙ fails in
    cc never
