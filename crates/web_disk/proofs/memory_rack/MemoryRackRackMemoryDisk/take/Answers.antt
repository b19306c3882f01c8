use Rattle.std.proofs.Common.{rules, false, ◌≡◌, Some, sym, ◌∙◌, subst}
use Rattle.web_outside.specs.Views.{is_listed}
use Rattle.web_disk.specs.Change.{IsImage}
use Rattle.web_disk.specs.Memory.{content_of}
use Rattle.web_disk.specs.Racks.{place_of, disk_in}
use Rattle.web_disk.proofs.Racks.{holds_what_it_may, has_disk_there, goes_well}
use Rattle.web_disk.proofs.memory_rack.MemoryRackRackMemoryDisk.take.Goals as goal

pub returns-in-Ok-clause-images : goal.returns-in-Ok-clause-images
returns-in-Ok-clause-images c = λ image is.
    let disk = c.in-Some.disk in
    let there : Some disk ≡ disk_in (place_of c.args.self.now c.args.number) = sym c.in-Some.is ∙ c.take_out.ensures.taken in
    let same : image ≡ c.begin_anew.new.self.trace.bytes.items = c.in-Ok.ensures.durable image is in
    holds_what_it_may _ disk there image (subst (IsImage (content_of disk.trace)) (sym same) c.in-Ok.ensures.image)

pub returns-in-Ok-clause-fails : goal.returns-in-Ok-clause-fails
returns-in-Ok-clause-fails c = λ failing.
    let there : Some c.in-Some.disk ≡ disk_in (place_of c.args.self.now c.args.number) = sym c.in-Some.is ∙ c.take_out.ensures.taken in
    let not_listed : is_listed c.args.self.now.takes c.args.self.now.failing.items ≡ false = search rules in
    absurd (goes_well _ _ not_listed (has_disk_there _ c.in-Some.disk there) failing)

pub returns-in-Err-clause-fails : goal.returns-in-Err-clause-fails
returns-in-Err-clause-fails c = λ failing.
    let there : Some c.in-Some.disk ≡ disk_in (place_of c.args.self.now c.args.number) = sym c.in-Some.is ∙ c.take_out.ensures.taken in
    let not_listed : is_listed c.args.self.now.takes c.args.self.now.failing.items ≡ false = search rules in
    absurd (goes_well _ _ not_listed (has_disk_there _ c.in-Some.disk there) failing)
