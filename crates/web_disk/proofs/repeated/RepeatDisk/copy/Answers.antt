use Rattle.std.proofs.Common.{rules, ◌≡◌, ◌∙◌, ℕ, length, take, drop, ap, arith}
use Rattle.web_disk.specs.Repeated.{bytes_of}
use Rattle.web_disk.proofs.Repeats.{bytes_length, copied}
use Rattle.web_disk.proofs.repeated.RepeatDisk.copy.Goals as goal

pub returns : goal.returns
returns c =
    let disk = c.args.self.now in
    let long : length c.loop-i.buf ≡ length c.args.buf.now = search rules in
    copied c.loop-i.buf (bytes_of disk) c.args.place (omega (arith, long, bytes_length disk, c.requires)) (λ k lt. c.loop-i.invariant k (omega (arith, lt, long)))
    ∙ ap (λ (n : ℕ). take n (drop c.args.place (bytes_of disk))) long
