use Rattle.std.proofs.Common.{rules, ◌≡◌, ℕ, Bool, take, length, if◌then◌else◌, sym, ◌∙◌, ap}
use Rattle.web_disk.specs.Wrecks.{sound_end, end_of}
use Rattle.web_disk.proofs.Wrecks.{front_is_left}
use Rattle.web_disk.proofs.wreck.Wreck.leave.Goals as goal

pub returns-then-self : goal.returns-then-self
returns-then-self c =
    let wreck = c.args.self.now in
    let touched = c.args.touched.now in
    let old = c.args.bytes.now.items in
    let front : c.truncate.new.self.items ≡ take c.sound_end-end.result c.fill.new.bytes.items = search rules in
    let len : c.len.result ≡ length old = search rules in
    let short : end_of wreck touched (length old) ≡ sound_end wreck touched (length old) = ap (λ (b : Bool). if b then sound_end wreck touched (length old) else length old) c.if-self.true in
    let end : c.sound_end-end.result ≡ end_of wreck touched (length old) = c.sound_end-end.ensures ∙ ap (λ (n : ℕ). sound_end wreck touched n) len ∙ sym short in
    front_is_left wreck touched old c.fill.new.bytes.items _ c.fill.ensures (front ∙ ap (λ (n : ℕ). take n c.fill.new.bytes.items) end)
