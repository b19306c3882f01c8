-- When two states are the same.
use Rattle.std.proofs.Common.{◌≡◌, ◌∙◌, ap, sym, map, reverse}
use Rattle.std.proofs.lemmas.List.{reverse-reverse}
use Rattle.machine_states.specs.Machine as machine
use Rattle.machine_states.specs.Views.{frame_of, suspended_of}
use Rattle.machine_states.specs.declared.frame.Suspended.{Suspended}

-- and the same states have the same frames
pub frames_of_state : (d e : Suspended) → suspended_of d ≡ suspended_of e → map frame_of d.frames.items ≡ map frame_of e.frames.items
frames_of_state d e same =
    sym (reverse-reverse (map frame_of d.frames.items))
    ∙ (ap (λ (x : machine.Suspended). reverse x.frames) same ∙ reverse-reverse (map frame_of e.frames.items))
