-- Frames that are pushed and popped.
use Rattle.std.proofs.Common.{◌≡◌, List, [], ◌∷◌, ◌++◌, map, reverse, ap, ◌∙◌}
use Rattle.std.proofs.lemmas.List.{reverse-append, map-append}
use Rattle.machine_states.specs.declared.frame.Frame.{Frame}
use Rattle.machine_states.specs.Machine.{inside_of}
use Rattle.machine_states.specs.Views.{frame_of, stack}

pub stack_push : (fs : List Frame) (f : Frame) → stack (fs ++ f ∷ []) ≡ frame_of f ∷ stack fs
stack_push fs f = ap reverse (map-append frame_of fs (f ∷ [])) ∙ reverse-append (map frame_of fs) (frame_of f ∷ [])

pub inside_push : (fs : List Frame) (f : Frame) → inside_of (stack (fs ++ f ∷ [])) ≡ inside_of (frame_of f ∷ stack fs)
inside_push fs f = ap inside_of (stack_push fs f)
