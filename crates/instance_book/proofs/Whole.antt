-- A front of a state that is longer than what is found is all of it.
use Rattle.std.proofs.Common.{◌≡◌, ◌∙◌, ap, sym, ◌<◌, ◌≤◌, List, length, take, reverse, map, arith}
use Rattle.std.proofs.lemmas.List.{length-take, length-map, length-reverse, reverse-reverse, take_all}
use Rattle.script_value.specs.Val.{Val}
use Rattle.kept_states.specs.MachineStates.Machine.{Frame, Suspended}
use Rattle.kept_states.specs.MachineStates.declared.frame.Suspended as stored
use Rattle.kept_states.specs.MachineStates.Views.{frame_of, suspended_of}
use Rattle.kept_states.specs.FrameCodec.Fronts.{front}
use Rattle.kept_states.specs.FrameCodec.declared.need.Need.{Need}

all_of_it : (n : Need) (d e : Suspended) → front n d ≡ e → length e.env < n.variables → length e.frames < n.frames → d ≡ e
all_of_it n d e is few less =
    let env : take n.variables d.env ≡ e.env = ap (λ (x : Suspended). x.env) is in
    let frames : reverse (take n.frames (reverse d.frames)) ≡ e.frames = ap (λ (x : Suspended). x.frames) is in
    let short : length d.env ≤ n.variables = omega (arith, few, ap (λ (l : List Val). length l) env, length-take n.variables d.env) in
    let brief : length (reverse d.frames) ≤ n.frames =
    omega (arith, less, ap (λ (l : List Frame). length l) frames, length-reverse (take n.frames (reverse d.frames)), length-take n.frames (reverse d.frames)) in
    let whole : d.frames ≡ e.frames =
    sym (reverse-reverse d.frames) ∙ ap (λ (l : List Frame). reverse l) (sym (take_all n.frames (reverse d.frames) brief)) ∙ frames in
    let all : d.env ≡ e.env = sym (take_all n.variables d.env short) ∙ env in
    λ i. record { env = all i; frames = whole i; shadows = (is i).shadows }

pub is_whole : (n : Need) (d : Suspended) (e : stored.Suspended) → front n d ≡ suspended_of e → length e.env < n.variables → length e.frames.items < n.frames
    → d ≡ suspended_of e
is_whole n d e is few less =
    all_of_it n d (suspended_of e) is few (omega (arith, less, length-reverse (map frame_of e.frames.items), length-map e.frames.items frame_of))
