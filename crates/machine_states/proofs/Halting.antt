-- Where a machine stops, if its nodes are such that it does.
use Rattle.std.proofs.Common.{◌≡◌, length, Option, Some, None, Bool, true, false, refl}
use Rattle.script_nodes.specs.Arena.{Arena, IsScript}
use Rattle.replay_spec.specs.Tape.{Tape}
use Rattle.machine_states.specs.Laws.{started, Stops}
use Rattle.machine_states.proofs.Ends.{is_within, most, nodes_stop, script_within}

abbrev ends_within : Arena → Bool
ends_within a = is_within (most (length a.nodes) (length a.tasks)) a 0

by_test : (a : Arena) (t : Tape) (b : Bool) → ends_within a ≡ b → Option (Stops a (started a t))
by_test a t true e = Some (nodes_stop a e t)
by_test a t false e = None

-- where the machine stops that begins over the tape; none where some way from its first node is too long
pub stop_over : (a : Arena) (t : Tape) → Option (Stops a (started a t))
stop_over a t = by_test a t (ends_within a) refl

found : (a : Arena) (t : Tape) (b : Bool) (e : ends_within a ≡ b) → b ≡ true → (s : Stops a (started a t)) × (by_test a t b e ≡ Some s)
unfolding by_test
found a t true e h = (nodes_stop a e t, refl)
found a t false e h = absurd (let no : ⊥ = cc in no)

-- a script's machine stops
pub script_stop : (a : Arena) → IsScript a → (t : Tape) → (s : Stops a (started a t)) × (stop_over a t ≡ Some s)
unfolding stop_over
script_stop a i t = found a t (ends_within a) refl (script_within a i)
