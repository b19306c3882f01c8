-- What differs between a page's state and its parent's, as a function; and what bytes say of it.
use Rattle.std.specs.Prelude.{◌≡◌, ◌↔◌, ℕ, suc, ◌==◌, ◌&&◌, ◌^◌, Bool, false, List, [], ◌∷◌, ◌++◌, length, reverse, Option, Some, None, nat_lt, if◌then◌else◌}
use Rattle.std.specs.Cmp.Lexicographic.{pointwise}
use Rattle.std.specs.Str.{bytes_eq}
use Rattle.script_value.specs.Val.{Val}
use Rattle.script_nodes.specs.PrimSpec.Same.{same}
use Rattle.web_cells.specs.Shadows.{binding}
use Rattle.web_cells.specs.Own.{BindsAllOf}
use Rattle.script_nodes.specs.Arena.{Arena}
use Rattle.value_bytes.specs.Laws.{AreBytes}
use Rattle.machine_states.specs.ReplaySpec.Names.{is_name}
use Rattle.machine_states.specs.ReplaySpec.Recovery.{is_kind}
use Rattle.machine_states.specs.Machine.{Frame, in_binding, in_operand, in_body, in_seq, in_and, in_or, in_if, in_count, in_store, in_turn, in_isolate, in_call, in_task, in_page, in_finish, in_back, Suspended}
use Rattle.frame_codec.specs.Walk.{frames_fit, shadows_fit}
use Rattle.frame_codec.specs.Stored.{IsStored}
use Rattle.frame_codec.specs.Deltas.{Delta, IsDelta, GoesOnFrom, joined, delta_bytes, read_delta, SpellsDelta}

-- whether two frames are the same
abbrev pub same_frame : Frame → Frame → Bool
same_frame (in_binding m vs) (in_binding n ws) = m == n && pointwise same vs ws
same_frame (in_operand m vs) (in_operand n ws) = m == n && pointwise same vs ws
same_frame (in_body m k) (in_body n l) = m == n && k == l
same_frame (in_seq m k) (in_seq n l) = m == n && k == l
same_frame (in_and m k) (in_and n l) = m == n && k == l
same_frame (in_or m k) (in_or n l) = m == n && k == l
same_frame (in_if m k) (in_if n l) = m == n && k == l
same_frame (in_count m) (in_count n) = m == n
same_frame (in_store m) (in_store n) = m == n
same_frame (in_turn m k vs) (in_turn n l ws) = m == n && (k == l && pointwise same vs ws)
same_frame (in_isolate m s) (in_isolate n t) = m == n && is_name s t
same_frame (in_call m vs) (in_call n ws) = m == n && pointwise same vs ws
same_frame (in_task m k vs) (in_task n l ws) = m == n && (k == l && pointwise same vs ws)
same_frame (in_page m k) (in_page n l) = m == n && is_kind k l
same_frame (in_finish m) (in_finish n) = m == n
same_frame (in_back m) (in_back n) = m == n
same_frame _ _ = false

-- a shared front that is one item longer, and the rest as it was
abbrev pub one_longer : {A : Type 0} → ℕ × List A → ℕ × List A
one_longer x = (suc x.0, x.1)

-- how long the longest front is that two lists share, and the rest of the second
abbrev pub shared_by : {A : Type 0} → (A → A → Bool) → (xs ys : List A) → ℕ × List A
shared_by test [] ys = (0, ys)
shared_by test (x ∷ xs) [] = (0, [])
shared_by test (x ∷ xs) (y ∷ ys) = if test x y then one_longer (shared_by test xs ys) else (0, y ∷ ys)

-- whether a web cell is bound to this value
abbrev pub is_value : Option Val → Val → Bool
is_value None v = false
is_value (Some w) v = same w v

-- the bindings of web cells that the parent has not, or has with another value, in their order
abbrev pub own_of : (parent child : List (ℕ × Val)) → List (ℕ × Val)
own_of p [] = []
own_of p (s ∷ ss) = if is_value (binding s.0 p) s.1 then own_of p ss else s ∷ own_of p ss

-- what differs between a state and its parent's
abbrev pub difference : (parent d : Suspended) → Delta
difference p d =
    let env = shared_by same p.env d.env in
    let frames = shared_by same_frame (reverse p.frames) (reverse d.frames) in
    record { env_shared = env.0; env = env.1; frames_shared = frames.0; frames = frames.1; shadows = own_of p.shadows d.shadows }

-- The computed difference is what differs, and nothing else is; and the parent's state with it is the state again.
pub record DifferencesAreComputed : Type 0 where
  pub one : (p d : Suspended) (x : Delta) → IsDelta p d x ↔ (x ≡ difference p d)
  pub back : (p d : Suspended) → GoesOnFrom p d → joined p (difference p d) ≡ d

-- ---- how it is read

-- a list can be counted in 32 bits
abbrev pub is_short_list : {A : Type 0} → List A → Bool
is_short_list xs = nat_lt (length xs) (2 ^ 32)

-- a state fits the script, with its bindings, and each of its lists can be counted
abbrev pub fits_short : Arena → Suspended → Bool
fits_short a d =
    frames_fit a d.env (reverse d.frames) && (shadows_fit 0 (length a.web) d.shadows
    && (is_short_list d.env && (is_short_list d.frames && is_short_list d.shadows)))

-- the state that a difference makes of the parent's fits the script, and differs from it as these bytes spell
abbrev pub is_difference : Arena → (parent : Suspended) → List ℕ → Delta → Bool
is_difference a p bytes x =
    fits_short a (joined p x) && bytes_eq (delta_bytes (difference p (joined p x))) bytes

-- a delta from this state, where it is one that would be written in these bytes
abbrev pub if_difference : Arena → (parent : Suspended) → List ℕ → Option Delta → Option Delta
if_difference a p bytes None = None
if_difference a p bytes (Some x) = if is_difference a p bytes x then Some x else None

-- the difference that these bytes spell, of a state that fits the script; none where there is none
abbrev pub read_difference : Arena → (parent : Suspended) → List ℕ → Option Delta
read_difference a p bytes = if_difference a p bytes (read_delta a bytes)

-- no state that fits the script differs from its parent's as these bytes spell
abbrev pub NoneDiffersSo : Arena → (parent : Suspended) → List ℕ → Type 0
NoneDiffersSo a p bytes = (d : Suspended) → IsStored a d → ¬ (bytes ≡ delta_bytes (difference p d))

-- From a parent's state that fits: what is written of a state that binds what its parent binds is read back; what is read is spelled
-- so, of a state that fits; where nothing is read no state has these bytes; and no spelling is the front of another one.
pub record AreDifferencesExact (a : Arena) (p : Suspended) : Type 0 where
  pub back : (d : Suspended) → IsStored a d → BindsAllOf p.shadows d.shadows → read_difference a p (delta_bytes (difference p d)) ≡ Some (difference p d)
  pub exact : (bytes : List ℕ) (x : Delta) → AreBytes bytes → read_difference a p bytes ≡ Some x → SpellsDelta a p bytes x
  pub none : (bytes : List ℕ) → read_difference a p bytes ≡ None → NoneDiffersSo a p bytes
  pub prefix :
      (d e : Suspended) (rest : List ℕ) → IsStored a d → IsStored a e → delta_bytes (difference p d) ++ rest ≡ delta_bytes (difference p e)
      → (difference p d ≡ difference p e) × (rest ≡ [])

-- a state that is written as the delta from a state which fits is read back, and each delta has one spelling
abbrev pub DifferencesAreExact : Type 0
DifferencesAreExact = (a : Arena) (p : Suspended) → IsStored a p → AreDifferencesExact a p
