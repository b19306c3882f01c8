-- How states are read.
use Rattle.std.specs.Prelude.{ℕ, ◌==◌, ◌&&◌, List, [], ◌∷◌, length, reverse, Option, Some, None, if◌then◌else◌}
use Rattle.script_value.specs.Val.{Val}
use Rattle.script_value.specs.Pieces.{◌>>=◌}
use Rattle.script_value.specs.declared.outcome.TxName.{TxName}
use Rattle.script_nodes.specs.Arena.{Arena}
use Rattle.wire_bytes.specs.Reading.{read_u8, read_u32, read_u64}
use Rattle.value_bytes.specs.Reading.{Reader, seen_as, read_several, read_list, read_value, read_values}
use Rattle.machine_states.specs.Machine.{Frame, in_binding, in_operand, in_body, in_seq, in_and, in_or, in_if, in_count, in_store, in_turn, in_isolate, in_call, in_task, bindings_in, node_at, Suspended}
use Rattle.frame_codec.specs.Walk.{operands_in, frames_fit, shadows_fit}

-- reads two things, one after the other
abbrev pub read_both : {A B : Type 0} → Reader A → Reader B → Reader (A × B)
read_both first second bytes = do
  x ← first bytes
  y ← second x.1
  Some ((x.0, y.0), y.1)

-- how many bindings a node has; 0 where it is no Let
abbrev pub bindings_of : Arena → ℕ → ℕ
bindings_of a n = length (bindings_in (node_at a n))

-- the frame of a Let's body, where no value is given for a binding that is done
abbrev pub body_frame : (node bound : ℕ) → (done : List Val) → Option Frame
body_frame n bound [] = Some (in_body n bound)
body_frame n bound (v ∷ vs) = None

-- the frame of a Let of so many bindings
abbrev pub let_frame : (bindings node part : ℕ) → (done : List Val) → Option Frame
let_frame count n k done =
    if k == count then body_frame n k done else (if k == length done then Some (in_binding n done) else None)

-- the frame of a `let`, with the values that are bound so far
abbrev pub read_let : Arena → Reader Frame
read_let a bytes = do
  x ← read_both read_u32 (read_both read_u32 read_values) bytes
  f ← let_frame (bindings_of a x.0.0) x.0.0 x.0.1.0 x.0.1.1
  Some (f, x.1)

-- the node of a frame and the number of its part
abbrev pub read_part : Reader (ℕ × ℕ)
read_part bytes = read_both read_u32 read_u32 bytes

-- the frame of a For, by whether a turn is worked on or the count
abbrev pub read_for_kind : (node kind : ℕ) → Reader Frame
read_for_kind n kind rest =
    if kind == 0 then Some (in_count n, rest) else
    (if kind == 1 then seen_as (λ x. in_turn n x.0 x.1) (read_both read_u64 read_values rest) else None)

-- the frame of a `for/list`, which waits for its count or for a turn
abbrev pub read_for : Reader Frame
read_for bytes = do
  x ← read_both read_u32 read_u8 bytes
  read_for_kind x.0.0 x.0.1 x.1

-- the name of a transaction, by its ticket and its entry
abbrev pub name_of : ℕ × ℕ → TxName
name_of x = record { ticket = x.0; entry = x.1 }

-- the frame of a transaction, with its name
abbrev pub read_isolate : Reader Frame
read_isolate bytes = seen_as (λ x. in_isolate x.0 (name_of x.1)) (read_both read_u32 (read_both read_u64 read_u32) bytes)

-- how many operands a call has; 0 where a node is none
abbrev pub operands_of : Arena → ℕ → ℕ
operands_of a n = length (operands_in (node_at a n))

-- the frame of a call of so many operands
abbrev pub call_frame : (operands node part : ℕ) → List Val → Option Frame
call_frame count n k values =
    if k == count then Some (in_task n k values) else (if k == length values then Some (in_call n values) else None)

-- a frame of a call
abbrev pub read_call : Arena → Reader Frame
read_call a bytes = do
  x ← read_both read_u32 (read_both read_u32 read_values) bytes
  f ← call_frame (operands_of a x.0.0) x.0.0 x.0.1.0 x.0.1.1
  Some (f, x.1)

-- a frame of this kind
abbrev pub read_kind : Arena → ℕ → Reader Frame
read_kind a kind rest =
    if kind == 1 then read_let a rest else
    (if kind == 2 then seen_as (λ x. in_seq x.0 x.1) (read_part rest) else
    (if kind == 3 then seen_as (λ x. in_if x.0 x.1) (read_both read_u32 read_u8 rest) else
    (if kind == 4 then seen_as (λ x. in_and x.0 x.1) (read_part rest) else
    (if kind == 5 then seen_as (λ x. in_or x.0 x.1) (read_part rest) else
    (if kind == 6 then seen_as (λ x. in_operand x.0 x.1) (read_both read_u32 read_values rest) else
    (if kind == 7 then read_for rest else
    (if kind == 8 then seen_as (λ n. in_store n) (read_u32 rest) else
    (if kind == 9 then read_isolate rest else
    (if kind == 10 then read_call a rest else None)))))))))

-- a frame
abbrev pub read_frame : Arena → Reader Frame
read_frame a [] = None
read_frame a (kind ∷ rest) = read_kind a kind rest

-- reads so many frames, one after the other
abbrev pub read_frames_of : Arena → (count : ℕ) → Reader (List Frame)
read_frames_of a count bytes = read_several (read_frame a) count bytes

-- a list of frames
abbrev pub read_frames : Arena → Reader (List Frame)
read_frames a bytes = read_list (read_frame a) bytes

-- a binding of a web cell
abbrev pub read_shadow : Reader (ℕ × Val)
read_shadow bytes = read_both read_u8 read_value bytes

-- a list of bindings
abbrev pub read_shadows : Reader (List (ℕ × Val))
read_shadows bytes = read_list read_shadow bytes

-- the variables, the frames and the bindings of a state
abbrev pub read_parts : Arena → Reader (List Val × (List Frame × List (ℕ × Val)))
read_parts a bytes = read_both read_values (read_both (read_list (read_frame a)) (read_list read_shadow)) bytes

-- the state of these parts, where it fits the script and no bytes stand after them
abbrev pub fitting : Arena → Option ((List Val × (List Frame × List (ℕ × Val))) × List ℕ) → Option Suspended
fitting a None = None
fitting a (Some (x, [])) =
    if frames_fit a x.0 x.1.0 && shadows_fit 0 (length a.web) x.1.1
    then Some (record { env = x.0; frames = reverse x.1.0; shadows = x.1.1 }) else None
fitting a (Some (x, b ∷ rest)) = None

-- the state that these bytes spell, and that fits the script; none where there is none
abbrev pub read_state : Arena → List ℕ → Option Suspended
read_state a bytes = fitting a (read_parts a bytes)
