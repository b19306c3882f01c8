-- How states are written: each in one way.
use Rattle.std.specs.Prelude.{ℕ, ◌<◌, ◌^◌, List, [], ◌∷◌, ◌++◌, length, reverse}
use Rattle.script_value.specs.Val.{Val}
use Rattle.script_value.specs.declared.outcome.TxName.{TxName}
use Rattle.wire_bytes.specs.Spelling.{u32_bytes, u64_bytes}
use Rattle.value_bytes.specs.Spelling.{value_bytes, values_bytes, list_bytes, HasBytes, HaveBytes, FitsList}
use Rattle.machine_states.specs.Machine.{Frame, in_binding, in_operand, in_body, in_seq, in_and, in_or, in_if, in_count, in_store, in_turn, in_isolate, in_call, in_task, in_page, in_finish, in_back, Suspended}

-- a part of a node: the node, and its number
abbrev pub part_bytes : (node part : ℕ) → List ℕ
part_bytes n k = u32_bytes n ++ u32_bytes k

-- which part of a Let is worked on, with the values of the bindings that are done; and which part of a call, with the values of the
-- operands that are done, or the variables of the caller
abbrev pub let_bytes : (node part : ℕ) → (done : List Val) → List ℕ
let_bytes n k done = u32_bytes n ++ (u32_bytes k ++ values_bytes done)

-- a turn of so many, with the values of those that are done
abbrev pub turn_bytes : (node turns : ℕ) → (done : List Val) → List ℕ
turn_bytes n turns done = u32_bytes n ++ 1 ∷ (u64_bytes turns ++ values_bytes done)

-- how the name of a transaction is written
abbrev pub name_bytes : TxName → List ℕ
name_bytes name = u64_bytes name.ticket ++ u32_bytes name.entry

-- A frame: a byte for its kind, its node, and which part of the node is worked on; the body of a Let is the part after its
-- bindings, with none of them done, and that of a task the part after the operands of the call. The body of a page has no spelling.
abbrev pub frame_bytes : Frame → List ℕ
frame_bytes (in_binding n done) = 1 ∷ let_bytes n (length done) done
frame_bytes (in_body n bound) = 1 ∷ let_bytes n bound []
frame_bytes (in_seq n k) = 2 ∷ part_bytes n k
frame_bytes (in_if n k) = 3 ∷ (u32_bytes n ++ k ∷ [])
frame_bytes (in_and n k) = 4 ∷ part_bytes n k
frame_bytes (in_or n k) = 5 ∷ part_bytes n k
frame_bytes (in_operand n done) = 6 ∷ (u32_bytes n ++ values_bytes done)
frame_bytes (in_count n) = 7 ∷ (u32_bytes n ++ 0 ∷ [])
frame_bytes (in_turn n turns done) = 7 ∷ turn_bytes n turns done
frame_bytes (in_store n) = 8 ∷ u32_bytes n
frame_bytes (in_isolate n name) = 9 ∷ (u32_bytes n ++ name_bytes name)
frame_bytes (in_call n done) = 10 ∷ let_bytes n (length done) done
frame_bytes (in_task n k outer) = 10 ∷ let_bytes n k outer
frame_bytes (in_page n kind) = []
frame_bytes (in_finish n) = []
frame_bytes (in_back n) = []

-- a binding of a web cell: the cell, and the value
abbrev pub shadow_bytes : ℕ × Val → List ℕ
shadow_bytes s = s.0 ∷ value_bytes s.1

-- A state: its variables, its frames and its bindings of web cells; the outermost variable and the outermost frame first.
abbrev pub state_bytes : Suspended → List ℕ
state_bytes d = values_bytes d.env ++ (list_bytes frame_bytes (reverse d.frames) ++ list_bytes shadow_bytes d.shadows)

-- a number of 32 bits
abbrev pub IsShort : ℕ → Type 0
IsShort n = n < 2 ^ 32

-- a frame has a spelling: each number has its width, and each value a spelling; it is not the body of a page
abbrev pub FrameHasBytes : Frame → Type 0
FrameHasBytes (in_binding n done) = IsShort n × HaveBytes done
FrameHasBytes (in_body n bound) = IsShort n × IsShort bound
FrameHasBytes (in_seq n k) = IsShort n × IsShort k
FrameHasBytes (in_if n k) = IsShort n × (k < 256)
FrameHasBytes (in_and n k) = IsShort n × IsShort k
FrameHasBytes (in_or n k) = IsShort n × IsShort k
FrameHasBytes (in_operand n done) = IsShort n × HaveBytes done
FrameHasBytes (in_count n) = IsShort n
FrameHasBytes (in_turn n turns done) = IsShort n × ((turns < 2 ^ 64) × HaveBytes done)
FrameHasBytes (in_store n) = IsShort n
FrameHasBytes (in_isolate n name) = IsShort n × ((name.ticket < 2 ^ 64) × IsShort name.entry)
FrameHasBytes (in_call n done) = IsShort n × HaveBytes done
FrameHasBytes (in_task n k outer) = IsShort n × (IsShort k × HaveBytes outer)
FrameHasBytes (in_page n kind) = ⊥
FrameHasBytes (in_finish n) = ⊥
FrameHasBytes (in_back n) = ⊥

-- a binding of a web cell has a spelling: the cell's number is a byte, and the value has a spelling
abbrev pub ShadowHasBytes : ℕ × Val → Type 0
ShadowHasBytes s = (s.0 < 256) × HasBytes s.1

-- a state has a spelling
pub record StateHasBytes (d : Suspended) : Type 0 where
  pub env : HaveBytes d.env
  pub frames : FitsList FrameHasBytes (reverse d.frames)
  pub shadows : FitsList ShadowHasBytes d.shadows
