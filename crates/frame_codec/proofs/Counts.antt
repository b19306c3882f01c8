-- Lists whose count no fewer bytes stand after are none.
use Rattle.std.proofs.Common.{◌≡◌, ℕ, List, None, arith}
use Rattle.script_nodes.specs.Arena.{Arena}
use Rattle.wire_bytes.specs.Reading.{AreBytes, read_count}
use Rattle.value_bytes.proofs.Counts.{HasByte, no_list}
use Rattle.machine_states.specs.Machine.{in_binding, in_operand, in_body, in_seq, in_and, in_or, in_if, in_count, in_store, in_turn, in_isolate, in_call, in_task, in_page, in_finish, in_back}
use Rattle.frame_codec.specs.Spelling.{frame_bytes, shadow_bytes, ShadowHasBytes}
use Rattle.frame_codec.specs.Reading.{read_frame, read_frames, read_shadow, read_shadows}
use Rattle.frame_codec.proofs.Frames.{IsRead, frame_exact, shadow_exact}

frame_has_byte : (a : Arena) → HasByte frame_bytes (IsRead a)
frame_has_byte a (in_binding n done) fit = omega arith
frame_has_byte a (in_body n bound) fit = omega arith
frame_has_byte a (in_seq n k) fit = omega arith
frame_has_byte a (in_if n k) fit = omega arith
frame_has_byte a (in_and n k) fit = omega arith
frame_has_byte a (in_or n k) fit = omega arith
frame_has_byte a (in_operand n done) fit = omega arith
frame_has_byte a (in_count n) fit = omega arith
frame_has_byte a (in_turn n turns done) fit = omega arith
frame_has_byte a (in_store n) fit = omega arith
frame_has_byte a (in_isolate n name) fit = omega arith
frame_has_byte a (in_call n done) fit = omega arith
frame_has_byte a (in_task n k outer) fit = omega arith
frame_has_byte a (in_page n kind) fit = absurd fit.0
frame_has_byte a (in_finish n) fit = absurd fit.0
frame_has_byte a (in_back n) fit = absurd fit.0

shadow_has_byte : HasByte shadow_bytes ShadowHasBytes
shadow_has_byte s fit = omega arith

pub no_frames : (a : Arena) (bytes : List ℕ) → AreBytes bytes → read_count bytes ≡ None → read_frames a bytes ≡ None
no_frames a = no_list frame_bytes (IsRead a) (read_frame a) (frame_exact a) (frame_has_byte a)

pub no_shadows : (bytes : List ℕ) → AreBytes bytes → read_count bytes ≡ None → read_shadows bytes ≡ None
no_shadows = no_list shadow_bytes ShadowHasBytes read_shadow shadow_exact shadow_has_byte
