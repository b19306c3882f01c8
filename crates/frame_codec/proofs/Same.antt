-- What the tests of values and of frames say.
use Rattle.std.proofs.Common.{◌≡◌, ◌==◌, ◌&&◌, ℕ, Bool, true, List, Option, Some, None, refl, ap, subst}
use Rattle.std.specs.Bool.{Decides}
use Rattle.std.specs.Cmp.{unsigned_Decides}
use Rattle.std.specs.Cmp.Lexicographic.{pointwise}
use Rattle.std.proofs.lemmas.Bool.{and_parts, and_from}
use Rattle.std.proofs.lemmas.Slice.Eq.{slice_eq-Decides}
use Rattle.script_value.specs.Val.{Val}
use Rattle.script_nodes.specs.PrimSpec.Same.{same}
use Rattle.script_nodes.proofs.PrimSpec.Tests.{same_decides}
use Rattle.machine_states.specs.ReplaySpec.Names.{is_name}
use Rattle.machine_states.specs.ReplaySpec.Recovery.{is_kind}
use Rattle.machine_states.proofs.ReplaySpec.Tests.{equal_self, kind_means, kind_self, name_means}
use Rattle.machine_states.specs.Machine.{Frame, in_binding, in_operand, in_body, in_seq, in_and, in_or, in_if, in_count, in_store, in_turn, in_isolate, in_call, in_task, in_page, in_finish, in_back}
use Rattle.frame_codec.specs.Difference.{same_frame, is_value}

values_mean : (vs ws : List Val) → pointwise same vs ws ≡ true → vs ≡ ws
values_mean vs ws h = (slice_eq-Decides same_decides vs ws (pointwise same vs ws) refl).0 h

values_self : (vs : List Val) → pointwise same vs vs ≡ true
values_self vs = (slice_eq-Decides same_decides vs vs (pointwise same vs vs) refl).1 refl

number_means : (m n : ℕ) → (m == n) ≡ true → m ≡ n
number_means m n h = (unsigned_Decides m n).0 h

-- a frame of this node, and of what else it has
by_node : {A : Type 0} (f : ℕ → A → Frame) (m n : ℕ) (x y : A) (b : Bool) → (b ≡ true → x ≡ y) → ((m == n) && b) ≡ true → f m x ≡ f n y
by_node f m n x y b means h =
    let both = and_parts (m == n) b h in
    let p = number_means m n both.0 in
    let q = means both.1 in
    λ i. f (p i) (q i)

frame_means : (f g : Frame) → same_frame f g ≡ true → f ≡ g
frame_means (in_binding m vs) (in_binding n ws) h = by_node in_binding m n vs ws (pointwise same vs ws) (values_mean vs ws) h
frame_means (in_operand m vs) (in_operand n ws) h = by_node in_operand m n vs ws (pointwise same vs ws) (values_mean vs ws) h
frame_means (in_body m k) (in_body n l) h = by_node in_body m n k l (k == l) (number_means k l) h
frame_means (in_seq m k) (in_seq n l) h = by_node in_seq m n k l (k == l) (number_means k l) h
frame_means (in_and m k) (in_and n l) h = by_node in_and m n k l (k == l) (number_means k l) h
frame_means (in_or m k) (in_or n l) h = by_node in_or m n k l (k == l) (number_means k l) h
frame_means (in_if m k) (in_if n l) h = by_node in_if m n k l (k == l) (number_means k l) h
frame_means (in_count m) (in_count n) h = ap in_count (number_means m n h)
frame_means (in_store m) (in_store n) h = ap in_store (number_means m n h)
frame_means (in_turn m k vs) (in_turn n l ws) h =
    let two = and_parts (m == n) ((k == l) && pointwise same vs ws) h in
    let more = and_parts (k == l) (pointwise same vs ws) two.1 in
    let node = number_means m n two.0 in
    let turns = number_means k l more.0 in
    let done = values_mean vs ws more.1 in
    λ i. in_turn (node i) (turns i) (done i)
frame_means (in_isolate m s) (in_isolate n t) h = by_node in_isolate m n s t (is_name s t) (name_means s t) h
frame_means (in_call m vs) (in_call n ws) h = by_node in_call m n vs ws (pointwise same vs ws) (values_mean vs ws) h
frame_means (in_task m k vs) (in_task n l ws) h =
    let two = and_parts (m == n) ((k == l) && pointwise same vs ws) h in
    let more = and_parts (k == l) (pointwise same vs ws) two.1 in
    let node = number_means m n two.0 in
    let part = number_means k l more.0 in
    let outer = values_mean vs ws more.1 in
    λ i. in_task (node i) (part i) (outer i)
frame_means (in_page m k) (in_page n l) h = by_node in_page m n k l (is_kind k l) (kind_means k l) h
frame_means (in_finish m) (in_finish n) h = ap in_finish (number_means m n h)
frame_means (in_back m) (in_back n) h = ap in_back (number_means m n h)
frame_means f g h = cc

frame_self : (f : Frame) → same_frame f f ≡ true
frame_self (in_binding n vs) = and_from _ _ (equal_self n) (values_self vs)
frame_self (in_operand n vs) = and_from _ _ (equal_self n) (values_self vs)
frame_self (in_body n k) = and_from _ _ (equal_self n) (equal_self k)
frame_self (in_seq n k) = and_from _ _ (equal_self n) (equal_self k)
frame_self (in_and n k) = and_from _ _ (equal_self n) (equal_self k)
frame_self (in_or n k) = and_from _ _ (equal_self n) (equal_self k)
frame_self (in_if n k) = and_from _ _ (equal_self n) (equal_self k)
frame_self (in_count n) = equal_self n
frame_self (in_store n) = equal_self n
frame_self (in_turn n k vs) = and_from _ _ (equal_self n) (and_from _ _ (equal_self k) (values_self vs))
frame_self (in_isolate n t) = and_from _ _ (equal_self n) (and_from _ _ (equal_self t.ticket) (equal_self t.entry))
frame_self (in_call n vs) = and_from _ _ (equal_self n) (values_self vs)
frame_self (in_task n k vs) = and_from _ _ (equal_self n) (and_from _ _ (equal_self k) (values_self vs))
frame_self (in_page n k) = and_from _ _ (equal_self n) (kind_self k)
frame_self (in_finish n) = equal_self n
frame_self (in_back n) = equal_self n

pub frame_decides : (f g : Frame) → Decides (same_frame f g) (f ≡ g)
frame_decides f g = (frame_means f g, λ e. subst (λ (x : Frame). same_frame f x ≡ true) e (frame_self f))

pub bound_decides : (o : Option Val) (v : Val) → Decides (is_value o v) (o ≡ Some v)
bound_decides None v = (λ h. absurd (cc), λ e. absurd (cc))
bound_decides (Some w) v =
    (λ h. ap (λ (x : Val). Some x) ((same_decides w v).0 h), λ e. let same : w ≡ v = cc in (same_decides w v).1 same)
