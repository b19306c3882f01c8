-- Frames and bindings of web cells are spelled exactly.
use Rattle.std.proofs.Common.{◌≡◌, ℕ, ◌<◌, ◌^◌, ◌==◌, true, false, if◌then◌else◌, List, [], ◌∷◌, ◌++◌, length, get_or, Option, Some, None, refl, sym, ap, subst, ◌∙◌, arith, append_assoc, inl, inr, lit<}
use Rattle.std.specs.Prelude.{⊤}
use Rattle.std.proofs.lemmas.Bool.Decides.{nat_tests}
use Rattle.std.proofs.lemmas.Option.{some_pair_parts, none-some}
use Rattle.std.proofs.lemmas.Bool.{cond-true, cond-false}
use Rattle.script_value.specs.Val.{Val}
use Rattle.script_value.specs.Pieces.{◌>>=◌}
use Rattle.script_nodes.specs.declared.script.Node.{Node}
use Rattle.script_nodes.specs.Arena.{Arena}
use Rattle.wire_bytes.specs.Spelling.{u32_bytes, u64_bytes}
use Rattle.wire_bytes.specs.Reading.{read_u8, read_u32, read_u64}
use Rattle.value_bytes.specs.Spelling.{value_bytes, values_bytes, HasBytes, HaveBytes, most_levels}
use Rattle.value_bytes.specs.Reading.{Reader, seen_as, read_value, read_values}
use Rattle.value_bytes.specs.Laws.{AreBytes, Spells, IsExact}
use Rattle.value_bytes.proofs.Numbers.{bind_some, seen_some, rest_are_bytes, tail_are_bytes, byte_exact, u32_exact, u64_exact}
use Rattle.value_bytes.proofs.Lists.{list_exact}
use Rattle.value_bytes.proofs.Trees.{value_exact, chosen}
use Rattle.machine_states.specs.Machine.{Frame, in_binding, in_operand, in_body, in_seq, in_and, in_or, in_if, in_count, in_store, in_turn, in_isolate, in_call, in_task, in_page, in_finish, in_back, bindings_in, node_at}
use Rattle.machine_states.specs.Fits.{node_of}
use Rattle.frame_codec.specs.Spelling.{frame_bytes, let_bytes, shadow_bytes, IsShort, FrameHasBytes, ShadowHasBytes}
use Rattle.frame_codec.specs.Walk.{operands_in}
use Rattle.frame_codec.specs.Reading.{read_both, bindings_of, operands_of, body_frame, let_frame, call_frame, read_let, read_call, read_part, read_for_kind, read_for, name_of, read_kind, read_frame, read_shadow}

-- ---- one after the other

abbrev pub both_bytes : {A B : Type 0} → (A → List ℕ) → (B → List ℕ) → A × B → List ℕ
both_bytes s t x = s x.0 ++ t x.1

abbrev pub BothFit : {A B : Type 0} → (A → Type 0) → (B → Type 0) → A × B → Type 0
BothFit P Q x = P x.0 × Q x.1

both_back : {A B : Type 0} (s : A → List ℕ) (f : A → Type 0) (r : Reader A) (t : B → List ℕ) (g : B → Type 0) (q : Reader B)
    → IsExact s f r → IsExact t g q → (x : A × B) (rest : List ℕ) → BothFit f g x → read_both r q (both_bytes s t x ++ rest) ≡ Some (x, rest)
both_back s f r t g q first second x rest fit =
    ap (λ (b : List ℕ). read_both r q b) (append_assoc (s x.0) (t x.1) rest)
    ∙ ap (λ o. o >>= λ y. (q y.1 >>= λ z. Some ((y.0, z.0), z.1))) (first.back x.0 (t x.1 ++ rest) fit.0)
    ∙ ap (λ o. o >>= λ z. Some ((x.0, z.0), z.1)) (second.back x.1 rest fit.1)

both_spells : {A B : Type 0} (s : A → List ℕ) (f : A → Type 0) (r : Reader A) (t : B → List ℕ) (g : B → Type 0) (q : Reader B)
    → IsExact s f r → IsExact t g q → (bytes : List ℕ) (x : A × B) (rest : List ℕ) → AreBytes bytes → read_both r q bytes ≡ Some (x, rest)
    → Spells (both_bytes s t) (BothFit f g) bytes x rest
both_spells s f r t g q first second bytes x rest small e =
    let b = bind_some (r bytes) (λ y. (q y.1 >>= λ z. Some ((y.0, z.0), z.1))) (x, rest) e in
    let c = bind_some (q b.0.1) (λ z. Some ((b.0.0, z.0), z.1)) (x, rest) b.2 in
    let one = first.exact bytes b.0.0 b.0.1 small b.1 in
    let two = second.exact b.0.1 c.0.0 c.0.1 (rest_are_bytes bytes (s b.0.0) b.0.1 one.whole small) c.1 in
    let parts = some_pair_parts (b.0.0, c.0.0) x c.0.1 rest c.2 in
    subst (λ y. Spells (both_bytes s t) (BothFit f g) bytes y rest) parts.0 (record {
      whole = one.whole ∙ ap (λ (l : List ℕ). s b.0.0 ++ l) (two.whole ∙ ap (λ (l : List ℕ). t c.0.0 ++ l) parts.1)
          ∙ sym (append_assoc (s b.0.0) (t c.0.0) rest);
      fit = (one.fit, two.fit);
    })

pub both_exact : {A B : Type 0} (s : A → List ℕ) (f : A → Type 0) (r : Reader A) (t : B → List ℕ) (g : B → Type 0) (q : Reader B)
    → IsExact s f r → IsExact t g q → IsExact (both_bytes s t) (BothFit f g) (read_both r q)
both_exact s f r t g q first second = record {
  back = both_back s f r t g q first second;
  exact = both_spells s f r t g q first second;
}

abbrev pub one_byte : ℕ → List ℕ
one_byte b = b ∷ []

pub u8_exact : IsExact one_byte (λ b. b < 256) read_u8
u8_exact = record {
  back = λ b rest fit. refl;
  exact = λ bytes b rest small e. record {
    whole = byte_exact bytes b rest e;
    fit = subst (λ (l : List ℕ). get_or l 0 0 < 256) (byte_exact bytes b rest e) (small 0);
  };
}

pub values_exact : IsExact values_bytes HaveBytes read_values
values_exact = list_exact value_bytes HasBytes read_value (value_exact most_levels)

part_exact : IsExact (both_bytes u32_bytes u32_bytes) (BothFit IsShort IsShort) read_part
part_exact = both_exact u32_bytes IsShort read_u32 u32_bytes IsShort read_u32 u32_exact u32_exact

place_exact : IsExact (both_bytes u32_bytes one_byte) (BothFit IsShort (λ b. b < 256)) (read_both read_u32 read_u8)
place_exact = both_exact u32_bytes IsShort read_u32 one_byte (λ b. b < 256) read_u8 u32_exact u8_exact

abbrev IsLong : ℕ → Type 0
IsLong n = n < 2 ^ 64

done_exact : IsExact (both_bytes u32_bytes values_bytes) (BothFit IsShort HaveBytes) (read_both read_u32 read_values)
done_exact = both_exact u32_bytes IsShort read_u32 values_bytes HaveBytes read_values u32_exact values_exact

let_exact : IsExact (both_bytes u32_bytes (both_bytes u32_bytes values_bytes)) (BothFit IsShort (BothFit IsShort HaveBytes)) (read_both read_u32 (read_both read_u32 read_values))
let_exact = both_exact u32_bytes IsShort read_u32 (both_bytes u32_bytes values_bytes) (BothFit IsShort HaveBytes) (read_both read_u32 read_values) u32_exact done_exact

turns_exact : IsExact (both_bytes u64_bytes values_bytes) (BothFit IsLong HaveBytes) (read_both read_u64 read_values)
turns_exact = both_exact u64_bytes IsLong read_u64 values_bytes HaveBytes read_values u64_exact values_exact

name_exact : IsExact (both_bytes u64_bytes u32_bytes) (BothFit IsLong IsShort) (read_both read_u64 read_u32)
name_exact = both_exact u64_bytes IsLong read_u64 u32_bytes IsShort read_u32 u64_exact u32_exact

isolate_exact : IsExact (both_bytes u32_bytes (both_bytes u64_bytes u32_bytes)) (BothFit IsShort (BothFit IsLong IsShort)) (read_both read_u32 (read_both read_u64 read_u32))
isolate_exact = both_exact u32_bytes IsShort read_u32 (both_bytes u64_bytes u32_bytes) (BothFit IsLong IsShort) (read_both read_u64 read_u32) u32_exact name_exact

pub shadow_exact : IsExact shadow_bytes ShadowHasBytes read_shadow
shadow_exact = both_exact one_byte (λ b. b < 256) read_u8 value_bytes HasBytes read_value u8_exact (value_exact most_levels)

-- ---- which frames are read of a script

-- which part of a Let is worked on is told by how many bindings it has, and of a call by how many operands
abbrev pub LetFits : Frame → Node → Type 0
LetFits (in_binding n done) x = ¬ (length done ≡ length (bindings_in x))
LetFits (in_body n bound) x = bound ≡ length (bindings_in x)
LetFits (in_call n done) x = ¬ (length done ≡ length (operands_in x))
LetFits (in_task n k outer) x = k ≡ length (operands_in x)
LetFits _ x = ⊤

abbrev pub IsRead : Arena → Frame → Type 0
IsRead a f = FrameHasBytes f × LetFits f (node_at a (node_of f))

-- ---- back

binding_known : (count n : ℕ) (done : List Val) → ¬ (length done ≡ count) → let_frame count n (length done) done ≡ Some (in_binding n done)
binding_known count n done other =
    let first : (length done == count) ≡ false = grind (arith, nat_tests, other) in
    let second : (length done == length done) ≡ true = grind (arith, nat_tests) in
    cond-false (length done == count) _ _ first ∙ cond-true (length done == length done) _ _ second

body_known : (count n bound : ℕ) → bound ≡ count → let_frame count n bound [] ≡ Some (in_body n bound)
body_known count n bound same =
    let first : (bound == count) ≡ true = grind (arith, nat_tests, same) in
    cond-true (bound == count) _ _ first

abbrev framed : (rest : List ℕ) → Option Frame → Option (Frame × List ℕ)
framed rest o = o >>= λ f. Some (f, rest)

let_back : (a : Arena) (n k : ℕ) (done : List Val) (f : Frame) (rest : List ℕ) → BothFit IsShort (BothFit IsShort HaveBytes) (n, (k, done))
    → let_frame (bindings_of a n) n k done ≡ Some f → read_let a (let_bytes n k done ++ rest) ≡ Some (f, rest)
let_back a n k done f rest fit e =
    ap (λ o. o >>= λ x. framed x.1 (let_frame (bindings_of a x.0.0) x.0.0 x.0.1.0 x.0.1.1)) (let_exact.back (n, (k, done)) rest fit)
    ∙ ap (λ o. framed rest o) e

given_known : (count n : ℕ) (done : List Val) → ¬ (length done ≡ count) → call_frame count n (length done) done ≡ Some (in_call n done)
given_known count n done other =
    let first : (length done == count) ≡ false = grind (arith, nat_tests, other) in
    let second : (length done == length done) ≡ true = grind (arith, nat_tests) in
    cond-false (length done == count) _ _ first ∙ cond-true (length done == length done) _ _ second

task_known : (count n k : ℕ) (outer : List Val) → k ≡ count → call_frame count n k outer ≡ Some (in_task n k outer)
task_known count n k outer same =
    let first : (k == count) ≡ true = grind (arith, nat_tests, same) in
    cond-true (k == count) _ _ first

call_back : (a : Arena) (n k : ℕ) (values : List Val) (f : Frame) (rest : List ℕ) → BothFit IsShort (BothFit IsShort HaveBytes) (n, (k, values))
    → call_frame (operands_of a n) n k values ≡ Some f → read_call a (let_bytes n k values ++ rest) ≡ Some (f, rest)
call_back a n k values f rest fit e =
    ap (λ o. o >>= λ x. framed x.1 (call_frame (operands_of a x.0.0) x.0.0 x.0.1.0 x.0.1.1)) (let_exact.back (n, (k, values)) rest fit)
    ∙ ap (λ o. framed rest o) e

turn_back : (n turns : ℕ) (done : List Val) (rest : List ℕ) → IsShort n × (IsLong turns × HaveBytes done)
    → read_for ((u32_bytes n ++ 1 ∷ (u64_bytes turns ++ values_bytes done)) ++ rest) ≡ Some (in_turn n turns done, rest)
turn_back n turns done rest fit =
    let more : List ℕ = u64_bytes turns ++ values_bytes done in
    ap (λ (b : List ℕ). read_for b) (append_assoc (u32_bytes n) (1 ∷ more) rest ∙ sym (append_assoc (u32_bytes n) (1 ∷ []) (more ++ rest)))
    ∙ ap (λ o. o >>= λ x. read_for_kind x.0.0 x.0.1 x.1) (place_exact.back (n, 1) (more ++ rest) (fit.0, lit< tt))
    ∙ ap (λ o. seen_as (λ x. in_turn n x.0 x.1) o) (turns_exact.back (turns, done) rest fit.1)

frame_back : (a : Arena) (f : Frame) (rest : List ℕ) → IsRead a f → read_frame a (frame_bytes f ++ rest) ≡ Some (f, rest)
frame_back a (in_binding n done) rest fit =
    let_back a n (length done) done (in_binding n done) rest (fit.0.0, (fit.0.1.0, fit.0.1)) (binding_known (bindings_of a n) n done fit.1)
frame_back a (in_body n bound) rest fit =
    let_back a n bound [] (in_body n bound) rest (fit.0.0, (fit.0.1, (lit< tt, tt))) (body_known (bindings_of a n) n bound fit.1)
frame_back a (in_seq n k) rest fit = ap (λ o. seen_as (λ x. in_seq x.0 x.1) o) (part_exact.back (n, k) rest fit.0)
frame_back a (in_if n k) rest fit = ap (λ o. seen_as (λ x. in_if x.0 x.1) o) (place_exact.back (n, k) rest fit.0)
frame_back a (in_and n k) rest fit = ap (λ o. seen_as (λ x. in_and x.0 x.1) o) (part_exact.back (n, k) rest fit.0)
frame_back a (in_or n k) rest fit = ap (λ o. seen_as (λ x. in_or x.0 x.1) o) (part_exact.back (n, k) rest fit.0)
frame_back a (in_operand n done) rest fit = ap (λ o. seen_as (λ x. in_operand x.0 x.1) o) (done_exact.back (n, done) rest fit.0)
frame_back a (in_count n) rest fit =
    ap (λ o. o >>= λ x. read_for_kind x.0.0 x.0.1 x.1) (place_exact.back (n, 0) rest (fit.0, lit< tt))
frame_back a (in_turn n turns done) rest fit = turn_back n turns done rest fit.0
frame_back a (in_store n) rest fit = ap (λ o. seen_as (λ m. in_store m) o) (u32_exact.back n rest fit.0)
frame_back a (in_isolate n name) rest fit =
    ap (λ o. seen_as (λ x. in_isolate x.0 (name_of x.1)) o) (isolate_exact.back (n, (name.ticket, name.entry)) rest fit.0)
frame_back a (in_call n done) rest fit =
    call_back a n (length done) done (in_call n done) rest (fit.0.0, (fit.0.1.0, fit.0.1)) (given_known (operands_of a n) n done fit.1)
frame_back a (in_task n k outer) rest fit =
    call_back a n k outer (in_task n k outer) rest (fit.0.0, (fit.0.1.0, fit.0.1.1)) (task_known (operands_of a n) n k outer fit.1)
frame_back a (in_page n kind) rest fit = absurd fit.0
frame_back a (in_finish n) rest fit = absurd fit.0
frame_back a (in_back n) rest fit = absurd fit.0

-- ---- and what is read

abbrev SpellsFrame : Arena → (kind : ℕ) → List ℕ → Frame → List ℕ → Type 0
SpellsFrame a kind bytes f rest = Spells frame_bytes (IsRead a) (kind ∷ bytes) f rest

-- what is after a kind is seen as a frame
seen_frame : {A : Type 0} (s : A → List ℕ) (fits : A → Type 0) (r : Reader A) → IsExact s fits r
    → (view : A → Frame) (a : Arena) (tag : ℕ) → ((x : A) → frame_bytes (view x) ≡ tag ∷ s x) → ((x : A) → fits x → IsRead a (view x))
    → (kind : ℕ) (bytes : List ℕ) (f : Frame) (rest : List ℕ) → AreBytes bytes → kind ≡ tag → seen_as view (r bytes) ≡ Some (f, rest)
    → SpellsFrame a kind bytes f rest
seen_frame s fits r law view a tag spelled fit kind bytes f rest small k e =
    let y = seen_some view (r bytes) f rest e in
    let x = law.exact bytes y.0 rest small y.1 in
    let front : kind ∷ bytes ≡ tag ∷ (s y.0 ++ rest) = λ i. k i ∷ x.whole i in
    subst (λ g. SpellsFrame a kind bytes g rest) y.2
    (record { whole = front ∙ ap (λ (b : List ℕ). b ++ rest) (sym (spelled y.0)); fit = fit y.0 x.fit })

-- what a frame of a Let is
record LetFrame (a : Arena) (n k : ℕ) (done : List Val) (f : Frame) : Type 0 where
  spelled : frame_bytes f ≡ 1 ∷ let_bytes n k done
  fit : BothFit IsShort (BothFit IsShort HaveBytes) (n, (k, done)) → IsRead a f

body_spelled : (a : Arena) (n k : ℕ) (done : List Val) (f : Frame) → k ≡ bindings_of a n → body_frame n k done ≡ Some f → LetFrame a n k done f
body_spelled a n k [] f same e =
    let g : in_body n k ≡ f = cc in
    subst (λ h. LetFrame a n k [] h) g (record { spelled = refl; fit = λ fit. ((fit.0, fit.1.0), same) })
body_spelled a n k (v ∷ vs) f same e = absurd (none-some f e)

binding_spelled : (a : Arena) (n k : ℕ) (done : List Val) (f : Frame) → ¬ (k ≡ bindings_of a n) → k ≡ length done
    → in_binding n done ≡ f → LetFrame a n k done f
binding_spelled a n k done f other same g =
    subst (λ h. LetFrame a n k done h) g (record {
      spelled = ap (λ (m : ℕ). 1 ∷ let_bytes n m done) (sym same);
      fit = λ fit. ((fit.0, fit.1.1), λ e. other (same ∙ e));
    })

let_spelled : (a : Arena) (n k : ℕ) (done : List Val) (f : Frame) → let_frame (bindings_of a n) n k done ≡ Some f → LetFrame a n k done f
let_spelled a n k done f e =
    elim (chosen (k == bindings_of a n) _ _ _ e) [
      | inl t ↦ body_spelled a n k done f (grind (arith, nat_tests, t.0)) t.1
      | inr t ↦ elim (chosen (k == length done) _ _ _ t.1) [
        | inl u ↦ binding_spelled a n k done f (grind (arith, nat_tests, t.0)) (grind (arith, nat_tests, u.0)) cc
        | inr u ↦ absurd (none-some f u.1)
      ]
    ]

let_spells : (a : Arena) (kind : ℕ) (bytes : List ℕ) (f : Frame) (rest : List ℕ) → AreBytes bytes → kind ≡ 1 → read_let a bytes ≡ Some (f, rest)
    → SpellsFrame a kind bytes f rest
let_spells a kind bytes f rest small k e =
    let b = bind_some (read_both read_u32 (read_both read_u32 read_values) bytes)
    (λ x. framed x.1 (let_frame (bindings_of a x.0.0) x.0.0 x.0.1.0 x.0.1.1)) (f, rest) e in
    let c = bind_some (let_frame (bindings_of a b.0.0.0) b.0.0.0 b.0.0.1.0 b.0.0.1.1) (λ g. Some (g, b.0.1)) (f, rest) b.2 in
    let x = let_exact.exact bytes b.0.0 b.0.1 small b.1 in
    let l = let_spelled a b.0.0.0 b.0.0.1.0 b.0.0.1.1 c.0 c.1 in
    let parts = some_pair_parts c.0 f b.0.1 rest c.2 in
    let front : kind ∷ bytes ≡ 1 ∷ (let_bytes b.0.0.0 b.0.0.1.0 b.0.0.1.1 ++ b.0.1) = λ i. k i ∷ x.whole i in
    subst (λ g. SpellsFrame a kind bytes g rest) parts.0 (record {
      whole = front ∙ (λ i. sym l.spelled i ++ parts.1 i);
      fit = l.fit x.fit;
    })

-- what a frame of a call is
record CallFrame (a : Arena) (n k : ℕ) (values : List Val) (f : Frame) : Type 0 where
  spelled : frame_bytes f ≡ 10 ∷ let_bytes n k values
  fit : BothFit IsShort (BothFit IsShort HaveBytes) (n, (k, values)) → IsRead a f

task_spelled : (a : Arena) (n k : ℕ) (values : List Val) (f : Frame) → k ≡ operands_of a n → in_task n k values ≡ f → CallFrame a n k values f
task_spelled a n k values f same g = subst (λ h. CallFrame a n k values h) g (record { spelled = refl; fit = λ fit. (fit, same) })

given_spelled : (a : Arena) (n k : ℕ) (values : List Val) (f : Frame) → ¬ (k ≡ operands_of a n) → k ≡ length values
    → in_call n values ≡ f → CallFrame a n k values f
given_spelled a n k values f other same g =
    subst (λ h. CallFrame a n k values h) g (record {
      spelled = ap (λ (m : ℕ). 10 ∷ let_bytes n m values) (sym same);
      fit = λ fit. ((fit.0, fit.1.1), λ e. other (same ∙ e));
    })

call_spelled : (a : Arena) (n k : ℕ) (values : List Val) (f : Frame) → call_frame (operands_of a n) n k values ≡ Some f → CallFrame a n k values f
call_spelled a n k values f e =
    elim (chosen (k == operands_of a n) _ _ _ e) [
      | inl t ↦ task_spelled a n k values f (grind (arith, nat_tests, t.0)) cc
      | inr t ↦ elim (chosen (k == length values) _ _ _ t.1) [
        | inl u ↦ given_spelled a n k values f (grind (arith, nat_tests, t.0)) (grind (arith, nat_tests, u.0)) cc
        | inr u ↦ absurd (none-some f u.1)
      ]
    ]

call_spells : (a : Arena) (kind : ℕ) (bytes : List ℕ) (f : Frame) (rest : List ℕ) → AreBytes bytes → kind ≡ 10 → read_call a bytes ≡ Some (f, rest)
    → SpellsFrame a kind bytes f rest
call_spells a kind bytes f rest small k e =
    let b = bind_some (read_both read_u32 (read_both read_u32 read_values) bytes)
    (λ x. framed x.1 (call_frame (operands_of a x.0.0) x.0.0 x.0.1.0 x.0.1.1)) (f, rest) e in
    let c = bind_some (call_frame (operands_of a b.0.0.0) b.0.0.0 b.0.0.1.0 b.0.0.1.1) (λ g. Some (g, b.0.1)) (f, rest) b.2 in
    let x = let_exact.exact bytes b.0.0 b.0.1 small b.1 in
    let l = call_spelled a b.0.0.0 b.0.0.1.0 b.0.0.1.1 c.0 c.1 in
    let parts = some_pair_parts c.0 f b.0.1 rest c.2 in
    let front : kind ∷ bytes ≡ 10 ∷ (let_bytes b.0.0.0 b.0.0.1.0 b.0.0.1.1 ++ b.0.1) = λ i. k i ∷ x.whole i in
    subst (λ g. SpellsFrame a kind bytes g rest) parts.0 (record {
      whole = front ∙ (λ i. sym l.spelled i ++ parts.1 i);
      fit = l.fit x.fit;
    })

turn_spells : (a : Arena) (kind n part : ℕ) (bytes left : List ℕ) (f : Frame) (rest : List ℕ) → AreBytes left → kind ≡ 7 → part ≡ 1 → IsShort n
    → bytes ≡ both_bytes u32_bytes one_byte (n, part) ++ left → seen_as (λ x. in_turn n x.0 x.1) (read_both read_u64 read_values left) ≡ Some (f, rest)
    → SpellsFrame a kind bytes f rest
turn_spells a kind n part bytes left f rest small k one short whole e =
    let y = seen_some (λ x. in_turn n x.0 x.1) (read_both read_u64 read_values left) f rest e in
    let x = turns_exact.exact left y.0 rest small y.1 in
    let more : List ℕ = u64_bytes y.0.0 ++ values_bytes y.0.1 in
    let all : bytes ≡ (u32_bytes n ++ 1 ∷ more) ++ rest =
    whole ∙ ap (λ (b : ℕ). (u32_bytes n ++ b ∷ []) ++ left) one ∙ ap (λ (l : List ℕ). (u32_bytes n ++ 1 ∷ []) ++ l) x.whole
    ∙ append_assoc (u32_bytes n) (1 ∷ []) (more ++ rest) ∙ sym (append_assoc (u32_bytes n) (1 ∷ more) rest) in
    subst (λ g. SpellsFrame a kind bytes g rest) y.2 (record {
      whole = λ i. k i ∷ all i;
      fit = ((short, x.fit), tt);
    })

count_spells : (a : Arena) (kind n part : ℕ) (bytes left : List ℕ) (f : Frame) (rest : List ℕ) → kind ≡ 7 → part ≡ 0 → IsShort n
    → bytes ≡ both_bytes u32_bytes one_byte (n, part) ++ left → ◌≡◌ {A = Option (Frame × List ℕ)} (Some (in_count n, left)) (Some (f, rest))
    → SpellsFrame a kind bytes f rest
count_spells a kind n part bytes left f rest k nil short whole e =
    let parts = some_pair_parts (in_count n) f left rest e in
    let all : bytes ≡ (u32_bytes n ++ 0 ∷ []) ++ rest = whole ∙ (λ i. (u32_bytes n ++ nil i ∷ []) ++ parts.1 i) in
    subst (λ g. SpellsFrame a kind bytes g rest) parts.0 (record {
      whole = λ i. k i ∷ all i;
      fit = (short, tt);
    })

for_spells : (a : Arena) (kind : ℕ) (bytes : List ℕ) (f : Frame) (rest : List ℕ) → AreBytes bytes → kind ≡ 7 → read_for bytes ≡ Some (f, rest)
    → SpellsFrame a kind bytes f rest
for_spells a kind bytes f rest small k e =
    let b = bind_some (read_both read_u32 read_u8 bytes) (λ x. read_for_kind x.0.0 x.0.1 x.1) (f, rest) e in
    let x = place_exact.exact bytes b.0.0 b.0.1 small b.1 in
    let left = rest_are_bytes bytes (both_bytes u32_bytes one_byte b.0.0) b.0.1 x.whole small in
    elim (chosen (b.0.0.1 == 0) _ _ _ b.2) [
      | inl t ↦ count_spells a kind b.0.0.0 b.0.0.1 bytes b.0.1 f rest k (grind (arith, nat_tests, t.0)) x.fit.0 x.whole t.1
      | inr t ↦ elim (chosen (b.0.0.1 == 1) _ _ _ t.1) [
        | inl u ↦ turn_spells a kind b.0.0.0 b.0.0.1 bytes b.0.1 f rest left k (grind (arith, nat_tests, u.0)) x.fit.0 x.whole u.1
        | inr u ↦ absurd (none-some (f, rest) u.1)
      ]
    ]

-- the kinds from 6 on
abbrev read_late_kind : Arena → ℕ → Reader Frame
read_late_kind a kind rest =
    if kind == 6 then seen_as (λ x. in_operand x.0 x.1) (read_both read_u32 read_values rest) else
    (if kind == 7 then read_for rest else
    (if kind == 8 then seen_as (λ n. in_store n) (read_u32 rest) else
    (if kind == 9 then seen_as (λ x. in_isolate x.0 (name_of x.1)) (read_both read_u32 (read_both read_u64 read_u32) rest) else
    (if kind == 10 then read_call a rest else None))))

late_kind_spells : (a : Arena) (kind : ℕ) (bytes : List ℕ) (f : Frame) (rest : List ℕ) → AreBytes bytes → read_late_kind a kind bytes ≡ Some (f, rest)
    → SpellsFrame a kind bytes f rest
late_kind_spells a kind bytes f rest small e =
    elim (chosen (kind == 6) _ _ _ e) [
      | inl t ↦ seen_frame (both_bytes u32_bytes values_bytes) (BothFit IsShort HaveBytes) (read_both read_u32 read_values) done_exact (λ x. in_operand x.0 x.1) a 6
          (λ x. refl) (λ x fit. (fit, tt)) kind bytes f rest small (grind (arith, nat_tests, t.0)) t.1
      | inr g ↦ elim (chosen (kind == 7) _ _ _ g.1) [
        | inl t ↦ for_spells a kind bytes f rest small (grind (arith, nat_tests, t.0)) t.1
        | inr g ↦ elim (chosen (kind == 8) _ _ _ g.1) [
          | inl t ↦ seen_frame u32_bytes IsShort read_u32 u32_exact (λ n. in_store n) a 8
              (λ x. refl) (λ x fit. (fit, tt)) kind bytes f rest small (grind (arith, nat_tests, t.0)) t.1
          | inr g ↦ elim (chosen (kind == 9) _ _ _ g.1) [
            | inl t ↦ seen_frame (both_bytes u32_bytes (both_bytes u64_bytes u32_bytes)) (BothFit IsShort (BothFit IsLong IsShort))
                (read_both read_u32 (read_both read_u64 read_u32)) isolate_exact (λ x. in_isolate x.0 (name_of x.1)) a 9
                (λ x. refl) (λ x fit. (fit, tt)) kind bytes f rest small (grind (arith, nat_tests, t.0)) t.1
            | inr g ↦ elim (chosen (kind == 10) _ _ _ g.1) [
              | inl t ↦ call_spells a kind bytes f rest small (grind (arith, nat_tests, t.0)) t.1
              | inr g ↦ absurd (none-some (f, rest) g.1)
            ]
          ]
        ]
      ]
    ]

kind_spells : (a : Arena) (kind : ℕ) (bytes : List ℕ) (f : Frame) (rest : List ℕ) → AreBytes bytes → read_kind a kind bytes ≡ Some (f, rest)
    → SpellsFrame a kind bytes f rest
kind_spells a kind bytes f rest small e =
    elim (chosen (kind == 1) _ _ _ e) [
      | inl t ↦ let_spells a kind bytes f rest small (grind (arith, nat_tests, t.0)) t.1
      | inr g ↦ elim (chosen (kind == 2) _ _ _ g.1) [
        | inl t ↦ seen_frame (both_bytes u32_bytes u32_bytes) (BothFit IsShort IsShort) read_part part_exact (λ x. in_seq x.0 x.1) a 2
            (λ x. refl) (λ x fit. (fit, tt)) kind bytes f rest small (grind (arith, nat_tests, t.0)) t.1
        | inr g ↦ elim (chosen (kind == 3) _ _ _ g.1) [
          | inl t ↦ seen_frame (both_bytes u32_bytes one_byte) (BothFit IsShort (λ b. b < 256)) (read_both read_u32 read_u8) place_exact (λ x. in_if x.0 x.1) a 3
              (λ x. refl) (λ x fit. (fit, tt)) kind bytes f rest small (grind (arith, nat_tests, t.0)) t.1
          | inr g ↦ elim (chosen (kind == 4) _ _ _ g.1) [
            | inl t ↦ seen_frame (both_bytes u32_bytes u32_bytes) (BothFit IsShort IsShort) read_part part_exact (λ x. in_and x.0 x.1) a 4
                (λ x. refl) (λ x fit. (fit, tt)) kind bytes f rest small (grind (arith, nat_tests, t.0)) t.1
            | inr g ↦ elim (chosen (kind == 5) _ _ _ g.1) [
              | inl t ↦ seen_frame (both_bytes u32_bytes u32_bytes) (BothFit IsShort IsShort) read_part part_exact (λ x. in_or x.0 x.1) a 5
                  (λ x. refl) (λ x fit. (fit, tt)) kind bytes f rest small (grind (arith, nat_tests, t.0)) t.1
              | inr g ↦ late_kind_spells a kind bytes f rest small g.1
            ]
          ]
        ]
      ]
    ]

front_spells : (a : Arena) (bytes : List ℕ) (f : Frame) (rest : List ℕ) → AreBytes bytes → read_frame a bytes ≡ Some (f, rest)
    → Spells frame_bytes (IsRead a) bytes f rest
front_spells a [] f rest small e = absurd (none-some (f, rest) e)
front_spells a (kind ∷ bytes) f rest small e = kind_spells a kind bytes f rest (tail_are_bytes kind bytes small) e

pub frame_exact : (a : Arena) → IsExact frame_bytes (IsRead a) (read_frame a)
frame_exact a = record { back = frame_back a; exact = front_spells a }
