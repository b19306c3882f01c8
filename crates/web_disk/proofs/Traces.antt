-- One call more on a disk in memory.
use Rattle.std.proofs.Common.{Result, OnErr, ◌≡◌, ◌⊎◌, inl, inr, ⊎_elim, ℕ, zero, suc, ◌+◌, ◌≤◌, List, [], ◌∷◌, ◌++◌, length, take, drop, refl, sym, ◌∙◌, ap, subst, arith, length-append, length-drop}
use Rattle.std.proofs.lemmas.List.{append-nil, take-append-le, drop-append-le, take_all}
use Rattle.web_outside.specs.Causes.{Rose}
use Rattle.web_disk.specs.View.{Elapses, IsCall}
use Rattle.web_disk.specs.Change.{Change, Content, Put, Torn, CutTo, Synced, fresh, changed, replayed, IsImage}
use Rattle.web_disk.specs.Since.{Since}
use Rattle.web_disk.specs.Memory.{changes, sizes, changes_of, content_of, IsKept, Adds, HasRoom, view_of}
use Rattle.web_disk.specs.declared.trace.Call.{Call}
use Rattle.web_disk.specs.declared.trace.Call.TheVariants.{Write, Spoil, Cut, Sync}
use Rattle.web_disk.specs.declared.trace.Trace.{Trace}
use Rattle.web_disk.specs.declared.trace.Span.{Span}

changes-push : (calls : List Call) (call : Call) (pieces piece : List ℕ) → sizes calls ≡ length pieces → changes (calls ++ call ∷ []) (pieces ++ piece) ≡ changes calls pieces ++ changes (call ∷ []) piece
changes-push [] call [] piece whole = refl
changes-push [] call (p ∷ pieces) piece whole = absurd (omega arith)
changes-push (Write place size ∷ calls) call pieces piece whole =
    let front : take size (pieces ++ piece) ≡ take size pieces = take-append-le size pieces piece (omega (arith, whole)) in
    let rest : drop size (pieces ++ piece) ≡ drop size pieces ++ piece = drop-append-le size pieces piece (omega (arith, whole)) in
    ap (λ (l : List ℕ). Put place l ∷ changes (calls ++ call ∷ []) (drop size (pieces ++ piece))) front
    ∙ ap (λ (l : List ℕ). Put place (take size pieces) ∷ changes (calls ++ call ∷ []) l) rest
    ∙ ap (λ (l : List Change). Put place (take size pieces) ∷ l) (changes-push calls call (drop size pieces) piece (omega (arith, whole, length-drop size pieces)))
changes-push (Spoil range ∷ calls) call pieces piece whole = ap (λ (l : List Change). Torn range ∷ l) (changes-push calls call pieces piece whole)
changes-push (Cut len ∷ calls) call pieces piece whole = ap (λ (l : List Change). CutTo len ∷ l) (changes-push calls call pieces piece whole)
changes-push (Sync ∷ calls) call pieces piece whole = ap (λ (l : List Change). Synced ∷ l) (changes-push calls call pieces piece whole)

sizes-push : (calls : List Call) (call : Call) → sizes (calls ++ call ∷ []) ≡ sizes calls + sizes (call ∷ [])
sizes-push [] call = omega arith
sizes-push (Write place size ∷ calls) call = omega (arith, sizes-push calls call)
sizes-push (Spoil range ∷ calls) call = sizes-push calls call
sizes-push (Cut len ∷ calls) call = sizes-push calls call
sizes-push (Sync ∷ calls) call = sizes-push calls call

replayed-push : (xs : List Change) (x : Change) (c : Content) → replayed (xs ++ x ∷ []) c ≡ changed x (replayed xs c)
replayed-push [] x c = refl
replayed-push (y ∷ xs) x c = replayed-push xs x (changed y c)

changed-same : (x : Change) (c : Content) (bytes : List ℕ) (touched : List Span) → bytes ≡ c.seen → touched ≡ c.touched → changed x (record { seen = bytes; touched = touched }) ≡ changed x c
changed-same x c bytes touched is_seen is_touched = λ i. changed x (record { seen = is_seen i; touched = is_touched i })

pub content_after : (x : Change) (old new : Trace) → Adds x old new → content_of new ≡ changed x (content_of old)
content_after x old new adds =
    ap (λ (l : List ℕ). replayed (changes_of new) (fresh l)) adds.first
    ∙ ap (λ (l : List Change). replayed l (fresh old.first.items)) adds.changes
    ∙ replayed-push (changes_of old) x (fresh old.first.items)

pub kept_after : (x : Change) (old new : Trace) → IsKept old → Adds x old new → sizes new.calls.items ≡ length new.pieces.items → IsKept new
kept_after x old new kept adds whole =
    let same : changed x (record { seen = old.bytes.items; touched = old.touched.items }) ≡ content_of new =
    changed-same x (content_of old) old.bytes.items old.touched.items kept.same kept.touched ∙ sym (content_after x old new adds) in
    record {
      whole = whole;
      same = adds.bytes ∙ ap (λ (c : Content). c.seen) same;
      touched = adds.touched ∙ ap (λ (c : Content). c.touched) same;
    }

-- a call without a piece, and a write
pub pushed : (calls : List Call) (call : Call) (pieces : List ℕ) → sizes calls ≡ length pieces → sizes (call ∷ []) ≡ 0 → changes (calls ++ call ∷ []) pieces ≡ changes calls pieces ++ changes (call ∷ []) []
pushed calls call pieces whole none = ap (λ (l : List ℕ). changes (calls ++ call ∷ []) l) (sym (append-nil pieces)) ∙ changes-push calls call pieces [] whole

pub pushed_whole : (calls : List Call) (call : Call) (pieces : List ℕ) → sizes calls ≡ length pieces → sizes (call ∷ []) ≡ 0 → sizes (calls ++ call ∷ []) ≡ length pieces
pushed_whole calls call pieces whole none = omega (arith, whole, none, sizes-push calls call)

pub pushed_write : (calls : List Call) (place size : ℕ) (pieces piece : List ℕ) → sizes calls ≡ length pieces → size ≡ length piece → changes (calls ++ Write place size ∷ []) (pieces ++ piece) ≡ changes calls pieces ++ Put place piece ∷ []
pushed_write calls place size pieces piece whole long =
    changes-push calls (Write place size) pieces piece whole ∙ ap (λ (l : List ℕ). changes calls pieces ++ Put place l ∷ []) (take_all size piece (omega (arith, long)))

pub pushed_write_to : (calls calls' : List Call) (place size : ℕ) (pieces pieces' piece : List ℕ) → sizes calls ≡ length pieces → calls' ≡ calls ++ Write place size ∷ [] → pieces' ≡ pieces ++ piece → size ≡ length piece
    → changes calls' pieces' ≡ changes calls pieces ++ Put place piece ∷ []
pushed_write_to calls calls' place size pieces pieces' piece whole is_calls is_pieces long =
    ap (λ (l : List Call). changes l pieces') is_calls ∙ ap (λ (l : List ℕ). changes (calls ++ Write place size ∷ []) l) is_pieces ∙ pushed_write calls place size pieces piece whole long

pub pushed_write_to_whole : (calls calls' : List Call) (place size : ℕ) (pieces pieces' piece : List ℕ) → sizes calls ≡ length pieces → calls' ≡ calls ++ Write place size ∷ [] → pieces' ≡ pieces ++ piece → size ≡ length piece
    → sizes calls' ≡ length pieces'
pushed_write_to_whole calls calls' place size pieces pieces' piece whole is_calls is_pieces long =
    ap sizes is_calls ∙ omega (arith, whole, long, sizes-push calls (Write place size), length-append pieces piece) ∙ ap length (sym is_pieces)

-- time
since-push : (xs : List Change) (x : Change) (c : Content) (t : ℕ) (image : List ℕ) → t ≤ length xs → Since (xs ++ x ∷ []) c t image → Since xs c t image ⊎ IsImage (changed x (replayed xs c)) image
since-push [] x c zero image le (inl before) = inl before
since-push [] x c zero image le (inr now) = inr now
since-push [] x c (suc t) image le left = absurd (omega arith)
since-push (y ∷ xs) x c zero image le (inl before) = inl (inl before)
since-push (y ∷ xs) x c zero image le (inr left) = ⊎_elim (λ before. inl (inr before)) (λ now. inr now) (since-push xs x (changed y c) zero image (omega arith) left)
since-push (y ∷ xs) x c (suc t) image le left = since-push xs x (changed y c) t image (omega arith) left

since-keeps : (xs : List Change) (x : Change) (c : Content) (t : ℕ) (image : List ℕ) → t ≤ length xs → Since xs c t image → Since (xs ++ x ∷ []) c t image
since-keeps [] x c zero image le left = inl left
since-keeps [] x c (suc t) image le left = absurd (omega arith)
since-keeps (y ∷ xs) x c zero image le (inl before) = inl before
since-keeps (y ∷ xs) x c zero image le (inr left) = inr (since-keeps xs x (changed y c) zero image (omega arith) left)
since-keeps (y ∷ xs) x c (suc t) image le left = since-keeps xs x (changed y c) t image (omega arith) left

pub elapses_same : (t : Trace) (before now : ℕ) → before ≤ now → Elapses (view_of t before) (view_of t now)
elapses_same t before now le = record { later = omega arith; nothing_else = λ n image _ left. inl left; keeps = λ n image _ left. left; faults = le }

pub elapses_more : (x : Change) (old new : Trace) (before now : ℕ) → Adds x old new → before ≤ now → Elapses (view_of old before) (view_of new now)
elapses_more x old new before now adds le = record {
  later = omega (arith, length-append (changes_of old) (x ∷ []), ap length adds.changes);
  nothing_else = λ n image low left.
      ⊎_elim (λ was. inl was) (λ is. inr (subst (λ (c : Content). IsImage c image) (sym (content_after x old new adds)) is))
      (since-push (changes_of old) x (fresh old.first.items) n image low
      (subst (λ (l : List ℕ). Since (changes_of old ++ x ∷ []) (fresh l) n image) adds.first
      (subst (λ (l : List Change). Since l (fresh new.first.items) n image) adds.changes left)));
  keeps = λ n image low left.
      subst (λ (l : List ℕ). Since (changes_of new) (fresh l) n image) (sym adds.first)
      (subst (λ (l : List Change). Since l (fresh old.first.items) n image) (sym adds.changes) (since-keeps (changes_of old) x (fresh old.first.items) n image low left));
  faults = le;
}

pub call_same : {T E : Type 0} (t : Trace) (before now bytes : ℕ) (result : Result T E) → before ≤ now → OnErr result (Rose before now) → IsCall bytes (view_of t before) (view_of t now) result
call_same t before now bytes result later cause = record { time = elapses_same t before now later; cause = cause; end = omega arith; ready = omega arith; left = omega arith }

pub call_more : {T E : Type 0} (x : Change) (old new : Trace) (before now size bytes : ℕ) (result : Result T E) → Adds x old new → HasRoom size old new → size ≤ bytes → before ≤ now → OnErr result (Rose before now)
    → IsCall bytes (view_of old before) (view_of new now) result
call_more x old new before now size bytes result adds room within later cause = record {
  time = elapses_more x old new before now adds later;
  cause = cause;
  end = room.end;
  ready = room.ready;
  left = omega (arith, room.left);
}
