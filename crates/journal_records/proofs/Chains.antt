-- What is written or read piece by piece.
use Rattle.std.proofs.Common.{◌≡◌, ℕ, zero, suc, ◌+◌, ◌-◌, ◌<◌, Bool, true, false, List, [], ◌∷◌, ◌++◌, length, map, drop, Option, Some, None, refl, sym, ap, ◌∙◌, append_assoc, arith}
use Rattle.std.specs.Prelude.{slice_get, Result, Ok, Err, OnOk}
use Rattle.std.proofs.lemmas.Grind.{common_steps}
use Rattle.script_value.specs.Val.{Val, list, vals_of}
use Rattle.script_nodes.specs.Setup.{Named}
use Rattle.value_bytes.specs.Reading.{Reader, read_several}
use Rattle.value_bytes.proofs.Turns.{with_front, one_more}
use Rattle.journal_records.specs.Records.{texts_of}
use Rattle.journal_records.specs.Reading.{is_nothing}

-- ---- pieces, one after the other

pub onto : (a x b y : List ℕ) → b ≡ a ++ x → b ++ y ≡ a ++ (x ++ y)
onto a x b y e = ap (λ (l : List ℕ). l ++ y) e ∙ append_assoc a x y

pub onto_3 : (a x b y c z : List ℕ) → b ≡ a ++ x → c ≡ b ++ y → c ++ z ≡ a ++ (x ++ (y ++ z))
onto_3 a x b y c z e f = onto b y c z f ∙ onto a x b (y ++ z) e

pub onto_4 : (a x b y c z d w : List ℕ) → b ≡ a ++ x → c ≡ b ++ y → d ≡ c ++ z → d ++ w ≡ a ++ (x ++ (y ++ (z ++ w)))
onto_4 a x b y c z d w e f g = onto c z d w g ∙ onto_3 a x b y c (z ++ w) e f

-- ---- several

-- one more of several is read
pub pushed : {A B : Type 0} (view : A → B) (read : Reader B) (n i : ℕ) (old new : List A) (x : A) (bytes rest : List ℕ) (whole : Option (List B × List ℕ))
    → new ≡ old ++ x ∷ [] → i < n → read bytes ≡ Some (view x, rest)
    → with_front (map view old) (read_several read (n - i) bytes) ≡ whole → with_front (map view new) (read_several read (n - (i + 1)) rest) ≡ whole
pushed view read n i old new x bytes rest whole e h r w =
    let front : map view new ≡ map view old ++ view x ∷ [] = grind (arith, common_steps, e) in
    ap (λ ys. with_front ys (read_several read (n - (i + 1)) rest)) front ∙ one_more read n i (map view old) bytes (view x) rest h r ∙ w

-- ---- a setup

-- the script of a place stands before those after it
pub text_here : (scripts : List Named) (i : ℕ) (s : Named) → slice_get scripts i ≡ Some s
    → drop i (texts_of scripts) ≡ (s.name, s.text) ∷ drop (suc i) (texts_of scripts)
text_here [] i s e = absurd cc
text_here (n ∷ scripts) zero s e =
    let same : n ≡ s = cc in
    ap (λ (m : Named). (m.name, m.text) ∷ texts_of scripts) same
text_here (n ∷ scripts) (suc i) s e = text_here scripts i s e

pub text_there : (scripts : List Named) (i : ℕ) (s : Named) → Some s ≡ slice_get scripts i
    → drop i (texts_of scripts) ≡ (s.name, s.text) ∷ drop (i + 1) (texts_of scripts)
text_there scripts i s e =
    let next : suc i ≡ i + 1 = omega arith in
    text_here scripts i s (sym e) ∙ ap (λ (k : ℕ). (s.name, s.text) ∷ drop k (texts_of scripts)) next

pub text_at : (scripts : List Named) (i : ℕ) (s : Named) → Some s ≡ slice_get scripts i → slice_get (texts_of scripts) i ≡ Some (s.name, s.text)
text_at [] i s e = absurd cc
text_at (n ∷ scripts) zero s e =
    let same : n ≡ s = cc in
    ap (λ (m : Named). Some (m.name, m.text)) same
text_at (n ∷ scripts) (suc i) s e = text_at scripts i s e

pub none_past : {X : Type 0} (xs : List X) (i : ℕ) → None ≡ slice_get xs i → i < length xs → ⊥
none_past [] i e h = omega arith
none_past (x ∷ xs) zero e h = cc
none_past (x ∷ xs) (suc i) e h = none_past xs i e (omega arith)

pub on_ok : {T E : Type 0} (r : Result T E) (P Q : Type 0) → OnOk r P → (P → Q) → OnOk r Q
on_ok (Ok x) P Q p f = f p
on_ok (Err x) P Q p f = tt

-- ---- the empty list

pub is_nothing_test : (b : Bool) (vs : List Val) → (b ≡ true → vs ≡ []) × (vs ≡ [] → b ≡ true) → b ≡ is_nothing (list (vals_of vs))
is_nothing_test b [] e = e.1 refl
is_nothing_test true (v ∷ vs) e = absurd (cc (e.0 refl))
is_nothing_test false (v ∷ vs) e = refl
