-- A setup that names and texts were read as stays one with a script in the place of another of its name, and with one more after it.
use Rattle.std.proofs.Common.{◌≡◌, ℕ, zero, suc, ◌+◌, ◌≤◌, ◌<◌, Bool, true, false, not, List, [], ◌∷◌, ◌++◌, length, nat_le, length-append, append-nil, Some, None, refl, sym, ◌∙◌, ap, arith, one-add, if◌then◌else◌}
use Rattle.std.specs.Prelude.{◌&&◌, slice_set}
use Rattle.std.specs.List.{position_or_len}
use Rattle.std.proofs.lemmas.List.{append_assoc, length-map, length-set}
use Rattle.std.proofs.lemmas.Bool.{and_parts}
use Rattle.std.proofs.lemmas.Bool.Decides.{nat_tests}
use Rattle.std.proofs.lemmas.Option.{cond_some, same_Some}
use Rattle.std.proofs.lemmas.Slice.Eq.{bytes_eq-Decides}
use Rattle.script_value.proofs.Options.{allowed, bound}
use Rattle.script_nodes.specs.Setup.{Named, has_name, place_named, text_of, texts_of}
use Rattle.setup_reader.specs.Limits.{AreShort}
use Rattle.setup_reader.specs.Texts.{script_of_text, scripts_of_texts, is_among, are_new, can_be_setup, setup_of_texts, IsReadSetup}
use Rattle.setup_reader.proofs.Short.{short_name}
use Rattle.setup_reader.proofs.Retold.{names_of, new_name, script_kept}

-- what a setup that was read is: as many scripts as there may be, each under a name of its own, each what its text is read as
pub record IsSound (scripts : List Named) : Type 0 where
  pub some : 1 ≤ length scripts
  pub few : length scripts ≤ 15
  pub new : are_new [] (texts_of scripts) ≡ true
  pub read : scripts_of_texts (texts_of scripts) ≡ Some scripts

pub sound : (scripts : List Named) → IsReadSetup scripts → IsSound scripts
unfolding setup_of_texts
sound scripts is =
    let can = allowed (can_be_setup (texts_of scripts)) (scripts_of_texts (texts_of scripts)) scripts is in
    let parts = and_parts (nat_le 1 (length (texts_of scripts)) && nat_le (length (texts_of scripts)) 15) (are_new [] (texts_of scripts)) can.0 in
    let count = and_parts (nat_le 1 (length (texts_of scripts))) (nat_le (length (texts_of scripts)) 15) parts.0 in
    let size : length (texts_of scripts) ≡ length scripts = length-map scripts text_of in
    record { some = grind (arith, nat_tests, count.0); few = grind (arith, nat_tests, count.1); new = parts.1; read = can.1 }

pub read_setup : (scripts : List Named) → IsSound scripts → IsReadSetup scripts
unfolding setup_of_texts
read_setup scripts is =
    let size : length (texts_of scripts) ≡ length scripts = length-map scripts text_of in
    let least : nat_le 1 (length (texts_of scripts)) ≡ true = grind (arith, nat_tests, is.some) in
    let most : nat_le (length (texts_of scripts)) 15 ≡ true = grind (arith, nat_tests, is.few) in
    rw (least, most, is.new) is.read

-- whether names are new says nothing of the texts
same_names : (before : List (List ℕ)) (ss ts : List Named) → names_of ss ≡ names_of ts → are_new before (texts_of ss) ≡ are_new before (texts_of ts)
same_names before [] [] e = refl
same_names before [] (t ∷ ts) e = absurd (let no : ⊥ = cc in no)
same_names before (s ∷ ss) [] e = absurd (let no : ⊥ = cc in no)
same_names before (s ∷ ss) (t ∷ ts) e =
    let name : s.name ≡ t.name = cc in
    let later : names_of ss ≡ names_of ts = cc in
    ap (λ n. not (is_among n before) && are_new (before ++ n ∷ []) (texts_of ss)) name
    ∙ ap (λ b. not (is_among t.name before) && b) (same_names (before ++ t.name ∷ []) ss ts later)

-- the scripts after the first one are what their texts are read as
rest_read : (x : Named) (xs : List Named) → scripts_of_texts (texts_of (x ∷ xs)) ≡ Some (x ∷ xs)
    → (script_of_text (text_of x) ≡ Some x) × (scripts_of_texts (texts_of xs) ≡ Some xs)
rest_read x xs e =
    let first = bound (script_of_text (text_of x)) _ (x ∷ xs) e in
    let more = bound (scripts_of_texts (texts_of xs)) _ (x ∷ xs) first.2 in
    let same : first.0 ∷ more.0 ≡ x ∷ xs = same_Some _ _ more.2 in
    let head : first.0 ≡ x = cc in
    let tail : more.0 ≡ xs = cc in
    (first.1 ∙ ap Some head, more.1 ∙ ap Some tail)

-- one in the place of another

set_read : (scripts : List Named) (k : ℕ) (s : Named) → scripts_of_texts (texts_of scripts) ≡ Some scripts → script_of_text (text_of s) ≡ Some s
    → scripts_of_texts (texts_of (slice_set scripts k s)) ≡ Some (slice_set scripts k s)
set_read [] k s read one = refl
set_read (x ∷ xs) zero s read one = rw (one, (rest_read x xs read).1) refl
set_read (x ∷ xs) (suc k) s read one = let parts = rest_read x xs read in rw (parts.0, set_read xs k s parts.1 one) refl

set_names : (name : List ℕ) (scripts : List Named) (s : Named) → s.name ≡ name
    → names_of (slice_set scripts (position_or_len (has_name name) scripts) s) ≡ names_of scripts
set_names name [] s is = refl
set_names name (x ∷ xs) s is = by_test (has_name name x) refl (set_names name xs s is)
  where
    place : ℕ
    place = position_or_len (has_name name) xs

    by_test : (t : Bool) → has_name name x ≡ t → names_of (slice_set xs place s) ≡ names_of xs
        → names_of (slice_set (x ∷ xs) (if not t then 1 + place else 0) s) ≡ names_of (x ∷ xs)
    by_test true e later = ap (λ n. n ∷ names_of xs) (is ∙ sym ((bytes_eq-Decides x.name name).0 e))
    by_test false e later = rw one-add (ap (λ ns. x.name ∷ ns) later)

pub replaced : (scripts : List Named) (s : Named) (k : ℕ) → IsReadSetup scripts → script_of_text (text_of s) ≡ Some s
    → place_named s.name scripts ≡ Some k → IsReadSetup (slice_set scripts k s)
replaced scripts s k is one at =
    let old = sound scripts is in
    let place : position_or_len (has_name s.name) scripts ≡ k = (cond_some _ _ _ at).1 in
    let names : names_of (slice_set scripts k s) ≡ names_of scripts =
    ap (λ n. names_of (slice_set scripts n s)) (sym place) ∙ set_names s.name scripts s refl in
    let size : length (slice_set scripts k s) ≡ length scripts = length-set scripts k s in
    read_setup (slice_set scripts k s) (record {
      some = omega (arith, size, old.some);
      few = omega (arith, size, old.few);
      new = same_names [] (slice_set scripts k s) scripts names ∙ old.new;
      read = set_read scripts k s old.read one;
    })

-- one more after the others

behind_read : (scripts : List Named) (s : Named) → scripts_of_texts (texts_of scripts) ≡ Some scripts → script_of_text (text_of s) ≡ Some s
    → scripts_of_texts (texts_of (scripts ++ s ∷ [])) ≡ Some (scripts ++ s ∷ [])
behind_read [] s read one = rw one refl
behind_read (x ∷ xs) s read one = let parts = rest_read x xs read in rw (parts.0, behind_read xs s parts.1 one) refl

behind_new : (before : List (List ℕ)) (scripts : List Named) (s : Named) → are_new before (texts_of scripts) ≡ true
    → is_among s.name (before ++ names_of scripts) ≡ false → are_new before (texts_of (scripts ++ s ∷ [])) ≡ true
behind_new before [] s new none =
    let free : is_among s.name before ≡ false = ap (is_among s.name) (sym (append-nil before)) ∙ none in rw free refl
behind_new before (x ∷ xs) s new none =
    let parts = and_parts (not (is_among x.name before)) (are_new (before ++ x.name ∷ []) (texts_of xs)) new in
    let free : is_among s.name ((before ++ x.name ∷ []) ++ names_of xs) ≡ false =
    ap (is_among s.name) (append_assoc before (x.name ∷ []) (names_of xs)) ∙ none in
    rw (parts.0, behind_new (before ++ x.name ∷ []) xs s parts.1 free) refl

pub added : (scripts : List Named) (s : Named) → IsReadSetup scripts → script_of_text (text_of s) ≡ Some s → place_named s.name scripts ≡ None
    → length scripts < 15 → IsReadSetup (scripts ++ s ∷ [])
added scripts s is one at room =
    let old = sound scripts is in
    let size : length (scripts ++ s ∷ []) ≡ length scripts + 1 = length-append scripts (s ∷ []) in
    read_setup (scripts ++ s ∷ []) (record {
      some = omega (arith, size);
      few = omega (arith, size, room);
      new = behind_new [] scripts s old.new (new_name s.name scripts at);
      read = behind_read scripts s old.read one;
    })

-- names and texts of a setup that was read are not too long

all_short : (scripts : List Named) → scripts_of_texts (texts_of scripts) ≡ Some scripts → AreShort scripts
all_short [] read = tt
all_short (x ∷ xs) read =
    let parts = rest_read x xs read in
    let kept = script_kept (text_of x) x parts.0 in
    (short_name x.name kept.0, kept.1.spelled.short, all_short xs parts.1)

pub read_short : (scripts : List Named) → IsReadSetup scripts → AreShort scripts
read_short scripts is = all_short scripts (sound scripts is).read
