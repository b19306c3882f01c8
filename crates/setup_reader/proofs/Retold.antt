-- A setup is what its names and texts are read as.
use Rattle.std.proofs.Common.{◌≡◌, ℕ, suc, ◌+◌, ◌≤◌, Bool, true, false, not, List, [], ◌∷◌, ◌++◌, length, map, nat_le, nat_lt, append-nil, Option, Some, None, Result, Ok, Err, IfOk, refl, sym, ◌∙◌, ap, subst, arith, option_map, if◌then◌else◌}
use Rattle.std.specs.Prelude.{◌&&◌, ◌||◌}
use Rattle.std.specs.List.{list_any, position_or_len}
use Rattle.std.proofs.lemmas.List.{append_assoc, length-map, map-append}
use Rattle.std.proofs.lemmas.Bool.Decides.{nat_tests}
use Rattle.std.proofs.lemmas.Option.{cond_some, same_Some}
use Rattle.page_names.specs.Names.{is_name, name_in}
use Rattle.script_value.specs.Pieces.{◌>>=◌}
use Rattle.script_value.proofs.Options.{allowed, bound}
use Rattle.sexp_reader.specs.Read.{read}
use Rattle.sexp_reader.proofs.Again.{spells_read}
use Rattle.script_nodes.specs.Setup.{Named, has_name, place_named, text_of, texts_of}
use Rattle.setup_reader.specs.declared.setup.Ending.{Ending}
use Rattle.setup_reader.specs.declared.fault.SetupFault.{SetupFault}
use Rattle.setup_reader.specs.Setup.{Parsed, Fault, script_in, setup_of}
use Rattle.setup_reader.specs.Sections.{IsScript, AreScripts}
use Rattle.setup_reader.specs.Texts.{read_script, script_of_text, scripts_of_texts, is_among, are_new, can_be_setup, setup_of_texts, IsReadSetup, if_unnamed, if_new}
use Rattle.setup_reader.specs.Views.{Gives}
use Rattle.setup_reader.proofs.Sections.{Makes, data_made, setup_spelled}

-- the names of scripts
abbrev pub names_of : List Named → List (List ℕ)
names_of scripts = map (λ s. s.name) scripts

lt_both : (a b : ℕ) → nat_lt a b ≡ nat_lt (1 + a) (suc b)
lt_both a b = grind (arith, nat_tests)

first_below : (n : ℕ) → nat_lt 0 (suc n) ≡ true
first_below n = grind (arith, nat_tests)

-- a test of a list finds a place exactly where one of its items passes
found : {X : Type 0} (p : X → Bool) (xs : List X) → list_any p xs ≡ nat_lt (position_or_len p xs) (length xs)
found p [] = refl
found p (x ∷ xs) = by_test (p x) (found p xs)
  where
    by_test : (b : Bool) → list_any p xs ≡ nat_lt (position_or_len p xs) (length xs)
        → (b || list_any p xs) ≡ nat_lt (if not b then 1 + position_or_len p xs else 0) (suc (length xs))
    by_test true h = sym (first_below (length xs))
    by_test false h = h ∙ lt_both (position_or_len p xs) (length xs)

among_names : (name : List ℕ) (scripts : List Named) → is_among name (names_of scripts) ≡ list_any (has_name name) scripts
among_names name [] = refl
among_names name (s ∷ ss) = rw (among_names name ss) refl

-- a name that no script has is none of their names
pub new_name : (name : List ℕ) (scripts : List Named) → place_named name scripts ≡ None → is_among name (names_of scripts) ≡ false
new_name name scripts none = among_names name scripts ∙ found (has_name name) scripts ∙ by_test (nat_lt (position_or_len (has_name name) scripts) (length scripts)) none
  where
    by_test : (b : Bool) → (if b then Some (position_or_len (has_name name) scripts) else None) ≡ None → b ≡ false
    by_test true h = absurd (let no : ⊥ = cc in no)
    by_test false h = refl

-- a name that a script has is one of their names
pub old_name : (name : List ℕ) (scripts : List Named) (twin : ℕ) → place_named name scripts ≡ Some twin → is_among name (names_of scripts) ≡ true
old_name name scripts twin some = among_names name scripts ∙ found (has_name name) scripts ∙ by_test (nat_lt (position_or_len (has_name name) scripts) (length scripts)) some
  where
    by_test : (b : Bool) → (if b then Some (position_or_len (has_name name) scripts) else None) ≡ Some twin → b ≡ true
    by_test true h = refl
    by_test false h = absurd (let no : ⊥ = cc in no)

-- a script is what its name and its text are read as
pub script_read : (s : Named) → IsScript s → script_of_text (text_of s) ≡ Some s
script_read s is = rw (is.named, spells_read s.text is.data_of is.spelled, is.means) refl

-- so are scripts, of which each has another name than those before it

scripts_read : (before scripts : List Named) → AreScripts before scripts → scripts_of_texts (texts_of scripts) ≡ Some scripts
scripts_read before [] are = refl
scripts_read before (s ∷ ss) are = rw (script_read s are.0, scripts_read (before ++ s ∷ []) ss are.1.1) refl

names_new : (before scripts : List Named) → AreScripts before scripts → are_new (names_of before) (texts_of scripts) ≡ true
names_new before [] are = refl
names_new before (s ∷ ss) are =
    let later = names_new (before ++ s ∷ []) ss are.1.1 in
    rw (new_name s.name before are.1.0) (subst (λ names. are_new names (texts_of ss) ≡ true) (map-append (λ x. x.name) before (s ∷ [])) later)

pub setup_read : (scripts : List Named) → 1 ≤ length scripts → length scripts ≤ 15 → AreScripts [] scripts → IsReadSetup scripts
unfolding setup_of_texts
setup_read scripts some few are =
    let size : length (texts_of scripts) ≡ length scripts = length-map scripts text_of in
    let least : nat_le 1 (length (texts_of scripts)) ≡ true = grind (arith, nat_tests) in
    let most : nat_le (length (texts_of scripts)) 15 ≡ true = grind (arith, nat_tests) in
    rw (least, most, names_new [] scripts are) (scripts_read [] scripts are)

pub answer_read : {X : Type 0} (view : X → Parsed) (ending : Ending) (input : List ℕ) (r : Result X SetupFault) → Gives view r (setup_of ending input)
    → IfOk r (λ x. IsReadSetup (view x).scripts)
answer_read view ending input (Ok x) h = let is = setup_spelled ending input (view x) h in setup_read (view x).scripts is.some is.few is.scripts
answer_read view ending input (Err e) h = tt

-- a script that is read has the name and the text that it was read from
pub script_kept : (t : List ℕ × List ℕ) (s : Named) → script_of_text t ≡ Some s → (is_name t.0 ≡ true) × Makes t.0 t.1 s
script_kept t s e =
    let name = bound (name_in t.0) _ s e in
    let is = cond_some _ _ _ name.1 in
    (is.0, by_text (script_in name.0 t.1) refl name.2 is.1)
  where
    by_text : {name : List ℕ} (r : Result Named Fault) → script_in name t.1 ≡ r → read_script r ≡ Some s → t.0 ≡ name → Makes t.0 t.1 s
    by_text {name} (Ok x) same h is =
        let made = data_made name t.1 (read t.1) s refl (same ∙ ap Ok (same_Some _ _ h)) in
        subst (λ n. Makes n t.1 s) (sym is) made
    by_text (Err x) same h is = absurd (let no : ⊥ = cc in no)

-- scripts that are read one after the other

-- the scripts that names and texts are after these scripts: none where one is no script, or has the name of one before it
abbrev pub read_behind : List Named → List (List ℕ × List ℕ) → Option (List Named)
read_behind scripts [] = Some scripts
read_behind scripts (t ∷ ts) = do
  s ← if_new scripts (script_of_text t)
  read_behind (scripts ++ s ∷ []) ts

neither : {A : Type 0} (b : Bool) (o : Option A) → o ≡ None → (if b then o else None) ≡ None
neither true o e = e
neither false o e = refl

regroup : (scripts : List Named) (s : Named) (o : Option (List Named))
    → option_map (λ more. (scripts ++ s ∷ []) ++ more) o ≡ option_map (λ more. scripts ++ more) (o >>= (λ ss. Some (s ∷ ss)))
regroup scripts s None = refl
regroup scripts s (Some ss) = ap Some (append_assoc scripts (s ∷ []) ss)

-- what is read after scripts, for the texts as a whole
abbrev whole : List Named → List (List ℕ × List ℕ) → Option (List Named)
whole scripts ts = if are_new (names_of scripts) ts then option_map (λ more. scripts ++ more) (scripts_of_texts ts) else None

behind_read : (scripts : List Named) (ts : List (List ℕ × List ℕ)) → read_behind scripts ts ≡ whole scripts ts
behind_read scripts [] = ap Some (sym (append-nil scripts))
behind_read scripts (t ∷ ts) = by_script (script_of_text t) refl (λ s. behind_read (scripts ++ s ∷ []) ts)
  where
    names : List (List ℕ)
    names = names_of scripts

    wanted : Option Named → Option (List Named)
    wanted o =
        if not (is_among t.0 names) && are_new (names ++ t.0 ∷ []) ts
        then option_map (λ more. scripts ++ more) (o >>= (λ s. scripts_of_texts ts >>= (λ ss. Some (s ∷ ss)))) else None

    by_place : (s : Named) (place : Option ℕ) → s.name ≡ t.0 → place_named s.name scripts ≡ place
        → read_behind (scripts ++ s ∷ []) ts ≡ whole (scripts ++ s ∷ []) ts
        → (if_unnamed s place >>= (λ s. read_behind (scripts ++ s ∷ []) ts)) ≡ wanted (Some s)
    by_place s (Some twin) named e later = rw (← named, old_name s.name scripts twin e) refl
    by_place s None named e later =
        let new : is_among t.0 names ≡ false = ap (λ n. is_among n names) (sym named) ∙ new_name s.name scripts e in
        let all : names_of (scripts ++ s ∷ []) ≡ names ++ t.0 ∷ [] = map-append (λ x. x.name) scripts (s ∷ []) ∙ ap (λ n. names ++ n ∷ []) named in
        later
        ∙ ap (λ o. if are_new (names_of (scripts ++ s ∷ [])) ts then o else None) (regroup scripts s (scripts_of_texts ts))
        ∙ rw (all, new) refl

    by_script : (o : Option Named) → script_of_text t ≡ o
        → ((s : Named) → read_behind (scripts ++ s ∷ []) ts ≡ whole (scripts ++ s ∷ []) ts)
        → (if_new scripts o >>= (λ s. read_behind (scripts ++ s ∷ []) ts)) ≡ wanted o
    by_script None e later = sym (neither (not (is_among t.0 names) && are_new (names ++ t.0 ∷ []) ts) None refl)
    by_script (Some s) e later = by_place s (place_named s.name scripts) (script_kept t s e).1.name_is refl (later s)

same_map : (o : Option (List Named)) → option_map (λ more. [] ++ more) o ≡ o
same_map None = refl
same_map (Some ss) = refl

-- so a setup is read, where there are as many texts as there may be
pub right_count : (ts : List (List ℕ × List ℕ)) → (nat_le 1 (length ts) && nat_le (length ts) 15) ≡ true → read_behind [] ts ≡ setup_of_texts ts
unfolding setup_of_texts
right_count ts count = behind_read [] ts ∙ ap (λ o. if are_new [] ts then o else None) (same_map (scripts_of_texts ts)) ∙ rw count refl

pub wrong_count : (ts : List (List ℕ × List ℕ)) → (nat_le 1 (length ts) && nat_le (length ts) 15) ≡ false → setup_of_texts ts ≡ None
unfolding setup_of_texts
wrong_count ts count = rw count refl

-- a setup that is read is what its names and texts are read as

texts_kept : (ts : List (List ℕ × List ℕ)) (scripts : List Named) → scripts_of_texts ts ≡ Some scripts → texts_of scripts ≡ ts
texts_kept [] scripts e = ap texts_of (sym (same_Some _ _ e))
texts_kept (t ∷ ts) scripts e =
    let first = bound (script_of_text t) _ scripts e in
    let more = bound (scripts_of_texts ts) _ scripts first.2 in
    let kept = script_kept t first.0 first.1 in
    let head : text_of first.0 ≡ t = ap (λ n. (n, first.0.text)) kept.1.name_is ∙ ap (λ x. (t.0, x)) kept.1.text_is in
    ap texts_of (sym (same_Some _ _ more.2)) ∙ ap (λ x. x ∷ texts_of more.0) head ∙ ap (λ xs. t ∷ xs) (texts_kept ts more.0 more.1)

pub setup_kept : (ts : List (List ℕ × List ℕ)) (scripts : List Named) → setup_of_texts ts ≡ Some scripts → texts_of scripts ≡ ts
unfolding setup_of_texts
setup_kept ts scripts e = texts_kept ts scripts (allowed (can_be_setup ts) (scripts_of_texts ts) scripts e).1

pub retold : (ts : List (List ℕ × List ℕ)) (scripts : List Named) → setup_of_texts ts ≡ Some scripts → IsReadSetup scripts
retold ts scripts e = ap setup_of_texts (setup_kept ts scripts e) ∙ e
