-- The setups that names and texts are read as can be run, and no name stands twice in them.
use Rattle.std.proofs.Common.{◌≡◌, ℕ, zero, suc, ◌+◌, Bool, true, false, not, List, [], ◌∷◌, ◌++◌, length, Some, None, Result, Ok, Err, refl, sym, ap, subst, ◌∙◌, slice_get, if◌then◌else◌, arith}
use Rattle.std.specs.Prelude.{◌&&◌, nat_le, nat_lt, ⊤}
use Rattle.std.specs.List.{position_or_len}
use Rattle.std.specs.Str.{bytes_eq}
use Rattle.std.proofs.lemmas.Bool.{and_parts, or_parts, or_from}
use Rattle.std.proofs.lemmas.Bool.Decides.{nat_tests}
use Rattle.std.proofs.lemmas.Option.{slice_get_within}
use Rattle.std.proofs.lemmas.Slice.Eq.{bytes_eq-Decides}
use Rattle.script_value.specs.Val.{Val}
use Rattle.script_value.specs.Pieces.{◌>>=◌}
use Rattle.script_value.proofs.Options.{allowed, bound}
use Rattle.page_names.specs.Names.{is_name, name_in}
use Rattle.script_nodes.specs.Arena.{IsScript, arena_of, script_of}
use Rattle.script_nodes.specs.Core.{Core, core, cores_of}
use Rattle.script_nodes.specs.Setup.{Script, Named, has_name}
use Rattle.script_nodes.proofs.Scripts.{script_laid}
use Rattle.core_syntax.specs.declared.faults.SyntaxKind.{SyntaxKind}
use Rattle.core_syntax.specs.declared.faults.SyntaxKind.TheVariants.{TooMany}
use Rattle.core_syntax.specs.Definitions.{Defined, nothing_defined, form_defined, are_too_many, limited, at_form, and_then, expanded, expanded_from, expression_at}
use Rattle.core_syntax.specs.Expands.{IsLevel}
use Rattle.core_syntax.specs.Forms.{core_of}
use Rattle.core_syntax.specs.Headings.{is_definition}
use Rattle.core_syntax.specs.Names.{parameters_in}
use Rattle.core_syntax.proofs.Expanding.{bodies_closed, expression_closed}
use Rattle.core_syntax.proofs.Forming.{Stays, total, starts_level, next_form}
use Rattle.sexp_reader.specs.Read.{read}
use Rattle.sexp_reader.specs.declared.fault.ReadKind.{ReadKind}
use Rattle.server_limits.specs.Counts.{most_scripts}
use Rattle.setup_reader.specs.Setup.{by_forms, by_data, script_in}
use Rattle.setup_reader.specs.Texts.{read_script, script_of_text, scripts_of_texts, is_among, are_new, can_be_setup, setup_of_texts}
use Rattle.journal_spec.specs.Whole.{IsWhole, AreWhole}
use Rattle.audit_spec.specs.Meaning.{AreApart}
use Rattle.audit_spec.specs.Setups.{SetupsCanBeRun}

-- ---- what the table of forms gives is whole

-- a script is what its nodes in pre-order mean
abbrev IsLaid : Script → Type 0
IsLaid s = IsScript (arena_of s) × (script_of (arena_of s) ≡ s)

limited_laid : (d : Defined) (v : Val) (n : ℕ) (s : Script) → IsLevel d → (r : Result Core SyntaxKind) → core_of d.names [] false v ≡ r → at_form n (limited d r) ≡ Ok s → IsLaid s
limited_laid d v n s level (Err k) e h = absurd (let no : ⊥ = cc in no)
limited_laid d v n s level (Ok c) e h = by_size (are_too_many (core c (cores_of d.tasks))) h
  where
    means : Script
    means = record { web = d.web; cells = d.cells; tasks = cores_of d.tasks; body = c }

    by_size : (t : Bool) → at_form n (if t then Err TooMany else Ok means) ≡ Ok s → IsLaid s
    by_size true h = absurd (let no : ⊥ = cc in no)
    by_size false h =
        let same : means ≡ s = cc in
        subst IsLaid same (script_laid means (parameters_in d.names) (expression_closed d v c level e) (bodies_closed d level))

expression_laid : (d : Defined) (v : Val) (vs : List Val) (n : ℕ) (s : Script) → IsLevel d → expression_at n d v vs ≡ Ok s → IsLaid s
expression_laid d v [] n s level h = limited_laid d v n s level (core_of d.names [] false v) refl h
expression_laid d v (w ∷ vs) n s level h = absurd (let no : ⊥ = cc in no)

expanded_laid : (vs : List Val) (d : Defined) (s : Script) → Stays d → expanded_from (total d) d vs ≡ Ok s → IsLaid s
expanded_laid [] d s stays h = absurd (let no : ⊥ = cc in no)
expanded_laid (v ∷ vs) d s stays h = by_kind (λ t g e. expanded_laid vs t s g e) (is_definition v) refl h
  where
    by_form : (r : Result Defined SyntaxKind) → is_definition v ≡ true → form_defined v vs d ≡ r → and_then (at_form (total d) r) (λ t. expanded_from (total d + 1) t vs) ≡ Ok s
        → (t : Defined) × (Stays t × (expanded_from (total t) t vs ≡ Ok s))
    by_form (Err k) is e g = absurd (let no : ⊥ = cc in no)
    by_form (Ok t) is e g =
        let next = next_form v vs d t stays is e in
        (t, (next.0.stays, ap (λ (n : ℕ). expanded_from n t vs) next.0.one ∙ g))

    by_kind : ((t : Defined) → Stays t → expanded_from (total t) t vs ≡ Ok s → IsLaid s) → (b : Bool) → is_definition v ≡ b
        → (if b then and_then (at_form (total d) (form_defined v vs d)) (λ t. expanded_from (total d + 1) t vs) else expression_at (total d) d v vs) ≡ Ok s → IsLaid s
    by_kind later true is g = let t = by_form (form_defined v vs d) is refl g in later t.0 t.1.0 t.1.1
    by_kind later false is g = expression_laid d v vs (total d) s stays.level g

whole_expanded : (vs : List Val) (s : Script) → expanded vs ≡ Ok s → IsLaid s
whole_expanded vs s h = let start = starts_level nothing_defined vs refl in expanded_laid vs nothing_defined s start.0 (sym start.1 ∙ h)

-- ---- scripts of texts

-- a script of this name that can be run
record IsOf (name : List ℕ) (s : Named) : Type 0 where
  named : s.name ≡ name
  whole : IsWhole s

forms_whole : (name text : List ℕ) (vs : List Val) (s : Named) → (r : Result Script (SyntaxKind × ℕ)) → expanded vs ≡ r → read_script (by_forms name text r) ≡ Some s → IsOf name s
forms_whole name text vs s (Err e) is h = absurd (let no : ⊥ = cc in no)
forms_whole name text vs s (Ok script) is h =
    let laid = whole_expanded vs script is in
    let own : Named = record { name = name; text = text; script = script } in
    let same : own ≡ s = cc in
    subst (IsOf name) same (record { named = refl; whole = record { script = laid.0; means = sym laid.1 } })

data_whole : (name text : List ℕ) (s : Named) → (r : Result (List Val) (ℕ × ReadKind)) → read_script (by_data name text r) ≡ Some s → IsOf name s
data_whole name text s (Err e) h = absurd (let no : ⊥ = cc in no)
data_whole name text s (Ok vs) h = forms_whole name text vs s (expanded vs) refl h

text_whole : (t : List ℕ × List ℕ) (s : Named) → script_of_text t ≡ Some s → IsOf t.0 s
text_whole t s h =
    let name = bound (name_in t.0) (λ n. read_script (script_in n t.1)) s h in
    let own = allowed (is_name t.0) (Some t.0) name.0 name.1 in
    let same : name.0 ≡ t.0 = let some : Some t.0 ≡ Some name.0 = own.1 in cc in
    subst (λ (n : List ℕ). IsOf n s) same (data_whole name.0 t.1 s (read t.1) name.2)

-- the scripts of these texts: each can be run, and has its text's name
abbrev AreOf : List (List ℕ × List ℕ) → List Named → Type 0
AreOf [] [] = ⊤
AreOf (t ∷ ts) (s ∷ ss) = IsOf t.0 s × AreOf ts ss
AreOf _ _ = ⊥

texts_whole : (ts : List (List ℕ × List ℕ)) (ss : List Named) → scripts_of_texts ts ≡ Some ss → AreOf ts ss
texts_whole [] ss h = let same : [] ≡ ss = cc in subst (AreOf []) same tt
texts_whole (t ∷ ts) ss h =
    let first = bound (script_of_text t) (λ script. scripts_of_texts ts >>= (λ scripts. Some (script ∷ scripts))) ss h in
    let rest = bound (scripts_of_texts ts) (λ scripts. Some (first.0 ∷ scripts)) ss first.2 in
    let same : first.0 ∷ rest.0 ≡ ss = cc in
    subst (AreOf (t ∷ ts)) same (text_whole t first.0 first.1, texts_whole ts rest.0 rest.1)

whole_at : (ts : List (List ℕ × List ℕ)) (ss : List Named) → AreOf ts ss → AreWhole ss
whole_at [] [] h k s e = absurd (let no : ⊥ = cc in no)
whole_at [] (s ∷ ss) h k x e = absurd h
whole_at (t ∷ ts) [] h k x e = absurd h
whole_at (t ∷ ts) (s ∷ ss) h zero x e = let same : s ≡ x = cc in subst IsWhole same h.0.whole
whole_at (t ∷ ts) (s ∷ ss) h (suc k) x e = whole_at ts ss h.1 k x e

-- ---- no name stands twice

-- a name that is none of these names with one more
among_parts : (name : List ℕ) (before : List (List ℕ)) (x : List ℕ) → is_among name (before ++ x ∷ []) ≡ false → (is_among name before ≡ false) × (bytes_eq x name ≡ false)
among_parts name [] x h = (refl, (or_parts (bytes_eq x name) false h).0)
among_parts name (b ∷ before) x h =
    let p = or_parts (bytes_eq b name) (is_among name (before ++ x ∷ [])) h in
    let q = among_parts name before x p.1 in
    (or_from (bytes_eq b name) (is_among name before) p.0 q.0, q.1)

not_true : (b : Bool) → not b ≡ true → b ≡ false
not_true true h = absurd (let no : ⊥ = cc in no)
not_true false h = refl

-- a script after others has none of their names
new_name : (before : List (List ℕ)) (ts : List (List ℕ × List ℕ)) (ss : List Named) (k : ℕ) (s : Named) → are_new before ts ≡ true → AreOf ts ss → slice_get ss k ≡ Some s → is_among s.name before ≡ false
new_name before [] [] k s new h e = absurd (let no : ⊥ = cc in no)
new_name before [] (x ∷ ss) k s new h e = absurd h
new_name before (t ∷ ts) [] k s new h e = absurd h
new_name before (t ∷ ts) (x ∷ ss) zero s new h e =
    let same : x ≡ s = cc in
    let parts = and_parts (not (is_among t.0 before)) (are_new (before ++ t.0 ∷ []) ts) new in
    let name : t.0 ≡ s.name = sym h.0.named ∙ ap (λ (y : Named). y.name) same in
    subst (λ (n : List ℕ). is_among n before ≡ false) name (not_true (is_among t.0 before) parts.0)
new_name before (t ∷ ts) (x ∷ ss) (suc k) s new h e =
    let parts = and_parts (not (is_among t.0 before)) (are_new (before ++ t.0 ∷ []) ts) new in
    (among_parts s.name before t.0 (new_name (before ++ t.0 ∷ []) ts ss k s parts.1 h.1 e)).0

first_place : (name : List ℕ) (s : Named) (ss : List Named) → bytes_eq s.name name ≡ true → position_or_len (has_name name) (s ∷ ss) ≡ 0
first_place name s ss e = rw e refl

later_place : (name : List ℕ) (s : Named) (ss : List Named) → bytes_eq s.name name ≡ false → position_or_len (has_name name) (s ∷ ss) ≡ 1 + position_or_len (has_name name) ss
later_place name s ss e = rw e refl

its_place : (before : List (List ℕ)) (ts : List (List ℕ × List ℕ)) (ss : List Named) (k : ℕ) (s : Named) → are_new before ts ≡ true → AreOf ts ss → slice_get ss k ≡ Some s
    → position_or_len (has_name s.name) ss ≡ k
its_place before [] [] k s new h e = absurd (let no : ⊥ = cc in no)
its_place before [] (x ∷ ss) k s new h e = absurd h
its_place before (t ∷ ts) [] k s new h e = absurd h
its_place before (t ∷ ts) (x ∷ ss) zero s new h e =
    let same : x ≡ s = cc in
    first_place s.name x ss ((bytes_eq-Decides x.name s.name).1 (ap (λ (y : Named). y.name) same))
its_place before (t ∷ ts) (x ∷ ss) (suc k) s new h e =
    let parts = and_parts (not (is_among t.0 before)) (are_new (before ++ t.0 ∷ []) ts) new in
    let differs = (among_parts s.name before t.0 (new_name (before ++ t.0 ∷ []) ts ss k s parts.1 h.1 e)).1 in
    let other : bytes_eq x.name s.name ≡ false = subst (λ (n : List ℕ). bytes_eq n s.name ≡ false) (sym h.0.named) differs in
    let rest = its_place (before ++ t.0 ∷ []) ts ss k s parts.1 h.1 e in
    later_place s.name x ss other ∙ (ap (λ (n : ℕ). 1 + n) rest ∙ omega arith)

apart_at : (ts : List (List ℕ × List ℕ)) (ss : List Named) → are_new [] ts ≡ true → AreOf ts ss → AreApart ss
apart_at ts ss new h k s e =
    let place = its_place [] ts ss k s new h e in
    let within = slice_get_within ss k s e in
    let there : nat_lt k (length ss) ≡ true = grind (arith, nat_tests, within) in
    ap (λ (n : ℕ). if nat_lt n (length ss) then Some n else None) place ∙ ap (λ (b : Bool). if b then Some k else None) there

-- what names and texts are read as
record IsRead (ts : List (List ℕ × List ℕ)) (ss : List Named) : Type 0 where
  new : are_new [] ts ≡ true
  are : AreOf ts ss

setup_read : (ts : List (List ℕ × List ℕ)) (ss : List Named) → setup_of_texts ts ≡ Some ss → IsRead ts ss
unfolding setup_of_texts
setup_read ts ss h =
    let parts = allowed (can_be_setup ts) (scripts_of_texts ts) ss h in
    let counts = nat_le 1 (length ts) && nat_le (length ts) most_scripts in
    record { new = (and_parts counts (are_new [] ts) parts.0).1; are = texts_whole ts ss parts.1 }

pub can_be_run : SetupsCanBeRun
can_be_run = record {
  whole = λ ts ss h. whole_at ts ss (setup_read ts ss h).are;
  apart = λ ts ss h. let r = setup_read ts ss h in apart_at ts ss r.new r.are;
}
