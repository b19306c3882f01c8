-- The search for the end of a head.
use Rattle.std.proofs.Common.{◌≡◌, ◌≤◌, ◌<◌, ◌+◌, ◌-◌, ◌==◌, ◌++◌, ◌∷◌, ℕ, zero, suc, false, List, [], length, take, drop, get_or, Option, Some, None, arith, refl, sym, ap, ◌∙◌, subst, append-nil, drop-cons, option_map, length-drop}
use Rattle.std.proofs.lemmas.Bool.{false_from_ne_true}
use Rattle.std.proofs.lemmas.List.{append_assoc, take-append-drop, take_all, take_more, length-take-le, take_rest}
use Rattle.std.proofs.Math.Seq.{take-append-add}
use Rattle.http_forms.specs.Head.{lines_end, head_end}
use Rattle.http_forms.specs.Scan.{end_from, end_behind, HasPassed, LacksLineFeed}
use Rattle.http_forms.specs.declared.head.Phase.{Phase}
use Rattle.http_forms.specs.declared.head.Phase.TheVariants as phases
use Rattle.http_forms.proofs.Ends.{none_ends}

-- all was passed over
pub no_end : (phase : Phase) (bytes : List ℕ) (p : ℕ) → length bytes ≤ p → HasPassed phase (take p bytes) → head_end bytes ≡ None
no_end phase bytes p h passed =
    ap head_end (sym (append-nil bytes ∙ refl)) ∙ (ap (λ xs. head_end (xs ++ [])) (sym (take_all p bytes h))
    ∙ (passed [] ∙ ap (option_map (λ n. length (take p bytes) + n)) (none_ends phase)))

-- so many more, after as many more again
shift_twice : (o : Option ℕ) (a b c : ℕ) → c ≡ a + b → option_map (λ n. a + n) (option_map (λ n. b + n) o) ≡ option_map (λ n. c + n) o
shift_twice None a b c e = refl
shift_twice (Some n) a b c e = let same : a + (b + n) ≡ c + n = omega arith in ap Some same

shift_one : (o : Option ℕ) (a c : ℕ) → c ≡ a + 1 → option_map (λ n. a + n) (option_map suc o) ≡ option_map (λ n. c + n) o
shift_one None a c e = refl
shift_one (Some n) a c e = let same : a + suc n ≡ c + n = omega arith in ap Some same

one_more : (o : Option ℕ) (k : ℕ) → option_map suc (option_map (λ n. k + n) o) ≡ option_map (λ n. suc k + n) o
one_more None k = refl
one_more (Some n) k = let same : suc (k + n) ≡ suc k + n = omega arith in ap Some same

no_more : (o : Option ℕ) → o ≡ option_map (λ n. 0 + n) o
no_more None = refl
no_more (Some n) = let same : n ≡ 0 + n = omega arith in ap Some same

-- one byte more was passed over
pub passes_one : (phase next : Phase) (bytes : List ℕ) (p : ℕ) → p < length bytes → HasPassed phase (take p bytes)
    → ((more : List ℕ) → end_from phase (get_or bytes p 0 ∷ more) ≡ end_behind (Some next) more)
    → HasPassed next (take (p + 1) bytes)
passes_one phase next bytes p h passed steps = λ more.
    let longer : length (take (p + 1) bytes) ≡ length (take p bytes) + 1 =
    omega (arith, length-take-le p bytes (omega arith), length-take-le (p + 1) bytes (omega arith)) in
    ap (λ xs. head_end (xs ++ more)) (take_more bytes p 0 h)
    ∙ (ap head_end (append_assoc (take p bytes) (get_or bytes p 0 ∷ []) more)
    ∙ (passed (get_or bytes p 0 ∷ more)
    ∙ (ap (option_map (λ n. length (take p bytes) + n)) (steps more)
    ∙ shift_one (end_from next more) (length (take p bytes)) (length (take (p + 1) bytes)) longer)))

-- a line goes on over bytes none of which is a line feed
goes_on_over : (bytes more : List ℕ) (k : ℕ) → k ≤ length bytes → LacksLineFeed bytes k
    → lines_end (take k bytes ++ more) ≡ option_map (λ n. k + n) (lines_end more)
goes_on_over bytes more zero h none = no_more (lines_end more)
goes_on_over [] more (suc k) h none = absurd (omega arith)
goes_on_over (b ∷ bytes) more (suc k) h none =
    let other : (b == 10) ≡ false = false_from_ne_true (b == 10) (none 0 (omega arith) (omega arith)) in
    rw other (ap (option_map suc) (goes_on_over bytes more k (omega arith) (λ j low high is. none (suc j) (omega arith) (omega arith) is))
    ∙ one_more (lines_end more) k)

passes_line : (bytes : List ℕ) (p k : ℕ) → p + k ≤ length bytes → LacksLineFeed (drop p bytes) k
    → HasPassed phases.Line (take p bytes) → HasPassed phases.Line (take (p + k) bytes)
passes_line bytes p k h none passed = λ more.
    let front : length (take p bytes) ≡ p = length-take-le p bytes (omega arith) in
    let longer : length (take (p + k) bytes) ≡ length (take p bytes) + k =
    omega (arith, front, length-take-le (p + k) bytes (omega arith)) in
    let left : k ≤ length (drop p bytes) = omega (arith, length-drop p bytes) in
    let parts : take (p + k) bytes ≡ take p bytes ++ take k (drop p bytes) =
    ap (λ n. take (n + k) bytes) (sym front)
    ∙ (ap (take (length (take p bytes) + k)) (sym (take-append-drop p bytes))
    ∙ take-append-add (take p bytes) (drop p bytes) k) in
    ap (λ xs. head_end (xs ++ more)) parts
    ∙ (ap head_end (append_assoc (take p bytes) (take k (drop p bytes)) more)
    ∙ (passed (take k (drop p bytes) ++ more)
    ∙ (ap (option_map (λ n. length (take p bytes) + n)) (goes_on_over (drop p bytes) more k left none)
    ∙ shift_twice (lines_end more) (length (take p bytes)) k (length (take (p + k) bytes)) longer)))

-- a line was passed over up to its end
pub passes_to_end : (phase : Phase) (bytes : List ℕ) (p k : ℕ) → phase ≡ phases.Line → p ≤ length bytes
    → k ≤ length (take (length bytes - p) (drop p bytes)) → LacksLineFeed (take (length bytes - p) (drop p bytes)) k
    → HasPassed phase (take p bytes) → HasPassed phase (take (p + k) bytes)
passes_to_end phase bytes p k line h inside none passed =
    let rest = take_rest bytes p in
    let fits : k ≤ length (drop p bytes) = subst (λ (xs : List ℕ). k ≤ length xs) rest inside in
    let short : p + k ≤ length bytes = omega (arith, h, fits, length-drop p bytes) in
    subst (λ (q : Phase). HasPassed q (take (p + k) bytes)) (sym line)
    (passes_line bytes p k short (subst (λ (xs : List ℕ). LacksLineFeed xs k) rest none)
    (subst (λ (q : Phase). HasPassed q (take p bytes)) line passed))

-- the head ends with the byte at p
pub ends_here : (phase : Phase) (bytes : List ℕ) (p : ℕ) → p < length bytes → HasPassed phase (take p bytes)
    → ((more : List ℕ) → end_from phase (get_or bytes p 0 ∷ more) ≡ end_behind None more)
    → head_end bytes ≡ Some (p + 1)
ends_here phase bytes p h passed ends =
    let whole : bytes ≡ take p bytes ++ (get_or bytes p 0 ∷ drop (suc p) bytes) =
    sym (take-append-drop p bytes) ∙ ap (λ xs. take p bytes ++ xs) (drop-cons bytes p 0 h) in
    ap head_end whole ∙ (passed (get_or bytes p 0 ∷ drop (suc p) bytes)
    ∙ (ap (option_map (λ n. length (take p bytes) + n)) (ends (drop (suc p) bytes))
    ∙ ap (λ n. Some (n + 1)) (length-take-le p bytes (omega arith))))
