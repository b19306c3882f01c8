-- Where a head ends, and that it ends there whatever follows.
use Rattle.std.proofs.Common.{◌≡◌, ◌≤◌, ◌<◌, ◌++◌, ◌∷◌, ◌==◌, ℕ, suc, List, [], length, Option, Some, None, arith, refl, sym, ap, ◌∙◌, subst, option_map}
use Rattle.std.specs.Prelude.{if◌then◌else◌, IfSome}
use Rattle.std.proofs.lemmas.Bool.Decides.{nat_tests}
use Rattle.http_forms.specs.Head.{head_end}
use Rattle.http_forms.specs.Scan.{end_from, end_behind}
use Rattle.http_forms.specs.declared.head.Phase.{Phase}
use Rattle.http_forms.specs.declared.head.Phase.TheVariants as phases

next : Phase → ℕ → Option Phase
next phases.Blank b = if b == 10 then Some phases.Blank else (if b == 13 then Some phases.BlankReturn else Some phases.Line)
next phases.BlankReturn b = if b == 10 then Some phases.Blank else Some phases.Line
next phases.Line b = if b == 10 then Some phases.LineFeed else Some phases.Line
next phases.LineFeed b = if b == 10 then None else (if b == 13 then Some phases.LineReturn else Some phases.Line)
next phases.LineReturn b = if b == 10 then None else Some phases.Line

-- one byte more, whatever follows it
goes_on : (phase : Phase) (b : ℕ) (more : List ℕ) → end_from phase (b ∷ more) ≡ end_behind (next phase b) more
unfolding next
goes_on phases.Blank b more = grind (arith, nat_tests)
goes_on phases.BlankReturn b more = grind (arith, nat_tests)
goes_on phases.Line b more = grind (arith, nat_tests)
goes_on phases.LineFeed b more = grind (arith, nat_tests)
goes_on phases.LineReturn b more = grind (arith, nat_tests)

pub none_ends : (phase : Phase) → end_from phase [] ≡ None
none_ends phases.Blank = refl
none_ends phases.BlankReturn = refl
none_ends phases.Line = refl
none_ends phases.LineFeed = refl
none_ends phases.LineReturn = refl

-- a number after a `suc`
taken : (e : Option ℕ) (n : ℕ) (P : ℕ → Type 0) → ((k : ℕ) → e ≡ Some k → P (suc k)) → option_map suc e ≡ Some n → P n
taken None n P f h = absurd (cc)
taken (Some k) n P f h = (let e : suc k ≡ n = cc in subst P e (f k refl))

inside_behind : (o : Option Phase) (bytes : List ℕ) (n : ℕ) → ((phase : Phase) (k : ℕ) → end_from phase bytes ≡ Some k → k ≤ length bytes)
    → end_behind o bytes ≡ Some n → n ≤ suc (length bytes)
inside_behind None bytes n f h = (let e : 1 ≡ n = cc in omega arith)
inside_behind (Some phase) bytes n f h = taken (end_from phase bytes) n (λ m. m ≤ suc (length bytes)) (λ k e. (let i = f phase k e in omega arith)) h

inside : (phase : Phase) (bytes : List ℕ) (n : ℕ) → end_from phase bytes ≡ Some n → n ≤ length bytes
inside phase [] n h = absurd (cc (none_ends phase))
inside phase (b ∷ bytes) n h = inside_behind (next phase b) bytes n (λ q k e. inside q bytes k e) (sym (goes_on phase b bytes) ∙ h)

stays_behind : (o : Option Phase) (bytes more : List ℕ) (n : ℕ)
    → ((phase : Phase) (k : ℕ) → end_from phase bytes ≡ Some k → end_from phase (bytes ++ more) ≡ Some k)
    → end_behind o bytes ≡ Some n → end_behind o (bytes ++ more) ≡ Some n
stays_behind None bytes more n f h = h
stays_behind (Some phase) bytes more n f h =
    taken (end_from phase bytes) n (λ m. option_map suc (end_from phase (bytes ++ more)) ≡ Some m) (λ k e. ap (option_map suc) (f phase k e)) h

stays : (phase : Phase) (bytes more : List ℕ) (n : ℕ) → end_from phase bytes ≡ Some n → end_from phase (bytes ++ more) ≡ Some n
stays phase [] more n h = absurd (cc (none_ends phase))
stays phase (b ∷ bytes) more n h =
    goes_on phase b (bytes ++ more) ∙ stays_behind (next phase b) bytes more n (λ q k e. stays q bytes more k e) (sym (goes_on phase b bytes) ∙ h)

positive_behind : (o : Option Phase) (bytes : List ℕ) (n : ℕ) → end_behind o bytes ≡ Some n → 0 < n
positive_behind None bytes n h = (let e : 1 ≡ n = cc in omega arith)
positive_behind (Some phase) bytes n h = taken (end_from phase bytes) n (λ m. 0 < m) (λ k e. omega arith) h

positive : (phase : Phase) (bytes : List ℕ) (n : ℕ) → end_from phase bytes ≡ Some n → 0 < n
positive phase [] n h = absurd (cc (none_ends phase))
positive phase (b ∷ bytes) n h = positive_behind (next phase b) bytes n (sym (goes_on phase b bytes) ∙ h)

still_none : (e : Option ℕ) → option_map suc e ≡ None → e ≡ None
still_none None h = refl
still_none (Some k) h = absurd (cc)

later_behind : (o : Option Phase) (bytes more : List ℕ) (n : ℕ)
    → ((phase : Phase) (k : ℕ) → end_from phase bytes ≡ None → end_from phase (bytes ++ more) ≡ Some k → length bytes < k)
    → end_behind o bytes ≡ None → end_behind o (bytes ++ more) ≡ Some n → suc (length bytes) < n
later_behind None bytes more n f none some = absurd (cc)
later_behind (Some phase) bytes more n f none some =
    taken (end_from phase (bytes ++ more)) n (λ m. suc (length bytes) < m)
    (λ k e. (let i = f phase k (still_none (end_from phase bytes) none) e in omega arith)) some

later : (phase : Phase) (bytes more : List ℕ) (n : ℕ) → end_from phase bytes ≡ None → end_from phase (bytes ++ more) ≡ Some n → length bytes < n
later phase [] more n none some = positive phase more n some
later phase (b ∷ bytes) more n none some =
    later_behind (next phase b) bytes more n (λ q k x y. later q bytes more k x y)
    (sym (goes_on phase b bytes) ∙ none) (sym (goes_on phase b (bytes ++ more)) ∙ some)

-- a head ends inside the bytes that hold its end
pub head_inside : (bytes : List ℕ) (n : ℕ) → head_end bytes ≡ Some n → n ≤ length bytes
head_inside bytes n h = inside phases.Blank bytes n h

-- and there whatever follows
pub head_stays : (bytes more : List ℕ) (n : ℕ) → head_end bytes ≡ Some n → head_end (bytes ++ more) ≡ Some n
head_stays bytes more n h = stays phases.Blank bytes more n h

-- where the end is not there yet, it comes after these bytes
pub head_later : (bytes more : List ℕ) (n : ℕ) → head_end bytes ≡ None → head_end (bytes ++ more) ≡ Some n → length bytes < n
head_later bytes more n none some = later phases.Blank bytes more n none some

-- the same as one fact on the answer of a search
pub answer_inside : (bytes : List ℕ) (o : Option ℕ) → o ≡ head_end bytes → IfSome o (λ n. n ≤ length bytes)
answer_inside bytes None is = tt
answer_inside bytes (Some n) is = head_inside bytes n (sym is)
