-- What bytes come to is one thing, and stays it.
use Rattle.std.proofs.Common.{◌≡◌, ◌≤◌, ◌<◌, ◌+◌, ◌||◌, ◌++◌, ℕ, List, [], Bool, true, false, length, take, drop, nat_lt, nat_le, Option, Some, None, Result, Ok, Err, arith, refl, sym, ap, ◌∙◌, subst, length-append}
use Rattle.std.proofs.lemmas.Bool.Decides.{nat_tests}
use Rattle.std.proofs.lemmas.List.{take-append-le, drop-append-le, length-take-le}
use Rattle.httparse.specs.Grammar.{RequestHead}
use Rattle.httparse.proofs.GrammarLemmas.{request_unique}
use Rattle.http_forms.specs.Head.{head_end, field_lines, without_blank}
use Rattle.http_forms.specs.Rows.{Asked, IsParsed, JudgesLines, Judges, head_verdict}
use Rattle.http_forms.specs.Request.{Outcome, unfinished, refused, without_head, visit_of, with_head, DecidesAt, Decides}
use Rattle.http_forms.specs.Laws.{OutcomesAreOne, RequestsStandAlone, EndedLinksAreDecided}
use Rattle.http_forms.specs.declared.refused.Refused.{Refused}
use Rattle.http_forms.specs.declared.refused.Refused.TheVariants.{Head, BadRequest}
use Rattle.http_forms.proofs.Ends.{head_inside, head_stays, head_later}

-- ---- one thing

parsed_one : (bytes : List ℕ) (p q : Option RequestHead) → IsParsed bytes p → IsParsed bytes q → p ≡ q
parsed_one bytes (Some h) (Some k) x y = ap Some (request_unique bytes h k [] [] x y).0
parsed_one bytes (Some h) None x y = absurd (y h x)
parsed_one bytes None (Some k) x y = absurd (x k y)
parsed_one bytes None None x y = refl

lines_one : (b : Bool) (lines : List ℕ) (v w : Result Asked Refused) → JudgesLines b lines v → JudgesLines b lines w → v ≡ w
lines_one true lines v w x y = x ∙ sym y
lines_one false lines v w x y = x.is ∙ (ap head_verdict (parsed_one lines x.parsed y.parsed x.grammar y.grammar) ∙ sym y.is)

pub judged_one : (head : List ℕ) (v w : Result Asked Refused) → Judges head v → Judges head w → v ≡ w
judged_one head v w x y = lines_one (nat_lt 16384 (length head) || nat_lt 64 (field_lines (without_blank head))) (without_blank head) v w x y

at_one : (e : Option ℕ) (bytes : List ℕ) (ended : Bool) (o p : Outcome) → DecidesAt e bytes ended o → DecidesAt e bytes ended p → o ≡ p
at_one None bytes ended o p x y = x ∙ sym y
at_one (Some n) bytes ended o p x y =
    x.2 ∙ (ap (λ j. with_head n j (drop n bytes) ended) (judged_one (take n bytes) x.0 y.0 x.1 y.1) ∙ sym y.2)

pub outcomes_are_one : OutcomesAreOne
outcomes_are_one bytes ended o p x y = at_one (head_end bytes) bytes ended o p x y

-- ---- whatever follows

-- so many bytes without the end of a head are refused
pub refused_long : (count : ℕ) (ended : Bool) → 16384 ≤ count → without_head count ended ≡ refused Head
refused_long count ended h = (let e : nat_le 16384 count ≡ true = grind (arith, nat_tests) in rw e refl)

-- without the end of a head only too many bytes are decided
many : (count : ℕ) (o : Outcome) → o ≡ without_head count false → (o ≡ unfinished → ⊥) → (16384 ≤ count) × (o ≡ refused Head)
many count o is differs = by_size (nat_le 16384 count) refl
  where
    by_size : (b : Bool) → nat_le 16384 count ≡ b → (16384 ≤ count) × (o ≡ refused Head)
    by_size true e = (grind (arith, nat_tests, e), is ∙ rw e refl)
    by_size false e = absurd (differs (is ∙ rw e refl))

-- a head of more than 16,384 bytes
pub long_head : (head : List ℕ) → 16384 < length head → Judges head (Err Head)
long_head head h =
    let lines = without_blank head in
    let e : nat_lt 16384 (length head) ≡ true = grind (arith, nat_tests) in
    subst (λ (b : Bool). JudgesLines (b || nat_lt 64 (field_lines lines)) lines (Err Head)) (sym e) refl

-- a head that is over: what stands after it decides
more_behind : (n : ℕ) (judged : Result Asked Refused) (behind more : List ℕ) (ended : Bool) (o : Outcome) → o ≡ with_head n judged behind false → (o ≡ unfinished → ⊥)
    → o ≡ with_head n judged (behind ++ more) ended
more_behind n (Err r) behind more ended o is differs = is
more_behind n (Ok asked) behind more ended o is differs = by_size (nat_le asked.length (length behind)) refl
  where
    by_size : (b : Bool) → nat_le asked.length (length behind) ≡ b → o ≡ with_head n (Ok asked) (behind ++ more) ended
    by_size true e =
        let f : nat_le asked.length (length (behind ++ more)) ≡ true = grind (arith, nat_tests, e, length-append behind more) in
        let inside : asked.length ≤ length behind = grind (arith, nat_tests, e) in
        is ∙ (rw e refl ∙ (ap (visit_of (n + asked.length) asked) (sym (take-append-le asked.length behind more inside)) ∙ rw f refl))
    by_size false e = absurd (differs (is ∙ rw e refl))

longer : (bytes more : List ℕ) → length bytes ≤ length (bytes ++ more)
longer bytes more = omega (arith, length-append bytes more)

-- an end that comes after 16,384 bytes is that of a head that is too long
late : (bytes more : List ℕ) (ended : Bool) (e : Option ℕ) → 16384 ≤ length bytes → head_end bytes ≡ None → head_end (bytes ++ more) ≡ e
    → DecidesAt e (bytes ++ more) ended (refused Head)
late bytes more ended None h none is = (let l = longer bytes more in sym (refused_long (length (bytes ++ more)) ended (omega arith)))
late bytes more ended (Some n) h none is =
    let all = bytes ++ more in
    let far = head_later bytes more n none is in
    let size : length (take n all) ≡ n = length-take-le n all (head_inside all n is) in
    (Err Head, long_head (take n all) (omega arith), refl)

stands_at : (bytes more : List ℕ) (ended : Bool) (o : Outcome) (e : Option ℕ) → head_end bytes ≡ e → DecidesAt e bytes false o
    → (o ≡ unfinished → ⊥) → Decides (bytes ++ more) ended o
stands_at bytes more ended o None is x differs =
    let m = many (length bytes) o x differs in
    subst (Decides (bytes ++ more) ended) (sym m.1) (late bytes more ended (head_end (bytes ++ more)) m.0 is refl)
stands_at bytes more ended o (Some n) is x differs =
    let inside = head_inside bytes n is in
    let judges : Judges (take n (bytes ++ more)) x.0 = subst (λ head. Judges head x.0) (sym (take-append-le n bytes more inside)) x.1 in
    let outcome : o ≡ with_head n x.0 (drop n (bytes ++ more)) ended =
    more_behind n x.0 (drop n bytes) more ended o x.2 differs ∙ ap (λ behind. with_head n x.0 behind ended) (sym (drop-append-le n bytes more inside)) in
    subst (λ w. DecidesAt w (bytes ++ more) ended o) (sym (head_stays bytes more n is)) (x.0, judges, outcome)

pub requests_stand_alone : RequestsStandAlone
requests_stand_alone bytes more ended o x differs = stands_at bytes more ended o (head_end bytes) refl x differs

-- ---- a link that ended

no_more : (n : ℕ) (judged : Result Asked Refused) (behind : List ℕ) → unfinished ≡ with_head n judged behind true → ⊥
no_more n (Err r) behind is = cc
no_more n (Ok asked) behind is = by_size (nat_le asked.length (length behind)) refl
  where
    by_size : (b : Bool) → nat_le asked.length (length behind) ≡ b → ⊥
    by_size true e = (let f : unfinished ≡ visit_of (n + asked.length) asked (take asked.length behind) = is ∙ rw e refl in cc)
    by_size false e = (let f : unfinished ≡ refused BadRequest = is ∙ rw e refl in cc)

no_start : (count : ℕ) → 0 < count → unfinished ≡ without_head count true → ⊥
no_start count h is = by_size (nat_le 16384 count) refl
  where
    by_size : (b : Bool) → nat_le 16384 count ≡ b → ⊥
    by_size true e = (let f : unfinished ≡ refused Head = is ∙ rw e refl in cc)
    by_size false e = (let g : nat_lt 0 count ≡ true = grind (arith, nat_tests) in let f : unfinished ≡ refused BadRequest = is ∙ rw (e, g) refl in cc)

ended_at : (e : Option ℕ) (bytes : List ℕ) → 0 < length bytes → DecidesAt e bytes true unfinished → ⊥
ended_at None bytes h x = no_start (length bytes) h x
ended_at (Some n) bytes h x = no_more n x.0 (drop n bytes) x.2

pub ended_links_are_decided : EndedLinksAreDecided
ended_links_are_decided bytes h x = ended_at (head_end bytes) bytes h x
