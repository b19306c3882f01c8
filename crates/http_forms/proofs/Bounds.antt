-- How long an unfinished request may be.
use Rattle.std.proofs.Common.{◌≡◌, ◌≤◌, ◌<◌, ◌+◌, ◌||◌, ℕ, List, Bool, true, false, length, take, drop, nat_lt, nat_le, Option, Some, None, Result, Ok, Err, arith, refl, sym, ◌∙◌, length-drop, rules}
use Rattle.std.proofs.lemmas.Bool.Decides.{nat_tests}
use Rattle.std.proofs.lemmas.List.{length-take-le}
use Rattle.http_forms.specs.Head.{head_end}
use Rattle.http_forms.specs.Rows.{Asked, JudgesLines, Judges, head_verdict, body_verdict, length_verdict, fields_verdict}
use Rattle.http_forms.specs.Request.{unfinished, refused, without_head, visit_of, with_head, DecidesAt, Decides}
use Rattle.http_forms.specs.declared.refused.Refused.{Refused}
use Rattle.http_forms.specs.declared.refused.Refused.TheVariants.{Head}
use Rattle.http_forms.proofs.Ends.{head_inside}

body_bound : (method target : List ℕ) (types : List (List ℕ)) (closes : Bool) (announced : Option ℕ) (asked : Asked)
    → Ok asked ≡ body_verdict method target types closes announced → asked.length ≤ 65536
body_bound method target types closes announced asked is = grind (arith, nat_tests)

length_bound : (method target : List ℕ) (types : List (List ℕ)) (closes : Bool) (announced : Result (Option ℕ) Refused) (asked : Asked)
    → Ok asked ≡ length_verdict method target types closes announced → asked.length ≤ 65536
length_bound method target types closes (Ok announced) asked is = body_bound method target types closes announced asked is
length_bound method target types closes (Err reason) asked is = grind arith

fields_bound : (minor : ℕ) (method target : List ℕ) (fields : List (List ℕ × List ℕ)) (asked : Asked)
    → Ok asked ≡ fields_verdict minor method target fields → asked.length ≤ 65536
fields_bound minor method target fields asked is =
    let bound = length_bound method target in grind (arith, bound)

head_bound : (parsed : Option _) (asked : Asked) → Ok asked ≡ head_verdict parsed → asked.length ≤ 65536
head_bound None asked is = grind arith
head_bound (Some h) asked is = search (rules, fields_bound)

lines_bound : (many : Bool) (lines : List ℕ) (asked : Asked) → JudgesLines many lines (Ok asked) → asked.length ≤ 65536
lines_bound true lines asked is = grind arith
lines_bound false lines asked reads = head_bound reads.parsed asked reads.is

-- a head that is not refused is not too long
short_head : (long few : Bool) (lines : List ℕ) (asked : Asked) → JudgesLines (long || few) lines (Ok asked) → long ≡ false
short_head false few lines asked is = refl
short_head true few lines asked is = cc

without_bound : (count : ℕ) → unfinished ≡ without_head count false → count < 16384
without_bound count is = by_size (nat_le 16384 count) refl
  where
    by_size : (b : Bool) → nat_le 16384 count ≡ b → count < 16384
    by_size true e = (let f : unfinished ≡ refused Head = is ∙ rw e refl in cc)
    by_size false e = grind (arith, nat_tests, e)

behind_bound : (n : ℕ) (head : List ℕ) (judged : Result Asked Refused) (behind : List ℕ) → Judges head judged
    → unfinished ≡ with_head n judged behind false → (length behind < 65536) × (length head ≤ 16384)
behind_bound n head (Err r) behind judges is = cc
behind_bound n head (Ok asked) behind judges is = by_size (nat_le asked.length (length behind)) refl
  where
    by_size : (b : Bool) → nat_le asked.length (length behind) ≡ b → (length behind < 65536) × (length head ≤ 16384)
    by_size true e = (let f : unfinished ≡ visit_of (n + asked.length) asked (take asked.length behind) = is ∙ rw e refl in cc)
    by_size false e =
        let most = lines_bound _ _ asked judges in
        let short = short_head (nat_lt 16384 (length head)) _ _ asked judges in
        (grind (arith, nat_tests, e, most), grind (arith, nat_tests, short))

at_bound : (end : Option ℕ) (bytes : List ℕ) → end ≡ head_end bytes → DecidesAt end bytes false unfinished → length bytes < 81920
at_bound None bytes end is = let l = without_bound (length bytes) is in omega arith
at_bound (Some n) bytes end (judged, judges, is) =
    let inside = head_inside bytes n (sym end) in
    let bounds = behind_bound n (take n bytes) judged (drop n bytes) judges is in
    let behind = bounds.0 in
    let front = bounds.1 in
    omega (arith, length-drop n bytes, length-take-le n bytes inside, front, behind)

-- bytes that ask for more are fewer than a head and a body may have
pub unfinished_bound : (bytes : List ℕ) → Decides bytes false unfinished → length bytes < 81920
unfinished_bound bytes decides = at_bound (head_end bytes) bytes refl decides
