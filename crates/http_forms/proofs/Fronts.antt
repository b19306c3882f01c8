-- A request is the first of the bytes.
use Rattle.std.proofs.Common.{◌≡◌, ◌≤◌, ◌+◌, ℕ, List, Bool, true, false, length, take, drop, nat_le, nat_lt, Option, Some, None, Ok, Err, arith, refl, sym, ap, ◌∙◌, subst}
use Rattle.std.proofs.lemmas.Bool.Decides.{nat_tests}
use Rattle.std.proofs.lemmas.List.{take-append-drop, length-take-le, length-drop, drop-take, take-append-le, take_all}
use Rattle.http_forms.specs.Head.{head_end}
use Rattle.http_forms.specs.Laws.{RequestsAreFronts}
use Rattle.http_forms.specs.Rows.{Asked, Judges}
use Rattle.http_forms.specs.Request.{Visit, unfinished, refused, visits, without_head, visit_of, with_head, DecidesAt, Decides}
use Rattle.http_forms.specs.declared.refused.Refused.TheVariants.{Head, BadRequest}
use Rattle.http_forms.proofs.Ends.{head_inside, head_stays, head_later}

-- a head ends where it does if the bytes after it are left out, all or some
ends_within : (bytes : List ℕ) (n k : ℕ) (e : Option ℕ) → head_end bytes ≡ Some n → n ≤ k → k ≤ length bytes → head_end (take k bytes) ≡ e → e ≡ Some n
ends_within bytes n k None is le inside at =
    let whole = take-append-drop k bytes in
    let far = head_later (take k bytes) (drop k bytes) n at (ap head_end whole ∙ is) in
    absurd (omega (arith, far, length-take-le k bytes inside, le))
ends_within bytes n k (Some m) is le inside at =
    let whole = take-append-drop k bytes in
    sym (head_stays (take k bytes) (drop k bytes) m at) ∙ (ap head_end whole ∙ is)

-- the body of a visit is there
body_there : (n : ℕ) (asked : Asked) (behind : List ℕ) (ended : Bool) (v : Visit) → visits v ≡ with_head n (Ok asked) behind ended
    → (asked.length ≤ length behind) × (visits v ≡ visit_of (n + asked.length) asked (take asked.length behind))
body_there n asked behind ended v is = by_size (nat_le asked.length (length behind)) refl
  where
    by_end : (b : Bool) → nat_le asked.length (length behind) ≡ false → ended ≡ b → visits v ≡ with_head n (Ok asked) behind b → (asked.length ≤ length behind) × (visits v ≡ visit_of (n + asked.length) asked (take asked.length behind))
    by_end true e f said = (let g : visits v ≡ refused BadRequest = said ∙ rw e refl in cc)
    by_end false e f said = (let g : visits v ≡ unfinished = said ∙ rw e refl in cc)

    by_size : (b : Bool) → nat_le asked.length (length behind) ≡ b → (asked.length ≤ length behind) × (visits v ≡ visit_of (n + asked.length) asked (take asked.length behind))
    by_size true e = (grind (arith, nat_tests, e), is ∙ rw e refl)
    by_size false e = by_end ended e refl is

none_before : (count : ℕ) (ended : Bool) (v : Visit) → visits v ≡ without_head count ended → ⊥
none_before count ended v is = by_size (nat_le 16384 count) refl
  where
    by_end : (b : Bool) → nat_le 16384 count ≡ false → visits v ≡ without_head count b → ⊥
    by_end false e said = (let g : visits v ≡ unfinished = said ∙ rw e refl in cc)
    by_end true e said = by_some (nat_lt 0 count) refl
      where
        by_some : (b : Bool) → nat_lt 0 count ≡ b → ⊥
        by_some true f = (let g : visits v ≡ refused BadRequest = said ∙ rw (e, f) refl in cc)
        by_some false f = (let g : visits v ≡ unfinished = said ∙ rw (e, f) refl in cc)

    by_size : (b : Bool) → nat_le 16384 count ≡ b → ⊥
    by_size true e = (let g : visits v ≡ refused Head = is ∙ rw e refl in cc)
    by_size false e = by_end ended e is

front_at : (bytes : List ℕ) (ended : Bool) (v : Visit) (e : Option ℕ) → head_end bytes ≡ e → DecidesAt e bytes ended (visits v)
    → (v.length ≤ length bytes) × Decides (take v.length bytes) false (visits v)
front_at bytes ended v None at is = absurd (none_before (length bytes) ended v is)
front_at bytes ended v (Some n) at (Err r, judges, is) = cc
front_at bytes ended v (Some n) at (Ok asked, judges, is) =
    let there = body_there n asked (drop n bytes) ended v is in
    let inside = head_inside bytes n at in
    let fits = there.0 in
    let size : v.length ≡ n + asked.length = (let f = there.1 in cc) in
    let within : n + asked.length ≤ length bytes = omega (arith, inside, fits, length-drop n bytes) in
    let k = n + asked.length in
    let front = take k bytes in
    let end : head_end front ≡ Some n = ends_within bytes n k (head_end front) at (omega arith) within refl in
    let head : take n front ≡ take n bytes =
    sym (take-append-le n front (drop k bytes) (omega (arith, length-take-le k bytes within))) ∙ ap (take n) (take-append-drop k bytes) in
    let behind : drop n front ≡ take asked.length (drop n bytes) = drop-take n asked.length bytes in
    let test : nat_le asked.length (length (drop n front)) ≡ true = grind (arith, nat_tests, length-drop n front, length-take-le k bytes within) in
    let same : take asked.length (drop n front) ≡ take asked.length (drop n bytes) =
    take_all asked.length (drop n front) (omega (arith, length-drop n front, length-take-le k bytes within)) ∙ behind in
    let outcome : visits v ≡ with_head n (Ok asked) (drop n front) false =
    there.1 ∙ (ap (visit_of (n + asked.length) asked) (sym same) ∙ sym (rw test refl)) in
    let decided : Decides front false (visits v) =
    subst (λ w. DecidesAt w front false (visits v)) (sym end) (Ok asked, subst (λ (h : List ℕ). Judges h (Ok asked)) (sym head) judges, outcome) in
    (omega (arith, size, within), subst (λ (m : ℕ). Decides (take m bytes) false (visits v)) (sym size) decided)

pub requests_are_fronts : RequestsAreFronts
requests_are_fronts bytes ended v is = front_at bytes ended v (head_end bytes) refl is
