-- The least used page, picked from those that were read.
use Rattle.std.proofs.Common.{◌≡◌, ◌∙◌, ap, sym, ℕ, suc, ◌-◌, ◌<◌, ◌==◌, not, List, [], ◌∷◌, ◌++◌, append_assoc, length, length-append, take, drop, slice_get, filter, Some, refl, arith}
use Rattle.std.proofs.lemmas.Option.{same_Some}
use Rattle.instance_book.proofs.Lists.{taken}
use Rattle.std.proofs.lemmas.Bool.Decides.{nat_tests}
use Rattle.replay_spec.specs.Book.{Use}
use Rattle.replay_spec.specs.Eviction.{least, but, least_used}
use Rattle.book_visits.specs.declared.goes.PageUse.{PageUse}
use Rattle.book_visits.specs.Uses.{read_use, read_uses}

but_read : (n : ℕ) (us : List PageUse) → read_uses (filter (λ (o : PageUse). not (o.page == n)) us) ≡ but n (read_uses us)
but_read n [] = refl
but_read n (u ∷ us) = grind (arith, nat_tests, but_read n us)

-- the first of them and the others
pub headed : (us : List PageUse) (x : PageUse) → Some x ≡ slice_get us 0 → us ≡ x ∷ drop 1 us
headed [] x h = absurd (let no : ⊥ = cc in no)
headed (y ∷ ys) x h = ap (λ (z : PageUse). z ∷ ys) (sym (same_Some x y h))

pub others : (us : List PageUse) → take (length us - 1) (drop 1 us) ≡ drop 1 us
others [] = refl
others (y ∷ ys) = taken ys (length (y ∷ ys) - 1) (omega arith)

-- one more page, of so many
pub picked : (count : ℕ) (first : PageUse) (rest left : List PageUse) (v : PageUse) (ps all : List ℕ) → read_use v ≡ least (read_use first) (read_uses rest)
    → left ≡ filter (λ (o : PageUse). not (o.page == v.page)) (first ∷ rest) → length ps < count
    → ps ++ least_used (count - length ps) (read_uses (first ∷ rest)) ≡ all
    → (ps ++ v.page ∷ []) ++ least_used (count - length (ps ++ v.page ∷ [])) (read_uses left) ≡ all
picked count first rest left v ps all is kept more before =
    let k = count - length (ps ++ v.page ∷ []) in
    let one : count - length ps ≡ suc k = omega (arith, length-append ps (v.page ∷ [])) in
    let us = read_uses (first ∷ rest) in
    let page : (least (read_use first) (read_uses rest)).page ≡ v.page = sym (ap (λ (u : Use). u.page) is) in
    let rest_is : read_uses left ≡ but v.page us = ap read_uses kept ∙ but_read v.page (first ∷ rest) in
    let step : least_used (count - length ps) us ≡ v.page ∷ least_used k (but v.page us) =
    ap (λ (n : ℕ). least_used n us) one ∙ ap (λ (n : ℕ). n ∷ least_used k (but n us)) page in
    append_assoc ps (v.page ∷ []) (least_used k (read_uses left))
    ∙ (ap (λ (vs : List Use). ps ++ v.page ∷ least_used k vs) rest_is
    ∙ (ap (λ (ns : List ℕ). ps ++ ns) (sym step) ∙ before))
