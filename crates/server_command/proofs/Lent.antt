-- What holds of things that were held in one record holds of them as they were lent and as they came back.
use Rattle.std.proofs.Common.{◌≡◌, subst}

-- what holds of things as they are held holds of them as they were lent
pub as_lent : {R A C S P : Type 0} {r r' : R} {a a' : A} {c c' : C} {s s' : S} {p p' : P} (holds : R → A → C → S → P → Type 0)
    → r ≡ r' → a ≡ a' → c ≡ c' → s ≡ s' → p ≡ p' → holds r a c s p → holds r' a' c' s' p'
as_lent {r = r} {r' = r'} {a = a} {a' = a'} {c = c} {c' = c'} {s = s} {s' = s'} {p = p} {p' = p'} holds rack door clock seeds past held =
    subst (λ x. holds r' a' c' s' x) past
    (subst (λ x. holds r' a' c' x p) seeds
    (subst (λ x. holds r' a' x s p) clock
    (subst (λ x. holds r' x c s p) door
    (subst (λ x. holds x a c s p) rack held))))

-- what holds of things as they were held last holds of them as they came back
pub as_left : {R A S P : Type 0} {r r' : R} {a a' : A} {s s' : S} {p p' : P} (holds : R → A → S → P → Type 0)
    → r ≡ r' → a ≡ a' → s ≡ s' → p ≡ p' → holds r a s p → holds r' a' s' p'
as_left {r = r} {r' = r'} {a = a} {a' = a'} {s = s} {s' = s'} {p = p} {p' = p'} holds rack door seeds past held =
    subst (λ x. holds r' a' s' x) past
    (subst (λ x. holds r' a' x p) seeds
    (subst (λ x. holds r' x s p) door
    (subst (λ x. holds x a s p) rack held)))
