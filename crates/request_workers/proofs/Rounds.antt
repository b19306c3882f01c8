-- Links that are served one after the other.
use Rattle.std.proofs.Common.{◌≡◌, ◌≤◌, ◌+◌, ◌*◌, ◌++◌, ◌∷◌, [], ℕ, List, Option, Some, None, sym, ap, subst, refl, ◌∙◌, append_assoc, append-nil, length-append, arith}
use Rattle.web_outside.specs.Porches.{LosesFirst, GainsLast}
use Rattle.web_outside.specs.View.{LinkView, PorchView}
use Rattle.http_forms.specs.Passes.{PassRules}
use Rattle.request_workers.specs.Counting.{Count, nothing, both, link_count}
use Rattle.request_workers.specs.Linking.{Visited}
use Rattle.request_workers.specs.declared.link.LinkEnd.{LinkEnd}
use Rattle.request_workers.specs.declared.link.LinkEnd.TheVariants as ends
use Rattle.request_workers.specs.Tallies.{IsBelow}
use Rattle.request_workers.specs.Working.{Turns, Works, LosesAll, GainsAll, Worked}

pub loses_none : {L : Type 0} (known : Option (List L)) → LosesAll known known []
loses_none None = tt
loses_none (Some links) = refl

pub gains_none : {L : Type 0} (known : Option (List L)) → GainsAll known known []
gains_none None = tt
gains_none (Some links) = sym (append-nil links)

pub loses_then : {L : Type 0} (old mid new : Option (List L)) (links : List L) (link : L)
    → LosesAll old mid links → LosesFirst mid new link → LosesAll old new (links ++ link ∷ [])
loses_then None mid new links link p q = tt
loses_then (Some xs) None new links link p q = absurd p
loses_then (Some xs) (Some ys) None links link p q = absurd q
loses_then (Some xs) (Some ys) (Some zs) links link p q = p ∙ (ap (λ w. links ++ w) q ∙ sym (append_assoc links (link ∷ []) zs))

pub gains_then : {L : Type 0} (old mid new : Option (List L)) (links : List L) (link : L)
    → GainsAll old mid links → GainsLast mid new link → GainsAll old new (links ++ link ∷ [])
gains_then None mid new links link p q = tt
gains_then (Some xs) None new links link p q = absurd p
gains_then (Some xs) (Some ys) None links link p q = absurd q
gains_then (Some xs) (Some ys) (Some zs) links link p q = q ∙ (ap (λ w. w ++ link ∷ []) p ∙ append_assoc xs links (link ∷ []))

-- counts together, in whatever groups
both_assoc : (a b c : Count) → both (both a b) c ≡ both a (both b c)
both_assoc a b c = grind arith

both_swap : (a : Count) → both nothing a ≡ both a nothing
both_swap a = grind arith

-- links, and then one more
works_then : {P L : Type 0} (rules : PassRules P) (view : L → LinkView) (shown : Option ℕ) (requests : ℕ) (p q r : P) (given back : List L)
    (link returned : L) (count one : Count) → Works rules view shown requests p q given back count
    → Turns rules view shown requests q r link returned one
    → Works rules view shown requests p r (given ++ link ∷ []) (back ++ returned ∷ []) (both count one)
works_then rules view shown requests p q r [] [] link returned count one works turns = (
  r,
  one,
  nothing,
  subst (λ w. Turns rules view shown requests w r link returned one) works.0 turns,
  (refl, refl),
  ap (λ w. both w one) works.1 ∙ both_swap one,
)
works_then rules view shown requests p q r (g ∷ gs) (b ∷ bs) link returned count one (mid, first, rest, turn, more, is) turns = (
  mid,
  first,
  both rest one,
  turn,
  works_then rules view shown requests mid q r gs bs link returned rest one more turns,
  ap (λ w. both w one) is ∙ both_assoc first rest one,
)
works_then rules view shown requests p q r [] (b ∷ bs) link returned count one works turns = absurd works
works_then rules view shown requests p q r (g ∷ gs) [] link returned count one works turns = absurd works

-- nothing was done yet
pub begin : {P L : Type 0} (rules : PassRules P) (view : L → LinkView) (shown : Option ℕ) (requests : ℕ) (pass : P) (porch : PorchView L)
    (count : Count) → count ≡ nothing → Worked rules view shown requests pass pass porch porch count
begin rules view shown requests pass porch count e =
    record { given = []; back = []; number = omega arith; came = loses_none porch.coming; went = gains_none porch.served; works = (refl, e) }

-- one link more
pub then_one : {P L : Type 0} (rules : PassRules P) (view : L → LinkView) (shown : Option ℕ) (requests : ℕ) (p q r : P)
    (old mid new : PorchView L) (count one : Count) (link returned : L)
    → Worked rules view shown requests p q old mid count → LosesFirst mid.coming new.coming link → GainsLast mid.served new.served returned
    → new.given ≡ mid.given + 1 → Turns rules view shown requests q r link returned one
    → Worked rules view shown requests p r old new (both count one)
then_one rules view shown requests p q r old mid new count one link returned worked loses gains next turns = record {
  given = worked.given ++ link ∷ [];
  back = worked.back ++ returned ∷ [];
  number = let n = worked.number in let l = length-append worked.given (link ∷ []) in omega (arith, n, l, next);
  came = loses_then old.coming mid.coming new.coming worked.given link worked.came loses;
  went = gains_then old.served mid.served new.served worked.back returned worked.went gains;
  works = works_then rules view shown requests p q r worked.given worked.back link returned count one worked.works turns;
}

-- one link counts no more than its visits, and one more
link_small : (one : Visited) (end : LinkEnd) → one.pages + one.refused ≤ 1000 → IsBelow (link_count one end) 1001
link_small one ends.Closed few = grind (arith, few)
link_small one (ends.Refused reason) few = grind (arith, few)
link_small one ends.Idle few = grind (arith, few)
link_small one ends.ReadFault few = grind (arith, few)
link_small one ends.WriteFault few = grind (arith, few)
link_small one ends.Memory few = grind (arith, few)

pub turn_small : {P L : Type 0} (rules : PassRules P) (view : L → LinkView) (shown : Option ℕ) (requests : ℕ) (p q : P) (link returned : L) (one : Count)
    → Turns rules view shown requests p q link returned one → IsBelow one 1001
turn_small rules view shown requests p q link returned one turn =
    subst (λ w. IsBelow w 1001) (sym turn.number) (link_small turn.visited turn.end turn.few)

pub below_both : (a b : Count) (n : ℕ) → IsBelow a n → IsBelow b 1001 → IsBelow (both a b) (n + 1000)
below_both a b n p q = record {
  pages = let x = p.pages in let y = q.pages in omega arith;
  refused = let x = p.refused in let y = q.refused in omega arith;
  failed = let x = p.failed in let y = q.failed in omega arith;
  dropped = let x = p.dropped in let y = q.dropped in omega arith;
}

pub below_more : (a : Count) (m n : ℕ) → m ≤ n → IsBelow a m → IsBelow a n
below_more a m n e p = record {
  pages = let x = p.pages in omega arith;
  refused = let x = p.refused in omega arith;
  failed = let x = p.failed in omega arith;
  dropped = let x = p.dropped in omega arith;
}

-- how far a worker has come: its pass is its own, its counts are at most the number of the links that were given, and of all
-- that may be, the most that may be given stays, and no count of faults fell
pub record Goes {P L : Type 0} (rules : PassRules P) (view : L → LinkView) (shown : Option ℕ) (requests : ℕ) (before now : P)
    (old new : PorchView L) (count : Count) : Type 0 where
  pub own : rules.IsOwn now
  pub worked : Worked rules view shown requests before now old new count
  pub counted : IsBelow count (1000 * new.given + 1)
  pub small : IsBelow count 1000000001
  pub same : new.most ≡ old.most
  pub later : old.faults ≤ new.faults

-- nothing is below every limit but 0
pub none_below : (a : Count) (n : ℕ) → a ≡ nothing → IsBelow a (n + 1)
none_below a n e = subst (λ w. IsBelow w (n + 1)) (sym e) (record { pages = omega arith; refused = omega arith; failed = omega arith; dropped = omega arith })
