-- A file that is compacted again is the same.
use Rattle.std.proofs.Common.{◌≡◌, ◌&&◌, List, [], ◌∷◌, Some, Bool, true, false, filter, refl, ap, ◌∙◌, if◌then◌else◌, arith}
use Rattle.replay_spec.specs.Book.{Instance, Line}
use Rattle.replay_spec.specs.Compaction.{stays, is_sweep, ahead_of, last_sweeps}
use Rattle.replay_spec.specs.Remade.{CompactedTwice}

-- what is left out of joined sweeps is left out before they are joined
stay_ahead : (is : List Instance) (l : Line) (ys : List Line) → stays is l ≡ true → filter (stays is) ys ≡ ys → filter (stays is) (ahead_of l ys) ≡ ahead_of l ys
stay_ahead is l [] one rest = grind (arith, one)
stay_ahead is l (y ∷ ys) one rest = by_test (is_sweep l && is_sweep y)
  where
    by_test : (b : Bool) → filter (stays is) (if b then y ∷ ys else l ∷ y ∷ ys) ≡ (if b then y ∷ ys else l ∷ y ∷ ys)
    by_test true = rest
    by_test false = grind (arith, one, rest)

stay_joined : (is : List Instance) (ls : List Line) → filter (stays is) (last_sweeps (filter (stays is) ls)) ≡ last_sweeps (filter (stays is) ls)
stay_joined is [] = refl
stay_joined is (l ∷ ls) = by_test (stays is l) refl (stay_joined is ls)
  where
    by_test : (b : Bool) → stays is l ≡ b → filter (stays is) (last_sweeps (filter (stays is) ls)) ≡ last_sweeps (filter (stays is) ls)
        → filter (stays is) (last_sweeps (if b then l ∷ filter (stays is) ls else filter (stays is) ls)) ≡ last_sweeps (if b then l ∷ filter (stays is) ls else filter (stays is) ls)
    by_test true e rest = stay_ahead is l (last_sweeps (filter (stays is) ls)) e rest
    by_test false e rest = rest

ahead_again : (l : Line) (ys : List Line) → last_sweeps ys ≡ ys → last_sweeps (ahead_of l ys) ≡ ahead_of l ys
ahead_again l [] h = refl
ahead_again l (y ∷ ys) h = by_test (is_sweep l && is_sweep y) refl
  where
    by_test : (b : Bool) → (is_sweep l && is_sweep y) ≡ b → last_sweeps (if b then y ∷ ys else l ∷ y ∷ ys) ≡ (if b then y ∷ ys else l ∷ y ∷ ys)
    by_test true e = h
    by_test false e = ap (λ (zs : List Line). ahead_of l zs) h ∙ ap (λ (b : Bool). if b then y ∷ ys else l ∷ y ∷ ys) e

joined_again : (ls : List Line) → last_sweeps (last_sweeps ls) ≡ last_sweeps ls
joined_again [] = refl
joined_again (l ∷ ls) = ahead_again l (last_sweeps ls) (joined_again ls)

pub twice : CompactedTwice
twice b =
    let ls = filter (stays b.instances) b.file.lines in
    ap (λ (xs : List Line). record b.file { drawn = Some b.logged; lines = xs }) (ap last_sweeps (stay_joined b.instances b.file.lines) ∙ joined_again ls)
