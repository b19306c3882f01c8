-- A test tells whether bindings name web cells of the script, the cells rising.
use Rattle.std.proofs.Common.{◌≡◌, ℕ, ◌+◌, ◌<◌, ◌≤◌, ◌&&◌, true, nat_le, nat_lt, List, [], ◌∷◌, length, refl, arith}
use Rattle.std.specs.Prelude.{⊤}
use Rattle.std.specs.List.{AllByRecursion}
use Rattle.std.proofs.lemmas.Bool.Decides.{nat_tests}
use Rattle.std.proofs.lemmas.Bool.{and_parts}
use Rattle.script_value.specs.Val.{Val}
use Rattle.web_cells.specs.Shadows.{AreAbove, Rise}
use Rattle.script_nodes.specs.Arena.{Arena}
use Rattle.frame_codec.specs.Stored.{ShadowsFit}
use Rattle.frame_codec.specs.Walk.{shadows_fit}

-- what the first test says
pub record First (least cells : ℕ) (s : ℕ × Val) (ss : List (ℕ × Val)) : Type 0 where
  pub from : least ≤ s.0
  pub named : s.0 < cells
  pub more : shadows_fit (s.0 + 1) cells ss ≡ true

pub first : (least cells : ℕ) (s : ℕ × Val) (ss : List (ℕ × Val)) → shadows_fit least cells (s ∷ ss) ≡ true → First least cells s ss
first least cells s ss e =
    let b = and_parts (nat_le least s.0) (nat_lt s.0 cells && shadows_fit (s.0 + 1) cells ss) e in
    let c = and_parts (nat_lt s.0 cells) (shadows_fit (s.0 + 1) cells ss) b.1 in
    record { from = grind (arith, nat_tests, b.0); named = grind (arith, nat_tests, c.0); more = c.1 }

above : (c least cells : ℕ) (ss : List (ℕ × Val)) → c < least → shadows_fit least cells ss ≡ true → AreAbove c ss
above c least cells [] h e = tt
above c least cells (s ∷ ss) h e =
    let f = first least cells s ss e in
    (omega (arith, f.from, h), above c (s.0 + 1) cells ss (omega (arith, f.from, h)) f.more)

rising : (least cells : ℕ) (ss : List (ℕ × Val)) → shadows_fit least cells ss ≡ true → Rise ss × AllByRecursion (λ s. s.0 < cells) ss
rising least cells [] e = (tt, tt)
rising least cells (s ∷ ss) e =
    let f = first least cells s ss e in
    let more = rising (s.0 + 1) cells ss f.more in
    ((above s.0 (s.0 + 1) cells ss (omega arith) f.more, more.0), (f.named, more.1))

pub cells_fit : (a : Arena) (ss : List (ℕ × Val)) → shadows_fit 0 (length a.web) ss ≡ true → ShadowsFit a ss
cells_fit a ss e =
    let r = rising 0 (length a.web) ss e in
    record { rise = r.0; named = r.1 }

-- the first, if there is one, is at least this
abbrev StartsFrom : ℕ → List (ℕ × Val) → Type 0
StartsFrom least [] = ⊤
StartsFrom least (s ∷ ss) = least ≤ s.0

next_from : (c : ℕ) (ss : List (ℕ × Val)) → AreAbove c ss → StartsFrom (c + 1) ss
next_from c [] h = tt
next_from c (s ∷ ss) h = omega (arith, h.0)

tested : (least cells : ℕ) (ss : List (ℕ × Val)) → StartsFrom least ss → Rise ss → AllByRecursion (λ s. s.0 < cells) ss → shadows_fit least cells ss ≡ true
tested least cells [] from rise named = refl
tested least cells (s ∷ ss) from rise named =
    let low : nat_le least s.0 ≡ true = grind (arith, nat_tests, from) in
    let high : nat_lt s.0 cells ≡ true = grind (arith, nat_tests, named.0) in
    let more = tested (s.0 + 1) cells ss (next_from s.0 ss rise.0) rise.1 named.1 in
    λ i. low i && (high i && more i)

from_zero : (ss : List (ℕ × Val)) → StartsFrom 0 ss
from_zero [] = tt
from_zero (s ∷ ss) = omega arith

pub fit_cells : (a : Arena) (ss : List (ℕ × Val)) → ShadowsFit a ss → shadows_fit 0 (length a.web) ss ≡ true
fit_cells a ss fit = tested 0 (length a.web) ss (from_zero ss) fit.rise fit.named
