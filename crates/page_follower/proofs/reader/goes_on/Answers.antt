use Rattle.std.proofs.Common.{◌≡◌, ◌≤◌, ◌<◌, ◌+◌, ℕ, List, length, take, drop, arith, ap, length-drop}
use Rattle.std.proofs.lemmas.List.{length-take}
use Rattle.std.proofs.lemmas.Bool.Decides.{nat_tests}
use Rattle.page_follower.proofs.reader.goes_on.Goals as goal

-- a text that ends before a piece does not go on with it
too_short : (text piece : List ℕ) (place : ℕ) → place ≤ length text → length text < place + length piece
    → take (length piece) (drop place text) ≡ piece → ⊥
too_short text piece place within short same =
    let l = length-take (length piece) (drop place text) in let d = length-drop place text in let e = ap length same in omega arith

pub returns-else-place-piece : goal.returns-else-place-piece
returns-else-place-piece c =
    let no = c.if-place-piece.false in
    let within = c.requires.within in
    (λ h. absurd (grind (arith, nat_tests)), λ same. absurd (too_short c.args.text.now c.args.piece.now c.args.place within no same))
