-- Places of a disk of a repeated block.
use Rattle.std.proofs.Common.{◌≡◌, ⊎_elim, ℕ, zero, suc, ◌+◌, ◌-◌, ◌*◌, ◌%◌, ◌<◌, ◌≤◌, List, [], ◌∷◌, ◌++◌, length, take, drop, get_or, slice_get, Some, refl, sym, ◌∙◌, ap, subst, arith, append_assoc, length-append, length-drop}
use Rattle.std.specs.List.{repeat}
use Rattle.std.proofs.Math.Nat.{add-mod_left, mod-eq_of_lt, suc-mul}
use Rattle.std.proofs.Math.Seq.{take-append-add, drop-append-add}
use Rattle.std.proofs.lemmas.Bool.{cases_lt}
use Rattle.std.proofs.lemmas.Option.{slice_get_read}
use Rattle.web_disk.specs.View.{Holds}
use Rattle.web_disk.specs.Repeated.{front_of, bytes_of, start_of}
use Rattle.web_disk.specs.declared.repeated.RepeatDisk.{RepeatDisk}
use Rattle.web_disk.proofs.Sure.{slice_get_left, slice_get_right, slice_get_drop}

length_repeat : (n : ℕ) (xs : List ℕ) → length (repeat n xs) ≡ n * length xs
length_repeat zero xs = omega arith
length_repeat (suc n) xs = omega (arith, length-append xs (repeat n xs), length_repeat n xs, suc-mul n (length xs))

slice_get_repeat : (n : ℕ) (xs : List ℕ) (k b : ℕ) → k < n * length xs → slice_get xs (k % length xs) ≡ Some b → slice_get (repeat n xs) k ≡ Some b
slice_get_repeat zero xs k b lt here = absurd (omega arith)
slice_get_repeat (suc n) xs k b lt here =
    ⊎_elim
    (λ below. slice_get_left xs (repeat n xs) k b (subst (λ (m : ℕ). slice_get xs m ≡ Some b) (mod-eq_of_lt below) here))
    (λ above.
    let j : ℕ = k - length xs in
    let is : k ≡ length xs + j = omega (arith, above) in
    let same : k % length xs ≡ j % length xs = ap (λ (m : ℕ). m % length xs) is ∙ add-mod_left (length xs) j in
    slice_get_right xs (repeat n xs) k j is
    ∙ slice_get_repeat n xs j b (omega (arith, above, lt, suc-mul n (length xs))) (subst (λ (m : ℕ). slice_get xs m ≡ Some b) same here))
    (cases_lt k (length xs))

pub front_length : (disk : RepeatDisk) → length (front_of disk) ≡ start_of disk
front_length disk = length-append disk.first.items (repeat disk.times disk.block.items) ∙ ap (λ (n : ℕ). length disk.first.items + n) (length_repeat disk.times disk.block.items)

pub bytes_length : (disk : RepeatDisk) → length (bytes_of disk) ≡ start_of disk + length disk.last.items
bytes_length disk = length-append (front_of disk) disk.last.items ∙ ap (λ (n : ℕ). n + length disk.last.items) (front_length disk)

pub byte_of_block : (disk : RepeatDisk) (place index b : ℕ) → length disk.first.items ≤ place → place < start_of disk
    → index ≡ (place - length disk.first.items) % length disk.block.items → index < length disk.block.items → b ≡ get_or disk.block.items index b → slice_get (bytes_of disk) place ≡ Some b
byte_of_block disk place index b le lt is within read =
    let there : slice_get disk.block.items index ≡ Some b = slice_get_read disk.block.items (length disk.block.items) index b refl within read in
    let here = subst (λ (m : ℕ). slice_get disk.block.items m ≡ Some b) is there in
    slice_get_left (front_of disk) disk.last.items place b
    (slice_get_right disk.first.items (repeat disk.times disk.block.items) place (place - length disk.first.items) (omega (arith, le))
    ∙ slice_get_repeat disk.times disk.block.items (place - length disk.first.items) b (omega (arith, le, lt)) here)

pub byte_of_last : (disk : RepeatDisk) (place index b : ℕ) → place ≡ start_of disk + index → index < length disk.last.items → b ≡ get_or disk.last.items index b → slice_get (bytes_of disk) place ≡ Some b
byte_of_last disk place index b is within read =
    slice_get_right (front_of disk) disk.last.items place index (omega (arith, is, front_length disk))
    ∙ slice_get_read disk.last.items (length disk.last.items) index b refl within read

-- what has the bytes from a place on is that part
same_as_front : (buf bytes : List ℕ) → length buf ≤ length bytes → ((k : ℕ) → k < length buf → slice_get buf k ≡ slice_get bytes k) → buf ≡ take (length buf) bytes
same_as_front [] bytes le each = refl
same_as_front (x ∷ buf) [] le each = absurd (omega arith)
same_as_front (x ∷ buf) (y ∷ bytes) le each =
    let first : x ≡ y = cc (each zero (omega arith)) in
    let rest = same_as_front buf bytes (omega arith) (λ k lt. each (suc k) (omega arith)) in
    λ i. first i ∷ rest i

pub copied : (buf bytes : List ℕ) (place : ℕ) → place + length buf ≤ length bytes → ((k : ℕ) → k < length buf → slice_get buf k ≡ slice_get bytes (place + k)) → buf ≡ take (length buf) (drop place bytes)
copied buf bytes place le each = same_as_front buf (drop place bytes) (omega (arith, le, length-drop place bytes)) (λ k lt. each k lt ∙ sym (slice_get_drop bytes place (place + k) k refl))

-- a write and a cut after the front
pub holds_behind : (front old piece new : List ℕ) (start place : ℕ) → length front ≡ start → start ≤ place → Holds old (place - start) piece new → Holds (front ++ old) place piece (front ++ new)
holds_behind front old piece new start place long le holds =
    let n : ℕ = place - start in
    let is : place ≡ length front + n = omega (arith, long, le) in
    let head : take place (front ++ old) ≡ front ++ take n old = ap (λ (m : ℕ). take m (front ++ old)) is ∙ take-append-add front old n in
    let end : place + length piece ≡ length front + (n + length piece) = omega (arith, is) in
    let tail : drop (place + length piece) (front ++ old) ≡ drop (n + length piece) old = ap (λ (m : ℕ). drop m (front ++ old)) end ∙ drop-append-add front old (n + length piece) in
    let rest = drop (n + length piece) old in
    ap (λ (l : List ℕ). front ++ l) holds
    ∙ sym (append_assoc front (take n old ++ piece) rest)
    ∙ ap (λ (l : List ℕ). l ++ rest) (sym (append_assoc front (take n old) piece))
    ∙ ap (λ (l : List ℕ). l ++ piece ++ drop (n + length piece) old) (sym head) ∙ ap (λ (l : List ℕ). take place (front ++ old) ++ piece ++ l) (sym tail)

pub cut_behind : (front old new : List ℕ) (start len : ℕ) → length front ≡ start → start ≤ len → new ≡ take (len - start) old → front ++ new ≡ take len (front ++ old)
cut_behind front old new start len long le is =
    let same : len ≡ length front + (len - start) = omega (arith, long, le) in
    ap (λ (l : List ℕ). front ++ l) is ∙ sym (ap (λ (m : ℕ). take m (front ++ old)) same ∙ take-append-add front old (len - start))
