-- Texts that are written one after the other.
use Rattle.std.proofs.Common.{◌≡◌, ◌++◌, ℕ, List, Option, Result, Ok, Err, OnOk, subst}
use Rattle.std.specs.Io.KnownBytes.{Appends, Keeps}
use Rattle.shelf.specs.WebOutside.Pieces.{AppendsPart}
use Rattle.shelf.specs.WebOutside.declared.Failed.{Failed}
use Rattle.shelf.proofs.WebOutside.Writes.{appends_kept, appends_then, then_part, longer_part}

-- a text that was written whole, and then another
pub whole_then : (old mid new : Option (List ℕ)) (said text more : List ℕ) (r : Result (Unit {0}) Failed) → said ≡ text → Appends old mid said
    → OnOk r (Appends mid new more) → OnOk r (Appends old new (text ++ more))
whole_then old mid new said text more (Ok t) is p q = appends_then old mid new text more (subst (Appends old mid) is p) q
whole_then old mid new said text more (Err e) is p q = tt

-- a text that was written whole, and then a part of another
pub part_then : (old mid new : Option (List ℕ)) (said text more : List ℕ) → said ≡ text → Appends old mid said → AppendsPart mid new more
    → AppendsPart old new (text ++ more)
part_then old mid new said text more is p q = then_part old mid new text more (subst (Appends old mid) is p) q

-- a part of a text, and nothing after it
pub part_alone : (old new : Option (List ℕ)) (said text more : List ℕ) → said ≡ text → AppendsPart old new said → AppendsPart old new (text ++ more)
part_alone old new said text more is p = longer_part old new text more (subst (AppendsPart old new) is p)

-- a part of a text, and then nothing
pub part_kept : (old mid new : Option (List ℕ)) (text : List ℕ) → AppendsPart old mid text → Keeps mid new → AppendsPart old new text
part_kept old mid new text p q = record {
  front = p.front;
  rest = p.rest;
  is = p.is;
  written = appends_kept old mid new p.front p.written q;
}

-- a text that was written whole, and then nothing
pub whole_kept : (old mid new : Option (List ℕ)) (text : List ℕ) (r : Result (Unit {0}) Failed) → Appends old mid text → Keeps mid new
    → OnOk r (Appends old new text)
whole_kept old mid new text (Ok t) p q = appends_kept old mid new text p q
whole_kept old mid new text (Err e) p q = tt

-- the same of a text in other words
pub whole_as : (old new : Option (List ℕ)) (said text : List ℕ) (r : Result (Unit {0}) Failed) → said ≡ text → OnOk r (Appends old new said)
    → OnOk r (Appends old new text)
whole_as old new said text (Ok t) is p = subst (Appends old new) is p
whole_as old new said text (Err e) is p = tt
