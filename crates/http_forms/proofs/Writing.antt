-- Texts that are written one after the other.
use Rattle.std.proofs.Common.{◌≡◌, ◌≤◌, ◌++◌, ℕ, List, Option, Result, Ok, Err, arith, subst, IsErr}
use Rattle.std.specs.Io.KnownBytes.{Appends}
use Rattle.web_outside.specs.Causes.{Rose}
use Rattle.web_outside.specs.Pieces.{AppendsPart}
use Rattle.web_outside.proofs.Writes.{appends_then, then_part, longer_part}
use Rattle.web_outside.specs.declared.Failed.{Failed}
use Rattle.http_forms.specs.Writes.{WritesText}

-- the same text in other words
pub writes_as : (old new : Option (List ℕ)) (before after : ℕ) (text said : List ℕ) (r : Result (Unit {0}) Failed)
    → said ≡ text → WritesText old new before after said r → WritesText old new before after text r
writes_as old new before after text said r is w = subst (λ (t : List ℕ). WritesText old new before after t r) is w

-- a text that was written whole, and then another
pub writes_then : (old mid new : Option (List ℕ)) (before between after : ℕ) (text said more : List ℕ) (r : Result (Unit {0}) Failed)
    → said ≡ text → Appends old mid said → before ≤ between → WritesText mid new between after more r → WritesText old new before after (text ++ more) r
writes_then old mid new before between after text said more (Ok t) is first later second = writes_as old new before after (text ++ more) (said ++ more) (Ok t) (cc) (record {
  ok = appends_then old mid new said more first second.ok;
  part = then_part old mid new said more first second.part;
  cause = record { later = omega (arith, second.cause.later); failed = tt };
})
writes_then old mid new before between after text said more (Err e) is first later second = writes_as old new before after (text ++ more) (said ++ more) (Err e) (cc) (record {
  ok = tt;
  part = then_part old mid new said more first second.part;
  cause = record { later = omega (arith, second.cause.later); failed = omega (arith, second.cause.failed) };
})

-- a text that was not, and so nothing after it
pub writes_no_more : (old new : Option (List ℕ)) (before after : ℕ) (text said more : List ℕ) (r : Result (Unit {0}) Failed) → said ≡ text → IsErr r
    → AppendsPart old new said → before ≤ after → Rose before after → WritesText old new before after (text ++ more) r
writes_no_more old new before after text said more (Ok t) is h part later rose = absurd (cc)
writes_no_more old new before after text said more (Err e) is h part later rose = writes_as old new before after (text ++ more) (said ++ more) (Err e) (cc) (record {
  ok = tt;
  part = longer_part old new said more part;
  cause = record { later = later; failed = rose };
})
