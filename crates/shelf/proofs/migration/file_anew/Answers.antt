use Rattle.std.proofs.Common.{◌∙◌, ap, ℕ, List, length, arith}
use Rattle.page_journal.specs.Records.{at_rest}
use Rattle.journal_records.specs.Records.{draws, body_of}
use Rattle.shelf.specs.Migrating.{anew_by}
use Rattle.shelf.proofs.Moving.{same_copied}
use Rattle.shelf.proofs.migration.file_anew.Goals as goal

-- the number's body is what is spelled of it

pub returns-then-sizes-gt-MAX_LEN-clause-none : goal.returns-then-sizes-gt-MAX_LEN-clause-none
returns-then-sizes-gt-MAX_LEN-clause-none c =
    let read = c.args.read.now in
    let plan = c.in-Ok.stays.0.items in
    let number = c.in-Ok.stays.1 in
    record {
      plan = plan;
      number = number;
      stays = c.in-Ok.ensures.stays;
      is = c.in-Some.ensures.len
          ∙ ap (λ (bs : List (List ℕ)). length (at_rest bs)) (same_copied _ plan _ (body_of (draws number)) _ (anew_by read.found read.anew.items) c.as_slice.ensures.value (c.as_slice-2.ensures ∙ c.in-Ok-encode.ensures) c.bodies_anew-bodies.ensures);
      long = omega (arith, c.if-sizes-gt-MAX_LEN.true);
    }

pub returns-in-Ok-file_of-clause-file : goal.returns-in-Ok-file_of-clause-file
returns-in-Ok-file_of-clause-file c =
    let read = c.args.read.now in
    let plan = c.in-Ok.stays.0.items in
    let number = c.in-Ok.stays.1 in
    let low = c.in-Some.ensures.low in
    record {
      plan = plan;
      number = number;
      stays = c.in-Ok.ensures.stays;
      bytes_are = c.in-Ok-file_of.ensures.file
          ∙ ap at_rest (same_copied _ plan _ (body_of (draws number)) _ (anew_by read.found read.anew.items) c.as_slice-3.ensures.value (c.as_slice-4.ensures ∙ c.in-Ok-encode.ensures) c.bodies_anew-bodies.ensures);
      whole = c.in-Ok-file_of.ensures.whole;
      low = omega (arith, low, c.if-sizes-gt-MAX_LEN.false);
    }
