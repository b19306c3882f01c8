-- Audits of shelves, one after the other.
use Rattle.std.proofs.Common.{◌≡◌, ◌≢◌, ◌<◌, ◌≤◌, ◌+◌, ◌-◌, ◌^◌, ◌++◌, ◌∷◌, ◌∙◌, inl, inr, ℕ, zero, suc, List, [], length, Bool, IsTrue, Option, Some, None, Result, Ok, Err, refl, sym, ap, subst, arith, append-nil, append_assoc}
use Rattle.std.specs.Prelude.{slice_get, min, OnOk}
use Rattle.std.specs.Io.KnownBytes.{Appends, Keeps}
use Rattle.std.proofs.lemmas.Option.{same_Some}
use Rattle.web_outside.specs.Causes.{Rose}
use Rattle.web_outside.specs.Pieces.{IsCutShort}
use Rattle.web_outside.proofs.Writes.{appends_kept, appends_none, appends_then}
use Rattle.web_disk.specs.View.{RackView}
use Rattle.web_disk.specs.Takes.{failed_after}
use Rattle.web_disk.specs.declared.rack.RackFault.{RackFault}
use Rattle.web_disk.specs.declared.rack.RackFault.TheVariants as rack_fault
use Rattle.disk_trio.proofs.Views.{rose_later}
use Rattle.trio_rack.specs.Trios.{shelves_of}
use Rattle.trio_rack.proofs.Each.{each_more}
use Rattle.trio_rack.proofs.Homes.{disks_home, shelves_home}
use Rattle.page_audit.specs.AuditSpec.Findings.{Answer, no, yes}
use Rattle.page_audit.specs.Audits.{IsAnswer, audit_of}
use Rattle.page_audit.specs.declared.answer.Audited.{Audited}
use Rattle.page_audit.specs.declared.answer.Audited.TheVariants as answer
use Rattle.page_audit.specs.declared.answer.AuditFault.{AuditFault}
use Rattle.page_audit.specs.declared.answer.AuditFault.TheVariants as fault
use Rattle.play_steps.specs.Rules.{StaysUp}
use Rattle.play_desk.specs.Asking.{AsksForOne, AsksForSome, numbers_below}
use Rattle.play_desk.specs.Opening.{AreHome}
use Rattle.play_desk.proofs.Asking.{asked_all, asked_none, asked_one_more, asked_until}
use Rattle.server_command.specs.Auditing.{AnswersOne, AreYes, ComesOne, HasAnswered, HaveAllPassed, HaveComeTo, HavePassed, HoldYes, IsYes, LeavesAudit, LeavesShelves, LeavesStopped, PassesOne, StopsAt, StopsBy, StopsOne, TellsAudited, TellsEnd, counted_of, ok_line, ok_text, ok_text_by, told, untaken_for, untold}
use Rattle.server_command.specs.Command.{IsDoneUnlessFault}
use Rattle.server_command.specs.declared.auditing.AuditCause.{AuditCause}
use Rattle.server_command.specs.declared.auditing.AuditCause.TheVariants as cause
use Rattle.server_command.specs.declared.program.Status.{Status}
use Rattle.server_command.specs.declared.program.Status.TheVariants as status
use Rattle.server_command.specs.Output.{Sinks, Tells, memory_line, sinks}
use Rattle.server_command.specs.Racks.{Racks, AreBack, ShelfFailed, racks_of}
use Rattle.server_command.proofs.Endings.{since, tells as tells_line, tells_nothing}
use Rattle.server_command.proofs.Openings.{failed_since, same_or_not, one_longer}
use Rattle.server_command.proofs.Racks.{held_more}

-- ---- one shelf

-- a take of its disks failed
pub not_taken : (D : Type 0) (rack : Racks) (shelf : ℕ) (f : RackFault)
    → (shelves_of rack.after).failed shelf ≡ failed_after {D = D} (Err f) ((shelves_of rack.before).failed shelf)
    → (f ≡ rack_fault.Failed → Rose rack.before.faults rack.after.faults) → f ≡ rack_fault.Failed → ShelfFailed rack shelf
not_taken D rack shelf rack_fault.Failed counted rose is = record { all = rose is; here = omega (arith, counted) }
not_taken D rack shelf rack_fault.Memory counted rose is = absurd (let no : ⊥ = cc in no)

-- no count of calls that failed for a shelf fell
pub counts_stay : (before after : RackView) (shelf : ℕ) → (shelves_of before).failed shelf ≤ (shelves_of after).failed shelf
    → ((n : ℕ) → n ≢ shelf → (shelves_of after).failed n ≡ (shelves_of before).failed n) → StaysUp (shelves_of before).failed (shelves_of after).failed
counts_stay before after shelf here others n = elim (same_or_not n shelf) [
  | inl e ↦ subst (λ m. (shelves_of before).failed m ≤ (shelves_of after).failed m) (sym e) here
  | inr ne ↦ (let same = others n ne in omega (arith, same))
]

pub counts_up : (D : Type 0) (f : RackFault) (was now : ℕ) → now ≡ failed_after {D = D} (Err f) was → was ≤ now
counts_up D rack_fault.Failed was now is = omega (arith, is)
counts_up D rack_fault.Memory was now is = omega (arith, is)

-- a call of its disks failed
pub call_failed : (rack : Racks) (mid : RackView) (shelf faults : ℕ) → rack.before.faults ≤ mid.faults → 1 ≤ faults
    → rack.after.faults ≡ min (mid.faults + faults) (2 ^ 64 - 1) → (shelves_of mid).failed shelf ≡ (shelves_of rack.before).failed shelf
    → (shelves_of mid).failed shelf + faults ≤ (shelves_of rack.after).failed shelf → ShelfFailed rack shelf
call_failed rack mid shelf faults le some counts same counted = record { all = omega (arith, le, some, counts); here = omega (arith, some, same, counted) }

-- its disks were not taken
pub untaken_stops : (rack : Racks) (shelf : ℕ) (f : RackFault) → AsksForSome shelf rack.before rack.after → (f ≡ rack_fault.Failed → ShelfFailed rack shelf)
    → StopsOne rack shelf (untaken_for f)
untaken_stops rack shelf rack_fault.Failed asked failed = (asked, failed refl)
untaken_stops rack shelf rack_fault.Memory asked failed = asked

-- its journal was read, or not
pub audit_comes : (rack : Racks) (shelf : ℕ) (image : List ℕ) (r : Result Audited AuditFault) → AsksForOne shelf rack.before rack.after
    → (IsTrue rack.tells → (shelves_of rack.before).holds shelf image) → (IsTrue rack.tells → IsAnswer (audit_of image) r)
    → (IsTrue rack.tells → OnOk r ((left : List ℕ) → (shelves_of rack.after).holds shelf left → left ≡ image))
    → (r ≡ Err fault.DiskFault → ShelfFailed rack shelf) → ComesOne rack shelf (counted_of r)
audit_comes rack shelf image (Ok (answer.Yes n)) asked held is left failed =
    record { answers = record { asked = asked; image = image; held = held; answered = is }; left = left }
audit_comes rack shelf image (Ok (answer.No place w)) asked held is left failed = record { asked = asked; image = image; held = held; answered = is }
audit_comes rack shelf image (Err (fault.Damaged place)) asked held is left failed = record { asked = asked; image = image; held = held; answered = is }
audit_comes rack shelf image (Err fault.DiskFault) asked held is left failed = (asked_all shelf rack.before rack.after asked, failed refl)
audit_comes rack shelf image (Err fault.Memory) asked held is left failed = asked_all shelf rack.before rack.after asked

-- ---- one after the other

pub leaves_none : (tells : Bool) (rack : RackView) → LeavesShelves (racks_of tells rack rack)
leaves_none tells rack = record { no_more = λ t n image h. h; home = λ n home. home; later = omega arith; failed_later = λ n. omega arith }

pub leaves_more : (tells : Bool) (before now after : RackView) → LeavesShelves (racks_of tells before now) → LeavesShelves (racks_of tells now after)
    → LeavesShelves (racks_of tells before after)
leaves_more tells before now after p q = record {
  no_more = λ t n image h. p.no_more t n image (q.no_more t n image h);
  home = λ n home. q.home n (p.home n home);
  later = omega (arith, p.later, q.later);
  failed_later = λ n. (let one = p.failed_later n in let two = q.failed_later n in omega (arith, one, two));
}

-- disks that were home are home again
pub back_of : (tells : Bool) (before after : RackView) → AreHome before.out → LeavesShelves (racks_of tells before after) → AreBack before after
back_of tells before after home leaves =
    record { home = disks_home after (λ n. leaves.home n (shelves_home before home n)); later = leaves.later }

pub passed_none : (tells : Bool) (rack : RackView) → HaveAllPassed (racks_of tells rack rack) 0
passed_none tells rack = (
  [],
  record {
    held = λ t. tt;
    fine = λ t. tt;
    no_more = λ t n image h. h;
    left = λ t k image left at. absurd (let no : ⊥ = cc in no);
    asked = asked_none rack;
    later = omega arith;
  },
  refl,
)

yes_more : (images : List (List ℕ)) (image : List ℕ) → AreYes images → IsYes image → AreYes (images ++ image ∷ [])
yes_more [] image all one = (one, tt)
yes_more (i ∷ images) image all one = (all.0, yes_more images image all.1 one)

module _ (tells : Bool) (before now after : RackView) where
  -- one more passed, of which this was read
  pub passed_more : (images : List (List ℕ)) (n records : ℕ) → HavePassed (racks_of tells before now) images → length images ≡ n
      → (q : PassesOne (racks_of tells now after) n records) → LeavesShelves (racks_of tells now after)
      → HavePassed (racks_of tells before after) (images ++ q.answers.image ∷ [])
  passed_more images n records p many q leaves = record {
    held = λ t. held_more (shelves_of before).holds 0 n images q.answers.image (omega (arith, many)) (p.held t) (p.no_more t n q.answers.image (q.answers.held t));
    fine = λ t. yes_more images q.answers.image (p.fine t) (records, q.answers.answered t);
    no_more = λ t k image h. p.no_more t k image (leaves.no_more t k image h);
    left = λ t k image left at h.
        each_more (λ j x. (l : List ℕ) → (shelves_of after).holds j l → l ≡ x) images q.answers.image
        (λ j x here l held. p.left t j x l here (leaves.no_more t j l held))
        (λ l held. q.left t l (subst (λ m. (shelves_of after).holds m l) many held)) k image at left h;
    asked = subst (λ m. after.asked ≡ before.asked ++ numbers_below m) (sym (one_longer images q.answers.image n many))
        (asked_one_more n before now after after (subst (λ m. now.asked ≡ before.asked ++ numbers_below m) many p.asked) q.answers.asked refl);
    later = omega (arith, p.later, leaves.later);
  }

  -- one did not, and came to this
  come_to : (count n : ℕ) (images : List (List ℕ)) → n < count → HavePassed (racks_of tells before now) images → length images ≡ n
      → AsksForSome n now after → LeavesShelves (racks_of tells now after) → HaveComeTo (racks_of tells before after) count n images
  come_to count n images low p many asked leaves = record {
    low = low;
    many = many;
    held = p.held;
    fine = p.fine;
    no_more = λ t k image h. p.no_more t k image (leaves.no_more t k image h);
    asked = asked_until count n before now after after low (subst (λ m. now.asked ≡ before.asked ++ numbers_below m) many p.asked) asked refl;
  }

  answered : (count n : ℕ) (images : List (List ℕ)) (a : Answer) → HavePassed (racks_of tells before now) images → length images ≡ n
      → AnswersOne (racks_of tells now after) n a → HasAnswered (racks_of tells before after) n a
  answered count n images a p many q = record {
    asked = asked_one_more n before now after after (subst (λ m. now.asked ≡ before.asked ++ numbers_below m) many p.asked) q.asked refl;
    image = q.image;
    held = λ t. p.no_more t n q.image (q.held t);
    answered = q.answered;
  }

  pub stops_by : (count n : ℕ) (images : List (List ℕ)) (why : AuditCause) → n < count → HavePassed (racks_of tells before now) images → length images ≡ n
      → LeavesShelves (racks_of tells before now) → StopsOne (racks_of tells now after) n why → LeavesShelves (racks_of tells now after)
      → StopsBy (racks_of tells before after) count images n why
  stops_by count n images cause.Disk low p many first q leaves =
      (come_to count n images low p many q.0 leaves, failed_since n before now after first.later first.failed_later q.1)
  stops_by count n images (cause.Damaged place) low p many first q leaves =
      (come_to count n images low p many (asked_all n now after q.asked) leaves, answered count n images _ p many q)
  stops_by count n images (cause.Found place w) low p many first q leaves =
      (come_to count n images low p many (asked_all n now after q.asked) leaves, answered count n images _ p many q)
  stops_by count n images cause.Memory low p many first q leaves = come_to count n images low p many q leaves

module _ (tells : Bool) (before now after : RackView) where
  pub passed_all : (n records : ℕ) → HaveAllPassed (racks_of tells before now) n → PassesOne (racks_of tells now after) n records
      → LeavesShelves (racks_of tells now after) → HaveAllPassed (racks_of tells before after) (n + 1)
  passed_all n records (images, p, many) q leaves = (
    images ++ q.answers.image ∷ [],
    passed_more tells before now after images n records p many q leaves,
    one_longer images q.answers.image n many,
  )

  pub stops_at : (count n : ℕ) (why : AuditCause) → n < count → HaveAllPassed (racks_of tells before now) n → LeavesShelves (racks_of tells before now)
      → StopsOne (racks_of tells now after) n why → LeavesShelves (racks_of tells now after)
      → StopsAt (racks_of tells before after) count (record { shelf = n; why = why })
  stops_at count n why low (images, p, many) first q leaves = (images, stops_by tells before now after count n images why low p many first q leaves)

-- what passed may hold yes alone
pub hold_yes : (rack : Racks) (count : ℕ) → HaveAllPassed rack count → IsTrue rack.tells → HoldYes count rack.after
hold_yes rack count (images, p, many) t k image low h =
    let read = there images k (omega (arith, many, low)) in
    subst IsYes (sym (p.left t k read.0 image read.1 h)) (yes_at images k read.0 (p.fine t) read.1)
  where
    there : (xs : List (List ℕ)) (k : ℕ) → k < length xs → (x : List ℕ) × (slice_get xs k ≡ Some x)
    there [] k low = absurd (omega (arith, low))
    there (x ∷ xs) zero low = (x, refl)
    there (x ∷ xs) (suc k) low = there xs k (omega (arith, low))

    yes_at : (xs : List (List ℕ)) (k : ℕ) (x : List ℕ) → AreYes xs → slice_get xs k ≡ Some x → IsYes x
    yes_at [] k x all at = absurd (let no : ⊥ = cc in no)
    yes_at (y ∷ xs) zero x all at = subst IsYes (same_Some _ _ at) all.0
    yes_at (y ∷ xs) (suc k) x all at = yes_at xs k x all.1 at

-- ---- what is told

-- the line of one more
ok_more : (k n records : ℕ) (images : List (List ℕ)) (image : List ℕ) → k + length images ≡ n → AreYes images → audit_of image ≡ yes records
    → ok_text k (images ++ image ∷ []) ≡ ok_text k images ++ ok_line n records
ok_more k n records [] image is all one =
    let same : k ≡ n = omega (arith, is) in
    ap (λ a. ok_text_by k a []) one ∙ append-nil (ok_line k records) ∙ ap (λ m. ok_line m records) same
ok_more k n records (i ∷ images) image is all one =
    ap (λ a. ok_text_by k a (ok_text (k + 1) (images ++ image ∷ []))) all.0.1
    ∙ (ap (λ l. ok_line k all.0.0 ++ l) (ok_more (k + 1) n records images image (omega (arith, is)) all.1 one)
    ∙ (sym (append_assoc (ok_line k all.0.0) (ok_text (k + 1) images) (ok_line n records))
    ∙ ap (λ a. ok_text_by k a (ok_text (k + 1) images) ++ ok_line n records) (sym all.0.1)))

-- the shelves before this one passed, and this was told of them
pub record HasTold (rack : Racks) (n : ℕ) (old new : Option (List ℕ)) : Type 0 where
  pub images : List (List ℕ)
  pub passed : HavePassed rack images
  pub many : length images ≡ n
  pub text : IsTrue rack.tells → Appends old new (ok_text 0 images)

pub told_none : (tells : Bool) (rack : RackView) (old : Option (List ℕ)) → HasTold (racks_of tells rack rack) 0 old old
unfolding passed_none
told_none tells rack old =
    let none = passed_none tells rack in record { images = none.0; passed = none.1; many = none.2; text = λ t. appends_none old }

pub told_more : (tells : Bool) (before now after : RackView) (n records : ℕ) (old mid new : Option (List ℕ)) → HasTold (racks_of tells before now) n old mid
    → PassesOne (racks_of tells now after) n records → LeavesShelves (racks_of tells now after) → Appends mid new (ok_line n records)
    → HasTold (racks_of tells before after) (n + 1) old new
told_more tells before now after n records old mid new p q leaves line = record {
  images = p.images ++ q.answers.image ∷ [];
  passed = passed_more tells before now after p.images n records p.passed p.many q leaves;
  many = one_longer p.images q.answers.image n p.many;
  text = λ t. subst (Appends old new) (sym (ok_more 0 n records p.images q.answers.image (omega (arith, p.many)) (p.passed.fine t) (q.answers.answered t)))
      (appends_then old mid new (ok_text 0 p.images) (ok_line n records) (p.text t) line);
}

-- a line was cut short after a text
cut_more : (old mid new : Option (List ℕ)) (text line : List ℕ) → Appends old mid text → IsCutShort mid new line → IsCutShort old new (text ++ line)
cut_more old mid new text line p q = record {
  front = text ++ q.front;
  rest = q.rest;
  is = ap (λ l. text ++ l) q.is ∙ sym (append_assoc text q.front q.rest);
  some = q.some;
  written = appends_then old mid new text q.front p q.written;
}

-- the line of one more could not be told
pub untold_leaves : (tells : Bool) (before now after : RackView) (count n records : ℕ) (how : Status) (old mid new : Option (List ℕ)) (first between last : ℕ)
    → n < count → first ≤ between → HasTold (racks_of tells before now) n old mid → PassesOne (racks_of tells now after) n records
    → LeavesShelves (racks_of tells now after) → TellsAudited n records (Err how) (sinks mid new between last)
    → LeavesAudit (racks_of tells before after) count how (sinks old new first last)
untold_leaves tells before now after count n records status.Write old mid new first between last low le p q leaves line = (
  p.images ++ q.answers.image ∷ [],
  passed_more tells before now after p.images n records p.passed p.many q leaves,
  omega (arith, one_longer p.images q.answers.image n p.many, low),
  rose_later first between last le line.0,
  λ t. inl (subst (IsCutShort old new) (sym (ok_more 0 n records p.images q.answers.image (omega (arith, p.many)) (p.passed.fine t) (q.answers.answered t)))
      (cut_more old mid new (ok_text 0 p.images) (ok_line n records) (p.text t) line.1)),
)
untold_leaves tells before now after count n records status.Memory old mid new first between last low le p q leaves line = (
  p.images,
  n,
  come_to tells before now after count n p.images low p.passed p.many (asked_all n now after q.answers.asked) leaves,
  λ t. tells_line old mid new (ok_text 0 p.images) memory_line first last (p.text t) (since mid new memory_line first between last le line),
)
untold_leaves tells before now after count n records how old mid new first between last low le p q leaves line = absurd line

-- all passed, and that was handed on or not
pub whole_leaves : (rack : Racks) (count : ℕ) (how : Status) (old mid new : Option (List ℕ)) (first between last : ℕ) → HasTold rack count old mid
    → Keeps mid new → first ≤ between → IsDoneUnlessFault how between last → LeavesAudit rack count how (sinks old new first last)
whole_leaves rack count how old mid new first between last p kept le (inl is) =
    subst (λ (s : Status). LeavesAudit rack count s (sinks old new first last)) (sym is) (
      p.images,
      p.passed,
      p.many,
      λ t. (refl, tells_nothing old new _ first last (appends_kept old mid new (ok_text 0 p.images) (p.text t) kept)),
    )
whole_leaves rack count how old mid new first between last p kept le (inr is) =
    subst (λ (s : Status). LeavesAudit rack count s (sinks old new first last)) (sym is.0) (
      p.images,
      p.passed,
      omega (arith, p.many),
      rose_later first between last le is.1,
      λ t. inr (refl, appends_kept old mid new (ok_text 0 p.images) (p.text t) kept),
    )

-- one did not pass, whose disks were asked for
pub comes_to : (rack : Racks) (count n : ℕ) (images : List (List ℕ)) (why : AuditCause) → StopsBy rack count images n why
    → StopsBy rack count images n cause.Memory
comes_to rack count n images cause.Disk p = p.0
comes_to rack count n images (cause.Damaged place) p = p.0
comes_to rack count n images (cause.Found place w) p = p.0
comes_to rack count n images cause.Memory p = p

-- and that was told
pub stopped_leaves : (text : List (List ℕ) → List ℕ) (rack : Racks) (count n : ℕ) (why : AuditCause) (how : Status) (images : List (List ℕ))
    (old mid new : Option (List ℕ)) (first between last : ℕ) → first ≤ between → (IsTrue rack.tells → Appends old mid (text images))
    → StopsBy rack count images n why → TellsEnd n why how (sinks mid new between last)
    → LeavesStopped text rack count how (sinks old new first last)
stopped_leaves text rack count n why how images old mid new first between last le at_front p (untold is line) =
    subst (λ (s : Status). LeavesStopped text rack count s (sinks old new first last)) (sym is) (
      images,
      n,
      comes_to rack count n images why p,
      λ t. tells_line old mid new (text images) memory_line first last (at_front t) (since mid new memory_line first between last le line),
    )
stopped_leaves text rack count n cause.Disk how images old mid new first between last le at_front p (told line is same prints) =
    subst (λ (s : Status). LeavesStopped text rack count s (sinks old new first last)) (sym same) (
      images,
      n,
      p,
      λ t. subst (λ l. Tells (text images) l (sinks old new first last)) (sym (same_Some _ _ is))
          (tells_line old mid new (text images) line first last (at_front t) (since mid new line first between last le prints)),
    )
stopped_leaves text rack count n (cause.Damaged place) how images old mid new first between last le at_front p (told line is same prints) =
    subst (λ (s : Status). LeavesStopped text rack count s (sinks old new first last)) (sym same) (
      images,
      n,
      place,
      p,
      λ t. subst (λ l. Tells (text images) l (sinks old new first last)) (sym (same_Some _ _ is))
          (tells_line old mid new (text images) line first last (at_front t) (since mid new line first between last le prints)),
    )
stopped_leaves text rack count n (cause.Found place w) how images old mid new first between last le at_front p (told line is same prints) =
    subst (λ (s : Status). LeavesStopped text rack count s (sinks old new first last)) (sym same) (
      images,
      n,
      place,
      w,
      p,
      λ t. subst (λ l. Tells (text images) l (sinks old new first last)) (sym (same_Some _ _ is))
          (tells_line old mid new (text images) line first last (at_front t) (since mid new line first between last le prints)),
    )
stopped_leaves text rack count n cause.Memory how images old mid new first between last le at_front p (told line is same prints) =
    absurd (let no : None ≡ Some line = is in cc)

-- an audit that ended at a shelf leaves that
pub stopped_audit : (rack : Racks) (count : ℕ) (how : Status) (out : Sinks) → LeavesStopped (ok_text 0) rack count how out → LeavesAudit rack count how out
stopped_audit rack count status.Disk out p = p
stopped_audit rack count status.Journal out p = p
stopped_audit rack count status.Audit out p = p
stopped_audit rack count status.Memory out p = p
stopped_audit rack count how out p = absurd p
