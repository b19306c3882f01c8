-- What copying all records of a file makes.
use Rattle.std.proofs.Common.{◌≡◌, ℕ, zero, suc, ◌+◌, ◌≤◌, ◌<◌, ◌^◌, Bool, true, false, if◌then◌else◌, drop, get_or, slice_get, List, [], ◌∷◌, ◌++◌, length, Some, refl, sym, ◌∙◌, ap, subst, arith, append_assoc}
use Rattle.std.specs.List.{AllByRecursion}
use Rattle.std.proofs.lemmas.List.{append-nil}
use Rattle.std.proofs.lemmas.List.Elements.{All-from_recursion}
use Rattle.std.proofs.lemmas.Option.{same_Some, slice_get_within}
use Rattle.page_journal.specs.Records.{newest, header, stored, bodies_of, framed, frames, at_rest}
use Rattle.page_journal.specs.Scanned.{NoLonger}
use Rattle.page_journal.specs.Taken.{TakesAll}
use Rattle.page_journal.specs.Replacing.{IsWholeFile}
use Rattle.page_journal.proofs.Frames.{closed_end}
use Rattle.file_notes.specs.declared.note.Note.{Note}
use Rattle.file_notes.specs.declared.notes.FileNotes.{FileNotes}
use Rattle.file_notes.specs.Notes.{length_in, picked}
use Rattle.file_notes.specs.JournalRecords.Roles.{is_role, behind_front}
use Rattle.file_copies.specs.declared.copier.Copier.{Copier}
use Rattle.file_copies.specs.declared.copier.Stage.{Stage}
use Rattle.file_copies.specs.declared.copier.Stage.TheVariants.{First, Number, Others}
use Rattle.file_copies.specs.Copies.{others_of, copied, puts, behind_first, stage_then, place_then, IsAsNoted, IsCopied, IsBegun}

pub frames_of_both : (xs ys : List (List ℕ)) → frames (xs ++ ys) ≡ frames xs ++ frames ys
frames_of_both [] ys = refl
frames_of_both (x ∷ xs) ys = ap (λ (l : List ℕ). 1 ∷ (framed x ++ l)) (frames_of_both xs ys) ∙ ap (λ (l : List ℕ). 1 ∷ l) (sym (append_assoc (framed x) (frames xs) (frames ys)))

-- what is put for these bodies, the first of them of this stage, where these are left of the plan
abbrev outs : (drawn : Bool) (number : List ℕ) → Stage → (plan : List Bool) → List (List ℕ) → List (List ℕ)
outs drawn number First plan [] = []
outs drawn number First plan (b ∷ bs) = if is_role b then outs drawn number First plan bs else b ∷ (number ∷ outs drawn number (behind_first drawn) plan bs)
outs drawn number Number plan [] = []
outs drawn number Number plan (b ∷ bs) = picked plan bs
outs drawn number Others plan bs = picked plan bs

-- of the others those that are planned to stay
picked_on : (plan : List Bool) (n : ℕ) (b : List ℕ) (bs : List (List ℕ)) → n < length plan
    → picked (drop n plan) (b ∷ bs) ≡ (if get_or plan n false then b ∷ [] else []) ++ picked (drop (suc n) plan) bs
picked_on [] n b bs low = absurd (omega (arith, low))
picked_on (true ∷ plan) zero b bs low = refl
picked_on (false ∷ plan) zero b bs low = refl
picked_on (t ∷ plan) (suc n) b bs low = picked_on plan n b bs (omega (arith, low))

none_picked : (ts : List Bool) → picked ts (let none : List (List ℕ) = [] in none) ≡ []
none_picked [] = refl
none_picked (t ∷ ts) = refl

-- the copy of a whole file
whole_copy : (drawn : Bool) (number : List ℕ) (plan : List Bool) (bodies : List (List ℕ)) → outs drawn number First plan bodies ≡ copied plan drawn number (behind_front bodies)
whole_copy drawn number plan [] = refl
whole_copy drawn number plan (b ∷ bs) = by_role (is_role b) (whole_copy drawn number plan bs)
  where
    behind : (d : Bool) (cs : List (List ℕ)) → outs d number (behind_first d) plan cs ≡ picked plan (others_of d cs)
    behind true [] = sym (none_picked plan)
    behind true (c ∷ cs) = refl
    behind false cs = refl

    by_role : (t : Bool) → outs drawn number First plan bs ≡ copied plan drawn number (behind_front bs)
        → (if t then outs drawn number First plan bs else b ∷ (number ∷ outs drawn number (behind_first drawn) plan bs))
        ≡ copied plan drawn number (if t then behind_front bs else b ∷ bs)
    by_role true rest = rest
    by_role false rest = ap (λ (xs : List (List ℕ)). b ∷ (number ∷ xs)) (behind drawn bs)

outs_none : (drawn : Bool) (number : List ℕ) (s : Stage) (plan : List Bool) → outs drawn number s plan [] ≡ []
outs_none drawn number First plan = refl
outs_none drawn number Number plan = refl
outs_none drawn number Others plan = none_picked plan

-- one record more
outs_step : (c : Copier) (body : List ℕ) (bodies : List (List ℕ)) (s : Stage) → length c.plan.now ≡ length c.notes.now → IsAsNoted c body s
    → outs c.drawn c.number.now s (drop c.next c.plan.now) (body ∷ bodies)
    ≡ puts c body s ++ outs c.drawn c.number.now (stage_then c.drawn body s) (drop (place_then c.next s) c.plan.now) bodies
outs_step c body bodies First many noted = by_role (is_role body)
  where
    rest : Stage → List (List ℕ)
    rest s = outs c.drawn c.number.now s (drop c.next c.plan.now) bodies

    by_role : (t : Bool) → (if t then rest First else body ∷ (c.number.now ∷ rest (behind_first c.drawn)))
        ≡ (if t then (let none : List (List ℕ) = [] in none) else body ∷ (c.number.now ∷ [])) ++ rest (if t then First else behind_first c.drawn)
    by_role true = refl
    by_role false = refl
outs_step c body bodies Number many noted = by_drawn c.drawn
  where
    by_drawn : (d : Bool) → picked (drop c.next c.plan.now) bodies ≡ outs d c.number.now (stage_then d body Number) (drop c.next c.plan.now) bodies
    by_drawn true = refl
    by_drawn false = refl
outs_step c body bodies Others many noted =
    picked_on c.plan.now c.next body bodies (omega (arith, many, slice_get_within c.notes.now c.next noted.0 noted.1.0))
    ∙ ap (λ (xs : List (List ℕ)). puts c body Others ++ xs) (by_drawn c.drawn)
  where
    by_drawn : (d : Bool) → picked (drop (suc c.next) c.plan.now) bodies ≡ outs d c.number.now (stage_then d body Others) (drop (suc c.next) c.plan.now) bodies
    by_drawn true = refl
    by_drawn false = refl

-- ---- none of them is longer than its note tells

next_note : (ns : List Note) (k : ℕ) (n : Note) → slice_get ns k ≡ Some n → drop k ns ≡ n ∷ drop (suc k) ns
next_note [] k n e = absurd (let no : ⊥ = cc e in no)
next_note (m ∷ ns) zero n e = ap (λ (x : Note). x ∷ ns) (same_Some m n e)
next_note (m ∷ ns) (suc k) n e = next_note ns k n e

next_mark : (ts : List Bool) (k : ℕ) → k < length ts → drop k ts ≡ get_or ts k false ∷ drop (suc k) ts
next_mark [] k low = absurd (omega (arith, low))
next_mark (t ∷ ts) zero low = refl
next_mark (t ∷ ts) (suc k) low = next_mark ts k (omega (arith, low))

-- no body is longer
abbrev AreShort : (most : ℕ) → List (List ℕ) → Type 0
AreShort most bodies = AllByRecursion (λ b. length b ≤ most) bodies

-- the notes of those that stay, from one on, tell none
abbrev TellsShort : (most : ℕ) → Copier → (next : ℕ) → Type 0
TellsShort most c next = AllByRecursion (λ n. length_in n ≤ most) (picked (drop next c.plan.now) (drop next c.notes.now))

one_short : (c : Copier) (body : List ℕ) (rest : List (List ℕ)) (s : Stage) (most : ℕ) → length c.plan.now ≡ length c.notes.now → IsAsNoted c body s → c.head ≤ most + 14 → length c.number.now ≤ most → TellsShort most c c.next
    → (TellsShort most c (place_then c.next s) → AreShort most rest) → AreShort most (puts c body s ++ rest)
one_short c body rest First most many noted head number all then_so = by_role (is_role body) noted
  where
    by_role : (t : Bool) → (t ≡ false → length body + 14 ≡ c.head) → AreShort most ((if t then (let none : List (List ℕ) = [] in none) else body ∷ (c.number.now ∷ [])) ++ rest)
    by_role true is = then_so all
    by_role false is = let long = is refl in (omega (arith, long, head), (number, then_so all))
one_short c body rest Number most many noted head number all then_so = then_so all
one_short c body rest Others most many noted head number all then_so =
    by_mark (get_or c.plan.now c.next false)
    (subst (λ (ts : List Bool). AllByRecursion (λ m. length_in m ≤ most) (picked ts (n ∷ drop (suc c.next) c.notes.now))) (next_mark c.plan.now c.next low)
    (subst (λ (ns : List Note). AllByRecursion (λ m. length_in m ≤ most) (picked (drop c.next c.plan.now) ns)) (next_note c.notes.now c.next n noted.1.0) all))
  where
    n : Note
    n = noted.0

    low : c.next < length c.plan.now
    low = omega (arith, many, slice_get_within c.notes.now c.next noted.0 noted.1.0)

    by_mark : (t : Bool)
        → AllByRecursion (λ m. length_in m ≤ most) (if t then n ∷ picked (drop (suc c.next) c.plan.now) (drop (suc c.next) c.notes.now) else picked (drop (suc c.next) c.plan.now) (drop (suc c.next) c.notes.now))
        → AreShort most ((if t then body ∷ [] else []) ++ rest)
    by_mark true tell = (omega (arith, tell.0, noted.1.1), then_so tell.1)
    by_mark false tell = then_so tell

-- what a copier put, from one record on
pub record AreCopied (old new : Copier) (bodies : List (List ℕ)) : Type 0 where
  pub sound : new.sound ≡ true → old.sound ≡ true
  pub file : new.sound ≡ true → new.file.items ≡ old.file.items ++ frames (outs old.drawn old.number.now old.stage (drop old.next old.plan.now) bodies)
  pub short : (most : ℕ) → new.sound ≡ true → old.head ≤ most + 14 → length old.number.now ≤ most → TellsShort most old old.next
      → AreShort most (outs old.drawn old.number.now old.stage (drop old.next old.plan.now) bodies)

-- one record, and others after it
module _ (old mid new : Copier) (body : List ℕ) (bodies : List (List ℕ)) (many : length old.plan.now ≡ length old.notes.now) (first : IsCopied old body mid) (more : AreCopied mid new bodies) where
  abbrev put : List (List ℕ)
  put = puts old body old.stage

  abbrev then_these : List (List ℕ)
  then_these = outs old.drawn old.number.now (stage_then old.drawn body old.stage) (drop (place_then old.next old.stage) old.plan.now) bodies

  left : mid.sound ≡ true → outs mid.drawn mid.number.now mid.stage (drop mid.next mid.plan.now) bodies ≡ then_these
  left here =
      ap (λ (d : Bool). outs d mid.number.now mid.stage (drop mid.next mid.plan.now) bodies) first.same.drawn
      ∙ (ap (λ (n : List ℕ). outs old.drawn n mid.stage (drop mid.next mid.plan.now) bodies) first.same.number
      ∙ (ap (λ (t : Stage). outs old.drawn old.number.now t (drop mid.next mid.plan.now) bodies) first.stage
      ∙ (ap (λ (k : ℕ). outs old.drawn old.number.now (stage_then old.drawn body old.stage) (drop k mid.plan.now) bodies) (first.next here)
      ∙ ap (λ (ts : List Bool). outs old.drawn old.number.now (stage_then old.drawn body old.stage) (drop (place_then old.next old.stage) ts) bodies) first.same.plan)))

  tells_on : (most : ℕ) → mid.sound ≡ true → TellsShort most old (place_then old.next old.stage) → TellsShort most mid mid.next
  tells_on most here tell =
      subst (λ (k : ℕ). TellsShort most mid k) (sym (first.next here))
      (subst (λ (ts : List Bool). AllByRecursion (λ n. length_in n ≤ most) (picked (drop (place_then old.next old.stage) ts) (drop (place_then old.next old.stage) mid.notes.now))) (sym first.same.plan)
      (subst (λ (ns : List Note). AllByRecursion (λ n. length_in n ≤ most) (picked (drop (place_then old.next old.stage) old.plan.now) (drop (place_then old.next old.stage) ns))) (sym first.same.notes) tell))

  one_more : AreCopied old new (body ∷ bodies)
  one_more = record {
    sound = λ ok. first.sound (more.sound ok);
    file = λ ok.
        let here = more.sound ok in
        more.file ok
        ∙ (ap (λ (xs : List ℕ). xs ++ frames (outs mid.drawn mid.number.now mid.stage (drop mid.next mid.plan.now) bodies)) (first.file here)
        ∙ (ap (λ (xs : List (List ℕ)). (old.file.items ++ frames put) ++ frames xs) (left here)
        ∙ (append_assoc old.file.items (frames put) (frames then_these)
        ∙ (ap (λ (xs : List ℕ). old.file.items ++ xs) (sym (frames_of_both put then_these))
        ∙ ap (λ (xs : List (List ℕ)). old.file.items ++ frames xs) (sym (outs_step old body bodies old.stage many (first.noted here)))))));
    short = λ most ok head number all.
        let here = more.sound ok in
        subst (AreShort most) (sym (outs_step old body bodies old.stage many (first.noted here)))
        (one_short old body then_these old.stage most many (first.noted here) head number all
        (λ tell.
        subst (AreShort most) (left here)
        (more.short most ok (subst (λ (h : ℕ). h ≤ most + 14) (sym first.same.head) head) (subst (λ (x : List ℕ). length x ≤ most) (sym first.same.number) number) (tells_on most here tell))));
  }

pub all_copied : (old new : Copier) (place : ℕ) (bodies : List (List ℕ)) → length old.plan.now ≡ length old.notes.now
    → TakesAll (λ (o : Copier) (p : ℕ) (b : List ℕ) (n : Copier). IsCopied o b n) old place bodies new → AreCopied old new bodies
all_copied old new place [] many same = record {
  sound = λ ok. ap (λ (c : Copier). c.sound) (sym same) ∙ ok;
  file = λ ok.
      ap (λ (c : Copier). c.file.items) same
      ∙ (sym (append-nil old.file.items) ∙ ap (λ (xs : List (List ℕ)). old.file.items ++ frames xs) (sym (outs_none old.drawn old.number.now old.stage (drop old.next old.plan.now))));
  short = λ most ok head number all. subst (AreShort most) (sym (outs_none old.drawn old.number.now old.stage (drop old.next old.plan.now))) tt;
}
all_copied old new place (body ∷ bodies) many (mid, first, rest) =
    one_more old mid new body bodies many first
    (all_copied mid new (place + 5 + length body) bodies (ap (λ (xs : List Bool). length xs) first.same.plan ∙ (many ∙ sym (ap (λ (xs : List Note). length xs) first.same.notes))) rest)

-- ---- the whole file

module _ (notes : FileNotes) (plan : List Bool) (number : List ℕ) (old new : Copier) (bodies : List (List ℕ)) (begun : IsBegun notes plan number old) (all : AreCopied old new bodies) (ok : new.sound ≡ true) where
  these : outs old.drawn old.number.now old.stage (drop old.next old.plan.now) bodies ≡ copied plan notes.drawn number (behind_front bodies)
  these =
      ap (λ (d : Bool). outs d old.number.now old.stage (drop old.next old.plan.now) bodies) begun.drawn_is
      ∙ (ap (λ (n : List ℕ). outs notes.drawn n old.stage (drop old.next old.plan.now) bodies) begun.number_is
      ∙ (ap (λ (t : Stage). outs notes.drawn number t (drop old.next old.plan.now) bodies) begun.stage
      ∙ (ap (λ (k : ℕ). outs notes.drawn number First (drop k old.plan.now) bodies) begun.next
      ∙ (ap (λ (ts : List Bool). outs notes.drawn number First ts bodies) begun.plan_is ∙ whole_copy notes.drawn number plan bodies))))

  -- of a copier that begins, after all records of a file, with a closed gate
  pub copy_is : (file : List ℕ) → file ≡ new.file.items ++ 0 ∷ [] → file ≡ at_rest (copied plan notes.drawn number (behind_front bodies))
  copy_is file is =
      is
      ∙ (ap (λ (xs : List ℕ). xs ++ 0 ∷ []) (all.file ok)
      ∙ (ap (λ (xs : List ℕ). (xs ++ frames (outs old.drawn old.number.now old.stage (drop old.next old.plan.now) bodies)) ++ 0 ∷ []) begun.file
      ∙ (ap (λ (xs : List (List ℕ)). (header newest ++ frames xs) ++ 0 ∷ []) these ∙ append_assoc (header newest) (frames (copied plan notes.drawn number (behind_front bodies))) (0 ∷ []))))

  -- none of its records is longer than the notes tell
  pub copy_short : (most : ℕ) → notes.head ≤ most + 14 → length number ≤ most → AllByRecursion (λ n. length_in n ≤ most) (picked plan notes.notes.items) → NoLonger most (copied plan notes.drawn number (behind_front bodies))
  copy_short most head short tell =
      All-from_recursion (λ b. length b ≤ most) (copied plan notes.drawn number (behind_front bodies))
      (subst (AreShort most) these
      (all.short most ok (subst (λ (h : ℕ). h ≤ most + 14) (sym begun.head_is) head) (subst (λ (x : List ℕ). length x ≤ most) (sym begun.number_is) short)
      (subst (λ (k : ℕ). TellsShort most old k) (sym begun.next)
      (subst (λ (ts : List Bool). AllByRecursion (λ n. length_in n ≤ most) (picked ts old.notes.now)) (sym begun.plan_is)
      (subst (λ (ns : List Note). AllByRecursion (λ n. length_in n ≤ most) (picked plan ns)) (sym begun.notes_are) tell)))))

-- it can take the place of another one
pub whole_file : (others : List (List ℕ)) (file : List ℕ) (most : ℕ) → length file ≤ 2 ^ 30 → file ≡ at_rest others → NoLonger most others → IsWholeFile file most × (stored file ≡ others)
whole_file others file most fits is short =
    let low : length (at_rest others) ≤ 2 ^ 30 = omega (arith, fits, ap length is) in
    let same : stored file ≡ others = ap stored is ∙ ap bodies_of (closed_end newest others 0 [] refl low (omega arith)) in (
      record { rests = is ∙ ap at_rest (sym same); fits = fits; longest = subst (NoLonger most) (sym same) short },
      same,
    )
