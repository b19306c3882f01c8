-- The records that are planned to stay are those of the compacted file.
use Rattle.std.proofs.Common.{◌≡◌, ℕ, ◌&&◌, Bool, true, false, not, List, [], ◌∷◌, length, map, filter, if◌then◌else◌, refl, sym, ap, subst, ◌∙◌, arith}
use Rattle.std.specs.List.{AllByRecursion}
use Rattle.replay_spec.specs.Book.{Instance as Live, Change, opens, extends, ends, finishes, sweeps, Line, changed, renewed}
use Rattle.replay_spec.specs.Compaction.{stays_in, stays, is_sweep, ahead_of, last_sweeps}
use Rattle.file_notes.specs.declared.note.Note.{Note}
use Rattle.file_notes.specs.declared.note.Note.TheVariants.{Instance, Freed, Time, Setup, Passed}
use Rattle.file_notes.specs.Notes.{note_by, note_of, is_time, is_told, stays_note, time_next, plan_in, picked}

-- ---- what is known of a line

by_stays : (is : List Live) (c : Change) (n : ℕ) → stays_note is (note_by c n) ≡ stays_in is c
by_stays is (opens o) n = refl
by_stays is (extends x) n = refl
by_stays is (ends e) n = refl
by_stays is (finishes f) n = refl
by_stays is (sweeps tick) n = refl

pub note_stays : (is : List Live) (l : Line) → stays_note is (note_of l) ≡ stays is l
note_stays is (changed c n) = by_stays is c n
note_stays is (renewed scripts n) = refl

by_time : (c : Change) (n : ℕ) → is_time (note_by c n) ≡ is_sweep (changed c n)
by_time (opens o) n = refl
by_time (extends x) n = refl
by_time (ends e) n = refl
by_time (finishes f) n = refl
by_time (sweeps tick) n = refl

pub note_time : (l : Line) → is_time (note_of l) ≡ is_sweep l
note_time (changed c n) = by_time c n
note_time (renewed scripts n) = refl

by_told : (c : Change) (n : ℕ) → is_told (note_by c n) ≡ true
by_told (opens o) n = refl
by_told (extends x) n = refl
by_told (ends e) n = refl
by_told (finishes f) n = refl
by_told (sweeps tick) n = refl

pub note_told : (l : Line) → is_told (note_of l) ≡ true
note_told (changed c n) = by_told c n
note_told (renewed scripts n) = refl

pub untold_goes : (is : List Live) (n : Note) → is_told n ≡ false → stays_note is n ≡ false
untold_goes is (Instance number n) e = absurd (let no : ⊥ = cc e in no)
untold_goes is (Freed n) e = refl
untold_goes is (Time n) e = absurd (let no : ⊥ = cc e in no)
untold_goes is (Setup n) e = absurd (let no : ⊥ = cc e in no)
untold_goes is (Passed n) e = refl

-- ---- the first note that recovery takes is that of the first line

-- notes whose told ones are those of these lines begin so
data Begins (notes : List Note) (ls : List Line) : Type 0 where
  over : (n : Note) (ns : List Note) → notes ≡ n ∷ ns → is_told n ≡ false → filter is_told ns ≡ map note_of ls → Begins notes ls
  at : (l : Line) (ns : List Note) (ms : List Line) → notes ≡ note_of l ∷ ns → ls ≡ l ∷ ms → filter is_told ns ≡ map note_of ms → Begins notes ls

head_is : (n m : Note) (ns ms : List Note) → n ∷ ns ≡ m ∷ ms → n ≡ m
head_is n m ns ms e = cc e

tail_is : (n m : Note) (ns ms : List Note) → n ∷ ns ≡ m ∷ ms → ns ≡ ms
tail_is n m ns ms e = cc e

begins : (n : Note) (ns : List Note) (ls : List Line) → filter is_told (n ∷ ns) ≡ map note_of ls → Begins (n ∷ ns) ls
begins n ns ls e = by_told_so (is_told n) refl
  where
    taken : is_told n ≡ true → (ks : List Line) → n ∷ filter is_told ns ≡ map note_of ks → Begins (n ∷ ns) ks
    taken is [] f = absurd (let no : ⊥ = cc f in no)
    taken is (l ∷ ms) f =
        at l ns ms (ap (λ (m : Note). m ∷ ns) (head_is n (note_of l) (filter is_told ns) (map note_of ms) f)) refl (tail_is n (note_of l) (filter is_told ns) (map note_of ms) f)

    by_told_so : (t : Bool) → is_told n ≡ t → Begins (n ∷ ns) ls
    by_told_so true is = taken is ls (sym (ap (λ (t : Bool). if t then n ∷ filter is_told ns else filter is_told ns) is) ∙ e)
    by_told_so false is = over n ns refl is (sym (ap (λ (t : Bool). if t then n ∷ filter is_told ns else filter is_told ns) is) ∙ e)

-- ---- of sweeps that stand together

abbrev starts : List Line → Bool
starts [] = false
starts (l ∷ ls) = is_sweep l

starts_ahead : (l : Line) (ms : List Line) → starts (ahead_of l ms) ≡ is_sweep l
starts_ahead l [] = refl
starts_ahead l (m ∷ ms) = by_test (is_sweep l) (is_sweep m) refl refl
  where
    by_test : (s t : Bool) → is_sweep l ≡ s → is_sweep m ≡ t → starts (if s && t then m ∷ ms else l ∷ m ∷ ms) ≡ s
    by_test true true e f = f
    by_test true false e f = e
    by_test false t e f = e

abbrev kept : List Live → List Line → List Line
kept is ls = last_sweeps (filter (stays is) ls)

kept_on : (is : List Live) (l : Line) (ls : List Line) → stays is l ≡ true → kept is (l ∷ ls) ≡ ahead_of l (kept is ls)
kept_on is l ls e = ap (λ (t : Bool). last_sweeps (if t then l ∷ filter (stays is) ls else filter (stays is) ls)) e

kept_off : (is : List Live) (l : Line) (ls : List Line) → stays is l ≡ false → kept is (l ∷ ls) ≡ kept is ls
kept_off is l ls e = ap (λ (t : Bool). last_sweeps (if t then l ∷ filter (stays is) ls else filter (stays is) ls)) e

next_time : (is : List Live) (ns : List Note) (ls : List Line) → filter is_told ns ≡ map note_of ls → time_next is ns ≡ starts (kept is ls)
next_time is [] [] e = refl
next_time is [] (l ∷ ls) e = absurd (let no : ⊥ = cc e in no)
next_time is (n ∷ ns) ls e = by_begin (next_time is ns) (begins n ns ls e)
  where
    passes : (m : Note) (ms : List Note) → stays_note is m ≡ false → time_next is (m ∷ ms) ≡ time_next is ms
    passes m ms f = ap (λ (t : Bool). if t then is_time m else time_next is ms) f

    at_line : (l : Line) (ms : List Note) (ks : List Line) → filter is_told ms ≡ map note_of ks → (t : Bool) → stays is l ≡ t
        → time_next is ms ≡ starts (kept is ks) → time_next is (note_of l ∷ ms) ≡ starts (kept is (l ∷ ks))
    at_line l ms ks f true s h =
        ap (λ (t : Bool). if t then is_time (note_of l) else time_next is ms) (note_stays is l ∙ s)
        ∙ (note_time l ∙ sym (ap starts (kept_on is l ks s) ∙ starts_ahead l (kept is ks)))
    at_line l ms ks f false s h = passes (note_of l) ms (note_stays is l ∙ s) ∙ (h ∙ sym (ap starts (kept_off is l ks s)))

    by_begin : ((ks : List Line) → filter is_told ns ≡ map note_of ks → time_next is ns ≡ starts (kept is ks)) → Begins (n ∷ ns) ls → time_next is (n ∷ ns) ≡ starts (kept is ls)
    by_begin rest (over m ms is_it untold f) =
        let same : ns ≡ ms = tail_is n m ns ms is_it in
        let here : is_told n ≡ false = subst (λ (k : Note). is_told k ≡ false) (sym (head_is n m ns ms is_it)) untold in
        passes n ns (untold_goes is n here) ∙ rest ls (subst (λ (ks : List Note). filter is_told ks ≡ map note_of ls) (sym same) f)
    by_begin rest (at l ms ks is_it lines f) =
        let same : ns ≡ ms = tail_is n (note_of l) ns ms is_it in
        let g : filter is_told ns ≡ map note_of ks = subst (λ (xs : List Note). filter is_told xs ≡ map note_of ks) (sym same) f in
        ap (λ (m : Note). time_next is (m ∷ ns)) (head_is n (note_of l) ns ms is_it)
        ∙ (at_line l ns ks g (stays is l) refl (rest ks g) ∙ sym (ap (λ (xs : List Line). starts (kept is xs)) lines))

-- ---- the notes of the records that stay are those of the compacted lines

ahead_notes : (l : Line) (ms : List Line) → (if is_sweep l && starts ms then map note_of ms else note_of l ∷ map note_of ms) ≡ map note_of (ahead_of l ms)
ahead_notes l [] = by_sweep (is_sweep l)
  where
    by_sweep : (t : Bool) → (if t && false then (let none : List Note = [] in none) else note_of l ∷ []) ≡ note_of l ∷ []
    by_sweep true = refl
    by_sweep false = refl
ahead_notes l (m ∷ ms) = by_test (is_sweep l && is_sweep m)
  where
    by_test : (t : Bool) → (if t then map note_of (m ∷ ms) else note_of l ∷ map note_of (m ∷ ms)) ≡ map note_of (if t then m ∷ ms else l ∷ m ∷ ms)
    by_test true = refl
    by_test false = refl

pub plan_picks : (is : List Live) (ns : List Note) (ls : List Line) → filter is_told ns ≡ map note_of ls → picked (plan_in is ns) ns ≡ map note_of (last_sweeps (filter (stays is) ls))
plan_picks is [] [] e = refl
plan_picks is [] (l ∷ ls) e = absurd (let no : ⊥ = cc e in no)
plan_picks is (n ∷ ns) ls e = by_begin (plan_picks is ns) (begins n ns ls e)
  where
    rest : List Note
    rest = picked (plan_in is ns) ns

    skips : (m : Note) → stays_note is m ≡ false → picked (plan_in is (m ∷ ns)) (m ∷ ns) ≡ rest
    skips m f = ap (λ (t : Bool). if t && not (is_time m && time_next is ns) then m ∷ rest else rest) f

    turned : (t : Bool) (x y : List Note) → (if not t then x else y) ≡ (if t then y else x)
    turned true x y = refl
    turned false x y = refl

    stays_on : (l : Line) (ks : List Line) → stays is l ≡ true → filter is_told ns ≡ map note_of ks → rest ≡ map note_of (kept is ks)
        → picked (plan_in is (note_of l ∷ ns)) (note_of l ∷ ns) ≡ map note_of (kept is (l ∷ ks))
    stays_on l ks s f h =
        ap (λ (t : Bool). if t && not (is_time (note_of l) && time_next is ns) then note_of l ∷ rest else rest) (note_stays is l ∙ s)
        ∙ (turned (is_time (note_of l) && time_next is ns) (note_of l ∷ rest) rest
        ∙ (ap (λ (t : Bool). if t && time_next is ns then rest else note_of l ∷ rest) (note_time l)
        ∙ (ap (λ (t : Bool). if is_sweep l && t then rest else note_of l ∷ rest) (next_time is ns ks f)
        ∙ (ap (λ (xs : List Note). if is_sweep l && starts (kept is ks) then xs else note_of l ∷ xs) h
        ∙ (ahead_notes l (kept is ks) ∙ sym (ap (map note_of) (kept_on is l ks s)))))))

    at_line : (l : Line) (ks : List Line) → filter is_told ns ≡ map note_of ks → rest ≡ map note_of (kept is ks) → (t : Bool) → stays is l ≡ t
        → picked (plan_in is (note_of l ∷ ns)) (note_of l ∷ ns) ≡ map note_of (kept is (l ∷ ks))
    at_line l ks f h true s = stays_on l ks s f h
    at_line l ks f h false s = skips (note_of l) (note_stays is l ∙ s) ∙ (h ∙ sym (ap (map note_of) (kept_off is l ks s)))

    by_begin : ((ks : List Line) → filter is_told ns ≡ map note_of ks → rest ≡ map note_of (kept is ks)) → Begins (n ∷ ns) ls → picked (plan_in is (n ∷ ns)) (n ∷ ns) ≡ map note_of (kept is ls)
    by_begin so (over m ms is_it untold f) =
        let same : ns ≡ ms = tail_is n m ns ms is_it in
        let here : is_told n ≡ false = subst (λ (k : Note). is_told k ≡ false) (sym (head_is n m ns ms is_it)) untold in
        skips n (untold_goes is n here) ∙ so ls (subst (λ (ks : List Note). filter is_told ks ≡ map note_of ls) (sym same) f)
    by_begin so (at l ms ks is_it lines f) =
        let same : ns ≡ ms = tail_is n (note_of l) ns ms is_it in
        let g : filter is_told ns ≡ map note_of ks = subst (λ (xs : List Note). filter is_told xs ≡ map note_of ks) (sym same) f in
        ap (λ (m : Note). picked (plan_in is (m ∷ ns)) (m ∷ ns)) (head_is n (note_of l) ns ms is_it)
        ∙ (at_line l ks g (so ks g) (stays is l) refl ∙ sym (ap (λ (xs : List Line). map note_of (kept is xs)) lines))

-- ---- so recovery takes each of them

pub all_told : (ls : List Line) → AllByRecursion (λ n. is_told n ≡ true) (map note_of ls)
all_told [] = tt
all_told (l ∷ ls) = (note_told l, all_told ls)

pub told_stay : (ns : List Note) → AllByRecursion (λ n. is_told n ≡ true) ns → filter is_told ns ≡ ns
told_stay [] all = refl
told_stay (n ∷ ns) all =
    ap (λ (t : Bool). if t then n ∷ filter is_told ns else filter is_told ns) all.0 ∙ ap (λ (ms : List Note). n ∷ ms) (told_stay ns all.1)

-- ---- they are no longer than all

pub plan_length : (is : List Live) (ns : List Note) → length (plan_in is ns) ≡ length ns
plan_length is [] = refl
plan_length is (n ∷ ns) = let h = plan_length is ns in omega (arith, h)
