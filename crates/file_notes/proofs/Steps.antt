-- One note more on the way over all of them.
use Rattle.std.proofs.Common.{◌≡◌, ℕ, ◌+◌, ◌<◌, ◌≤◌, ◌&&◌, Bool, true, false, not, List, [], ◌∷◌, ◌++◌, length, get_or, take, drop, set, if◌then◌else◌, Option, Some, None, option_map, is_some, sym, ap, subst, ◌∙◌, arith, append_assoc}
use Rattle.std.specs.List.{AllByRecursion}
use Rattle.std.proofs.lemmas.List.{drop_more, drop-set, take_more}
use Rattle.replay_spec.specs.Book.{Instance as Live, instance_at}
use Rattle.replay_spec.specs.Compaction.{is_there}
use Rattle.replay_spec.proofs.Living.{at_there, none_there}
use Rattle.file_notes.specs.declared.note.Note.{Note}
use Rattle.file_notes.specs.Notes.{length_in, all_lengths, is_time, stays_note, time_next, plan_in, picked}
use Rattle.file_notes.specs.Files.{IsLonger}
use Rattle.file_notes.proofs.Noted.{lengths_append}

-- an instance of the number stands where one is found
pub there_is : {A : Type 0} (n : ℕ) (is : List Live) (f : A → Live) (o : Option A) → option_map f o ≡ instance_at n is → is_some o ≡ is_there n is
there_is n is f None e = sym (none_there n is (sym e))
there_is n is f (Some x) e = sym (at_there n is (λ none. let no : ⊥ = cc (e, none) in no))

-- ---- the plan, from its end

pub plan_step : (is : List Live) (ns : List Note) (plan : List Bool) (k m : ℕ) (d : Note) (s t u : Bool) → k + 1 ≡ m → m ≤ length ns → length plan ≡ length ns → s ≡ stays_note is (get_or ns k d) → u ≡ (s && not (is_time (get_or ns k d) && t))
    → t ≡ time_next is (drop m ns) → drop m plan ≡ plan_in is (drop m ns) → drop k (set plan k u) ≡ plan_in is (drop k ns)
plan_step is ns plan k m d s t u next low long stays left time rest =
    let n = get_or ns k d in
    let rest_of : drop (k + 1) plan ≡ plan_in is (drop (k + 1) ns) = subst (λ (i : ℕ). drop i plan ≡ plan_in is (drop i ns)) (sym next) rest in
    let time_of : t ≡ time_next is (drop (k + 1) ns) = time ∙ ap (λ (i : ℕ). time_next is (drop i ns)) (sym next) in
    let mark : u ≡ (stays_note is n && not (is_time n && time_next is (drop (k + 1) ns))) =
    left ∙ (ap (λ (v : Bool). v && not (is_time n && t)) stays ∙ ap (λ (v : Bool). stays_note is n && not (is_time n && v)) time_of) in
    drop-set plan k u (omega (arith, next, low, long))
    ∙ (ap (λ (bs : List Bool). u ∷ bs) rest_of ∙ (ap (λ (v : Bool). v ∷ plan_in is (drop (k + 1) ns)) mark ∙ sym (ap (plan_in is) (drop_more ns k d (omega (arith, next, low))))))

pub time_step : (is : List Live) (ns : List Note) (k m : ℕ) (d : Note) (s t u : Bool) → k + 1 ≡ m → m ≤ length ns → s ≡ stays_note is (get_or ns k d) → u ≡ (if s then is_time (get_or ns k d) else t) → t ≡ time_next is (drop m ns)
    → u ≡ time_next is (drop k ns)
time_step is ns k m d s t u next low stays then_is time =
    let n = get_or ns k d in
    let time_of : t ≡ time_next is (drop (k + 1) ns) = time ∙ ap (λ (i : ℕ). time_next is (drop i ns)) (sym next) in
    then_is
    ∙ (ap (λ (v : Bool). if v then is_time n else t) stays
    ∙ (ap (λ (v : Bool). if stays_note is n then is_time n else v) time_of ∙ sym (ap (time_next is) (drop_more ns k d (omega (arith, next, low))))))

-- ---- those that are picked

picked_step : {A : Type 0} (bs : List Bool) (xs : List A) (k : ℕ) (d : A) → k < length bs → k < length xs
    → picked (drop k bs) (drop k xs) ≡ (if get_or bs k false then get_or xs k d ∷ picked (drop (k + 1) bs) (drop (k + 1) xs) else picked (drop (k + 1) bs) (drop (k + 1) xs))
picked_step bs xs k d in_plan in_notes = ap (λ cs. picked cs (drop k xs)) (drop_more bs k false in_plan) ∙ ap (λ ys. picked (get_or bs k false ∷ drop (k + 1) bs) ys) (drop_more xs k d in_notes)

pub picked_on : {A : Type 0} (bs : List Bool) (xs kept now all : List A) (k : ℕ) (d : A) → k < length bs → k < length xs → get_or bs k false ≡ true → now ≡ kept ++ get_or xs k d ∷ [] → kept ++ picked (drop k bs) (drop k xs) ≡ all
    → now ++ picked (drop (k + 1) bs) (drop (k + 1) xs) ≡ all
picked_on bs xs kept now all k d in_plan in_notes marked is sofar =
    let x = get_or xs k d in
    let rest = picked (drop (k + 1) bs) (drop (k + 1) xs) in
    ap (λ ys. ys ++ rest) is
    ∙ (append_assoc kept (x ∷ []) rest ∙ (sym (ap (λ ys. kept ++ ys) (picked_step bs xs k d in_plan in_notes ∙ ap (λ (t : Bool). if t then x ∷ rest else rest) marked)) ∙ sofar))

pub picked_off : {A : Type 0} (bs : List Bool) (xs kept all : List A) (k : ℕ) → k < length bs → k < length xs → get_or bs k false ≡ false → kept ++ picked (drop k bs) (drop k xs) ≡ all → kept ++ picked (drop (k + 1) bs) (drop (k + 1) xs) ≡ all
picked_off bs [] kept all k in_plan in_notes marked sofar = absurd (omega (arith, in_notes))
picked_off bs (y ∷ ys) kept all k in_plan in_notes marked sofar =
    let xs = y ∷ ys in
    let rest = picked (drop (k + 1) bs) (drop (k + 1) xs) in
    sym (ap (λ zs. kept ++ zs) (picked_step bs xs k y in_plan in_notes ∙ ap (λ (t : Bool). if t then get_or xs k y ∷ rest else rest) marked)) ∙ sofar

-- ---- how long they are

pub lengths_step : (ns : List Note) (k : ℕ) (d : Note) (n : ℕ) → k < length ns → n ≡ length_in (get_or ns k d) → all_lengths (take (k + 1) ns) ≡ all_lengths (take k ns) + (n + 5)
lengths_step ns k d n low is =
    let one = ap all_lengths (take_more ns k d low) in
    let both = lengths_append (take k ns) (get_or ns k d ∷ []) in
    omega (arith, one, both, is)

longer_all : (ns : List Note) (a b : ℕ) → a ≤ b → AllByRecursion (λ n. length_in n ≤ a) ns → AllByRecursion (λ n. length_in n ≤ b) ns
longer_all [] a b le all = tt
longer_all (n ∷ ns) a b le all = (omega (arith, le, all.0), longer_all ns a b le all.1)

one_behind : (ns : List Note) (n : Note) (b : ℕ) → AllByRecursion (λ m. length_in m ≤ b) ns → length_in n ≤ b → AllByRecursion (λ m. length_in m ≤ b) (ns ++ n ∷ [])
one_behind [] n b all le = (le, tt)
one_behind (m ∷ ns) n b all le = (all.0, one_behind ns n b all.1 le)

pub longer_step : (ns : List Note) (k : ℕ) (d : Note) (a b n : ℕ) → k < length ns → n ≡ length_in (get_or ns k d) → IsLonger (take k ns) a → a ≤ b → n ≤ b → IsLonger (take (k + 1) ns) b
longer_step ns k d a b n low is so le one = record {
  drawn = omega (arith, so.drawn, le);
  all = subst (AllByRecursion (λ n. length_in n ≤ b)) (sym (take_more ns k d low)) (one_behind (take k ns) (get_or ns k d) b (longer_all (take k ns) a b le so.all) (omega (arith, is, one)));
}
