-- How long the file of an older journal gets, and that each record fits.
use Rattle.std.proofs.Common.{◌≡◌, ℕ, ◌<◌, ◌≤◌, ◌^◌, Bool, false, List, [], ◌∷◌, ◌++◌, drop, length, All, sym, ◌∙◌, ap, subst, arith, length-append, append_assoc}
use Rattle.std.specs.List.{AllByRecursion}
use Rattle.std.proofs.lemmas.List.{append-nil, drop_all}
use Rattle.std.proofs.lemmas.List.Elements.{All-append, All-weaker, All-from_recursion, All-nil, All-head, All-tail}
use Rattle.page_journal.specs.Records.{frames, framed, at_rest}
use Rattle.page_journal.proofs.Frames.{length-framed, length-at_rest}
use Rattle.file_copies.specs.declared.older.Sizes.{Sizes}
use Rattle.file_notes.specs.Notes.{picked}
use Rattle.file_copies.specs.Copies.{copied}
use Rattle.file_copies.specs.Sizing.{AreSizesWith}
use Rattle.file_copies.proofs.Copied.{frames_of_both}

pub sizes_none : (s : Sizes) → AreSizesWith s [] s
sizes_none s = record { len = omega arith; longer = omega arith; longest = All-nil (λ (body : List ℕ). length body ≤ s.longest); low = λ le. le }

pub sizes_then : (a b c : Sizes) (xs ys : List (List ℕ)) → AreSizesWith a xs b → AreSizesWith b ys c → AreSizesWith a (xs ++ ys) c
sizes_then a b c xs ys one two = record {
  len =
      let both = ap (λ (l : List ℕ). length l) (frames_of_both xs ys) in
      let long = length-append (frames xs) (frames ys) in
      omega (arith, one.len, two.len, both, long);
  longer = omega (arith, one.longer, two.longer);
  longest = All-append (λ (body : List ℕ). length body ≤ c.longest) xs ys (All-weaker (λ (body : List ℕ). length body ≤ b.longest) (λ (body : List ℕ). length body ≤ c.longest) (λ body le. omega (arith, le, two.longer)) xs one.longest) two.longest;
  low = λ le. two.low (one.low le);
}

-- ---- each record of a file fits

low_frames : (bodies : List (List ℕ)) (most : ℕ) → length (frames bodies) ≤ most → AllByRecursion (λ b. length b ≤ most) bodies
low_frames [] most fits = tt
low_frames (body ∷ bodies) most fits =
    let long = length-append (framed body) (frames bodies) in
    let framed_long = length-framed body in
    (omega (arith, fits, long, framed_long), low_frames bodies most (omega (arith, fits, long, framed_long)))

pub all_fit : (bodies : List (List ℕ)) → length (at_rest bodies) ≤ 2 ^ 30 → All (λ b. length b < 2 ^ 32) bodies
all_fit bodies fits =
    let long = length-at_rest bodies in
    All-weaker (λ (b : List ℕ). length b ≤ 2 ^ 30) (λ (b : List ℕ). length b < 2 ^ 32) (λ b le. omega (arith, le)) bodies
    (All-from_recursion (λ (b : List ℕ). length b ≤ 2 ^ 30) bodies (low_frames bodies (2 ^ 30) (omega (arith, fits, long))))

-- one of a list
pub middle : (P : List ℕ → Type 0) (done rest : List (List ℕ)) (x : List ℕ) → All P ((done ++ x ∷ []) ++ rest) → P x
middle P [] rest x all = All-head P x rest all
middle P (y ∷ ys) rest x all = middle P ys rest x (All-tail P y ((ys ++ x ∷ []) ++ rest) all)

-- nothing is left of the plan
pub none_left : (bs : List Bool) (xs done all : List (List ℕ)) (k : ℕ) → length bs ≤ k → done ++ picked (drop k bs) (drop k xs) ≡ all → done ≡ all
none_left bs xs done all k far is = sym (append-nil done) ∙ (ap (λ (ts : List Bool). done ++ picked ts (drop k xs)) (sym (drop_all k bs far)) ∙ is)

-- each of those that are copied fits
module _ (plan : List Bool) (number first : List ℕ) (others bodies : List (List ℕ)) (is : bodies ≡ first ∷ others) (fit : All (λ b. length b < 2 ^ 32) (copied plan false number bodies)) where
  those : All (λ b. length b < 2 ^ 32) (first ∷ (number ∷ picked plan others))
  those = subst (λ (bs : List (List ℕ)). All (λ b. length b < 2 ^ 32) (copied plan false number bs)) is fit

  behind : All (λ b. length b < 2 ^ 32) (number ∷ picked plan others)
  behind = All-tail (λ (b : List ℕ). length b < 2 ^ 32) first (number ∷ picked plan others) those

  pub number_fits : length number < 2 ^ 32
  number_fits = All-head (λ (b : List ℕ). length b < 2 ^ 32) number (picked plan others) behind

  pub others_fit : All (λ b. length b < 2 ^ 32) (picked plan others)
  others_fit = All-tail (λ (b : List ℕ). length b < 2 ^ 32) number (picked plan others) behind

-- one record more after others
pub put_more : (start old new : List ℕ) (done : List (List ℕ)) (x y : List ℕ) → old ≡ start ++ frames done → new ≡ old ++ frames (y ∷ []) → y ≡ x → new ≡ start ++ frames (done ++ x ∷ [])
put_more start old new done x y so is same =
    is
    ∙ (ap (λ (xs : List ℕ). xs ++ frames (y ∷ [])) so
    ∙ (append_assoc start (frames done) (frames (y ∷ []))
    ∙ (ap (λ (xs : List ℕ). start ++ xs) (sym (frames_of_both done (y ∷ []))) ∙ ap (λ (z : List ℕ). start ++ frames (done ++ z ∷ [])) same)))
