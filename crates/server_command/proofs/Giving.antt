-- Disks that are given back, from the last to the first.
use Rattle.std.proofs.Common.{◌≡◌, ◌≢◌, ◌≤◌, ◌+◌, ◌-◌, ◌^◌, ◌++◌, ◌∷◌, ◌∙◌, inl, inr, ℕ, List, [], length, true, Some, append-nil, refl, sym, ap, subst, arith}
use Rattle.std.specs.Prelude.{slice_get, sum_by}
use Rattle.std.proofs.lemmas.List.Sums.{sum_by-cons}
use Rattle.play_steps.specs.Played.{RoseBy}
use Rattle.std.proofs.lemmas.List.{append_assoc, length-append}
use Rattle.std.proofs.lemmas.Option.{slice_get_within}
use Rattle.web_disk.specs.View.{View, RackView, AreAmong}
use Rattle.trio_rack.specs.Trios.{shelves_of}
use Rattle.play_desk.specs.Opening.{FailedFor}
use Rattle.server_command.specs.Opening.{AreGiven, AreOut, LeavesFrom, TakesBack}
use Rattle.server_command.proofs.Openings.{Gives, GivesDownTo, gives_before, gives_down, gives_last, same_or_not}

last_is : {A : Type 0} (xs ys : List A) (x : A) → slice_get (xs ++ x ∷ ys) (length xs) ≡ Some x
last_is [] ys x = refl
last_is (z ∷ xs) ys x = last_is xs ys x

-- what a disk that is given back may hold
pub record Holds (told : Type 0) (before after : RackView) (number : ℕ) (images : List ℕ → Type 0) : Type 0 where
  pub among : told → (shelves_of before).out number ≡ true → AreAmong ((shelves_of after).holds number) images
  pub others : (n : ℕ) → n ≢ number → AreAmong ((shelves_of after).holds n) ((shelves_of before).holds n)

-- the disks after these were given back
pub record GivenAll {D : Type 0} (view : D → View) (told : Type 0) (all front : List D) (before now : RackView) : Type 0 where
  pub back : List D
  pub is : all ≡ front ++ back
  pub down : GivesDownTo before now (length front) (length all)
  pub held : told → AreOut before (length all) → (k : ℕ) (d : D) → length front ≤ k → slice_get all k ≡ Some d → AreAmong ((shelves_of now).holds k) (view d).images
  pub others : LeavesFrom (length all) before now
  pub faults : (k : ℕ) (d : D) → length front ≤ k → slice_get all k ≡ Some d → 1 ≤ (view d).faults → FailedFor k before now
  pub counts : RoseBy (sum_by (λ d. (view d).faults) back) before.faults now.faults

pub given_none : {D : Type 0} (view : D → View) (told : Type 0) (all : List D) (before : RackView) → before.faults ≤ 2 ^ 64 - 1 → GivenAll view told all all before before
given_none view told all before low = record {
  back = [];
  is = sym (append-nil all);
  down = gives_last before (length all) low;
  held = λ t out k d above here. absurd (let within = slice_get_within all k d here in omega (arith, within, above));
  others = λ n le image h. h;
  faults = λ k d above here some. absurd (let within = slice_get_within all k d here in omega (arith, within, above));
  counts = (let none : sum_by (λ d. (view d).faults) [] ≡ 0 = refl in omega (arith, none));
}

pub given_next : {D : Type 0} (view : D → View) (told : Type 0) (all old front : List D) (d : D) (before now after : RackView) → old ≡ front ++ d ∷ []
    → GivenAll view told all old before now → Gives now after (length front) (view d).faults → Holds told now after (length front) (view d).images
    → GivenAll view told all front before after
given_next {D = D} view told all old front d before now after popped p gives holds = record {
  back = d ∷ p.back;
  is = is;
  down = gives_before before now after (length front) (length old) (length all) (view d).faults count p.down gives;
  held = λ t out k x above here. elim (same_or_not k (length front)) [
    | inl e ↦
        let same : d ≡ x = this k x e here in
        let home : (shelves_of now).out (length front) ≡ true = p.down.lower (length front) (omega (arith, count)) ∙ out (length front) (omega (arith, size, count)) in
        subst (λ n. AreAmong ((shelves_of after).holds n) (view x).images) (sym e) (subst (λ y. AreAmong ((shelves_of after).holds (length front)) (view y).images) same (holds.among t home))
    | inr ne ↦ λ image h. p.held t out k x (omega (arith, above, ne, count)) here image (holds.others k ne image h)
  ];
  others = λ n le image h. p.others n le image (holds.others n (λ e. omega (arith, e, le, size, count)) image h);
  faults = λ k x above here some. elim (same_or_not k (length front)) [
    | inl e ↦
        let same = ap (λ y. (view y).faults) (this k x e here) in
        let later = p.down.later in
        let now_is = gives.counts in
        let up = p.down.failed_later (length front) in
        let counted = gives.counted in
        subst (λ n. FailedFor n before after) (sym e)
        (record { all = omega (arith, same, some, later, now_is); here = omega (arith, same, some, up, counted) })
    | inr ne ↦
        let rose = p.faults k x (omega (arith, above, ne, count)) here some in
        let now_is = gives.counts in
        let others = gives.others_counted k ne in
        let here_rose = rose.here in
        record { all = omega (arith, rose.all, now_is); here = omega (arith, here_rose, others) }
  ];
  counts =
      (let sum = sum_by-cons (λ x. (view x).faults) d p.back in
      let before_is = p.counts in
      let now_is = gives.counts in
      omega (arith, sum, before_is, now_is));
}
  where
    count : length front + 1 ≡ length old
    count = omega (arith, ap length popped, length-append front (d ∷ []))

    is : all ≡ front ++ d ∷ p.back
    is = p.is ∙ (ap (λ xs. xs ++ p.back) popped ∙ append_assoc front (d ∷ []) p.back)

    size : length all ≡ length old + length p.back
    size = ap length p.is ∙ length-append old p.back

    this : (k : ℕ) (x : D) → k ≡ length front → slice_get all k ≡ Some x → d ≡ x
    this k x e here =
        let there : slice_get all (length front) ≡ Some d = ap (λ l. slice_get l (length front)) is ∙ last_is front p.back d in
        let same : Some d ≡ Some x = sym there ∙ (ap (slice_get all) (sym e) ∙ here) in
        cc

pub given_back : {D : Type 0} (view : D → View) (told : Type 0) (all : List D) (before now : RackView) → GivenAll view told all [] before now
    → TakesBack before now 0 (length all) × AreGiven view told before now all
given_back view told all before now p = (
  gives_down before now (length all) p.down,
  record { held = λ t out k d here. p.held t out k d (omega arith) here; others = p.others; faults = λ k d here some. p.faults k d (omega arith) here some; counts = subst (λ l. RoseBy (sum_by (λ d. (view d).faults) l) before.faults now.faults) (sym p.is) p.counts },
)
