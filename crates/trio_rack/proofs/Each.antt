-- Disks of several shelves that are taken, and given back, one shelf at a time.
use Rattle.std.proofs.Common.{◌≡◌, ◌≢◌, ◌⊎◌, inl, inr, ℕ, zero, suc, ◌+◌, ◌-◌, ◌*◌, ◌<◌, ◌≤◌, Bool, true, false, List, [], ◌∷◌, ◌++◌, length, Some, refl, sym, ◌∙◌, ap, subst, arith}
use Rattle.std.specs.Prelude.{slice_get}
use Rattle.std.proofs.lemmas.List.{append_assoc, length-append}
use Rattle.std.proofs.lemmas.Option.{slice_get_within}
use Rattle.web_disk.specs.View.{RackView, AreAmong}
use Rattle.web_disk.specs.declared.disk.Disk.{Ghosts}
use Rattle.server_limits.specs.Limits.{most_shelves}
use Rattle.disk_trio.specs.Naming.{names}
use Rattle.disk_trio.specs.declared.side.Side.TheVariants.{A, B}
use Rattle.disk_trio.specs.declared.trio.Disks.{Disks}
use Rattle.trio_rack.specs.Numbers.{file_number, root_number, is_shelf, number_behind, IsOneOfThree, IsNoneOf}
use Rattle.trio_rack.specs.Trios.{AreFrom, AreGivenTo, LeavesAllDisks, LeavesOtherDisks, held_by, shelves_of}
use Rattle.trio_rack.specs.Each.{LeavesDisksBehind, TakesEach, GivesEach}
use Rattle.trio_rack.proofs.Bare.{of_another}
use Rattle.trio_rack.proofs.Homes.{below_or_not}

-- what holds of each, and of one more
pub each_more : {A : Type 0} (K : ℕ → A → Type 0) (xs : List A) (x : A) → ((k : ℕ) (y : A) → slice_get xs k ≡ Some y → K k y) → K (length xs) x
    → (k : ℕ) (y : A) → slice_get (xs ++ x ∷ []) k ≡ Some y → K k y
each_more K [] x all new zero y e = subst (K 0) (cc e) new
each_more K [] x all new (suc k) y e = absurd (cc e)
each_more K (z ∷ xs) x all new zero y e = all zero y e
each_more K (z ∷ xs) x all new (suc k) y e = each_more (λ j q. K (suc j) q) xs x (λ j q f. all (suc j) q f) new k y e

-- a disk is one of the first shelves', or of none of them
one_or_none : (count number : ℕ) → count ≤ most_shelves → ((k : ℕ) × (k < count) × IsOneOfThree k number) ⊎ ((k : ℕ) → k < count → IsNoneOf k number)
one_or_none count number low = elim (below_or_not number count) [
  | inl a ↦ inl (number, a, inl refl)
  | inr not_a ↦ elim (below_or_not number most_shelves) [
    | inl a ↦ inr (λ k lt. record { a = λ e. omega (arith, e, lt, not_a); b = λ e. omega (arith, e, a); root = λ e. omega (arith, e, a) })
    | inr above ↦ elim (below_or_not number (most_shelves + count)) [
      | inl b ↦ inl (number - most_shelves, omega (arith, b, above), inr (inl (omega (arith, above))))
      | inr not_b ↦ elim (below_or_not number (2 * most_shelves)) [
        | inl b ↦ inr (λ k lt. record { a = λ e. omega (arith, e, lt, above, low); b = λ e. omega (arith, e, lt, not_b); root = λ e. omega (arith, e, b) })
        | inr behind ↦ elim (below_or_not number (2 * most_shelves + count)) [
          | inl root ↦ inl (number - 2 * most_shelves, omega (arith, root, behind), inr (inr (omega (arith, behind))))
          | inr none ↦ inr (λ k lt. record { a = λ e. omega (arith, e, lt, behind, low); b = λ e. omega (arith, e, lt, behind, low); root = λ e. omega (arith, e, lt, none) })
        ]
      ]
    ]
  ]
]

-- where nothing was written on any disk, nothing was on those of a shelf
pub shelves_as_disks : (old new : RackView) → LeavesAllDisks old new → (n : ℕ) → AreAmong ((shelves_of new).holds n) ((shelves_of old).holds n)
shelves_as_disks old new same n = by_test (is_shelf n)
  where
    by_test : (b : Bool) → AreAmong (held_by b new n) (held_by b old n)
    by_test true image h = record { naming = h.naming; root = same (root_number n) h.naming h.root; file = same (file_number (names h.naming) n) image h.file }
    by_test false image h = same (number_behind n) image h

pub some_at : {A : Type 0} (xs : List A) (k : ℕ) → k < length xs → (x : A) × (slice_get xs k ≡ Some x)
some_at [] k low = absurd (omega (arith, low))
some_at (x ∷ xs) zero low = (x, refl)
some_at (x ∷ xs) (suc k) low = some_at xs k (omega (arith, low))

module _ {D : Type 0} {G : Ghosts D} where
  -- the three of one more shelf were taken
  pub takes_more_of_each : (before now after : RackView) (disks : List (Disks D G)) (d : Disks D G) → length disks < most_shelves → TakesEach before now disks → AreFrom now (length disks) d
      → LeavesOtherDisks (length disks) now after → TakesEach before after (disks ++ d ∷ [])
  takes_more_of_each before now after disks d low taken from others =
      let count = length disks in
      let now_was : (number : ℕ) → IsOneOfThree count number → AreAmong (now.holds number) (before.holds number) =
      λ number its. taken.behind number (λ k lt. of_another k count number (omega (arith, lt, low)) low (λ e. omega (arith, e, lt)) its) in
      record {
        from = each_more (λ k (x : Disks D G). AreFrom before k x) disks d taken.from (record {
          a = λ image left. now_was (file_number A count) (inl refl) image (from.a image left);
          b = λ image left. now_was (file_number B count) (inr (inl refl)) image (from.b image left);
          root = λ image left. now_was (root_number count) (inr (inr refl)) image (from.root image left);
        });
        behind = λ number none image h.
            let size = length-append disks (d ∷ []) in
            taken.behind number (λ k lt. none k (omega (arith, lt, size))) image (others number (none count (omega (arith, size))) image h);
      }

  -- the disks after these were given back
  pub record GivesLast (before now : RackView) (all front : List (Disks D G)) : Type 0 where
    pub to : (k : ℕ) (d : Disks D G) → length front ≤ k → slice_get all k ≡ Some d → AreGivenTo now k d
    pub behind : LeavesDisksBehind (length all) before now

  pub gives_none_of_each : (rack : RackView) (all : List (Disks D G)) → GivesLast rack rack all all
  gives_none_of_each rack all = record {
    to = λ k d above here. absurd (let within = slice_get_within all k d here in omega (arith, within, above));
    behind = λ number none image h. h;
  }

  -- those of the shelf in front of them were given back
  pub gives_more_of_each : (before now after : RackView) (all front back : List (Disks D G)) (d : Disks D G) → all ≡ (front ++ d ∷ []) ++ back → length all ≤ most_shelves
      → GivesLast before now all (front ++ d ∷ []) → AreGivenTo after (length front) d → LeavesOtherDisks (length front) now after → GivesLast before after all front
  gives_more_of_each before now after all front back d is few so_far given others =
      let count = length front in
      let size = length-append front (d ∷ []) in
      let whole : length all ≡ length (front ++ d ∷ []) + length back = ap length is ∙ length-append (front ++ d ∷ []) back in
      let kept : (k : ℕ) → k < most_shelves → k ≢ count → (number : ℕ) → IsOneOfThree k number → AreAmong (after.holds number) (now.holds number) =
      λ k low other number its. others number (of_another count k number (omega (arith, size, whole, few)) low other its) in
      record {
        to = λ k x above here. elim (below_or_not count k) [
          | inl further ↦ (
              let was = so_far.to k x (omega (arith, further, size)) here in
              let low : k < most_shelves = (let within = slice_get_within all k x here in omega (arith, within, few)) in
              let other : k ≢ count = λ e. omega (arith, e, further) in
              record {
                a = λ image h. was.a image (kept k low other (file_number A k) (inl refl) image h);
                b = λ image h. was.b image (kept k low other (file_number B k) (inr (inl refl)) image h);
                root = λ image h. was.root image (kept k low other (root_number k) (inr (inr refl)) image h);
              })
          | inr no_further ↦ (
              let same : k ≡ count = omega (arith, above, no_further) in
              let this : d ≡ x = (
              let at : slice_get all count ≡ Some d = ap (λ l. slice_get l count) (is ∙ append_assoc front (d ∷ []) back) ∙ at_end front back d in
              let both : Some d ≡ Some x = sym at ∙ (ap (slice_get all) (sym same) ∙ here) in
              cc both) in
              subst (λ (n : ℕ). AreGivenTo after n x) (sym same) (subst (λ (y : Disks D G). AreGivenTo after count y) this given))
        ];
        behind = λ number none image h. so_far.behind number none image (others number (none count (omega (arith, size, whole))) image h);
      }
    where
      at_end : (xs ys : List (Disks D G)) (x : Disks D G) → slice_get (xs ++ x ∷ ys) (length xs) ≡ Some x
      at_end [] ys x = refl
      at_end (y ∷ xs) ys x = at_end xs ys x

  pub gives_each : (before now : RackView) (all : List (Disks D G)) → GivesLast before now all [] → GivesEach before now all
  gives_each before now all last = record { to = λ k d here. last.to k d (omega arith) here; behind = last.behind }

  -- disks that were taken went back as they were
  pub back_as_they_were : (before mid after last : RackView) (disks : List (Disks D G)) → length disks ≤ most_shelves → TakesEach before mid disks → LeavesAllDisks mid after → GivesEach after last disks
      → LeavesAllDisks before last
  back_as_they_were before mid after last disks few taken same given number image h =
      elim (one_or_none (length disks) number few) [
        | inl its ↦ (
            let d = some_at disks its.0 its.1 in
            let from = taken.from its.0 d.0 d.1 in
            let to = given.to its.0 d.0 d.1 in
            by_number its.0 d.0 its.2 from to)
        | inr none ↦ taken.behind number none image (same number image (given.behind number none image h))
      ]
    where
      by_number : (k : ℕ) (d : Disks D G) → IsOneOfThree k number → AreFrom before k d → AreGivenTo last k d → before.holds number image
      by_number k d (inl is) from to = subst (λ (n : ℕ). before.holds n image) (sym is) (from.a image (to.a image (subst (λ (n : ℕ). last.holds n image) is h)))
      by_number k d (inr (inl is)) from to = subst (λ (n : ℕ). before.holds n image) (sym is) (from.b image (to.b image (subst (λ (n : ℕ). last.holds n image) is h)))
      by_number k d (inr (inr is)) from to = subst (λ (n : ℕ). before.holds n image) (sym is) (from.root image (to.root image (subst (λ (n : ℕ). last.holds n image) is h)))
