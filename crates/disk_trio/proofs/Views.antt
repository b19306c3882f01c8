-- How the view of three disks goes on.
use Rattle.std.proofs.Common.{◌≡◌, ◌⊎◌, inl, inr, ⊎_elim, ℕ, ◌+◌, ◌-◌, ◌^◌, ◌<◌, ◌≤◌, min, Bool, true, false, IsTrue, List, ◌∷◌, length, if◌then◌else◌, refl, sym, ◌∙◌, ap, subst, arith}
use Rattle.web_outside.specs.Causes.{Rose}
use Rattle.web_disk.specs.View.{AreAmong, NoNewImage, Spoils, Cuts, Elapses}
use Rattle.web_disk.specs.declared.disk.Disk.{Ghosts}
use Rattle.disk_trio.specs.Naming.{names}
use Rattle.disk_trio.specs.Trio.{Three, three, file_of, three_of, before, Leaves, LeftSince, read_side, all_faults, trio_view, IsNoted, IsOnCurrent, IsOnOther, IsOnRoot, IsReadAlone}
use Rattle.disk_trio.specs.Laws.{file_same, cur_image, image_of_cur}
use Rattle.disk_trio.specs.declared.side.Side.{Side}
use Rattle.disk_trio.specs.declared.side.Side.TheVariants.{A, B}
use Rattle.disk_trio.specs.declared.trio.Disks.{Disks}

-- counts of faults
pub sum_later : (a b c x y z : ℕ) → a ≤ x → b ≤ y → c ≤ z → min (a + b + c) (2 ^ 64 - 1) ≤ min (x + y + z) (2 ^ 64 - 1)
sum_later a b c x y z p q r = omega arith

pub rose_later : (a b c : ℕ) → a ≤ b → Rose b c → Rose a c
rose_later a b c le rose = omega (arith, rose)

-- tests
pub known_if : (b : Bool) (n : ℕ) → 0 < (if b then n else 0) → b ≡ true
known_if true n lt = refl
known_if false n lt = absurd (omega arith)

pub if_unknown : (b : Bool) (n : ℕ) → b ≡ false → (if b then n else 0) ≡ 0
if_unknown true n is = absurd (cc is)
if_unknown false n is = refl

module _ {D : Type 0} (G : Ghosts D) where
  -- time
  pub steps : (old new : Disks D G) → IsNoted old new → all_faults old ≤ all_faults new → Elapses (trio_view old) (trio_view new)
  steps old new noted le = record {
    later = omega (arith, ap length noted);
    nothing_else = λ t image low left. which t image (subst (λ (ms : List (Three D)). LeftSince G (three_of new) ms t image) noted left);
    keeps = λ t image low left. subst (λ (ms : List (Three D)). LeftSince G (three_of new) ms t image) (sym noted) (inr left);
    faults = le;
  }
    where
      which : (t : ℕ) (image : List ℕ) → LeftSince G (three_of new) (three_of old ∷ before old) t image → LeftSince G (three_of old) (before old) t image ⊎ Leaves G (three_of new) image
      which t image (inl now) = inr now.1
      which t image (inr was) = inl was

  -- which file
  pub file_among : (s t : Side) (c x o y r q : D) → AreAmong (G.view x).images (G.view c).images → AreAmong (G.view y).images (G.view o).images
      → AreAmong (G.view (file_of t (three s x y q))).images (G.view (file_of t (three s c o r))).images
  file_among A A c x o y r q f g = f
  file_among A B c x o y r q f g = g
  file_among B A c x o y r q f g = g
  file_among B B c x o y r q f g = f

  pub file_seen : (s t : Side) (c x o y r q : D) → (G.view x).seen ≡ (G.view c).seen → (G.view y).seen ≡ (G.view o).seen
      → (G.view (file_of t (three s x y q))).seen ≡ (G.view (file_of t (three s c o r))).seen
  file_seen A A c x o y r q f g = f
  file_seen A B c x o y r q f g = g
  file_seen B A c x o y r q f g = g
  file_seen B B c x o y r q f g = f

  pub same_images : (x c : D) → x ≡ c → AreAmong (G.view x).images (G.view c).images
  same_images x c is image left = subst (λ (d : D). (G.view d).images image) is left

  module _ (reads : (disk : D) → IsTrue G.tells → (G.view disk).images (G.view disk).seen) where
    pub spoils_known : (low high : ℕ) (old new : Disks D G) → IsOnCurrent old new → old.known ≡ true → Spoils low high (G.view old.current) (G.view new.current) → Spoils low high (trio_view old) (trio_view new)
    spoils_known low high old new on known sp = λ place byte out sure image left.
        sp place byte out (λ img is. sure img (image_of_cur G reads left.told old known img is)) image (cur_image G new (on.known ∙ known) image left)

    pub cuts_known : (len : ℕ) (old new : Disks D G) → IsOnCurrent old new → old.known ≡ true → Cuts len (G.view old.current) (G.view new.current) → Cuts len (trio_view old) (trio_view new)
    cuts_known len old new on known sp = λ place byte out sure image left.
        sp place byte out (λ img is. sure img (image_of_cur G reads left.told old known img is)) image (cur_image G new (on.known ∙ known) image left)

  -- calls of the current file
  pub no_new_on_current : (old new : Disks D G) → IsOnCurrent old new → NoNewImage (G.view old.current) (G.view new.current) → NoNewImage (trio_view old) (trio_view new)
  no_new_on_current old new on no_new = λ image l. record {
    told = l.told;
    naming = l.naming;
    left = same_images new.root old.root on.root l.naming l.left;
    file = file_among old.side (names l.naming) old.current new.current old.other new.other old.root new.root no_new (same_images new.other old.other on.other) image
        (subst (λ (s : Side). (G.view (file_of (names l.naming) (three s new.current new.other new.root))).images image) on.side l.file);
  }

  pub side_on_current : (old new : Disks D G) → IsOnCurrent old new → read_side new ≡ read_side old
  side_on_current old new on = λ i. if on.known i then on.side i else names (G.view (on.root i)).seen

  pub seen_on_current : (old new : Disks D G) → IsOnCurrent old new → (G.view new.current).seen ≡ (G.view old.current).seen → (trio_view new).seen ≡ (trio_view old).seen
  seen_on_current old new on seen =
      (λ i. (G.view (file_of (side_on_current old new on i) (three (on.side i) new.current new.other new.root))).seen)
      ∙ file_seen old.side (read_side old) old.current new.current old.other new.other old.root new.root seen (ap (λ (x : D). (G.view x).seen) on.other)

  pub faults_on_current : (old new : Disks D G) → IsOnCurrent old new → (G.view old.current).faults ≤ (G.view new.current).faults → all_faults old ≤ all_faults new
  faults_on_current old new on le =
      sum_later (G.view old.current).faults (G.view old.other).faults (G.view old.root).faults (G.view new.current).faults (G.view new.other).faults (G.view new.root).faults
      le (omega (arith, ap (λ (x : D). (G.view x).faults) on.other)) (omega (arith, ap (λ (x : D). (G.view x).faults) on.root))

  -- reading, and then a call
  pub time_then : (d0 d1 d2 : Disks D G) → IsReadAlone d0 d1 → Elapses (trio_view d1) (trio_view d2) → Elapses (trio_view d0) (trio_view d2)
  time_then d0 d1 d2 r time = record {
    later = omega (arith, r.time.later, time.later);
    nothing_else = λ t image le l.
        ⊎_elim (λ was. ⊎_elim (λ first. inl first) (λ mid. inl (inl (le, r.images image mid))) (r.time.nothing_else t image le was)) (λ now. inr now)
        (time.nothing_else t image (omega (arith, le, r.time.later)) l);
    keeps = λ t image le l. time.keeps t image (omega (arith, le, r.time.later)) (r.time.keeps t image le l);
    faults = omega (arith, r.time.faults, time.faults);
  }

  pub read_then : (d0 d1 d2 : Disks D G) → IsReadAlone d0 d1 → IsReadAlone d1 d2 → IsReadAlone d0 d2
  read_then d0 d1 d2 r s = record {
    seen = s.seen ∙ r.seen;
    images = λ image l. r.images image (s.images image l);
    time = time_then d0 d1 d2 r s.time;
    ready = s.ready ∙ r.ready;
    end = s.end ∙ r.end;
    left = s.left ∙ r.left;
  }

  -- calls of the root that write nothing
  pub read_root_alone : (old new : Disks D G) → IsOnRoot old new → (G.view new.root).seen ≡ (G.view old.root).seen → NoNewImage (G.view old.root) (G.view new.root) → (G.view old.root).faults ≤ (G.view new.root).faults → IsReadAlone old new
  read_root_alone old new on seen no_new le = record {
    seen =
        (λ i. (G.view (file_of (if on.known i then on.side i else names (seen i)) (three (on.side i) (on.current i) (on.other i) new.root))).seen)
        ∙ file_seen old.side (read_side old) old.current old.current old.other old.other old.root new.root refl refl;
    images = λ image l. record {
      told = l.told;
      naming = l.naming;
      left = no_new l.naming l.left;
      file = file_among old.side (names l.naming) old.current new.current old.other new.other old.root new.root (same_images new.current old.current on.current) (same_images new.other old.other on.other) image
          (subst (λ (s : Side). (G.view (file_of (names l.naming) (three s new.current new.other new.root))).images image) on.side l.file);
    };
    time = steps old new on.noted (sum_later _ _ _ _ _ _ (omega (arith, ap (λ (x : D). (G.view x).faults) on.current)) (omega (arith, ap (λ (x : D). (G.view x).faults) on.other)) le);
    ready = λ i. if on.known i then (G.view (on.current i)).ready else 0;
    end = λ i. if on.known i then (G.view (on.current i)).end else 0;
    left = λ i. if on.known i then (G.view (on.current i)).left else 0;
  }

  -- calls of the two files that write nothing, where the current one is not known
  pub read_current_alone : (old new : Disks D G) → IsOnCurrent old new → old.known ≡ false → (G.view new.current).seen ≡ (G.view old.current).seen → NoNewImage (G.view old.current) (G.view new.current) → (G.view old.current).faults ≤ (G.view new.current).faults → IsReadAlone old new
  read_current_alone old new on unknown seen no_new le = record {
    seen = seen_on_current old new on seen;
    images = no_new_on_current old new on no_new;
    time = steps old new on.noted (faults_on_current old new on le);
    ready = if_unknown new.known _ (on.known ∙ unknown) ∙ sym (if_unknown old.known _ unknown);
    end = if_unknown new.known _ (on.known ∙ unknown) ∙ sym (if_unknown old.known _ unknown);
    left = if_unknown new.known _ (on.known ∙ unknown) ∙ sym (if_unknown old.known _ unknown);
  }

  pub read_other_alone : (old new : Disks D G) → IsOnOther old new → old.known ≡ false → (G.view new.other).seen ≡ (G.view old.other).seen → NoNewImage (G.view old.other) (G.view new.other) → (G.view old.other).faults ≤ (G.view new.other).faults → IsReadAlone old new
  read_other_alone old new on unknown seen no_new le = record {
    seen =
        (λ i. (G.view (file_of (if on.known i then on.side i else names (G.view (on.root i)).seen) (three (on.side i) new.current new.other new.root))).seen)
        ∙ file_seen old.side (read_side old) old.current new.current old.other new.other old.root new.root (ap (λ (x : D). (G.view x).seen) on.current) seen;
    images = λ image l. record {
      told = l.told;
      naming = l.naming;
      left = same_images new.root old.root on.root l.naming l.left;
      file = file_among old.side (names l.naming) old.current new.current old.other new.other old.root new.root (same_images new.current old.current on.current) no_new image
          (subst (λ (s : Side). (G.view (file_of (names l.naming) (three s new.current new.other new.root))).images image) on.side l.file);
    };
    time = steps old new on.noted (sum_later _ _ _ _ _ _ (omega (arith, ap (λ (x : D). (G.view x).faults) on.current)) le (omega (arith, ap (λ (x : D). (G.view x).faults) on.root)));
    ready = if_unknown new.known _ (on.known ∙ unknown) ∙ sym (if_unknown old.known _ unknown);
    end = if_unknown new.known _ (on.known ∙ unknown) ∙ sym (if_unknown old.known _ unknown);
    left = if_unknown new.known _ (on.known ∙ unknown) ∙ sym (if_unknown old.known _ unknown);
  }

  -- calls of the other file
  pub faults_on_other : (old new : Disks D G) → IsOnOther old new → (G.view old.other).faults ≤ (G.view new.other).faults → all_faults old ≤ all_faults new
  faults_on_other old new on le =
      sum_later (G.view old.current).faults (G.view old.other).faults (G.view old.root).faults (G.view new.current).faults (G.view new.other).faults (G.view new.root).faults
      (omega (arith, ap (λ (x : D). (G.view x).faults) on.current)) le (omega (arith, ap (λ (x : D). (G.view x).faults) on.root))

  -- where it is known, what a crash leaves has nothing to do with the other file
  pub no_new_on_other : (old new : Disks D G) → IsOnOther old new → old.known ≡ true → NoNewImage (trio_view old) (trio_view new)
  no_new_on_other old new on known = λ image l.
      let is : names l.naming ≡ new.side = new.named (on.known ∙ known) l.told l.naming l.left in
      let cur : (G.view new.current).images image = cur_image G new (on.known ∙ known) image l in
      let side : names l.naming ≡ old.side = is ∙ on.side in
      record {
        told = l.told;
        naming = l.naming;
        left = same_images new.root old.root on.root l.naming l.left;
        file = subst (λ (x : D). (G.view x).images image)
            (sym (ap (λ (s : Side). file_of s (three_of old)) side ∙ file_same old.side old.current old.other old.root))
            (same_images new.current old.current on.current image cur);
      }
