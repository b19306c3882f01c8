-- Laws of the view of three disks.
use Rattle.std.specs.Prelude.{◌≡◌, ℕ, ◌<◌, ◌≤◌, Bool, true, false, IsTrue, List, [], ◌∷◌, length, if◌then◌else◌, refl}
use Rattle.std.proofs.Common.{inl, inr, sym, ◌∙◌, ap, subst, arith}
use Rattle.web_disk.specs.declared.disk.Disk.{Ghosts}
use Rattle.disk_trio.specs.Naming.{names}
use Rattle.disk_trio.specs.Trio.{Three, three, file_of, three_of, before, Leaves, LeftBefore, trio_view}
use Rattle.disk_trio.specs.declared.side.Side.{Side}
use Rattle.disk_trio.specs.declared.side.Side.TheVariants.{A, B}
use Rattle.disk_trio.specs.declared.trio.Disks.{Disks}

-- the file of the current one's side is the current one
pub file_same : {D : Type 0} (s : Side) (c o r : D) → file_of s (three s c o r) ≡ c
file_same A c o r = refl
file_same B c o r = refl

module _ {D : Type 0} (G : Ghosts D) where
  -- what would have been left at an earlier moment was so from a moment on that was earlier
  pub left_before : (ms : List (Three D)) (t : ℕ) (image : List ℕ) → LeftBefore G ms t image → t < length ms
  left_before [] t image left = absurd left
  left_before (m ∷ ms) t image (inl now) = omega (arith, now.0)
  left_before (m ∷ ms) t image (inr left) = omega (arith, left_before ms t image left)

  -- what a crash leaves now counts from each moment on
  pub counts_left : (d : Disks D G) (t : ℕ) (image : List ℕ) → t ≤ (trio_view d).moment → (trio_view d).images image → (trio_view d).since t image
  counts_left d t image le now = inl (le, now)

  -- what a crash leaves from the present moment on it leaves now
  pub only_left : (d : Disks D G) (image : List ℕ) → (trio_view d).since (trio_view d).moment image → (trio_view d).images image
  only_left d image (inl now) = now.1
  only_left d image (inr left) = let lt = left_before (before d) (length (before d)) image left in absurd (omega (arith, lt))

  -- where the current file is known, what a crash leaves is left of it
  pub cur_image : (d : Disks D G) → d.known ≡ true → (image : List ℕ) → Leaves G (three_of d) image → (G.view d.current).images image
  cur_image d known image l =
      subst (λ (x : D). (G.view x).images image) (ap (λ (s : Side). file_of s (three_of d)) (d.named known l.told l.naming l.left) ∙ file_same d.side d.current d.other d.root) l.file

  -- where the current file is known, it is read
  pub seen_known : (d : Disks D G) → d.known ≡ true → (trio_view d).seen ≡ (G.view d.current).seen
  seen_known d known =
      ap (λ (b : Bool). (G.view (file_of (if b then d.side else names (G.view d.root).seen) (three_of d))).seen) known
      ∙ ap (λ (x : D). (G.view x).seen) (file_same d.side d.current d.other d.root)

  module _ (reads : (disk : D) → IsTrue G.tells → (G.view disk).images (G.view disk).seen) where
    -- where the current file is known, what a crash leaves of it is left
    pub image_of_cur : IsTrue G.tells → (d : Disks D G) → d.known ≡ true → (image : List ℕ) → (G.view d.current).images image → Leaves G (three_of d) image
    image_of_cur told d known image is = record {
      told = told;
      naming = (G.view d.root).seen;
      left = reads d.root told;
      file = subst (λ (x : D). (G.view x).images image) (sym (ap (λ (s : Side). file_of s (three_of d)) (d.named known told (G.view d.root).seen (reads d.root told)) ∙ file_same d.side d.current d.other d.root)) is;
    }

    -- what is read is what a crash might leave
    pub reads_left : (d : Disks D G) → IsTrue G.tells → (trio_view d).images (trio_view d).seen
    reads_left d told = by_test d.known refl
      where
        by_test : (b : Bool) → d.known ≡ b → Leaves G (three_of d) (trio_view d).seen
        by_test true is = subst (Leaves G (three_of d)) (sym (seen_known d is)) (image_of_cur told d is (G.view d.current).seen (reads d.current told))
        by_test false is = record {
          told = told;
          naming = (G.view d.root).seen;
          left = reads d.root told;
          file = subst (λ (b : Bool). (G.view (file_of (names (G.view d.root).seen) (three_of d))).images (G.view (file_of (if b then d.side else names (G.view d.root).seen) (three_of d))).seen) (sym is)
              (reads (file_of (names (G.view d.root).seen) (three_of d)) told);
        }
