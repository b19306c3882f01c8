-- Whether the disks of a shelf are empty.
use Rattle.std.proofs.Common.{◌≡◌, ◌≢◌, ◌⊎◌, inl, inr, ℕ, ◌<◌, List, [], ◌∷◌, refl, subst, arith}
use Rattle.web_disk.specs.View.{RackView, AreAmong}
use Rattle.web_disk.specs.declared.disk.Disk.{Ghosts}
use Rattle.server_limits.specs.Limits.{most_shelves}
use Rattle.disk_trio.specs.Trio.{AreEmpty, first, three_of}
use Rattle.disk_trio.specs.declared.side.Side.{Side}
use Rattle.disk_trio.specs.declared.side.Side.TheVariants.{A, B}
use Rattle.disk_trio.specs.declared.trio.Disks.{Disks}
use Rattle.trio_rack.specs.Numbers.{file_number, root_number, IsOneOfThree, IsNoneOf}
use Rattle.trio_rack.specs.Trios.{AreFrom, MayBeBare, MayHoldSome}

-- the disks of another shelf are none of a shelf
pub of_another : (shelf n number : ℕ) → shelf < most_shelves → n < most_shelves → n ≢ shelf → IsOneOfThree n number → IsNoneOf shelf number
of_another shelf n number low below other (inl is) =
    record { a = λ e. other (omega (arith, e, is)); b = λ e. omega (arith, e, is, below); root = λ e. omega (arith, e, is, below) }
of_another shelf n number low below other (inr (inl is)) =
    record { a = λ e. omega (arith, e, is, low); b = λ e. other (omega (arith, e, is)); root = λ e. omega (arith, e, is, below) }
of_another shelf n number low below other (inr (inr is)) =
    record { a = λ e. omega (arith, e, is, low); b = λ e. omega (arith, e, is, low); root = λ e. other (omega (arith, e, is)) }

-- what the disks of a shelf may hold they might hold elsewhere
pub bare_among : (these those : RackView) (shelf : ℕ) → ((number : ℕ) → IsOneOfThree shelf number → AreAmong (these.holds number) (those.holds number))
    → MayBeBare these shelf → MayBeBare those shelf
bare_among these those shelf among bare = record {
  a = among (file_number A shelf) (inl refl) [] bare.a;
  b = among (file_number B shelf) (inr (inl refl)) [] bare.b;
  root = among (root_number shelf) (inr (inr refl)) [] bare.root;
}

pub some_among : (these those : RackView) (shelf : ℕ) → ((number : ℕ) → IsOneOfThree shelf number → AreAmong (these.holds number) (those.holds number))
    → MayHoldSome these shelf → MayHoldSome those shelf
some_among these those shelf among h =
    record { number = h.number; its = h.its; image = h.image; held = among h.number h.its h.image h.held; some = h.some }

some_or_none : (xs : List ℕ) → (xs ≡ []) ⊎ (xs ≢ [])
some_or_none [] = inl refl
some_or_none (x ∷ xs) = inr (λ e. let no : ⊥ = cc e in no)

module _ {D : Type 0} (G : Ghosts D) where
  bare : D → Type 0
  bare x = (G.view x).seen ≡ []

  -- the two files are the current one and the other, in one order or the other
  first_bare : (s : Side) (c o : D) → bare c → bare o → bare (first s c o)
  unfolding bare
  first_bare A c o p q = p
  first_bare B c o p q = q

  current_bare : (s : Side) (c o : D) → bare (first s c o) → bare (first s o c) → bare c
  unfolding bare
  current_bare A c o p q = p
  current_bare B c o p q = q

  module _ (reads : (x : D) → (G.view x).images (G.view x).seen) (rack : RackView) (shelf : ℕ) (d : Disks D G) (from : AreFrom rack shelf d) where
    held : (x : D) → (P : List ℕ → Type 0) → ((image : List ℕ) → (G.view x).images image → P image) → bare x → P []
    unfolding bare
    held x P among e = subst P e (among (G.view x).seen (reads x))

    -- where the disks that were taken are empty, the rack's may have been
    pub may_be_bare : AreEmpty d → MayBeBare rack shelf
    unfolding bare
    may_be_bare e = record {
      a = held (three_of d).a (rack.holds (file_number A shelf)) from.a (first_bare d.side d.current d.other e.current e.other);
      b = held (three_of d).b (rack.holds (file_number B shelf)) from.b (first_bare d.side d.other d.current e.other e.current);
      root = held d.root (rack.holds (root_number shelf)) from.root e.root;
    }

    -- where they are not, one of the rack's may have held some bytes
    pub may_hold_some : (AreEmpty d → ⊥) → MayHoldSome rack shelf
    unfolding bare
    may_hold_some not_all = elim (some_or_none (G.view (three_of d).a).seen) [
      | inr some ↦ record { number = file_number A shelf; its = inl refl; image = (G.view (three_of d).a).seen; held = from.a _ (reads (three_of d).a); some = some }
      | inl a ↦ elim (some_or_none (G.view (three_of d).b).seen) [
        | inr some ↦ record { number = file_number B shelf; its = inr (inl refl); image = (G.view (three_of d).b).seen; held = from.b _ (reads (three_of d).b); some = some }
        | inl b ↦ elim (some_or_none (G.view d.root).seen) [
          | inr some ↦ record { number = root_number shelf; its = inr (inr refl); image = (G.view d.root).seen; held = from.root _ (reads d.root); some = some }
          | inl root ↦ absurd (not_all (record { current = current_bare d.side d.current d.other a b; other = current_bare d.side d.other d.current b a; root = root }))
        ]
      ]
    ]
