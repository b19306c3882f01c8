-- What notes tell, and what a site that is closed hands back.
use Rattle.std.specs.Prelude.{◌≡◌, ◌≤◌, ℕ, Bool, List, [], ◌∷◌, Some, slice_get}
use Rattle.std.specs.Global.{Vec}
use mathlib.Core.List.{IsPrefix}
use Rattle.web_disk.specs.View.{View}
use Rattle.shelf_lock.specs.declared.view.Role.TheVariants.{Outside}
use Rattle.shelf_lock.specs.Order.{posed, longer}
use Rattle.lock_row.specs.Spots.{Spot, spot, Home, Homes}
use Rattle.history_spec.specs.Histories.{Entry, own_of}
use Rattle.history_spec.specs.Passes.{IsSeenBy}
use Rattle.site.specs.declared.entry.KeptEntry.{KeptEntry}
use Rattle.site.specs.declared.opening.Opening.{Opening}
use Rattle.site.specs.Entries.{entries_of}
use Rattle.site.specs.Passes.{Spots, seen_by}
use Rattle.site.specs.Sound.{StandsFor}

-- The pass has heard a note of a shelf: it has then seen the longer history of both. What it and the note had seen begin that one,
-- which has no further entry of the pass's caller.
pub record HearsOf {D N : Type 0} (note a b : Spot (Opening D N) KeptEntry) : Type 0 where
  pub is : b ≡ spot a.table (posed Outside (longer a.known.seen note.known.seen) a.known)
  pub had : IsPrefix (seen_by a.known) (seen_by b.known)
  pub heard : IsPrefix (seen_by note.known) (seen_by b.known)
  pub own : own_of a.known.caller (seen_by b.known) ≡ own_of a.known.caller (seen_by a.known)

-- What is handed back of a shelf of this opening: the disk and the source of nonces stand for its history, as far as it was opened as
-- an own one, and callers from this number on have no entries in it.
pub record IsBack {D N : Type 0} (view : D → View) (tells : Bool) (coming : N → ℕ → ℕ) (opening : List (Opening D N)) (given : ℕ) (disk : D) (nonces : N) (es : List Entry) : Type 0 where
  pub opened : Opening D N
  pub opening_is : opening ≡ opened ∷ []
  pub stands : StandsFor view tells coming opened disk nonces es
  pub callers : (who : ℕ) → given ≤ who → own_of who es ≡ []

-- what is handed back of each of these shelves, in their order, stands for its history, in which only callers with a pass have entries
abbrev pub AreBack : {D N : Type 0} → (D → View) → Bool → (N → ℕ → ℕ) → Homes (Opening D N) → Vec D × Vec N × Vec (List KeptEntry) → Type 0
AreBack {D} {N} view tells coming row back =
    (k : ℕ) (h : Home (Opening D N)) (d : D) (n : N) (es : List KeptEntry) → slice_get row.homes k ≡ Some h
    → slice_get back.0.items k ≡ Some d → slice_get back.1.items k ≡ Some n → slice_get back.2.items k ≡ Some es
    → IsBack view tells coming h.opening row.seats d n (entries_of es)

-- each pass has seen a beginning of each history, with all entries of its caller
abbrev pub AllAreSeen : {D N : Type 0} → Vec (Spots D N) → Vec (List KeptEntry) → Type 0
AllAreSeen {D} {N} passes histories =
    (k : ℕ) (es : List KeptEntry) → slice_get histories.items k ≡ Some es
    → (j : ℕ) (p : Spots D N) → slice_get passes.items j ≡ Some p
    → (a : Spot (Opening D N) KeptEntry) → slice_get p k ≡ Some a → IsSeenBy a.known.caller (seen_by a.known) (entries_of es)
