-- Notes, and the end of a site.
use Rattle.std.proofs.Common.{◌≡◌, ℕ, [], ◌∷◌, Some, slice_get, refl, sym, ◌∙◌, ap}
use mathlib.Core.List.{IsPrefix}
use Rattle.shelf_lock.specs.declared.view.Role.TheVariants.{Outside}
use Rattle.shelf_lock.specs.Order.{made_by, posed, longer}
use Rattle.lock_row.specs.Spots.{Spot, spot, IsOf, IsNoteIn, caller_at}
use Rattle.lock_row.specs.Rows.{ZipsAll}
use Rattle.lock_row.proofs.Places.{homes, same_at, same_table, tables_of, one_of}
use Rattle.site.specs.declared.entry.KeptEntry.{KeptEntry}
use Rattle.site.specs.declared.opening.Opening.{Opening}
use Rattle.site.specs.declared.site.Site.{Site}
use Rattle.site.specs.Entries.{entries_of}
use Rattle.site.specs.Passes.{Spots}
use Rattle.site.specs.Sites.{IsOwn}
use Rattle.site.specs.Ends.{HearsOf}
use Rattle.site.proofs.Turns.{own_map, prefix_map}

module _ {D N : Type 0} where
  same_worker : (old new : Spots D N) → homes old ≡ homes new → ((k : ℕ) (a b : Spot (Opening D N) KeptEntry) → slice_get old k ≡ Some a → slice_get new k ≡ Some b → b.known.caller ≡ a.known.caller) → caller_at new ≡ caller_at old
  same_worker [] [] e f = refl
  same_worker [] (y ∷ ys) e f = absurd (let no : ⊥ = cc e in no)
  same_worker (x ∷ xs) [] e f = absurd (let no : ⊥ = cc e in no)
  same_worker (x ∷ xs) (y ∷ ys) e f = f 0 x y refl refl

  -- what was heard at each place
  pub heard_all : {R : Spot (Opening D N) KeptEntry → Spot (Opening D N) KeptEntry → Spot (Opening D N) KeptEntry → Type 0} (old note new : Spots D N) → ZipsAll R old note new
      → ((n a b : Spot (Opening D N) KeptEntry) → R n a b → HearsOf n a b) → ZipsAll HearsOf old note new
  heard_all old note new zips f k a n a_is n_is = let z = zips k a n a_is n_is in (z.0, z.1, f n a z.0 z.2)

  pub hears_own : (site : Site D N) (old note new : Spots D N) → IsOwn site old → IsOf site.row new → IsNoteIn site.row note → ZipsAll HearsOf old note new → IsOwn site new
  hears_own site old note new own of noted zips =
      let same : homes old ≡ homes new = own.of ∙ sym of in
      let at : (k : ℕ) (b : Spot (Opening D N) KeptEntry) → slice_get new k ≡ Some b → (a : Spot (Opening D N) KeptEntry) × (slice_get old k ≡ Some a) × (b.known.caller ≡ a.known.caller) × (b.known.opening ≡ a.known.opening) = λ k b here.
      let a = same_at old new k b same here in
      let n = same_table note old k a.0 (noted ∙ sym (tables_of old site.row.homes own.of)) a.1 in
      let z = zips k a.0 n.0 a.1 n.1 in
      let is : b ≡ z.0 = one_of (sym here ∙ z.1) in
      (a.0, a.1, ap (λ (s : Spot (Opening D N) KeptEntry). s.known.caller) (is ∙ z.2.is), ap (λ (s : Spot (Opening D N) KeptEntry). s.known.opening) (is ∙ z.2.is)) in
      let worker : caller_at new ≡ caller_at old =
      same_worker old new same (λ k a b a_is b_is. let f = at k b b_is in f.2 ∙ ap (λ (s : Spot (Opening D N) KeptEntry). s.known.caller) (one_of (sym f.1 ∙ a_is))) in
      record {
        of = of;
        fuel = own.fuel;
        seats = λ k b here.
            let f = at k b here in
            let seat = own.seats k f.0 f.1 in
            record {
              opening = seat.opening;
              opening_is = f.3 ∙ seat.opening_is;
              library_is = seat.library_is;
              fuel_is = seat.fuel_is;
              caller_is = f.2 ∙ (seat.caller_is ∙ sym worker);
            };
      }

  -- what was heard, as entries
  pub hears_of : (n a b : Spot (Opening D N) KeptEntry) → b ≡ spot a.table (posed Outside (longer a.known.seen n.known.seen) a.known) → IsPrefix a.known.seen b.known.seen → IsPrefix n.known.seen b.known.seen
      → made_by (λ (e : KeptEntry). e.caller) b.known.caller b.known.seen ≡ made_by (λ (e : KeptEntry). e.caller) a.known.caller a.known.seen → HearsOf n a b
  hears_of n a b is had heard mine =
      let same : b.known.caller ≡ a.known.caller = ap (λ (s : Spot (Opening D N) KeptEntry). s.known.caller) is in
      let own : made_by (λ (e : KeptEntry). e.caller) a.known.caller b.known.seen ≡ made_by (λ (e : KeptEntry). e.caller) a.known.caller a.known.seen = ap (λ (c : ℕ). made_by (λ (e : KeptEntry). e.caller) c b.known.seen) (sym same) ∙ mine in
      record {
        is = is;
        had = prefix_map a.known.seen b.known.seen had;
        heard = prefix_map n.known.seen b.known.seen heard;
        own = own_map a.known.caller b.known.seen ∙ (ap entries_of own ∙ sym (own_map a.known.caller a.known.seen));
      }
