-- Shelves that are opened one after another, and handed back.
use Rattle.std.proofs.Common.{◌≡◌, ◌≢◌, inl, inr, ℕ, zero, suc, ◌≤◌, ◌<◌, ◌+◌, ◌-◌, Bool, false, List, [], ◌∷◌, ◌++◌, length, length-append, map, reverse, Some, slice_get, IsTrue, refl, ap, sym, ◌∙◌, subst, arith}
use Rattle.std.specs.Prelude.{option_map}
use Rattle.std.specs.List.{AllZip}
use Rattle.std.proofs.lemmas.List.{append-nil, reverse-append, reverse-reverse}
use Rattle.std.proofs.lemmas.Option.{slice_get_within}
use Rattle.web_disk.specs.View.{View}
use Rattle.web_disk.specs.declared.disk.Disk.{Ghosts}
use Rattle.disk_trio.specs.declared.trio.Disks.{Disks}
use Rattle.web_disk.proofs.Moments.{started}
use Rattle.script_nodes.specs.Setup.{Named}
use Rattle.script_nodes.specs.Views.{library_of}
use Rattle.web_outside.specs.Causes.{Rose}
use Rattle.shelf.specs.Opening.{IsFaultOf, KeepsRecords}
use Rattle.shelf.specs.Owning.{HoldsOwnRecords}
use Rattle.shelf.specs.Views.{book_in}
use Rattle.shelf.specs.declared.begin.BeginFault.{BeginFault}
use Rattle.shelf.specs.declared.begin.BeginFault.TheVariants.{DiskFault, Memory}
use Rattle.shelf.specs.declared.rules.Rules.{Rules}
use Rattle.shelf.specs.declared.shelf.Shelf.{Shelf}
use Rattle.shelf_lock.proofs.Prefixes.{snoc_each}
use Rattle.lock_row.specs.Spots.{Spot, Home, Homes, one_dealt, IsOf, caller_at, home_of}
use Rattle.lock_row.specs.Rows.{IsNewPass}
use Rattle.lock_row.proofs.Lockings.{get_front}
use Rattle.lock_row.proofs.Places.{one_of, get_there, map_get, get_map, map_map, map_length}
use Rattle.server_limits.specs.Counts.{most_workers}
use Rattle.site.specs.declared.entry.KeptEntry.{KeptEntry}
use Rattle.site.specs.declared.kept.KeptShelf.{KeptShelf}
use Rattle.site.specs.declared.opening.Opening.{Opening}
use Rattle.site.specs.declared.site.Site.{Site}
use Rattle.site.specs.Passes.{Spots}
use Rattle.shelf.specs.Ranges.{numbered}
use Rattle.site.specs.Beginnings.{AreNew, AreCopies, LosesNothing, IsOpenedOn, IsBegun, IsFreshOn, AreFreshOn, IsReturned, IsUnopened, AreUnopened, IsUnder, IsWhole, IsFirstPass, given_out}

module _ {A : Type 0} where
  pub at_here : (xs : List A) (x : A) (rest : List A) → slice_get (xs ++ x ∷ rest) (length xs) ≡ Some x
  at_here [] x rest = refl
  at_here (y ∷ ys) x rest = at_here ys x rest

  -- lists that are the same, place by place
  pub same_each : (xs ys : List A) → length xs ≡ length ys → ((k : ℕ) (x y : A) → slice_get xs k ≡ Some x → slice_get ys k ≡ Some y → x ≡ y) → xs ≡ ys
  same_each [] [] len each = refl
  same_each [] (y ∷ ys) len each = absurd (omega (arith, len))
  same_each (x ∷ xs) [] len each = absurd (omega (arith, len))
  same_each (x ∷ xs) (y ∷ ys) len each = let rest = same_each xs ys (omega (arith, len)) (λ k a b p q. each (suc k) a b p q) in λ i. each 0 x y refl refl i ∷ rest i

  -- what is left of a list that was turned and taken from its end
  pub whole_front : (vs turned left front : List A) → turned ≡ reverse vs → reverse turned ≡ front ++ reverse left → left ≡ [] → vs ≡ front
  whole_front vs turned left front is parts none =
      sym (reverse-reverse vs) ∙ (ap reverse (sym is) ∙ (parts ∙ (ap (λ l. front ++ reverse l) none ∙ append-nil front)))

  -- what holds of two lists that end alike, place by place
  pub pairs_of : (R : ℕ → A → A → Type 0) (fs bs rest : List A) (d e : A) → length fs ≡ length bs → ((k : ℕ) (x y : A) → slice_get fs k ≡ Some x → slice_get bs k ≡ Some y → R k x y) → R (length fs) d e
      → ((k : ℕ) (x : A) → R k x x) → (k : ℕ) (x y : A) → slice_get (fs ++ d ∷ rest) k ≡ Some x → slice_get (bs ++ e ∷ rest) k ≡ Some y → R k x y
  pairs_of R [] [] rest d e len each here same zero x y p q = subst (λ (z : A). R 0 z y) (one_of p) (subst (λ (z : A). R 0 d z) (one_of q) here)
  pairs_of R [] [] rest d e len each here same (suc k) x y p q = subst (λ (z : A). R (suc k) x z) (one_of (sym p ∙ q)) (same (suc k) x)
  pairs_of R [] (b ∷ bs) rest d e len each here same k x y p q = absurd (omega (arith, len))
  pairs_of R (a ∷ fs) [] rest d e len each here same k x y p q = absurd (omega (arith, len))
  pairs_of R (a ∷ fs) (b ∷ bs) rest d e len each here same zero x y p q = each 0 x y p q
  pairs_of R (a ∷ fs) (b ∷ bs) rest d e len each here same (suc k) x y p q = pairs_of (λ j. R (suc j)) fs bs rest d e (omega (arith, len)) (λ j. each (suc j)) here (λ j. same (suc j)) k x y p q

module _ {D N : Type 0} where
  abbrev pub disk_in : KeptShelf D N → D
  disk_in k = k.shelf.journal.disk

  abbrev pub nonces_in : KeptShelf D N → N
  nonces_in k = k.shelf.nonces

  abbrev pub history_in : KeptShelf D N → List KeptEntry
  history_in k = k.history

module _ {D : Type 0} (view : D → View) (tells : Bool) (scripts : List Named) where
  abbrev pub OnlyNow : Type 0
  OnlyNow = (d : D) (image : List ℕ) → (view d).since (view d).moment image → (view d).images image

  -- a disk that nothing was done to
  pub returned_same : OnlyNow → (k : ℕ) (d : D) → IsReturned view tells scripts k d d
  returned_same only_now k d = record {
    any_moment = λ told before after between hold. started (view d) _ (λ image left. inl (inl (hold image (only_now d image left))));
    own_moments = λ told own. started (view d) (HoldsOwnRecords k) (λ image left. (own.0, own.1 image (only_now d image left)));
    later = omega arith;
  }

  bare_same : (k : ℕ) (d : D) → KeepsRecords k [] (view d) (view d)
  bare_same k d = inl (refl, (refl, λ image left. left))

  kept_same : (k : ℕ) (d : D) → LosesNothing scripts k (view d) (view d)
  kept_same k d = inl (bare_same k d)

  -- so disks that nothing was done to are handed back
  pub unopened_none : OnlyNow → (disks : List D) → 0 < length disks → AreUnopened view tells scripts disks disks 0 Memory
  unopened_none only_now disks some = record {
    returned = record {
      many = refl;
      each = λ k d e d_is e_is. subst (IsReturned view tells scripts k d) (one_of (sym d_is ∙ e_is)) (returned_same only_now k d);
    };
    within = some;
    earlier = λ told k d lt e. absurd (omega arith);
    why = λ told d e. tt;
    cause = λ no. absurd (let other : ⊥ = cc no in other);
    keep = λ told k d e d_is e_is sound. subst (λ (z : D). LosesNothing scripts k (view d) (view z)) (one_of (sym d_is ∙ e_is)) (kept_same k d);
    bare = λ told no. absurd (no refl);
  }

module _ {D N : Type 0} (view : D → View) (tells : Bool) (coming : N → ℕ → ℕ) (scripts : List Named) (rules : Rules) where
  returned_opened : (k : ℕ) (d : D) (n : N) (s : KeptShelf D N) → IsFreshOn view tells coming scripts (numbered rules k) d n s → IsReturned view tells scripts k d (disk_in s)
  returned_opened k d n s fresh = record { any_moment = fresh.shelf.any_moment; own_moments = fresh.shelf.own_moments; later = fresh.shelf.later }

  -- one more was opened
  pub fresh_on : (disks : List D) (nonces : List N) (ks : List (KeptShelf D N)) (number : ℕ) (d : D) (n : N) (s : KeptShelf D N) → AreFreshOn view tells coming scripts rules disks nonces ks → length ks ≡ number
      → slice_get disks number ≡ Some d → slice_get nonces number ≡ Some n → IsFreshOn view tells coming scripts (numbered rules number) d n s → AreFreshOn view tells coming scripts rules disks nonces (ks ++ s ∷ [])
  fresh_on disks nonces ks number d n s fresh many d_is n_is new k x m z x_is m_is z_is =
      snoc_each K ks s (λ i y e a b a_is b_is. fresh i a b y a_is b_is e) here k z z_is x m x_is m_is
    where
      K : ℕ → KeptShelf D N → Type 0
      K i y = (a : D) (b : N) → slice_get disks i ≡ Some a → slice_get nonces i ≡ Some b → IsFreshOn view tells coming scripts (numbered rules i) a b y

      here : K (length ks) s
      here = subst (λ (i : ℕ). K i s) (sym many) (λ a b a_is b_is.
          subst (λ (w : D). IsFreshOn view tells coming scripts (numbered rules number) w b s) (one_of (sym d_is ∙ a_is))
          (subst (λ (w : N). IsFreshOn view tells coming scripts (numbered rules number) d w s) (one_of (sym n_is ∙ b_is)) new))

  -- the same of lists that were turned
  pub turned_fresh : (disks turned_d : List D) (nonces turned_n : List N) (ks : List (KeptShelf D N)) → turned_d ≡ reverse disks → turned_n ≡ reverse nonces
      → AreFreshOn view tells coming scripts rules (reverse turned_d) (reverse turned_n) ks → AreFreshOn view tells coming scripts rules disks nonces ks
  turned_fresh disks turned_d nonces turned_n ks d_is n_is fresh =
      subst (λ (l : List D). AreFreshOn view tells coming scripts rules l nonces ks) (ap reverse d_is ∙ reverse-reverse disks)
      (subst (λ (l : List N). AreFreshOn view tells coming scripts rules (reverse turned_d) l ks) (ap reverse n_is ∙ reverse-reverse nonces) fresh)

  module _ (disks : List D) (nonces : List N) (ks : List (KeptShelf D N)) (long : length nonces ≡ length disks) (fresh : AreFreshOn view tells coming scripts rules disks nonces ks) where
    -- the shelf of a place, of those that were opened
    fresh_at : (k : ℕ) (d : D) (s : KeptShelf D N) → slice_get disks k ≡ Some d → slice_get ks k ≡ Some s → (n : N) × IsFreshOn view tells coming scripts (numbered rules k) d n s
    fresh_at k d s d_is s_is =
        let within = slice_get_within disks k d d_is in
        let n = get_there nonces k (omega arith) in (n.0, fresh k d n.0 s d_is n.1 s_is)

    returned_at : (k : ℕ) (d e : D) → slice_get disks k ≡ Some d → slice_get (map disk_in ks) k ≡ Some e → IsReturned view tells scripts k d e
    returned_at k d e d_is e_is =
        let s = map_get disk_in ks k e e_is in
        let f = fresh_at k d s.0 d_is s.1 in
        subst (IsReturned view tells scripts k d) s.2 (returned_opened k d f.0 s.0 f.1)

    keeps_at : IsTrue tells → (k : ℕ) (d e : D) → slice_get disks k ≡ Some d → slice_get (map disk_in ks) k ≡ Some e → LosesNothing scripts k (view d) (view e)
    keeps_at told k d e d_is e_is =
        let s = map_get disk_in ks k e e_is in
        let f = fresh_at k d s.0 d_is s.1 in
        subst (λ (z : D). LosesNothing scripts k (view d) (view z)) s.2 (inr (f.1.shelf.keeps told))

    -- all were opened, and are handed back
    pub unopened_after : length ks ≡ length disks → 0 < length disks → AreUnopened view tells scripts disks (map disk_in ks) 0 Memory
    unopened_after many some = record {
      returned = record { many = map_length disk_in ks ∙ many; each = returned_at };
      within = some;
      earlier = λ told k d lt e. absurd (omega arith);
      why = λ told d e. tt;
      cause = λ no. absurd (let other : ⊥ = cc no in other);
      keep = λ told k d e d_is e_is sound. keeps_at told k d e d_is e_is;
      bare = λ told no. absurd (no refl);
    }

    -- their sources are those that they were given
    pub sources_of : length ks ≡ length disks → map nonces_in ks ≡ nonces
    sources_of many =
        same_each (map nonces_in ks) nonces (map_length nonces_in ks ∙ (many ∙ sym long))
        (λ k x y x_is y_is.
        let s = map_get nonces_in ks k x x_is in
        let within = slice_get_within nonces k y y_is in
        let d = get_there disks k (omega arith) in
        sym s.2 ∙ (fresh k d.0 y s.0 d.1 y_is s.1).shelf.nonces_are)

    -- the shelf at a place
    pub fresh_there : length ks ≡ length disks → (k : ℕ) (s : KeptShelf D N) → slice_get ks k ≡ Some s → (d : D) × (n : N) × IsFreshOn view tells coming scripts (numbered rules k) d n s
    fresh_there many k s s_is =
        let within = slice_get_within ks k s s_is in
        let d = get_there disks k (omega arith) in
        let n = get_there nonces k (omega arith) in
        (d.0, n.0, fresh k d.0 n.0 s d.1 n.1 s_is)

    -- a site of these shelves, with copies of what their journals told, and with this fuel
    module _ (many : length ks ≡ length disks) (site : Site D N) (libraries : AreCopies ks site.libraries) (fuel_is : site.fuel ≡ rules.fuel) (homes : map (λ (h : Home (Opening D N)). h.opening) site.row.homes ≡ map (λ (k : KeptShelf D N). k.opened ∷ []) ks) where
      pub shelf_at : (k : ℕ) (h : Home (Opening D N)) → slice_get site.row.homes k ≡ Some h → (s : KeptShelf D N) × (slice_get ks k ≡ Some s) × (h.opening ≡ s.opened ∷ [])
      shelf_at k h h_is =
          let s = map_get (λ (z : KeptShelf D N). z.opened ∷ []) ks k h.opening (ap (λ l. slice_get l k) (sym homes) ∙ get_map (λ (z : Home (Opening D N)). z.opening) site.row.homes k h h_is) in
          (s.0, s.1, sym s.2)

      pub as_many : length site.row.homes ≡ length disks
      as_many = sym (map_length (λ (h : Home (Opening D N)). h.opening) site.row.homes) ∙ (ap length homes ∙ (map_length (λ (z : KeptShelf D N). z.opened ∷ []) ks ∙ many))

      pub begun_of : IsBegun view tells scripts rules disks nonces site
      begun_of = record {
        fuel_is = fuel_is;
        many = as_many;
        each = λ k d n h d_is n_is h_is.
            let s = shelf_at k h h_is in
            let f = fresh k d n s.0 d_is n_is s.1 in
            record {
              opening = s.0.opened;
              opening_is = s.2;
              shelf = subst (λ (z : Shelf D N). IsOpenedOn view tells scripts (numbered rules k) d n z) (sym f.opened_is) f.shelf;
            };
      }

      pub under_of : (k : ℕ) (h : Home (Opening D N)) → slice_get site.row.homes k ≡ Some h → IsUnder site k h
      under_of k h h_is =
          let s = shelf_at k h h_is in
          let f = fresh_there many k s.0 s.1 in
          let told = map_get library_of site.libraries.items k (library_of s.0.shelf.library)
          (ap (λ l. slice_get l k) libraries ∙ get_map (λ (z : KeptShelf D N). library_of z.shelf.library) ks k s.0 s.1) in
          record {
            opening = s.0.opened;
            opening_is = s.2;
            library_is = ap (λ l. option_map library_of l) told.1 ∙ (ap (λ l. Some l) told.2 ∙ ap (λ (z : Shelf D N). Some (library_of z.library)) (sym f.2.opened_is));
            fuel_is = ap (λ (z : Shelf D N). z.rules.fuel) f.2.opened_is ∙ (ap (λ (r : Rules). r.fuel) f.2.shelf.rules_are ∙ sym fuel_is);
          }

    -- one was not opened, after these
    pub unopened_at : OnlyNow view tells scripts → (front rest : List D) (d e : D) (number : ℕ) (fault : BeginFault) → disks ≡ front ++ d ∷ rest → length front ≡ number → length ks ≡ number
        → IsUnopened view tells scripts number d e fault → AreUnopened view tells scripts disks (map disk_in ks ++ e ∷ rest) number fault
    unopened_at only_now front rest d e number fault is len many unopened =
        let mapped = map_length disk_in ks in
        let whole : length disks ≡ length front + length (d ∷ rest) = ap length is ∙ length-append front (d ∷ rest) in
        let back = length-append (map disk_in ks) (e ∷ rest) in
        let here : slice_get disks number ≡ Some d = ap (λ l. slice_get l number) is ∙ subst (λ (n : ℕ). slice_get (front ++ d ∷ rest) n ≡ Some d) len (at_here front d rest) in
        let home : slice_get (map disk_in ks ++ e ∷ rest) number ≡ Some e = subst (λ (n : ℕ). slice_get (map disk_in ks ++ e ∷ rest) n ≡ Some e) (mapped ∙ many) (at_here (map disk_in ks) e rest) in
        let fronts : (k : ℕ) (x y : D) → slice_get front k ≡ Some x → slice_get (map disk_in ks) k ≡ Some y → IsReturned view tells scripts k x y =
        λ k x y x_is y_is. returned_at k x y (ap (λ l. slice_get l k) is ∙ get_front front (d ∷ rest) k x x_is) y_is in
        record {
          returned = record {
            many = omega arith;
            each = λ k x y x_is y_is.
                pairs_of (IsReturned view tells scripts) front (map disk_in ks) rest d e (len ∙ sym (mapped ∙ many)) fronts
                (subst (λ (n : ℕ). IsReturned view tells scripts n d e) (sym len) unopened.returned) (returned_same view tells scripts only_now) k x y
                (ap (λ l. slice_get l k) (sym is) ∙ x_is) y_is;
          };
          within = omega arith;
          earlier = λ told k x lt x_is.
              let s = get_there ks k (omega arith) in
              let f = fresh_at k x s.0 x_is s.1 in
              (book_in view s.0.shelf, (f.1.shelf.book told, f.1.shelf.in_order.sound, f.1.shelf.fits told));
          why = λ told x x_is. subst (λ (z : D). IsFaultOf scripts number (view z) fault) (one_of (sym here ∙ x_is)) (unopened.why told);
          cause = λ was x y x_is y_is.
              subst (λ (z : D). Rose (view z).faults (view y).faults) (one_of (sym here ∙ x_is))
              (subst (λ (z : D). Rose (view d).faults (view z).faults) (one_of (sym home ∙ y_is)) (unopened.cause was));
          keep = λ told k x y x_is y_is.
              pairs_of (λ (n : ℕ) (a b : D). (n ≡ number → fault ≢ DiskFault) → LosesNothing scripts n (view a) (view b)) front (map disk_in ks) rest d e (len ∙ sym (mapped ∙ many))
              (λ n a b a_is b_is sound. keeps_at told n a b (ap (λ l. slice_get l n) is ∙ get_front front (d ∷ rest) n a a_is) b_is)
              (λ sound. subst (λ (n : ℕ). LosesNothing scripts n (view d) (view e)) (sym len) (inl (unopened.keeps told (sound len))))
              (λ n a sound. kept_same view tells scripts n a) k x y
              (ap (λ l. slice_get l k) (sym is) ∙ x_is) y_is;
          bare = λ told no k x y low x_is y_is.
              pairs_of (λ (n : ℕ) (a b : D). number ≤ n → (n ≡ number → fault ≢ DiskFault) → KeepsRecords n [] (view a) (view b)) front (map disk_in ks) rest d e
              (len ∙ sym (mapped ∙ many))
              (λ n a b a_is b_is high. absurd (let within = slice_get_within front n a a_is in omega (arith, within, high, len)))
              (λ high sound. subst (λ (n : ℕ). KeepsRecords n [] (view d) (view e)) (sym len) (unopened.keeps told (sound len)))
              (λ n a high sound. bare_same view tells scripts n a) k x y
              (ap (λ l. slice_get l k) (sym is) ∙ x_is) y_is low;
        }

-- shelves that came back from their locks are as they were
pub same_shelves : {D N : Type 0} {R : KeptShelf D N → KeptShelf D N → Type 0} (ks js : List (KeptShelf D N)) → AllZip R ks js
    → ((k : ℕ) (x y : KeptShelf D N) → slice_get ks k ≡ Some x → R x y → y.shelf ≡ x.shelf) → map (λ (k : KeptShelf D N). k.shelf) js ≡ map (λ (k : KeptShelf D N). k.shelf) ks
same_shelves [] [] all same = refl
same_shelves [] (j ∷ js) all same = elim all [ ]
same_shelves (k ∷ ks) [] all same = elim all [ ]
same_shelves (k ∷ ks) (j ∷ js) all same = let rest = same_shelves ks js all.1 (λ i x y e r. same (suc i) x y e r) in λ i. same 0 k j refl all.0 i ∷ rest i

-- so are their disks and sources
pub same_parts : {D N A : Type 0} (f : Shelf D N → A) (ks js : List (KeptShelf D N)) → map (λ (k : KeptShelf D N). k.shelf) js ≡ map (λ (k : KeptShelf D N). k.shelf) ks
    → map (λ (k : KeptShelf D N). f k.shelf) js ≡ map (λ (k : KeptShelf D N). f k.shelf) ks
same_parts f ks js same =
    sym (map_map (λ (k : KeptShelf _ _). k.shelf) f js) ∙ (ap (map f) same ∙ map_map (λ (k : KeptShelf _ _). k.shelf) f ks)

module _ {D N : Type 0} where
  -- the caller of a pass, by its first seat
  first_caller : (p : Spots D N) (caller : ℕ) → 0 < length p → IsNewPass caller p → caller_at p ≡ caller
  first_caller [] caller some new = absurd (omega arith)
  first_caller (s ∷ ss) caller some new = (new 0 s refl).0

  -- a pass that was dealt is the site's own
  pub first_pass : (site : Site D N) (caller : ℕ) (p : Spots D N) → IsWhole site → IsOf site.row p → IsNewPass caller p → IsFirstPass site caller p
  first_pass site caller p whole of new =
      let some = whole.some in
      let len = map_length (λ (s : Spot (Opening D N) KeptEntry). home_of s) p in
      let long = ap length of in
      let worker : caller_at p ≡ caller = first_caller p caller (omega arith) new in
      record {
        own = record {
          of = of;
          fuel = whole.fuel;
          seats = λ k a a_is.
              let within = slice_get_within p k a a_is in
              let h = get_there site.row.homes k (omega arith) in
              let u = whole.under k h.0 h.1 in
              let same : home_of a ≡ h.0 = one_of (sym (get_map (λ (s : Spot (Opening D N) KeptEntry). home_of s) p k a a_is) ∙ (ap (λ l. slice_get l k) of ∙ h.1)) in
              record {
                opening = u.opening;
                opening_is = ap (λ (z : Home (Opening D N)). z.opening) same ∙ u.opening_is;
                library_is = u.library_is;
                fuel_is = u.fuel_is;
                caller_is = (new k a a_is).0 ∙ sym worker;
              };
        };
        fresh = new;
      }

  -- a site goes on to be whole where it deals passes
  pub whole_given : (site : Site D N) (n : ℕ) → IsWhole site → IsWhole (record site { row = given_out n site.row })
  whole_given site n whole = record {
    fuel = whole.fuel;
    some = whole.some;
    under = λ k h h_is. let u = whole.under k h h_is in record { opening = u.opening; opening_is = u.opening_is; library_is = u.library_is; fuel_is = u.fuel_is };
    room = record {
      no_disks = whole.room.no_disks;
      no_nonces = whole.room.no_nonces;
      no_histories = whole.room.no_histories;
      empty = whole.room.empty;
      disks = whole.room.disks;
      nonces = whole.room.nonces;
      histories = whole.room.histories;
    };
  }

-- one pass more was dealt
pub given_next : {O : Type 0} (row : Homes O) (n : ℕ) → one_dealt (given_out n row) ≡ given_out (n + 1) row
given_next row n = let same : most_workers - n - 1 ≡ most_workers - (n + 1) = omega arith in λ i. record { homes = row.homes; seats = n + 1; left = same i }

-- ---- disks that were not opened

pub new_front : {D : Type 0} {G : Ghosts D} (front : List (Disks D G)) (last : Disks D G) → AreNew (front ++ last ∷ []) → AreNew front
new_front [] last all = tt
new_front (d ∷ front) last all = (all.0, new_front front last all.1)

pub new_last : {D : Type 0} {G : Ghosts D} (front : List (Disks D G)) (last : Disks D G) → AreNew (front ++ last ∷ []) → last.known ≡ false
new_last [] last all = all.0
new_last (d ∷ front) last all = new_last front last all.1

new_join : {D : Type 0} {G : Ghosts D} (front : List (Disks D G)) (last : Disks D G) → AreNew front → last.known ≡ false → AreNew (front ++ last ∷ [])
new_join [] last all new = (new, tt)
new_join (d ∷ front) last all new = (all.0, new_join front last all.1 new)

pub new_turned : {D : Type 0} {G : Ghosts D} (disks : List (Disks D G)) → AreNew disks → AreNew (reverse disks)
new_turned [] all = tt
new_turned (d ∷ disks) all = subst AreNew (sym (reverse-append (d ∷ []) disks)) (new_join (reverse disks) d (new_turned disks all.1) all.0)
