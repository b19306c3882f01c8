-- What workers left of a site and of their porches.
use Rattle.std.proofs.Common.{IsTrue, ◌==◌, ◌≡◌, ◌≢◌, ◌⊎◌, inl, inr, ◌≤◌, ◌<◌, ◌∷◌, ◌++◌, ◌∙◌, [], ℕ, zero, suc, List, length, Bool, Option, Some, slice_get, get_or, refl, sym, ap, subst, arith}
use Rattle.std.specs.Prelude.{IfSome, sum_by}
use Rattle.std.specs.List.{AllZip}
use Rattle.std.proofs.lemmas.List.Sums.{sum_by-cons}
use Rattle.std.proofs.lemmas.Bool.{eq-eqb}
use Rattle.std.proofs.lemmas.Option.{slice_get_within}
use Rattle.web_outside.specs.Causes.{Rose}
use Rattle.web_outside.specs.Doors.{counts_with}
use Rattle.web_outside.specs.View.{LinkView, PorchView, DoorView}
use Rattle.web_disk.specs.View.{AreAmong, View}
use Rattle.http_forms.specs.Passes.{PassRules}
use Rattle.request_workers.specs.Tallies.{count_of, IsBelow}
use Rattle.request_workers.specs.Working.{EndsBy}
use Rattle.request_workers.specs.declared.tally.Tally.{Tally}
use Rattle.request_workers.specs.declared.tally.WorkEnd.{WorkEnd}
use Rattle.request_workers.specs.declared.tally.WorkEnd.TheVariants as ends
use Rattle.lock_row.specs.Rows.{IsNewPass}
use Rattle.lock_row.specs.Spots.{Spot, Home, home_of, caller_at}
use Rattle.lock_row.proofs.Ends.{zip_length}
use Rattle.lock_row.proofs.Places.{get_there, get_map, map_get, map_length, one_of}
use Rattle.history_spec.specs.Histories.{Entry, IsOpened, own_of}
use Rattle.history_spec.specs.Passes.{IsSeenBy}
use Rattle.site.specs.declared.entry.KeptEntry.{KeptEntry}
use Rattle.site.specs.declared.opening.Opening.{Opening}
use Rattle.site.specs.declared.site.Site.{Site}
use Rattle.site.specs.Beginnings.{IsFirstPass}
use Rattle.site.specs.Ends.{IsBack}
use Rattle.site.specs.Entries.{entries_of}
use Rattle.site.specs.Opened.{HasEnded, Opened}
use Rattle.site.specs.Openings.{count_of as disk_count, opened_of, source_of, start_of}
use Rattle.site.specs.Sound.{StandsFor}
use Rattle.site.specs.Passes.{Spots, seen_by}
use Rattle.site.specs.Rules.{site_rules}
use Rattle.site.specs.Sites.{IsOwn}
use Rattle.site_serving.specs.Totals.{end_of, end_with, total}
use Rattle.site_serving.specs.Workers.{AreServed, Serves, porches_of, tallies_of}
use Rattle.site_serving.specs.declared.worker.Worker.{Worker}
use Rattle.site_serving.specs.Kept.{kept_of}
use Rattle.site_serving.specs.Pages.{pages_in, pages_of}
use Rattle.site_serving.specs.Serving.{AreEnded, AreUntouched, HasServed, IsEnded, IsManned, IsUntouched, LeavesAll, ServesPorches, Views, opened_as, openings_in, openings_of}
use Rattle.site_serving.specs.Visits.{unseen}
use Rattle.site_serving.proofs.Counting.{own_pages, works_adds}
use Rattle.site_serving.proofs.Faults.{risen}
use Rattle.site_serving.proofs.Refining.{KnowsAll, first_knows, last_seen, worked_so}
use Rattle.site_serving.proofs.Sums.{NoneFrom, caller_pages, none_first, callers_sum, sum_below, tallies_sum}

-- what a zip says of a place
pub zip_at : {A B : Type 0} (R : A → B → Type 0) (xs : List A) (ys : List B) (k : ℕ) (x : A) (y : B) → AllZip R xs ys → slice_get xs k ≡ Some x → slice_get ys k ≡ Some y → R x y
zip_at R [] ys k x y all x_is y_is = absurd (let no : ⊥ = cc x_is in no)
zip_at R (a ∷ xs) [] k x y all x_is y_is = absurd all
zip_at R (a ∷ xs) (b ∷ ys) zero x y all x_is y_is = subst (λ u. R u y) (one_of x_is) (subst (R a) (one_of y_is) all.0)
zip_at R (a ∷ xs) (b ∷ ys) (suc k) x y all x_is y_is = zip_at R xs ys k x y all.1 x_is y_is

module _ {D N : Type 0} where
  -- a pass that has seen nothing has seen no page
  new_none : (caller : ℕ) (pass : Spots D N) → IsNewPass caller pass → own_pages pass ≡ 0
  new_none caller [] new = refl
  new_none caller (a ∷ pass) new =
      let first : pages_in (own_of a.known.caller (seen_by a.known)) ≡ 0 = ap (λ l. pages_in (own_of a.known.caller (entries_of l))) (new 0 a refl).1 in
      let rest = new_none caller pass (λ k s is. new (suc k) s is) in
      omega arith

  -- the number of a pass's worker, by its first seat
  new_caller : (caller : ℕ) (pass : Spots D N) → IsNewPass caller pass → 0 < length pass → caller_at pass ≡ caller
  new_caller caller [] new some = absurd (omega (arith, some))
  new_caller caller (a ∷ pass) new some = (new 0 a refl).0

  -- what a pass has seen of its own is all that the histories have of its caller
  caller_all : (number : ℕ) (pass : Spots D N) (histories : List (List KeptEntry)) → length histories ≡ length pass
      → ((k : ℕ) (a : Spot (Opening D N) KeptEntry) (h : List KeptEntry) → slice_get pass k ≡ Some a → slice_get histories k ≡ Some h
      → (a.known.caller ≡ number) × IsSeenBy number (seen_by a.known) (entries_of h))
      → own_pages pass ≡ caller_pages number histories
  caller_all number [] [] len each = refl
  caller_all number [] (h ∷ histories) len each = absurd (omega (arith, len))
  caller_all number (a ∷ pass) [] len each = absurd (omega (arith, len))
  caller_all number (a ∷ pass) (h ∷ histories) len each =
      let here = each 0 a h refl refl in
      let first : pages_in (own_of a.known.caller (seen_by a.known)) ≡ pages_in (own_of number (entries_of h)) =
      ap (λ c. pages_in (own_of c (seen_by a.known))) here.0 ∙ ap pages_in (sym here.1.own) in
      let rest = caller_all number pass histories (omega (arith, len)) (λ k b x b_is x_is. each (suc k) b x b_is x_is) in
      omega arith

module _ {D N : Type 0} (view : D → View) (tells : Bool) (coming : N → ℕ → ℕ) where
  -- a shelf that was handed back
  ended_one : (given : ℕ) (o : Opening D N) (d : D) (n : N) (es : List Entry) → StandsFor view tells coming o d n es
      → ((who : ℕ) → given ≤ who → own_of who es ≡ []) → IsEnded (IsTrue tells) given (opened_of view tells coming o) (view d) es
  ended_one given o d n es stands none = record {
    ended = stands.ended;
    callers = none;
    risen = λ own.
        risen (source_of coming o) (disk_count view o.shelf.value) (view d).faults (start_of view o) es stands.ended.later (stands.ended.history own).legal;
  }

  -- the shelves that were handed back, one after the other
  ended_from : (homes : List (Home (Opening D N))) (given : ℕ) (disks : List D) (nonces : List N) (histories : List (List KeptEntry))
      → length disks ≡ length homes → length nonces ≡ length homes → length histories ≡ length homes
      → ((k : ℕ) (h : Home (Opening D N)) (d : D) (n : N) (es : List KeptEntry) → slice_get homes k ≡ Some h → slice_get disks k ≡ Some d → slice_get nonces k ≡ Some n
      → slice_get histories k ≡ Some es → IsBack view tells coming h.opening given d n (entries_of es))
      → AreEnded view (IsTrue tells) given (opened_as view tells coming (openings_of homes)) disks histories
  ended_from [] given [] [] [] ds ns es each = tt
  ended_from [] given (d ∷ disks) nonces histories ds ns es each = absurd (omega (arith, ds))
  ended_from [] given [] nonces (h ∷ histories) ds ns es each = absurd (omega (arith, es))
  ended_from [] given [] (n ∷ nonces) [] ds ns es each = absurd (omega (arith, ns))
  ended_from (h ∷ homes) given [] nonces histories ds ns es each = absurd (omega (arith, ds))
  ended_from (h ∷ homes) given (d ∷ disks) [] histories ds ns es each = absurd (omega (arith, ns))
  ended_from (h ∷ homes) given (d ∷ disks) (n ∷ nonces) [] ds ns es each = absurd (omega (arith, es))
  ended_from (h ∷ homes) given (d ∷ disks) (n ∷ nonces) (e ∷ histories) ds ns es each =
      let back = each 0 h d n e refl refl refl refl in
      let rest = ended_from homes given disks nonces histories (omega (arith, ds)) (omega (arith, ns)) (omega (arith, es))
      (λ k x y z w a b c f. each (suc k) x y z w a b c f) in
      subst (λ os. AreEnded view (IsTrue tells) given (opened_as view tells coming (os ++ openings_of homes)) (d ∷ disks) (e ∷ histories)) (sym back.opening_is)
      (ended_one given back.opened d n (entries_of e) back.stands back.callers, rest)

  -- a shelf that was handed back without an entry is as it was opened
  untouched_one : (o : Opening D N) (d : D) (n : N) (es : List Entry) → StandsFor view tells coming o d n es → es ≡ []
      → IsUntouched (IsTrue tells) (opened_of view tells coming o) (view d)
  untouched_one o d n es stands none =
      let same : d ≡ o.shelf.value.journal.disk = stands.untouched none in
      record {
        ended = subst (λ (l : List Entry). HasEnded (IsTrue tells) (opened_of view tells coming o) (view d) l) none stands.ended;
        seen = ap (λ x. (view x).seen) same;
        images = subst (λ x. AreAmong (view d).images (view x).images) same (λ image h. h);
        faults = ap (λ x. (view x).faults) same;
      }

  untouched_from : (homes : List (Home (Opening D N))) (given : ℕ) (disks : List D) (nonces : List N) (histories : List (List KeptEntry))
      → length disks ≡ length homes → length nonces ≡ length homes → length histories ≡ length homes
      → ((k : ℕ) (h : Home (Opening D N)) (d : D) (n : N) (es : List KeptEntry) → slice_get homes k ≡ Some h → slice_get disks k ≡ Some d → slice_get nonces k ≡ Some n
      → slice_get histories k ≡ Some es → IsBack view tells coming h.opening given d n (entries_of es))
      → ((k : ℕ) (es : List KeptEntry) → slice_get histories k ≡ Some es → entries_of es ≡ [])
      → AreUntouched view (IsTrue tells) (opened_as view tells coming (openings_of homes)) disks
  untouched_from [] given [] [] [] ds ns es each none = tt
  untouched_from [] given (d ∷ disks) nonces histories ds ns es each none = absurd (omega (arith, ds))
  untouched_from [] given [] nonces (h ∷ histories) ds ns es each none = absurd (omega (arith, es))
  untouched_from [] given [] (n ∷ nonces) [] ds ns es each none = absurd (omega (arith, ns))
  untouched_from (h ∷ homes) given [] nonces histories ds ns es each none = absurd (omega (arith, ds))
  untouched_from (h ∷ homes) given (d ∷ disks) [] histories ds ns es each none = absurd (omega (arith, ns))
  untouched_from (h ∷ homes) given (d ∷ disks) (n ∷ nonces) [] ds ns es each none = absurd (omega (arith, es))
  untouched_from (h ∷ homes) given (d ∷ disks) (n ∷ nonces) (e ∷ histories) ds ns es each none =
      let back = each 0 h d n e refl refl refl refl in
      let rest = untouched_from homes given disks nonces histories (omega (arith, ds)) (omega (arith, ns)) (omega (arith, es))
      (λ k x y z w a b c f. each (suc k) x y z w a b c f) (λ k x is. none (suc k) x is) in
      subst (λ os. AreUntouched view (IsTrue tells) (opened_as view tells coming (os ++ openings_of homes)) (d ∷ disks)) (sym back.opening_is)
      (untouched_one back.opened d n (entries_of e) back.stands (none 0 e refl), rest)

  none_from : (homes : List (Home (Opening D N))) (given : ℕ) (disks : List D) (nonces : List N) (histories : List (List KeptEntry))
      → length disks ≡ length homes → length nonces ≡ length homes → length histories ≡ length homes
      → ((k : ℕ) (h : Home (Opening D N)) (d : D) (n : N) (es : List KeptEntry) → slice_get homes k ≡ Some h → slice_get disks k ≡ Some d → slice_get nonces k ≡ Some n
      → slice_get histories k ≡ Some es → IsBack view tells coming h.opening given d n (entries_of es))
      → NoneFrom given histories
  none_from homes given disks nonces histories ds ns es each k e e_is =
      let low = slice_get_within histories k e e_is in
      let h = get_there homes k (omega (arith, low, es)) in
      let d = get_there disks k (omega (arith, low, es, ds)) in
      let n = get_there nonces k (omega (arith, low, es, ns)) in
      (each k h.0 d.0 n.0 e h.1 d.1 n.1 e_is).callers

-- where no caller has an entry there is none
no_entry : (es : List Entry) → ((who : ℕ) → own_of who es ≡ []) → es ≡ []
no_entry [] none = refl
no_entry (e ∷ es) none =
    let is = (none_first (e.caller == e.caller) e (own_of e.caller es) (none e.caller)).0 in
    let same = eq-eqb e.caller e.caller refl in absurd (let no : ⊥ = cc (is, same) in no)

module _ {D N : Type 0} (view : D → View) (tells : Bool) (coming : N → ℕ → ℕ) (site : Site D N) where
  as_long : (p : Spots D N) → IsOwn site p → length p ≡ length site.row.homes
  as_long p own = sym (map_length (λ (s : Spot (Opening D N) KeptEntry). home_of s) p) ∙ ap length own.of

  -- a site of which no pass was used has no entry
  none_made : (passes : List (Spots D N)) (workers k : ℕ) (es : List KeptEntry) → IsManned site workers passes → k < length site.row.homes
      → ((who : ℕ) → site.row.seats ≤ who → own_of who (entries_of es) ≡ [])
      → ((j : ℕ) (p : Spots D N) → slice_get passes j ≡ Some p → (a : Spot (Opening D N) KeptEntry) → slice_get p k ≡ Some a
      → IsSeenBy a.known.caller (seen_by a.known) (entries_of es))
      → entries_of es ≡ []
  none_made passes workers k es manned within none told =
      no_entry (entries_of es) (λ who. elim (lt_or who (length passes)) [
        | inl low ↦
            let p = get_there passes who low in
            let first = manned.first who p.0 p.1 in
            let a = get_there p.0 k (let size = as_long p.0 first.own in omega (arith, within, size)) in
            let new = first.fresh k a.0 a.1 in
            let seen : own_of a.0.known.caller (seen_by a.0.known) ≡ [] = ap (λ l. own_of a.0.known.caller (entries_of l)) new.1 in
            ap (λ c. own_of c (entries_of es)) (sym new.0) ∙ ((told who p.0 p.1 a.0 a.1).own ∙ seen)
        | inr high ↦ none who (let size = manned.many in let seats = manned.given in omega (arith, high, size, seats))
      ])
    where
      lt_or : (a b : ℕ) → (a < b) ⊎ (b ≤ a)
      lt_or a b = grind arith

  -- so each of its disks is as it was when its shelf was opened
  pub all_untouched : (passes : List (Spots D N)) (workers : ℕ) (disks : List D) (nonces : List N) (histories : List (List KeptEntry)) → IsManned site workers passes
      → length disks ≡ length site.row.homes → length nonces ≡ length site.row.homes → length histories ≡ length site.row.homes
      → ((k : ℕ) (h : Home (Opening D N)) (d : D) (n : N) (es : List KeptEntry) → slice_get site.row.homes k ≡ Some h → slice_get disks k ≡ Some d → slice_get nonces k ≡ Some n
      → slice_get histories k ≡ Some es → IsBack view tells coming h.opening site.row.seats d n (entries_of es))
      → ((k : ℕ) (es : List KeptEntry) → slice_get histories k ≡ Some es → (j : ℕ) (p : Spots D N) → slice_get passes j ≡ Some p
      → (a : Spot (Opening D N) KeptEntry) → slice_get p k ≡ Some a → IsSeenBy a.known.caller (seen_by a.known) (entries_of es))
      → AreUntouched view (IsTrue tells) (openings_in view tells coming site) disks
  all_untouched passes workers disks nonces histories manned ds ns es back told =
      untouched_from view tells coming site.row.homes site.row.seats disks nonces histories ds ns es back
      (λ k h h_is.
      let low = slice_get_within histories k h h_is in
      none_made passes workers k h manned (omega (arith, low, es))
      (none_from view tells coming site.row.homes site.row.seats disks nonces histories ds ns es back k h h_is) (told k h h_is))

module _ {D P L N : Type 0} (v : Views D P L N) (site : Site D N) (requests : ℕ) where
  abbrev rules : PassRules (Spots D N)
  rules = site_rules v.disk v.told v.nonce site

  abbrev openings : List Opened
  openings = openings_in v.disk v.told v.nonce site

  -- what is known of the passes and porches of workers, and of the histories, when all is over
  pub record Facts (passes : List (Spots D N)) (porches : List P) (passes' : List (Spots D N)) (porches' : List P) (tallies : List Tally)
      (histories : List (List KeptEntry)) : Type 0 where
    pub served : AreServed rules v.link v.porch v.shown requests passes porches passes' porches' tallies
    pub own : (k : ℕ) (p : Spots D N) → slice_get passes' k ≡ Some p → IsOwn site p
    pub first : (k : ℕ) (p : Spots D N) → slice_get passes k ≡ Some p → IsFirstPass site k p
    pub many : length histories ≡ length site.row.homes
    pub opened : (k : ℕ) (h : Home (Opening D N)) → slice_get site.row.homes k ≡ Some h
        → (o : Opening D N) × (h.opening ≡ o ∷ []) × IsOpened (start_of v.disk o).book
    pub told : (k : ℕ) (es : List KeptEntry) → slice_get histories k ≡ Some es → (j : ℕ) (p : Spots D N) → slice_get passes' j ≡ Some p
        → (a : Spot (Opening D N) KeptEntry) → slice_get p k ≡ Some a → IsSeenBy a.known.caller (seen_by a.known) (entries_of es)

  module _ (passes : List (Spots D N)) (porches : List P) (passes' : List (Spots D N)) (porches' : List P) (tallies : List Tally)
      (histories : List (List KeptEntry)) (f : Facts passes porches passes' porches' tallies histories) where
    -- the worker of a place
    module _ (number : ℕ) (a b : Worker (Spots D N) P) (a_is : slice_get f.served.before number ≡ Some a) (b_is : slice_get f.served.after number ≡ Some b) where
      works : Serves rules v.link v.porch v.shown requests a b
      works = zip_at (Serves rules v.link v.porch v.shown requests) f.served.before f.served.after number a b f.served.works a_is b_is

      was : IsFirstPass site number a.pass
      was = f.first number a.pass (ap (λ ps. slice_get ps number) (sym f.served.had_passes) ∙ get_map (λ (w : Worker (Spots D N) P). w.pass) f.served.before number a a_is)

      there : slice_get passes' number ≡ Some b.pass
      there = ap (λ ps. slice_get ps number) (sym f.served.has_passes) ∙ get_map (λ (w : Worker (Spots D N) P). w.pass) f.served.after number b b_is

      is : IsOwn site b.pass
      is = f.own number b.pass there

      seen : (k : ℕ) (s : Spot (Opening D N) KeptEntry) (h : List KeptEntry) → slice_get b.pass k ≡ Some s → slice_get histories k ≡ Some h
          → (s.known.caller ≡ number) × IsSeenBy number (seen_by s.known) (entries_of h)
      seen k s h s_is h_is =
          let adds = works_adds v.disk v.told v.nonce site v.link v.shown requests a.pass b.pass works.worked.given works.worked.back (count_of b.tally) works.worked.works in
          let low = slice_get_within b.pass k s s_is in
          let caller : s.known.caller ≡ number =
          (is.seats k s s_is).caller_is
          ∙ (adds.caller ∙ new_caller number a.pass was.fresh (let x = as_long v.disk v.told v.nonce site b.pass is in let y = as_long v.disk v.told v.nonce site a.pass was.own in omega (arith, low, x, y))) in
          (caller, subst (λ c. IsSeenBy c (seen_by s.known) (entries_of h)) caller (f.told k h h_is number b.pass there s s_is))

      -- the pass knew nothing at first
      knew : KnowsAll v.disk v.told v.nonce number (openings_of site.row.homes) a.pass (unseen openings)
      knew =
          subst (λ (hs : List (Home (Opening D N))). KnowsAll v.disk v.told v.nonce number (openings_of hs) a.pass (unseen (opened_as v.disk v.told v.nonce (openings_of hs)))) was.own.of
          (first_knows v.disk v.told v.nonce number a.pass was.fresh
          (λ k s s_is. f.opened k (home_of s) (ap (λ hs. slice_get hs k) (sym was.own.of) ∙ get_map (λ (x : Spot (Opening D N) KeptEntry). home_of x) a.pass k s s_is)))

      has_served : HasServed v openings requests histories number a.porch b.porch b.tally
      has_served =
          let w = worked_so v.disk v.told v.nonce number (openings_of site.row.homes) site v.link v.shown requests a.pass b.pass (unseen openings)
          (v.porch a.porch) (v.porch b.porch) (count_of b.tally) knew works.worked in
          record {
            last = w.0;
            worked = w.2;
            seen = last_seen v.disk v.told v.nonce number (openings_of site.row.homes) b.pass w.0 histories w.1 (f.many ∙ sym (as_long v.disk v.told v.nonce site b.pass is))
                (λ k s h s_is h_is. (seen k s h s_is h_is).1);
            ended = works.ended;
            small = works.small;
            most = works.most;
            later = works.later;
          }

      counted : b.tally.pages ≡ caller_pages number histories
      counted =
          let adds = works_adds v.disk v.told v.nonce site v.link v.shown requests a.pass b.pass works.worked.given works.worked.back (count_of b.tally) works.worked.works in
          let none = new_none number a.pass was.fresh in
          let all = caller_all number b.pass histories (f.many ∙ sym (as_long v.disk v.told v.nonce site b.pass is)) seen in
          let sum = adds.pages in
          omega arith

    long : length f.served.after ≡ length f.served.before
    long = zip_length (Serves rules v.link v.porch v.shown requests) f.served.before f.served.after f.served.works

    one_before : (number : ℕ) (b : Worker (Spots D N) P) → slice_get f.served.after number ≡ Some b → (a : Worker (Spots D N) P) × (slice_get f.served.before number ≡ Some a)
    one_before number b b_is =
        get_there f.served.before number (let low = slice_get_within f.served.after number b b_is in omega (arith, low, long))

    -- the worker of a porch, by the porch that it had and the porch and the tally that it has
    porch_served : (number : ℕ) (p q : P) (t : Tally) → slice_get porches number ≡ Some p → slice_get porches' number ≡ Some q → slice_get tallies number ≡ Some t
        → HasServed v openings requests histories number p q t
    porch_served number p q t p_is q_is t_is =
        let a = map_get (λ (w : Worker (Spots D N) P). w.porch) f.served.before number p (ap (λ ps. slice_get ps number) f.served.had_porches ∙ p_is) in
        let b = map_get (λ (w : Worker (Spots D N) P). w.porch) f.served.after number q (ap (λ ps. slice_get ps number) f.served.has_porches ∙ q_is) in
        let tally : b.0.tally ≡ t = one_of (sym (get_map (λ (w : Worker (Spots D N) P). w.tally) f.served.after number b.0 b.1) ∙ (ap (λ ts. slice_get ts number) f.served.counted ∙ t_is)) in
        subst (λ x. HasServed v openings requests histories number x q t) a.2
        (subst (λ x. HasServed v openings requests histories number a.0.porch x t) b.2
        (subst (λ x. HasServed v openings requests histories number a.0.porch b.0.porch x) tally (has_served number a.0 b.0 a.1 b.1)))

    -- each worker served its porch
    pub porches_served : (left : DoorView P L) → IfSome left.closed (λ kept. kept ≡ porches') → ServesPorches v openings requests porches left (kept_of histories tallies)
    porches_served left closed =
        let had = map_length (λ (w : Worker (Spots D N) P). w.porch) f.served.before in
        let has = map_length (λ (w : Worker (Spots D N) P). w.porch) f.served.after in
        let counts = map_length (λ (w : Worker (Spots D N) P). w.tally) f.served.after in
        let first = ap length f.served.had_porches in
        let last = ap length f.served.has_porches in
        let told = ap length f.served.counted in
        record {
          after = porches';
          many = omega (arith, long, had, has, first, last);
          tallied = omega (arith, long, had, counts, first, told);
          served = porch_served;
          closed = closed;
        }

    -- the pages that were counted are the publishes of the histories that were answered with a page
    pub pages_are : (workers : ℕ) → length tallies ≡ workers → NoneFrom workers histories → (total tallies).pages ≡ pages_of histories
    pages_are workers many none =
        let each : (k : ℕ) (t : Tally) → slice_get tallies k ≡ Some t → t.pages ≡ caller_pages k histories = λ k t t_is.
        let b = map_get (λ (w : Worker (Spots D N) P). w.tally) f.served.after k t (ap (λ ts. slice_get ts k) f.served.counted ∙ t_is) in
        let a = one_before k b.0 b.1 in
        ap (λ (x : Tally). x.pages) (sym b.2) ∙ counted k a.0 b.0 a.1 b.1 in
        tallies_sum tallies (λ k. caller_pages k histories) each
        ∙ (ap (λ n. sum_below n (λ k. caller_pages k histories)) many ∙ callers_sum workers histories none)

-- what each shelf of a site was opened as, by what it handed back
pub opened_all : {D N : Type 0} (view : D → View) (tells : Bool) (coming : N → ℕ → ℕ) (homes : List (Home (Opening D N))) (given : ℕ) (disks : List D) (nonces : List N)
    (histories : List (List KeptEntry)) → length disks ≡ length homes → length nonces ≡ length homes → length histories ≡ length homes
    → ((k : ℕ) (h : Home (Opening D N)) (d : D) (n : N) (es : List KeptEntry) → slice_get homes k ≡ Some h → slice_get disks k ≡ Some d → slice_get nonces k ≡ Some n
    → slice_get histories k ≡ Some es → IsBack view tells coming h.opening given d n (entries_of es))
    → (k : ℕ) (h : Home (Opening D N)) → slice_get homes k ≡ Some h → (o : Opening D N) × (h.opening ≡ o ∷ []) × IsOpened (start_of view o).book
opened_all view tells coming homes given disks nonces histories ds ns es each k h h_is =
    let low = slice_get_within homes k h h_is in
    let d = get_there disks k (omega (arith, low, ds)) in
    let n = get_there nonces k (omega (arith, low, ns)) in
    let e = get_there histories k (omega (arith, low, es)) in
    let back = each k h d.0 n.0 e.0 h_is d.1 n.1 e.1 in
    (back.opened, back.opening_is, back.stands.ended.opened)

-- what is left of porches and shelves, by what the calls say
pub leaves_all : {D P L N : Type 0} (v : Views D P L N) (site : Site D N) (requests : ℕ) (passes : List (Spots D N)) (porches : List P) (passes' : List (Spots D N)) (porches' : List P)
    (tallies : List Tally) (disks : List D) (nonces : List N) (histories : List (List KeptEntry)) (left : DoorView P L) (workers : ℕ)
    → Facts v site requests passes porches passes' porches' tallies histories → length passes ≡ workers → site.row.seats ≡ workers
    → length disks ≡ length site.row.homes → length nonces ≡ length site.row.homes
    → ((k : ℕ) (h : Home (Opening D N)) (d : D) (n : N) (es : List KeptEntry) → slice_get site.row.homes k ≡ Some h → slice_get disks k ≡ Some d → slice_get nonces k ≡ Some n
    → slice_get histories k ≡ Some es → IsBack v.disk v.told v.nonce h.opening site.row.seats d n (entries_of es))
    → IfSome left.closed (λ kept. kept ≡ porches') → LeavesAll v (openings_in v.disk v.told v.nonce site) requests porches left workers disks (kept_of histories tallies)
leaves_all {D = D} {P = P} {L = L} {N = N} v site requests passes porches passes' porches' tallies disks nonces histories left workers f many seats ds ns back closed =
    let long = zip_length (Serves (site_rules v.disk v.told v.nonce site) v.link v.porch v.shown requests) f.served.before f.served.after f.served.works in
    let first = ap length f.served.had_passes in
    let one = map_length (λ (w : Worker (Spots D N) P). w.pass) f.served.before in
    let two = map_length (λ (w : Worker (Spots D N) P). w.tally) f.served.after in
    let last = ap length f.served.counted in
    let count : length tallies ≡ workers = omega arith in
    record {
      works = porches_served v site requests passes porches passes' porches' tallies histories f left closed;
      shelves = subst (λ n. AreEnded v.disk (IsTrue v.told) n (openings_in v.disk v.told v.nonce site) disks histories) seats
          (ended_from v.disk v.told v.nonce site.row.homes site.row.seats disks nonces histories ds ns f.many back);
      pages = pages_are v site requests passes porches passes' porches' tallies histories f workers count
          (subst (λ n. NoneFrom n histories) seats (none_from v.disk v.told v.nonce site.row.homes site.row.seats disks nonces histories ds ns f.many back));
    }

-- ---- a porch that failed

ends_failed : (first later : WorkEnd) → end_with first later ≡ ends.Failed → first ≢ ends.Failed → later ≡ ends.Failed
ends_failed ends.Done later failed not = failed
ends_failed ends.Failed later failed not = absurd (not refl)

fails_or_not : (e : WorkEnd) → (e ≡ ends.Failed) ⊎ (e ≢ ends.Failed)
fails_or_not ends.Done = inr (λ e. let no : ⊥ = cc e in no)
fails_or_not ends.Failed = inl refl

module _ {S P L : Type 0} (rules : PassRules S) (link : L → LinkView) (porch : P → PorchView L) (shown : Option ℕ) (requests : ℕ) where
  some_fault : (before after : List (Worker S P)) → AllZip (Serves rules link porch shown requests) before after → end_of (tallies_of after) ≡ ends.Failed
      → 1 ≤ sum_by (λ p. (porch p).faults) (porches_of after)
  some_fault [] [] all failed = absurd (let no : ⊥ = cc failed in no)
  some_fault [] (b ∷ after) all failed = absurd all
  some_fault (a ∷ before) [] all failed = absurd all
  some_fault (a ∷ before) (b ∷ after) all failed =
      let sum = sum_by-cons (λ p. (porch p).faults) b.porch (porches_of after) in
      elim (fails_or_not b.tally.end) [
        | inl one ↦
            let rose : Rose (porch a.porch).faults (porch b.porch).faults = subst (λ e. EndsBy e (porch a.porch) (porch b.porch)) one all.0.ended in
            omega (arith, rose, sum)
        | inr other ↦
            let rest = some_fault before after all.1 (ends_failed b.tally.end (end_of (tallies_of after)) failed other) in
            omega (arith, rest, sum)
      ]

  -- each porch has its tally, and each count in it is at most a thousand million
  pub as_many : (passes : List S) (porches : List P) (passes' : List S) (porches' : List P) (tallies : List Tally)
      → AreServed rules link porch shown requests passes porches passes' porches' tallies → length tallies ≡ length passes
  as_many passes porches passes' porches' tallies s =
      let long = zip_length (Serves rules link porch shown requests) s.before s.after s.works in
      let first = ap length s.had_passes in
      let one = map_length (λ (w : Worker S P). w.pass) s.before in
      let two = map_length (λ (w : Worker S P). w.tally) s.after in
      let last = ap length s.counted in
      omega arith

  small_from : (before after : List (Worker S P)) → AllZip (Serves rules link porch shown requests) before after
      → (k : ℕ) (d : Tally) → k < length (tallies_of after) → IsBelow (count_of (get_or (tallies_of after) k d)) 1000000001
  small_from [] [] all k d lt = absurd (omega (arith, lt))
  small_from [] (b ∷ after) all k d lt = absurd all
  small_from (a ∷ before) [] all k d lt = absurd all
  small_from (a ∷ before) (b ∷ after) all zero d lt = all.0.small
  small_from (a ∷ before) (b ∷ after) all (suc k) d lt = small_from before after all.1 k d (omega (arith, lt))

  pub all_small : (passes : List S) (porches : List P) (passes' : List S) (porches' : List P) (tallies : List Tally)
      → AreServed rules link porch shown requests passes porches passes' porches' tallies
      → (k : ℕ) (d : Tally) → k < length tallies → IsBelow (count_of (get_or tallies k d)) 1000000001
  all_small passes porches passes' porches' tallies s =
      subst (λ ts. (k : ℕ) (d : Tally) → k < length ts → IsBelow (count_of (get_or ts k d)) 1000000001) s.counted (small_from s.before s.after s.works)

  -- a porch that failed is a fault of the door that closed it
  pub door_rose : (passes : List S) (porches : List P) (passes' : List S) (porches' : List P) (tallies : List Tally) (first count rose : ℕ)
      → AreServed rules link porch shown requests passes porches passes' porches' tallies → end_of tallies ≡ ends.Failed → first ≤ count
      → rose ≡ counts_with porch porches' count → Rose first rose
  door_rose passes porches passes' porches' tallies first count rose s failed le is =
      let some = some_fault s.before s.after s.works (ap end_of s.counted ∙ failed) in
      let sum = ap (λ ps. sum_by (λ p. (porch p).faults) ps) s.has_porches in
      omega (arith, le, is, some, sum)
