-- A tick that was swept has nothing to do when it comes again.
use Rattle.std.proofs.Common.{◌≡◌, ◌⊎◌, ◌≤◌, ℕ, Bool, true, false, List, [], ◌∷◌, ◌++◌, inl, inr, map, length, length-append, length-set, Some, None, Option, slice_get, set, refl, ap, sym, ◌∙◌, subst, arith, append_assoc}
use Rattle.std.specs.Prelude.{Result, Ok, Err, IfOk, Vec, zero, suc}
use Rattle.std.specs.declared.alloc.Global.{Global}
use Rattle.std.specs.declared.alloc.AllocError.{AllocError}
use Rattle.std.proofs.lemmas.List.{append-nil}
use Rattle.std.proofs.lemmas.Option.{slice_get_within}
use Rattle.web_disk.specs.View.{View}
use Rattle.shelf_lock.specs.declared.view.Role.TheVariants.{Outside}
use Rattle.shelf_lock.specs.Order.{posed}
use Rattle.script_value.specs.Val.{Val}
use Rattle.script_value.specs.declared.outcome.Reply.{Reply}
use Rattle.page_names.specs.Names.{Destination}
use Rattle.http_forms.specs.Passes.{AreSwept}
use Rattle.lock_row.specs.Spots.{Spot, spot, home_of, At, caller_at}
use Rattle.lock_row.proofs.Places.{one_of, get_there, map_length}
use Rattle.replay_spec.specs.Step as step
use Rattle.shelf.specs.Visits.{Ticket}
use Rattle.replay_spec.specs.Runs.{Shelf}
use Rattle.history_spec.specs.Histories.{Entry, own_of, book_behind, IsLegal, IsOpened}
use Rattle.history_spec.specs.Passes.{Goes}
use Rattle.history_spec.proofs.Behind.{never_back}
use Rattle.site.specs.declared.entry.KeptEntry.{KeptEntry}
use Rattle.site.specs.declared.opening.Opening.{Opening}
use Rattle.site.specs.Entries.{entry}
use Rattle.site.specs.Openings.{IsOwnOpening, start_of, source_of, count_of}
use Rattle.site.specs.Passes.{Spots, Known, seen_by, has_freed, GoesFrom, Took, Published, HasReached, Swept, Compacted, Follows, Ticked}
use Rattle.site.specs.declared.site.Site.{Site}
use Rattle.site.specs.Sites.{IsOwn, TakesOn, VisitsAt, Ticks, AnswersTick, place_for}

-- where an answer stands among those of shelves that were swept, the shelf was
swept_at : (answers : List (Result ℕ Reply)) (k : ℕ) (r : Result ℕ Reply) → AreSwept answers → slice_get answers k ≡ Some r → (n : ℕ) × (r ≡ Ok n)
swept_at [] k r all e = absurd (let no : ⊥ = cc e in no)
swept_at (Ok n ∷ answers) zero r all e = (n, sym (one_of e))
swept_at (Ok n ∷ answers) (suc k) r all e = swept_at answers k r all e
swept_at (Err x ∷ answers) k r all e = absurd all

-- the same place, where nothing was done
abbrev nothings : List (Result ℕ Reply) → List (Result ℕ Reply)
nothings answers = map (λ (r : Result ℕ Reply). Ok 0) answers

none_refused : (answers : List (Result ℕ Reply)) → AreSwept (nothings answers)
none_refused [] = tt
none_refused (x ∷ answers) = none_refused answers

nothing_at : (answers : List (Result ℕ Reply)) (k : ℕ) (r : Result ℕ Reply) → slice_get (nothings answers) k ≡ Some r → (u : Result ℕ Reply) × (slice_get answers k ≡ Some u) × (r ≡ Ok 0)
nothing_at [] k r e = absurd (let no : ⊥ = cc e in no)
nothing_at (x ∷ answers) zero r e = (x, refl, sym (one_of e))
nothing_at (x ∷ answers) (suc k) r e = nothing_at answers k r e

-- what stands in a list where one place was changed
set_cases : {A : Type 0} (xs : List A) (k j : ℕ) (x a : A) → slice_get (set xs k x) j ≡ Some a → ((j ≡ k) × (x ≡ a)) ⊎ (slice_get xs j ≡ Some a)
set_cases [] k j x a e = inr e
set_cases (y ∷ ys) zero zero x a e = inl (refl, one_of e)
set_cases (y ∷ ys) zero (suc j) x a e = inr e
set_cases (y ∷ ys) (suc k) zero x a e = inr e
set_cases (y ∷ ys) (suc k) (suc j) x a e = elim (set_cases ys k j x a e) [
  | inl is ↦ inl (ap suc is.0, is.1)
  | inr is ↦ inr is
]

-- where a history goes on the clock does not fall
risen : (source : ℕ → ℕ) (opened now : ℕ) (s : Shelf) (caller : ℕ) (seen added es : List Entry) → IsOpened s.book → Goes source opened now s caller seen added es
    → (book_behind source s seen).clock ≤ (book_behind source s es).clock
risen source opened now s caller seen added es is goes =
    let more = goes.between ++ added in
    let all : es ≡ seen ++ more = goes.is ∙ append_assoc seen goes.between added in
    subst (λ l. (book_behind source s seen).clock ≤ (book_behind source s l).clock) (sym all)
    (never_back source opened now s seen more is (subst (IsLegal source opened now s) all goes.legal)).0

module _ {D N : Type 0} (view : D → View) (tells : Bool) (coming : N → ℕ → ℕ) where
  -- what was seen was seen
  stays : (v w : Known D N) (added : List Entry) → GoesFrom view tells coming v added w → GoesFrom view tells coming w [] w
  stays v w added g =
      let whole : seen_by w ≡ (seen_by w ++ []) ++ [] = sym (append-nil (seen_by w ++ []) ∙ append-nil (seen_by w)) in
      let own : own_of w.caller (seen_by w) ≡ own_of w.caller (seen_by w) ++ [] = sym (append-nil (own_of w.caller (seen_by w))) in
      record {
        opening = g.opening;
        opening_is = ap (λ (z : Known D N). z.opening) g.is ∙ g.opening_is;
        opened = g.opened;
        is = subst (λ (z : Known D N). z ≡ posed Outside w.seen z) (sym g.is) refl;
        grows = record { between = []; is = whole; own = own };
        now = g.now;
        goes = λ mine. record { between = []; is = whole; legal = (g.goes mine).legal; own = own };
      }

  -- a clock that was at the tick stays there
  reached : (v w : Known D N) (added : List Entry) (tick : ℕ) → GoesFrom view tells coming v added w → HasReached view tells coming v tick → HasReached view tells coming w tick
  reached v w added tick g h o is mine =
      let same : g.opening ≡ o = cc (sym g.opening_is ∙ (sym (ap (λ (z : Known D N). z.opening) g.is) ∙ is)) in
      let before : v.opening ≡ o ∷ [] = g.opening_is ∙ ap (λ (z : Opening D N). z ∷ []) same in
      let goes = subst (λ (z : Opening D N). Goes (source_of coming z) (count_of view z.shelf.value) g.now (start_of view z) v.caller (seen_by v) added (seen_by w)) same (g.goes (subst (IsOwnOpening view tells) (sym same) mine)) in
      let opened = subst (λ (z : Opening D N). IsOpened (start_of view z).book) same g.opened in
      let up = risen (source_of coming o) (count_of view o.shelf.value) g.now (start_of view o) v.caller (seen_by v) added (seen_by w) opened goes in
      let low = h o before mine in
      omega (arith, up, low)

  compacted_goes : (v w : Known D N) → Compacted view tells coming v w → (added : List Entry) × GoesFrom view tells coming v added w
  compacted_goes v w (Compacted.compacted told goes long) = (_, goes)
  compacted_goes v w (Compacted.short goes short) = (_, goes)
  compacted_goes v w (Compacted.worn goes full) = (_, goes)

  -- what follows a sweep makes entries, or none
  follows_goes : (freed : Bool) (v w : Known D N) (before : List Entry) (u : Known D N) → GoesFrom view tells coming u before v → Follows view tells coming freed v w
      → (added : List Entry) × GoesFrom view tells coming v added w
  follows_goes true v w before u g follows = compacted_goes v w follows
  follows_goes false v w before u g same = ([], subst (GoesFrom view tells coming v []) (sym same) (stays u v before g))

  swept_goes : (v w : Known D N) (tick n : ℕ) → Swept view tells coming v tick (Ok n) w → (added : List Entry) × GoesFrom view tells coming v added w
  swept_goes v w tick n (inl one, h) = (_, one)
  swept_goes v w tick n (inr none, h) = (_, none.1)

  -- a tick that does nothing
  idle : (v : Known D N) (tick : ℕ) → GoesFrom view tells coming v [] v → HasReached view tells coming v tick → Ticked view tells coming v tick (Ok 0) v
  idle v tick g h = record { middle = v; swept = (inr (refl, g), h); follows = refl }

  -- what a tick that did nothing was answered is that nothing was freed
  none_freed : (v m : Known D N) (added : List Entry) (tick n : ℕ) → Swept view tells coming v tick (Ok n) m → GoesFrom view tells coming m added v → n ≡ 0
  none_freed v m added tick n (inr none, h) g = none.0
  none_freed v m added tick n (inl one, h) g =
      let e : Entry = entry v.caller (step.sweep tick) (step.swept n) in
      let same : m.caller ≡ v.caller = ap (λ (u : Known D N). u.caller) one.is in
      let first = ap length one.grows.own ∙ length-append (own_of v.caller (seen_by v)) (e ∷ []) in
      let more : own_of v.caller (seen_by v) ≡ own_of v.caller (seen_by m) ++ added = subst (λ c. own_of c (seen_by v) ≡ own_of c (seen_by m) ++ added) same g.grows.own in
      let second = ap length more ∙ length-append (own_of v.caller (seen_by m)) added in
      absurd (omega (arith, first, second))

  -- after a tick another one at the same time does nothing, whatever its caller did since
  again : (v w u : Known D N) (added : List Entry) (tick n : ℕ) → Ticked view tells coming v tick (Ok n) w → GoesFrom view tells coming w added u → Ticked view tells coming u tick (Ok 0) u
  again v w u added tick n t g =
      let one = swept_goes v t.middle tick n t.swept in
      let two = follows_goes (has_freed (Ok n)) t.middle w one.0 v one.1 t.follows in
      idle u tick (stays w u added g) (reached w u added tick g (reached t.middle w two.0 tick two.1 t.swept.1))

  ticked_goes : (v w : Known D N) (tick n : ℕ) → Ticked view tells coming v tick (Ok n) w → GoesFrom view tells coming w [] w
  ticked_goes v w tick n t =
      let one = swept_goes v t.middle tick n t.swept in
      let two = follows_goes (has_freed (Ok n)) t.middle w one.0 v one.1 t.follows in
      stays t.middle w two.0 two.1

  -- what a tick that did nothing was answered, if not a refusal, another is answered after whatever its caller did
  same_answer : (v w : Known D N) (added : List Entry) (tick n : ℕ) → GoesFrom view tells coming v added w
      → Ticked view tells coming v tick (Ok n) v → Ticked view tells coming w tick (Ok n) w
  same_answer v w added tick n g t =
      let one = swept_goes v t.middle tick n t.swept in
      let two = follows_goes (has_freed (Ok n)) t.middle v one.0 v one.1 t.follows in
      let none : n ≡ 0 = none_freed v t.middle two.0 tick n t.swept two.1 in
      subst (λ (k : ℕ). Ticked view tells coming w tick (Ok k) w) (sym none) (again v v w added tick n t g)

  -- a tick at this time may be left out
  abbrev pub Skips : Spots D N → ℕ → Type 0
  Skips pass tick = (answers : List (Result ℕ Reply)) × AreSwept answers × Ticks view tells coming pass tick answers pass

  -- after a tick that no shelf refused, another at the same time does nothing
  skips_next : (old new : Spots D N) (tick : ℕ) (answers : List (Result ℕ Reply)) → length new ≡ length old → Ticks view tells coming old tick answers new → AreSwept answers → Skips new tick
  skips_next old new tick answers long ticks all = (
    nothings answers,
    none_refused answers,
    record {
      all = map_length (λ (r : Result ℕ Reply). Ok 0) answers ∙ (ticks.all ∙ sym long);
      so = record {
        ticked = λ k r e a is.
            let u = nothing_at answers k r e in
            let within = slice_get_within answers k u.0 u.1 in
            let before = get_there old k (omega (arith, within, ticks.all)) in
            let did = ticks.so.ticked k u.0 u.1 before.0 before.1 in
            let n = swept_at answers k u.0 all u.1 in
            let same : a ≡ spot before.0.table did.0 = one_of (sym is ∙ did.1) in
            let answered = subst (λ (x : Result ℕ Reply). Ticked view tells coming before.0.known tick x did.0) n.1 did.2 in
            let now = again before.0.known did.0 did.0 [] tick n.0 answered (ticked_goes before.0.known did.0 tick n.0 answered) in (
              a.known,
              is,
              subst (λ (x : Result ℕ Reply). Ticked view tells coming a.known tick x a.known) (sym u.2)
                  (subst (λ (z : Spot (Opening D N) KeptEntry). Ticked view tells coming z.known tick (Ok 0) z.known) (sym same) now),
            );
        others = λ k le. refl;
      };
    },
  )

  -- the same of an answered tick of a site's own pass
  pub tick_skips : (site : Site D N) (old new : Spots D N) (tick : ℕ) (result : Result (Vec (Result ℕ Reply) Global) AllocError) → IsOwn site old → IsOwn site new
      → IfOk result (AnswersTick view tells coming tick old new) → IfOk result (λ answers. AreSwept answers.items → Skips new tick)
  tick_skips site old new tick (Ok answers) before after h = λ all.
      let long : length new ≡ length old =
      sym (map_length (λ (s : Spot (Opening D N) KeptEntry). home_of s) new) ∙ (ap length (after.of ∙ sym before.of) ∙ map_length (λ (s : Spot (Opening D N) KeptEntry). home_of s) old) in
      skips_next old new tick answers.items long h all
  tick_skips site old new tick (Err e) before after h = tt

  -- what may be left out on one shelf may be after a call there, and on another one as before
  one_place : (k : ℕ) (old new : Spots D N) (tick : ℕ) (answers : List (Result ℕ Reply)) (s : Spot (Opening D N) KeptEntry) (w : Known D N) → AreSwept answers
      → Ticks view tells coming old tick answers old → slice_get old k ≡ Some s
      → ((n : ℕ) → Ticked view tells coming s.known tick (Ok n) s.known → Ticked view tells coming w tick (Ok n) w)
      → (j : ℕ) (r : Result ℕ Reply) (a : Spot (Opening D N) KeptEntry) → slice_get answers j ≡ Some r → ((j ≡ k) × (spot s.table w ≡ a)) ⊎ (slice_get old j ≡ Some a)
      → Ticked view tells coming a.known tick r a.known
  one_place k old new tick answers s w all ticks at goes j r a e (inl here) =
      let n = swept_at answers j r all e in
      let did = ticks.so.ticked j r e s (ap (slice_get old) here.0 ∙ at) in
      let same : s ≡ spot s.table did.0 = one_of (sym (ap (slice_get old) here.0 ∙ at) ∙ did.1) in
      let before = subst (λ (z : Known D N). Ticked view tells coming s.known tick r z) (sym (ap (λ (z : Spot (Opening D N) KeptEntry). z.known) same)) did.2 in
      let then = goes n.0 (subst (λ (u : Result ℕ Reply). Ticked view tells coming s.known tick u s.known) n.1 before) in
      subst (λ (z : Spot (Opening D N) KeptEntry). Ticked view tells coming z.known tick r z.known) here.1
      (subst (λ (u : Result ℕ Reply). Ticked view tells coming w tick u w) (sym n.1) then)
  one_place k old new tick answers s w all ticks at goes j r a e (inr apart) =
      let did = ticks.so.ticked j r e a apart in
      let same : a ≡ spot a.table did.0 = one_of (sym apart ∙ did.1) in
      subst (λ (z : Known D N). Ticked view tells coming a.known tick r z) (sym (ap (λ (z : Spot (Opening D N) KeptEntry). z.known) same)) did.2

  -- a call on one shelf keeps what may be left out
  skips_at : (k : ℕ) (R : Known D N → Known D N → Type 0) (old new : Spots D N) (tick : ℕ) → ((v w : Known D N) → R v w → (added : List Entry) × GoesFrom view tells coming v added w)
      → At k R old new → Skips old tick → Skips new tick
  skips_at k R old new tick goes at s =
      let put = spot at.0.table at.1 in
      let g = goes at.0.known at.1 at.4 in (
        s.0,
        s.1,
        record {
          all = s.2.all ∙ (sym (length-set old k put) ∙ ap length (sym at.3));
          so = record {
            ticked = λ j r e a is. (
              a.known,
              is,
              one_place k old new tick s.0 at.0 at.1 s.1 s.2 at.2 (λ n before. same_answer at.0.known at.1 g.0 tick n g.1 before) j r a e
                  (set_cases old k j put a (ap (λ l. slice_get l j) (sym at.3) ∙ is)),
            );
            others = λ j le. refl;
          };
        },
      )

  took_goes : (target : Destination) (answer : Val) (result : Result Ticket Reply) (v w : Known D N) → Took view tells coming v target answer result w → (added : List Entry) × GoesFrom view tells coming v added w
  took_goes target answer (Ok t) v w h = (_, h.goes)
  took_goes target answer (Err r) v w (why, inl one) = (_, one)
  took_goes target answer (Err r) v w (why, inr worn) = (_, worn.2)

  published_goes : (t : Ticket) (r : Reply) (v w : Known D N) → Published view tells coming v t r w → (added : List Entry) × GoesFrom view tells coming v added w
  published_goes t r v w (inl one) = (_, one)
  published_goes t r v w (inr worn) = (_, worn.2)

  takes_skips : (place : Option ℕ) (old new : Spots D N) (target : Destination) (answer : Val) (result : Result Ticket Reply) (tick : ℕ) → TakesOn view tells coming place old target answer result new
      → Skips old tick → Skips new tick
  takes_skips None old new target answer result tick h s = subst (λ (p : Spots D N). Skips p tick) (sym h.1) s
  takes_skips (Some k) old new target answer result tick h s =
      skips_at k (λ v w. Took view tells coming v target answer result w) old new tick (λ v w. took_goes target answer result v w) h s

  -- a visit keeps what may be left out
  pub visits_skips : (old new : Spots D N) (target : Destination) (answer : Val) (reply : Reply) → VisitsAt view tells coming old target answer reply new → (tick : ℕ) → Skips old tick → Skips new tick
  visits_skips old new target answer reply (inl (t, middle, taken, (k, on, published))) tick s =
      skips_at k (λ v w. Published view tells coming v t reply w) middle new tick (λ v w. published_goes t reply v w) published
      (takes_skips (place_for (length old) (caller_at old) target) old middle target answer (Ok t) tick taken s)
  visits_skips old new target answer reply (inr refused) tick s =
      takes_skips (place_for (length old) (caller_at old) target) old new target answer (Err reply) tick refused s
