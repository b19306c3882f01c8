-- A shelf between turns: as it was opened, and one event more.
use Rattle.std.proofs.Common.{◌≡◌, ◌⊎◌, inl, inr, ℕ, ◌≤◌, ◌<◌, ◌^◌, ◌+◌, length, Bool, true, List, [], ◌∷◌, ◌++◌, Some, IsTrue, refl, sym, ◌∙◌, ap, subst, arith, append_assoc, length-append}
use mathlib.Core.List.{IsPrefix}
use Rattle.shelf.specs.SetupReader.Texts.{setup_of_texts}
use Rattle.web_disk.specs.View.{View, LeavesOnly}
use Rattle.web_disk.proofs.Moments.{started}
use Rattle.page_journal.proofs.Mending.{leaves_then, leaves_map}
use Rattle.shelf.specs.JournalSpec.Before.{Made}
use Rattle.shelf.specs.JournalSpec.Laws.{ImagesMakeBooks, MeasuresDoubt}
use Rattle.shelf.specs.JournalSpec.Standing.{MakesIn, if_kept, Held, Stands}
use Rattle.replay_spec.specs.Book.{Book, reopened}
use Rattle.replay_spec.specs.Rules.{Rules}
use Rattle.script_value.specs.Val.{Val}
use Rattle.page_names.specs.Names.{Destination}
use Rattle.replay_spec.specs.Step as step
use Rattle.replay_spec.specs.Step.{Event, kept, recovered}
use Rattle.replay_spec.specs.Runs as runs
use Rattle.replay_spec.specs.Runs.{drawn_by, shelf_step}
use Rattle.replay_spec.specs.Laws.{IsLawful}
use Rattle.history_spec.specs.Histories.{Entry, MayCome, fate_by, tickets_left}
use Rattle.history_spec.specs.Laws.{tickets_taken}
use Rattle.history_spec.specs.Kept.{IsKept}
use Rattle.history_spec.proofs.Keeping.{kept_on}
use Rattle.history_spec.proofs.Members.{contains_none}
use Rattle.shelf_lock.proofs.Prefixes.{prefix_self}
use Rattle.shelf.proofs.Quiet.{untouched}
use Rattle.shelf.specs.declared.rules.Rules as limits_of
use Rattle.shelf.specs.declared.shelf.Shelf.{Shelf}
use Rattle.shelf.specs.Files.{LeavesNewest}
use Rattle.shelf.specs.Owning.{HoldsOwnRecords, StandsOwn}
use Rattle.shelf.specs.Views as views
use Rattle.shelf.specs.Views.{IsInOrder, IsEvent, HasGiven, book_in, shelf_of, rules_of}
use Rattle.shelf.specs.Events.{TellsCount, HasMoments, HasOwnMoments, IsLeftAlone}
use Rattle.site.specs.declared.opening.Opening.{Opening}
use Rattle.site.specs.Entries.{entry}
use Rattle.site.specs.Openings.{IsOwnOpening, start_of, source_of, count_of, HasLegal, book_then}
use Rattle.site.specs.Sound.{AreOut, IsSound, HasItsHistory, MakesSome, IsLeft, StandsFor, StaysAsOpened}
use Rattle.site.proofs.Outs.{none_out, out_then, stepped_out, stepped_fresh}
use Rattle.site.proofs.Replies.{same_fate, counted, take_tells}

pub prefix_on : {A : Type 0} (front es more : List A) → IsPrefix front es → IsPrefix front (es ++ more)
prefix_on front es more p = (p.0 ++ more, sym (append_assoc front p.0 more) ∙ ap (λ l. l ++ more) p.1)

-- what two runs leave, together
leaves_both : (v0 v1 : View) (P Q : List ℕ → Type 0) → LeavesOnly v0 v1 P → LeavesOnly v0 v1 Q → LeavesOnly v0 v1 (λ image. P image × Q image)
leaves_both v0 v1 P Q a b = record {
  later = a.later;
  each = λ image left. (a.each image left, b.each image left);
  before = λ t image le left. elim (a.before t image le left) [
    | inl was ↦ inl was
    | inr p ↦ elim (b.before t image le left) [ inl was ↦ inl was | inr q ↦ inr (p, q) ]
  ];
}

-- what is kept of a doubt that the rules measure as its record is
measured_makes : (n : ℕ) (rules : Rules) (m : ℕ) (b : Book) (image : List ℕ) → MeasuresDoubt rules m b → MakesIn setup_of_texts n image (if_kept m b)
    → MakesIn setup_of_texts n image (recovered rules kept b.down b)
measured_makes n rules m b image measured h =
    let told : Book → Made = λ y. record { book = y; earlier = h.0 } in (h.0, h.1 ∙ ap (λ y. Some (told y)) (sym measured))

-- an image makes the one book, or the other with what is in doubt there
makes_either : (n : ℕ) (rules : Rules) (m : ℕ) (b c : Book) (image : List ℕ) → MeasuresDoubt rules m c → MakesIn setup_of_texts n image b ⊎ MakesIn setup_of_texts n image (if_kept m c)
    → MakesIn setup_of_texts n image b ⊎ MakesIn setup_of_texts n image (recovered rules kept c.down c)
makes_either n rules m b c image measured either = elim either [
  | inl h ↦ inl h
  | inr h ↦ inr (measured_makes n rules m c image measured h)
]

module _ {D N : Type 0} (view : D → View) (tells : Bool) (coming : N → ℕ → ℕ) where
  some_book : (o : Opening D N) (b c : Book) (image : List ℕ) → MakesIn setup_of_texts o.shelf.value.rules.number image b ⊎ MakesIn setup_of_texts o.shelf.value.rules.number image c → MakesSome view tells coming o image
  some_book o b c image either = elim either [ inl h ↦ (b, h) | inr h ↦ (c, h) ]

  -- a shelf that was just opened
  pub sound_first : ImagesMakeBooks → (o : Opening D N) → IsInOrder view tells o.shelf.value
      → book_in view o.shelf.value ≡ reopened (book_in view o.shelf.value)
      → ((image : List ℕ) → (view o.shelf.value.journal.disk).since (view o.shelf.value.journal.disk).moment image → (view o.shelf.value.journal.disk).images image)
      → count_of view o.shelf.value < 2 ^ 64 → IsSound view tells coming o o.shelf.value []
  sound_first law o order opened only_now low =
      let s = o.shelf.value in
      let n = s.rules.number in
      let b = book_in view s in
      let v = view s.journal.disk in
      let source = source_of coming o in
      let none : List Entry = [] in
      let idle : b.out ≡ [] = ap (λ (x : Book). x.out) opened in
      record {
        in_order = order;
        opened = record { orderly = order.orderly; idle = idle };
        out = none_out b.out idle;
        nonces = λ k. ap source (let z : k ≡ 0 + k = omega arith in z);
        rules = refl;
        library = refl;
        later = omega arith;
        counted = low;
        ever = λ told.
            let stands = (order.fit told).stands in
            started v (MakesSome view tells coming o)
            (λ image left. some_book o b (if_kept stands.0 b) image (law setup_of_texts n b (if_kept stands.0 b) stands.1.0 image (stands.1.1 image (only_now image left))));
        history = λ own. record {
          own = own;
          kept = (kept_on source (count_of view s) (count_of view s) (start_of view o)).0 refl;
          ever = λ told.
              let its = own.own told in
              let m = its.stands.0 in
              started v (IsLeft view tells coming o none)
              (λ image left. record {
                own = (its.images.0, its.images.1 image (only_now image left));
                front = none;
                begins = prefix_self none;
                makes = makes_either n (rules_of s.rules) m b b image its.stands.1.1.1 (law setup_of_texts n b (if_kept m b) its.stands.1.0 image (its.stands.1.1.0 image (only_now image left)));
              });
        };
        followed = λ f. record {
          book = refl;
          nothing = record { answered = λ e there. absurd (contains_none e there); alone = untouched v };
        };
        untouched = λ e. refl;
      }

  module _ (o : Opening D N) (s t : Shelf D N) (es : List Entry) (p : IsSound view tells coming o s es) where
    abbrev given : ℕ
    given = length (tickets_taken es)

    -- what is told of a beginning is told of one of a longer history
    left_more : (more : List Entry) (image : List ℕ) → IsLeft view tells coming o es image → IsLeft view tells coming o (es ++ more) image
    left_more more image left = record { own = left.own; front = left.front; begins = prefix_on left.front es more left.begins; makes = left.makes }

    -- the step of an event of this shelf
    pub stepped : (event : Event) (r : step.Reply) → IsEvent view coming s t event r
        → step.step (rules_of s.rules) (book_in view s) (source_of coming o given) event (views.fate_by r) ≡ (r, book_in view t)
    stepped event r does = ap (λ (z : step.Reply × runs.Shelf). (z.0, z.1.book)) (does.step (source_of coming o) given p.nonces)

    -- what is out after an event
    pub out_push : (caller : ℕ) (event : Event) (r : step.Reply) → MayCome caller event es → IsLawful event (book_in view s) → IsEvent view coming s t event r
        → AreOut (book_in view t).out (es ++ entry caller event r ∷ [])
    out_push caller event r may lawful does =
        let b = book_in view s in
        let c = book_in view t in
        let rules = rules_of s.rules in
        let nonce = source_of coming o given in
        let left = tickets_left es [] in
        out_then b.out c.out es (entry caller event r) p.out may
        (stepped_fresh rules b c nonce event (views.fate_by r) r left p.in_order.orderly (stepped event r does) p.out.numbers caller)
        (stepped_out rules b c nonce event (views.fate_by r) r left p.in_order.orderly (stepped event r does) p.out.numbers lawful)

    -- the nonces to come, where so many were drawn
    pub nonces_push : (caller : ℕ) (event : Event) (r : step.Reply) → drawn_by r given ≡ length (tickets_taken (es ++ entry caller event r ∷ []))
        → HasGiven (source_of coming o) (drawn_by r given) (coming t.nonces) → HasGiven (source_of coming o) (length (tickets_taken (es ++ entry caller event r ∷ []))) (coming t.nonces)
    nonces_push caller event r drawn has = subst (λ (k : ℕ). HasGiven (source_of coming o) k (coming t.nonces)) drawn has

    -- a call that left the nonces drew none
    pub nonces_stay : (r : step.Reply) → drawn_by r given ≡ given → t.nonces ≡ s.nonces → HasGiven (source_of coming o) (drawn_by r given) (coming t.nonces)
    nonces_stay r none same = λ k. ap (λ (n : N). coming n k) same ∙ (p.nonces k ∙ ap (λ (m : ℕ). source_of coming o (m + k)) (sym none))

    -- what a crash may leave, where a call of the disk was made
    pub some_push : ImagesMakeBooks → HasMoments view s t → IsTrue tells → LeavesOnly (view o.shelf.value.journal.disk) (view t.journal.disk) (MakesSome view tells coming o)
    some_push law th told =
        let Q = MakesSome view tells coming o in
        let b = book_in view s in
        let c = if_kept th.0 (book_in view t) in
        leaves_then (view o.shelf.value.journal.disk) (view s.journal.disk) (view t.journal.disk) Q (p.ever told)
        (leaves_map _ _ (Held th.1.0) Q
        (λ image held. some_book o b c image
        (subst (λ (r : limits_of.Rules). MakesIn setup_of_texts r.number image b ⊎ MakesIn setup_of_texts r.number image c) p.rules (law setup_of_texts s.rules.number b c th.1.0 image held))) th.1.1)

    -- and where none was made
    pub some_same : t.journal ≡ s.journal → IsTrue tells → LeavesOnly (view o.shelf.value.journal.disk) (view t.journal.disk) (MakesSome view tells coming o)
    some_same same told = subst (λ j. LeavesOnly (view o.shelf.value.journal.disk) (view j.disk) (MakesSome view tells coming o)) (sym same) (p.ever told)

    -- a take tells of no fault
    pub take_told : (d : Destination) (a : Val) (r : step.Reply) → IsEvent view coming s t (step.take d a) r → TellsCount (count_of view s) (count_of view t) r
    take_told d a r does =
        take_tells (rules_of s.rules) (book_in view s) (book_in view t) d a (source_of coming o given) (count_of view s) (count_of view t) r (stepped (step.take d a) r does)

    -- of a shelf that was opened as an own one
    module _ (h : HasItsHistory view tells coming o s es) where
      -- one event more: the shelf is then the one after it
      pub kept_push : (caller : ℕ) (event : Event) (r : step.Reply) → MayCome caller event es → IsEvent view coming s t event r → count_of view s ≤ count_of view t
          → TellsCount (count_of view s) (count_of view t) r → drawn_by r given ≡ length (tickets_taken (es ++ entry caller event r ∷ []))
          → IsKept (source_of coming o) (count_of view o.shelf.value) (count_of view t) (start_of view o) (shelf_of view (length (tickets_taken (es ++ entry caller event r ∷ []))) t) (coming t.nonces) (es ++ entry caller event r ∷ [])
      kept_push caller event r may does later told drawn =
          let source = source_of coming o in
          let opened = count_of view o.shelf.value in
          let now = count_of view t in
          let was = shelf_of view given s in
          let next = shelf_of view (drawn_by r given) t in
          let raised = (kept_on source opened (count_of view s) (start_of view o)).2 was (coming s.nonces) es now later h.kept in
          let stepped : shelf_step source was event (fate_by r) ≡ (r, next) = ap (λ f. shelf_step source was event f) (sym (same_fate r)) ∙ does.step source given h.kept.nonces in
          let all = (kept_on source opened now (start_of view o)).1 was next (coming s.nonces) (coming t.nonces) es caller event r raised may
          (record { step = stepped; nonces = does.nonces source given h.kept.nonces })
          (counted opened (count_of view s) now r p.later p.counted told) in
          subst (λ (k : ℕ). IsKept source opened now (start_of view o) (shelf_of view k t) (coming t.nonces) (es ++ entry caller event r ∷ [])) drawn all

      -- and what a crash may leave of it, where a call of the disk was made
      pub ever_push : ImagesMakeBooks → (e : Entry) → HasOwnMoments view s t → book_in view t ≡ book_then view coming o (es ++ e ∷ []) → IsTrue tells
          → LeavesOnly (view o.shelf.value.journal.disk) (view t.journal.disk) (IsLeft view tells coming o (es ++ e ∷ []))
      ever_push law e th last told =
          let Q = IsLeft view tells coming o (es ++ e ∷ []) in
          let n = s.rules.number in
          let b = book_in view s in
          let c = book_in view t in
          let k = th.measured in
          let P : limits_of.Rules → Book → Book → List ℕ → Type 0 =
          λ r x y image. HoldsOwnRecords r.number image × (MakesIn setup_of_texts r.number image x ⊎ MakesIn setup_of_texts r.number image (recovered (rules_of r) kept y.down y)) in
          let book : b ≡ book_then view coming o es = ap (λ z. z.book) h.kept.shelf in
          let here : (image : List ℕ) → HoldsOwnRecords n image × Held k.1.0 image → P o.shelf.value.rules (book_then view coming o es) (book_then view coming o (es ++ e ∷ [])) image =
          λ image both.
          subst (λ (y : Book). P o.shelf.value.rules (book_then view coming o es) y image) last
          (subst (λ (x : Book). P o.shelf.value.rules x c image) book
          (subst (λ (r : limits_of.Rules). P r b c image) p.rules
          (both.0, makes_either n (rules_of s.rules) k.0 b c image k.2 (law setup_of_texts n b (if_kept k.0 c) k.1.0 image both.1)))) in
          leaves_then (view o.shelf.value.journal.disk) (view s.journal.disk) (view t.journal.disk) Q
          (leaves_map _ _ (IsLeft view tells coming o es) Q (left_more (e ∷ [])) (h.ever told))
          (leaves_map _ _ (λ image. HoldsOwnRecords n image × Held k.1.0 image) Q
          (λ image both.
          let there = here image both in
          elim there.1 [
            | inl x ↦ record { own = there.0; front = es; begins = (e ∷ [], refl); makes = inl x }
            | inr y ↦ record { own = there.0; front = es ++ e ∷ []; begins = prefix_self (es ++ e ∷ []); makes = inr y }
          ])
          (leaves_both (view s.journal.disk) (view t.journal.disk) (HoldsOwnRecords n) (Held k.1.0) th.own k.1.1))

      -- and where none was made
      pub ever_same : (e : Entry) → t.journal ≡ s.journal → IsTrue tells → LeavesOnly (view o.shelf.value.journal.disk) (view t.journal.disk) (IsLeft view tells coming o (es ++ e ∷ []))
      ever_same e same told =
          subst (λ j. LeavesOnly (view o.shelf.value.journal.disk) (view j.disk) (IsLeft view tells coming o (es ++ e ∷ []))) (sym same)
          (leaves_map _ _ (IsLeft view tells coming o es) (IsLeft view tells coming o (es ++ e ∷ [])) (left_more (e ∷ [])) (h.ever told))

    -- one entry more
    pub sound_push : (e : Entry) → IsInOrder view tells t → AreOut (book_in view t).out (es ++ e ∷ []) → HasGiven (source_of coming o) (length (tickets_taken (es ++ e ∷ []))) (coming t.nonces)
        → t.rules ≡ s.rules → t.library ≡ s.library → count_of view s ≤ count_of view t
        → (IsTrue tells → LeavesOnly (view o.shelf.value.journal.disk) (view t.journal.disk) (MakesSome view tells coming o))
        → (IsOwnOpening view tells o → HasItsHistory view tells coming o t (es ++ e ∷ []))
        → ((start_of view o).book.follows ≡ true → StaysAsOpened view tells coming o t (es ++ e ∷ []))
        → IsSound view tells coming o t (es ++ e ∷ [])
    sound_push e order out nonces rules library later ever history followed = record {
      in_order = order;
      opened = p.opened;
      out = out;
      nonces = nonces;
      rules = rules ∙ p.rules;
      library = library ∙ p.library;
      later = (let a = p.later in omega arith);
      counted = p.counted;
      ever = ever;
      history = history;
      followed = followed;
      untouched = λ none. absurd (let no = ap length none in omega (arith, no, length-append es (e ∷ [])));
    }

  -- what is handed back stands for the book of the history
  pub stands_for : (o : Opening D N) (s : Shelf D N) (es : List Entry) (disk : D) (nonces : N) → IsSound view tells coming o s es → disk ≡ s.journal.disk → nonces ≡ s.nonces → StandsFor view tells coming o disk nonces es
  stands_for o s es disk nonces p disk_is nonces_are =
      let v0 = view o.shelf.value.journal.disk in
      record {
        ended = record {
          opened = p.opened;
          stands = λ told. (
            book_in view s,
            subst (λ d. Stands setup_of_texts o.shelf.value.rules.number (view d) (book_in view s)) (sym disk_is)
                (subst (λ (r : limits_of.Rules). Stands setup_of_texts r.number (view s.journal.disk) (book_in view s)) p.rules (p.in_order.fit told).stands),
          );
          ever = λ told. subst (λ d. LeavesOnly v0 (view d) (MakesSome view tells coming o)) (sym disk_is) (p.ever told);
          newest = λ told. subst (λ d. LeavesNewest (view d)) (sym disk_is) (p.in_order.knows.images told);
          history = λ own.
              let h = p.history own in
              record {
                legal = subst (λ d. HasLegal view coming o (view d).faults es) (sym disk_is) h.kept.legal;
                stands = λ told.
                    subst (λ d. StandsOwn (start_of view o).rules o.shelf.value.rules.number (view d) (book_then view coming o es)) (sym disk_is)
                    (subst (λ b. StandsOwn (start_of view o).rules o.shelf.value.rules.number (view s.journal.disk) b) (ap (λ z. z.book) h.kept.shelf)
                    (subst (λ (r : limits_of.Rules). StandsOwn (rules_of r) r.number (view s.journal.disk) (book_in view s)) p.rules (h.own.own told)));
                ever = λ told. subst (λ d. LeavesOnly v0 (view d) (IsLeft view tells coming o es)) (sym disk_is) (h.ever told);
              };
          followed = λ f.
              let h = (p.followed f).nothing in
              record { answered = h.answered; alone = subst (λ d. IsLeftAlone v0 (view d)) (sym disk_is) h.alone };
          later = (let low = p.later in let same = ap (λ d. (view d).faults) disk_is in omega arith);
        };
        coming_is = λ k. ap (λ n. coming n k) nonces_are ∙ p.nonces k;
        untouched = λ none. disk_is ∙ ap (λ (x : Shelf D N). x.journal.disk) (p.untouched none);
      }
