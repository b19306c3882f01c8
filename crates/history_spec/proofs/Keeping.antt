-- What is kept between turns.
use Rattle.std.proofs.Common.{◌≡◌, ◌≤◌, ◌+◌, ℕ, List, [], ◌∷◌, ◌++◌, inl, inr, refl, sym, ◌∙◌, ap, subst, arith, length}
use Rattle.script_nodes.specs.Setup.{Named}
use Rattle.replay_spec.specs.Book.{Book}
use Rattle.replay_spec.specs.Rules.{Rules}
use Rattle.replay_spec.specs.Step.{Event, crash, Fate, lost, kept, recovered, Reply, step}
use Rattle.replay_spec.specs.Runs.{Shelf, shelf_step}
use Rattle.replay_spec.specs.Invariant.{IsOrderly, IsSound}
use Rattle.replay_spec.specs.Laws.{IsLawful, Moment, Leads}
use Rattle.replay_spec.proofs.Numbers.{crashed_out}
use Rattle.replay_spec.proofs.Reopened.{reopened_same}
use Rattle.replay_spec.proofs.Orderly as orderly
use Rattle.replay_spec.proofs.Steps as sound_books
use Rattle.replay_spec.proofs.Steps.{leads_on}
use Rattle.history_spec.specs.Histories.{Entry, fate_by, shelf_behind, book_behind, MayCome, IsCounted, IsLegal, IsOpened}
use Rattle.history_spec.specs.Laws.{tickets_taken, ACrashOpens}
use Rattle.history_spec.specs.Kept.{IsKept, IsEvent, crashed, WhatIsLeftOpens, KeptGoesOn, WhatIsKeptIsSound}
use Rattle.history_spec.proofs.Going.{push, front, is_step, legal_later}
use Rattle.history_spec.proofs.Numbers.{well, lawful_next}
use Rattle.history_spec.proofs.Behind.{leads, sound}
use Rattle.history_spec.proofs.Nonces.{in_turn}
use Rattle.history_spec.proofs.Passing.{prefix_of}

pub kept_on : KeptGoesOn
kept_on source opened now start = (
  λ (none : start.nonces ≡ 0). record {
    legal = tt;
    shelf = refl;
    nonces = λ k. let at : k ≡ start.nonces + k = omega (arith, none) in ap source at;
  },
  λ (s next : Shelf) (coming behind : ℕ → ℕ) (es : List Entry) (caller : ℕ) (x : Event) (r : Reply) (kept : IsKept source opened now start s coming es)
      (comes : MayCome caller x es) (does : IsEvent source s x r next behind) (counted : IsCounted opened now r).
      let e : Entry = record { caller = caller; event = x; reply = r } in
      let there : shelf_step source (shelf_behind source start es) x (fate_by r) ≡ (r, next) =
      ap (λ (t : Shelf). shelf_step source t x (fate_by r)) (sym kept.shelf) ∙ does.step in
      record {
        legal = push source opened now start [] es e kept.legal (record { comes = comes; answered = ap (λ (p : Reply × Shelf). p.0) there; counted = counted });
        shelf = sym (ap (λ (p : Reply × Shelf). p.1) there) ∙ sym (is_step source start es e);
        nonces = does.nonces;
      },
  λ (s : Shelf) (coming : ℕ → ℕ) (es : List Entry) (later : ℕ) (more : now ≤ later) (kept : IsKept source opened now start s coming es).
      record { legal = legal_later source opened now later start [] es more kept.legal; shelf = kept.shelf; nonces = kept.nonces },
)

pub kept_sound : WhatIsKeptIsSound
kept_sound source opened now start s coming es opening held =
    let w = well source opened now start es opening held.legal in
    let book : book_behind source start es ≡ s.book = ap (λ (t : Shelf). t.book) (sym held.shelf) in (
      subst IsOrderly book w.orderly,
      λ (good : IsSound start.book). subst IsSound book (sound source opened now start es opening good held.legal),
      λ (caller : ℕ) (x : Event) (comes : MayCome caller x es). subst (IsLawful x) book (lawful_next source opened now start es x caller w comes),
      λ (k : ℕ).
          let given : s.nonces ≡ start.nonces + length (tickets_taken es) = ap (λ (t : Shelf). t.nonces) held.shelf ∙ (in_turn source opened now start es held.legal).1 in
          held.nonces k ∙ ap (λ (n : ℕ). source (n + k)) given,
    )

-- a crash of a book leads to the one after it
crash_leads : (rules : Rules) (b : Book) (nonce : ℕ) (scripts : List Named) (fate : Fate) → Leads b (step rules b nonce (crash scripts) fate).1
crash_leads rules b nonce scripts fate =
    let m : Moment = record { rules = rules; nonce = nonce; event = crash scripts; fate = fate } in record { moments = m ∷ []; lawful = (tt, tt); there = refl }

pub crash_opens : ACrashOpens
crash_opens source opened now s es rules nonce scripts fate opening legal =
    let b : Book = book_behind source s es in
    let c : Book = (step rules b nonce (crash scripts) fate).1 in
    let on = crash_leads rules b nonce scripts fate in (
      record {
        orderly = (orderly.led b c (well source opened now s es opening legal).orderly on).orderly;
        idle = crashed_out rules b nonce scripts fate;
      },
      leads_on s.book b c (leads source opened now s [] es opening legal) on,
      λ (good : IsSound s.book). (sound_books.led b c (sound source opened now s es opening good legal) on).sound,
    )

crash_left : (rules : Rules) (b c : Book) (fate : Fate) → c ≡ crashed rules fate b → (step rules b 0 (crash (recovered rules fate b.down b).scripts) fate).1 ≡ c
unfolding step
crash_left rules b c fate is = reopened_same rules.journal (recovered rules fate b.down b) ∙ sym is

crash_is : (source : ℕ → ℕ) (opened now : ℕ) (start : Shelf) (es : List Entry) (c : Book) (fate : Fate) → IsOpened start.book → IsLegal source opened now start es
    → c ≡ crashed start.rules fate (book_behind source start es) → IsOpened c × Leads start.book c × (IsSound start.book → IsSound c)
crash_is source opened now start es c fate opening legal is =
    let b = book_behind source start es in
    let same = crash_left start.rules b c fate is in
    let all = crash_opens source opened now start es start.rules 0 (recovered start.rules fate b.down b).scripts fate opening legal in
    (subst IsOpened same all.0, subst (λ (d : Book). Leads start.book d) same all.1, λ good. subst IsSound same (all.2 good))

pub left_opens : WhatIsLeftOpens
left_opens source start es c left = (
  λ (more : List Entry). record {
    front = left.front;
    begins = prefix_of left.front es (es ++ more) left.begins (more, refl);
    left = left.left;
  },
  λ (opened now : ℕ) (opening : IsOpened start.book) (legal : IsLegal source opened now start es).
      let legal_then : IsLegal source opened now start left.front =
      front source opened now start [] left.front left.begins.0 (subst (IsLegal source opened now start) (sym left.begins.1) legal) in
      elim left.left [
        | inl is ↦ crash_is source opened now start left.front c lost opening legal_then is
        | inr is ↦ crash_is source opened now start left.front c kept opening legal_then is
      ],
)
