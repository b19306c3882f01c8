-- Tickets that callers hold.
use Rattle.std.proofs.Common.{◌≡◌, ◌⊎◌, inl, inr, ℕ, ◌+◌, Bool, List, [], ◌∷◌, ◌++◌, length, Contains, refl, sym, ◌∙◌, ap, subst}
use Rattle.std.proofs.lemmas.List.Elements.{Contains-append_left, Contains-push, Contains-push_cases}
use Rattle.std.specs.Prelude.{Result, Ok, Err, IfOk}
use mathlib.Core.List.{IsPrefix}
use Rattle.script_value.specs.Val.{Val}
use Rattle.script_value.specs.Views.{meaning}
use Rattle.script_nodes.specs.Views.{library_of}
use Rattle.script_nodes.specs.declared.library.Library.{Library}
use Rattle.page_names.specs.Names.{Destination}
use Rattle.page_names.specs.Views.{target_of}
use Rattle.web_disk.specs.View.{View}
use Rattle.replay_spec.specs.Book.{Book}
use Rattle.replay_spec.specs.Admission.{admit, refusal_of}
use Rattle.replay_spec.specs.Step.{taken, take}
use Rattle.replay_spec.specs.Invariant.{IsOrderly}
use Rattle.shelf.specs.Visits.{Ticket, ticket_of, FitsAs, IsRunnable, HasItsScript}
use Rattle.shelf.specs.InstanceBook.Makes.{HasItsStates}
use Rattle.history_spec.specs.Histories.{Entry, own_of, owed_by, Owes, IsLegal, shelf_behind}
use Rattle.history_spec.specs.Laws.{take_of, tickets_taken}
use Rattle.history_spec.specs.Kept.{IsKept}
use Rattle.history_spec.proofs.Going.{go_on}
use Rattle.history_spec.proofs.Keeping.{kept_sound}
use Rattle.history_spec.proofs.Numbers.{are_runs}
use Rattle.history_spec.proofs.Passing.{prefix_of}
use Rattle.shelf.specs.declared.shelf.Shelf.{Shelf}
use Rattle.script_value.specs.declared.outcome.Reply as answers
use Rattle.shelf.specs.Views.{IsEvent, book_in, rules_of, taken_of}
use Rattle.script_value.specs.declared.value.Value.{Value}
use Rattle.page_names.specs.declared.names.Target.{Target}
use Rattle.shelf.specs.Events.{IsTicketOf}
use Rattle.shelf.specs.Going.{TicketsGoOnToFit}
use Rattle.site.specs.declared.opening.Opening.{Opening}
use Rattle.site.specs.declared.entry.KeptEntry.{KeptEntry}
use Rattle.site.specs.Entries.{entry, Gave, IsGivenIn}
use Rattle.site.specs.Openings.{opened_library, scripts_in, IsOwnOpening, start_of, source_of, count_of, book_then}
use Rattle.site.specs.Sound.{IsSound, HasItsHistory, IsForItsVisit, Holds}
use Rattle.site.proofs.Outs.{owes_taken}
use Rattle.site.proofs.Replies.{take_admits}
use Rattle.shelf_lock.proofs.Prefixes.{prefix_self}
use Rattle.site.proofs.Sounds.{stepped}

module _ {D N : Type 0} (view : D → View) (tells : Bool) (coming : N → ℕ → ℕ) (o : Opening D N) where
  -- what a take tells of its ticket
  pub record IsGiven (s t : Shelf D N) (target : Destination) (answer : Val) (ticket : Ticket) : Type 0 where
    pub target_is : target_of ticket.target ≡ target
    pub answer_is : meaning ticket.answer ≡ answer
    pub does : IsEvent view coming s t (take target answer) (taken ticket.number ticket.nonce)
    pub fits : HasItsStates (library_of s.library).all s.book → FitsAs (opened_library o).all (book_in view t) ticket (admit (book_in view t) (target_of ticket.target))
    pub runs : IsRunnable (opened_library o).all ticket
    pub script : HasItsScript (opened_library o) ticket (target_of ticket.target)
    pub library : t.library ≡ o.shelf.value.library

  module _ (s t : Shelf D N) (es : List Entry) (p : IsSound view tells coming o s es) (caller : ℕ) (target : Destination) (answer : Val) where
    -- on a shelf that was opened as an own one the ticket is for its visit
    visit_taken : (ticket : Ticket) → IsGiven s t target answer ticket → HasItsHistory view tells coming o s es
        → HasItsHistory view tells coming o t (es ++ entry caller (take target answer) (taken ticket.number ticket.nonce) ∷ [])
        → IsForItsVisit view tells coming o (es ++ entry caller (take target answer) (taken ticket.number ticket.nonce) ∷ []) ticket
    visit_taken ticket gave h behind =
        let all = (opened_library o).all in
        let e : Entry = entry caller (take target answer) (taken ticket.number ticket.nonce) in
        let book : book_in view t ≡ book_then view coming o (es ++ e ∷ []) = ap (λ z. z.book) behind.kept.shelf in
        let at = stepped view tells coming o s t es p (take target answer) (taken ticket.number ticket.nonce) gave.does in
        let admitted = take_admits (rules_of s.rules) (book_in view s) (book_in view t) target answer (source_of coming o (length (tickets_taken es))) ticket.number ticket.nonce at in
        record {
          front = es ++ e ∷ [];
          begins = prefix_self (es ++ e ∷ []);
          scripts = sym (ap (λ z. z.scripts) book) ∙ ap (λ l. (library_of l).setup) gave.library;
          admitted = ap (λ b. refusal_of (admit b (target_of ticket.target))) (sym book) ∙ (ap (λ d. refusal_of (admit (book_in view t) d)) gave.target_is ∙ admitted);
          fits = subst (λ b. FitsAs all b ticket (admit b (target_of ticket.target))) book (gave.fits h.own.states);
        }

    holds_taken : (ticket : Ticket) → IsGiven s t target answer ticket
        → (IsOwnOpening view tells o → HasItsHistory view tells coming o t (es ++ entry caller (take target answer) (taken ticket.number ticket.nonce) ∷ []))
        → Holds view tells coming o (es ++ entry caller (take target answer) (taken ticket.number ticket.nonce) ∷ []) caller ticket
    holds_taken ticket gave behind =
        let e : Entry = entry caller (take target answer) (taken ticket.number ticket.nonce) in
        let same : take_of caller (ticket_of ticket) ≡ e = λ i. entry caller (take (gave.target_is i) (gave.answer_is i)) (taken ticket.number ticket.nonce) in
        record {
          owes = subst (λ (x : Entry). Owes caller (ticket_of ticket) (es ++ x ∷ [])) same (owes_taken es caller (ticket_of ticket));
          runs = gave.runs;
          script = gave.script;
          visit = λ own. visit_taken ticket gave (p.history own) (behind own);
        }

    -- so of what a take was told
    pub holds_told : (result : Result Ticket answers.Reply) → t.library ≡ o.shelf.value.library → IsEvent view coming s t (take target answer) (taken_of result)
        → (IsOwnOpening view tells o → HasItsHistory view tells coming o t (es ++ entry caller (take target answer) (taken_of result) ∷ []))
        → IfOk result (λ x. (target_of x.target ≡ target) × (meaning x.answer ≡ answer))
        → (HasItsStates (library_of s.library).all s.book → IfOk result (λ x. FitsAs (opened_library o).all (book_in view t) x (admit (book_in view t) (target_of x.target))))
        → IfOk result (IsRunnable (opened_library o).all) → IfOk result (λ x. HasItsScript (opened_library o) x (target_of x.target))
        → IfOk result (λ x. Holds view tells coming o (es ++ entry caller (take target answer) (taken_of result) ∷ []) caller x)
    holds_told (Ok x) library does behind is fits runs script =
        holds_taken x (record { target_is = is.0; answer_is = is.1; does = does; fits = fits; runs = runs; script = script; library = library }) behind
    holds_told (Err r) library does behind is fits runs script = tt

  -- what is held goes on to be, whatever others do
  pub holds_on : (seen es : List Entry) (caller : ℕ) (t : Ticket) → IsPrefix seen es → own_of caller es ≡ own_of caller seen → Holds view tells coming o seen caller t → Holds view tells coming o es caller t
  holds_on seen es caller t front own h = record {
    owes = subst (λ (l : List Entry). Contains (owed_by l) (ticket_of t)) (sym own) h.owes;
    runs = h.runs;
    script = h.script;
    visit = λ opened. let v = h.visit opened in record {
      front = v.front;
      begins = prefix_of v.front seen es v.begins front;
      scripts = v.scripts;
      admitted = v.admitted;
      fits = v.fits;
    };
  }

  -- on a shelf that was opened as an own one the ticket fits the book of now
  pub fits_now : (s : Shelf D N) (es : List Entry) → IsSound view tells coming o s es → TicketsGoOnToFit → (caller : ℕ) (t : Ticket) → Holds view tells coming o es caller t → IsOwnOpening view tells o
      → FitsAs (library_of s.library).all (book_in view s) t (admit (book_in view s) (target_of t.target))
  fits_now s es p law caller t held own =
      let h = held.visit own in
      let kept = (p.history own).kept in
      let source = source_of coming o in
      let opened = count_of view o.shelf.value in
      let now = count_of view s in
      let start = start_of view o in
      let all = (opened_library o).all in
      let b = book_then view coming o h.front in
      let c = book_then view coming o es in
      let book_is : book_in view s ≡ c = ap (λ z. z.book) kept.shelf in
      let early : IsLegal source opened now start h.front = (go_on source opened now start h.front).2 h.begins.0 (subst (IsLegal source opened now start) (sym h.begins.1) kept.legal) in
      let there : IsKept source opened now start (shelf_behind source start h.front) (λ k. source ((shelf_behind source start h.front).nonces + k)) h.front = record { legal = early; shelf = refl; nonces = λ k. refl } in
      let orderly : IsOrderly b = (kept_sound source opened now start _ _ h.front p.opened there).0 in
      let leads = (are_runs source opened now start es p.opened kept.legal).2 h.front h.begins.0 (sym h.begins.1) in
      let setup : c.scripts ≡ scripts_in o = sym (ap (λ z. z.scripts) book_is) ∙ ap (λ l. (library_of l).setup) p.library in
      let fits = law all b c orderly leads (setup ∙ sym h.scripts) t h.admitted h.fits in
      subst (λ (l : Library). FitsAs (library_of l).all (book_in view s) t (admit (book_in view s) (target_of t.target))) (sym p.library)
      (subst (λ (x : Book). FitsAs all x t (admit x (target_of t.target))) (sym book_is) fits)

-- what a ticket is of
pub told_ticket : {D N : Type 0} (view : D → View) (coming : N → ℕ → ℕ) (s : Shelf D N) (target : Target) (answer : Value) (result : Result Ticket answers.Reply) → IfOk result (IsTicketOf view coming s target answer)
    → IfOk result (λ x. (target_of x.target ≡ target_of target) × (meaning x.answer ≡ meaning answer))
told_ticket view coming s target answer (Ok x) h = (ap (λ z. z.target) h, ap (λ z. z.answer) h)
told_ticket view coming s target answer (Err r) h = tt

-- what a take gave stands in each history that goes on
pub given_on : (seen es : List KeptEntry) (t : Ticket) → IsPrefix seen es → IsGivenIn seen t → IsGivenIn es t
given_on seen es t front given = (given.0, (subst (λ (l : List KeptEntry). Contains l given.0) front.1 (Contains-append_left seen front.0 given.0 given.1.0), given.1.1))

-- a ticket of the history with one entry more was given before, or by that entry
pub given_last : (es : List KeptEntry) (e : KeptEntry) (t : Ticket) → IsGivenIn (es ++ e ∷ []) t → IsGivenIn es t ⊎ Gave e.did t
given_last es e t given = elim (Contains-push_cases es e given.0 given.1.0) [
  | inl old ↦ inl (given.0, (old, given.1.1))
  | inr last ↦ inr (subst (λ (x : KeptEntry). Gave x.did t) (sym last) given.1.1)
]

-- the entry that is added gave it
pub given_now : (es : List KeptEntry) (e : KeptEntry) (t : Ticket) → Gave e.did t → IsGivenIn (es ++ e ∷ []) t
given_now es e t gave = (e, (Contains-push es e, gave))
