-- What holds of the histories of a closed site.
use Rattle.std.specs.Prelude.{◌≡◌, ℕ, Bool, IsTrue, List, [], ◌∷◌, ◌++◌}
use Rattle.script_value.specs.declared.outcome.TxName.{TxName}
use Rattle.web_disk.specs.View.{View}
use Rattle.replay_spec.specs.Invariant as invariant
use Rattle.replay_spec.specs.Laws.{Leaves, IsOn, IsRefusal, without_effect}
use Rattle.history_spec.specs.Histories.{Entry}
use Rattle.history_spec.specs.Laws.{moment_of}
use Rattle.site.specs.declared.opening.Opening.{Opening}
use Rattle.shelf.specs.SetupReader.Texts.{setup_of_texts}
use Rattle.shelf.specs.JournalSpec.Standing.{IsOneOf}
use Rattle.shelf.specs.Opening.{IsOfNow}
use Rattle.site.specs.Openings.{scripts_in, IsOwnOpening, start_of, source_of, book_then}
use Rattle.site.specs.Sound.{StandsFor}

-- On a shelf that was opened as an own one, with a sound book: after an entry that left a transaction none leaves it, of whichever
-- caller; and each on a page that was inside it after any beginning of the history is refused without effect.
abbrev pub ClosedIsClosedOverThreads : {D N : Type 0} → (D → View) → Bool → (N → ℕ → ℕ) → Type 0
ClosedIsClosedOverThreads {D} {N} view tells coming =
    (o : Opening D N) (disk : D) (nonces : N) (es : List Entry) → StandsFor view tells coming o disk nonces es
    → IsOwnOpening view tells o → invariant.IsSound (start_of view o).book
    → (before between more : List Entry) (leaving next : Entry) (name : TxName)
    → let until = before ++ leaving ∷ between in
    es ≡ (until ++ next ∷ []) ++ more
    → Leaves name (book_then view coming o before) (moment_of (source_of coming o) (start_of view o) before leaving)
    → (Leaves name (book_then view coming o until) (moment_of (source_of coming o) (start_of view o) until next) → ⊥)
    × ((early later : List Entry) → until ≡ early ++ later → IsOn name (book_then view coming o early) next.event
    → IsRefusal next.reply × (book_then view coming o (until ++ next ∷ []) ≡ without_effect next.event (book_then view coming o until)))

-- A shelf that is opened, with whatever setup, on what a closed site left of one that was opened as an own one, with a sound book, has a
-- sound book: so closed is closed over the next site's threads too.
abbrev pub WhatASiteLeftIsSound : {D N : Type 0} → (D → View) → Bool → (N → ℕ → ℕ) → Type 0
WhatASiteLeftIsSound {D} {N} view tells coming =
    (o p : Opening D N) (disk : D) (nonces : N) (es : List Entry) → IsTrue tells → StandsFor view tells coming o disk nonces es
    → IsOwnOpening view tells o → invariant.IsSound (start_of view o).book
    → (IsOfNow (view disk) → IsOneOf setup_of_texts o.shelf.value.rules.number (scripts_in p) (view disk) (start_of view p).book)
    → invariant.IsSound (start_of view p).book
