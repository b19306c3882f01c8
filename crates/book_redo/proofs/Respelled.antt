-- A page of format 2, whose bytes are those of its state alone, written anew.
use Rattle.std.proofs.Common.{◌≡◌, ◌∙◌, sym, subst, List, ℕ, Some, None}
use Rattle.std.proofs.lemmas.Option.{same_Some}
use Rattle.script_nodes.specs.Arena.{IsScript}
use Rattle.script_nodes.specs.Setup.{Library}
use Rattle.script_nodes.specs.Views.{named_of}
use Rattle.replay_spec.specs.Book.{Change}
use Rattle.machine_states.specs.Machine.{Suspended}
use Rattle.machine_states.specs.Views.{origin_of, suspended_of}
use Rattle.machine_states.specs.declared.frame.Suspended as stored
use Rattle.frame_codec.specs.Stored.{IsStored}
use Rattle.frame_codec.specs.Reading.{read_state}
use Rattle.frame_codec.specs.Forms.{BindsBefore}
use Rattle.instance_book.specs.KeptStates.Links.{behind_at}
use Rattle.instance_book.specs.declared.book.Book.{Book}
use Rattle.journal_spec.specs.Retaking.{arena_of}
use Rattle.book_redo.specs.declared.behind.Behind.{Behind}
use Rattle.book_redo.specs.Behind.{TellsBehind, IsSpelledBehind}
use Rattle.book_redo.specs.Renewing.{IsAsNewest, IsOutside}
use Rattle.book_redo.proofs.Anew.{alone_is, alone_is_outside, read_again}

module _ (library : Library) (b : Book) (c : Change) (x : Behind) (bytes : List ℕ) (script : IsScript x.script.now.script) (tells : TellsBehind library b c (Some x)) where
  -- bytes that no state has are outside the grammar
  pub unread_outside : read_state x.script.now.script bytes ≡ None → IsOutside 2 library b c (Some bytes)
  unread_outside none =
      alone_is_outside library b c x bytes tells
      (λ d reads. absurd (let other = read_again x bytes None script none in let both : None ≡ Some d = sym other ∙ reads in let no : ⊥ = cc in no))

  -- and those of a state that can't be told there
  pub untold_outside : (d : stored.Suspended) → read_state x.script.now.script bytes ≡ Some (suspended_of d) → IsStored x.script.now.script (suspended_of d) → IsSpelledBehind x d None
      → IsOutside 2 library b c (Some bytes)
  untold_outside d reads stored never =
      alone_is_outside library b c x bytes tells
      (λ e again binds.
      let same : suspended_of d ≡ e = same_Some (suspended_of d) e (sym (read_again x bytes (Some (suspended_of d)) script reads) ∙ again) in
      never (stored.bytes, subst (λ (s : Suspended). BindsBefore (behind_at x.links (origin_of x.from)) s) (sym same) binds))

  -- the bytes that the newest format has of a state tell it
  pub told_anew : (d : stored.Suspended) (now : List ℕ) → read_state x.script.now.script bytes ≡ Some (suspended_of d) → IsStored (arena_of (named_of x.script.now).script) (suspended_of d)
      → IsSpelledBehind x d (Some now) → IsAsNewest 2 library b c (Some bytes) (Some now)
  told_anew d now reads stored spelled =
      subst (λ (bs : List ℕ). IsAsNewest 2 library b c (Some bytes) (Some bs)) (sym spelled.0)
      (alone_is library b c x bytes (suspended_of d) tells (read_again x bytes (Some (suspended_of d)) script reads) stored spelled.2)
