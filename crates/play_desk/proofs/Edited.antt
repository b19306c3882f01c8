-- A setup that is what its names and texts are read as stays so with an edit.
use Rattle.std.proofs.Common.{◌≡◌, ◌∙◌, ap, refl, subst, ℕ, ◌<◌, Bool, true, false, List, ◌∷◌, [], ◌++◌, length, nat_lt, Option, Some, None, arith, if◌then◌else◌}
use Rattle.std.proofs.lemmas.Bool.Decides.{nat_tests}
use Rattle.std.proofs.lemmas.Option.{same_Some}
use Rattle.script_nodes.specs.Setup.{Named, place_named, text_of}
use Rattle.setup_reader.specs.Texts.{IsReadSetup, script_of_text}
use Rattle.setup_reader.proofs.Edited.{added, replaced}
use Rattle.setup_reader.proofs.Retold.{script_kept}
use Rattle.play_desk.specs.Edits.{edited, placed_at, with_script}

-- a script is what its own name and text are read as
own_text : (name text : List ℕ) (s : Named) → script_of_text (name, text) ≡ Some s → script_of_text (text_of s) ≡ Some s
own_text name text s e =
    let kept = (script_kept (name, text) s e).1 in
    ap (λ n. script_of_text (n, s.text)) kept.name_is ∙ ap (λ t. script_of_text (name, t)) kept.text_is ∙ e

placed_read : (scripts new : List Named) (s : Named) (place : Option ℕ) → IsReadSetup scripts → script_of_text (text_of s) ≡ Some s
    → place_named s.name scripts ≡ place → placed_at scripts s place ≡ Some new → IsReadSetup new
placed_read scripts new s (Some k) read one at is =
    subst IsReadSetup (same_Some _ new is) (replaced scripts s k read one at)
placed_read scripts new s None read one at is = by_room (nat_lt (length scripts) 15) (λ e. grind (arith, nat_tests)) is
  where
    by_room : (b : Bool) → (b ≡ true → length scripts < 15) → (if b then Some (scripts ++ s ∷ []) else None) ≡ Some new → IsReadSetup new
    by_room true low e = subst IsReadSetup (same_Some _ new e) (added scripts s read one at (low refl))
    by_room false low e = absurd (let no : None ≡ Some new = e in cc)

pub edited_read : (scripts new : List Named) (name text : List ℕ) → IsReadSetup scripts → edited scripts name text ≡ Some new → IsReadSetup new
edited_read scripts new name text read is = by_script (script_of_text (name, text)) refl is
  where
    by_script : (o : Option Named) → script_of_text (name, text) ≡ o → with_script scripts o ≡ Some new → IsReadSetup new
    by_script None e h = absurd (let no : None ≡ Some new = h in cc)
    by_script (Some s) e h = placed_read scripts new s (place_named s.name scripts) read (own_text name text s e) refl h
