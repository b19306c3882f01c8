-- Setups of the same names and texts, place by place.
use Rattle.std.proofs.Common.{◌≡◌, ◌≤◌, ◌<◌, ◌*◌, ◌^◌, ◌&&◌, ℕ, zero, suc, false, List, [], ◌∷◌, length, length-append, flat_map, drop, slice_get, Some, refl, ◌∙◌, ap, arith}
use Rattle.std.specs.List.{AllByRecursion}
use Rattle.wire_bytes.specs.Spelling.{u32_bytes, byte_string}
use Rattle.value_bytes.specs.Spelling.{list_bytes}
use Rattle.book_recovery.proofs.SetupReader.Edited.{sound}
use Rattle.book_recovery.specs.SetupReader.Texts.{IsReadSetup}
use Rattle.journal_records.specs.Fields.{script_bytes, ScriptFits}
use Rattle.journal_records.specs.Records.{IsInGrammar, begin_of, renewal_of, body_of}
use Rattle.std.proofs.lemmas.Option.{same_Some}
use Rattle.std.specs.Str.{bytes_eq}
use Rattle.std.proofs.lemmas.Bool.{and_right}
use Rattle.script_nodes.specs.Setup.{Named, texts_of}
use Rattle.replay_spec.specs.Book.{are_same}
use Rattle.shelf.specs.Present.{is_same}

split_at : (xs : List Named) (n : ℕ) (x : Named) → slice_get xs n ≡ Some x → drop n xs ≡ x ∷ drop (suc n) xs
split_at [] n x e = absurd (let no : ⊥ = cc e in no)
split_at (y ∷ ys) zero x e = ap (λ (z : Named). z ∷ ys) (same_Some y x e)
split_at (y ∷ ys) (suc n) x e = split_at ys n x e

pub same_at : (ss ts : List Named) (n : ℕ) (s t : Named) → slice_get ss n ≡ Some s → slice_get ts n ≡ Some t
    → are_same (drop n ss) (drop n ts) ≡ (is_same s t && are_same (drop (suc n) ss) (drop (suc n) ts))
same_at ss ts n s t a b =
    ap (λ (xs : List Named). are_same xs (drop n ts)) (split_at ss n s a) ∙ ap (λ (ys : List Named). are_same (s ∷ drop (suc n) ss) ys) (split_at ts n t b)

pub not_same : (ss ts : List Named) → (length ss ≡ length ts → ⊥) → are_same ss ts ≡ false
not_same [] [] other = absurd (other refl)
not_same [] (t ∷ ts) other = refl
not_same (s ∷ ss) [] other = refl
not_same (s ∷ ss) (t ∷ ts) other = and_right (bytes_eq s.name t.name && bytes_eq s.text t.text) (are_same ss ts) (not_same ss ts (λ e. other (ap suc e)))

-- ---- a setup that was read has few scripts, and is not too long

count_texts : (ss : List Named) → length (texts_of ss) ≡ length ss
count_texts [] = refl
count_texts (s ∷ ss) = ap suc (count_texts ss)

pub few_scripts : (ss : List Named) → IsReadSetup ss → length ss < 2 ^ 8
few_scripts ss read = omega (arith, (sound ss read).few)

one_length : (t : List ℕ × List ℕ) → ScriptFits t → length (script_bytes t) ≤ 17179869184
one_length t fits =
    omega (
      arith,
      fits.0,
      fits.1,
      length-append (byte_string t.0) (byte_string t.1),
      length-append (u32_bytes (length t.0)) t.0,
      length-append (u32_bytes (length t.1)) t.1,
    )

texts_length : (ts : List (List ℕ × List ℕ)) → AllByRecursion ScriptFits ts → length (flat_map script_bytes ts) ≤ length ts * 17179869184
texts_length [] fits = omega arith
texts_length (t ∷ ts) fits = omega (arith, one_length t fits.0, texts_length ts fits.1, length-append (script_bytes t) (flat_map script_bytes ts))

setup_length : (ss : List Named) → IsReadSetup ss → AllByRecursion ScriptFits (texts_of ss) → length (list_bytes script_bytes (texts_of ss)) < 2 ^ 62
setup_length ss read fits =
    let ts = texts_of ss in
    omega (arith, (sound ss read).few, count_texts ss, texts_length ts fits, length-append (u32_bytes (length ts)) (flat_map script_bytes ts))

pub renewal_short : (ss : List Named) → IsReadSetup ss → IsInGrammar (renewal_of ss) → length (body_of (renewal_of ss)) < 2 ^ 63
renewal_short ss read fits = omega (arith, setup_length ss read fits.1)

pub begin_short : (ss : List Named) (shelf : ℕ) → IsReadSetup ss → IsInGrammar (begin_of shelf ss) → length (body_of (begin_of shelf ss)) < 2 ^ 63
begin_short ss shelf read fits =
    omega (arith, setup_length ss read fits.1.1, length-append (u32_bytes shelf) (list_bytes script_bytes (texts_of ss)))
