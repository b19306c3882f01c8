-- Names and texts that are a setup, and others that are none.
use Rattle.std.specs.Prelude.{◌≡◌, ℕ, List, [], ◌∷◌, map, option_map, replicate, Some, None, refl, codes}
use Rattle.std.specs.Str.{is_utf8, chars}
use Rattle.std.specs.Str.Lossy.{utf8_valid_len}
use Rattle.std.proofs.Math.Utf8.{encode}
use Rattle.core_syntax.specs.Definitions.{expanded}
use Rattle.core_syntax.specs.Heads.{syntax_of, page_form_of}
use Rattle.script_nodes.specs.PrimSpec.Table.{number_operation_of, test_of, list_operation_of, text_operation_of}
use Rattle.script_nodes.specs.Setup.{texts_of}
use Rattle.setup_reader.specs.Texts.{setup_of_texts}

-- a script of this name
abbrev ten : List ℕ → List ℕ × List ℕ
ten name = (name, codes "'(p \"10\")")

-- two scripts, in their order
abbrev two : List (List ℕ × List ℕ)
two = ten (codes "b-1") ∷ (codes "a", codes "'a") ∷ []

-- the names and texts of two scripts are read as a setup of these
pub scripts_are_read : option_map texts_of (setup_of_texts two) ≡ Some two
unfolding setup_of_texts is_utf8 chars encode utf8_valid_len expanded syntax_of page_form_of number_operation_of test_of list_operation_of text_operation_of
scripts_are_read = refl

-- no script, and one more than a setup may have
pub counts : map setup_of_texts ([] ∷ replicate 16 (ten (codes "a")) ∷ []) ≡ None ∷ None ∷ []
unfolding setup_of_texts
counts = refl

-- a name that stands twice
pub twice : map setup_of_texts ((ten (codes "a") ∷ ten (codes "a") ∷ []) ∷ (ten (codes "a") ∷ ten (codes "b") ∷ ten (codes "a") ∷ []) ∷ []) ≡ None ∷ None ∷ []
unfolding setup_of_texts
twice = refl

-- names that are none of scripts: the empty one, one in upper case, one with a space, and one of 33 bytes
pub wrong_names :
    map (λ name. setup_of_texts (ten name ∷ [])) ([] ∷ codes "A" ∷ codes "a b" ∷ replicate 33 97 ∷ []) ≡ None ∷ None ∷ None ∷ None ∷ []
unfolding setup_of_texts
wrong_names = refl

-- texts outside the grammar: the empty one, one that is not closed, one with a name that nothing binds, and bytes that are no UTF-8
pub wrong_texts :
    map (λ text. setup_of_texts ((codes "a", text) ∷ [])) ([] ∷ codes "(p \"" ∷ codes "(list 'p x)" ∷ (255 ∷ []) ∷ []) ≡ None ∷ None ∷ None ∷ None ∷ []
unfolding setup_of_texts is_utf8 chars encode utf8_valid_len expanded syntax_of page_form_of number_operation_of test_of list_operation_of text_operation_of
wrong_texts = refl
