-- A file of two pages and a last one, whose script adds two numbers.
use Rattle.std.specs.Prelude.{◌≡◌, ℕ, ℤ, pos, List, [], ◌∷◌, Some, None, codes, refl}
use Rattle.std.specs.Str.{is_utf8, chars}
use Rattle.std.specs.Str.Lossy.{utf8_valid_len}
use Rattle.std.proofs.Math.Utf8.{encode}
use Rattle.script_value.specs.Val.{Val, number, text, symbol, list, vals_of}
use Rattle.script_value.specs.declared.outcome.Op.TheVariants as op
use Rattle.script_nodes.specs.declared.script.SendKind.TheVariants.{Suspend}
use Rattle.script_nodes.specs.Core.{Core, lit, var, bind, prim, send, no_cores, cores_of}
use Rattle.script_nodes.specs.Setup.{Named, texts_of}
use Rattle.core_syntax.specs.Definitions.{expanded}
use Rattle.core_syntax.specs.Heads.{syntax_of, page_form_of}
use Rattle.prim_spec.specs.Table.{number_operation_of, test_of, list_operation_of, text_operation_of}
use Rattle.setup_reader.specs.Texts.{setup_of_texts}
use Rattle.replay_spec.specs.Book.{Opening, Extension, opens, extends, ends}
use Rattle.replay_spec.specs.Samples.{plain_start, plain_answer}
use Rattle.machine_states.specs.Machine.{Suspended, in_binding, in_operand}
use Rattle.frame_codec.specs.Forms.{form_bytes}
use Rattle.journal_records.specs.Records.{changes, begin_of, body_of}
use Rattle.journal_spec.specs.Making.{Texts}
use Rattle.audit_spec.specs.declared.word.Word.TheVariants as word
use Rattle.audit_spec.specs.Findings.{yes, no, audited}

-- a literal of this symbol
abbrev sym : List ℕ → Core
sym s = lit (symbol s)

-- an expression that shows a page with one link, and gives the number that is answered
abbrev asked : (words : List ℕ) → Core
asked words =
    prim op.StringToNumber (cores_of (prim op.ExtractBindingSingle (cores_of (sym (codes "n")
    ∷ send Suspend (prim op.List (cores_of (sym (codes "a") ∷ prim op.List (cores_of (prim op.List (cores_of (sym (codes "href") ∷ var 0 ∷ [])) ∷ [])) ∷ lit (text words) ∷ []))) ∷ []))
    ∷ []))

-- a script that asks for two numbers and adds them
abbrev pub sum : Named
sum = record {
  name = codes "sum";
  text = codes "(let ((a (string->number (extract-binding/single 'n (send/suspend (lambda (u) (list 'a (list (list 'href u)) \"1\")))))) (b (string->number (extract-binding/single 'n (send/suspend (lambda (u) (list 'a (list (list 'href u)) \"2\"))))))) (list 'p (number->string (+ a b))))";
  script = record {
    web = [];
    cells = [];
    tasks = no_cores;
    body = bind (cores_of (asked (codes "1") ∷ asked (codes "2") ∷ []))
        (prim op.List (cores_of (sym (codes "p") ∷ prim op.NumberToString (cores_of (prim op.Add (cores_of (var 0 ∷ var 1 ∷ [])) ∷ [])) ∷ [])));
  };
}

-- the text of the script of these rows is read as this script
its_text : setup_of_texts (texts_of (sum ∷ [])) ≡ Some (sum ∷ [])
unfolding setup_of_texts is_utf8 chars encode utf8_valid_len expanded syntax_of page_form_of number_operation_of test_of list_operation_of text_operation_of
its_text = refl

-- in these rows all names and texts are read as the script that adds two numbers
abbrev pub texts : Texts
texts named = Some (sum ∷ [])

-- the bindings of a query with this number alone
abbrev pub query : List ℕ → Val
query digits = list (vals_of (list (vals_of (symbol (codes "n") ∷ text digits ∷ [])) ∷ []))

-- the start, which shows the first page
abbrev pub first : Opening
first = plain_start

-- the answer to the first page, which shows the second one
abbrev pub second : Extension
second = record plain_answer { answer = query (codes "3") }

-- the state of the first page
abbrev pub first_state : Suspended
first_state = record { env = []; frames = in_operand 2 (symbol (codes "n") ∷ []) ∷ in_operand 1 [] ∷ in_binding 0 [] ∷ []; shadows = [] }

-- the state of the second page, where this number was bound
abbrev pub second_state : (bound : ℤ) → Suspended
second_state n = record { env = []; frames = in_operand 13 (symbol (codes "n") ∷ []) ∷ in_operand 12 [] ∷ in_binding 0 (number n ∷ []) ∷ []; shadows = [] }

-- the bodies of the file, whose second page has this number bound in its state
abbrev pub file : (bound : ℤ) → List (List ℕ)
file n =
    body_of (begin_of 0 (sum ∷ []))
    ∷ body_of (changes (opens first) (Some (form_bytes None first_state)))
    ∷ body_of (changes (extends second) (Some (form_bytes (Some first_state) (second_state n))))
    ∷ body_of (changes (ends (record { number = 2; instance = 0; page = 1; answer = query (codes "4"); effects = []; left = [] })) None) ∷ []

-- The file is answered yes. Where the second page has another number in its state than the one that was answered, it is answered no.
pub record WorkedRows : Type 0 where
  pub added : audited 6 texts (file (pos 3)) ≡ yes 4
  pub changed : audited 6 texts (file (pos 4)) ≡ no (record { place = 405; word = word.State })
