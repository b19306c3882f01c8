-- The worked rows of a file with pages.
use Rattle.std.proofs.Common.{◌≡◌, ℕ, ℤ, pos, [], ◌∷◌, Option, Some, None, if◌then◌else◌, not, codes, refl, ap, ◌∙◌, arith}
use Rattle.std.specs.Fmt.{digits}
use Rattle.std.specs.Str.{is_utf8, chars}
use Rattle.std.proofs.Math.Utf8.{encode}
use Rattle.page_names.specs.Hex.{hex16}
use Rattle.script_nodes.specs.Arena.{IsScript, arena_of}
use Rattle.script_nodes.proofs.Scripts.{script_laid}
use Rattle.replay_spec.specs.Tape.{recorded, Tape}
use Rattle.replay_spec.specs.Next.{Home, home, now_of}
use Rattle.machine_states.specs.Machine.{Suspended}
use Rattle.value_bytes.specs.Reading.{read_within}
use Rattle.journal_records.specs.Old.{read_record_in}
use Rattle.journal_spec.specs.Retaking.{told}
use Rattle.journal_spec.specs.Lengths.{state_over}
use Rattle.audit_spec.specs.declared.word.Word.TheVariants as word
use Rattle.audit_spec.specs.Tests.{tells_state}
use Rattle.audit_spec.specs.Findings.{Finding, found_at, first_found, Answer, answer_by, audited}
use Rattle.audit_spec.specs.VectorsOfFiles.{sum, texts, query, first_state, second_state, file, WorkedRows}
use Rattle.audit_spec.proofs.States.{state_is}

sum_is_script : IsScript (arena_of sum.script)
sum_is_script =
    (script_laid sum.script [] (
      (
        (refl, ((refl, (tt, ((refl, (refl, (tt, ((refl, ((refl, (tt, (omega arith, tt))), tt)), (tt, tt))))), tt))), tt)),
        (
          (refl, ((refl, (tt, ((refl, (refl, (tt, ((refl, ((refl, (tt, (omega arith, tt))), tt)), (tt, tt))))), tt))), tt)),
          tt,
        ),
      ),
      (refl, (tt, ((refl, ((refl, (omega arith, (omega arith, tt))), tt)), tt))),
    ) tt).0

-- what the pages of the file share
abbrev here : Home
here = home sum 0 0

-- the tape of the first page
abbrev first_tape : Tape
first_tape = record { first = now_of here 0 0 (recorded []); later = [] }

-- the tape of the second page
abbrev second_tape : Tape
second_tape = record { first = now_of here 0 0 (recorded []); later = record { value = query (codes "3"); segment = now_of here 1 1 (recorded []) } ∷ [] }

first_kept : state_over sum.script first_tape ≡ Some first_state
first_kept = state_is sum.script sum_is_script first_tape 40 first_state refl

second_kept : state_over sum.script second_tape ≡ Some (second_state (pos 3))
second_kept = state_is sum.script sum_is_script second_tape 80 (second_state (pos 3)) refl

-- what is found at a page that tells this state, where its script leaves that one
abbrev found_of : (place : ℕ) → Suspended → Option Suspended → Option Finding
found_of place d o = found_at place (if not (tells_state (told d) o) then Some word.State else None)

-- what the file is answered, where the scripts of its two pages leave these
abbrev answered : (bound : ℤ) → (o p : Option Suspended) → Answer
answered n o p = answer_by 4 (first_found (found_of 301 first_state o) (first_found (found_of 405 (second_state n) p) None))

answers : (n : ℤ) → answered n (state_over sum.script first_tape) (state_over sum.script second_tape) ≡ answered n (Some first_state) (Some (second_state (pos 3)))
answers n =
    ap (λ (o : Option Suspended). answered n o (state_over sum.script second_tape)) first_kept
    ∙ ap (λ (p : Option Suspended). answered n (Some first_state) p) second_kept

told_3 : audited 6 texts (file (pos 3)) ≡ answered (pos 3) (state_over sum.script first_tape) (state_over sum.script second_tape)
unfolding read_record_in read_within is_utf8 chars encode digits hex16
told_3 = refl

told_4 : audited 6 texts (file (pos 4)) ≡ answered (pos 4) (state_over sum.script first_tape) (state_over sum.script second_tape)
unfolding read_record_in read_within is_utf8 chars encode digits hex16
told_4 = refl

pub rows : WorkedRows
rows = record { added = told_3 ∙ answers (pos 3); changed = told_4 ∙ answers (pos 4) }
