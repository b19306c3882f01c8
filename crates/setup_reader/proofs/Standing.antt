-- A fault is told exactly where it stands.
use Rattle.std.proofs.Common.{◌≡◌, ◌≢◌, ℕ, zero, suc, ◌+◌, ◌-◌, ◌≤◌, Bool, true, false, List, [], ◌∷◌, ◌++◌, length, nat_le, length-append, Option, Some, None, Result, Ok, Err, refl, sym, ◌∙◌, ap, subst, arith, append-nil, if◌then◌else◌, inl, inr}
use Rattle.std.proofs.lemmas.List.{append_assoc}
use Rattle.std.specs.Prelude.{◌⊎◌, IsUtf8}
use Rattle.std.proofs.lemmas.Bool.Decides.{nat_tests}
use Rattle.script_value.specs.Val.{Val}
use Rattle.sexp_reader.specs.Spells.{Spells}
use Rattle.sexp_reader.specs.Read.{read}
use Rattle.sexp_reader.specs.declared.fault.ReadKind.{ReadKind}
use Rattle.sexp_reader.proofs.Taken.{read_spells}
use Rattle.sexp_reader.proofs.Again.{spells_read}
use Rattle.core_syntax.specs.declared.faults.SyntaxKind.{SyntaxKind}
use Rattle.core_syntax.specs.Definitions.{expanded}
use Rattle.script_nodes.specs.Setup.{Script, Named, place_named}
use Rattle.setup_reader.specs.Setup.{Piece, Parsed, Fault, at_section, at_text, at_form, section_in, by_forms, by_data, script_in, named_next, with_rest, script_at, ended, after, unless_ended, ending_at, setup_from, setup_of}
use Rattle.setup_reader.specs.declared.setup.Ending.{Ending}
use Rattle.setup_reader.specs.declared.fault.SetupKind.{SetupKind}
use Rattle.setup_reader.specs.declared.fault.SetupKind.TheVariants.{Section, Repeat, Many, Empty, End}
use Rattle.setup_reader.specs.declared.fault.SetupFault.{SetupFault}
use Rattle.setup_reader.specs.declared.fault.SetupFault.TheVariants.{Memory, At}
use Rattle.setup_reader.specs.Views.{Gives, Tells, fault_of}
use Rattle.setup_reader.specs.Sections.{section_text, setup_text, IsEnd, AreScripts}
use Rattle.setup_reader.specs.Standing.{IsSection, NoSection, NoEnd, IsNext, SectionFault, Stands, HasFault, HasText}
use Rattle.setup_reader.proofs.Sections.{section_spelled, section_made, end_spelled, end_found, section_found, script_found, no_end}

-- what is told stands there

piece_stands : (bytes : List ℕ) (piece : Piece) → section_in bytes ≡ Some piece → IsSection bytes piece.name piece.text piece.rest
piece_stands bytes piece e =
    let is = section_spelled bytes piece e in record { named = is.named; short = omega (arith, is.short); spelled = is.whole }

none_ends : (ending : Ending) (bytes : List ℕ) → ending_at ending bytes ≡ None → NoEnd ending bytes
none_ends ending bytes e steps is = let s = end_found ending bytes steps is in cc

none_stands : (bytes : List ℕ) → section_in bytes ≡ None → NoSection bytes
none_stands bytes e name text later is =
    let s = ap section_in is.spelled ∙ section_found name text later is.named (omega (arith, is.short)) in cc

form_stands : (ending : Ending) (scripts : List Named) (place : ℕ) (bytes : List ℕ) (name text : List ℕ) (vs : List Val) (r : Result Script (SyntaxKind × ℕ)) (fault : Fault)
    → IsNext scripts bytes name text → Spells text vs → expanded vs ≡ r → by_forms name text r ≡ Err fault → Stands ending scripts place bytes fault
form_stands ending scripts place bytes name text vs (Ok c) fault next s e h = absurd (let no : ⊥ = cc in no)
form_stands ending scripts place bytes name text vs (Err x) fault next s e h =
    let same : at_form name x.1 x.0 ≡ fault = cc in
    subst (Stands ending scripts place bytes) same (text, vs, next, s, e)

data_stands : (ending : Ending) (scripts : List Named) (place : ℕ) (bytes : List ℕ) (name text : List ℕ) (r : Result (List Val) (ℕ × ReadKind)) (fault : Fault)
    → IsNext scripts bytes name text → read text ≡ r → by_data name text r ≡ Err fault → Stands ending scripts place bytes fault
data_stands ending scripts place bytes name text (Ok vs) fault next e h =
    form_stands ending scripts place bytes name text vs (expanded vs) fault next (read_spells text vs e) refl h
data_stands ending scripts place bytes name text (Err x) fault next e h =
    let same : at_text name x.0 x.1 ≡ fault = cc in
    subst (Stands ending scripts place bytes) same (text, next, e)

next_stands : (ending : Ending) (scripts : List Named) (place : ℕ) (bytes : List ℕ) (piece : Piece) (twin : Option ℕ) (fault : Fault)
    → IsSection bytes piece.name piece.text piece.rest → place_named piece.name scripts ≡ twin → named_next place scripts twin piece ≡ Err fault
    → Stands ending scripts place bytes fault
next_stands ending scripts place bytes piece (Some twin) fault is e h =
    let same : at_section place Repeat ≡ fault = cc in
    subst (Stands ending scripts place bytes) same (refl, (piece.name, piece.text, piece.rest, twin, is, e))
next_stands ending scripts place bytes piece None fault is e h = by_test (nat_le 15 (length scripts)) refl h
  where
    by_test : (t : Bool) → nat_le 15 (length scripts) ≡ t
        → (if t then Err (at_section place Many) else script_in piece.name piece.text) ≡ Err fault → Stands ending scripts place bytes fault
    by_test true t k =
        let same : at_section place Many ≡ fault = cc in
        subst (Stands ending scripts place bytes) same (refl, (piece.name, piece.text, piece.rest, is, e, grind (arith, nat_tests)))
    by_test false t k =
        data_stands ending scripts place bytes piece.name piece.text (read piece.text) fault
        (record { after = piece.rest; section = is; new = e; room = grind (arith, nat_tests) }) refl k

rest_fault : (rest : List ℕ) (r : Result Named Fault) (fault : Fault) → with_rest rest r ≡ Err fault → r ≡ Err fault
rest_fault rest (Ok s) fault h = absurd (let no : ⊥ = cc in no)
rest_fault rest (Err e) fault h = let same : e ≡ fault = cc in ap (λ x. Err x) same

section_stands : (ending : Ending) (scripts : List Named) (place : ℕ) (bytes : List ℕ) (o : Option Piece) (fault : Fault) → bytes ≢ [] → ending_at ending bytes ≡ None
    → section_in bytes ≡ o → script_at place scripts o ≡ Err fault → Stands ending scripts place bytes fault
section_stands ending scripts place bytes None fault some none e h =
    let same : at_section place Section ≡ fault = cc in
    subst (Stands ending scripts place bytes) same (refl, (some, none_ends ending bytes none, none_stands bytes e))
section_stands ending scripts place bytes (Some piece) fault some none e h =
    next_stands ending scripts place bytes piece (place_named piece.name scripts) fault (piece_stands bytes piece e) refl
    (rest_fault piece.rest (named_next place scripts (place_named piece.name scripts) piece) fault h)

ended_stands : (ending : Ending) (scripts : List Named) (place : ℕ) (bytes steps : List ℕ) (fault : Fault) → ending_at ending bytes ≡ Some steps
    → ended place scripts steps ≡ Err fault → Stands ending scripts place bytes fault
ended_stands ending [] place bytes steps fault e h =
    let same : at_section place Empty ≡ fault = cc in
    subst (Stands ending [] place bytes) same (refl, (refl, steps, end_spelled ending bytes steps e))
ended_stands ending (s ∷ ss) place bytes steps fault e h = absurd (let no : ⊥ = cc in no)

last_stands : (ending : Ending) (scripts : List Named) (place : ℕ) (o : Option (List ℕ)) (fault : Fault) → ending_at ending [] ≡ o
    → unless_ended o (ended place scripts) (Err (at_section place End)) ≡ Err fault → Stands ending scripts place [] fault
last_stands ending scripts place None fault e h =
    let same : at_section place End ≡ fault = cc in
    subst (Stands ending scripts place []) same (refl, (refl, none_ends ending [] e))
last_stands ending scripts place (Some steps) fault e h = ended_stands ending scripts place [] steps fault e h

-- scripts that follow, and what stands after them
record Standing (ending : Ending) (total : ℕ) (scripts : List Named) (bytes : List ℕ) (fault : Fault) : Type 0 where
  more : List Named
  last : List ℕ
  whole : bytes ≡ setup_text more last
  good : AreScripts scripts more
  few : length (scripts ++ more) ≤ 15
  stands : Stands ending (scripts ++ more) (total - length last) last fault

stands_here : (ending : Ending) (total : ℕ) (scripts : List Named) (bytes : List ℕ) (fault : Fault) → length scripts ≤ 15
    → Stands ending scripts (total - length bytes) bytes fault → Standing ending total scripts bytes fault
stands_here ending total scripts bytes fault few s = record {
  more = [];
  last = bytes;
  whole = refl;
  good = tt;
  few = omega (arith, length-append scripts []);
  stands = subst (λ ss. Stands ending ss (total - length bytes) bytes fault) (sym (append-nil scripts)) s;
}

standing : (n : ℕ) (ending : Ending) (total : ℕ) (scripts : List Named) (bytes : List ℕ) (fault : Fault) → n + length scripts ≡ 16 → length scripts ≤ 15
    → setup_from n ending total scripts bytes ≡ Err fault → Standing ending total scripts bytes fault
standing zero ending total scripts bytes fault count few h = absurd (omega arith)
standing (suc n) ending total scripts [] fault count few h =
    stands_here ending total scripts [] fault few
    (subst (λ p. Stands ending scripts p [] fault) (omega arith) (last_stands ending scripts total (ending_at ending []) fault refl h))
standing (suc n) ending total scripts (b ∷ bs) fault count few h =
    by_line (ending_at ending rest) refl h
    (λ found size k. standing n ending total (scripts ++ found.0 ∷ []) found.1 fault (omega (arith, length-append scripts (found.0 ∷ []))) size k)
  where
    rest : List ℕ
    rest = b ∷ bs

    place : ℕ
    place = total - length rest

    some : rest ≢ []
    some e = let no : ⊥ = cc in no

    go : Named × List ℕ → Result Parsed Fault
    go found = setup_from n ending total (scripts ++ found.0 ∷ []) found.1

    by_found : (r : Result (Named × List ℕ) Fault) → ending_at ending rest ≡ None → script_at place scripts (section_in rest) ≡ r → after r go ≡ Err fault
        → ((found : Named × List ℕ) → length (scripts ++ found.0 ∷ []) ≤ 15 → go found ≡ Err fault → Standing ending total (scripts ++ found.0 ∷ []) found.1 fault)
        → Standing ending total scripts rest fault
    by_found (Err e) none same k later_of =
        let told : e ≡ fault = cc in
        stands_here ending total scripts rest fault few
        (section_stands ending scripts place rest (section_in rest) fault some none refl (same ∙ ap (λ x. Err x) told))
    by_found (Ok found) none same k later_of =
        let brings = section_made place scripts rest (section_in rest) found refl same in
        let size : length (scripts ++ found.0 ∷ []) ≤ 15 = omega (arith, brings.few, length-append scripts (found.0 ∷ [])) in
        let later = later_of found size k in
        let joined = append_assoc scripts (found.0 ∷ []) later.more in
        record {
          more = found.0 ∷ later.more;
          last = later.last;
          whole = brings.whole ∙ ap (λ r. section_text found.0.name found.0.text ++ r) later.whole;
          good = (brings.script, (brings.new, later.good));
          few = omega (arith, later.few, ap length joined);
          stands = subst (λ ss. Stands ending ss (total - length later.last) later.last fault) joined later.stands;
        }

    by_line : (o : Option (List ℕ)) → ending_at ending rest ≡ o
        → unless_ended o (ended place scripts) (after (script_at place scripts (section_in rest)) go) ≡ Err fault
        → ((found : Named × List ℕ) → length (scripts ++ found.0 ∷ []) ≤ 15 → go found ≡ Err fault → Standing ending total (scripts ++ found.0 ∷ []) found.1 fault)
        → Standing ending total scripts rest fault
    by_line (Some steps) e k later_of = stands_here ending total scripts rest fault few (ended_stands ending scripts place rest steps fault e k)
    by_line None e k later_of = by_found (script_at place scripts (section_in rest)) e refl k later_of

setup_length : (ss : List Named) (rest : List ℕ) → length (setup_text ss rest) ≡ length (setup_text ss []) + length rest
setup_length [] rest = omega arith
setup_length (s ∷ ss) rest =
    omega (arith, setup_length ss rest, length-append (section_text s.name s.text) (setup_text ss rest), length-append (section_text s.name s.text) (setup_text ss []))

pub fault_stands : (ending : Ending) (input : List ℕ) (fault : Fault) → setup_of ending input ≡ Err fault → HasFault ending input fault
unfolding setup_of
fault_stands ending input fault h =
    let s = standing 16 ending (length input) [] input fault (omega arith) (omega arith) h in
    let place : length input - length s.last ≡ length (setup_text s.more []) = omega (arith, ap length s.whole, setup_length s.more s.last) in
    record {
      scripts = s.more;
      rest = s.last;
      few = s.few;
      good = s.good;
      spelled = s.whole;
      stands = subst (λ p. Stands ending s.more p s.last fault) place s.stands;
    }

-- what stands there is told

behind_scripts : (n m : ℕ) (ending : Ending) (total : ℕ) (scripts more : List Named) (rest : List ℕ) → n ≡ length more + m → length scripts + length more ≤ 15
    → AreScripts scripts more → setup_from n ending total scripts (setup_text more rest) ≡ setup_from m ending total (scripts ++ more) rest
behind_scripts n m ending total scripts [] rest count few are =
    ap (λ k. setup_from k ending total scripts rest) (omega (arith, count)) ∙ ap (λ ss. setup_from m ending total ss rest) (sym (append-nil scripts))
behind_scripts zero m ending total scripts (s ∷ more) rest count few are = absurd (omega (arith, count))
behind_scripts (suc n) m ending total scripts (s ∷ more) rest count few are =
    let later = setup_text more rest in
    let whole = section_text s.name s.text ++ later in
    let found = script_found s (total - length whole) scripts later are.0 are.1.0 (omega arith) in
    let goes = behind_scripts n m ending total (scripts ++ s ∷ []) more rest (omega (arith, count)) (omega (arith, length-append scripts (s ∷ []))) are.1.1 in
    no_end ending s.name s.text later n total scripts
    ∙ rw found (goes ∙ ap (λ ss. setup_from m ending total ss rest) (append_assoc scripts (s ∷ []) more))

no_end_none : (ending : Ending) (bytes : List ℕ) (o : Option (List ℕ)) → ending_at ending bytes ≡ o → NoEnd ending bytes → o ≡ None
no_end_none ending bytes None e never = refl
no_end_none ending bytes (Some steps) e never = absurd (never steps (end_spelled ending bytes steps e))

no_section_none : (bytes : List ℕ) (o : Option Piece) → section_in bytes ≡ o → NoSection bytes → o ≡ None
no_section_none bytes None e never = refl
no_section_none bytes (Some piece) e never = absurd (never piece.name piece.text piece.rest (piece_stands bytes piece e))

-- where a section stands, what it comes to
section_told : (m : ℕ) (ending : Ending) (total : ℕ) (scripts : List Named) (bytes name text later : List ℕ) (fault : Fault) → IsSection bytes name text later
    → named_next (total - length bytes) scripts (place_named name scripts) (record { name = name; text = text; rest = later }) ≡ Err fault
    → setup_from (suc m) ending total scripts bytes ≡ Err fault
section_told m ending total scripts bytes name text later fault is h =
    let found = section_found name text later is.named (omega (arith, is.short)) in
    let whole = section_text name text ++ later in
    let go : Result (Named × List ℕ) Fault → Result Parsed Fault = λ r. after r (λ x. setup_from m ending total (scripts ++ x.0 ∷ []) x.1) in
    let told : named_next (total - length whole) scripts (place_named name scripts) (record { name = name; text = text; rest = later }) ≡ Err fault =
    ap (λ b. named_next (total - length b) scripts (place_named name scripts) (record { name = name; text = text; rest = later })) (sym is.spelled) ∙ h in
    ap (λ b. setup_from (suc m) ending total scripts b) is.spelled ∙ no_end ending name text later m total scripts
    ∙ ap (λ o. go (script_at (total - length whole) scripts o)) found ∙ ap (λ r. go (with_rest later r)) told

next_told : (m : ℕ) (ending : Ending) (total : ℕ) (scripts : List Named) (bytes name text : List ℕ) (fault : Fault) → IsNext scripts bytes name text
    → script_in name text ≡ Err fault → setup_from (suc m) ending total scripts bytes ≡ Err fault
next_told m ending total scripts bytes name text fault next h =
    let test : nat_le 15 (length scripts) ≡ false = let r = next.room in grind (arith, nat_tests) in
    section_told m ending total scripts bytes name text next.after fault next.section (rw (next.new, test) h)

ended_told : (m : ℕ) (ending : Ending) (total : ℕ) (bytes steps : List ℕ) → IsEnd ending bytes steps
    → setup_from (suc m) ending total [] bytes ≡ Err (at_section (total - length bytes) Empty)
ended_told m ending total [] steps end =
    let whole : total ≡ total - length {A = ℕ} [] = omega arith in
    rw (end_found ending [] steps end) (ap (λ p. Err (at_section p Empty)) whole)
ended_told m ending total (b ∷ bs) steps end = rw (end_found ending (b ∷ bs) steps end) refl

outside_told : (m : ℕ) (ending : Ending) (total : ℕ) (scripts : List Named) (bytes : List ℕ) → bytes ≢ [] → NoEnd ending bytes → NoSection bytes
    → setup_from (suc m) ending total scripts bytes ≡ Err (at_section (total - length bytes) Section)
outside_told m ending total scripts [] some end none = absurd (some refl)
outside_told m ending total scripts (b ∷ bs) some end none =
    rw (no_end_none ending (b ∷ bs) (ending_at ending (b ∷ bs)) refl end, no_section_none (b ∷ bs) (section_in (b ∷ bs)) refl none) refl

end_told : (m : ℕ) (ending : Ending) (total : ℕ) (scripts : List Named) (bytes : List ℕ) → bytes ≡ [] → NoEnd ending bytes
    → setup_from (suc m) ending total scripts bytes ≡ Err (at_section (total - length bytes) End)
end_told m ending total scripts [] e end =
    let whole : total ≡ total - length {A = ℕ} [] = omega arith in
    rw (no_end_none ending [] (ending_at ending []) refl end) (ap (λ p. Err (at_section p End)) whole)
end_told m ending total scripts (b ∷ bs) e end = absurd (let no : ⊥ = cc in no)

kind_told : (m : ℕ) (ending : Ending) (total : ℕ) (scripts : List Named) (bytes : List ℕ) (kind : SetupKind) → SectionFault ending scripts bytes kind
    → setup_from (suc m) ending total scripts bytes ≡ Err (at_section (total - length bytes) kind)
kind_told m ending total scripts bytes Section s = outside_told m ending total scripts bytes s.0 s.1 s.2
kind_told m ending total scripts bytes End s = end_told m ending total scripts bytes s.0 s.1
kind_told m ending total scripts bytes Empty s =
    ap (λ ss. setup_from (suc m) ending total ss bytes) s.0 ∙ ended_told m ending total bytes s.1 s.2
kind_told m ending total scripts bytes Repeat s =
    section_told m ending total scripts bytes s.0 s.1 s.2 (at_section (total - length bytes) Repeat) s.4 (rw s.5 refl)
kind_told m ending total scripts bytes Many s =
    let test : nat_le 15 (length scripts) ≡ true = let r = s.5 in grind (arith, nat_tests) in
    section_told m ending total scripts bytes s.0 s.1 s.2 (at_section (total - length bytes) Many) s.3 (rw (s.4, test) refl)

told_here : (m : ℕ) (ending : Ending) (total : ℕ) (scripts : List Named) (bytes : List ℕ) (fault : Fault) → Stands ending scripts (total - length bytes) bytes fault
    → setup_from (suc m) ending total scripts bytes ≡ Err fault
told_here m ending total scripts bytes (at_section at kind) s =
    kind_told m ending total scripts bytes kind s.1 ∙ ap (λ p. Err (at_section p kind)) (sym s.0)
told_here m ending total scripts bytes (at_text name at kind) s =
    next_told m ending total scripts bytes name s.0 (at_text name at kind) s.1 (ap (by_data name s.0) s.2)
told_here m ending total scripts bytes (at_form name form kind) s =
    next_told m ending total scripts bytes name s.0 (at_form name form kind) s.2
    (ap (by_data name s.0) (spells_read s.0 s.1 s.3) ∙ ap (by_forms name s.0) s.4)

pub fault_told : (ending : Ending) (input : List ℕ) (fault : Fault) → HasFault ending input fault → setup_of ending input ≡ Err fault
unfolding setup_of
fault_told ending input fault is =
    let count : 16 ≡ length is.scripts + suc (15 - length is.scripts) = omega (arith, is.few) in
    let place : length (setup_text is.scripts []) ≡ length input - length is.rest = omega (arith, ap length is.spelled, setup_length is.scripts is.rest) in
    ap (λ b. setup_from 16 ending (length input) [] b) is.spelled
    ∙ behind_scripts 16 (suc (15 - length is.scripts)) ending (length input) [] is.scripts is.rest count (omega (arith, is.few)) is.good
    ∙ told_here (15 - length is.scripts) ending (length input) is.scripts is.rest fault
    (subst (λ p. Stands ending is.scripts p is.rest fault) place is.stands)

-- the answers of the code

pub answer_stands : {X : Type 0} (view : X → Parsed) (ending : Ending) (input : List ℕ) (r : Result X SetupFault) → Gives view r (setup_of ending input)
    → Tells (HasFault ending input) r
answer_stands view ending input (Ok x) h = tt
answer_stands view ending input (Err Memory) h = tt
answer_stands view ending input (Err (At e)) h = fault_stands ending input (fault_of e) h

pub answer_told : {X : Type 0} (view : X → Parsed) (ending : Ending) (input : List ℕ) (r : Result X SetupFault) → Gives view r (setup_of ending input)
    → (wanted : Fault) → HasFault ending input wanted → Gives view r (Err wanted)
answer_told view ending input (Ok x) h wanted is = sym (fault_told ending input wanted is) ∙ h
answer_told view ending input (Err Memory) h wanted is = tt
answer_told view ending input (Err (At e)) h wanted is = sym (fault_told ending input wanted is) ∙ h

-- what is read before memory runs out

pub has_text : (bytes : List ℕ) (piece : Piece) → section_in bytes ≡ Some piece → (length piece.text ≤ 65536) × IsUtf8 piece.text → HasText bytes
has_text bytes piece e h =
    record { name = piece.name; text = piece.text; after = piece.rest; section = piece_stands bytes piece e; short = h.0; utf8 = h.1 }

pub script_text : (place : ℕ) (scripts : List Named) (bytes : List ℕ) (found : Named × List ℕ) → script_at place scripts (section_in bytes) ≡ Ok found → HasText bytes
script_text place scripts bytes found h =
    let b = section_made place scripts bytes (section_in bytes) found refl h in
    let spells = b.script.spelled in
    record {
      name = found.0.name;
      text = found.0.text;
      after = found.1;
      section = record { named = b.script.named; short = omega (arith, spells.short); spelled = b.whole };
      short = spells.short;
      utf8 = spells.utf8;
    }

-- the input is still whole, or begins with a text that was read
abbrev pub Started : List ℕ → List ℕ → Type 0
Started input rest = (rest ≡ input) ⊎ HasText input

pub started_text : (input rest : List ℕ) → Started input rest → HasText rest → HasText input
started_text input rest (inl e) h = subst HasText e h
started_text input rest (inr t) h = t

pub same_error : {X Y : Type 0} (e f : SetupFault) (r : Result X SetupFault) → r ≡ Err e → r ≡ Err f → ◌≡◌ {A = Result Y SetupFault} (Err e) (Err f)
same_error e f r h k = let s : e ≡ f = cc in ap (λ x. Err x) s
