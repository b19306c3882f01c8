-- A setup is read exactly where it is spelled.
use Rattle.std.proofs.Common.{◌≡◌, ℕ, zero, suc, ◌+◌, ◌-◌, ◌≤◌, ◌<◌, Bool, true, false, List, [], ◌∷◌, ◌++◌, length, take, drop, nat_le, length-append, Option, Some, None, Result, Ok, Err, IfOk, refl, sym, ◌∙◌, ap, subst, arith, codes, append-nil, if◌then◌else◌}
use Rattle.std.proofs.Math.Seq.{take-append_seam, drop-append_seam}
use Rattle.std.proofs.lemmas.List.{take-append-drop, append_assoc, length-take-le}
use Rattle.std.specs.Fmt.{decimal}
use Rattle.std.specs.List.{list_all}
use Rattle.std.specs.Char.{is_ascii_digit}
use Rattle.std.proofs.lemmas.Bool.{and_parts}
use Rattle.std.proofs.lemmas.Bool.Decides.{nat_tests}
use Rattle.page_names.specs.Names.{is_name, is_name_byte, name_in}
use Rattle.script_value.specs.Pieces.{cut_at, behind, number_below}
use Rattle.std.proofs.lemmas.Option.{cond_some, same_Some}
use Rattle.script_value.proofs.Options.{allowed, bound}
use Rattle.script_value.proofs.Cuts.{behind_spelled, cut_spelled, cut_found, lacking}
use Rattle.script_value.proofs.Numerals.{number_spelled, number_found, decimal_digits}
use Rattle.script_value.specs.Val.{Val}
use Rattle.sexp_reader.specs.Spells.{Spells}
use Rattle.sexp_reader.specs.Read.{read}
use Rattle.sexp_reader.specs.declared.fault.ReadKind.{ReadKind}
use Rattle.sexp_reader.proofs.Taken.{read_spells}
use Rattle.sexp_reader.proofs.Again.{spells_read}
use Rattle.core_syntax.specs.declared.faults.SyntaxKind.{SyntaxKind}
use Rattle.core_syntax.specs.Definitions.{expanded}
use Rattle.script_nodes.specs.Setup.{Script, Named, place_named}
use Rattle.setup_reader.specs.Setup.{Piece, Parsed, Fault, at_section, section_in, by_forms, by_data, script_in, named_next, with_rest, script_at, ended, after, unless_ended, ending_at, setup_from, setup_of}
use Rattle.setup_reader.specs.declared.setup.Ending.{Ending}
use Rattle.setup_reader.specs.declared.setup.Ending.TheVariants.{Steps, Input}
use Rattle.setup_reader.specs.declared.fault.SetupKind.TheVariants.{Many, End}
use Rattle.setup_reader.specs.declared.fault.SetupFault.{SetupFault}
use Rattle.setup_reader.specs.declared.fault.SetupFault.TheVariants.{Memory, At}
use Rattle.setup_reader.specs.Views.{Gives}
use Rattle.setup_reader.specs.Sections.{section_text, setup_text, IsEnd, IsScript, AreScripts, IsSetup}

-- what is read is spelled so

pub record IsPiece (input : List ℕ) (piece : Piece) : Type 0 where
  pub whole : input ≡ section_text piece.name piece.text ++ piece.rest
  pub named : is_name piece.name ≡ true
  pub short : length piece.text < 16777217

around : (name count text rest : List ℕ)
    → codes "script " ++ (name ++ 32 ∷ (count ++ 10 ∷ (text ++ (10 ∷ rest)))) ≡ codes "script " ++ (name ++ 32 ∷ (count ++ 10 ∷ (text ++ 10 ∷ []))) ++ rest
around name count text rest =
    rw (append_assoc name (32 ∷ (count ++ 10 ∷ (text ++ 10 ∷ []))) rest, append_assoc count (10 ∷ (text ++ 10 ∷ [])) rest, append_assoc text (10 ∷ []) rest) refl

some_text : (name text : List ℕ) → 0 < length (section_text name text)
some_text name text = omega (arith, length-append (codes "script ") (name ++ 32 ∷ (decimal (length text) ++ 10 ∷ (text ++ 10 ∷ []))))

pub section_spelled : (input : List ℕ) (piece : Piece) → section_in input ≡ Some piece → IsPiece input piece
unfolding section_in
section_spelled input piece e =
    let section = bound (behind (codes "script ") input) _ piece e in
    let named = bound (cut_at 32 section.0) _ piece section.2 in
    let line = bound (cut_at 10 named.0.1) _ piece named.2 in
    let len = bound (number_below 16777217 line.0.0) _ piece line.2 in
    let name = bound (name_in named.0.0) _ piece len.2 in
    let fits = allowed (nat_le len.0 (length line.0.1)) _ piece name.2 in
    let rest = bound (behind (10 ∷ []) (drop len.0 line.0.1)) _ piece fits.1 in
    let is = cond_some _ _ _ name.1 in
    let counted = number_spelled 16777217 line.0.0 len.0 (omega arith) len.1 in
    let text : List ℕ = take len.0 line.0.1 in
    let within : len.0 ≤ length line.0.1 = grind (arith, nat_tests) in
    let size : length text ≡ len.0 = length-take-le len.0 line.0.1 within in
    let behind_text : line.0.1 ≡ text ++ (10 ∷ rest.0) =
    sym (take-append-drop len.0 line.0.1) ∙ ap (λ xs. text ++ xs) (behind_spelled (10 ∷ []) (drop len.0 line.0.1) rest.0 rest.1) in
    let whole : input ≡ codes "script " ++ (name.0 ++ 32 ∷ (decimal (length text) ++ 10 ∷ (text ++ (10 ∷ rest.0)))) =
    behind_spelled (codes "script ") input section.0 section.1
    ∙ ap (λ xs. codes "script " ++ xs) (cut_spelled 32 section.0 named.0.0 named.0.1 named.1
    ∙ ap (λ xs. xs ++ 32 ∷ named.0.1) is.1
    ∙ ap (λ xs. name.0 ++ 32 ∷ xs) (cut_spelled 10 named.0.1 line.0.0 line.0.1 line.1
    ∙ ap (λ xs. xs ++ 10 ∷ line.0.1) (counted.0 ∙ ap decimal (sym size))
    ∙ ap (λ xs. decimal (length text) ++ 10 ∷ xs) behind_text)) in
    subst (IsPiece input) (same_Some _ _ rest.2) (record {
      whole = whole ∙ around name.0 (decimal (length text)) text rest.0;
      named = ap is_name (sym is.1) ∙ is.0;
      short = omega (arith, size, counted.1);
    })

-- what follows a section is shorter than the whole
pub section_shorter : (input : List ℕ) (piece : Piece) → section_in input ≡ Some piece → length piece.rest < length input
section_shorter input piece e =
    let is = section_spelled input piece e in
    omega (arith, ap length is.whole, length-append (section_text piece.name piece.text) piece.rest, some_text piece.name piece.text)

-- a name, a text and a tree that make a script
pub record Makes (name text : List ℕ) (s : Named) : Type 0 where
  pub name_is : s.name ≡ name
  pub text_is : s.text ≡ text
  pub data_of : List Val
  pub spelled : Spells text data_of
  pub means : expanded data_of ≡ Ok s.script

forms_made : (name text : List ℕ) (vs : List Val) (r : Result Script (SyntaxKind × ℕ)) (s : Named) → Spells text vs → expanded vs ≡ r
    → by_forms name text r ≡ Ok s → Makes name text s
forms_made name text vs (Ok c) s spelled e h =
    let same : record { name = name; text = text; script = c } ≡ s = cc in
    subst (Makes name text) same (record { name_is = refl; text_is = refl; data_of = vs; spelled = spelled; means = e })
forms_made name text vs (Err x) s spelled e h = absurd (let no : ⊥ = cc in no)

pub data_made : (name text : List ℕ) (r : Result (List Val) (ℕ × ReadKind)) (s : Named) → read text ≡ r → by_data name text r ≡ Ok s → Makes name text s
data_made name text (Ok vs) s e h = forms_made name text vs (expanded vs) s (read_spells text vs e) refl h
data_made name text (Err x) s e h = absurd (let no : ⊥ = cc in no)

-- what a section that is read brings
pub record Brings (scripts : List Named) (rest : List ℕ) (found : Named × List ℕ) : Type 0 where
  pub whole : rest ≡ section_text found.0.name found.0.text ++ found.1
  pub script : IsScript found.0
  pub new : place_named found.0.name scripts ≡ None
  pub few : length scripts < 15

next_made : (place : ℕ) (scripts : List Named) (twin : Option ℕ) (piece : Piece) (s : Named) → named_next place scripts twin piece ≡ Ok s
    → (twin ≡ None) × ((length scripts < 15) × Makes piece.name piece.text s)
next_made place scripts (Some twin) piece s h = absurd (let no : ⊥ = cc in no)
next_made place scripts None piece s h = (refl, by_test (nat_le 15 (length scripts)) refl h)
  where
    by_test : (t : Bool) → nat_le 15 (length scripts) ≡ t
        → (if t then Err (at_section place Many) else script_in piece.name piece.text) ≡ Ok s
        → (length scripts < 15) × Makes piece.name piece.text s
    by_test true e k = absurd (let no : ⊥ = cc in no)
    by_test false e k = (grind (arith, nat_tests), data_made piece.name piece.text (read piece.text) s refl k)

rest_made : (rest : List ℕ) (r : Result Named Fault) (found : Named × List ℕ) → with_rest rest r ≡ Ok found → (r ≡ Ok found.0) × (found.1 ≡ rest)
rest_made rest (Ok s) found h = (cc, cc)
rest_made rest (Err e) found h = absurd (let no : ⊥ = cc in no)

pub section_made : (place : ℕ) (scripts : List Named) (rest : List ℕ) (o : Option Piece) (found : Named × List ℕ) → section_in rest ≡ o
    → script_at place scripts o ≡ Ok found → Brings scripts rest found
section_made place scripts rest None found e h = absurd (let no : ⊥ = cc in no)
section_made place scripts rest (Some piece) found e h =
    let is = section_spelled rest piece e in
    let later = rest_made piece.rest (named_next place scripts (place_named piece.name scripts) piece) found h in
    let made = next_made place scripts (place_named piece.name scripts) piece found.0 later.0 in
    let makes = made.1.1 in
    record {
      whole = is.whole ∙ ap (λ n. section_text n piece.text ++ piece.rest) (sym makes.name_is)
          ∙ ap (λ t. section_text found.0.name t ++ piece.rest) (sym makes.text_is) ∙ ap (λ r. section_text found.0.name found.0.text ++ r) (sym later.1);
      script = record {
        named = ap is_name makes.name_is ∙ is.named;
        data_of = makes.data_of;
        spelled = subst (λ t. Spells t makes.data_of) (sym makes.text_is) makes.spelled;
        means = makes.means;
      };
      new = ap (λ n. place_named n scripts) makes.name_is ∙ made.0;
      few = made.1.0;
    }

-- what ends a setup is spelled so, and what is spelled so ends it
pub end_spelled : (ending : Ending) (rest steps : List ℕ) → ending_at ending rest ≡ Some steps → IsEnd ending rest steps
end_spelled Steps rest steps e = behind_spelled (codes "steps\n") rest steps e
end_spelled Input [] steps e = (refl, sym (same_Some _ _ e))
end_spelled Input (b ∷ bs) steps e = absurd (let no : ⊥ = cc in no)

pub end_found : (ending : Ending) (rest steps : List ℕ) → IsEnd ending rest steps → ending_at ending rest ≡ Some steps
end_found Steps rest steps e = rw e refl
end_found Input rest steps e = rw (e.0, e.1) refl

-- scripts that follow, and spell what is left
record Follows (ending : Ending) (scripts : List Named) (rest : List ℕ) (p : Parsed) : Type 0 where
  pub more : List Named
  pub are : p.scripts ≡ scripts ++ more
  pub last : List ℕ
  pub whole : rest ≡ setup_text more last
  pub end : IsEnd ending last p.steps
  pub good : AreScripts scripts more
  pub some : 1 ≤ length p.scripts
  pub few : length p.scripts ≤ 15

follows_end : (ending : Ending) (place : ℕ) (scripts : List Named) (rest steps : List ℕ) (p : Parsed) → length scripts ≤ 15
    → ending_at ending rest ≡ Some steps → ended place scripts steps ≡ Ok p → Follows ending scripts rest p
follows_end ending place [] rest steps p few e h = absurd (let no : ⊥ = cc in no)
follows_end ending place (s ∷ ss) rest steps p few e h =
    let same : record { scripts = s ∷ ss; steps = steps } ≡ p = cc in
    subst (Follows ending (s ∷ ss) rest) same (record {
      more = [];
      are = sym (append-nil (s ∷ ss));
      last = rest;
      whole = refl;
      end = end_spelled ending rest steps e;
      good = tt;
      some = omega arith;
      few = few;
    })

follows_last : (ending : Ending) (total : ℕ) (scripts : List Named) (p : Parsed) (o : Option (List ℕ)) → length scripts ≤ 15 → ending_at ending [] ≡ o
    → unless_ended o (ended total scripts) (Err (at_section total End)) ≡ Ok p → Follows ending scripts [] p
follows_last ending total scripts p None few e h = absurd (let no : ⊥ = cc in no)
follows_last ending total scripts p (Some steps) few e h = follows_end ending total scripts [] steps p few e h

follows : (n : ℕ) (ending : Ending) (total : ℕ) (scripts : List Named) (rest : List ℕ) (p : Parsed) → length scripts ≤ 15
    → setup_from n ending total scripts rest ≡ Ok p → Follows ending scripts rest p
follows zero ending total scripts rest p few h = absurd (let no : ⊥ = cc in no)
follows (suc n) ending total scripts [] p few h = follows_last ending total scripts p (ending_at ending []) few refl h
follows (suc n) ending total scripts (b ∷ bs) p few h =
    by_line (ending_at ending (b ∷ bs)) refl h
    (λ found size k. follows n ending total (scripts ++ found.0 ∷ []) found.1 p size k)
  where
    rest : List ℕ
    rest = b ∷ bs

    place : ℕ
    place = total - length rest

    go : Named × List ℕ → Result Parsed Fault
    go found = setup_from n ending total (scripts ++ found.0 ∷ []) found.1

    by_found : (r : Result (Named × List ℕ) Fault) → script_at place scripts (section_in rest) ≡ r → after r go ≡ Ok p
        → ((found : Named × List ℕ) → length (scripts ++ found.0 ∷ []) ≤ 15 → go found ≡ Ok p → Follows ending (scripts ++ found.0 ∷ []) found.1 p)
        → Follows ending scripts rest p
    by_found (Err e) same k later_of = absurd (let no : ⊥ = cc in no)
    by_found (Ok found) same k later_of =
        let brings = section_made place scripts rest (section_in rest) found refl same in
        let size : length (scripts ++ found.0 ∷ []) ≤ 15 = omega (arith, brings.few, length-append scripts (found.0 ∷ [])) in
        let later = later_of found size k in
        record {
          more = found.0 ∷ later.more;
          are = later.are ∙ append_assoc scripts (found.0 ∷ []) later.more;
          last = later.last;
          whole = brings.whole ∙ ap (λ r. section_text found.0.name found.0.text ++ r) later.whole;
          end = later.end;
          good = (brings.script, (brings.new, later.good));
          some = later.some;
          few = later.few;
        }

    by_line : (o : Option (List ℕ)) → ending_at ending rest ≡ o
        → unless_ended o (ended place scripts) (after (script_at place scripts (section_in rest)) go) ≡ Ok p
        → ((found : Named × List ℕ) → length (scripts ++ found.0 ∷ []) ≤ 15 → go found ≡ Ok p → Follows ending (scripts ++ found.0 ∷ []) found.1 p)
        → Follows ending scripts rest p
    by_line (Some steps) e k later_of = follows_end ending place scripts rest steps p few e k
    by_line None e k later_of = by_found (script_at place scripts (section_in rest)) refl k later_of

pub setup_spelled : (ending : Ending) (input : List ℕ) (p : Parsed) → setup_of ending input ≡ Ok p → IsSetup ending input p
unfolding setup_of
setup_spelled ending input p e =
    let f = follows 16 ending (length input) [] input p (omega arith) e in
    record {
      some = f.some;
      few = f.few;
      scripts = subst (AreScripts []) (sym f.are) f.good;
      rest = f.last;
      spelled = f.whole ∙ ap (λ ss. setup_text ss f.last) (sym f.are);
      end = f.end;
    }

-- what is spelled so is read

pub section_found : (name text rest : List ℕ) → is_name name ≡ true → length text < 16777217
    → section_in (section_text name text ++ rest) ≡ Some (record { name = name; text = text; rest = rest })
unfolding section_in
section_found name text rest named short =
    let size = length text in
    let line = text ++ (10 ∷ rest) in
    let spaceless = lacking is_name_byte 32 refl name (and_parts _ (list_all is_name_byte name) named).1 in
    let lineless = lacking is_ascii_digit 10 refl (decimal size) (decimal_digits size (omega arith)) in
    let cut_name = cut_found 32 name (decimal size ++ 10 ∷ line) spaceless in
    let cut_line = cut_found 10 (decimal size) line lineless in
    let count = number_found 16777217 size (omega arith) short in
    let within : nat_le size (length line) ≡ true = let l = length-append text (10 ∷ rest) in grind (arith, nat_tests) in
    let front = take-append_seam text (10 ∷ rest) in
    let back = drop-append_seam text (10 ∷ rest) in
    rw (sym (around name (decimal size) text rest)) (rw (cut_name, cut_line, count, named, within, front, back) refl)

pub script_found : (s : Named) (place : ℕ) (scripts : List Named) (rest : List ℕ) → IsScript s → place_named s.name scripts ≡ None → length scripts < 15
    → script_at place scripts (section_in (section_text s.name s.text ++ rest)) ≡ Ok (s, rest)
script_found s place scripts rest is new few =
    let found = section_found s.name s.text rest is.named (omega (arith, is.spelled.short)) in
    let test : nat_le 15 (length scripts) ≡ false = grind (arith, nat_tests) in
    rw (found, new, test, spells_read s.text is.data_of is.spelled, is.means) refl

-- a section is no end of a setup
pub no_end : (ending : Ending) (name text later : List ℕ) (n total : ℕ) (scripts : List Named)
    → setup_from (suc n) ending total scripts (section_text name text ++ later)
    ≡ after (script_at (total - length (section_text name text ++ later)) scripts (section_in (section_text name text ++ later)))
    (λ found. setup_from n ending total (scripts ++ found.0 ∷ []) found.1)
no_end Steps name text later n total scripts = refl
no_end Input name text later n total scripts = refl

found_end : (n : ℕ) (ending : Ending) (total : ℕ) (scripts : List Named) (rest steps : List ℕ) → 1 ≤ length scripts → IsEnd ending rest steps
    → setup_from (suc n) ending total scripts rest ≡ Ok (record { scripts = scripts; steps = steps })
found_end n ending total [] rest steps some end = absurd (omega arith)
found_end n ending total (s ∷ ss) [] steps some end = rw (end_found ending [] steps end) refl
found_end n ending total (s ∷ ss) (b ∷ bs) steps some end = rw (end_found ending (b ∷ bs) steps end) refl

found_from : (n : ℕ) (ending : Ending) (total : ℕ) (scripts more : List Named) (rest steps : List ℕ) → IsEnd ending rest steps → length more < n
    → 1 ≤ length scripts + length more → length scripts + length more ≤ 15 → AreScripts scripts more
    → setup_from n ending total scripts (setup_text more rest) ≡ Ok (record { scripts = scripts ++ more; steps = steps })
found_from zero ending total scripts more rest steps end enough some few are = absurd (omega arith)
found_from (suc n) ending total scripts [] rest steps end enough some few are =
    found_end n ending total scripts rest steps (omega arith) end ∙ ap (λ ss. Ok (record { scripts = ss; steps = steps })) (sym (append-nil scripts))
found_from (suc n) ending total scripts (s ∷ more) rest steps end enough some few are =
    let later = setup_text more rest in
    let whole = section_text s.name s.text ++ later in
    let found = script_found s (total - length whole) scripts later are.0 are.1.0 (omega arith) in
    let size = length-append scripts (s ∷ []) in
    let goes = found_from n ending total (scripts ++ s ∷ []) more rest steps end (omega arith) (omega (arith, size)) (omega (arith, size)) are.1.1 in
    no_end ending s.name s.text later n total scripts
    ∙ rw found (goes ∙ ap (λ ss. Ok (record { scripts = ss; steps = steps })) (append_assoc scripts (s ∷ []) more))

pub setup_found : (ending : Ending) (input : List ℕ) (p : Parsed) → IsSetup ending input p → setup_of ending input ≡ Ok p
unfolding setup_of
setup_found ending input p is =
    let found = found_from 16 ending (length input) [] p.scripts is.rest p.steps is.end (omega (arith, is.few)) (omega (arith, is.some)) (omega (arith, is.few)) is.scripts in
    ap (setup_from 16 ending (length input) []) is.spelled ∙ found

-- the answers of the code

pub answer_spells : {X : Type 0} (view : X → Parsed) (ending : Ending) (input : List ℕ) (r : Result X SetupFault) → Gives view r (setup_of ending input)
    → IfOk r (λ x. IsSetup ending input (view x))
answer_spells view ending input (Ok x) h = setup_spelled ending input (view x) h
answer_spells view ending input (Err e) h = tt

pub answer_found : {X : Type 0} (view : X → Parsed) (ending : Ending) (input : List ℕ) (r : Result X SetupFault) → Gives view r (setup_of ending input)
    → (wanted : Parsed) → IsSetup ending input wanted → Gives view r (Ok wanted)
answer_found view ending input (Ok x) h wanted is = sym (setup_found ending input wanted is) ∙ h
answer_found view ending input (Err Memory) h wanted is = tt
answer_found view ending input (Err (At e)) h wanted is = sym (setup_found ending input wanted is) ∙ h
