-- A setup that is read can be told, and an empty journal has room for it.
use Rattle.std.proofs.Common.{◌≡◌, ◌∙◌, ap, sym, subst, refl, inl, inr, ℕ, ◌+◌, ◌*◌, ◌^◌, ◌<◌, ◌≤◌, suc, false, List, [], ◌∷◌, length, drop, length-append, Err, arith}
use Rattle.std.specs.Prelude.{flat_map}
use Rattle.std.specs.List.{AllByRecursion}
use Rattle.std.proofs.lemmas.List.{length-map}
use Rattle.std.proofs.lemmas.Option.{same_Some}
use Rattle.script_nodes.specs.Setup.{Named, text_of, texts_of}
use Rattle.setup_reader.specs.Limits.{AreShort}
use Rattle.setup_reader.specs.Texts.{IsReadSetup, setup_of_texts}
use Rattle.setup_reader.proofs.Edited.{read_short, sound}
use Rattle.shelf.specs.JournalRecords.Fields.{ScriptFits, script_bytes}
use Rattle.shelf.specs.JournalRecords.Records.{IsInGrammar, begin_of}
use Rattle.shelf.specs.JournalSpec.Before.{Made}
use Rattle.shelf.specs.JournalSpec.Making.{nothing, damaged, other, began}
use Rattle.shelf.specs.JournalSpec.Bytes.{book_in_bytes}
use Rattle.shelf.specs.JournalSpec.Opening.{first_body}
use Rattle.shelf.specs.Faults.{IsTooLong}
use Rattle.shelf.specs.Opening.{IsFaultOf, IsTooLongIn}
use Rattle.shelf.specs.declared.begin.BeginFault.{BeginFault}
use Rattle.shelf.specs.declared.begin.BeginFault.TheVariants as begin
use Rattle.shelf.specs.declared.rules.Rules.{Rules}
use Rattle.web_disk.specs.View.{View}
use Rattle.play_desk.specs.Opening.{BeginsEmpty, reopen_of}
use Rattle.play_desk.proofs.Now.{never_anew}

pub texts_fit : (scripts : List Named) → AreShort scripts → AllByRecursion ScriptFits (texts_of scripts)
texts_fit [] short = tt
texts_fit (s ∷ scripts) short = ((omega (arith, short.0), omega (arith, short.1)), texts_fit scripts short.2)

-- the first record of its journal can be written
pub begins : (number : ℕ) (scripts : List Named) → number < 2 ^ 32 → IsReadSetup scripts → IsInGrammar (begin_of number scripts)
begins number scripts low read =
    let few = (sound scripts read).few in
    let size : length (texts_of scripts) ≡ length scripts = length-map scripts text_of in
    (low, (omega (arith, few, size), texts_fit scripts (read_short scripts read)))

-- the bytes of a text, after those of its length
abbrev counted_bytes : List ℕ → List ℕ
counted_bytes text = drop 4 (script_bytes ([], text))

texts_size : (scripts : List Named) → AreShort scripts → length (flat_map script_bytes (texts_of scripts)) ≤ length scripts * 65576
texts_size [] short = omega arith
texts_size (s ∷ scripts) short =
    let rest = texts_size scripts short.2 in
    let whole : length (flat_map script_bytes (texts_of (s ∷ scripts))) ≡ length (script_bytes (text_of s)) + length (flat_map script_bytes (texts_of scripts)) =
    length-append (script_bytes (text_of s)) (flat_map script_bytes (texts_of scripts)) in
    let size : length (script_bytes (text_of s)) ≡ suc (suc (suc (suc (length s.name + suc (suc (suc (suc (length s.text)))))))) =
    ap (λ n. suc (suc (suc (suc n)))) (length-append s.name (counted_bytes s.text)) in
    omega (arith, rest, whole, size, short.0, short.1)

first_size : (number : ℕ) (scripts : List Named) → IsReadSetup scripts → length (first_body scripts number) ≤ 1000000
first_size number scripts read =
    let few = (sound scripts read).few in
    let size = texts_size scripts (read_short scripts read) in
    let whole : length (first_body scripts number) ≡ suc (suc (suc (suc (suc (suc (suc (suc (suc (length (flat_map script_bytes (texts_of scripts))))))))))) = refl in
    omega (arith, whole, size, few)

-- it has room where there was none before
pub has_room : (number : ℕ) (scripts : List Named) (len : ℕ) → IsReadSetup scripts → IsTooLong scripts number nothing len → ⊥
has_room number scripts len read long =
    let n = length (first_body scripts number) in
    let size = first_size number scripts read in
    let is : 14 + n ≡ long.made.book.length = ap (λ (m : Made). m.book.length) (same_Some (began false number 8 n scripts) long.made long.opened) in
    omega (arith, size, is, long.is, long.long)

-- nor is it too long by itself
never_full : (number : ℕ) (scripts : List Named) (len : ℕ) → IsReadSetup scripts → IsTooLongIn scripts number [] len → ⊥
never_full number scripts len read (inl long) = never_anew number len [] (λ some. absurd (some refl)) long
never_full number scripts len read (inr long) = has_room number scripts len read long.setup

-- on a disk without bytes an empty shelf is begun, unless the outside fails
pub begins_empty : {D : Type 0} (view : D → View) (scripts : List Named) (rules : Rules) (v : View) (e : BeginFault) → v.seen ≡ [] → IsReadSetup scripts
    → IsFaultOf scripts rules.number v e → BeginsEmpty view scripts rules (Err (reopen_of e))
begins_empty view scripts rules v (begin.Damaged place) none read is =
    absurd (let no : nothing ≡ damaged place = sym (ap (book_in_bytes setup_of_texts rules.number) none) ∙ is in let never : ⊥ = cc in never)
begins_empty view scripts rules v (begin.Other place) none read is =
    absurd (let no : nothing ≡ other place = sym (ap (book_in_bytes setup_of_texts rules.number) none) ∙ is in let never : ⊥ = cc in never)
begins_empty view scripts rules v (begin.Full len) none read is =
    never_full rules.number scripts len read (subst (λ (bytes : List ℕ). IsTooLongIn scripts rules.number bytes len) none is)
begins_empty view scripts rules v begin.DiskFault none read is = tt
begins_empty view scripts rules v begin.Memory none read is = tt
