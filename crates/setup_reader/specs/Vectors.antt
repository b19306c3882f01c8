-- Small inputs and what is told of them.
use Rattle.std.specs.Prelude.{◌≡◌, Err, [], refl, codes}
use Rattle.std.specs.Str.{is_utf8, chars}
use Rattle.std.specs.Str.Lossy.{utf8_valid_len}
use Rattle.std.proofs.Math.Utf8.{encode}
use Rattle.sexp_reader.specs.declared.fault.ReadKind.TheVariants.{Unclosed}
use Rattle.setup_reader.specs.declared.setup.Ending.TheVariants.{Steps, Input}
use Rattle.setup_reader.specs.declared.fault.SetupKind.TheVariants.{Section, Empty, End}
use Rattle.setup_reader.specs.Setup.{at_section, at_text, section_in, setup_of}

-- where the line `steps` is due, the end of the input is told before that there is no script
pub nothing_before_steps : setup_of Steps [] ≡ Err (at_section 0 End)
unfolding setup_of
nothing_before_steps = refl

-- an input without a byte has no script
pub nothing : setup_of Input [] ≡ Err (at_section 0 Empty)
unfolding setup_of
nothing = refl

-- a setup of the line `steps` alone has no script
pub steps_alone : setup_of Steps (codes "steps\n") ≡ Err (at_section 0 Empty)
unfolding setup_of
steps_alone = refl

-- where the input's end ends a setup, the line `steps` is no section
pub steps_elsewhere : setup_of Input (codes "steps\n") ≡ Err (at_section 0 Section)
unfolding setup_of section_in
steps_elsewhere = refl

-- a section whose text is shorter than its line says is damaged at that section
pub cut_short : setup_of Input (codes "script a 3\nxy\n") ≡ Err (at_section 0 Section)
unfolding setup_of section_in
cut_short = refl

-- the length of a text has no leading zero
pub leading_zero : setup_of Input (codes "script a 01\nx\n") ≡ Err (at_section 0 Section)
unfolding setup_of section_in
leading_zero = refl

-- a fault of a text has its place in the text
pub open_text : setup_of Steps (codes "script a 4\n(p \"\n") ≡ Err (at_text (codes "a") 3 Unclosed)
unfolding setup_of section_in is_utf8 chars encode utf8_valid_len
open_text = refl
