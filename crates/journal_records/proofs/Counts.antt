-- Lists whose count no fewer bytes stand after are none.
use Rattle.std.proofs.Common.{◌≡◌, ℕ, List, length, None, refl, arith}
use Rattle.std.proofs.lemmas.List.{length-append}
use Rattle.instance_cells.specs.Cells.{read, set, add}
use Rattle.wire_bytes.specs.Spelling.{u32_bytes, u64_bytes, byte_string}
use Rattle.wire_bytes.specs.Reading.{AreBytes, read_count}
use Rattle.value_bytes.specs.Reading.{read_list}
use Rattle.value_bytes.proofs.Counts.{HasByte, no_list}
use Rattle.journal_records.specs.Fields.{name_bytes, NameFits, effect_bytes, EffectFits}
use Rattle.journal_records.specs.Reading.{read_effects, read_names, read_number, read_script}
use Rattle.journal_records.proofs.Codec.{both}
use Rattle.journal_records.proofs.Exact.{name_codec, number_codec, effect_codec, string_codec}

effect_has_byte : HasByte effect_bytes EffectFits
effect_has_byte (read c v) fit = omega arith
effect_has_byte (set c v) fit = omega arith
effect_has_byte (add c n) fit = omega arith

name_has_byte : HasByte name_bytes NameFits
unfolding name_bytes
name_has_byte t fit =
    let long : length (u64_bytes t.ticket) ≡ 8 = refl in
    omega (arith, long, length-append (u64_bytes t.ticket) (u32_bytes t.entry))

number_has_byte : HasByte number_codec.spelled number_codec.fits
number_has_byte n fit =
    let long : length (u64_bytes n) ≡ 8 = refl in
    omega (arith, long)

script_has_byte : HasByte (both string_codec string_codec).spelled (both string_codec string_codec).fits
script_has_byte s fit =
    let long : length (u32_bytes (length s.0)) ≡ 4 = refl in
    omega (arith, long, length-append (u32_bytes (length s.0)) s.0, length-append (byte_string s.0) (byte_string s.1))

pub no_effects : (bytes : List ℕ) → AreBytes bytes → read_count bytes ≡ None → read_effects bytes ≡ None
no_effects = no_list effect_codec.spelled effect_codec.fits effect_codec.read effect_codec.law effect_has_byte

pub no_names : (bytes : List ℕ) → AreBytes bytes → read_count bytes ≡ None → read_names bytes ≡ None
no_names = no_list name_codec.spelled name_codec.fits name_codec.read name_codec.law name_has_byte

pub no_pages : (bytes : List ℕ) → AreBytes bytes → read_count bytes ≡ None → read_list read_number bytes ≡ None
no_pages = no_list number_codec.spelled number_codec.fits number_codec.read number_codec.law number_has_byte

pub no_scripts : (bytes : List ℕ) → AreBytes bytes → read_count bytes ≡ None → read_list read_script bytes ≡ None
no_scripts = no_list (both string_codec string_codec).spelled (both string_codec string_codec).fits (both string_codec string_codec).read (both string_codec string_codec).law script_has_byte
