use Rattle.std.proofs.Common.{◌≡◌, ◌++◌, take}
use Rattle.std.specs.List.{flat_map}
use Rattle.page_spec.specs.Markup.{text_byte}
use Rattle.xexpr_page.proofs.escape.push_text.Given as goal

abbrev pub invariant-loop-byte : goal.invariant-loop-byte
invariant-loop-byte l = l.page.items ≡ l.fn.page.items ++ flat_map text_byte (take l.byte-index l.byte-items)
