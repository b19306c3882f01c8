use Rattle.std.proofs.Common.{refl}
use Rattle.wire_bytes.proofs.ReadBack.{u32_read_back, u64_read_back, string_read_back}
use Rattle.wire_bytes.proofs.spellings_are_read_back.Goals as goal

pub returns : goal.returns
returns c = record {
  byte = λ byte rest. refl;
  short = u32_read_back;
  long = u64_read_back;
  string = string_read_back;
}
