use Rattle.frame_codec.proofs.Parts.{whole_again}
use Rattle.frame_codec.proofs.parted.Parted.into_bytes.Goals as goal

pub returns : goal.returns
returns c = whole_again c.args.self.bytes c.args.self.frames_at c.args.self.shadows_at
