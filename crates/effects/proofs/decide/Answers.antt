use Rattle.effects.proofs.Bytes.{channel_fits}
use Rattle.effects.proofs.decide.Goals as goal

pub decide_read-requires : goal.decide_read-requires
decide_read-requires c = rw c.read_frame-read.ensures (channel_fits _ _)
