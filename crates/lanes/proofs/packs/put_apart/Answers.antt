-- Of what stands in turn, the even lanes go to the low half, and the odd lanes to the high half.
use Rattle.basis.proofs.Names.{arith}
use Rattle.lanes.proofs.Packing.{put_bytes_apart, put_words_apart}
use Rattle.lanes.proofs.packs.put_apart.Goals as goal

pub returns-in-BYTE : goal.returns-in-BYTE
returns-in-BYTE c clamped a b e = put_bytes_apart clamped a b c.args.w.bits _ c.args.x _ (omega arith) c.exchange-in-BYTE.ensures c.exchange.ensures e

pub returns-in_default : goal.returns-in_default
returns-in_default c clamped a b e = put_words_apart clamped a b c.args.w.bits c.args.x _ (omega arith) c.exchange-in_default.ensures e
