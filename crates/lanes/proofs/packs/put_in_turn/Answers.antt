-- In every four bytes, or words, of the unpack at twice the width, the middle two change places.
use Rattle.basis.proofs.Names.{arith}
use Rattle.lanes.proofs.Unpacking.{high_bytes, high_words, low_bytes, low_words}
use Rattle.lanes.proofs.packs.put_in_turn.Goals as goal

pub returns-in-BYTE : goal.returns-in-BYTE
returns-in-BYTE c = record {
  low = λ a b e. low_bytes c.args.w.bits a b c.args.x _ _ (omega arith) c.exchange-in-BYTE.ensures c.exchange.ensures e;
  high = λ a b e. high_bytes c.args.w.bits a b c.args.x _ _ (omega arith) c.exchange-in-BYTE.ensures c.exchange.ensures e;
}

pub returns-in-WORD : goal.returns-in-WORD
returns-in-WORD c = record {
  low = λ a b e. low_words c.args.w.bits a b c.args.x _ (omega arith) c.exchange-in-WORD.ensures e;
  high = λ a b e. high_words c.args.w.bits a b c.args.x _ (omega arith) c.exchange-in-WORD.ensures e;
}
