-- `rounded`: the cast keeps the number.
use Rattle.singles.proofs.Rounding.{rounding}
use Rattle.singles.proofs.words.rounded.Goals as goal

pub overflow_cast-truncating_f32_to_i64 : goal.overflow_cast-truncating_f32_to_i64
overflow_cast-truncating_f32_to_i64 c = search rounding
