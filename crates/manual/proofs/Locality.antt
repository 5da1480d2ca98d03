-- Reading the rest of a code is local, as the codec's reading is: it takes at least one byte and none past the end, and depends on its
-- own bytes alone.
use Rattle.std.specs.Prelude.{◌≡◌, List, ℕ}
use Rattle.basis.proofs.Names.{false≢true, ap}
use Rattle.reorder.specs.Result.{done}
use Rattle.reorder.specs.Run.{Fetched}
use Rattle.reorder.proofs.Cutting.{LocalReader}
use Rattle.codec.specs.Reads.{read_part}
use Rattle.codec.specs.declared.Instruction.{Instruction}
use Rattle.codec.specs.Answers.{Decoded}
use Rattle.codec.specs.Answers as decoded
use Rattle.codec.proofs.Theorems.{Local, reading_is_local}
use Rattle.manual.specs.Steps.{result_of}
use Rattle.manual.specs.Runs.{read}

pub found_of : (x : Decoded) (r : Fetched Instruction) → result_of x ≡ done r → x ≡ decoded.good r.instruction r.size
found_of (decoded.good i n) r e = cc
found_of (decoded.refused n) r e = absurd (false≢true (cc))

pub local : (bytes : List ℕ) (r : Fetched Instruction) → read bytes ≡ done r → Local bytes r.instruction r.size
unfolding read
local bytes r e = reading_is_local bytes r.instruction r.size (found_of (read_part bytes) r e)

pub local_reader : LocalReader read
unfolding read
local_reader =
    record {
      some_bytes = λ bytes r e. ((local bytes r e).some, (local bytes r e).within);
      own_bytes = λ bytes tail r e. ap result_of ((local bytes r e).again tail);
    }
