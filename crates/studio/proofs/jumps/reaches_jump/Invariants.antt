-- `reaches_jump` meets its contract: reading from each position that the loop comes to reaches a jump just where reading from 0 does.
use Rattle.std.specs.Prelude.{◌≡◌, ◌-◌, length, drop}
use Rattle.reorder.specs.Block.{reaches}
use Rattle.manual.specs.Jumps.{is_jump}
use Rattle.manual.specs.Runs.{read}
use Rattle.studio.proofs.jumps.reaches_jump.Given as goal

abbrev pub invariant-loop-found : goal.invariant-loop-found
invariant-loop-found l = reaches read is_jump (drop l.at l.code) ≡ reaches read is_jump l.code

abbrev pub decreases-loop-found : goal.decreases-loop-found
decreases-loop-found l = length l.code - l.at
