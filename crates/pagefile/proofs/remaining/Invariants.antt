-- What remains before a turn is what the tags read so far leave.
use Rattle.std.specs.Prelude.{◌≡◌}
use Rattle.pagefile.specs.Parsing.{remaining}
use Rattle.pagefile.proofs.remaining.Given as goal

abbrev pub invariant-loop-before : goal.invariant-loop-before
invariant-loop-before l = l.rest ≡ remaining l.before l.file
