-- Before each turn the digits that remain, put, give all.
use Rattle.std.specs.Prelude.{◌≡◌, length}
use Rattle.printout.specs.Characters.{digits}
use Rattle.printout.specs.inner.Room.{put}
use Rattle.printout.proofs.put.Writer.put_digits.Given as goal

abbrev pub invariant-loop-i : goal.invariant-loop-i
invariant-loop-i l = record {
  same : l.self.out.ghost_name ≡ l.initial.self.out.ghost_name;
  stays : l.self.written ≡ l.initial.self.written;
  length : length l.self.out.now ≡ length l.initial.self.out.now;
  content :
      put l.self.out.now l.initial.self.written (digits l.base l.i l.rest)
      ≡ put l.initial.self.out.now l.initial.self.written (digits l.base l.count l.number);
}
