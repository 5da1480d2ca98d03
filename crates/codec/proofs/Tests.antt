-- What tests give: each test of the code from the fact that was found out.
use Rattle.basis.proofs.Names.{and-true, or-false, lt-ltb, le-ltb, le-leb, lt-leb, eq-eqb, ne_eqb}

pub ruleset tests = (eq-eqb, ne_eqb, lt-ltb, le-ltb, le-leb, lt-leb, and-true, or-false)
