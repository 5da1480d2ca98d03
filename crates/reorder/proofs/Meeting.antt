-- Meeting is symmetric, since sharing a place is said both ways round.
use Rattle.basis.proofs.Names.{inl, inr}
use Rattle.reorder.specs.Result.{Result, done, refused}
use Rattle.reorder.specs.Footprint.{Footprint, Meets}

pub meets_symmetric : {P K : Type 0} (KindsMeet : K → K → Type 0) → ((a b : K) → KindsMeet a b → KindsMeet b a)
    → (f g : Result (Footprint P K)) → Meets KindsMeet f g → Meets KindsMeet g f
meets_symmetric KindsMeet turn (done f) (refused _) h = elim h [ ]
meets_symmetric KindsMeet turn (refused _) g h = elim h [ ]
meets_symmetric KindsMeet turn (done f) (done g) (inl k) = inl (turn f.kind g.kind k)
meets_symmetric KindsMeet turn (done f) (done g) (inr (inl d)) = inr (inr d)
meets_symmetric KindsMeet turn (done f) (done g) (inr (inr d)) = inr (inl d)
