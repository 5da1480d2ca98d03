-- A value, provided that something else is not refused.
use Rattle.std.specs.Prelude.{◌≡◌, refl}
use Rattle.reorder.specs.Result.{Result, done, refused, map_result, provided}

pub provided_done : {A B : Type 0} (o : Result A) (b : B) → provided o (done b) ≡ o
provided_done (done a) b = refl
provided_done (refused n) b = refl

pub provided-map : {A B C : Type 0} (f : A → C) (o : Result A) (other : Result B) → map_result f (provided o other) ≡ provided (map_result f o) other
provided-map f (done a) (done b) = refl
provided-map f (done a) (refused n) = refl
provided-map f (refused n) other = refl
