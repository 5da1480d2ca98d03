-- What `operate` leaves by number: an operation's number is its place in the list of operations, and past the list the destination is kept.
use Rattle.std.specs.Prelude.{◌≡◌, refl, ℕ, suc, ◌≤◌, List, [], ◌∷◌, map, length}
use Rattle.basis.proofs.Names.{sym, ap, get_or-eq_default}
use Rattle.lanes.specs.Operations.{Operation, KEEP, described, operate, operations, operation_of}

abbrev places : ℕ → List Operation → List ℕ
places k [] = []
places k (o ∷ os) = k ∷ places (suc k) os

pub numbers_are_places : map (λ o. (described o).number) operations ≡ places 0 operations
numbers_are_places = refl

pub unnamed : (n destination source : ℕ) → length operations ≤ n → destination ≡ operate (operation_of n) destination source
unfolding operate
unnamed n d s h = sym (ap (λ (o : Operation). operate o d s) (get_or-eq_default operations KEEP h))
