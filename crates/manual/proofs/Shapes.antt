-- The shapes of effects that the instructions have whose first byte is 0F.
use Rattle.std.specs.Prelude.{[], ◌∷◌, ℕ, get_or}
use Rattle.reorder.specs.Result.{Result, done, map_result}
use Rattle.codec.specs.declared.Kind.{Kind}
use Rattle.codec.specs.declared.Kind.TheVariants.{Ordinary}
use Rattle.manual.specs.Locations.{Location}
use Rattle.manual.specs.Effects.{Effect}

-- the destination becomes a number made from the destination and the source
abbrev pub both : (ℕ → ℕ → ℕ) → Location → Location → Effect
both f destination source =
    record {
      takes = destination ∷ source ∷ [];
      gives = destination ∷ [];
      value = λ values. done (f (get_or values 0 0) (get_or values 1 0) ∷ []);
      kind = Ordinary;
    }

-- the destination becomes a number made from the source alone
abbrev pub move : (ℕ → ℕ) → Location → Location → Effect
move f destination source =
    record {
      takes = source ∷ [];
      gives = destination ∷ [];
      value = λ values. done (f (get_or values 0 0) ∷ []);
      kind = Ordinary;
    }

-- the same two, where there may be no such number
abbrev pub both_or : (ℕ → ℕ → Result ℕ) → Location → Location → Effect
both_or f destination source =
    record {
      takes = destination ∷ source ∷ [];
      gives = destination ∷ [];
      value = λ values. map_result (λ x. x ∷ []) (f (get_or values 0 0) (get_or values 1 0));
      kind = Ordinary;
    }

abbrev pub move_or : (ℕ → Result ℕ) → Location → Location → Effect
move_or f destination source =
    record {
      takes = source ∷ [];
      gives = destination ∷ [];
      value = λ values. map_result (λ x. x ∷ []) (f (get_or values 0 0));
      kind = Ordinary;
    }

-- the destination becomes a number made from the destination, the source and a third operand
abbrev pub three : (ℕ → ℕ → ℕ → ℕ) → Location → Location → Location → Effect
three f destination source third =
    record {
      takes = destination ∷ source ∷ third ∷ [];
      gives = destination ∷ [];
      value = λ values. done (f (get_or values 0 0) (get_or values 1 0) (get_or values 2 0) ∷ []);
      kind = Ordinary;
    }

-- no operand
abbrev pub bare : Kind → Effect
bare kind = record { takes = []; gives = []; value = λ values. done []; kind = kind }
