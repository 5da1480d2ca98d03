-- The machine obeys the laws of places, since its places are entries of lists and the zero mark; and its plans go by the address registers alone.
use Rattle.std.specs.Prelude.{◌≡◌, refl, Bool, true, false, cond, List, [], ◌∷◌, ◌++◌, ℕ, get_or}
use Rattle.basis.specs.Names.{Option, none, some, Memᴰ as In}
use Rattle.basis.proofs.Names.{sym, ap, Memᴰ-head as here, Memᴰ-append_left, Memᴰ-append_right, Memᴰ-map, arith, length-set, get_or-set_other, set_comm}
use Rattle.reorder.specs.Result.{and_then, map_result}
use Rattle.reorder.proofs.Places.{Laws, Local}
use Rattle.codec.specs.declared.Kind.{Kind}
use Rattle.codec.specs.declared.Kind.TheVariants.{Ordinary, Emms, Silent, Loop}
use Rattle.manual.specs.State.{State, frozen}
use Rattle.manual.specs.Places.{Place, mmx, integer, byte, zero_mark, look, put}
use Rattle.manual.specs.Kinds.{marked, heeded, KindsMeet}
use Rattle.manual.specs.Addresses.{Address, register_part, address, registers_of, address_registers}
use Rattle.manual.specs.Locations.{Location, mmx_register, integer_register, memory, zero_operand, miss_of, tested, places_of, registers_behind}
use Rattle.manual.specs.Effects.{places_of_all, registers_behind_all, address_registers_of, unless_marked, plan_on, guarded, plan, via}
use Rattle.manual.proofs.Lists.{set_same, set_alike}
use Rattle.manual.proofs.Marking.{controlled}

look_other : (s : State) (p q : Place) (v : ℕ) → (p ≡ q → ⊥) → look (put s p v) q ≡ look s q
look_other s (mmx i) (mmx j) v n = get_or-set_other s.mmx i j v 0 (λ e. n (ap mmx (sym e)))
look_other s (mmx i) (integer j) v n = refl
look_other s (mmx i) (byte j) v n = refl
look_other s (integer i) (mmx j) v n = refl
look_other s (integer i) (integer j) v n = get_or-set_other s.integers i j v 0 (λ e. n (ap integer (sym e)))
look_other s (integer i) (byte j) v n = refl
look_other s (byte i) (mmx j) v n = refl
look_other s (byte i) (integer j) v n = refl
look_other s (byte i) (byte j) v n = get_or-set_other s.memory i j v 0 (λ e. n (ap byte (sym e)))
look_other s (mmx i) zero_mark v n = refl
look_other s (integer i) zero_mark v n = refl
look_other s (byte i) zero_mark v n = refl
look_other s zero_mark (mmx j) v n = refl
look_other s zero_mark (integer j) v n = refl
look_other s zero_mark (byte j) v n = refl
look_other s zero_mark zero_mark v n = absurd (n refl)

look_same : (s s' : State) (p : Place) (v : ℕ) → frozen s ≡ frozen s' → look (put s p v) p ≡ look (put s' p v) p
look_same s s' (mmx i) v f = set_same s.mmx s'.mmx i v (λ j. (f j).mmx)
look_same s s' (integer i) v f = set_same s.integers s'.integers i v (λ j. (f j).integers)
look_same s s' (byte i) v f = set_same s.memory s'.memory i v (λ j. (f j).memory)
look_same s s' zero_mark v f = refl

look_alike : (s s' : State) (p q : Place) (v : ℕ) → frozen s ≡ frozen s' → look s q ≡ look s' q → look (put s p v) q ≡ look (put s' p v) q
look_alike s s' (mmx i) (mmx j) v f h = set_alike s.mmx s'.mmx i j v (λ j. (f j).mmx) h
look_alike s s' (mmx i) (integer j) v f h = h
look_alike s s' (mmx i) (byte j) v f h = h
look_alike s s' (integer i) (mmx j) v f h = h
look_alike s s' (integer i) (integer j) v f h = set_alike s.integers s'.integers i j v (λ j. (f j).integers) h
look_alike s s' (integer i) (byte j) v f h = h
look_alike s s' (byte i) (mmx j) v f h = h
look_alike s s' (byte i) (integer j) v f h = h
look_alike s s' (byte i) (byte j) v f h = set_alike s.memory s'.memory i j v (λ j. (f j).memory) h
look_alike s s' (mmx i) zero_mark v f h = h
look_alike s s' (integer i) zero_mark v f h = h
look_alike s s' (byte i) zero_mark v f h = h
look_alike s s' zero_mark (mmx j) v f h = h
look_alike s s' zero_mark (integer j) v f h = h
look_alike s s' zero_mark (byte j) v f h = h
look_alike s s' zero_mark zero_mark v f h = refl

put_comm : (s : State) (p q : Place) (v w : ℕ) → (p ≡ q → ⊥) → put (put s p v) q w ≡ put (put s q w) p v
put_comm s (mmx i) (mmx j) v w n = cc (set_comm s.mmx i j v w (λ e. n (ap mmx e)))
put_comm s (mmx i) (integer j) v w n = refl
put_comm s (mmx i) (byte j) v w n = refl
put_comm s (integer i) (mmx j) v w n = refl
put_comm s (integer i) (integer j) v w n = cc (set_comm s.integers i j v w (λ e. n (ap integer e)))
put_comm s (integer i) (byte j) v w n = refl
put_comm s (byte i) (mmx j) v w n = refl
put_comm s (byte i) (integer j) v w n = refl
put_comm s (byte i) (byte j) v w n = cc (set_comm s.memory i j v w (λ e. n (ap byte e)))
put_comm s (mmx i) zero_mark v w n = refl
put_comm s (integer i) zero_mark v w n = refl
put_comm s (byte i) zero_mark v w n = refl
put_comm s zero_mark (mmx j) v w n = refl
put_comm s zero_mark (integer j) v w n = refl
put_comm s zero_mark (byte j) v w n = refl
put_comm s zero_mark zero_mark v w n = absurd (n refl)

look-marked : (s : State) (k : Kind) (q : Place) → look (marked k s) q ≡ look s q
look-marked s Ordinary (mmx i) = refl
look-marked s Ordinary (integer i) = refl
look-marked s Ordinary (byte i) = refl
look-marked s Ordinary zero_mark = refl
look-marked s Emms (mmx i) = refl
look-marked s Emms (integer i) = refl
look-marked s Emms (byte i) = refl
look-marked s Emms zero_mark = refl
look-marked s Silent (mmx i) = refl
look-marked s Silent (integer i) = refl
look-marked s Silent (byte i) = refl
look-marked s Silent zero_mark = refl
look-marked s Loop (mmx i) = refl
look-marked s Loop (integer i) = refl
look-marked s Loop (byte i) = refl
look-marked s Loop zero_mark = refl

put-marked : (s : State) (k : Kind) (q : Place) (v : ℕ) → put (marked k s) q v ≡ marked k (put s q v)
put-marked s Ordinary (mmx i) v = refl
put-marked s Ordinary (integer i) v = refl
put-marked s Ordinary (byte i) v = refl
put-marked s Ordinary zero_mark v = refl
put-marked s Emms (mmx i) v = refl
put-marked s Emms (integer i) v = refl
put-marked s Emms (byte i) v = refl
put-marked s Emms zero_mark v = refl
put-marked s Silent (mmx i) v = refl
put-marked s Silent (integer i) v = refl
put-marked s Silent (byte i) v = refl
put-marked s Silent zero_mark v = refl
put-marked s Loop (mmx i) v = refl
put-marked s Loop (integer i) v = refl
put-marked s Loop (byte i) v = refl
put-marked s Loop zero_mark v = refl

marked_comm : (s : State) (a b : Kind) → ¬ KindsMeet a b → marked b (marked a s) ≡ marked a (marked b s)
marked_comm s Ordinary Ordinary n = refl
marked_comm s Ordinary Emms n = absurd (n refl)
marked_comm s Ordinary Silent n = refl
marked_comm s Ordinary Loop n = refl
marked_comm s Emms Ordinary n = absurd (n refl)
marked_comm s Emms Emms n = absurd (n refl)
marked_comm s Emms Silent n = refl
marked_comm s Emms Loop n = absurd (n refl)
marked_comm s Silent Ordinary n = refl
marked_comm s Silent Emms n = refl
marked_comm s Silent Silent n = refl
marked_comm s Silent Loop n = refl
marked_comm s Loop Ordinary n = refl
marked_comm s Loop Emms n = absurd (n refl)
marked_comm s Loop Silent n = refl
marked_comm s Loop Loop n = refl

frozen-put : (s : State) (p : Place) (v : ℕ) → frozen (put s p v) ≡ frozen s
frozen-put s (mmx i) v = cc (length-set s.mmx i v)
frozen-put s (integer i) v = cc (length-set s.integers i v)
frozen-put s (byte i) v = cc (length-set s.memory i v)
frozen-put s zero_mark v = refl

frozen-marked : (s : State) (k : Kind) → frozen (marked k s) ≡ frozen s
frozen-marked s Ordinary = refl
frozen-marked s Emms = refl
frozen-marked s Silent = refl
frozen-marked s Loop = refl

pub laws : Laws look put marked frozen KindsMeet
laws =
    record {
      look_other = look_other;
      look_same = look_same;
      look_alike = look_alike;
      put_comm = put_comm;
      look-marked = look-marked;
      put-marked = put-marked;
      marked_comm = marked_comm;
      frozen-put = frozen-put;
      frozen-marked = frozen-marked;
    }

-- the zero mark is what is seen in its place
pub zero_seen : (s t : State) → look s zero_mark ≡ look t zero_mark → s.marks.zero ≡ t.marks.zero
zero_seen s t e = by s.marks.zero t.marks.zero e
  where
    by : (a b : Bool) → ◌≡◌ {A = ℕ} (cond a 1 0) (cond b 1 0) → a ≡ b
    by true true e = refl
    by true false e = absurd (omega arith)
    by false true e = absurd (omega arith)
    by false false e = refl

-- two states that agree on what is frozen and on address registers
module _ (s s' : State) (same : frozen s ≡ frozen s') where
  -- they have the same in these integer registers
  abbrev Agree : List ℕ → Type 0
  Agree ks = (k : ℕ) → In k ks → get_or s.integers k 0 ≡ get_or s'.integers k 0

  part_local : (o : Option ℕ) → Agree (registers_of o) → register_part s.integers o ≡ register_part s'.integers o
  part_local none h = refl
  part_local (some k) h = h k (here refl)

  address_local : (a : Address) → Agree (address_registers a) → address s.integers a ≡ address s'.integers a
  unfolding address
  address_local a h =
      cc (
        part_local a.base (λ k m. h k (Memᴰ-append_left (registers_of a.index) m)),
        part_local a.index (λ k m. h k (Memᴰ-append_right (registers_of a.base) m)),
      )

  places_local : (x : Location) → Agree (registers_behind x) → places_of s x ≡ places_of s' x
  places_local (mmx_register k) h = refl
  places_local (integer_register k) h = refl
  places_local (memory a size) h = λ j. tested (miss_of a) (same j).memory size (address_local a h j)
  places_local zero_operand h = refl

  all_local : (xs : List Location) → Agree (registers_behind_all xs) → places_of_all s xs ≡ places_of_all s' xs
  all_local [] h = refl
  all_local (x ∷ xs) h =
      λ j. and_then (places_local x (λ k m. h k (Memᴰ-append_left (registers_behind_all xs) m)) j)
      (λ ps. map_result (λ qs. ps ++ qs) (all_local xs (λ k m. h k (Memᴰ-append_right (registers_behind x) m)) j))

pub local : (floor : ℕ) → Local look frozen via (plan floor)
local floor e s s' same h =
    λ j. unless_marked (heeded e.kind (controlled s.marks (same j).em (same j).ts (same j).pending))
    (and_then (and_then (takes j) (λ source. map_result (plan_on e source) (gives j))) (guarded floor))
  where
    agree : Agree s s' same (address_registers_of e)
    agree k m = h (integer k) (Memᴰ-map integer m)

    takes : places_of_all s e.takes ≡ places_of_all s' e.takes
    takes = all_local s s' same e.takes (λ k m. agree k (Memᴰ-append_left (registers_behind_all e.gives) m))

    gives : places_of_all s e.gives ≡ places_of_all s' e.gives
    gives = all_local s s' same e.gives (λ k m. agree k (Memᴰ-append_right (registers_behind_all e.takes) m))
