-- A block of five instructions, an order that keeps the pairs which meet in its run, and an order that does not.
use Rattle.std.specs.Prelude.{Bool, true, false, List, [], ◌∷◌, ◌++◌, ℕ, replicate}
use Rattle.manual.specs.State.{State}
use Rattle.manual.proofs.Marking.{clear}

abbrev pub block : List ℕ
block =
    -- 0: MOVQ MM0, [EAX]
    0x0f ∷ 0x6f ∷ 0x00
    -- 1: PADDUSB MM0, MM1
    ∷ 0x0f ∷ 0xdc ∷ 0xc1
    -- 2: MOVQ [EAX + 8], MM0
    ∷ 0x0f ∷ 0x7f ∷ 0x40 ∷ 0x08
    -- 3: MOVQ MM2, [ECX]
    ∷ 0x0f ∷ 0x6f ∷ 0x11
    -- 4: PADDUSB MM2, [EAX + 8]
    ∷ 0x0f ∷ 0xdc ∷ 0x50 ∷ 0x08
    ∷ []

-- the registers MM0 to MM2 and the first 16 bytes of the memory, with EAX at 0, ECX at 16 and 03 in the 8 bytes from there on
abbrev here : ℕ → ℕ → ℕ → Bool → List ℕ → State
here mm0 mm1 mm2 valid memory =
    record {
      mmx = mm0 ∷ mm1 ∷ mm2 ∷ replicate 5 0;
      integers = 0 ∷ 16 ∷ replicate 6 0;
      marks = clear valid;
      memory = memory ++ replicate 8 0x03;
    }

abbrev pub start : State
start = here 0 0xf0f0f0f0f0f0f0f0 0 false (replicate 8 0x01 ++ replicate 8 0x20)

-- what the block leaves
abbrev pub final : State
final = here 0xf1f1f1f1f1f1f1f1 0xf0f0f0f0f0f0f0f0 0xf4f4f4f4f4f4f4f4 true (replicate 8 0x01 ++ replicate 8 0xf1)

-- the load of MM2 comes first: no pair that meets is turned round
abbrev pub allowed : List ℕ
allowed = 3 ∷ 0 ∷ 1 ∷ 2 ∷ 4 ∷ []

-- 4 reads the bytes that 2 writes, and comes before it
abbrev pub forbidden : List ℕ
forbidden = 0 ∷ 1 ∷ 3 ∷ 4 ∷ 2 ∷ []

-- what the forbidden order leaves: another number in MM2
abbrev pub spoilt : State
spoilt = here 0xf1f1f1f1f1f1f1f1 0xf0f0f0f0f0f0f0f0 0x2323232323232323 true (replicate 8 0x01 ++ replicate 8 0xf1)
