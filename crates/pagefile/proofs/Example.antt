-- The definition computes to the customer's example: its parts, and no marks; to a file of all five fields; and files that break one rule each to
-- the refusal, without parts.
use Rattle.std.specs.Prelude.{◌≡◌, refl, List, [], ◌∷◌, ◌++◌, map, ℕ, replicate}
use Rattle.pagefile.specs.Fields.{may_hold}
use Rattle.pagefile.specs.Parsing.{size, holds, remaining, well_formed, contents_of, well_formed_with, refused_with, page_of}

abbrev registers : List ℕ
registers = 0xFF ∷ (replicate 7 0 ++ (0x02 ∷ replicate 55 0))

abbrev file : List ℕ
file = 0x01 ∷ 0x03 ∷ 0x00 ∷ 0x0F ∷ 0xFC ∷ 0xC1 ∷ 0x03 ∷ 0x40 ∷ 0x00 ∷ registers

pub example : (page_of file ≡ well_formed_with 0) × (map (λ (tag : ℕ). contents_of tag file) (1 ∷ 2 ∷ 3 ∷ 4 ∷ []) ≡ (0x0F ∷ 0xFC ∷ 0xC1 ∷ []) ∷ [] ∷ registers ∷ [] ∷ [])
unfolding may_hold size holds remaining well_formed contents_of page_of
example = (refl, refl)

-- all five fields: code and memory may be empty, and a marks byte may have bits 0 to 4
abbrev integers : List ℕ
integers = 0x44 ∷ replicate 31 0

abbrev five : List ℕ
five =
    0x01 ∷ 0x00 ∷ 0x00 ∷ 0x02 ∷ 0x00 ∷ 0x00 ∷ 0x03 ∷ 0x40 ∷ 0x00
    ∷ (registers ++ (0x04 ∷ 0x20 ∷ 0x00 ∷ (integers ++ (0x05 ∷ 0x01 ∷ 0x00 ∷ 0x1F ∷ []))))

pub five_fields : (page_of five ≡ well_formed_with 0x1F) × (map (λ (tag : ℕ). contents_of tag five) (1 ∷ 2 ∷ 3 ∷ 4 ∷ []) ≡ [] ∷ [] ∷ registers ∷ integers ∷ [])
unfolding may_hold size holds remaining well_formed contents_of page_of
five_fields = (refl, refl)

-- wrong lengths, a tag twice, a descending tag, an unknown tag, a field that runs past the end, a stray byte, a reserved mark
pub broken : map page_of
    ((0x03 ∷ 0x00 ∷ 0x00 ∷ [])
    ∷ (0x04 ∷ 0x00 ∷ 0x00 ∷ [])
    ∷ (0x05 ∷ 0x00 ∷ 0x00 ∷ [])
    ∷ (0x01 ∷ 0x00 ∷ 0x00 ∷ 0x01 ∷ 0x00 ∷ 0x00 ∷ [])
    ∷ (0x02 ∷ 0x00 ∷ 0x00 ∷ 0x01 ∷ 0x00 ∷ 0x00 ∷ [])
    ∷ (0x06 ∷ 0x00 ∷ 0x00 ∷ [])
    ∷ (0x01 ∷ 0x02 ∷ 0x00 ∷ 0x0F ∷ [])
    ∷ (0x01 ∷ 0x00 ∷ 0x00 ∷ 0x02 ∷ [])
    ∷ (0x05 ∷ 0x01 ∷ 0x00 ∷ 0x20 ∷ [])
    ∷ [])
    ≡ replicate 9 (refused_with 13)
unfolding may_hold size remaining well_formed contents_of page_of
broken = refl

-- 65,536 bytes are not too long, 65,537 are
pub longest : map page_of ((0x01 ∷ 0xFD ∷ 0xFF ∷ replicate 65533 0) ∷ (0x01 ∷ 0xFE ∷ 0xFF ∷ replicate 65534 0) ∷ []) ≡ well_formed_with 0 ∷ refused_with 13 ∷ []
unfolding may_hold size holds remaining well_formed contents_of page_of
longest = refl

-- the code of a file with a stray byte is no part of it
pub no_part : contents_of 1 (0x01 ∷ 0x01 ∷ 0x00 ∷ 0x90 ∷ 0x02 ∷ []) ≡ []
unfolding may_hold size remaining well_formed contents_of
no_part = refl
