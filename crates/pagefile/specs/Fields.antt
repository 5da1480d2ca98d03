-- What a page file is: fields, each a tag, a length of two bytes and contents; tags 01 to 05, ascending, each at most once.
use Rattle.std.specs.Prelude.{◌≡◌, Bool, true, cond, ◌&&◌, List, [], ◌∷◌, ◌++◌, ℕ, ◌<◌, ◌≤◌, eqb, ltb, length, get_or}
use Rattle.words.specs.Number.{bytes}

pub record Field : Type 0 where
  pub tag : ℕ
  pub contents : List ℕ

-- a field's bytes: its tag, the length of its contents, the least significant byte first, and the contents
abbrev pub written : Field → List ℕ
written f = f.tag ∷ (bytes 2 (length f.contents) ++ f.contents)

-- 01 code and 02 memory have any contents; 03 MMX registers 64 bytes; 04 integer registers 32; 05 marks one byte, whose upper three bits are 0
unfoldable pub may_hold : ℕ → List ℕ → Bool
may_hold tag contents =
    cond (eqb tag 3) (eqb (length contents) 64)
    (cond (eqb tag 4) (eqb (length contents) 32)
    (cond (eqb tag 5) (eqb (length contents) 1 && ltb (get_or contents 0 0) 32) true))

-- fields with tags up to 05 that ascend, the first of them above `last`, and with the contents that these tags may have
abbrev pub Ascending : ℕ → List Field → Type 0
Ascending last [] = Unit {0}
Ascending last (f ∷ fs) = (last < f.tag) × (f.tag ≤ 5) × (may_hold f.tag f.contents ≡ true) × Ascending f.tag fs

-- the bytes of fields, one after the other
abbrev pub concatenated : List Field → List ℕ
concatenated [] = []
concatenated (f ∷ fs) = written f ++ concatenated fs

-- a file is made of these fields, and of nothing else, in at most 65,536 bytes
pub record MadeOf (fields : List Field) (file : List ℕ) : Type 0 where
  pub ascending : Ascending 0 fields
  pub whole : file ≡ concatenated fields
  pub short : length file ≤ 65536

-- the contents of the field of a tag; none, where it is absent
abbrev pub held : ℕ → List Field → List ℕ
held tag [] = []
held tag (f ∷ fs) = cond (eqb f.tag tag) f.contents (held tag fs)
