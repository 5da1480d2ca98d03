-- How a page file is parsed: each tag's field, from 01 to 05, is taken off the front of what remains, where it stands there. The file is well
-- formed where nothing remains in the end.
use Rattle.std.specs.Prelude.{Bool, cond, ◌&&◌, List, [], ℕ, zero, suc, ◌+◌, ◌-◌, eqb, leb, length, get_or, take, drop, Result, Ok, Err}
use Rattle.refusals.specs.declared.Refusal.{Refusal}
use Rattle.refusals.specs.Numbers.{number_of}
use Rattle.words.specs.Number.{number}
use Rattle.pagefile.specs.Fields.{may_hold}

-- the length after a field's tag, and as many bytes after that
abbrev pub length_in : List ℕ → ℕ
length_in s = number (take 2 (drop 1 s))

abbrev pub contents_in : List ℕ → List ℕ
contents_in s = take (length_in s) (drop 3 s)

-- whether a field of a tag stands at the front: the tag, a length that does not run past the end, and contents that the tag may have
abbrev pub stands : ℕ → List ℕ → Bool
stands tag s = eqb (get_or s 0 0) tag && leb (3 + length_in s) (length s) && may_hold tag (contents_in s)

-- how many bytes that field takes, and what it holds: none and nothing, where it does not stand there
unfoldable pub size : ℕ → List ℕ → ℕ
size tag s = cond (stands tag s) (3 + length_in s) 0

unfoldable pub holds : ℕ → List ℕ → List ℕ
holds tag s = cond (stands tag s) (contents_in s) []

-- what remains of a file after the fields of the tags up to this one
unfoldable pub remaining : ℕ → List ℕ → List ℕ
remaining zero file = file
remaining (suc tag) file = drop (size (suc tag) (remaining tag file)) (remaining tag file)

-- at most 65,536 bytes, and nothing remains
unfoldable pub well_formed : List ℕ → Bool
well_formed file = leb (length file) 65536 && eqb (length (remaining 5 file)) 0

-- the contents of the field of a tag; none, where it is absent or the file is malformed
unfoldable pub contents_of : ℕ → List ℕ → List ℕ
contents_of tag file = cond (well_formed file) (holds tag (remaining (tag - 1) file)) []

abbrev pub code_of : List ℕ → List ℕ
code_of file = contents_of 1 file

abbrev pub memory_of : List ℕ → List ℕ
memory_of file = contents_of 2 file

abbrev pub mmx_of : List ℕ → List ℕ
mmx_of file = contents_of 3 file

abbrev pub integers_of : List ℕ → List ℕ
integers_of file = contents_of 4 file

abbrev pub marks_of : List ℕ → List ℕ
marks_of file = contents_of 5 file

-- the refusal of a malformed file
abbrev pub malformed : ℕ
malformed = 13

-- what the parsing of a file comes to: well formed, with its marks; or refused, with the refusal's number
pub data Parsed : Type 0 where
  well_formed_with : ℕ → Parsed
  refused_with : ℕ → Parsed

-- the marks of a well-formed file, 0 where they are absent
unfoldable pub page_of : List ℕ → Parsed
page_of file = cond (well_formed file) (well_formed_with (get_or (marks_of file) 0 0)) (refused_with malformed)

-- the paper's answer for each case of the code's
abbrev pub paper_of_page : Result ℕ Refusal → Parsed
paper_of_page (Ok marks) = well_formed_with marks
paper_of_page (Err refusal) = refused_with (number_of refusal)
