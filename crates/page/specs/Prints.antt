-- What the page program prints where it tells of no failure.
use Rattle.std.specs.Prelude.{ℕ, List, Option, None, Some}
use Rattle.std.specs.Io.KnownBytes.{Appends}
use Rattle.player.specs.Page.{page_text}

-- of an input that holds a file, the output gets the file's text and nothing else; an input may not say what it holds
abbrev pub PrintsPage : Option (List ℕ) → Option (List ℕ) → Option (List ℕ) → Type 0
PrintsPage None old new = Unit {0}
PrintsPage (Some file) old new = Appends old new (page_text file)
