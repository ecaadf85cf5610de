-- Looking a code up in a table.
use Rattle.std.specs.Prelude.{ℕ, List, [], ◌∷◌, None, Option, ◌==◌}
use Rattle.grammar.specs.declared.keywords.Keyword.{Keyword}
use Rattle.grammar.specs.Spelling.{this_or}
use Rattle.lexis.specs.declared.keywords.Entry.{Entry}

-- The keyword of the first entry with this code.
abbrev pub entry_with : ℕ → List Entry → Option Keyword
entry_with code [] = None
entry_with code (e ∷ es) = this_or (e.0 == code) e.1 (entry_with code es)
