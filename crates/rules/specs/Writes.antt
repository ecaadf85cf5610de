-- Which tables a block writes.
use Rattle.std.specs.Prelude.{ℕ, Bool, true, false, not, ◌&&◌, ◌||◌, ◌==◌}
use Rattle.rules.specs.Scripts.{Code}
use Rattle.rules.specs.Scripts.Code.{stop, var, set, if, when, vendors, each, add, drop, alter}

-- The block has an `add`, a `drop` or an `alter` of a lot of this table.
unfoldable pub writes : ℕ → Code → Bool
writes u stop = false
writes u (var mark rest) = writes u rest
writes u (set place level e rest) = writes u rest
writes u (if e first second rest) = writes u first || (writes u second || writes u rest)
writes u (when i j first second rest) = writes u first || (writes u second || writes u rest)
writes u (vendors body rest) = writes u body || writes u rest
writes u (each t i body rest) = writes u body || writes u rest
writes u (add place t i es rest) = t == u || writes u rest
writes u (drop place t i condition rest) = t == u || writes u rest
writes u (alter place t i column value condition rest) = t == u || writes u rest

-- No table is written inside an `each` over it.
unfoldable pub steady : Code → Bool
steady stop = true
steady (var mark rest) = steady rest
steady (set place level e rest) = steady rest
steady (if e first second rest) = steady first && (steady second && steady rest)
steady (when i j first second rest) = steady first && (steady second && steady rest)
steady (vendors body rest) = steady body && steady rest
steady (each t i body rest) = not (writes t body) && (steady body && steady rest)
steady (add place t i es rest) = steady rest
steady (drop place t i condition rest) = steady rest
steady (alter place t i column value condition rest) = steady rest
