-- The highest of the blocks that a node names: each of them stands at or below it.
use Rattle.std.specs.Prelude.{ℕ, max, List, [], ◌∷◌}
use Rattle.script.specs.declared.node.Node.{Node}
use Rattle.script.specs.Ordered.{blocks_in}

abbrev pub highest : List ℕ → ℕ
highest [] = 0
highest (block ∷ blocks) = max block (highest blocks)

abbrev pub highest_block : Node → ℕ
highest_block node = highest (blocks_in node)
