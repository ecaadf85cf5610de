use Rattle.std.proofs.Common.{◌≡◌, ℕ, map, take}
use Rattle.inplace.specs.Held.{held}
use Rattle.rules.specs.Lots.{no_rows}
use Rattle.layout.specs.Tables.{table_of}
use Rattle.lots.specs.Tables.{lots_in, pairs_in}
use Rattle.lots.specs.Stores.{lots_at}
use Rattle.lots.proofs.store.Store.new.Given as goal

-- The tables passed have their slots, with the lots at their pairs, and no lot has a row.
abbrev pub invariant-loop-table : goal.invariant-loop-table
invariant-loop-table l =
    (map pairs_in (held l.tables) ≡ map (λ t. (table_of t).lots) (take l.table-index l.declared))
    × ((t v : ℕ) → lots_at (map lots_in (held l.tables)) t v ≡ no_rows)
