-- What a name and a standing of the code stand for.
use Rattle.std.specs.Prelude.{◌≡◌, ℕ, [], ◌∷◌, ◌++◌, length, slice_index_or}
use Rattle.inplace.specs.Held.{held}
use Rattle.layout.specs.declared.lot_id.LotId.{LotId}
use Rattle.rules.specs.Scripts.Mark.{opened, tag_of}
use Rattle.rules.specs.Evaluation as evaluation
use Rattle.rules.specs.Labels as rules
use Rattle.judge.specs.declared.name.Name.{Name}
use Rattle.judge.specs.declared.name.Name.TheVariants.{Unknown, Open, Tagged, Turn, Cursor}
use Rattle.judge.specs.declared.standing.Standing.{Standing}

abbrev pub name_of : Name → rules.Name
name_of Unknown = rules.Name.unknown
name_of Open = rules.Name.held opened
name_of (Tagged family vendor) = rules.Name.held (tag_of family vendor)
name_of (Turn vendor) = rules.Name.turn
name_of (Cursor lot) = rules.Name.cursor lot.table lot.vendor

-- The vendor that a name stands for; 0 where it is no index.
abbrev pub turn_vendor : Name → ℕ
turn_vendor Unknown = 0
turn_vendor Open = 0
turn_vendor (Tagged family vendor) = 0
turn_vendor (Turn vendor) = vendor
turn_vendor (Cursor lot) = 0

-- How many names are in scope.
abbrev pub depth_of : Standing → ℕ
depth_of s = length (held s.names)

-- A standing inside another: it has one name more.
pub record Inside (inner outer : Standing) : Type 0 where
  pub mine : inner.mine ≡ outer.mine
  pub newest : Name
  pub names : held inner.names ≡ held outer.names ++ newest ∷ []

unfoldable pub scope_of : Standing → rules.Scope
scope_of s = record { depth = length (held s.names); names = λ level. name_of (slice_index_or (held s.names) level Unknown) }

unfoldable pub val_of : Standing → evaluation.Valuation
val_of s = record { mine = s.mine; indexes = λ level. turn_vendor (slice_index_or (held s.names) level Unknown) }

-- A valuation with a name at a level: an index stands for its vendor there.
abbrev pub with_name : evaluation.Valuation → ℕ → Name → evaluation.Valuation
with_name val level Unknown = val
with_name val level Open = val
with_name val level (Tagged family vendor) = val
with_name val level (Turn vendor) = evaluation.put_index val level vendor
with_name val level (Cursor lot) = val

abbrev pub lot_of : ℕ → ℕ → LotId ℕ
lot_of t v = record { table = t; vendor = v }
