-- What the names in scope stand for, as the code holds them, and what variables hold.
use Rattle.std.specs.Prelude.{◌≡◌, ℕ, suc, cond, List, [], length, slice_index, slice_index_or}
use Rattle.inplace.specs.Held.{held}
use Rattle.rules.specs.Lots.{upd}
use Rattle.rules.specs.Scoping.{nameable}
use Rattle.rules.specs.Evaluation.{Valuation, Cursors, run_for, put_index}
use Rattle.runner.specs.declared.env.Env.{Env}
use Rattle.runner.specs.declared.env.Name.{Name}
use Rattle.runner.specs.declared.env.Name.TheVariants.{Variable, Index, Cursor}
use Rattle.runner.specs.declared.locals.Locals.{Locals}

-- The vendor that a name stands for: 0 where it is no index.
abbrev pub vendor_of : Name → ℕ
vendor_of Variable = 0
vendor_of (Index vendor) = vendor
vendor_of (Cursor row) = 0

-- The cells of the row that a name stands at: none where it is no cursor.
abbrev pub cells_of : Name → List ℕ
cells_of Variable = []
cells_of (Index vendor) = []
cells_of (Cursor row) = held row

-- How many names are in scope.
abbrev pub depth_of : Env → ℕ
depth_of env = length (held env.names)

unfoldable pub val_of : Env → Valuation
val_of env = record { mine = env.mine; indexes = λ level. vendor_of (slice_index_or (held env.names) level Variable) }

unfoldable pub cursors_of : Env → Cursors
cursors_of env level = cells_of (slice_index_or (held env.names) level Variable)

unfoldable pub vars_of : Locals → ℕ → ℕ
vars_of locals level = slice_index locals.vars level

-- What the names stand for with one more.
abbrev pub val_with : Env → Name → Valuation
val_with env Variable = val_of env
val_with env (Index vendor) = put_index (val_of env) (depth_of env) vendor
val_with env (Cursor row) = val_of env

abbrev pub cursors_with : Env → Name → Cursors
cursors_with env Variable = cursors_of env
cursors_with env (Index vendor) = cursors_of env
cursors_with env (Cursor row) = upd (cursors_of env) (depth_of env) (held row)

-- No name is in scope, and all stand for what they do where a script begins.
pub record Nameless (env : Env) (mine vendors : ℕ) : Type 0 where
  pub vendors_are : env.vendors ≡ vendors
  pub depth : depth_of env ≡ 0
  pub val_is : val_of env ≡ run_for mine
  pub cursors_are : cursors_of env ≡ (λ _. [])

-- One name more is in scope, after which the names stand for this; nothing is changed where there is no room for one.
pub record Renamed (was is : Env) (val : Valuation) (cursors : Cursors) : Type 0 where
  pub vendors : is.vendors ≡ was.vendors
  pub depth : depth_of is ≡ cond (nameable (depth_of was)) (suc (depth_of was)) (depth_of was)
  pub val_is : val_of is ≡ cond (nameable (depth_of was)) val (val_of was)
  pub cursors_are : cursors_of is ≡ cond (nameable (depth_of was)) cursors (cursors_of was)
