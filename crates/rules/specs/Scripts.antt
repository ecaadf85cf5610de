-- A script as it is read: its names resolved, each statement with the rest of its block behind it.
use Rattle.std.specs.Prelude.{ℕ, List}

-- Which vendor is meant: one by its number, the vendor that the script runs for, or the one that an index stands for.
-- A name is its level: how many names were in scope where it was made.
pub data Index : Type 0 where
  number : ℕ → Index
  me : Index
  index : ℕ → Index

-- The label that a variable is given: the bottom, or the tag of a family and a vendor.
pub data Mark (V : Type 0) : Type 0 where
  opened : Mark V
  tag_of : ℕ → V → Mark V

pub data Op : Type 0 where
  plus minus least largest equal less : Op

pub data Expr : Type 0 where
  literal : ℕ → Expr
  -- the vendor that the script runs for, and the one that an index stands for
  mine : Expr
  of_index : ℕ → Expr
  variable : ℕ → Expr
  -- a column of the row that a cursor stands at
  cell : ℕ → ℕ → Expr
  apply : Op → Expr → Expr → Expr

-- A block, by its first statement; the last argument is the rest of the block. A statement that can break a flow rule
-- has its place first, the byte where it starts. `var`, `vendors` and `each` make a name whose level is the number of
-- names in scope, `drop` and `alter` one for their expressions.
pub data Code : Type 0 where
  -- the end of the block
  stop : Code
  -- the variable's label
  var : Mark Index → Code → Code
  -- place, the variable's level, value
  set : ℕ → ℕ → Expr → Code → Code
  -- condition, the block where it is not 0, the block where it is
  if : Expr → Code → Code → Code → Code
  -- two indexes, the block where they are equal, the block where they differ
  when : Index → Index → Code → Code → Code → Code
  -- the block for each vendor
  vendors : Code → Code → Code
  -- table, whose lot, the block for each row
  each : ℕ → Index → Code → Code → Code
  -- place, table, whose lot, one value for each column
  add : ℕ → ℕ → Index → List Expr → Code → Code
  -- place, table, whose lot, condition
  drop : ℕ → ℕ → Index → Expr → Code → Code
  -- place, table, whose lot, column, value, condition
  alter : ℕ → ℕ → Index → ℕ → Expr → Expr → Code → Code
