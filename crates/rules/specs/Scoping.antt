-- Scripts whose names are all in scope, as those that are read: at most 16 names at a time, and no name used where it is not.
use Rattle.std.specs.Prelude.{ℕ, suc, Bool, true, ◌&&◌, List, [], ◌∷◌, nat_lt}
use Rattle.rules.specs.Scripts.{Index, Mark, Expr, Code}
use Rattle.rules.specs.Scripts.Index.{number, me, index}
use Rattle.rules.specs.Scripts.Mark.{opened, tag_of}
use Rattle.rules.specs.Scripts.Expr.{literal, mine, of_index, variable, cell, apply}
use Rattle.rules.specs.Scripts.Code.{stop, var, set, if, when, vendors, each, add, drop, alter}

-- The most names in scope.
abbrev pub most_names : ℕ
most_names = 16

-- There is room for one name more.
abbrev pub nameable : ℕ → Bool
nameable depth = nat_lt depth most_names

abbrev pub index_scoped : ℕ → Index → Bool
index_scoped depth (number n) = true
index_scoped depth me = true
index_scoped depth (index level) = nat_lt level depth

abbrev pub mark_scoped : ℕ → Mark Index → Bool
mark_scoped depth opened = true
mark_scoped depth (tag_of f i) = index_scoped depth i

abbrev pub expr_scoped : ℕ → Expr → Bool
expr_scoped depth (literal n) = true
expr_scoped depth mine = true
expr_scoped depth (of_index level) = nat_lt level depth
expr_scoped depth (variable level) = nat_lt level depth
expr_scoped depth (cell level column) = nat_lt level depth
expr_scoped depth (apply op a b) = expr_scoped depth a && expr_scoped depth b

abbrev pub exprs_scoped : ℕ → List Expr → Bool
exprs_scoped depth [] = true
exprs_scoped depth (e ∷ es) = expr_scoped depth e && exprs_scoped depth es

-- `depth` names are in scope where the block begins.
unfoldable pub scoped : ℕ → Code → Bool
scoped depth stop = true
scoped depth (var mark rest) = nameable depth && (mark_scoped depth mark && scoped (suc depth) rest)
scoped depth (set place level e rest) = nat_lt level depth && (expr_scoped depth e && scoped depth rest)
scoped depth (if e first second rest) = expr_scoped depth e && (scoped depth first && (scoped depth second && scoped depth rest))
scoped depth (when i j first second rest) =
    index_scoped depth i && (index_scoped depth j && (scoped depth first && (scoped depth second && scoped depth rest)))
scoped depth (vendors body rest) = nameable depth && (scoped (suc depth) body && scoped depth rest)
scoped depth (each t i body rest) = nameable depth && (index_scoped depth i && (scoped (suc depth) body && scoped depth rest))
scoped depth (add place t i es rest) = index_scoped depth i && (exprs_scoped depth es && scoped depth rest)
scoped depth (drop place t i condition rest) =
    nameable depth && (index_scoped depth i && (expr_scoped (suc depth) condition && scoped depth rest))
scoped depth (alter place t i column value condition rest) =
    nameable depth && (index_scoped depth i && (expr_scoped (suc depth) value && (expr_scoped (suc depth) condition && scoped depth rest)))
