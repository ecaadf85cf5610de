-- What a block asks for, handed on to its parts.
use Rattle.std.proofs.Common.{◌≡◌, ℕ, suc, ◌<◌, Bool, true, false, cond, eqb, List, rules, tests}
use Rattle.rules.specs.Plans.{Plan}
use Rattle.rules.specs.Scripts.{Index, Mark, Expr, Code}
use Rattle.rules.specs.Scripts.Index.{number, me, index}
use Rattle.rules.specs.Scripts.Code.{var, set, if, when, vendors, each, add, drop, alter}
use Rattle.rules.specs.Evaluation.{Valuation, whom, put_index}
use Rattle.rules.specs.Writes.{steady, writes}
use Rattle.rules.specs.Scoping.{scoped, nameable}
use Rattle.rules.specs.Inside.{inside, index_inside}
use Rattle.runner.specs.Standing.{Fits, LotThere}

module _ (plan : Plan) (n d : ℕ) (val : Valuation) where
  -- a level that a name can have, and what follows
  pub record FitsNamed (level depth : ℕ) (rest : Code) : Type 0 where
    pub name : nameable level ≡ true
    pub rest_fits : Fits plan n rest depth val

  pub fits_var : (mark : Mark Index) (rest : Code) → Fits plan n (var mark rest) d val → FitsNamed d (suc d) rest
  unfolding scoped steady inside
  fits_var mark rest f = search (rules, tests)

  pub fits_set : (place level : ℕ) (e : Expr) (rest : Code) → Fits plan n (set place level e rest) d val → FitsNamed level d rest
  unfolding scoped steady inside
  fits_set place level e rest f = search (rules, tests)

  pub record FitsTwo (first second rest : Code) : Type 0 where
    pub first_fits : Fits plan n first d val
    pub second_fits : Fits plan n second d val
    pub rest_fits : Fits plan n rest d val

  pub fits_if : (e : Expr) (first second rest : Code) → Fits plan n (if e first second rest) d val → FitsTwo first second rest
  unfolding scoped steady inside
  fits_if e first second rest f = search (rules, tests)

  pub fits_when : (i j : Index) (first second rest : Code) → Fits plan n (when i j first second rest) d val → FitsTwo first second rest
  unfolding scoped steady inside
  fits_when i j first second rest f = search (rules, tests)

  index_put : (v : ℕ) → v < plan.vendors → ((level : ℕ) → val.indexes level < plan.vendors) → (level : ℕ) → (put_index val d v).indexes level < plan.vendors
  index_put v h all level = go (eqb level d)
    where
      go : (b : Bool) → cond b v (val.indexes level) < plan.vendors
      go true = h
      go false = all level

  pub record FitsVendors (body rest : Code) : Type 0 where
    pub name : nameable d ≡ true
    pub turn_fits : (v : ℕ) → v < n → Fits plan n body (suc d) (put_index val d v)
    pub rest_fits : Fits plan n rest d val

  pub fits_vendors : (body rest : Code) → Fits plan n (vendors body rest) d val → FitsVendors body rest
  unfolding scoped steady inside
  fits_vendors body rest f = search (rules, tests, index_put)

  pub record FitsEach (t : ℕ) (body rest : Code) : Type 0 where
    pub name : nameable d ≡ true
    pub unwritten : writes t body ≡ false
    pub body_fits : Fits plan n body (suc d) val
    pub rest_fits : Fits plan n rest d val

  pub fits_each : (t : ℕ) (i : Index) (body rest : Code) → Fits plan n (each t i body rest) d val → FitsEach t body rest
  unfolding scoped steady inside
  fits_each t i body rest f = search (rules, tests)

  whom_within : {code : Code} (i : Index) → Fits plan n code d val → index_inside plan i ≡ true → whom val i < plan.vendors
  whom_within (number k) f h = search (rules, tests)
  whom_within me f h = f.mine
  whom_within (index level) f h = f.indexes level

  pub record FitsAdd (t : ℕ) (i : Index) (rest : Code) : Type 0 where
    pub there : LotThere plan t (whom val i)
    pub rest_fits : Fits plan n rest d val

  pub fits_add : (place t : ℕ) (i : Index) (es : List Expr) (rest : Code) → Fits plan n (add place t i es rest) d val → FitsAdd t i rest
  unfolding scoped steady inside
  fits_add place t i es rest f =
      let within = whom_within i f in
      search (rules, tests)

  pub fits_drop : (place t : ℕ) (i : Index) (e : Expr) (rest : Code) → Fits plan n (drop place t i e rest) d val → FitsNamed d d rest
  unfolding scoped steady inside
  fits_drop place t i e rest f = search (rules, tests)

  pub fits_alter : (place t : ℕ) (i : Index) (column : ℕ) (value condition : Expr) (rest : Code) → Fits plan n (alter place t i column value condition rest) d val → FitsNamed d d rest
  unfolding scoped steady inside
  fits_alter place t i column value condition rest f = search (rules, tests)
