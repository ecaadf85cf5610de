-- What a statement's node means once the rest of its block stands.
use Rattle.std.proofs.Common.{◌≡◌, ℕ, ◌<◌, true, ltb, List, [], ◌∷◌, length, refl, ap, ◌∙◌, ap₂}
use Rattle.std.proofs.lemmas.Bool.{and_parts, and_from, ltb-true, lt-ltb}
use Rattle.inplace.specs.Held.{held}
use Rattle.rules.specs.Scripts as rules
use Rattle.script.specs.declared.node.Stmt.{Stmt}
use Rattle.script.specs.declared.node.Stmt.TheVariants.{Var, Set, If, When, Vendors, Each, Add, Drop, Alter}
use Rattle.script.specs.Nodes.{stmt_of, code_of, index_of, expr_at, block_at}
use Rattle.script.specs.Ordered.{all_below, named_exprs, inner_blocks, names_below, stmt_ordered}
use Rattle.script.proofs.Order.{below_more}
use Rattle.reading.specs.Terms.{Kept, KeptBlocks}
use Rattle.reading.proofs.ManyValues.{kept_values}

record Below (n k : ℕ) (ks : List ℕ) : Type 0 where
  pub head : k < n
  pub tail : all_below n ks ≡ true

below : (n k : ℕ) (ks : List ℕ) → all_below n (k ∷ ks) ≡ true → Below n k ks
below n k ks h = let p = and_parts (ltb k n) (all_below n ks) h in record { head = ltb-true k n p.0; tail = p.1 }

one_more : (n k : ℕ) (ks : List ℕ) → k < n → all_below n ks ≡ true → all_below n (k ∷ ks) ≡ true
one_more n k ks h t = and_from (ltb k n) (all_below n ks) (lt-ltb k n h) t

module _ (es is : List rules.Expr) (cs ds : List rules.Code) (keep : Kept es is) (stay : KeptBlocks cs ds) where
  -- A statement means what it meant, however the script grew.
  before_local : (node : Stmt) (x : rules.Code) → all_below (length es) (named_exprs node) ≡ true → all_below (length cs) (inner_blocks node) ≡ true
      → stmt_of is ds node x ≡ stmt_of es cs node x
  before_local (Var mark) x e b = refl
  before_local (Set place level value) x e b = ap (λ v. rules.Code.set place level v x) (keep.same value (below (length es) value [] e).head)
  before_local (If condition first second) x e b =
      let p = below (length cs) first (second ∷ []) b in
      let q = below (length cs) second [] p.tail in
      ap (λ v. rules.Code.if v (block_at ds first) (block_at ds second) x) (keep.same condition (below (length es) condition [] e).head)
      ∙ ap₂ (λ v w. rules.Code.if (expr_at es condition) v w x) (stay.same first p.head) (stay.same second q.head)
  before_local (When left right first second) x e b =
      let p = below (length cs) first (second ∷ []) b in
      let q = below (length cs) second [] p.tail in
      ap₂ (λ v w. rules.Code.when (index_of left) (index_of right) v w x) (stay.same first p.head) (stay.same second q.head)
  before_local (Vendors body) x e b = ap (λ v. rules.Code.vendors v x) (stay.same body (below (length cs) body [] b).head)
  before_local (Each lot body) x e b = ap (λ v. rules.Code.each lot.table (index_of lot.owner) v x) (stay.same body (below (length cs) body [] b).head)
  before_local (Add place lot values) x e b = ap (λ vs. rules.Code.add place lot.table (index_of lot.owner) vs x) (kept_values es is (held values) keep e)
  before_local (Drop place lot condition) x e b = ap (λ v. rules.Code.drop place lot.table (index_of lot.owner) v x) (keep.same condition (below (length es) condition [] e).head)
  before_local (Alter place lot column value condition) x e b =
      let p = below (length es) value (condition ∷ []) e in
      ap₂ (λ v w. rules.Code.alter place lot.table (index_of lot.owner) column v w x) (keep.same value p.head) (keep.same condition (below (length es) condition [] p.tail).head)

  -- The statement in front of a block: its node names what stands, and means the statement in front of that block.
  pub rest_fits : (stmt : Stmt) (rest : ℕ) → names_below (length es) (length cs) stmt ≡ true → rest < length ds
      → stmt_ordered (length is) (length ds) (record { stmt = stmt; rest = rest }) ≡ true
  rest_fits stmt rest o h =
      let p = and_parts (all_below (length es) (named_exprs stmt)) (all_below (length cs) (inner_blocks stmt)) o in
      and_from (all_below (length is) (named_exprs stmt)) (all_below (length ds) (rest ∷ inner_blocks stmt))
      (below_more (length es) (length is) (named_exprs stmt) keep.longer p.0)
      (one_more (length ds) rest (inner_blocks stmt) h (below_more (length cs) (length ds) (inner_blocks stmt) stay.longer p.1))

  pub rest_code : (stmt : Stmt) (rest : ℕ) → names_below (length es) (length cs) stmt ≡ true
      → code_of is ds (record { stmt = stmt; rest = rest }) ≡ stmt_of es cs stmt (block_at ds rest)
  rest_code stmt rest o =
      let p = and_parts (all_below (length es) (named_exprs stmt)) (all_below (length cs) (inner_blocks stmt)) o in
      before_local stmt (block_at ds rest) p.0 p.1
