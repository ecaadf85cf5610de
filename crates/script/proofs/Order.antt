-- A node looks at nothing but the nodes that it names, and these stand before it.
use Rattle.std.proofs.Common.{◌≡◌, ℕ, zero, suc, ◌+◌, ◌<◌, ◌≤◌, true, ltb, List, [], ◌∷◌, ◌++◌, map, length, get_or, refl, ap, ◌∙◌, ap₂, arith}
use Rattle.std.proofs.lemmas.Bool.{and_parts, and_from, ltb-true, lt-ltb}
use Rattle.inplace.specs.Held.{held}
use Rattle.rules.specs.Scripts as rules
use Rattle.script.specs.declared.node.Expr.{Expr}
use Rattle.script.specs.declared.node.Expr.TheVariants.{Literal, Mine, OfIndex, Variable, Cell, Apply}
use Rattle.script.specs.declared.node.Node.{Node}
use Rattle.script.specs.declared.node.Stmt.{Stmt}
use Rattle.script.specs.declared.node.Stmt.TheVariants.{Var, Set, If, When, Vendors, Each, Add, Drop, Alter}
use Rattle.script.specs.Nodes.{expr_of, stmt_of, code_of, expr_at, block_at, op_of, index_of}
use Rattle.script.specs.Ordered.{all_below, parts, named_exprs, inner_blocks, exprs_in, blocks_in, exprs_ordered, stmt_ordered, stmts_ordered}
use Rattle.script.proofs.Grown.{Same}

record Below (n k : ℕ) (ks : List ℕ) : Type 0 where
  pub head : k < n
  pub tail : all_below n ks ≡ true

below : (n k : ℕ) (ks : List ℕ) → all_below n (k ∷ ks) ≡ true → Below n k ks
below n k ks h = let p = and_parts (ltb k n) (all_below n ks) h in record { head = ltb-true k n p.0; tail = p.1 }

pub below_more : (m n : ℕ) (ks : List ℕ) → m ≤ n → all_below m ks ≡ true → all_below n ks ≡ true
below_more m n [] l h = refl
below_more m n (k ∷ ks) l h =
    let b = below m k ks h in
    and_from (ltb k n) (all_below n ks) (lt-ltb k n (omega (arith, b.head))) (below_more m n ks l b.tail)

-- the expressions of a list that are looked up
same_exprs : (n : ℕ) (xs ys : List rules.Expr) (ks : List ℕ) → Same n xs ys → all_below n ks ≡ true → map (expr_at xs) ks ≡ map (expr_at ys) ks
same_exprs n xs ys [] s h = refl
same_exprs n xs ys (k ∷ ks) s h =
    let b = below n k ks h in
    ap₂ (λ x zs. x ∷ zs) (s k (rules.Expr.literal 0) b.head) (same_exprs n xs ys ks s b.tail)

pub expr_local : (n : ℕ) (e : Expr) → all_below n (parts e) ≡ true → (xs ys : List rules.Expr) → Same n xs ys → expr_of xs e ≡ expr_of ys e
expr_local n (Literal k) h xs ys s = refl
expr_local n Mine h xs ys s = refl
expr_local n (OfIndex k) h xs ys s = refl
expr_local n (Variable k) h xs ys s = refl
expr_local n (Cell k c) h xs ys s = refl
expr_local n (Apply op left right) h xs ys s =
    let a = below n left (right ∷ []) h in
    let b = below n right [] a.tail in
    ap₂ (rules.Expr.apply (op_of op)) (s left (rules.Expr.literal 0) a.head) (s right (rules.Expr.literal 0) b.head)

module _ (top n : ℕ) (xs ys : List rules.Expr) (cs ds : List rules.Code) (s : Same top xs ys) (t : Same n cs ds) where
  ex : (k : ℕ) → k < top → expr_at xs k ≡ expr_at ys k
  ex k h = s k (rules.Expr.literal 0) h

  bl : (k : ℕ) → k < n → block_at cs k ≡ block_at ds k
  bl k h = t k rules.Code.stop h

  stmt_local : (m : Stmt) (rest : rules.Code) → all_below top (named_exprs m) ≡ true → all_below n (inner_blocks m) ≡ true → stmt_of xs cs m rest ≡ stmt_of ys ds m rest
  stmt_local (Var mark) rest h k = refl
  stmt_local (Set place level value) rest h k = let v = below top value [] h in ap (λ e. rules.Code.set place level e rest) (ex value v.head)
  stmt_local (If condition first second) rest h k =
      let v = below top condition [] h in
      let a = below n first (second ∷ []) k in
      let b = below n second [] a.tail in
      rw (ex condition v.head, bl first a.head, bl second b.head)
  stmt_local (When left right first second) rest h k =
      let a = below n first (second ∷ []) k in
      let b = below n second [] a.tail in
      rw (bl first a.head, bl second b.head)
  stmt_local (Vendors body) rest h k = let a = below n body [] k in ap (λ b. rules.Code.vendors b rest) (bl body a.head)
  stmt_local (Each lot body) rest h k = let a = below n body [] k in ap (λ b. rules.Code.each lot.table (index_of lot.owner) b rest) (bl body a.head)
  stmt_local (Add place lot values) rest h k = ap (λ es. rules.Code.add place lot.table (index_of lot.owner) es rest) (same_exprs top xs ys (held values) s h)
  stmt_local (Drop place lot condition) rest h k =
      let v = below top condition [] h in ap (λ e. rules.Code.drop place lot.table (index_of lot.owner) e rest) (ex condition v.head)
  stmt_local (Alter place lot column value condition) rest h k =
      let v = below top value (condition ∷ []) h in
      let w = below top condition [] v.tail in
      rw (ex value v.head, ex condition w.head)

  pub code_local : (node : Node) → stmt_ordered top n node ≡ true → code_of xs cs node ≡ code_of ys ds node
  code_local node h =
      let p = and_parts (all_below top (exprs_in node)) (all_below n (blocks_in node)) h in
      let b = below n node.rest (inner_blocks node.stmt) p.1 in
      stmt_local node.stmt (block_at cs node.rest) p.0 b.tail ∙ ap (stmt_of ys ds node.stmt) (bl node.rest b.head)

-- the order at a place, and after a push
pub expr_ordered_at : (n : ℕ) (es : List Expr) (i : ℕ) (d : Expr) → exprs_ordered n es ≡ true → i < length es → all_below (n + i) (parts (get_or es i d)) ≡ true
expr_ordered_at n [] i d h l = absurd (omega arith)
expr_ordered_at n (e ∷ es) zero d h l =
    let p = and_parts (all_below n (parts e)) (exprs_ordered (suc n) es) h in below_more n (n + 0) (parts e) (omega arith) p.0
expr_ordered_at n (e ∷ es) (suc i) d h l =
    let p = and_parts (all_below n (parts e)) (exprs_ordered (suc n) es) h in
    below_more (suc n + i) (n + suc i) (parts (get_or es i d)) (omega arith) (expr_ordered_at (suc n) es i d p.1 (omega arith))

pub stmt_ordered_at : (top n : ℕ) (ss : List Node) (i : ℕ) (d : Node) → stmts_ordered top n ss ≡ true → i < length ss → stmt_ordered top (n + i) (get_or ss i d) ≡ true
stmt_ordered_at top n [] i d h l = absurd (omega arith)
stmt_ordered_at top n (s ∷ ss) zero d h l =
    let p = and_parts (stmt_ordered top n s) (stmts_ordered top (suc n) ss) h in
    let q = and_parts (all_below top (exprs_in s)) (all_below n (blocks_in s)) p.0 in
    and_from (all_below top (exprs_in s)) (all_below (n + 0) (blocks_in s)) q.0 (below_more n (n + 0) (blocks_in s) (omega arith) q.1)
stmt_ordered_at top n (s ∷ ss) (suc i) d h l =
    let p = and_parts (stmt_ordered top n s) (stmts_ordered top (suc n) ss) h in
    let x = stmt_ordered_at top (suc n) ss i d p.1 (omega arith) in
    let q = and_parts (all_below top (exprs_in (get_or ss i d))) (all_below (suc n + i) (blocks_in (get_or ss i d))) x in
    and_from (all_below top (exprs_in (get_or ss i d))) (all_below (n + suc i) (blocks_in (get_or ss i d))) q.0
    (below_more (suc n + i) (n + suc i) (blocks_in (get_or ss i d)) (omega arith) q.1)

pub exprs_ordered_push : (n : ℕ) (es : List Expr) (e : Expr) → exprs_ordered n es ≡ true → all_below (n + length es) (parts e) ≡ true
    → exprs_ordered n (es ++ e ∷ []) ≡ true
exprs_ordered_push n [] e h k = and_from (all_below n (parts e)) true (below_more (n + 0) n (parts e) (omega arith) k) refl
exprs_ordered_push n (f ∷ fs) e h k =
    let p = and_parts (all_below n (parts f)) (exprs_ordered (suc n) fs) h in
    and_from (all_below n (parts f)) (exprs_ordered (suc n) (fs ++ e ∷ [])) p.0
    (exprs_ordered_push (suc n) fs e p.1 (below_more (n + suc (length fs)) (suc n + length fs) (parts e) (omega arith) k))

stmt_below_more : (top top' n m : ℕ) (s : Node) → top ≤ top' → n ≤ m → stmt_ordered top n s ≡ true → stmt_ordered top' m s ≡ true
stmt_below_more top top' n m s h k o =
    let q = and_parts (all_below top (exprs_in s)) (all_below n (blocks_in s)) o in
    and_from (all_below top' (exprs_in s)) (all_below m (blocks_in s)) (below_more top top' (exprs_in s) h q.0) (below_more n m (blocks_in s) k q.1)

pub stmts_ordered_push : (top n : ℕ) (ss : List Node) (s : Node) → stmts_ordered top n ss ≡ true → stmt_ordered top (n + length ss) s ≡ true
    → stmts_ordered top n (ss ++ s ∷ []) ≡ true
stmts_ordered_push top n [] s h k = and_from (stmt_ordered top n s) true (stmt_below_more top top (n + 0) n s (omega arith) (omega arith) k) refl
stmts_ordered_push top n (r ∷ rs) s h k =
    let p = and_parts (stmt_ordered top n r) (stmts_ordered top (suc n) rs) h in
    and_from (stmt_ordered top n r) (stmts_ordered top (suc n) (rs ++ s ∷ [])) p.0
    (stmts_ordered_push top (suc n) rs s p.1 (stmt_below_more top top (n + suc (length rs)) (suc n + length rs) s (omega arith) (omega arith) k))

-- more expressions do no harm
pub stmts_ordered_more : (top top' n : ℕ) (ss : List Node) → top ≤ top' → stmts_ordered top n ss ≡ true → stmts_ordered top' n ss ≡ true
stmts_ordered_more top top' n [] h o = refl
stmts_ordered_more top top' n (s ∷ ss) h o =
    let p = and_parts (stmt_ordered top n s) (stmts_ordered top (suc n) ss) o in
    and_from (stmt_ordered top' n s) (stmts_ordered top' (suc n) ss) (stmt_below_more top top' n n s h (omega arith) p.0) (stmts_ordered_more top top' (suc n) ss h p.1)
