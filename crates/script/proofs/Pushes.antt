-- A script after a push.
use Rattle.std.proofs.Common.{◌≡◌, ℕ, suc, ◌+◌, ◌<◌, ◌≤◌, Bool, true, false, cond, ltb, List, [], ◌∷◌, ◌++◌, length, sym, refl, ap, ◌∙◌, ap₂, add_comm, arith}
use Rattle.std.proofs.lemmas.List.{get_or_append_left, length_push}
use Rattle.std.proofs.lemmas.Bool.{and_from, and_parts, and_left, and_right, lt-ltb, le-ltb}
use Rattle.inplace.specs.declared.array_vec.ArrayVec.{ArrayVec}
use Rattle.inplace.specs.Held.{held}
use Rattle.rules.specs.Scripts as rules
use Rattle.script.specs.declared.node.Expr.{Expr}
use Rattle.script.specs.declared.node.Node.{Node}
use Rattle.script.specs.Growing.{grow}
use Rattle.script.specs.Nodes.{expr_of, code_of}
use Rattle.script.specs.Ordered.{all_below, parts, exprs_ordered, stmt_ordered, stmts_ordered}
use Rattle.script.specs.Pushing.{expr_room, stmt_room}
use Rattle.script.specs.Meaning.{grown_exprs, grown_codes}
use Rattle.script.proofs.Grown.{Same, grow_push, grow_length}
use Rattle.script.proofs.Order.{code_local, below_more, exprs_ordered_push, stmts_ordered_push, stmts_ordered_more}

pub as_many_exprs : (ns : List Expr) → length (grown_exprs ns) ≡ length ns
as_many_exprs ns = grow_length expr_of [] ns ∙ omega arith

pub as_many_codes : (es : List rules.Expr) (ms : List Node) → length (grown_codes es ms) ≡ 1 + length ms
as_many_codes es ms = grow_length (code_of es) (rules.Code.stop ∷ []) ms ∙ omega arith

-- the pushed list, where there was room
grew : {A : Type 0} {n : ℕ} (was is : ArrayVec A n) (x : A) (r : Bool) → length (held was) < n → r ≡ ltb (length (held was)) n
    → held is ≡ cond r (held was ++ x ∷ []) (held was) → held is ≡ held was ++ x ∷ []
grew {A} {n} was is x r room told after = after ∙ ap (λ b. cond b (held was ++ x ∷ []) (held was)) (told ∙ lt-ltb (length (held was)) n room)

-- blocks stay what they are, when expressions that they do not name are pushed
codes_stay : (top n : ℕ) (es fs : List rules.Expr) (acc : List rules.Code) (ms : List Node) → length acc ≡ n → Same top es fs
    → stmts_ordered top n ms ≡ true → grow (code_of es) acc ms ≡ grow (code_of fs) acc ms
codes_stay top n es fs acc [] l s o = refl
codes_stay top n es fs acc (m ∷ ms) l s o =
    let p = and_parts (stmt_ordered top n m) (stmts_ordered top (suc n) ms) o in
    let same : code_of es acc m ≡ code_of fs acc m = code_local top n es fs acc acc s (λ j d h. refl) m p.0 in
    codes_stay top (suc n) es fs (acc ++ code_of es acc m ∷ []) ms (length_push acc (code_of es acc m) ∙ omega arith) s p.1
    ∙ ap (λ x. grow (code_of fs) (acc ++ x ∷ []) ms) same

pub record ExprPushed (was is : List Expr) (ms : List Node) (node : Expr) : Type 0 where
  pub room : expr_room (grown_exprs was) node ≡ true
  pub exprs : grown_exprs is ≡ grown_exprs was ++ expr_of (grown_exprs was) node ∷ []
  pub codes : grown_codes (grown_exprs is) ms ≡ grown_codes (grown_exprs was) ms
  pub built : exprs_ordered 0 is ≡ true
  pub joined : stmts_ordered (length is) 1 ms ≡ true

pub expr_pushed : (was is : ArrayVec Expr 256) (ms : List Node) (node : Expr) (r : Bool)
    → exprs_ordered 0 (held was) ≡ true → stmts_ordered (length (held was)) 1 ms ≡ true
    → length (held was) < 256 → all_below (length (held was)) (parts node) ≡ true
    → r ≡ ltb (length (held was)) 256 → held is ≡ cond r (held was ++ node ∷ []) (held was)
    → ExprPushed (held was) (held is) ms node
expr_pushed was is ms node r built joined room fits told after =
    let ns = held was in
    let es = grown_exprs ns in
    let is_now = grew was is node r room told after in
    let long : length es ≡ length ns = as_many_exprs ns in
    let more : grown_exprs (held is) ≡ es ++ expr_of es node ∷ [] = ap grown_exprs is_now ∙ grow_push expr_of [] ns node in
    let longer : length (held is) ≡ length ns + 1 = ap length is_now ∙ length_push ns node in
    record {
      room = and_from (ltb (length es) 256) (all_below (length es) (parts node)) (lt-ltb (length es) 256 (omega arith))
          (below_more (length ns) (length es) (parts node) (omega arith) fits);
      exprs = more;
      codes = ap (λ fs. grown_codes fs ms) more
          ∙ sym (codes_stay (length ns) 1 es (es ++ expr_of es node ∷ []) (rules.Code.stop ∷ []) ms refl
          (λ j d h. sym (get_or_append_left es (expr_of es node ∷ []) d j (omega arith))) joined);
      built = ap (exprs_ordered 0) is_now ∙ exprs_ordered_push 0 ns node built (below_more (length ns) (0 + length ns) (parts node) (omega arith) fits);
      joined = stmts_ordered_more (length ns) (length (held is)) 1 ms (omega arith) joined;
    }

pub record StmtPushed (es : List rules.Expr) (top : ℕ) (was is : List Node) (node : Node) : Type 0 where
  pub room : stmt_room es (grown_codes es was) node ≡ true
  pub codes : grown_codes es is ≡ grown_codes es was ++ code_of es (grown_codes es was) node ∷ []
  pub joined : stmts_ordered top 1 is ≡ true

pub stmt_pushed : (es : List rules.Expr) (top : ℕ) (was is : ArrayVec Node 64) (node : Node) (r : Bool)
    → length es ≡ top → stmts_ordered top 1 (held was) ≡ true
    → length (held was) < 64 → stmt_ordered top (length (held was) + 1) node ≡ true
    → r ≡ ltb (length (held was)) 64 → held is ≡ cond r (held was ++ node ∷ []) (held was)
    → StmtPushed es top (held was) (held is) node
stmt_pushed es top was is node r long joined room fits told after =
    let ns = held was in
    let cs = grown_codes es ns in
    let is_now = grew was is node r room told after in
    let many : length cs ≡ 1 + length ns = as_many_codes es ns in
    let at : stmt_ordered top (1 + length ns) node ≡ true = ap (λ k. stmt_ordered top k node) (add_comm 1 (length ns)) ∙ fits in
    record {
      room = and_from (ltb (length cs) 65) (stmt_ordered (length es) (length cs) node) (lt-ltb (length cs) 65 (omega arith))
          (ap₂ (λ k m. stmt_ordered k m node) long many ∙ at);
      codes = ap (grown_codes es) is_now ∙ grow_push (code_of es) (rules.Code.stop ∷ []) ns node;
      joined = ap (stmts_ordered top 1) is_now ∙ stmts_ordered_push top 1 ns node joined at;
    }

-- where nothing is pushed
pub exprs_full : (ns : List Expr) (node : Expr) → 256 ≤ length ns → expr_room (grown_exprs ns) node ≡ false
exprs_full ns node h =
    and_left (ltb (length (grown_exprs ns)) 256) (all_below (length (grown_exprs ns)) (parts node)) (le-ltb (length (grown_exprs ns)) 256 (omega (arith, as_many_exprs ns)))

pub expr_unfit : (ns : List Expr) (node : Expr) → all_below (length ns) (parts node) ≡ false → expr_room (grown_exprs ns) node ≡ false
expr_unfit ns node h =
    and_right (ltb (length (grown_exprs ns)) 256) (all_below (length (grown_exprs ns)) (parts node)) (ap (λ n. all_below n (parts node)) (as_many_exprs ns) ∙ h)

pub stmts_full : (es : List rules.Expr) (ns : List Node) (node : Node) → 64 ≤ length ns → stmt_room es (grown_codes es ns) node ≡ false
stmts_full es ns node h =
    let cs = grown_codes es ns in
    and_left (ltb (length cs) 65) (stmt_ordered (length es) (length cs) node) (le-ltb (length cs) 65 (omega (arith, as_many_codes es ns)))

pub stmt_unfit : (es : List rules.Expr) (top : ℕ) (ns : List Node) (node : Node) → length es ≡ top → stmt_ordered top (length ns + 1) node ≡ false
    → stmt_room es (grown_codes es ns) node ≡ false
stmt_unfit es top ns node l h =
    let cs = grown_codes es ns in
    and_right (ltb (length cs) 65) (stmt_ordered (length es) (length cs) node)
    (ap₂ (λ n m. stmt_ordered n m node) l (as_many_codes es ns ∙ add_comm 1 (length ns)) ∙ h)
