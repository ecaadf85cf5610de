use Rattle.std.proofs.Common.{◌≡◌, ℕ, ◌-◌, ◌<◌, ◌≤◌, true, length, get_or, IfSome, Some, None, Option, arith, MatchOption}
use Rattle.inplace.specs.Held.{held}
use Rattle.rules.specs.Scripts as rules
use Rattle.script.specs.declared.node.Node.{Node}
use Rattle.script.specs.declared.script.Script.{Script}
use Rattle.script.specs.Nodes.{block_at, code_of}
use Rattle.script.specs.Ordered.{all_below, blocks_in}
use Rattle.script.specs.Meaning.{exprs_of, codes_of, grown_exprs}
use Rattle.script.proofs.Places.{stmt_place, no_stmt, empty_block}
use Rattle.script.proofs.script.Script.stmt.Goals as goal

pub returns-then-block-eq0 : goal.returns-then-block-eq0
unfolding exprs_of codes_of
returns-then-block-eq0 c =
    let s = c.args.self.now in
    record { meaning = rw c.if-block-eq0.true (empty_block (grown_exprs (held s.exprs)) (held s.stmts)); back = tt }

record Found (s : Script) (block : ℕ) (o : Option Node) : Type 0 where
  meaning : MatchOption o (block_at (codes_of s) block ≡ rules.Code.stop) (λ n. block_at (codes_of s) block ≡ code_of (exprs_of s) (codes_of s) n)
  back : IfSome o (λ n. all_below block (blocks_in n) ≡ true)

found : (s : Script) (block : ℕ) → 0 < block → (o : Option Node)
    → MatchOption o (length (held s.stmts) ≤ block - 1) (λ x. (block - 1 < length (held s.stmts)) × (x ≡ get_or (held s.stmts) (block - 1) x))
    → Found s block o
unfolding exprs_of codes_of
found s block pos None h = record { meaning = no_stmt (grown_exprs (held s.exprs)) (held s.stmts) block pos h; back = tt }
found s block pos (Some n) h =
    let p = stmt_place (grown_exprs (held s.exprs)) (length (held s.exprs)) (held s.stmts) block n s.joined pos h.0 h.1 in
    record { meaning = p.meaning; back = p.back }

pub returns : goal.returns
returns c =
    let f = found c.args.self.now c.args.block (omega (arith, c.if-block-eq0.false)) c.get.result c.get.ensures in
    record { meaning = f.meaning; back = f.back }
