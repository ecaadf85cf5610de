-- The verdict on a block, statement by statement.
use Rattle.std.proofs.Common.{◌≡◌, ℕ, ◌<◌, [], ◌∷◌, Some, None, Option, sym, refl, ap, arith}
use Rattle.std.proofs.lemmas.List.{get_or_past, length-take}
use Rattle.inplace.specs.Held.{held as items_of}
use Rattle.lattice.specs.Order.{Order}
use Rattle.rules.specs.Plans.{Plan}
use Rattle.rules.specs.Scripts as rules
use Rattle.rules.specs.Scripts.Code.{stop, var, set, if, when, vendors, each, add, drop, alter}
use Rattle.rules.specs.Evaluation.{Valuation}
use Rattle.rules.specs.Labels.{Scope}
use Rattle.rules.specs.Flows.{if_context}
use Rattle.rules.specs.Judging.{earlier, verdict}
use Rattle.script.specs.declared.script.Script.{Script}
use Rattle.script.proofs.Grown.{grow_length}
use Rattle.script.specs.Meaning.{grown_exprs, grown_codes, codes_of}
use Rattle.script.specs.Nodes.{block_at, code_of}
use Rattle.judge.specs.Verdicts.{own_fault, inner_verdict, rest_verdict}

earlier_assoc : (a b c : Option ℕ) → earlier a (earlier b c) ≡ earlier (earlier a b) c
earlier_assoc None b c = refl
earlier_assoc (Some p) b c = refl

module _ (o : Order) (plan : Plan) (scope : Scope) (val : Valuation) (label : ℕ) where
  abbrev at : rules.Code → Option ℕ
  at code = verdict o plan code scope val label

  -- A block's verdict is that of its first statement by itself, then that of the blocks inside it, then that of what follows.
  pub in_parts : (code : rules.Code) → at code ≡ earlier (own_fault o plan scope val label code) (earlier (inner_verdict o plan scope val label code) (rest_verdict o plan scope val label code))
  unfolding verdict
  in_parts stop = refl
  in_parts (var mark rest) = refl
  in_parts (set place level e rest) = refl
  in_parts (if e first second rest) =
      earlier_assoc (verdict o plan first scope val (if_context o plan scope label e)) (verdict o plan second scope val (if_context o plan scope label e)) (at rest)
  in_parts (when i j first second rest) = refl
  in_parts (vendors body rest) = refl
  in_parts (each t i body rest) = refl
  in_parts (add place t i es rest) = refl
  in_parts (drop place t i condition rest) = refl
  in_parts (alter place t i column value condition rest) = refl

  pub at_end : (whole : rules.Code) → whole ≡ rules.Code.stop → None ≡ at whole
  unfolding verdict
  at_end whole is = sym (ap at is)

-- A script has no block past its statements.
pub no_block : (s : Script) (block : ℕ) → 64 < block → block_at (codes_of s) block ≡ rules.Code.stop
unfolding codes_of
no_block s block h =
    let es = grown_exprs (items_of s.exprs) in
    let ns = items_of s.stmts in
    get_or_past (grown_codes es ns) block rules.Code.stop
    (omega (arith, grow_length (code_of es) (rules.Code.stop ∷ []) ns, length-take s.stmts.len s.stmts.items, s.stmts.fits))
