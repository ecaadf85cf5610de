-- What reading leaves of a script's nodes.
use Rattle.std.proofs.Common.{◌≡◌, ◌+◌, ◌<◌, List, [], ◌∷◌, ◌++◌, length, get_or, sym, refl, ap, ◌∙◌, arith, length-append}
use Rattle.std.proofs.lemmas.List.{get_or_push}
use Rattle.rules.specs.Scripts as rules
use Rattle.inplace.specs.Held.{held}
use Rattle.grammar.specs.declared.counts.Counts.{Counts}
use Rattle.grammar.specs.Statements.{with_atoms}
use Rattle.script.specs.declared.script.Script.{Script}
use Rattle.script.specs.Nodes.{code_of, block_at}
use Rattle.script.specs.Meaning.{grown_exprs, codes_of}
use Rattle.script.proofs.Grown.{grow_length, grow_front}
use Rattle.reading.specs.Terms.{Kept, Stay, Larger}

pub more_length : {A : Type 0} (es is : List A) (x : A) → is ≡ es ++ x ∷ [] → length is ≡ length es + 1
more_length es is x e = ap length e ∙ length-append es (x ∷ [])

pub newest : {A : Type 0} (none : A) (es is : List A) (x : A) → is ≡ es ++ x ∷ [] → get_or is (length es) none ≡ x
newest none es is x e = ap (λ l. get_or l (length es) none) e ∙ get_or_push es x none (length es) refl

pub stay_self : {A : Type 0} (none : A) (es : List A) → Stay none es es
stay_self none es = record { longer = omega arith; same = λ k h. refl }

-- The same of a script's expressions.
kept_of : (was is : List rules.Expr) → Stay (rules.Expr.literal 0) was is → Kept was is
kept_of was is s = record { longer = s.longer; same = s.same }

pub kept_self : (es : List rules.Expr) → Kept es es
kept_self es = kept_of es es (stay_self (rules.Expr.literal 0) es)

-- Every script has the empty block, as its first.
pub some_block : (s : Script) → 0 < length (codes_of s)
unfolding codes_of
some_block s = let e = grow_length (code_of (grown_exprs (held s.exprs))) (rules.Code.stop ∷ []) (held s.stmts) in omega (arith, e)

pub empty_first : (s : Script) → block_at (codes_of s) 0 ≡ rules.Code.stop
unfolding codes_of
empty_first s = sym (grow_front (code_of (grown_exprs (held s.exprs))) (rules.Code.stop ∷ []) (held s.stmts) 0 rules.Code.stop (omega arith))

-- Nothing was pushed.
pub larger_self : (es : List rules.Expr) (cs : List rules.Code) (counts : Counts) → Larger es es cs cs counts counts
larger_self es cs counts = record {
  nodes = omega arith;
  exprs = kept_self es;
  stays = stay_self rules.Code.stop cs;
  begun = omega arith;
}

-- Where only atoms were counted.
pub counted : (was now : Counts) → now.begun ≡ was.begun → now ≡ with_atoms was now.atoms
counted was now e = ap (λ n. with_atoms (record { begun = n; atoms = now.atoms }) now.atoms) e
