-- What some texts are read to, over the small plan of three vendors and two tables.
use Rattle.std.specs.Prelude.{◌≡◌, ℕ, zero, suc, Bool, true, List, [], ◌∷◌, ◌++◌, replicate, is_ok, Ok, Err, codes}
use Rattle.rules.specs.declared.refusal.Refusal.TheVariants.{TextTooLong, NoToken, Unexpected, WrongName, NameTaken, OutsidePlan, ExpressionCount, WrittenInEach, LimitPassed}
use Rattle.rules.specs.Scripts.Index.{number}
use Rattle.rules.specs.Scripts.Op.{largest}
use Rattle.rules.specs.Scripts.Expr.{literal, mine, cell, apply}
use Rattle.rules.specs.Scripts.Code.{stop, alter}
use Rattle.rules.specs.Examples.{small_plan, count_mine, count_all, count_guarded, drop_twos, set_behind, set_under_if, set_under_when}
use Rattle.grammar.specs.Reading.{reading}

-- Texts that are read to scripts.
pub record Scripts : Type 0 where
  pub nothing : reading small_plan [] ≡ Ok stop
  pub own : reading small_plan (codes "var n at 1[me]; each r in @0[me] { set n = (n + 1); } add @1[me] (n);") ≡ Ok count_mine
  pub all : reading small_plan (codes "var n at 1[me]; vendors v { each r in @0[v] { set n = (n + 1); } } add @1[me] (n);") ≡ Ok count_all
  pub guarded :
      reading small_plan (codes "var n at 1[me]; vendors v { when v = me { each r in @0[v] { set n = (n + 1); } } } add @1[me] (n);") ≡ Ok count_guarded
  pub twos : reading small_plan (codes "drop r in @0[me] where (r.1 = 2);") ≡ Ok drop_twos
  pub behind : reading small_plan (codes "var k at open; each r in @0[me] { } set k = 1;") ≡ Ok set_behind
  pub under_if : reading small_plan (codes "var n at 1[me]; var k at open; if n { } else { set k = 1; }") ≡ Ok set_under_if
  pub under_when : reading small_plan (codes "var k at open; when me = 0 { set k = 1; }") ≡ Ok set_under_when
  pub altered : reading small_plan (codes "alter r in @0[2].1=(r.0 max me)where 1;")
      ≡ Ok (alter 0 0 (number 2) 1 (apply largest (cell 0 0) mine) (literal 1) stop)

-- Texts that are refused, each at its place.
pub record Refusals : Type 0 where
  pub written_inside : reading small_plan (codes "each r in @0[me] { drop q in @0[0] where 1; }") ≡ Err (WrittenInEach 30)
  -- no token, and no such token here
  pub no_token : reading small_plan (codes "var n at ?") ≡ Err (NoToken 9)
  pub ends_early : reading small_plan (codes "var n at  ") ≡ Err (Unexpected 10)
  pub keyword_for_name : reading small_plan (codes "var me at open;") ≡ Err (Unexpected 4)
  pub closes_nothing : reading small_plan (codes "}") ≡ Err (Unexpected 0)
  pub nothing_added : reading small_plan (codes "add @1[me] ();") ≡ Err (Unexpected 12)
  -- names: unknown, of the wrong kind, taken, out of scope
  pub unknown : reading small_plan (codes "set n = 1;") ≡ Err (WrongName 4)
  pub cursor_alone : reading small_plan (codes "each r in @0[me] { if r { } }") ≡ Err (WrongName 22)
  pub variable_dotted : reading small_plan (codes "var n at open; set n = n.0;") ≡ Err (WrongName 23)
  pub not_in_its_label : reading small_plan (codes "vendors v { } var n at 1[v];") ≡ Err (WrongName 25)
  pub not_in_its_lot : reading small_plan (codes "each r in @0[r] { }") ≡ Err (WrongName 13)
  pub taken : reading small_plan (codes "var n at open; vendors n { }") ≡ Err (NameTaken 23)
  -- numbers outside the plan
  pub no_family : reading small_plan (codes "var n at 4[me];") ≡ Err (OutsidePlan 9)
  pub no_table : reading small_plan (codes "each r in @2[me] { }") ≡ Err (OutsidePlan 11)
  pub no_vendor : reading small_plan (codes "each r in @0[3] { }") ≡ Err (OutsidePlan 13)
  pub no_column : reading small_plan (codes "drop r in @1[0] where r.1;") ≡ Err (OutsidePlan 24)
  -- too many and too few expressions
  pub too_many : reading small_plan (codes "add @1[me] (1, ?") ≡ Err (ExpressionCount 13)
  pub too_few : reading small_plan (codes "add @0[me] (1);") ≡ Err (ExpressionCount 13)
  -- nesting
  pub third_vendors : reading small_plan (codes "vendors a { vendors b { vendors c { } } }") ≡ Err (LimitPassed 24)
  pub ninth_paren : reading small_plan (codes "if (((((((((1 + 1)") ≡ Err (LimitPassed 11)
  pub ninth_block : reading small_plan (codes "if 1{if 1{if 1{if 1{if 1{if 1{if 1{if 1{if 1{") ≡ Err (LimitPassed 44)

-- A text some times over, and a variable for each of these letters.
abbrev pub times : ℕ → List ℕ → List ℕ
times zero text = []
times (suc n) text = text ++ times n text

abbrev pub variables : List ℕ → List ℕ
variables [] = []
variables (l ∷ ls) = codes "var " ++ (l ∷ codes " at open;" ++ variables ls)

-- A statement with eight atoms.
abbrev pub eight : List ℕ
eight = codes "if(((1+1)+(1+1))+((1+1)+(1+1))){}"

abbrev pub is_read : List ℕ → Bool
is_read text = is_ok (reading small_plan text)

-- The limits on bytes, statements, atoms and names, each as far as it goes and one past it.
pub record Limits : Type 0 where
  pub bytes : reading small_plan (replicate 2048 32) ≡ Ok stop
  pub one_byte_more : reading small_plan (replicate 2049 32) ≡ Err (TextTooLong 2048)
  pub statements : is_read (times 64 (codes "if 1{}")) ≡ true
  pub one_statement_more : reading small_plan (times 65 (codes "if 1{}")) ≡ Err (LimitPassed 384)
  pub no_statement : reading small_plan (times 64 (codes "if 1{}") ++ codes "where") ≡ Err (Unexpected 384)
  pub atoms : is_read (times 16 eight) ≡ true
  pub one_atom_more : reading small_plan (times 16 eight ++ codes "if 1{}") ≡ Err (LimitPassed 531)
  pub wrong_name_first : reading small_plan (times 16 eight ++ codes "if n{}") ≡ Err (WrongName 531)
  pub names : is_read (variables (codes "abcdefghijklmnop")) ≡ true
  pub one_name_more : reading small_plan (variables (codes "abcdefghijklmnopq")) ≡ Err (LimitPassed 228)
  pub taken_first : reading small_plan (variables (codes "abcdefghijklmnopa")) ≡ Err (NameTaken 228)
