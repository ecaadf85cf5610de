-- A small bench with scripts and calls on it, worked out; and what becomes of the promise without the judge.
use Rattle.std.specs.Prelude.{◌≡◌, ℕ, List, [], ◌∷◌, length, Some, Ok, Err, Result, ◌≢◌, nat_lt}
use Rattle.rules.specs.declared.refusal.Refusal.{Refusal}
use Rattle.rules.specs.declared.refusal.Refusal.TheVariants.{PairRule, LotFull, NotCleared, FlowNotAllowed, FigureTooHigh}
use Rattle.rules.specs.declared.answer.Answer.{Answer}
use Rattle.rules.specs.declared.answer.Answer.TheVariants.{Done, Figure, Cell, Rows, Steps, Refused}
use Rattle.lattice.specs.Order.{Order, Laws}
use Rattle.lattice.specs.Built.{compartments, contributors, grades}
use Rattle.rules.specs.Guards.{sift, and_then}
use Rattle.rules.specs.Pairs.{Pair}
use Rattle.rules.specs.Plans.{Plan, Table, declare}
use Rattle.rules.specs.Scripts.{Expr, Code}
use Rattle.rules.specs.Scripts.Index.{number, me, index}
use Rattle.rules.specs.Scripts.Mark.{opened, tag_of}
use Rattle.rules.specs.Scripts.Op.{plus, equal}
use Rattle.rules.specs.Scripts.Expr.{literal, variable, cell, apply}
use Rattle.rules.specs.Scripts.Code.{stop, var, set, if, when, vendors, each, add, drop}
use Rattle.rules.specs.Figures.{figure}
use Rattle.rules.specs.Judging.{judge}
use Rattle.rules.specs.Admission.{Reading, Admission, admit_code, admission}
use Rattle.rules.specs.Calls.{new_bench, Call, answers}
use Rattle.rules.specs.Calls.Call.{post, admit, run, look, count, meter}
use Rattle.rules.specs.Agreement.{strike, Agree, heard}

abbrev pub pair : ℕ → ℕ → Pair
pair offset size = record { offset = offset; length = size }

-- Three vendors. Table 0 has rows of family 1 and columns of families 1 and 2, with four slots for each vendor; table 1 has
-- rows and a column of family 1, with two.
abbrev pub small_plan : Plan
small_plan = record {
  vendors = 3;
  tables =
      record { row = 1; columns = 1 ∷ 2 ∷ []; lots = pair 0 4 ∷ pair 4 4 ∷ pair 8 4 ∷ [] }
      ∷ record { row = 1; columns = 1 ∷ []; lots = pair 0 2 ∷ pair 2 2 ∷ pair 4 2 ∷ [] } ∷ [];
}

-- The same tables for one vendor.
abbrev pub single_plan : Plan
single_plan = record {
  vendors = 1;
  tables =
      record { row = 1; columns = 1 ∷ 2 ∷ []; lots = pair 0 4 ∷ [] }
      ∷ record { row = 1; columns = 1 ∷ []; lots = pair 0 2 ∷ [] } ∷ [];
}

abbrev pub one_more : Expr
one_more = apply plus (variable 0) (literal 1)

-- Count the vendor's own rows of table 0, and add the number to table 1:
-- var n at 1[me]; each r in @0[me] { set n = (n + 1); } add @1[me] (n);
abbrev pub count_mine : Code
count_mine = var (tag_of 1 me) (each 0 me (set 35 0 one_more stop) (add 54 1 me (variable 0 ∷ []) stop))

-- Count all vendors' rows:
-- var n at 1[me]; vendors v { each r in @0[v] { set n = (n + 1); } } add @1[me] (n);
abbrev pub count_all : Code
count_all = var (tag_of 1 me) (vendors (each 0 (index 1) (set 46 0 one_more stop) stop) (add 67 1 me (variable 0 ∷ []) stop))

-- Go through all vendors, and count the own rows:
-- var n at 1[me]; vendors v { when v = me { each r in @0[v] { set n = (n + 1); } } } add @1[me] (n);
abbrev pub count_guarded : Code
count_guarded =
    var (tag_of 1 me) (vendors (when (index 1) me (each 0 (index 1) (set 60 0 one_more stop) stop) stop stop) (add 83 1 me (variable 0 ∷ []) stop))

-- Drop rows by a cell of another family: drop r in @0[me] where (r.1 = 2);
abbrev pub drop_twos : Code
drop_twos = drop 0 0 me (apply equal (cell 0 1) (literal 2)) stop

-- Behind a block the context is what it was before: an open variable may be set behind an `each`, and not in it.
-- var k at open; each r in @0[me] { } set k = 1;
abbrev pub set_behind : Code
set_behind = var opened (each 0 me stop (set 36 0 (literal 1) stop))

-- var k at open; each r in @0[me] { set k = 1; }
abbrev pub set_inside : Code
set_inside = var opened (each 0 me (set 34 0 (literal 1) stop) stop)

-- A condition raises the context of both its blocks, and an equal pair of indexes raises none:
-- var n at 1[me]; var k at open; if n { } else { set k = 1; }
abbrev pub set_under_if : Code
set_under_if = var (tag_of 1 me) (var opened (if (variable 0) stop (set 47 1 (literal 1) stop) stop))

-- var k at open; when me = 0 { set k = 1; }
abbrev pub set_under_when : Code
set_under_when = var opened (when me (number 0) (set 29 0 (literal 1) stop) stop stop)

-- Allowed for vendor 0 and for no other: var n at 1[0]; each r in @0[me] { set n = 1; }
abbrev pub only_for_0 : Code
only_for_0 = var (tag_of 1 (number 0)) (each 0 me (set 34 0 (literal 1) stop) stop)

-- Dropping inside an `each` over another vendor's lot tells the one of the other: each r in @0[1] { drop q in @1[0] where 1; }
abbrev pub drop_inside : Code
drop_inside = each 0 (number 1) (drop 18 1 (number 0) (literal 1) stop) stop

-- A reading that gives one script, whatever the text.
abbrev pub gives : Code → Reading
gives code plan text = Ok code

-- The answers of a list of calls on a new bench of the small plan, under compartments.
abbrev pub play : Code → List Call → List Answer
play code calls = answers compartments (admission compartments (gives code) small_plan) small_plan new_bench calls

-- What an admission of a script answers: its figure.
abbrev pub figure_of : Order → Plan → Code → Result ℕ Refusal
figure_of o plan code = and_then (admit_code o plan 0 code) (λ script. Ok script.figure)

abbrev pub three_pairs : ℕ → Table
three_pairs start = record { row = 1; columns = 1 ∷ []; lots = pair 0 4 ∷ pair start 4 ∷ pair 8 4 ∷ [] }

-- The worked cases.
pub record Worked : Type 0 where
  pub nothing : figure_of compartments small_plan stop ≡ Ok 0
  -- counting the own rows
  pub mine : figure_of compartments small_plan count_mine ≡ Ok 11
  -- with three rows of vendor 1 in table 0, a run for vendor 1 takes 9 steps and adds a row with 3
  pub mine_runs : play count_mine
      (post 0 1 (7 ∷ 7 ∷ []) ∷ post 0 1 (8 ∷ 8 ∷ []) ∷ post 0 1 (9 ∷ 9 ∷ []) ∷ admit 0 [] ∷ run 0 1 ∷ meter 256 ∷ look 65 1 1 0 0 ∷ [])
      ≡ Done ∷ Done ∷ Done ∷ Figure 11 ∷ Figure 11 ∷ Steps 9 ∷ Cell 3 ∷ []
  -- after three such runs, two rows, and one lost
  pub mine_thrice : play count_mine
      (post 0 1 (7 ∷ 7 ∷ []) ∷ post 0 1 (8 ∷ 8 ∷ []) ∷ post 0 1 (9 ∷ 9 ∷ []) ∷ admit 0 [] ∷ run 0 1 ∷ run 0 1 ∷ run 0 1 ∷ count 65 1 1 ∷ [])
      ≡ Done ∷ Done ∷ Done ∷ Figure 11 ∷ Figure 11 ∷ Figure 11 ∷ Figure 11 ∷ Rows 2 1 ∷ []
  -- counting all rows breaks a flow rule, but not for one vendor, nor where all vendors share their labels
  pub all : figure_of compartments small_plan count_all ≡ Err (FlowNotAllowed 46)
  pub all_single : figure_of compartments single_plan count_all ≡ Ok 13
  pub all_grades : figure_of grades small_plan count_all ≡ Ok 33
  pub guarded : figure_of compartments small_plan count_guarded ≡ Ok 36
  -- dropping rows by a cell that is above them
  pub twos : figure_of compartments small_plan drop_twos ≡ Err (FlowNotAllowed 0)
  pub twos_contributors : figure_of contributors small_plan drop_twos ≡ Ok 5
  -- the context: raised in a block, put back behind it, by `if` and `each` and not by `when`, and counted in a `drop`
  pub behind : figure_of compartments small_plan set_behind ≡ Ok 7
  pub inside : figure_of compartments small_plan set_inside ≡ Err (FlowNotAllowed 34)
  pub under_if : figure_of compartments small_plan set_under_if ≡ Err (FlowNotAllowed 47)
  pub under_when : figure_of compartments small_plan set_under_when ≡ Ok 3
  pub for_others : figure_of compartments small_plan only_for_0 ≡ Err (FlowNotAllowed 34)
  pub dropping : figure_of compartments small_plan drop_inside ≡ Err (FlowNotAllowed 18)
  -- pairs that touch, one of them empty, and pairs that overlap
  pub pairs_touch : declare (record { vendors = 3; tables = [] }) (record { row = 1; columns = 1 ∷ []; lots = pair 0 4 ∷ pair 4 0 ∷ pair 4 252 ∷ [] })
      ≡ Ok (record { vendors = 3; tables = record { row = 1; columns = 1 ∷ []; lots = pair 0 4 ∷ pair 4 0 ∷ pair 4 252 ∷ [] } ∷ [] })
  pub pairs_overlap : declare (record { vendors = 3; tables = [] }) (three_pairs 3) ≡ Err PairRule
  -- a fifth post to a lot of four is sent back, and nothing is lost
  pub fifth : play stop
      (post 0 0 (1 ∷ 1 ∷ []) ∷ post 0 0 (2 ∷ 2 ∷ []) ∷ post 0 0 (3 ∷ 3 ∷ []) ∷ post 0 0 (4 ∷ 4 ∷ []) ∷ post 0 0 (5 ∷ 5 ∷ []) ∷ count 64 0 0 ∷ [])
      ≡ Done ∷ Done ∷ Done ∷ Done ∷ Refused LotFull ∷ Rows 4 0 ∷ []
  -- vendor 1's clearance: its own lot, but not that of vendor 2, nor a column of another family
  pub cleared : play stop (post 0 1 (5 ∷ 6 ∷ []) ∷ count 65 0 1 ∷ count 65 0 2 ∷ look 65 0 1 0 0 ∷ look 65 0 1 0 1 ∷ [])
      ≡ Done ∷ Rows 1 0 ∷ Refused NotCleared ∷ Cell 5 ∷ Refused NotCleared ∷ []
  -- at vendor 0's label its own post stays, vendor 1's is struck out, and one to a table that does not exist stays
  pub struck : strike compartments small_plan 64 (post 0 0 (1 ∷ 1 ∷ []) ∷ post 0 1 (2 ∷ 2 ∷ []) ∷ post 9 1 [] ∷ [])
      ≡ post 0 0 (1 ∷ 1 ∷ []) ∷ post 9 1 [] ∷ []
  -- and neither vendor 1's post nor a read with vendor 1's clearance is heard there
  pub unheard : heard compartments (admission compartments (gives stop) small_plan) small_plan 64 new_bench
      (post 0 1 (2 ∷ 2 ∷ []) ∷ count 65 0 1 ∷ count 64 0 1 ∷ count 64 0 0 ∷ [])
      ≡ Refused NotCleared ∷ Rows 0 0 ∷ []

-- An admission without the judge.
abbrev pub unjudged : Reading → Plan → Admission
unjudged read plan text =
    and_then (read plan text) (λ code. sift (record { holds = nat_lt 1000000 (figure plan code); why = FigureTooHigh (length text) } ∷ []) (Ok (record { code = code; figure = figure plan code })))

-- Add a row to vendor 0's lot for each row of vendor 1: each r in @0[1] { add @1[0] (1); }
abbrev pub leak : Code
leak = each 0 (number 1) (add 18 1 (number 0) (literal 1 ∷ []) stop) stop

abbrev pub leak_tail : List Call
leak_tail = admit 0 [] ∷ run 0 0 ∷ count 64 1 0 ∷ []

-- The promise rests on the judge: with a script that it refuses, on a bench that does not ask it, two lists that agree at
-- vendor 0's label are answered differently there.
pub record RestsOnTheJudge : Type 0 where
  pub lawful : Laws compartments
  pub refused : judge compartments small_plan leak ≡ Some 18
  pub agree : Agree compartments small_plan 64 (post 0 1 (7 ∷ 7 ∷ []) ∷ leak_tail) leak_tail
  pub differ : heard compartments (unjudged (gives leak) small_plan) small_plan 64 new_bench (post 0 1 (7 ∷ 7 ∷ []) ∷ leak_tail)
      ≢ heard compartments (unjudged (gives leak) small_plan) small_plan 64 new_bench leak_tail
