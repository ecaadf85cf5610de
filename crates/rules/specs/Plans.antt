-- A plan: the vendor count and the tables; and the calls that make one.
use Rattle.std.specs.Prelude.{ℕ, Bool, true, false, not, ◌&&◌, ◌||◌, List, [], ◌∷◌, ◌++◌, length, Ok, Result, ◌==◌, nat_le, nat_lt}
use Rattle.rules.specs.declared.refusal.Refusal.{Refusal}
use Rattle.rules.specs.declared.refusal.Refusal.TheVariants.{VendorCount, VendorCountFixed, TooManyTables, ColumnCount, FamilyTooHigh, PairCount, PairRule}
use Rattle.rules.specs.Guards.{guard}
use Rattle.rules.specs.Pairs.{Pair, laid}

-- A table of 256 slots: the family of its rows, one family for each column, and for each vendor the pair of slots
-- that is the vendor's lot.
pub record Table : Type 0 where
  pub row : ℕ
  pub columns : List ℕ
  pub lots : List Pair

pub record Plan : Type 0 where
  pub vendors : ℕ
  pub tables : List Table

abbrev pub slots : ℕ
slots = 256

abbrev pub new_plan : Plan
new_plan = record { vendors = 1; tables = [] }

-- Setting the vendor count.
abbrev pub set_vendors : Plan → ℕ → Result Plan Refusal
set_vendors plan count =
    guard (not (nat_le 1 count && nat_le count 32)) VendorCount
    (guard (nat_lt 0 (length plan.tables)) VendorCountFixed
    (Ok (record { vendors = count; tables = plan.tables })))

abbrev pub families_above : List ℕ → Bool
families_above [] = false
families_above (f ∷ fs) = nat_lt 3 f || families_above fs

-- What may be wrong with a table, in the order of the numbers.
abbrev pub no_room : Plan → Bool
no_room plan = nat_le 4 (length plan.tables)

abbrev pub wrong_columns : List ℕ → Bool
wrong_columns columns = not (nat_le 1 (length columns) && nat_le (length columns) 4)

abbrev pub wrong_families : ℕ → List ℕ → Bool
wrong_families row columns = nat_lt 3 row || families_above columns

abbrev pub wrong_count : Plan → List Pair → Bool
wrong_count plan lots = not (length lots == plan.vendors)

abbrev pub wrong_pairs : List Pair → Bool
wrong_pairs lots = not (laid 0 slots lots)

-- A plan with one table more.
abbrev pub with_table : Plan → Table → Plan
with_table plan table = record { vendors = plan.vendors; tables = plan.tables ++ table ∷ [] }

-- Declaring a table.
abbrev pub declare : Plan → Table → Result Plan Refusal
declare plan table =
    guard (no_room plan) TooManyTables
    (guard (wrong_columns table.columns) ColumnCount
    (guard (wrong_families table.row table.columns) FamilyTooHigh
    (guard (wrong_count plan table.lots) PairCount
    (guard (wrong_pairs table.lots) PairRule
    (Ok (with_table plan table))))))

-- What every plan keeps: one pair for each vendor in each table, under the rule of pairs, and every number within its
-- limit.
abbrev pub sound_table : ℕ → Table → Bool
sound_table vendors table =
    nat_le 1 (length table.columns) && (nat_le (length table.columns) 4 && (nat_le table.row 3 && (not (families_above table.columns)
    && (length table.lots == vendors && laid 0 slots table.lots))))

abbrev pub sound_tables : ℕ → List Table → Bool
sound_tables vendors [] = true
sound_tables vendors (t ∷ ts) = sound_table vendors t && sound_tables vendors ts

abbrev pub sound : Plan → Bool
sound plan = nat_le 1 plan.vendors && (nat_le plan.vendors 32 && (nat_le (length plan.tables) 4 && sound_tables plan.vendors plan.tables))
