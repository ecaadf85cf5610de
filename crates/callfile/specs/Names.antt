-- How the lattices are named.
use Rattle.std.specs.Prelude.{◌≡◌, ℕ, List, codes, Ok, Err, Result}
use Rattle.callfile.specs.declared.command.LatticeName.{LatticeName}
use Rattle.callfile.specs.declared.command.LatticeName.TheVariants.{Compartments, Contributors, Grades}
use Rattle.callfile.specs.declared.fault.Fault.{Fault}
use Rattle.callfile.specs.declared.fault.Fault.TheVariants.{NoLattice}

abbrev pub written : LatticeName → List ℕ
written Compartments = codes "compartments"
written Contributors = codes "contributors"
written Grades = codes "grades"

-- A text is read as the lattice that is written so, and is refused where there is none.
abbrev pub Names : List ℕ → Result LatticeName Fault → Type 0
Names text (Ok name) = text ≡ written name
Names text (Err why) = (why ≡ NoLattice) × ((name : LatticeName) → text ≡ written name → ⊥)
