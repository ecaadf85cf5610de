-- The list that an `ArrayVec` holds: the front of its array.
use Rattle.std.specs.Prelude.{ℕ, List, take}
use Rattle.inplace.specs.declared.array_vec.ArrayVec.{ArrayVec}

abbrev pub held : {T : Type 0} {N : ℕ} → ArrayVec T N → List T
held v = take v.len v.items
