-- What a list of nodes stands for, each by what those before it stand for.
use Rattle.std.specs.Prelude.{List, [], ◌∷◌, ◌++◌}

abbrev pub grow : {N M : Type 0} → (List M → N → M) → List M → List N → List M
grow one acc [] = acc
grow one acc (n ∷ ns) = grow one (acc ++ one acc n ∷ []) ns
