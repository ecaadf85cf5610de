use Rattle.std.proofs.Common.{◌≡◌, ℕ, max, List, [], ◌∷◌, map, rules, refl, ◌∙◌, sym, ap, arith}
use Rattle.std.specs.List.{reduce, fold}
use Rattle.std.specs.Option.{unwrap_or, option_map}
use Rattle.std.proofs.lemmas.Iterator.{YieldsList-from_slice, YieldsList-from_map}
use Rattle.std.proofs.lemmas.Iterator.Consumers.{max_from_yields_List, YieldsList-at}
use Rattle.std.proofs.lemmas.Iterator.Adapters.{option_map_id}
use Rattle.layout.specs.Pairs.{pair_of}
use Rattle.layout.specs.declared.pair.Pair.{Pair}
use Rattle.rules.specs.Lots.{longest_of}
use Rattle.figures.proofs.longest_pair.Goals as goal

abbrev long : Pair → ℕ
long p = p.length

most : (n : ℕ) (xs : List Pair) → fold max n (map long xs) ≡ max n (longest_of (map pair_of xs))
most n [] = omega arith
most n (x ∷ xs) = most (max n x.length) xs ∙ omega arith

longest : (xs : List Pair) → unwrap_or (reduce max (map long xs)) 0 ≡ longest_of (map pair_of xs)
longest [] = refl
longest (x ∷ xs) = most x.length xs

pub returns : goal.returns
returns c =
    let best : option_map (λ (n : ℕ). n) c.max.result ≡ reduce max (map long c.args.pairs.now) =
    max_from_yields_List c.map.result c.max.result c.max.ensures.ran
    (YieldsList-from_map _ long (YieldsList-at c.map.ensures.source (YieldsList-from_slice c.args.pairs.now cc)) c.map.ensures.closure (λ x r q k. search rules)) in
    c.unwrap_or.ensures ∙ ap (λ o. unwrap_or o 0) (sym (option_map_id c.max.result) ∙ best) ∙ longest c.args.pairs.now
