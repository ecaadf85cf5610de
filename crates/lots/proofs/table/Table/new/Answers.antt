use Rattle.std.proofs.Common.{◌≡◌, ◌≤◌, List, [], map, length, take, drop, sym, ap, ◌∙◌, subst, arith, length-take}
use lib.ListN.{length-map}
use Rattle.std.proofs.lemmas.List.{get_or-map}
use Rattle.inplace.specs.Held.{held}
use Rattle.rules.specs.Pairs.{Pair, end}
use Rattle.rules.specs.Lots.{Lot, no_rows}
use Rattle.rules.proofs.PairRule.{laid_within}
use Rattle.layout.specs.Pairs.{pair_of}
use Rattle.lots.specs.Rows.{Row, newest}
use Rattle.lots.specs.Lots.{span_of, lot_in}
use Rattle.lots.proofs.Opened.{pushed, more}
use Rattle.lots.proofs.table.Table.new.Goals as goal

pub new-requires-in-loop-pair : goal.new-requires-in-loop-pair
new-requires-in-loop-pair c =
    let ps = c.args.pairs.now in
    let low = c.loop-pair-test.true in
    subst (λ (p : Pair). end p ≤ 256) (get_or-map pair_of ps c.loop-pair.pair-index _ (record { offset = 0; length = 0 }) low)
    (laid_within 0 256 (map pair_of ps) c.requires.0 c.loop-pair.pair-index (simp length-map low))

pub loop-pair-preserved : goal.loop-pair-preserved
loop-pair-preserved c =
    let ps = c.args.pairs.now in
    let i = c.loop-pair.pair-index in
    let low = c.loop-pair-test.true in
    let lots = held c.loop-pair.lots in
    let new = c.new-in-loop-pair.result in
    let made = c.new-in-loop-pair.ensures in
    let as_many : length lots ≡ i =
    sym (length-map lots span_of) ∙ ap length c.loop-pair.invariant.0 ∙ length-map (take i ps) pair_of ∙ length-take i ps ∙ omega arith in
    let grown = pushed lots (held c.push.new.self) new c.push.result c.push.ensures.value c.push.ensures.after (omega (arith, as_many, low, c.requires.1)) in
    let none : (rows : List Row) → lot_in rows new ≡ no_rows =
    λ rows. ap (λ n. let l : Lot = record { rows = newest (take n (drop new.offset rows)); lost = new.lost } in l) made.empty.0
    ∙ ap (λ n. let l : Lot = record { rows = []; lost = n } in l) made.empty.1 in (
      more span_of pair_of lots (held c.push.new.self) new ps i _ low grown c.loop-pair.invariant.0 made.span,
      λ rows. more (lot_in rows) (λ _. no_rows) lots (held c.push.new.self) new ps i (record { offset = 0; length = 0 }) low grown (c.loop-pair.invariant.1 rows) (none rows),
    )
