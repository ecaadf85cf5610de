use Rattle.std.proofs.Common.{◌<◌, ◌≤◌, ◌++◌, map, length, take, set, sym, ap, ◌∙◌, append-nil, arith}
use lib.ListN.{length-map}
use Rattle.std.proofs.lemmas.List.{map-set, get_or-map, take_all, drop_all}
use Rattle.std.proofs.lemmas.List.Edits.{map_over_more}
use Rattle.inplace.specs.Held.{held}
use Rattle.lots.specs.Rows.{changed}
use Rattle.lots.proofs.RowLists.{newest_changed}
use Rattle.lots.proofs.part.alter_by.Goals as goal

pub loop-row-preserved : goal.loop-row-preserved
loop-row-preserved g c =
    let change = changed c.args.column (g.V.Reading.reads c.args.value.now) (g.C.Reading.reads c.args.condition.now) in
    let i = c.loop-row.row-index in
    let rows = c.loop-row.rows in
    let was : i < length (map held c.args.rows.now) = simp length-map (c.loop-row-test.true) in
    map-set held rows i c.altered.result ∙ ap (set (map held rows) i) c.altered.ensures
    ∙ map_over_more change (map held c.args.rows.now) (map held rows) i _ was c.loop-row.invariant (sym (get_or-map held rows i c.row-item.result _ (omega (arith, c.loop-row.auto.rows))))

pub returns : goal.returns
returns g c =
    let change = changed c.args.column (g.V.Reading.reads c.args.value.now) (g.C.Reading.reads c.args.condition.now) in
    let rows = map held c.args.rows.now in
    let end : length rows ≤ c.loop-row.row-index = simp length-map c.loop-row-test.false in
    newest_changed change c.args.rows.now c.loop-row.rows
    (c.loop-row.invariant ∙ ap (λ rest. map change (take c.loop-row.row-index rows) ++ rest) (drop_all c.loop-row.row-index rows end) ∙ append-nil _
    ∙ ap (map change) (take_all c.loop-row.row-index rows end))
