use Rattle.std.proofs.Common.{◌+◌, map, set, length, sym, refl, ap, ◌∙◌, subst, length-set}
use Rattle.std.proofs.lemmas.Bool.{leb-true, leb-false}
use Rattle.rules.specs.Pairs.{laid}
use Rattle.inplace.specs.Held.{held}
use Rattle.lots.specs.Lots.{span_of, lot_in, OnlyIn}
use Rattle.lots.specs.Tables.{lots_in}
use Rattle.lots.proofs.SlotWrites.{pairs_with, kept_with, lots_with, full, room_left, only_put, newest_put, put_lent, outside, nothing_written}
use Rattle.lots.proofs.table.Table.enter.Goals as goal

pub invariant_of-self : goal.invariant_of-self
invariant_of-self c =
    let s = c.args.self.now in
    let k = c.in-Some.ensures in
    record {
      whole = s.whole;
      kept = ap (λ ls. laid 0 256 (map span_of ls)) c.set.ensures ∙ kept_with s c.args.vendor c.in-Some.lot k.0 k.1 _ refl;
    }

pub returns-then-is_full-clause-lots : goal.returns-then-is_full-clause-lots
returns-then-is_full-clause-lots c =
    let s = c.args.self.now in
    let v = c.args.vendor in
    let l = c.in-Some.lot in
    let k = c.in-Some.ensures in
    ap (map (lot_in s.slots)) c.set.ensures ∙ lots_with s v l k.0 k.1 s.slots _ (nothing_written _ _)
    ∙ ap (λ n. set (lots_in s) v (record { rows = (lot_in s.slots l).rows; lost = n })) c.saturating_add.ensures
    ∙ ap (set (lots_in s) v) (sym (full s v l k.0 k.1 (held c.args.row) (leb-true _ _ (sym c.is_full.ensures ∙ c.if-is_full.true))))

pub returns-then-is_full-clause-pairs : goal.returns-then-is_full-clause-pairs
returns-then-is_full-clause-pairs c =
    let k = c.in-Some.ensures in
    ap (map span_of) c.set.ensures ∙ pairs_with c.args.self.now c.args.vendor c.in-Some.lot k.0 k.1 _ refl

pub invariant_of-self-2 : goal.invariant_of-self-2
invariant_of-self-2 c =
    let s = c.args.self.now in
    let l = c.in-Some.lot in
    let k = c.in-Some.ensures in
    let room = leb-false _ _ (sym c.is_full.ensures ∙ c.if-is_full.false) in
    let e = c.all.ensures in
    let put = put_lent s c.args.vendor l k.0 k.1 c.args.row room _ _ _ e.start e.end c.add.ensures in
    record {
      whole = ap length put ∙ length-set s.slots (l.offset + l.count) c.args.row ∙ s.whole;
      kept = ap (λ ls. laid 0 256 (map span_of ls)) c.set-2.ensures ∙ kept_with s c.args.vendor l k.0 k.1 _ refl;
    }

pub returns-clause-lots : goal.returns-clause-lots
returns-clause-lots c =
    let s = c.args.self.now in
    let v = c.args.vendor in
    let l = c.in-Some.lot in
    let k = c.in-Some.ensures in
    let row = c.args.row in
    let room = leb-false _ _ (sym c.is_full.ensures ∙ c.if-is_full.false) in
    let e = c.all.ensures in
    let put = put_lent s v l k.0 k.1 row room _ _ _ e.start e.end c.add.ensures in
    ap (λ slots. map (lot_in slots) (held c.set-2.new.self)) put
    ∙ ap (map (lot_in (set s.slots (l.offset + l.count) row))) c.set-2.ensures ∙ lots_with s v l k.0 k.1 _ _ (only_put s v l k.0 k.1 row room)
    ∙ ap (λ rs. set (lots_in s) v (record { rows = rs; lost = l.lost })) (newest_put s v l k.0 k.1 row room)
    ∙ ap (set (lots_in s) v) (sym (room_left s v l k.0 k.1 (held row) room))

pub returns-clause-pairs : goal.returns-clause-pairs
returns-clause-pairs c =
    let k = c.in-Some.ensures in
    ap (map span_of) c.set-2.ensures ∙ pairs_with c.args.self.now c.args.vendor c.in-Some.lot k.0 k.1 _ refl

pub returns-clause-outside : goal.returns-clause-outside
returns-clause-outside c =
    let s = c.args.self.now in
    let v = c.args.vendor in
    let l = c.in-Some.lot in
    let k = c.in-Some.ensures in
    let row = c.args.row in
    let room = leb-false _ _ (sym c.is_full.ensures ∙ c.if-is_full.false) in
    let e = c.all.ensures in
    let put = put_lent s v l k.0 k.1 row room _ _ _ e.start e.end c.add.ensures in
    outside s v l k.0 k.1 _ (subst (OnlyIn (span_of l) s.slots) (sym put) (only_put s v l k.0 k.1 row room))
