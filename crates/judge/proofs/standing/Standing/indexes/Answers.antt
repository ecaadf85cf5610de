use Rattle.std.proofs.Common.{◌≡◌, ◌<◌, ◌∷◌, [], ◌++◌, length, get_or, sym, ap, ◌∙◌, arith, length-append}
use Rattle.std.proofs.lemmas.List.{length-take}
use Rattle.std.proofs.lemmas.Bool.{lt-ltb, cond-true}
use Rattle.inplace.specs.Held.{held}
use Rattle.judge.specs.Names.{scope_of, val_of}
use Rattle.judge.specs.declared.name.Name.TheVariants.{Unknown}
use Rattle.judge.specs.Breaking.{indexes_below}
use Rattle.judge.proofs.Levels.{turn_below, none_below}
use Rattle.judge.proofs.standing.Standing.indexes.Goals as goal
use Rattle.judge.proofs.standing.Standing.indexes.Goals.{in-Turn, in_default}

pub loop-name-preserved : goal.loop-name-preserved
loop-name-preserved c =
    let s = c.args.self.now in
    let n = c.loop-name.name-index in
    let so_far = c.loop-name.invariant in
    elim c.match-name.branch [
      | in-Turn w ↦
          let v = w.in-Turn.vendor in
          let room : length (held c.loop-name.vendors) < 64 = omega (arith, ap length c.as_slice-name-items.ensures, length-take s.names.len s.names.items, s.names.fits) in
          let all : held c.match-name.vendors ≡ held c.loop-name.vendors ++ v ∷ [] = ap held w.vendors-is ∙ w.push.ensures.after ∙ cond-true _ _ _ (w.push.ensures.value ∙ lt-ltb _ 64 room) in
          record {
            items = all ∙ ap (λ ys. ys ++ v ∷ []) so_far.items ∙ sym (turn_below s n v (ap (λ ys. get_or ys n Unknown) (sym c.as_slice-name-items.ensures) ∙ w.in-Turn.is));
            few = omega (arith, ap length all, length-append (held c.loop-name.vendors) (v ∷ []));
          }
      | in_default w ↦
          record {
            items = ap held w.vendors-is ∙ so_far.items ∙ sym (none_below s n (λ v e. w.in_default.not-Turn v (ap (λ ys. get_or ys n Unknown) c.as_slice-name-items.ensures ∙ e)));
            few = omega (arith, ap (λ ys. length (held ys)) w.vendors-is);
          }
    ]

pub returns : goal.returns
unfolding scope_of
returns c =
    let all : c.loop-name.name-index ≡ (scope_of c.args.self.now).depth = omega (arith, ap length c.as_slice-name-items.ensures) in
    c.loop-name.invariant.items ∙ ap (indexes_below (scope_of c.args.self.now) (val_of c.args.self.now)) all
