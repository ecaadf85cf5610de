-- One name more in scope.
use Rattle.std.proofs.Common.{◌≡◌, refl, ℕ, suc, Bool, true, false, cond, List, [], ◌∷◌, ◌++◌, length, get_or, ap, ◌∙◌, add-one, arith}
use mathlib.Core.Path.{fun_ext}
use Rattle.std.proofs.lemmas.Bool.Decides.{nat_tests}
use Rattle.std.proofs.lemmas.Grind.{common_steps}
use Rattle.std.proofs.lemmas.List.{length_push}
use Rattle.inplace.specs.Held.{held}
use Rattle.rules.specs.Lots.{upd}
use Rattle.rules.specs.Scoping.{nameable}
use Rattle.rules.specs.Evaluation.{Valuation}
use Rattle.runner.specs.declared.env.Env.{Env}
use Rattle.runner.specs.declared.env.Name.{Name}
use Rattle.runner.specs.declared.env.Name.TheVariants.{Variable, Index, Cursor}
use Rattle.runner.specs.Names.{vendor_of, cells_of, depth_of, val_of, val_with, cursors_of, cursors_with, Renamed}

-- What is read from the names at a level, after one more.
module _ {A : Type 0} (read : Name → A) (names : List Name) (name : Name) where
  read_more : ◌≡◌ {A = ℕ → A} (λ j. read (get_or (names ++ name ∷ []) j Variable)) (upd (λ j. read (get_or names j Variable)) (length names) (read name))
  read_more = fun_ext (λ j. grind (arith, common_steps, nat_tests))

  read_same : read name ≡ read Variable → ◌≡◌ {A = ℕ → A} (λ j. read (get_or (names ++ name ∷ []) j Variable)) (λ j. read (get_or names j Variable))
  read_same same = fun_ext (λ j. grind (arith, common_steps, nat_tests))

module _ (was is : Env) (mine : is.mine ≡ was.mine) (vendors : is.vendors ≡ was.vendors) where
  val_by : {f g : ℕ → ℕ} → f ≡ g → ◌≡◌ {A = Valuation} (record { mine = is.mine; indexes = f }) (record { mine = was.mine; indexes = g })
  val_by same = cc

  val_more : (name : Name) → held is.names ≡ held was.names ++ name ∷ [] → val_of is ≡ val_with was name
  unfolding val_of
  val_more Variable e = val_by (ap (λ xs j. vendor_of (get_or xs j Variable)) e ∙ read_same vendor_of (held was.names) Variable refl)
  val_more (Index v) e = val_by (ap (λ xs j. vendor_of (get_or xs j Variable)) e ∙ read_more vendor_of (held was.names) (Index v))
  val_more (Cursor row) e = val_by (ap (λ xs j. vendor_of (get_or xs j Variable)) e ∙ read_same vendor_of (held was.names) (Cursor row) refl)

  cursors_more : (name : Name) → held is.names ≡ held was.names ++ name ∷ [] → cursors_of is ≡ cursors_with was name
  unfolding cursors_of
  cursors_more Variable e = ap (λ xs j. cells_of (get_or xs j Variable)) e ∙ read_same cells_of (held was.names) Variable refl
  cursors_more (Index v) e = ap (λ xs j. cells_of (get_or xs j Variable)) e ∙ read_same cells_of (held was.names) (Index v) refl
  cursors_more (Cursor row) e = ap (λ xs j. cells_of (get_or xs j Variable)) e ∙ read_more cells_of (held was.names) (Cursor row)

  -- what the list of names has become tells what they stand for
  pub renamed : (name : Name) (room : Bool) → room ≡ nameable (depth_of was) → held is.names ≡ cond room (held was.names ++ name ∷ []) (held was.names)
      → Renamed was is (val_with was name) (cursors_with was name)
  unfolding val_of cursors_of
  renamed name room r e = go room r e
    where
      go : (b : Bool) → b ≡ nameable (depth_of was) → held is.names ≡ cond b (held was.names ++ name ∷ []) (held was.names) → Renamed was is (val_with was name) (cursors_with was name)
      go true r e = record {
        vendors = vendors;
        depth = ap length e ∙ length_push (held was.names) name ∙ add-one (depth_of was) ∙ ap (λ b. cond b (suc (depth_of was)) (depth_of was)) r;
        val_is = val_more name e ∙ ap (λ b. cond b (val_with was name) (val_of was)) r;
        cursors_are = cursors_more name e ∙ ap (λ b. cond b (cursors_with was name) (cursors_of was)) r;
      }
      go false r e = record {
        vendors = vendors;
        depth = ap length e ∙ ap (λ b. cond b (suc (depth_of was)) (depth_of was)) r;
        val_is = val_by (ap (λ xs j. vendor_of (get_or xs j Variable)) e) ∙ ap (λ b. cond b (val_with was name) (val_of was)) r;
        cursors_are = ap (λ xs j. cells_of (get_or xs j Variable)) e ∙ ap (λ b. cond b (cursors_with was name) (cursors_of was)) r;
      }
