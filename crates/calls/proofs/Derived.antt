-- The `==` that an enum derives decides whether two values are the same, where that of each variant's fields does.
use Rattle.std.proofs.Common.{◌≡◌, Bool, true, false, ◌&&◌, List, [], ◌∷◌, Decides, ◌⊎◌, sym, refl, ap, ap₂, subst, inl, inr}
use Rattle.std.proofs.lemmas.Bool.{false≢true}
use Rattle.std.proofs.lemmas.Bool.Decides.{Decides-like, Decides-and}
use denote.Struct.Field.{Field}
use denote.Struct.Values.{Values}
use denote.Enum.Declared.{Record, Choice, values_one, left_or, right_or}
use denote.Enum.Compared.{Each, by}

abbrev pub EachDecides : (Fss : List (List Field)) → Each Bool Fss → Type 0
EachDecides [] each = Unit {0}
EachDecides (Fs ∷ Fss) each = ((x y : Values Fs) → Decides (each.0 x y) (x ≡ y)) × EachDecides Fss each.1

abbrev OnLeft : {A B : Type 0} → A ⊎ B → Type 0
OnLeft (inl x) = Unit {0}
OnLeft (inr y) = ⊥

choices : (Fss : List (List Field)) (each : Each Bool Fss) → EachDecides Fss each → (c d : Choice Fss) → Decides (by false false Fss each c d) (c ≡ d)
choices [] each all c d = absurd c
choices (Fs ∷ Fss) each all (inl x) (inl y) = Decides-like (each.0 x y) (ap inl) (ap (left_or x)) (all.0 x y)
choices (Fs ∷ Fss) each all (inl x) (inr y) = (λ t. absurd (false≢true t), λ e. absurd (subst OnLeft e tt))
choices (Fs ∷ Fss) each all (inr x) (inl y) = (λ t. absurd (false≢true t), λ e. absurd (subst OnLeft (sym e) tt))
choices (Fs ∷ Fss) each all (inr x) (inr y) = Decides-like (by false false Fss each.1 x y) (ap inr) (ap (right_or x)) (choices Fss each.1 all.1 x y)

pub values_decide : (N : Record) (each : Each Bool N.parts) → EachDecides N.parts each → (a b : N.D)
    → Decides (by false false N.parts each (N.as_values a) (N.as_values b)) (a ≡ b)
values_decide N each all a b =
    Decides-like (by false false N.parts each (N.as_values a) (N.as_values b)) (values_one N a b) (ap N.as_values)
    (choices N.parts each all (N.as_values a) (N.as_values b))

-- no field, one, and two
pub none : (x y : Unit {0}) → Decides true (x ≡ y)
none x y = (λ _. refl, λ _. refl)

module _ {A : Type 0} {E : A → A → Bool} (decides : (a b : A) → Decides (E a b) (a ≡ b)) where
  pub one : (x y : A × Unit {0}) → Decides (E x.0 y.0) (x ≡ y)
  one x y = Decides-like (E x.0 y.0) (ap (λ a. (a, tt))) (ap (λ z. z.0)) (decides x.0 y.0)

module _ {A B : Type 0} {E : A → A → Bool} {F : B → B → Bool} (left : (a b : A) → Decides (E a b) (a ≡ b)) (right : (a b : B) → Decides (F a b) (a ≡ b)) where
  pub two : (x y : A × (B × Unit {0})) → Decides (E x.0 y.0 && F x.1.0 y.1.0) (x ≡ y)
  two x y =
      Decides-like (E x.0 y.0 && F x.1.0 y.1.0) (λ e. ap₂ (λ a b. (a, (b, tt))) e.0 e.1) (λ e. (ap (λ z. z.0) e, ap (λ z. z.1.0) e))
      (Decides-and (E x.0 y.0) (F x.1.0 y.1.0) (left x.0 y.0) (right x.1.0 y.1.0))
