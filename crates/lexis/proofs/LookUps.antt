-- Looking a code up in a table.
use Rattle.std.proofs.Common.{◌≡◌, ℕ, Bool, true, false, eqb, List, [], ◌∷◌, Some, None, Option, refl, ap, ◌∙◌}
use denote.Ref.{Bor}
use Rattle.std.specs.Option.{option_map}
use Rattle.std.specs.List.{find}
use Rattle.lexis.specs.declared.keywords.Entry.{Entry}
use Rattle.lexis.specs.Table.{entry_with}

entry_found : (code : ℕ) (table : List Entry) → option_map (λ e. e.1) (find (λ e. eqb e.0 code) table) ≡ entry_with code table
entry_found code [] = refl
entry_found code (e ∷ es) = go (eqb e.0 code) refl (entry_found code es)
  where
    go : (t : Bool) → eqb e.0 code ≡ t → option_map (λ x. x.1) (find (λ x. eqb x.0 code) es) ≡ entry_with code es
        → option_map (λ x. x.1) (find (λ x. eqb x.0 code) (e ∷ es)) ≡ entry_with code (e ∷ es)
    go true h rest = rw h
    go false h rest = rw h rest

pub looked_up : (code : ℕ) (table : List Entry) (o : Option (Bor Entry)) → option_map (λ x. x.now) o ≡ find (λ e. eqb e.0 code) table
    → option_map (λ x. x.now.1) o ≡ entry_with code table
looked_up code table None h = ap (option_map (λ e. e.1)) h ∙ entry_found code table
looked_up code table (Some x) h = ap (option_map (λ e. e.1)) h ∙ entry_found code table
