-- What the parts of a statement have: they move on within the text, and what they name is in scope and inside the plan.
use Rattle.std.proofs.Common.{◌≡◌, ℕ, zero, suc, ◌+◌, ◌<◌, ◌≤◌, Bool, true, false, ◌&&◌, leb, List, length, Some, None, Ok, Option, Result, refl, arith}
use Rattle.rules.specs.declared.refusal.Refusal.{Refusal}
use Rattle.rules.specs.declared.refusal.Refusal.TheVariants.{NameTaken, LimitPassed}
use Rattle.rules.specs.Guards.{guard}
use Rattle.std.proofs.lemmas.Bool.{leb-false, lt-ltb, le-leb, and_from}
use Rattle.rules.specs.Plans.{Plan}
use Rattle.rules.specs.Lots.{last_word}
use Rattle.rules.specs.Scripts as rules
use Rattle.rules.specs.Scoping.{index_scoped, mark_scoped, expr_scoped}
use Rattle.rules.specs.Inside.{index_inside}
use Rattle.rules.specs.Keeping.{expr_fits}
use Rattle.grammar.specs.declared.marks.Mark.TheVariants.{OpenBracket, CloseBracket, CloseParen, AtSign, Dot}
use Rattle.grammar.specs.declared.scopes.NameKind.{NameKind}
use Rattle.grammar.specs.declared.scopes.NameKind.TheVariants.{Variable, Index, Cursor}
use Rattle.grammar.specs.Tokens.{Token, keyword, mark, name, number, end, Found, token_at, is_mark, next_is}
use Rattle.grammar.specs.TokenRule.{Is}
use Rattle.grammar.specs.Scopes.{Scope, Bound, look_up, use_name, of_kind, may_make, in_scope, is_index, is_cursor, has_value}
use Rattle.grammar.specs.Steps.{Part, Seen, expect, name_in, a_name, number_in, a_number}
use Rattle.grammar.specs.Clauses.{index_in, read_index, read_owner, Lot, walked, read_table, read_lot, label_in, read_label}
use Rattle.grammar.specs.Expressions.{Term, count_atom, atom, value_of, valued, cursor_table, read_column, name_atom, op_found, op_in, read_op, term_in, term_with, one_deeper, too_deep, read_expr}
use Rattle.grammar.proofs.TokenLaws.{next_read, tokens_lie_within}
use Rattle.grammar.proofs.ScopeLaws.{found_names_are_there}
use Rattle.grammar.proofs.Gives.{Gives, done, sent, chain, past}

-- From one place on to a later one, within the text.
pub record Moves (text : List ℕ) (place after : ℕ) : Type 0 where
  pub on : place ≤ after
  pub within : after ≤ length text

pub moved : (text : List ℕ) (a b c : ℕ) → Moves text a b → Moves text b c → Moves text a c
moved text a b c m n = record { on = omega (arith, m.on, n.on); within = n.within }

-- A token that was found.
pub record Got (text : List ℕ) (place : ℕ) (f : Found) : Type 0 where
  pub before : place ≤ f.place
  pub starts : f.place ≤ f.after
  pub moves : Moves text place f.after
  pub is : Is text f.place f.after f.token

module _ (text : List ℕ) where
  pub token_gives : (place : ℕ) → place ≤ length text → Gives (token_at text place) (Got text place)
  token_gives place h = record {
    holds = λ f e.
        let l = tokens_lie_within text place h f e in
        record { before = l.from; starts = l.order; moves = record { on = omega (arith, l.from, l.order); within = l.within }; is = (next_read text place h f e).is };
  }

  pub expect_gives : (asked : Token → Bool) (place : ℕ) → place ≤ length text → Gives (expect text asked place) (Got text place)
  expect_gives asked place h =
      chain _ _ _ _ (token_gives place h) (λ f g. past _ _ _ _ (λ _. done (Got text place) f g))

  pub name_gives : (place : ℕ) → place ≤ length text → Gives (a_name text place) (λ n. Moves text place n.after)
  name_gives place h = chain _ _ _ _ (token_gives place h) (λ f g. go f f.token g.moves)
    where
      P : Seen (List ℕ) → Type 0
      P n = Moves text place n.after

      go : (f : Found) (t : Token) → Moves text place f.after → Gives (name_in f t) (λ n. Moves text place n.after)
      go f (keyword k) m = sent _ _
      go f (mark k) m = sent _ _
      go f (name ls) m = done (λ n. Moves text place n.after) _ m
      go f (number ds v) m = sent _ _
      go f end m = sent _ _

  pub record NumberRead (place : ℕ) (n : Seen ℕ) : Type 0 where
    pub moves : Moves text place n.after
    pub fits : n.value ≤ last_word

  pub number_gives : (place : ℕ) → place ≤ length text → Gives (a_number text place) (NumberRead place)
  number_gives place h = chain _ _ _ _ (token_gives place h) (λ f g. go f f.token g.moves g.is)
    where
      go : (f : Found) (t : Token) → Moves text place f.after → Is text f.place f.after t → Gives (number_in f t) (NumberRead place)
      go f (keyword k) m i = sent _ _
      go f (mark k) m i = sent _ _
      go f (name ls) m i = sent _ _
      go f (number ds v) m i = done (NumberRead place) _ (record { moves = m; fits = omega (arith, i.fits) })
      go f end m i = sent _ _

  -- a name that is used is in scope
  pub use_gives : (place : ℕ) (asked : NameKind → Bool) (word : List ℕ) (scope : Scope)
      → Gives (use_name place asked word scope) (λ b. b.level < length scope)
  use_gives place asked word scope = go (look_up word scope) refl
    where
      go : (o : Option Bound) → look_up word scope ≡ o → Gives (of_kind place asked o) (λ b. b.level < length scope)
      go None e = sent _ _
      go (Some b) e = past _ _ _ _ (λ _. done (λ c. c.level < length scope) b (found_names_are_there word scope b e).inside)

  pub make_gives : (place : ℕ) (word : List ℕ) (scope : Scope) → Gives (may_make place word scope) (λ _. length scope < 16)
  make_gives place word scope =
      past (in_scope word scope) (NameTaken place) (guard (leb 16 (length scope)) (LimitPassed place) (Ok tt)) _ (λ _.
      past (leb 16 (length scope)) (LimitPassed place) (Ok tt) _ (λ h. done (λ _. length scope < 16) tt (leb-false 16 (length scope) h)))

  count_gives : (place atoms : ℕ) → Gives (count_atom place atoms) (λ _. Unit {0})
  count_gives place atoms = past (leb 128 atoms) (LimitPassed place) (Ok (atoms + 1)) (λ _. Unit {0}) (λ _. done (λ _. Unit {0}) (atoms + 1) tt)

  module _ (plan : Plan) (scope : Scope) where
    pub record IndexRead (place : ℕ) (i : Part rules.Index) : Type 0 where
      pub moves : Moves text place i.after
      pub names : index_scoped (length scope) i.value ≡ true
      pub within : index_inside plan i.value ≡ true

    pub index_gives : (place : ℕ) → place ≤ length text → Gives (read_index text plan scope place) (IndexRead place)
    index_gives place h = chain _ _ _ _ (token_gives place h) (λ f g. go f f.token g.moves)
      where
        go : (f : Found) (t : Token) → Moves text place f.after → Gives (index_in plan scope f t) (IndexRead place)
        go f (keyword k) m = past _ _ _ _ (λ _. done (IndexRead place) _ (record { moves = m; names = refl; within = refl }))
        go f (mark k) m = sent _ _
        go f (name ls) m =
            chain _ _ _ _ (use_gives f.place is_index ls scope)
            (λ b l. done (IndexRead place) _ (record { moves = m; names = lt-ltb b.level (length scope) l; within = refl }))
        go f (number ds v) m =
            past _ _ _ _ (λ e. done (IndexRead place) _
            (record { moves = m; names = refl; within = lt-ltb v plan.vendors (leb-false plan.vendors v e) }))
        go f end m = sent _ _

    pub owner_gives : (place : ℕ) → place ≤ length text → Gives (read_owner text plan scope place) (IndexRead place)
    owner_gives place h =
        chain _ _ _ _ (expect_gives (is_mark OpenBracket) place h) (λ b g.
        chain _ _ _ _ (index_gives b.after g.moves.within) (λ i r.
        chain _ _ _ _ (expect_gives (is_mark CloseBracket) i.after r.moves.within) (λ c q.
        done (IndexRead place) _ (record {
          moves = moved text place i.after c.after (moved text place b.after i.after g.moves r.moves) q.moves;
          names = r.names;
          within = r.within;
        }))))

    record TableRead (written : Bool) (from : ℕ) (t : Part ℕ) : Type 0 where
      moves : Moves text from t.after
      inside : t.value < length plan.tables
      free : (written && walked t.value scope) ≡ false

    table_gives : (written : Bool) (from : ℕ) → from ≤ length text → Gives (read_table text plan scope written from) (TableRead written from)
    table_gives written from k =
        chain _ _ _ _ (number_gives from k) (λ n r.
        past _ _ _ _ (λ e. past _ _ _ _ (λ d.
        done (TableRead written from) _ (record { moves = r.moves; inside = leb-false (length plan.tables) n.value e; free = d }))))

    pub record LotRead (written : Bool) (place : ℕ) (l : Part Lot) : Type 0 where
      pub moves : Moves text place l.after
      pub names : index_scoped (length scope) l.value.owner ≡ true
      pub within : index_inside plan l.value.owner ≡ true
      pub table : l.value.table < length plan.tables
      pub free : (written && walked l.value.table scope) ≡ false

    pub lot_gives : (written : Bool) (place : ℕ) → place ≤ length text → Gives (read_lot text plan scope written place) (LotRead written place)
    lot_gives written place h =
        chain _ _ _ _ (expect_gives (is_mark AtSign) place h) (λ a g.
        chain _ _ _ _ (table_gives written a.after g.moves.within) (λ t r.
        chain _ _ _ _ (owner_gives t.after r.moves.within) (λ i q.
        done (LotRead written place) _ (record {
          moves = moved text place t.after i.after (moved text place a.after t.after g.moves r.moves) q.moves;
          names = q.names;
          within = q.within;
          table = r.inside;
          free = r.free;
        }))))

    pub record LabelRead (place : ℕ) (l : Part (rules.Mark rules.Index)) : Type 0 where
      pub moves : Moves text place l.after
      pub names : mark_scoped (length scope) l.value ≡ true

    pub label_gives : (place : ℕ) → place ≤ length text → Gives (read_label text plan scope place) (LabelRead place)
    label_gives place h = chain _ _ _ _ (token_gives place h) (λ f g. go f f.token g.moves)
      where
        go : (f : Found) (t : Token) → Moves text place f.after → Gives (label_in text plan scope f t) (LabelRead place)
        go f (keyword k) m = past _ _ _ _ (λ _. done (LabelRead place) (record { value = rules.Mark.opened; after = f.after }) (record { moves = m; names = refl }))
        go f (mark k) m = sent _ _
        go f (name ls) m = sent _ _
        go f (number ds v) m =
            past _ _ _ _ (λ _. chain _ _ _ _ (owner_gives f.after m.within) (λ i r.
            done (LabelRead place) (record { value = rules.Mark.tag_of v i.value; after = i.after }) (record { moves = moved text place f.after i.after m r.moves; names = r.names })))
        go f end m = sent _ _

    pub column_gives : (table place : ℕ) → place ≤ length text → Gives (read_column text plan table place) (λ c. Moves text place c.after)
    column_gives table place h =
        chain _ _ _ _ (number_gives place h) (λ n r. past _ _ _ _ (λ _. done (λ c. Moves text place c.after) _ r.moves))

    pub record TermRead (place : ℕ) (e : Term) : Type 0 where
      pub moves : Moves text place e.after
      pub names : expr_scoped (length scope) e.value ≡ true
      pub fits : expr_fits e.value ≡ true

    atom_gives : (from : ℕ) (e : rules.Expr) (place after atoms : ℕ) → Moves text from after
        → expr_scoped (length scope) e ≡ true → expr_fits e ≡ true → Gives (atom e place after atoms) (TermRead from)
    atom_gives from e place after atoms m n fit =
        chain (count_atom place atoms) _ (λ _. Unit {0}) _ (count_gives place atoms)
        (λ k _. done (TermRead from) (record { value = e; after = after; atoms = k }) (record { moves = m; names = n; fits = fit }))

    valued_scoped : (kind : NameKind) (level : ℕ) → level < length scope → expr_scoped (length scope) (value_of kind level) ≡ true
    valued_scoped Variable level h = lt-ltb level (length scope) h
    valued_scoped Index level h = lt-ltb level (length scope) h
    valued_scoped (Cursor t) level h = refl

    valued_fits : (kind : NameKind) (level : ℕ) → expr_fits (value_of kind level) ≡ true
    valued_fits Variable level = refl
    valued_fits Index level = refl
    valued_fits (Cursor t) level = refl

    name_atom_gives : (from place : ℕ) (ls : List ℕ) (after atoms : ℕ) (dot : Bool) → Moves text from after
        → Gives (name_atom text plan scope place ls after atoms dot) (TermRead from)
    name_atom_gives from place ls after atoms true m =
        chain _ _ _ _ (use_gives place is_cursor ls scope) (λ b l.
        chain _ _ _ _ (count_gives place atoms) (λ n _.
        chain _ _ _ _ (expect_gives (is_mark Dot) after m.within) (λ d g.
        chain _ _ _ _ (column_gives (cursor_table b.kind) d.after g.moves.within) (λ c q.
        done (TermRead from) _ (record {
          moves = moved text from d.after c.after (moved text from after d.after m g.moves) q;
          names = lt-ltb b.level (length scope) l;
          fits = refl;
        })))))
    name_atom_gives from place ls after atoms false m =
        chain _ _ _ _ (use_gives place has_value ls scope) (λ b l.
        atom_gives from (valued b) place after atoms m (valued_scoped b.kind b.level l) (valued_fits b.kind b.level))

    op_gives : (place : ℕ) → place ≤ length text → Gives (read_op text place) (λ o. Moves text place o.after)
    op_gives place h = chain _ _ _ _ (token_gives place h) (λ f g. go f (op_in f.token) g.moves)
      where
        go : (f : Found) (o : Option rules.Op) → Moves text place f.after → Gives (op_found f o) (λ x. Moves text place x.after)
        go f None m = sent _ _
        go f (Some op) m = done (λ x. Moves text place x.after) _ m

    -- an expression, given what follows an opening parenthesis
    term_gives : (pair : Found → ℕ → Result Term Refusal)
        → ((place : ℕ) (f : Found) (atoms : ℕ) → Moves text place f.after → Gives (pair f atoms) (TermRead place))
        → (place atoms : ℕ) → place ≤ length text → Gives (term_with text plan scope pair place atoms) (TermRead place)
    term_gives pair inner place atoms h = chain _ _ _ _ (token_gives place h) (λ f g. go f f.token g.moves g.is)
      where
        go : (f : Found) (t : Token) → Moves text place f.after → Is text f.place f.after t → Gives (term_in text plan scope pair atoms f t) (TermRead place)
        go f (keyword k) m i = past _ _ _ _ (λ _. atom_gives place rules.Expr.mine f.place f.after atoms m refl refl)
        go f (mark k) m i = past _ _ _ _ (λ _. inner place f atoms m)
        go f (name ls) m i = name_atom_gives place f.place ls f.after atoms (next_is text f.after (is_mark Dot)) m
        go f (number ds v) m i = atom_gives place (rules.Expr.literal v) f.place f.after atoms m refl (le-leb v last_word (omega (arith, i.fits)))
        go f end m i = sent _ _

    pair_gives : (inner : ℕ → ℕ → Result Term Refusal) → ((from atoms : ℕ) → from ≤ length text → Gives (inner from atoms) (TermRead from))
        → (place : ℕ) (f : Found) (atoms : ℕ) → Moves text place f.after → Gives (one_deeper text inner f atoms) (TermRead place)
    pair_gives inner each place f atoms m =
        chain _ _ _ _ (each f.after atoms m.within) (λ l a.
        chain _ _ _ _ (op_gives l.after a.moves.within) (λ op o.
        chain _ _ _ _ (each op.after l.atoms o.within) (λ r b.
        chain _ _ _ _ (expect_gives (is_mark CloseParen) r.after b.moves.within) (λ c q.
        done (TermRead place) _ (record {
          moves = moved text place r.after c.after
              (moved text place op.after r.after (moved text place l.after op.after (moved text place f.after l.after m a.moves) o) b.moves) q.moves;
          names = and_from (expr_scoped (length scope) l.value) (expr_scoped (length scope) r.value) a.names b.names;
          fits = and_from (expr_fits l.value) (expr_fits r.value) a.fits b.fits;
        })))))

    pub expr_gives : (depth place atoms : ℕ) → place ≤ length text → Gives (read_expr text plan scope depth place atoms) (TermRead place)
    unfolding read_expr
    expr_gives zero place atoms h = term_gives too_deep (λ p f n m. sent _ _) place atoms h
    expr_gives (suc depth) place atoms h =
        term_gives (one_deeper text (read_expr text plan scope depth)) (pair_gives (read_expr text plan scope depth) (expr_gives depth)) place atoms h
