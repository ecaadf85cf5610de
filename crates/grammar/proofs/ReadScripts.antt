-- What every script that is read has, statement by statement.
use Rattle.std.proofs.Common.{◌≡◌, ℕ, zero, suc, ◌+◌, ◌-◌, ◌<◌, ◌≤◌, Bool, true, false, ◌&&◌, ◌||◌, eqb, ltb, leb, List, [], ◌∷◌, ◌++◌, length, get_or, Some, None, Ok, Err, Option, Result, refl, ◌∙◌, arith}
use Rattle.std.proofs.lemmas.List.{length_push}
use Rattle.std.proofs.lemmas.Bool.{and_parts, and_from, leb-true, lt-ltb}
use Rattle.rules.specs.declared.refusal.Refusal.{Refusal}
use Rattle.rules.specs.declared.refusal.Refusal.TheVariants.{LimitPassed}
use Rattle.rules.specs.Guards.{and_then}
use Rattle.rules.specs.Plans.{Plan, Table, sound, sound_table, sound_tables}
use Rattle.rules.specs.Lots.{width}
use Rattle.rules.specs.Scripts as rules
use Rattle.rules.specs.Scripts.{Expr, Code}
use Rattle.rules.specs.Scoping.{expr_scoped, exprs_scoped}
use Rattle.rules.specs.Keeping.{expr_fits, exprs_fit}
use Rattle.grammar.specs.declared.keywords.Keyword.TheVariants.{At, Else, In, Where}
use Rattle.grammar.specs.declared.marks.Mark.TheVariants.{OpenBrace, CloseBrace, OpenParen, Semicolon, Dot, Equals}
use Rattle.grammar.specs.declared.openings.Opening.{Opening}
use Rattle.grammar.specs.declared.openings.Opening.TheVariants as opens
use Rattle.grammar.specs.Tokens.{Token, Found, is_mark, is_keyword, next_is}
use Rattle.grammar.specs.TokenList.{is_end}
use Rattle.grammar.specs.Scopes.{Scope, is_variable}
use Rattle.grammar.specs.Steps.{Seen, opening}
use Rattle.grammar.specs.Clauses.{walked}
use Rattle.grammar.specs.Expressions.{Term, most_parens}
use Rattle.grammar.specs.Statements.{Env, Counts, Block, Statement, Blocks, Over, Values, Behind, with_atoms, read_block, else_if, read_else, new_name, ending, read_var, read_set, two_blocks, read_if, read_when, turning, read_vendors, visiting, read_over, read_each, last_value, more_values, read_values, read_add, visited, read_where, read_drop, Target, read_target, Change, read_change, read_alter, read_statement, behind}
use Rattle.grammar.specs.Statements.Behind.{comma, close, other}
use Rattle.grammar.specs.Reading.{Going, at_token, rest_with, in_front, read_rest, reading}
use Rattle.grammar.specs.ReadScripts.{WellMade, ReadScriptsAreWellMade}
use Rattle.grammar.proofs.Gives.{Gives, done, sent, chain, past}
use Rattle.grammar.proofs.ReadParts.{Moves, moved, Got, token_gives, expect_gives, name_gives, use_gives, make_gives, index_gives, lot_gives, label_gives, column_gives, TermRead, expr_gives}
use Rattle.grammar.proofs.GoodCode.{Good, LotGood, widen, good_stop, good_var, good_set, good_add, good_drop, good_alter, good_if, good_when, good_vendors, good_each}

-- In a sound plan every table has a column.
wide : (v : ℕ) (ts : List Table) (t : ℕ) (d : Table) → sound_tables v ts ≡ true → t < length ts → 1 ≤ length (get_or ts t d).columns
wide v [] t d h l = absurd (omega arith)
wide v (x ∷ xs) zero d h l =
    let p = and_parts (sound_table v x) (sound_tables v xs) h in
    let q = and_parts (leb 1 (length x.columns)) _ p.0 in
    leb-true 1 (length x.columns) q.0
wide v (x ∷ xs) (suc t) d h l = wide v xs t d (and_parts (sound_table v x) (sound_tables v xs) h).1 (omega arith)

columns : (plan : Plan) → sound plan ≡ true → (t : ℕ) → t < length plan.tables → 1 ≤ width plan t
columns plan s t h =
    let v = plan.vendors in
    let p = and_parts (leb 1 v) _ s in
    let q = and_parts (leb v 32) _ p.1 in
    let r = and_parts (leb (length plan.tables) 4) (sound_tables v plan.tables) q.1 in
    wide v plan.tables t _ r.1 h

scoped_push : (depth : ℕ) (es : List Expr) (e : Expr) → exprs_scoped depth es ≡ true → expr_scoped depth e ≡ true → exprs_scoped depth (es ++ e ∷ []) ≡ true
scoped_push depth [] e h k = and_from (expr_scoped depth e) true k refl
scoped_push depth (x ∷ xs) e h k =
    let p = and_parts (expr_scoped depth x) (exprs_scoped depth xs) h in
    and_from (expr_scoped depth x) (exprs_scoped depth (xs ++ e ∷ [])) p.0 (scoped_push depth xs e p.1 k)

fits_push : (es : List Expr) (e : Expr) → exprs_fit es ≡ true → expr_fits e ≡ true → exprs_fit (es ++ e ∷ []) ≡ true
fits_push [] e h k = and_from (expr_fits e) true k refl
fits_push (x ∷ xs) e h k =
    let p = and_parts (expr_fits x) (exprs_fit xs) h in
    and_from (expr_fits x) (exprs_fit (xs ++ e ∷ [])) p.0 (fits_push xs e p.1 k)

module _ (text : List ℕ) (plan : Plan) (s : sound plan ≡ true) where
  -- the tables that may not be written where these names are in scope
  abbrev bars : Scope → ℕ → Bool
  bars scope t = walked t scope

  -- a block, or what is left of one
  record BlockRead (scope : Scope) (place : ℕ) (b : Block) : Type 0 where
    moves : Moves text place b.after
    good : Good plan (length scope) (bars scope) place b.after b.code

  -- a reader of blocks
  abbrev Inner : Blocks → Type 0
  Inner inner =
      (scope : Scope) (blocks turns place : ℕ) (counts : Counts) → place ≤ length text
      → Gives (inner (record { plan = plan; scope = scope; blocks = blocks; turns = turns }) place counts) (BlockRead scope place)

  -- a statement whose keyword stands at f
  record StatementRead (scope : Scope) (place after : ℕ) (x : Statement) : Type 0 where
    moves : Moves text after x.after
    joins : (to : ℕ) (rest : Code) → x.after ≤ to → Good plan (length x.scope) (bars x.scope) x.after to rest
        → Good plan (length scope) (bars scope) place to (x.before rest)

  module _ (inner : Blocks) (each : Inner inner) (scope : Scope) (blocks turns : ℕ) where
    abbrev env : Env
    env = record { plan = plan; scope = scope; blocks = blocks; turns = turns }

    -- a block in braces, in an environment of the same plan
    block_gives : (names : Scope) (deep round place : ℕ) (counts : Counts) → place ≤ length text
        → Gives (read_block inner text (record { plan = plan; scope = names; blocks = deep; turns = round }) place counts) (BlockRead names place)
    block_gives names deep round place counts h =
        chain _ _ _ _ (expect_gives text (is_mark OpenBrace) place h) (λ f g.
        past _ _ _ _ (λ _.
        widened f.after g.moves (each names (deep - 1) round f.after counts g.moves.within)))
      where
        widened : (from : ℕ) → Moves text place from → {r : Result Block Refusal} → Gives r (BlockRead names from) → Gives r (BlockRead names place)
        widened from m g = record {
          holds = λ b e.
              let x = g.holds b e in
              record {
                moves = moved text place from b.after m x.moves;
                good = widen plan (length names) (bars names) from place b.after b.after b.code m.on (omega arith) x.good;
              };
        }

    else_gives : (place : ℕ) (counts : Counts) → place ≤ length text → Gives (read_else inner text env place counts) (BlockRead scope place)
    else_gives place counts h = go (next_is text place (is_keyword Else))
      where
        go : (b : Bool) → Gives (else_if inner text env place counts b) (BlockRead scope place)
        go true =
            chain _ _ _ _ (expect_gives text (is_keyword Else) place h) (λ f g.
            moved_on f g.moves (block_gives scope blocks turns f.after counts g.moves.within))
          where
            moved_on : (f : Found) → Moves text place f.after → {r : Result Block Refusal} → Gives r (BlockRead scope f.after) → Gives r (BlockRead scope place)
            moved_on f m g = record {
              holds = λ b e.
                  let x = g.holds b e in
                  record {
                    moves = moved text place f.after b.after m x.moves;
                    good = widen plan (length scope) (bars scope) f.after place b.after b.after b.code m.on (omega arith) x.good;
                  };
            }
        go false = done (BlockRead scope place) _ (record { moves = record { on = omega arith; within = h }; good = good_stop plan (length scope) (bars scope) place place })

    record NameMade (place : ℕ) (n : Seen (List ℕ)) : Type 0 where
      moves : Moves text place n.after
      room : length scope < 16

    new_gives : (place : ℕ) → place ≤ length text → Gives (new_name text env place) (NameMade place)
    new_gives place h =
        chain _ _ _ _ (name_gives text place h) (λ n m.
        chain _ _ _ _ (make_gives text n.place n.value scope) (λ _ r. done (NameMade place) n (record { moves = m; room = r })))

    -- a flat statement, once its parts are read up to a place
    ending_gives : (place after : ℕ) (before : Code → Code) (names : Scope) (to : ℕ) (counts : Counts) → Moves text after to
        → ((mid end : ℕ) (rest : Code) → to ≤ mid → mid ≤ end → Good plan (length names) (bars names) mid end rest → Good plan (length scope) (bars scope) place end (before rest))
        → Gives (ending text before names to counts) (StatementRead scope place after)
    ending_gives place after before names to counts m joins =
        chain _ _ _ _ (expect_gives text (is_mark Semicolon) to m.within) (λ x g.
        done (StatementRead scope place after) _ (record {
          moves = moved text after to x.after m g.moves;
          joins = λ end rest h r. joins x.after end rest g.moves.on h r;
        }))

    module _ (place after : ℕ) (starts : place ≤ after) (inside : after ≤ length text) (counts : Counts) where
      var_gives : Gives (read_var text env place after counts) (StatementRead scope place after)
      var_gives =
          chain _ _ _ _ (new_gives after inside) (λ n x.
          chain _ _ _ _ (expect_gives text (is_keyword At) n.after x.moves.within) (λ a g.
          chain _ _ _ _ (label_gives text plan scope a.after g.moves.within) (λ l y.
          ending_gives place after (rules.Code.var l.value) _ l.after counts
          (moved text after a.after l.after (moved text after n.after a.after x.moves g.moves) y.moves)
          (λ mid to rest h k r.
          let q : place ≤ mid = omega (arith, x.moves.on, g.moves.on, y.moves.on) in
          good_var plan (length scope) (bars scope) place to l.value rest x.room y.names
          (widen plan (suc (length scope)) (bars scope) mid place to to rest q (omega arith) r)))))

      set_gives : Gives (read_set text env place after counts) (StatementRead scope place after)
      set_gives =
          chain _ _ _ _ (name_gives text after inside) (λ n x.
          chain _ _ _ _ (use_gives text n.place is_variable n.value scope) (λ b l.
          chain _ _ _ _ (expect_gives text (is_mark Equals) n.after x.within) (λ q g.
          chain _ _ _ _ (expr_gives text plan scope most_parens q.after counts.atoms g.moves.within) (λ e y.
          ending_gives place after (rules.Code.set place b.level e.value) scope e.after _
          (moved text after q.after e.after (moved text after n.after q.after x g.moves) y.moves)
          (λ mid to rest h k r.
          good_set plan (length scope) (bars scope) place mid to place rest (omega arith) (omega (arith, x.on, g.moves.on, y.moves.on)) k r
          b.level e.value l y.names y.fits)))))

      -- two blocks, with what the statement makes of them
      two_gives : (before : Code → Code → Code → Code) (from : ℕ) (n : Counts) → Moves text after from
          → ((m k to : ℕ) (first second rest : Code) → place ≤ m → m ≤ k → k ≤ to
          → Good plan (length scope) (bars scope) place m first → Good plan (length scope) (bars scope) m k second → Good plan (length scope) (bars scope) k to rest
          → Good plan (length scope) (bars scope) place to (before first second rest))
          → Gives (two_blocks inner text env before from n) (StatementRead scope place after)
      two_gives before from n m joins =
          chain _ _ _ _ (block_gives scope blocks turns from n m.within) (λ a x.
          chain _ _ _ _ (else_gives a.after a.counts x.moves.within) (λ b y.
          done (StatementRead scope place after) _ (record {
            moves = moved text after a.after b.after (moved text after from a.after m x.moves) y.moves;
            joins = λ to rest h r.
                joins a.after b.after to a.code b.code rest (omega (arith, m.on, x.moves.on)) y.moves.on h
                (widen plan (length scope) (bars scope) from place a.after a.after a.code (omega (arith, m.on)) (omega arith) x.good) y.good r;
          })))

      if_gives : Gives (read_if inner text env place after counts) (StatementRead scope place after)
      if_gives =
          chain _ _ _ _ (expr_gives text plan scope most_parens after counts.atoms inside) (λ e y.
          two_gives (rules.Code.if e.value) e.after _ y.moves
          (λ m k to first second rest a b c g h r. good_if plan (length scope) (bars scope) place m k to first second rest a b c g h r e.value y.names))

      when_gives : Gives (read_when inner text env place after counts) (StatementRead scope place after)
      when_gives =
          chain _ _ _ _ (index_gives text plan scope after inside) (λ i x.
          chain _ _ _ _ (expect_gives text (is_mark Equals) i.after x.moves.within) (λ q g.
          chain _ _ _ _ (index_gives text plan scope q.after g.moves.within) (λ j y.
          two_gives (rules.Code.when i.value j.value) j.after counts
          (moved text after q.after j.after (moved text after i.after q.after x.moves g.moves) y.moves)
          (λ m k to first second rest a b c d h r.
          good_when plan (length scope) (bars scope) place m k to first second rest a b c d h r i.value j.value x.names y.names))))

      -- a `vendors` that may still nest
      abbrev turned : Result Statement Refusal
      turned =
          and_then (new_name text env after) (λ n.
          and_then (read_block inner text (turning env n.value) n.after counts) (λ body.
          Ok (record { before = rules.Code.vendors body.code; scope = scope; after = body.after; counts = body.counts })))

      turned_gives : Gives turned (StatementRead scope place after)
      turned_gives =
          chain _ _ _ _ (new_gives after inside) (λ n x.
          chain _ _ _ _ (block_gives (turning env n.value).scope blocks (turns - 1) n.after counts x.moves.within) (λ b y.
          done (StatementRead scope place after) _ (record {
            moves = moved text after n.after b.after x.moves y.moves;
            joins = λ to rest h r.
                let q : place ≤ n.after = omega (arith, x.moves.on) in
                good_vendors plan (length scope) (bars scope) place b.after to b.code rest (omega (arith, x.moves.on, y.moves.on)) h x.room r
                (widen plan (suc (length scope)) (bars scope) n.after place b.after b.after b.code q (omega arith) y.good);
          })))

      vendors_gives : Gives (read_vendors inner text env place after counts) (StatementRead scope place after)
      vendors_gives = past (eqb turns 0) (LimitPassed place) turned (StatementRead scope place after) (λ _. turned_gives)

      record OverRead (written : Bool) (o : Over) : Type 0 where
        moves : Moves text after o.after
        room : length scope < 16
        lot : LotGood plan (length scope) o.lot.table o.lot.owner
        table : o.lot.table < length plan.tables
        free : (written && walked o.lot.table scope) ≡ false

      over_gives : (written : Bool) → Gives (read_over text env written after) (OverRead written)
      over_gives written =
          chain _ _ _ _ (new_gives after inside) (λ n x.
          chain _ _ _ _ (expect_gives text (is_keyword In) n.after x.moves.within) (λ i g.
          chain _ _ _ _ (lot_gives text plan scope written i.after g.moves.within) (λ l y.
          done (OverRead written) _ (record {
            moves = moved text after i.after l.after (moved text after n.after i.after x.moves g.moves) y.moves;
            room = x.room;
            lot = record { names = y.names; within = and_from (ltb l.value.table (length plan.tables)) _ (lt-ltb _ _ y.table) y.within };
            table = y.table;
            free = y.free;
          }))))

      each_gives : Gives (read_each inner text env place after counts) (StatementRead scope place after)
      each_gives =
          chain _ _ _ _ (over_gives false) (λ o x.
          chain _ _ _ _ (block_gives (visiting env o.word o.lot.table).scope blocks turns o.after counts x.moves.within) (λ b y.
          done (StatementRead scope place after) _ (record {
            moves = moved text after o.after b.after x.moves y.moves;
            joins = λ to rest h r.
                let q : place ≤ o.after = omega (arith, x.moves.on) in
                good_each plan (length scope) (bars scope) place b.after to b.code rest (omega (arith, x.moves.on, y.moves.on)) h x.room r
                o.lot.table o.lot.owner x.lot
                (widen plan (suc (length scope)) (λ u. eqb u o.lot.table || walked u scope) o.after place b.after b.after b.code q (omega arith) y.good);
          })))

      record ValuesRead (es : List Expr) (more from : ℕ) (vs : Values) : Type 0 where
        moves : Moves text from vs.after
        names : exprs_scoped (length scope) vs.values ≡ true
        fits : exprs_fit vs.values ≡ true
        many : length vs.values ≡ length es + suc more

      -- the expressions read before
      record Before (es : List Expr) : Type 0 where
        names : exprs_scoped (length scope) es ≡ true
        fits : exprs_fit es ≡ true

      one_more : (from : ℕ) (es : List Expr) (e : Term) → Before es → TermRead text plan scope from e → Before (es ++ e.value ∷ [])
      one_more from es e b y = record { names = scoped_push (length scope) es e.value b.names y.names; fits = fits_push es e.value b.fits y.fits }

      last_gives : (from : ℕ) (es : List Expr) (e : Term) (x : Found) (b : Behind) → Before es → TermRead text plan scope from e → Moves text e.after x.after
          → Gives (last_value es e x b) (ValuesRead es zero from)
      last_gives from es e x comma w y m = sent _ _
      last_gives from es e x close w y m =
          let z = one_more from es e w y in
          done (ValuesRead es zero from) (record { values = es ++ e.value ∷ []; after = x.after; atoms = e.atoms }) (record {
            moves = moved text from e.after x.after y.moves m;
            names = z.names;
            fits = z.fits;
            many = length_push es e.value;
          })
      last_gives from es e x other w y m = sent _ _

      more_gives : (more from : ℕ) (es : List Expr) (e : Term) (x : Found) (next : List Expr → ℕ → ℕ → Result Values Refusal)
          → ((fs : List Expr) (start atoms : ℕ) → Before fs → start ≤ length text → Gives (next fs start atoms) (ValuesRead fs more start))
          → (b : Behind) → Before es → TermRead text plan scope from e → Moves text e.after x.after
          → Gives (more_values es e x next b) (ValuesRead es (suc more) from)
      more_gives more from es e x next all comma w y m = record {
        holds = λ vs q.
            let z = (all (es ++ e.value ∷ []) x.after e.atoms (one_more from es e w y) m.within).holds vs q in
            record {
              moves = moved text from x.after vs.after (moved text from e.after x.after y.moves m) z.moves;
              names = z.names;
              fits = z.fits;
              many = z.many ∙ omega (arith, length_push es e.value);
            };
      }
      more_gives more from es e x next all close w y m = sent _ _
      more_gives more from es e x next all other w y m = sent _ _

      values_gives : (more : ℕ) (es : List Expr) (from atoms : ℕ) → Before es → from ≤ length text → Gives (read_values text plan scope more es from atoms) (ValuesRead es more from)
      unfolding read_values
      values_gives zero es from atoms w h =
          chain _ _ _ _ (expr_gives text plan scope most_parens from atoms h) (λ e y.
          chain _ _ _ _ (token_gives text e.after y.moves.within) (λ x g. last_gives from es e x (behind x.token) w y g.moves))
      values_gives (suc more) es from atoms w h =
          chain _ _ _ _ (expr_gives text plan scope most_parens from atoms h) (λ e y.
          chain _ _ _ _ (token_gives text e.after y.moves.within) (λ x g.
          more_gives more from es e x (read_values text plan scope more) (values_gives more) (behind x.token) w y g.moves))

      add_gives : Gives (read_add text env place after counts) (StatementRead scope place after)
      add_gives =
          chain _ _ _ _ (lot_gives text plan scope true after inside) (λ l y.
          chain _ _ _ _ (expect_gives text (is_mark OpenParen) l.after y.moves.within) (λ p g.
          chain _ _ _ _ (values_gives (width plan l.value.table - 1) [] p.after counts.atoms (record { names = refl; fits = refl }) g.moves.within) (λ vs z.
          ending_gives place after (rules.Code.add place l.value.table l.value.owner vs.values) scope vs.after _
          (moved text after p.after vs.after (moved text after l.after p.after y.moves g.moves) z.moves)
          (λ mid to rest h k r.
          let one : 1 ≤ width plan l.value.table = columns plan s l.value.table y.table in
          good_add plan (length scope) (bars scope) place mid to place rest (omega arith) (omega (arith, y.moves.on, g.moves.on, z.moves.on)) k r
          l.value.table l.value.owner vs.values
          (record { names = y.names; within = and_from (ltb l.value.table (length plan.tables)) _ (lt-ltb _ _ y.table) y.within })
          y.free z.names z.fits (z.many ∙ omega arith)))))

      -- an expression with the cursor of a `drop` or an `alter` in scope
      where_gives : (word : List ℕ) (t place : ℕ) (n : Counts) → place ≤ length text
          → Gives (read_where text (visited env word t) place n) (TermRead text plan (visited env word t).scope place)
      where_gives word t place n h =
          chain _ _ _ _ (expect_gives text (is_keyword Where) place h) (λ w g.
          further w.after g.moves (expr_gives text plan (visited env word t).scope most_parens w.after n.atoms g.moves.within))
        where
          further : (from : ℕ) → Moves text place from → {r : Result Term Refusal} → Gives r (TermRead text plan (visited env word t).scope from)
              → Gives r (TermRead text plan (visited env word t).scope place)
          further from m g = record {
            holds = λ e q. let x = g.holds e q in record { moves = moved text place from e.after m x.moves; names = x.names; fits = x.fits };
          }

      drop_gives : Gives (read_drop text env place after counts) (StatementRead scope place after)
      drop_gives =
          chain _ _ _ _ (over_gives true) (λ o x.
          chain _ _ _ _ (where_gives o.word o.lot.table o.after counts x.moves.within) (λ e y.
          ending_gives place after (rules.Code.drop place o.lot.table o.lot.owner e.value) scope e.after _
          (moved text after o.after e.after x.moves y.moves)
          (λ mid to rest h k r.
          good_drop plan (length scope) (bars scope) place mid to place rest (omega arith) (omega (arith, x.moves.on, y.moves.on)) k r
          o.lot.table o.lot.owner e.value x.room x.lot x.free y.names)))

      record TargetRead (g : Target) : Type 0 where
        moves : Moves text after g.after
        room : length scope < 16
        lot : LotGood plan (length scope) g.lot.table g.lot.owner
        free : (true && walked g.lot.table scope) ≡ false

      target_gives : Gives (read_target text env after) TargetRead
      target_gives =
          chain _ _ _ _ (over_gives true) (λ o x.
          chain _ _ _ _ (expect_gives text (is_mark Dot) o.after x.moves.within) (λ d g.
          chain _ _ _ _ (column_gives text plan scope o.lot.table d.after g.moves.within) (λ c z.
          chain _ _ _ _ (expect_gives text (is_mark Equals) c.after z.within) (λ q k.
          done TargetRead _ (record {
            moves = record { on = omega (arith, x.moves.on, g.moves.on, z.on, k.moves.on); within = k.moves.within };
            room = x.room;
            lot = x.lot;
            free = x.free;
          })))))

      record ChangeRead (word : List ℕ) (t from : ℕ) (e : Change) : Type 0 where
        moves : Moves text from e.after
        value : expr_scoped (suc (length scope)) e.value ≡ true
        fits : expr_fits e.value ≡ true
        condition : expr_scoped (suc (length scope)) e.condition ≡ true

      change_gives : (word : List ℕ) (t from : ℕ) (n : Counts) → from ≤ length text → Gives (read_change text (visited env word t) from n) (ChangeRead word t from)
      change_gives word t from n h =
          chain _ _ _ _ (expr_gives text plan (visited env word t).scope most_parens from n.atoms h) (λ v y.
          chain _ _ _ _ (where_gives word t v.after (with_atoms n v.atoms) y.moves.within) (λ e u.
          done (ChangeRead word t from) _ (record {
            moves = moved text from v.after e.after y.moves u.moves;
            value = y.names;
            fits = y.fits;
            condition = u.names;
          })))

      alter_gives : Gives (read_alter text env place after counts) (StatementRead scope place after)
      alter_gives =
          chain _ _ _ _ target_gives (λ g x.
          chain _ _ _ _ (change_gives g.word g.lot.table g.after counts x.moves.within) (λ e y.
          ending_gives place after (rules.Code.alter place g.lot.table g.lot.owner g.column e.value e.condition) scope e.after _
          (moved text after g.after e.after x.moves y.moves)
          (λ mid to rest h l r.
          good_alter plan (length scope) (bars scope) place mid to place rest (omega arith) (omega (arith, x.moves.on, y.moves.on)) l r
          g.lot.table g.lot.owner g.column e.value e.condition x.room x.lot x.free y.value y.fits y.condition)))

      statement_gives : (start : Opening) → Gives (read_statement inner text env place after counts start) (StatementRead scope place after)
      statement_gives opens.Var = var_gives
      statement_gives opens.Set = set_gives
      statement_gives opens.If = if_gives
      statement_gives opens.When = when_gives
      statement_gives opens.Vendors = vendors_gives
      statement_gives opens.Each = each_gives
      statement_gives opens.Add = add_gives
      statement_gives opens.Drop = drop_gives
      statement_gives opens.Alter = alter_gives

  -- the next token of a block, given how a statement goes on
  rest_gives : (going : Going) (closes : Token → Bool) (scope : Scope) (place : ℕ) (counts : Counts) → place ≤ length text
      → ((f : Found) (n : Counts) (start : Opening) → Got text place f → Gives (going f n start) (BlockRead scope place))
      → Gives (rest_with going text closes place counts) (BlockRead scope place)
  rest_gives going closes scope place counts h next =
      chain _ _ _ _ (token_gives text place h) (λ f g. go f g (closes f.token) (opening f.token))
    where
      go : (f : Found) → Got text place f → (b : Bool) (o : Option Opening) → Gives (at_token going f counts b o) (BlockRead scope place)
      go f g true o = done (BlockRead scope place) _ (record { moves = g.moves; good = good_stop plan (length scope) (bars scope) place f.after })
      go f g false None = sent _ _
      go f g false (Some start) = past _ _ _ _ (λ _. next f _ start g)

  script_gives : (left : ℕ) (closes : Token → Bool) (scope : Scope) (blocks turns place : ℕ) (counts : Counts) → place ≤ length text
      → Gives (read_rest text left closes (record { plan = plan; scope = scope; blocks = blocks; turns = turns }) place counts) (BlockRead scope place)
  unfolding read_rest
  script_gives zero closes scope blocks turns place counts h =
      rest_gives (λ f n start. Err (LimitPassed f.place)) closes scope place counts h (λ f n start g. sent _ (LimitPassed f.place))
  script_gives (suc left) closes scope blocks turns place counts h =
      rest_gives _ closes scope place counts h (λ f n start g.
      chain _ _ _ _ (statement_gives (read_rest text left (is_mark CloseBrace)) (script_gives left (is_mark CloseBrace)) scope blocks turns
      f.place f.after g.starts g.moves.within n start) (λ x y.
      chain _ _ _ _ (script_gives left closes x.scope blocks turns x.after x.counts y.moves.within) (λ b z.
      done (BlockRead scope place) (in_front x b) (record {
        moves = moved text place x.after b.after (moved text place f.after x.after g.moves y.moves) z.moves;
        good = widen plan (length scope) (bars scope) f.place place b.after b.after (x.before b.code) g.before (omega arith)
            (y.joins b.after b.code z.moves.on z.good);
      }))))

  read_gives : Gives (reading plan text) (WellMade plan)
  unfolding reading
  read_gives =
      past _ _ _ _ (λ _.
      chain _ _ _ _ (script_gives 64 is_end [] 8 2 0 (record { begun = 0; atoms = 0 }) (omega arith)) (λ b x.
      done (WellMade plan) b.code (record {
        names = x.good.names;
        within = x.good.within;
        fits = x.good.fits;
        still = x.good.still;
        rising = x.good.rising;
      })))

pub read_scripts_are_well_made : ReadScriptsAreWellMade
read_scripts_are_well_made plan s text code e = (read_gives text plan s).holds code e
