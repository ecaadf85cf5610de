-- What is kept when a statement is put in front of the rest of its block.
use Rattle.std.proofs.Common.{◌≡◌, ℕ, suc, ◌<◌, ◌≤◌, Bool, true, false, not, ◌&&◌, ◌||◌, eqb, ltb, List, [], ◌∷◌, ◌++◌, length, sym, refl, ap, ◌∙◌, arith}
use Rattle.std.specs.List.{AllByRecursion}
use Rattle.std.proofs.ByRecursion.{All-weaker, All-append}
use Rattle.std.proofs.lemmas.Bool.{and_from, lt-ltb, or_from, or_left, or_right, eq-eqb, ne_eqb, true≢false}
use Rattle.rules.specs.Plans.{Plan}
use Rattle.rules.specs.Lots.{width}
use Rattle.rules.specs.Scripts as rules
use Rattle.rules.specs.Scripts.{Index, Mark, Expr, Code}
use Rattle.rules.specs.Scoping.{scoped, nameable, index_scoped, mark_scoped, expr_scoped, exprs_scoped}
use Rattle.rules.specs.Inside.{inside, lot_inside}
use Rattle.rules.specs.Writes.{writes, steady}
use Rattle.rules.specs.Keeping.{code_fits, expr_fits, exprs_fit}
use Rattle.rules.specs.Judging.{places, Rising}

-- A block as it is read: with so many names in scope, with these tables not to be written, its statements from one place to
-- another.
pub record Good (plan : Plan) (depth : ℕ) (barred : ℕ → Bool) (from to : ℕ) (code : Code) : Type 0 where
  pub names : scoped depth code ≡ true
  pub within : inside plan code ≡ true
  pub fits : code_fits plan code ≡ true
  pub still : steady code ≡ true
  pub unwritten : (t : ℕ) → barred t ≡ true → writes t code ≡ false
  pub rising : Rising (places code)
  pub low : AllByRecursion (λ p. from ≤ p) (places code)
  pub high : AllByRecursion (λ p. p ≤ to) (places code)

-- A lot that a statement names.
pub record LotGood (plan : Plan) (depth t : ℕ) (i : Index) : Type 0 where
  pub names : index_scoped depth i ≡ true
  pub within : lot_inside plan t i ≡ true

all_from : (m n : ℕ) (ps : List ℕ) → m ≤ n → AllByRecursion (λ p. n ≤ p) ps → AllByRecursion (λ p. m ≤ p) ps
all_from m n ps h a = All-weaker (λ p. n ≤ p) (λ p. m ≤ p) (λ p q. omega arith) ps a

all_to : (m n : ℕ) (ps : List ℕ) → m ≤ n → AllByRecursion (λ p. p ≤ m) ps → AllByRecursion (λ p. p ≤ n) ps
all_to m n ps h a = All-weaker (λ p. p ≤ m) (λ p. p ≤ n) (λ p q. omega arith) ps a

rising_append : (m : ℕ) (ps qs : List ℕ) → AllByRecursion (λ p. p ≤ m) ps → AllByRecursion (λ q. m ≤ q) qs → Rising ps → Rising qs → Rising (ps ++ qs)
rising_append m [] qs a b r s = s
rising_append m (p ∷ ps) qs a b r s =
    (All-append (λ q. p ≤ q) ps qs r.0 (all_from p m qs a.0 b), rising_append m ps qs a.1 b r.1 s)

module _ (plan : Plan) (depth : ℕ) (barred : ℕ → Bool) where
  pub widen : (from from' to to' : ℕ) (code : Code) → from' ≤ from → to ≤ to' → Good plan depth barred from to code → Good plan depth barred from' to' code
  widen from from' to to' code h k g = record {
    names = g.names;
    within = g.within;
    fits = g.fits;
    still = g.still;
    unwritten = g.unwritten;
    rising = g.rising;
    low = all_from from' from (places code) h g.low;
    high = all_to to to' (places code) k g.high;
  }

  pub good_stop : (from to : ℕ) → Good plan depth barred from to rules.Code.stop
  unfolding scoped inside code_fits steady writes places
  good_stop from to = record {
    names = refl;
    within = refl;
    fits = refl;
    still = refl;
    unwritten = λ t h. refl;
    rising = tt;
    low = tt;
    high = tt;
  }

  pub good_var : (from to : ℕ) (mark : Mark Index) (rest : Code) → depth < 16 → mark_scoped depth mark ≡ true
      → Good plan (suc depth) barred from to rest → Good plan depth barred from to (rules.Code.var mark rest)
  unfolding scoped inside code_fits steady writes places
  good_var from to mark rest h m g = record {
    names = and_from (nameable depth) _ (lt-ltb depth 16 h) (and_from (mark_scoped depth mark) _ m g.names);
    within = g.within;
    fits = g.fits;
    still = g.still;
    unwritten = g.unwritten;
    rising = g.rising;
    low = g.low;
    high = g.high;
  }

  -- a statement with a place of its own in front of the rest
  module _ (from mid to p : ℕ) (rest : Code) (a : from ≤ p) (b : p ≤ mid) (c : mid ≤ to) (g : Good plan depth barred mid to rest) where
    front_rising : Rising (p ∷ places rest)
    front_rising = (all_from p mid (places rest) b g.low, g.rising)

    front_low : AllByRecursion (λ q. from ≤ q) (p ∷ places rest)
    front_low = (a, all_from from mid (places rest) (omega arith) g.low)

    front_high : AllByRecursion (λ q. q ≤ to) (p ∷ places rest)
    front_high = (omega arith, g.high)

    -- a table that is written is none of those that may not be
    front_writes : (t : ℕ) → barred t ≡ false → (u : ℕ) → barred u ≡ true → (eqb t u || writes u rest) ≡ false
    front_writes t free u h =
        or_from (eqb t u) (writes u rest)
        (ne_eqb t u (λ e. true≢false (sym h ∙ ap barred (sym e) ∙ free)))
        (g.unwritten u h)

    pub good_set : (level : ℕ) (e : Expr) → level < depth → expr_scoped depth e ≡ true → expr_fits e ≡ true
        → Good plan depth barred from to (rules.Code.set p level e rest)
    unfolding scoped inside code_fits steady writes places
    good_set level e l n f = record {
      names = and_from (ltb level depth) _ (lt-ltb level depth l) (and_from (expr_scoped depth e) _ n g.names);
      within = g.within;
      fits = and_from (expr_fits e) _ f g.fits;
      still = g.still;
      unwritten = g.unwritten;
      rising = front_rising;
      low = front_low;
      high = front_high;
    }

    pub good_add : (t : ℕ) (i : Index) (es : List Expr) → LotGood plan depth t i → barred t ≡ false
        → exprs_scoped depth es ≡ true → exprs_fit es ≡ true → length es ≡ width plan t → Good plan depth barred from to (rules.Code.add p t i es rest)
    unfolding scoped inside code_fits steady writes places
    good_add t i es l free n f w = record {
      names = and_from (index_scoped depth i) _ l.names (and_from (exprs_scoped depth es) _ n g.names);
      within = and_from (lot_inside plan t i) _ l.within g.within;
      fits = and_from (eqb (length es) (width plan t) && exprs_fit es) _ (and_from (eqb (length es) (width plan t)) _ (eq-eqb (length es) (width plan t) w) f) g.fits;
      still = g.still;
      unwritten = front_writes t free;
      rising = front_rising;
      low = front_low;
      high = front_high;
    }

    pub good_drop : (t : ℕ) (i : Index) (e : Expr) → depth < 16 → LotGood plan depth t i → barred t ≡ false
        → expr_scoped (suc depth) e ≡ true → Good plan depth barred from to (rules.Code.drop p t i e rest)
    unfolding scoped inside code_fits steady writes places
    good_drop t i e h l free n = record {
      names = and_from (nameable depth) _ (lt-ltb depth 16 h) (and_from (index_scoped depth i) _ l.names (and_from (expr_scoped (suc depth) e) _ n g.names));
      within = and_from (lot_inside plan t i) _ l.within g.within;
      fits = g.fits;
      still = g.still;
      unwritten = front_writes t free;
      rising = front_rising;
      low = front_low;
      high = front_high;
    }

    pub good_alter : (t : ℕ) (i : Index) (column : ℕ) (v e : Expr) → depth < 16 → LotGood plan depth t i → barred t ≡ false
        → expr_scoped (suc depth) v ≡ true → expr_fits v ≡ true → expr_scoped (suc depth) e ≡ true
        → Good plan depth barred from to (rules.Code.alter p t i column v e rest)
    unfolding scoped inside code_fits steady writes places
    good_alter t i column v e h l free n f m = record {
      names = and_from (nameable depth) _ (lt-ltb depth 16 h) (and_from (index_scoped depth i) _ l.names
          (and_from (expr_scoped (suc depth) v) _ n (and_from (expr_scoped (suc depth) e) _ m g.names)));
      within = and_from (lot_inside plan t i) _ l.within g.within;
      fits = and_from (expr_fits v) _ f g.fits;
      still = g.still;
      unwritten = front_writes t free;
      rising = front_rising;
      low = front_low;
      high = front_high;
    }

  -- two blocks and the rest, one behind the other
  module _ (from m n to : ℕ) (first second rest : Code) (a : from ≤ m) (b : m ≤ n) (c : n ≤ to)
      (f : Good plan depth barred from m first) (s : Good plan depth barred m n second) (g : Good plan depth barred n to rest) where
    three_rising : Rising (places first ++ (places second ++ places rest))
    three_rising =
        rising_append m (places first) (places second ++ places rest) f.high
        (All-append (λ q. m ≤ q) (places second) (places rest) s.low (all_from m n (places rest) b g.low))
        f.rising (rising_append n (places second) (places rest) s.high g.low s.rising g.rising)

    three_low : AllByRecursion (λ q. from ≤ q) (places first ++ (places second ++ places rest))
    three_low =
        All-append (λ q. from ≤ q) (places first) (places second ++ places rest) f.low
        (All-append (λ q. from ≤ q) (places second) (places rest) (all_from from m (places second) a s.low)
        (all_from from n (places rest) (omega arith) g.low))

    three_high : AllByRecursion (λ q. q ≤ to) (places first ++ (places second ++ places rest))
    three_high =
        All-append (λ q. q ≤ to) (places first) (places second ++ places rest) (all_to m to (places first) (omega arith) f.high)
        (All-append (λ q. q ≤ to) (places second) (places rest) (all_to n to (places second) c s.high) g.high)

    three : (p q r : Bool) → p ≡ true → q ≡ true → r ≡ true → (p && (q && r)) ≡ true
    three p q r h k l = and_from p (q && r) h (and_from q r k l)

    three_unwritten : (t : ℕ) → barred t ≡ true → (writes t first || (writes t second || writes t rest)) ≡ false
    three_unwritten t h =
        or_from (writes t first) _ (f.unwritten t h) (or_from (writes t second) (writes t rest) (s.unwritten t h) (g.unwritten t h))

    pub good_if : (e : Expr) → expr_scoped depth e ≡ true → Good plan depth barred from to (rules.Code.if e first second rest)
    unfolding scoped inside code_fits steady writes places
    good_if e n = record {
      names = and_from (expr_scoped depth e) _ n (three _ _ _ f.names s.names g.names);
      within = three _ _ _ f.within s.within g.within;
      fits = three _ _ _ f.fits s.fits g.fits;
      still = three _ _ _ f.still s.still g.still;
      unwritten = three_unwritten;
      rising = three_rising;
      low = three_low;
      high = three_high;
    }

    pub good_when : (i j : Index) → index_scoped depth i ≡ true → index_scoped depth j ≡ true
        → Good plan depth barred from to (rules.Code.when i j first second rest)
    unfolding scoped inside code_fits steady writes places
    good_when i j h k = record {
      names = and_from (index_scoped depth i) _ h (and_from (index_scoped depth j) _ k (three _ _ _ f.names s.names g.names));
      within = three _ _ _ f.within s.within g.within;
      fits = three _ _ _ f.fits s.fits g.fits;
      still = three _ _ _ f.still s.still g.still;
      unwritten = three_unwritten;
      rising = three_rising;
      low = three_low;
      high = three_high;
    }

  -- one block with a name of its own, and the rest
  module _ (from m to : ℕ) (body rest : Code) (a : from ≤ m) (c : m ≤ to) (room : depth < 16) (g : Good plan depth barred m to rest) where
    pub good_vendors : Good plan (suc depth) barred from m body → Good plan depth barred from to (rules.Code.vendors body rest)
    unfolding scoped inside code_fits steady writes places
    good_vendors f = record {
      names = and_from (nameable depth) _ (lt-ltb depth 16 room) (and_from _ _ f.names g.names);
      within = and_from _ _ f.within g.within;
      fits = and_from _ _ f.fits g.fits;
      still = and_from _ _ f.still g.still;
      unwritten = λ t h. or_from _ _ (f.unwritten t h) (g.unwritten t h);
      rising = rising_append m (places body) (places rest) f.high g.low f.rising g.rising;
      low = All-append (λ q. from ≤ q) (places body) (places rest) f.low (all_from from m (places rest) a g.low);
      high = All-append (λ q. q ≤ to) (places body) (places rest) (all_to m to (places body) c f.high) g.high;
    }

    pub good_each : (t : ℕ) (i : Index) → LotGood plan depth t i → Good plan (suc depth) (λ u. eqb u t || barred u) from m body
        → Good plan depth barred from to (rules.Code.each t i body rest)
    unfolding scoped inside code_fits steady writes places
    good_each t i l f = record {
      names = and_from (nameable depth) _ (lt-ltb depth 16 room) (and_from (index_scoped depth i) _ l.names (and_from _ _ f.names g.names));
      within = and_from (lot_inside plan t i) _ l.within (and_from _ _ f.within g.within);
      fits = and_from _ _ f.fits g.fits;
      still = and_from (not (writes t body)) _ (ap not (f.unwritten t (or_left (eqb t t) (barred t) (eq-eqb t t refl)))) (and_from _ _ f.still g.still);
      unwritten = λ u h. or_from _ _ (f.unwritten u (or_right (eqb u t) (barred u) h)) (g.unwritten u h);
      rising = rising_append m (places body) (places rest) f.high g.low f.rising g.rising;
      low = All-append (λ q. from ≤ q) (places body) (places rest) f.low (all_from from m (places rest) a g.low);
      high = All-append (λ q. q ≤ to) (places body) (places rest) (all_to m to (places body) c f.high) g.high;
    }
