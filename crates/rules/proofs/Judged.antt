-- The judge is exact: it finds no fault exactly where every flow is allowed, and the fault that it finds is one.
use Rattle.std.proofs.Common.{◌≡◌, ℕ, zero, suc, ◌<◌, ◌≤◌, min, Bool, true, false, cond, eqb, ◌⊎◌, List, [], ◌∷◌, ◌++◌, Some, None, Option, sym, refl, ap, ◌∙◌, inl, inr, arith}
use Rattle.std.specs.List.{AllByRecursion}
use Rattle.std.proofs.lemmas.Bool.{both_ways, cond_both, cases_Bool, cases_eq}
use Rattle.lattice.specs.Order.{Order}
use Rattle.rules.specs.Plans.{Plan}
use Rattle.rules.specs.Scripts.{Code}
use Rattle.rules.specs.Scripts.Code.{stop, var, set, if, when, vendors, each, add, drop, alter}
use Rattle.rules.specs.Evaluation.{Valuation, whom, put_index, run_for}
use Rattle.rules.specs.Labels.{Scope, no_names, enter, held, turn, cursor, mark_at}
use Rattle.rules.specs.Flows.{Allowed, if_context, each_context}
use Rattle.rules.specs.Judging.{flow, earlier, least_of, over, verdict, judge, Fault, Faulty, places, Rising}
use Rattle.rules.specs.Promises.{JudgeIsExact}

either : {X Y Z : Type 0} → X ⊎ Y → (X → Z) → (Y → Z) → Z
either (inl x) f g = f x
either (inr y) f g = g y

-- the block that is taken
taken : {A : Type 0} (b : Bool) (x y z : A) → b ≡ true → cond b x y ≡ z → x ≡ z
taken true x y z e h = h
taken false x y z e h = absurd (both_ways false refl e)

passed : {A : Type 0} (b : Bool) (x y z : A) → b ≡ false → cond b x y ≡ z → y ≡ z
passed true x y z e h = absurd (both_ways true e refl)
passed false x y z e h = h

-- one is there or not
none_some : {p : ℕ} {x : Option ℕ} → x ≡ None → x ≡ Some p → ⊥
none_some e f = let z : ◌≡◌ {A = ℕ} 0 1 = cc in omega arith

flow_clean : (p : ℕ) (b : Bool) → flow p b ≡ None → b ≡ true
flow_clean p true e = refl
flow_clean p false e = absurd (none_some e refl)

flow_passes : (p : ℕ) (b : Bool) → b ≡ true → flow p b ≡ None
flow_passes p b e = rw e refl

flow_fault : (p q : ℕ) (b : Bool) → flow p b ≡ Some q → (b ≡ false) × (p ≡ q)
flow_fault p q true e = absurd (none_some refl e)
flow_fault p q false e = (refl, cc)

earlier_clean : (x y : Option ℕ) → earlier x y ≡ None → (x ≡ None) × (y ≡ None)
earlier_clean None y e = (refl, e)
earlier_clean (Some p) y e = absurd (none_some e refl)

earlier_passes : (x y : Option ℕ) → x ≡ None → y ≡ None → earlier x y ≡ None
earlier_passes x y e f = rw (e, f) refl

earlier_fault : (x y : Option ℕ) (p : ℕ) → earlier x y ≡ Some p → (x ≡ Some p) ⊎ (y ≡ Some p)
earlier_fault None y p e = inr e
earlier_fault (Some q) y p e = inl e

least_clean : (x y : Option ℕ) → least_of x y ≡ None → (x ≡ None) × (y ≡ None)
least_clean None y e = (refl, e)
least_clean (Some p) None e = absurd (none_some e refl)
least_clean (Some p) (Some q) e = absurd (none_some e refl)

min_is : (p q : ℕ) → (min p q ≡ p) ⊎ (min p q ≡ q)
min_is p q = grind arith

least_fault : (x y : Option ℕ) (p : ℕ) → least_of x y ≡ Some p → (x ≡ Some p) ⊎ (y ≡ Some p)
least_fault None y p e = inr e
least_fault (Some q) None p e = inl e
least_fault (Some q) (Some r) p e = go (min_is q r)
  where
    is : min q r ≡ p
    is = cc

    go : (min q r ≡ q) ⊎ (min q r ≡ r) → (Some q ≡ Some p) ⊎ (Some r ≡ Some p)
    go (inl f) = inl (ap Some (sym f ∙ is))
    go (inr f) = inr (ap Some (sym f ∙ is))

-- there is a fault, and its place is not past q
record Found (x : Option ℕ) (q : ℕ) : Type 0 where
  place : ℕ
  is : x ≡ Some place
  before : place ≤ q

found_at : (x : Option ℕ) (p q : ℕ) → x ≡ Some p → p ≤ q → Found x q
found_at x p q e l = record { place = p; is = e; before = l }

earlier_left : (x y : Option ℕ) (q : ℕ) → Found x q → Found (earlier x y) q
earlier_left x y q f = record { place = f.place; is = rw f.is refl; before = f.before }

earlier_right : (x y : Option ℕ) (q : ℕ) → ((p : ℕ) → x ≡ Some p → p ≤ q) → Found y q → Found (earlier x y) q
earlier_right None y q h f = f
earlier_right (Some p) y q h f = record { place = p; is = refl; before = h p refl }

least_left : (x y : Option ℕ) (q : ℕ) → Found x q → Found (least_of x y) q
least_left x None q f = record { place = f.place; is = rw f.is refl; before = f.before }
least_left x (Some r) q f = let b = f.before in record { place = min f.place r; is = rw f.is refl; before = omega arith }

least_right : (x y : Option ℕ) (q : ℕ) → Found y q → Found (least_of x y) q
least_right None y q f = f
least_right (Some r) y q f = let b = f.before in record { place = min r f.place; is = rw f.is refl; before = omega arith }

found_first : (b : Bool) (x y : Option ℕ) (q : ℕ) → b ≡ true → Found x q → Found (cond b x y) q
found_first b x y q e f = rw e f

found_second : (b : Bool) (x y : Option ℕ) (q : ℕ) → b ≡ false → Found y q → Found (cond b x y) q
found_second b x y q e f = rw e f

over_clean : (f : ℕ → Option ℕ) (n : ℕ) → over f n ≡ None → (v : ℕ) → v < n → f v ≡ None
over_clean f zero e v l = absurd (omega arith)
over_clean f (suc n) e v l =
    let p = least_clean (over f n) (f n) e in
    either (cases_eq v n) (λ is. rw is p.1) (λ other. over_clean f n p.0 v (omega arith))

over_passes : (f : ℕ → Option ℕ) (n : ℕ) → ((v : ℕ) → v < n → f v ≡ None) → over f n ≡ None
over_passes f zero h = refl
over_passes f (suc n) h = rw (over_passes f n (λ v l. h v (omega arith)), h n (omega arith)) refl

over_fault : (f : ℕ → Option ℕ) (n p : ℕ) → over f n ≡ Some p → (v : ℕ) × (v < n) × (f v ≡ Some p)
over_fault f zero p e = absurd (none_some refl e)
over_fault f (suc n) p e =
    either (least_fault (over f n) (f n) p e)
    (λ h. let r = over_fault f n p h in (r.0, omega (arith, r.1), r.2))
    (λ h. (n, omega arith, h))

over_least : (f : ℕ → Option ℕ) (n q v : ℕ) → v < n → Found (f v) q → Found (over f n) q
over_least f zero q v l h = absurd (omega arith)
over_least f (suc n) q v l h =
    either (cases_eq v n)
    (λ is. least_right (over f n) (f n) q (rw is at h))
    (λ other. least_left (over f n) (f n) q (over_least f n q v (omega arith) h))

-- lists whose numbers rise
record Parts (xs ys : List ℕ) : Type 0 where
  front : Rising xs
  back : Rising ys
  across : AllByRecursion (λ x. AllByRecursion (λ y. x ≤ y) ys) xs

all_left : (P : ℕ → Type 0) (xs ys : List ℕ) → AllByRecursion P (xs ++ ys) → AllByRecursion P xs
all_left P [] ys h = tt
all_left P (x ∷ xs) ys h = (h.0, all_left P xs ys h.1)

all_right : (P : ℕ → Type 0) (xs ys : List ℕ) → AllByRecursion P (xs ++ ys) → AllByRecursion P ys
all_right P [] ys h = h
all_right P (x ∷ xs) ys h = all_right P xs ys h.1

parts : (xs ys : List ℕ) → Rising (xs ++ ys) → Parts xs ys
parts [] ys h = record { front = tt; back = h; across = tt }
parts (x ∷ xs) ys h =
    let p = parts xs ys h.1 in
    record { front = (all_left (λ y. x ≤ y) xs ys h.0, p.front); back = p.back; across = (all_right (λ y. x ≤ y) xs ys h.0, p.across) }

module _ (o : Order) (plan : Plan) where
  -- no fault, every flow allowed
  clean : (code : Code) (scope : Scope) (val : Valuation) (context : ℕ) → verdict o plan code scope val context ≡ None → Allowed o plan code scope val context
  unfolding verdict Allowed
  clean stop scope val context e = tt
  clean (var mark rest) scope val context e = clean rest (enter scope (held (mark_at val mark))) val context e
  clean (set place level x rest) scope val context e =
      let p = earlier_clean _ _ e in (flow_clean place _ p.0, clean rest scope val context p.1)
  clean (if x first second rest) scope val context e =
      let p = earlier_clean _ _ e in
      let q = earlier_clean _ _ p.1 in
      (clean first scope val (if_context o plan scope context x) p.0, clean second scope val (if_context o plan scope context x) q.0, clean rest scope val context q.1)
  clean (when i j first second rest) scope val context e =
      let p = earlier_clean _ _ e in
      ((λ t. clean first scope val context (taken _ (verdict o plan first scope val context) (verdict o plan second scope val context) None t p.0)), (λ t. clean second scope val context (passed _ (verdict o plan first scope val context) (verdict o plan second scope val context) None t p.0)), clean rest scope val context p.1)
  clean (vendors body rest) scope val context e =
      let p = earlier_clean _ _ e in
      ((λ v l. clean body (enter scope turn) (put_index val scope.depth v) context (over_clean _ plan.vendors p.0 v l)), clean rest scope val context p.1)
  clean (each t i body rest) scope val context e =
      let p = earlier_clean _ _ e in
      (clean body (enter scope (cursor t (whom val i))) val (each_context o plan context t (whom val i)) p.0, clean rest scope val context p.1)
  clean (add place t i es rest) scope val context e =
      let p = earlier_clean _ _ e in (flow_clean place _ p.0, clean rest scope val context p.1)
  clean (drop place t i condition rest) scope val context e =
      let p = earlier_clean _ _ e in (flow_clean place _ p.0, clean rest scope val context p.1)
  clean (alter place t i column value condition rest) scope val context e =
      let p = earlier_clean _ _ e in (flow_clean place _ p.0, clean rest scope val context p.1)

  passes : (code : Code) (scope : Scope) (val : Valuation) (context : ℕ) → Allowed o plan code scope val context → verdict o plan code scope val context ≡ None
  unfolding verdict Allowed
  passes stop scope val context ok = refl
  passes (var mark rest) scope val context ok = passes rest (enter scope (held (mark_at val mark))) val context ok
  passes (set place level x rest) scope val context ok =
      earlier_passes _ _ (flow_passes place _ ok.0) (passes rest scope val context ok.1)
  passes (if x first second rest) scope val context ok =
      earlier_passes _ _ (passes first scope val (if_context o plan scope context x) ok.0)
      (earlier_passes _ _ (passes second scope val (if_context o plan scope context x) ok.1) (passes rest scope val context ok.2))
  passes (when i j first second rest) scope val context ok =
      earlier_passes _ _
      (cond_both (eqb (whom val i) (whom val j)) _ _ (λ z. z ≡ None) (λ t. passes first scope val context (ok.0 t)) (λ t. passes second scope val context (ok.1 t)))
      (passes rest scope val context ok.2)
  passes (vendors body rest) scope val context ok =
      earlier_passes _ _
      (over_passes _ plan.vendors (λ v l. passes body (enter scope turn) (put_index val scope.depth v) context (ok.0 v l)))
      (passes rest scope val context ok.1)
  passes (each t i body rest) scope val context ok =
      earlier_passes _ _ (passes body (enter scope (cursor t (whom val i))) val (each_context o plan context t (whom val i)) ok.0) (passes rest scope val context ok.1)
  passes (add place t i es rest) scope val context ok =
      earlier_passes _ _ (flow_passes place _ ok.0) (passes rest scope val context ok.1)
  passes (drop place t i condition rest) scope val context ok =
      earlier_passes _ _ (flow_passes place _ ok.0) (passes rest scope val context ok.1)
  passes (alter place t i column value condition rest) scope val context ok =
      earlier_passes _ _ (flow_passes place _ ok.0) (passes rest scope val context ok.1)

  -- a fault that is found is one
  faulty : (p : ℕ) (code : Code) (scope : Scope) (val : Valuation) (context : ℕ) → verdict o plan code scope val context ≡ Some p → Fault o plan p code scope val context
  unfolding verdict Fault
  faulty p stop scope val context e = none_some refl e
  faulty p (var mark rest) scope val context e = faulty p rest (enter scope (held (mark_at val mark))) val context e
  faulty p (set place level x rest) scope val context e =
      either (earlier_fault _ _ p e) (λ h. inl (flow_fault place p _ h)) (λ h. inr (faulty p rest scope val context h))
  faulty p (if x first second rest) scope val context e =
      either (earlier_fault _ _ p e) (λ h. inl (faulty p first scope val (if_context o plan scope context x) h))
      (λ h. either (earlier_fault _ _ p h) (λ k. inr (inl (faulty p second scope val (if_context o plan scope context x) k))) (λ k. inr (inr (faulty p rest scope val context k))))
  faulty p (when i j first second rest) scope val context e =
      either (earlier_fault _ _ p e)
      (λ h. either (cases_Bool (eqb (whom val i) (whom val j)))
      (λ t. inl (t, faulty p first scope val context (taken _ (verdict o plan first scope val context) (verdict o plan second scope val context) (Some p) t h)))
      (λ t. inr (inl (t, faulty p second scope val context (passed _ (verdict o plan first scope val context) (verdict o plan second scope val context) (Some p) t h)))))
      (λ h. inr (inr (faulty p rest scope val context h)))
  faulty p (vendors body rest) scope val context e =
      either (earlier_fault _ _ p e)
      (λ h. let r = over_fault _ plan.vendors p h in inl (r.0, r.1, faulty p body (enter scope turn) (put_index val scope.depth r.0) context r.2))
      (λ h. inr (faulty p rest scope val context h))
  faulty p (each t i body rest) scope val context e =
      either (earlier_fault _ _ p e) (λ h. inl (faulty p body (enter scope (cursor t (whom val i))) val (each_context o plan context t (whom val i)) h))
      (λ h. inr (faulty p rest scope val context h))
  faulty p (add place t i es rest) scope val context e =
      either (earlier_fault _ _ p e) (λ h. inl (flow_fault place p _ h)) (λ h. inr (faulty p rest scope val context h))
  faulty p (drop place t i condition rest) scope val context e =
      either (earlier_fault _ _ p e) (λ h. inl (flow_fault place p _ h)) (λ h. inr (faulty p rest scope val context h))
  faulty p (alter place t i column value condition rest) scope val context e =
      either (earlier_fault _ _ p e) (λ h. inl (flow_fault place p _ h)) (λ h. inr (faulty p rest scope val context h))

  -- a fault stands at one of the places
  placed : (P : ℕ → Type 0) (p : ℕ) (code : Code) (scope : Scope) (val : Valuation) (context : ℕ) → AllByRecursion P (places code) → Fault o plan p code scope val context → P p
  unfolding Fault places
  placed P p stop scope val context h e = absurd e
  placed P p (var mark rest) scope val context h e = placed P p rest (enter scope (held (mark_at val mark))) val context h e
  placed P p (set place level x rest) scope val context h e =
      either e (λ k. rw k.1 at h.0) (λ k. placed P p rest scope val context h.1 k)
  placed P p (if x first second rest) scope val context h e =
      let later = all_right P (places first) _ h in
      either e (λ k. placed P p first scope val (if_context o plan scope context x) (all_left P (places first) _ h) k)
      (λ k. either k (λ m. placed P p second scope val (if_context o plan scope context x) (all_left P (places second) _ later) m)
      (λ m. placed P p rest scope val context (all_right P (places second) _ later) m))
  placed P p (when i j first second rest) scope val context h e =
      let later = all_right P (places first) _ h in
      either e (λ k. placed P p first scope val context (all_left P (places first) _ h) k.1)
      (λ k. either k (λ m. placed P p second scope val context (all_left P (places second) _ later) m.1)
      (λ m. placed P p rest scope val context (all_right P (places second) _ later) m))
  placed P p (vendors body rest) scope val context h e =
      either e (λ k. placed P p body (enter scope turn) (put_index val scope.depth k.0) context (all_left P (places body) _ h) k.2)
      (λ k. placed P p rest scope val context (all_right P (places body) _ h) k)
  placed P p (each t i body rest) scope val context h e =
      either e (λ k. placed P p body (enter scope (cursor t (whom val i))) val (each_context o plan context t (whom val i)) (all_left P (places body) _ h) k)
      (λ k. placed P p rest scope val context (all_right P (places body) _ h) k)
  placed P p (add place t i es rest) scope val context h e =
      either e (λ k. rw k.1 at h.0) (λ k. placed P p rest scope val context h.1 k)
  placed P p (drop place t i condition rest) scope val context h e =
      either e (λ k. rw k.1 at h.0) (λ k. placed P p rest scope val context h.1 k)
  placed P p (alter place t i column value condition rest) scope val context h e =
      either e (λ k. rw k.1 at h.0) (λ k. placed P p rest scope val context h.1 k)

  -- a fault of a block is not past one that stands behind the block
  before : (first : Code) (scope : Scope) (val : Valuation) (context : ℕ) (behind : List ℕ) (q : ℕ)
      → AllByRecursion (λ x. AllByRecursion (λ y. x ≤ y) behind) (places first) → ((P : ℕ → Type 0) → AllByRecursion P behind → P q)
      → (p : ℕ) → verdict o plan first scope val context ≡ Some p → p ≤ q
  before first scope val context behind q h f p e =
      f (λ y. p ≤ y) (placed (λ x. AllByRecursion (λ y. x ≤ y) behind) p first scope val context h (faulty p first scope val context e))

  at_flow : (place q : ℕ) (b : Bool) (later : Option ℕ) → (b ≡ false) × (place ≡ q) → Found (earlier (flow place b) later) q
  at_flow place q b later h = record { place = place; is = rw h.0 refl; before = omega (arith, h.1) }

  past_flow : (place q : ℕ) (b : Bool) (later : Option ℕ) → place ≤ q → Found later q → Found (earlier (flow place b) later) q
  past_flow place q b later l f = earlier_right (flow place b) later q (λ p e. let r = flow_fault place p b e in omega (arith, r.1)) f

  -- where the places rise, the first fault in text order is the least
  least : (q : ℕ) (code : Code) (scope : Scope) (val : Valuation) (context : ℕ) → Rising (places code) → Fault o plan q code scope val context
      → Found (verdict o plan code scope val context) q
  unfolding verdict Fault places
  least q stop scope val context r e = absurd e
  least q (var mark rest) scope val context r e = least q rest (enter scope (held (mark_at val mark))) val context r e
  least q (set place level x rest) scope val context r e =
      either e (at_flow place q _ _)
      (λ k. past_flow place q _ _ (placed (λ y. place ≤ y) q rest scope val context r.0 k) (least q rest scope val context r.1 k))
  least q (if x first second rest) scope val context r e =
      let p = parts (places first) (places second ++ places rest) r in
      let n = parts (places second) (places rest) p.back in
      either e (λ k. earlier_left _ _ q (least q first scope val (if_context o plan scope context x) p.front k))
      (λ k. earlier_right _ _ q
      (before first scope val (if_context o plan scope context x) (places second ++ places rest) q p.across
      (λ P h. either k (λ m. placed P q second scope val (if_context o plan scope context x) (all_left P (places second) (places rest) h) m)
      (λ m. placed P q rest scope val context (all_right P (places second) (places rest) h) m)))
      (either k (λ m. earlier_left _ _ q (least q second scope val (if_context o plan scope context x) n.front m))
      (λ m. earlier_right _ _ q
      (before second scope val (if_context o plan scope context x) (places rest) q n.across (λ P h. placed P q rest scope val context h m))
      (least q rest scope val context n.back m))))
  least q (when i j first second rest) scope val context r e =
      let p = parts (places first) (places second ++ places rest) r in
      let n = parts (places second) (places rest) p.back in
      either e (λ k. earlier_left _ _ q (found_first (eqb (whom val i) (whom val j)) _ _ q k.0 (least q first scope val context p.front k.1)))
      (λ k. either k
      (λ m. earlier_left _ _ q (found_second (eqb (whom val i) (whom val j)) _ _ q m.0 (least q second scope val context n.front m.1)))
      (λ m. earlier_right _ _ q
      (λ w h. either (cases_Bool (eqb (whom val i) (whom val j)))
      (λ t. before first scope val context (places second ++ places rest) q p.across
      (λ P g. placed P q rest scope val context (all_right P (places second) (places rest) g) m) w
      (taken _ (verdict o plan first scope val context) (verdict o plan second scope val context) (Some w) t h))
      (λ t. before second scope val context (places rest) q n.across (λ P g. placed P q rest scope val context g m) w
      (passed _ (verdict o plan first scope val context) (verdict o plan second scope val context) (Some w) t h)))
      (least q rest scope val context n.back m)))
  least q (vendors body rest) scope val context r e =
      let p = parts (places body) (places rest) r in
      either e (λ k. earlier_left _ _ q (over_least _ plan.vendors q k.0 k.1 (least q body (enter scope turn) (put_index val scope.depth k.0) context p.front k.2)))
      (λ k. earlier_right _ _ q
      (λ w h. let f = over_fault (λ v. verdict o plan body (enter scope turn) (put_index val scope.depth v) context) plan.vendors w h in
      before body (enter scope turn) (put_index val scope.depth f.0) context (places rest) q p.across (λ P g. placed P q rest scope val context g k) w f.2)
      (least q rest scope val context p.back k))
  least q (each t i body rest) scope val context r e =
      let p = parts (places body) (places rest) r in
      either e (λ k. earlier_left _ _ q (least q body (enter scope (cursor t (whom val i))) val (each_context o plan context t (whom val i)) p.front k))
      (λ k. earlier_right _ _ q
      (before body (enter scope (cursor t (whom val i))) val (each_context o plan context t (whom val i)) (places rest) q p.across
      (λ P g. placed P q rest scope val context g k))
      (least q rest scope val context p.back k))
  least q (add place t i es rest) scope val context r e =
      either e (at_flow place q _ _)
      (λ k. past_flow place q _ _ (placed (λ y. place ≤ y) q rest scope val context r.0 k) (least q rest scope val context r.1 k))
  least q (drop place t i condition rest) scope val context r e =
      either e (at_flow place q _ _)
      (λ k. past_flow place q _ _ (placed (λ y. place ≤ y) q rest scope val context r.0 k) (least q rest scope val context r.1 k))
  least q (alter place t i column value condition rest) scope val context r e =
      either e (at_flow place q _ _)
      (λ k. past_flow place q _ _ (placed (λ y. place ≤ y) q rest scope val context r.0 k) (least q rest scope val context r.1 k))

pub judge_is_exact : JudgeIsExact
unfolding judge
judge_is_exact o plan code = record {
  clean = λ e v l. clean o plan code no_names (run_for v) o.bottom (over_clean _ plan.vendors e v l);
  passes = λ ok. over_passes _ plan.vendors (λ v l. passes o plan code no_names (run_for v) o.bottom (ok v l));
  fault = λ p e. let f = over_fault (λ v. verdict o plan code no_names (run_for v) o.bottom) plan.vendors p e in
      (f.0, f.1, faulty o plan p code no_names (run_for f.0) o.bottom f.2);
  least = λ r p e q f. go r p e q f (over_least _ plan.vendors q f.0 f.1 (least o plan q code no_names (run_for f.0) o.bottom r f.2));
}
  where
    go : Rising (places code) → (p : ℕ) → judge o plan code ≡ Some p → (q : ℕ) → Faulty o plan code q → Found (judge o plan code) q → p ≤ q
    go r p e q f w = let b = w.before in let i : p ≡ w.place = cc w.is in omega arith
