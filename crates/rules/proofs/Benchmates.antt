-- Two benches: lists of calls that agree at a label are answered alike to those who hear there.
use Rattle.std.proofs.Common.{◌≡◌, ℕ, zero, suc, ◌<◌, ◌≤◌, Bool, true, false, cond, not, eqb, leb, ◌⊎◌, List, [], ◌∷◌, length, get_or, is_some, Some, None, Ok, Err, Option, Result, sym, refl, ap, ◌∙◌, subst, inl, inr, arith}
use Rattle.std.specs.List.{AllByRecursion}
use Rattle.std.proofs.lemmas.List.{get_or_past}
use Rattle.std.proofs.lemmas.Bool.{both_ways, cases_lt, and_from, lt-ltb, leb-false, eqb-true, not-false}
use Rattle.rules.specs.declared.refusal.Refusal.{Refusal}
use Rattle.rules.specs.declared.answer.Answer.TheVariants.{Figure, Cell, Rows, Steps}
use Rattle.lattice.specs.Order.{Order, Laws}
use Rattle.rules.specs.Guards.{Check, guard, sift, and_then}
use Rattle.rules.specs.Plans.{Plan}
use Rattle.rules.specs.Scripts.{Code}
use Rattle.rules.specs.Lots.{Lots, width, room}
use Rattle.rules.specs.Evaluation.{ran, run_for}
use Rattle.rules.specs.Labels.{no_names, row_label, cell_label}
use Rattle.rules.specs.Flows.{Allowed}
use Rattle.rules.specs.Admission.{Script, Reading, Admission, admission}
use Rattle.rules.specs.Calls.{Bench, Call, Move, checks, outcome, reply, step, reply_of, bench_of, hold, script_in, script_of}
use Rattle.rules.specs.Calls.Call.{post, admit, run, look, count, meter}
use Rattle.rules.specs.Sight.{SameRow, SameRows, SameLots, Same}
use Rattle.rules.specs.Sight.SameRows.{none, more}
use Rattle.rules.specs.Agreement.{lot_exists, unseen, Alike, hears}
use Rattle.rules.specs.Agreement.Alike.{equal, posts}
use Rattle.rules.proofs.Seen.{row_refl, rows_length, cell_seen_row}
use Rattle.rules.proofs.InStep.{in_step, put_both}
use Rattle.rules.proofs.Benches.{Held, JudgedScript, Orderly}
use Rattle.rules.proofs.Framed.{frames}

-- checks of two benches that ask the same, as far as they get
abbrev SameChecks : List Check → List Check → Type 0
SameChecks [] [] = Unit {0}
SameChecks [] (d ∷ ds) = ⊥
SameChecks (c ∷ cs) [] = ⊥
SameChecks (c ∷ cs) (d ∷ ds) = (c.why ≡ d.why) × (c.holds ≡ d.holds) × (c.holds ≡ false → SameChecks cs ds)

sift_both : {A : Type 0} (R : Result A Refusal → Result A Refusal → Type 0) (cs ds : List Check) (r q : Result A Refusal) → SameChecks cs ds
    → ((w : Refusal) → R (Err w) (Err w)) → (AllByRecursion (λ c. c.holds ≡ false) cs → R r q) → R (sift cs r) (sift ds q)
sift_both R [] [] r q e refused k = k tt
sift_both R [] (d ∷ ds) r q e refused k = absurd e
sift_both R (c ∷ cs) [] r q e refused k = absurd e
sift_both {A} R (c ∷ cs) (d ∷ ds) r q e refused k = go c.holds d.holds refl e.1 (λ f. sift_both R cs ds r q (e.2 f) refused (λ all. k (f, all)))
  where
    go : (x y : Bool) → c.holds ≡ x → x ≡ y → (c.holds ≡ false → R (sift cs r) (sift ds q)) → R (guard x c.why (sift cs r)) (guard y d.why (sift ds q))
    go true true f g ih = subst (λ (w : Refusal). R (Err c.why) (Err w)) e.0 (refused c.why)
    go true false f g ih = absurd (both_ways true g refl)
    go false true f g ih = absurd (both_ways false refl g)
    go false false f g ih = ih f

-- a value of two posted rows: past the columns there is none
posted : (xs ys : List ℕ) (column n : ℕ) → length xs ≡ length ys → length xs ≡ n → (column < n → get_or xs column 0 ≡ get_or ys column 0)
    → get_or xs column 0 ≡ get_or ys column 0
posted xs ys column n size wide h = go (cases_lt column n)
  where
    go : (column < n) ⊎ (n ≤ column) → get_or xs column 0 ≡ get_or ys column 0
    go (inl l) = h l
    go (inr l) = get_or_past xs column 0 (omega arith) ∙ sym (get_or_past ys column 0 (omega arith))

-- the rows at one place
rows_at : {o : Order} {plan : Plan} {s t v : ℕ} → Laws o → {xs ys : List (List ℕ)} → SameRows o plan s t v xs ys → (place : ℕ)
    → SameRow o plan s t v (get_or xs place []) (get_or ys place [])
rows_at {o} {plan} {s} {t} {v} laws none place = row_refl o laws plan s t v []
rows_at laws (more h r) zero = h
rows_at laws (more h r) (suc place) = rows_at laws r place

module _ (o : Order) (laws : Laws o) (read : Reading) (plan : Plan) (s : ℕ) where
  abbrev pub admits : Admission
  admits = admission o read plan

  -- two benches look the same at s
  pub record Mates (a b : Bench) : Type 0 where
    pub lots : SameLots o plan s a.lots b.lots
    pub slots : (k : ℕ) → a.slots k ≡ b.slots k
    pub meter : o.below o.top s ≡ true → a.meter ≡ b.meter

  -- two calls leave benches that look the same, and are answered alike
  record Matched (a b : Bench) (r q : Result Move Refusal) : Type 0 where
    benches : Mates (bench_of a r) (bench_of b q)
    answers : reply_of r ≡ reply_of q

  refused_both : (a b : Bench) → Mates a b → (why : Refusal) → Matched a b (Err why) (Err why)
  refused_both a b h why = record { benches = h; answers = refl }

  slot_allowed : (v : ℕ) → v < plan.vendors → (x : Option Script) → Held (JudgedScript o plan) x
      → Allowed o plan (script_of x).code no_names (run_for v) o.bottom
  unfolding Allowed
  slot_allowed v l (Some script) h = h.allowed v l
  slot_allowed v l None h = tt

  ran_both : (code : Code) (v : ℕ) (a b : Lots) → Allowed o plan code no_names (run_for v) o.bottom → SameLots o plan s a b
      → Same o plan s no_names (ran plan code v a) (ran plan code v b)
  unfolding ran
  ran_both code v a b ok h =
      in_step o laws plan s code no_names (run_for v) o.bottom (λ _. []) (λ _. []) _ _ laws.bottom_label ok (λ level column seen. refl)
      (record { vars = λ level seen. refl; lots = h; steps = λ seen. refl })

  -- posts that stand beside each other
  post_both : (a b : Bench) (t v : ℕ) (xs ys : List ℕ) → Mates a b → unseen o plan s (post t v xs) ≡ false → length xs ≡ length ys
      → ((column : ℕ) → lot_exists plan t v ≡ true → column < width plan t → o.below (cell_label o plan t v column) s ≡ true → get_or xs column 0 ≡ get_or ys column 0)
      → Matched a b (outcome o admits plan a (post t v xs)) (outcome o admits plan b (post t v ys))
  unfolding outcome
  post_both a b t v xs ys h kept size cells =
      sift_both (Matched a b) (checks o plan a (post t v xs)) (checks o plan b (post t v ys)) _ _ (
        refl,
        refl,
        λ in_table. (
          refl,
          refl,
          λ in_plan. (
            refl,
            ap (λ n. not (eqb n (width plan t))) size,
            λ fit.
                (refl, ap (leb (room plan t v)) (rows_length o laws plan s (h.lots t v (row_seen in_table in_plan)).rows), λ free. tt),
          ),
        ),
      )
      (refused_both a b h)
      (λ p. record {
        benches = record {
          lots = put_both o laws plan s a.lots b.lots t v _ _
              (λ seen. record {
                rows = more (record {
                  size = size;
                  cells = λ column sees. posted xs ys column (width plan t) size (eqb-true _ _ (not-false _ p.1.1.0)) (λ l. cells column (exists p.0 p.1.0) l sees);
                }) (h.lots t v seen).rows;
                lost = (h.lots t v seen).lost;
              }) h.lots;
          slots = h.slots;
          meter = h.meter;
        };
        answers = refl;
      })
    where
      exists : leb (length plan.tables) t ≡ false → leb plan.vendors v ≡ false → lot_exists plan t v ≡ true
      exists in_table in_plan = and_from _ _ (lt-ltb t _ (leb-false _ t in_table)) (lt-ltb v _ (leb-false _ v in_plan))

      row_seen : leb (length plan.tables) t ≡ false → leb plan.vendors v ≡ false → o.below (row_label o plan t v) s ≡ true
      row_seen in_table in_plan = not-false _ (rw (exists in_table in_plan) at kept)

  with_script_both : (a b : Bench) (slot : ℕ) → Mates a b → (r : Result Script Refusal) → Matched a b (and_then r (hold a slot)) (and_then r (hold b slot))
  with_script_both a b slot h (Err why) = refused_both a b h why
  with_script_both a b slot h (Ok script) = record {
    benches = record { lots = h.lots; slots = λ k. ap (cond (eqb k slot) (Some script)) (h.slots k); meter = h.meter };
    answers = refl;
  }

  -- a call beside itself: admissions and runs
  admit_both : (a b : Bench) (slot : ℕ) (text : List ℕ) → Mates a b
      → Matched a b (outcome o admits plan a (admit slot text)) (outcome o admits plan b (admit slot text))
  unfolding outcome
  admit_both a b slot text h =
      sift_both (Matched a b) (checks o plan a (admit slot text)) (checks o plan b (admit slot text)) _ _ (refl, refl, λ e. tt) (refused_both a b h)
      (λ p. with_script_both a b slot h (admits text))

  run_both : (a b : Bench) (slot v : ℕ) → Orderly o plan a → Mates a b
      → Matched a b (outcome o admits plan a (run slot v)) (outcome o admits plan b (run slot v))
  unfolding outcome
  run_both a b slot v fine h =
      sift_both (Matched a b) (checks o plan a (run slot v)) (checks o plan b (run slot v)) _ _
      (refl, refl, λ in_plan. (refl, refl, λ in_slots. (refl, ap (λ x. not (is_some x)) (h.slots slot), λ filled. tt)))
      (refused_both a b h)
      (λ p.
      let is : script_in a slot ≡ script_in b slot = ap script_of (h.slots slot) in
      let ok = slot_allowed v (leb-false plan.vendors v p.0) (a.slots slot) (fine.scripts slot) in
      let both : Same o plan s no_names (ran plan (script_in a slot).code v a.lots) (ran plan (script_in b slot).code v b.lots) =
      subst (λ (x : Script). Same o plan s no_names (ran plan (script_in a slot).code v a.lots) (ran plan x.code v b.lots)) is
      (ran_both (script_in a slot).code v a.lots b.lots ok h.lots) in
      record {
        benches = record { lots = both.lots; slots = h.slots; meter = both.steps };
        answers = ap (λ (x : Script). Figure x.figure) is;
      })

  -- reads: what is heard is answered alike
  record Answered (r q : Result Move Refusal) : Type 0 where
    is : reply_of r ≡ reply_of q

  look_both : (a b : Bench) (clearance t v place column : ℕ) → Mates a b → o.below clearance s ≡ true
      → Answered (outcome o admits plan a (look clearance t v place column)) (outcome o admits plan b (look clearance t v place column))
  unfolding outcome
  look_both a b clearance t v place column h hears =
      sift_both Answered (checks o plan a (look clearance t v place column)) (checks o plan b (look clearance t v place column)) _ _ (
        refl,
        refl,
        λ is_label. (
          refl,
          refl,
          λ in_table. (
            refl,
            refl,
            λ in_plan. (
              refl,
              refl,
              λ in_row. (
                refl,
                refl,
                λ cleared.
                    (refl, ap (λ n. leb n place) (rows_length o laws plan s (h.lots t v (cell_seen_row o laws plan s t v column (sees cleared))).rows), λ there. tt),
              ),
            ),
          ),
        ),
      )
      (λ w. record { is = refl })
      (λ p. record { is = ap Cell ((rows_at laws (h.lots t v (cell_seen_row o laws plan s t v column (sees p.1.1.1.1.0))).rows place).cells column (sees p.1.1.1.1.0)) })
    where
      sees : not (o.below (cell_label o plan t v column) clearance) ≡ false → o.below (cell_label o plan t v column) s ≡ true
      sees cleared = laws.transitive _ clearance s (not-false _ cleared) hears

  count_both : (a b : Bench) (clearance t v : ℕ) → Mates a b → o.below clearance s ≡ true
      → Answered (outcome o admits plan a (count clearance t v)) (outcome o admits plan b (count clearance t v))
  unfolding outcome
  count_both a b clearance t v h hears =
      sift_both Answered (checks o plan a (count clearance t v)) (checks o plan b (count clearance t v)) _ _
      (refl, refl, λ is_label. (refl, refl, λ in_table. (refl, refl, λ in_plan. (refl, refl, λ cleared. tt))))
      (λ w. record { is = refl })
      (λ p.
      let lot = h.lots t v (laws.transitive _ clearance s (not-false _ p.1.1.1.0) hears) in
      record { is = ap (λ n. Rows n (a.lots t v).lost) (rows_length o laws plan s lot.rows) ∙ ap (Rows (length (b.lots t v).rows)) lot.lost })

  meter_both : (a b : Bench) (clearance : ℕ) → Mates a b → o.below clearance s ≡ true
      → Answered (outcome o admits plan a (meter clearance)) (outcome o admits plan b (meter clearance))
  unfolding outcome
  meter_both a b clearance h hears =
      sift_both Answered (checks o plan a (meter clearance)) (checks o plan b (meter clearance)) _ _
      (refl, refl, λ is_label. (refl, refl, λ cleared. tt))
      (λ w. record { is = refl })
      (λ p. record { is = ap Steps (h.meter (laws.transitive _ clearance s (not-false _ p.1.0) hears)) })

  -- a read leaves two benches as they are
  read_mates : (a b c d : Bench) → c ≡ a → d ≡ b → Mates a b → Mates c d
  read_mates a b c d e f h = rw (e, f) h

  -- one call of each list, alike and not struck out
  pub record Paced (a b : Bench) (c d : Call) : Type 0 where
    pub benches : Mates (step o admits plan a c) (step o admits plan b d)
    pub same_ears : hears o plan s c ≡ hears o plan s d
    pub answers : hears o plan s c ≡ true → reply o admits plan a c ≡ reply o admits plan b d

  from_matched : (a b : Bench) (c d : Call) → hears o plan s c ≡ hears o plan s d → Matched a b (outcome o admits plan a c) (outcome o admits plan b d) → Paced a b c d
  from_matched a b c d ears m = record { benches = m.benches; same_ears = ears; answers = λ _. m.answers }

  pub paced : (a b : Bench) (c d : Call) → Orderly o plan a → Mates a b → unseen o plan s c ≡ false → Alike o plan s c d → Paced a b c d
  paced a b _ _ fine h kept (posts t v xs ys size cells) = from_matched a b (post t v xs) (post t v ys) refl (post_both a b t v xs ys h kept size cells)
  paced a b _ _ fine h kept (equal (post t v xs)) = from_matched a b (post t v xs) (post t v xs) refl (post_both a b t v xs xs h kept refl (λ column e l seen. refl))
  paced a b _ _ fine h kept (equal (admit slot text)) = from_matched a b (admit slot text) (admit slot text) refl (admit_both a b slot text h)
  paced a b _ _ fine h kept (equal (run slot v)) = from_matched a b (run slot v) (run slot v) refl (run_both a b slot v fine h)
  paced a b _ _ fine h kept (equal (look clearance t v place column)) = record {
    benches = read_mates a b _ _ ((frames o admits plan a).looked clearance t v place column) ((frames o admits plan b).looked clearance t v place column) h;
    same_ears = refl;
    answers = λ hears. (look_both a b clearance t v place column h hears).is;
  }
  paced a b _ _ fine h kept (equal (count clearance t v)) = record {
    benches = read_mates a b _ _ ((frames o admits plan a).counted clearance t v) ((frames o admits plan b).counted clearance t v) h;
    same_ears = refl;
    answers = λ hears. (count_both a b clearance t v h hears).is;
  }
  paced a b _ _ fine h kept (equal (meter clearance)) = record {
    benches = read_mates a b _ _ ((frames o admits plan a).metered clearance) ((frames o admits plan b).metered clearance) h;
    same_ears = refl;
    answers = λ hears. (meter_both a b clearance h hears).is;
  }
