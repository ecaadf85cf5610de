-- A run counted is a stretch of such bytes that stops, and the other way round.
use Rattle.std.proofs.Common.{◌≡◌, ℕ, ◌+◌, ◌-◌, ◌<◌, ◌≤◌, Bool, true, false, List, length, get_or, drop, sym, ap, ◌∙◌, arith, length-drop}
use Rattle.std.proofs.lemmas.Grind.{common_steps}
use Rattle.std.proofs.lemmas.Bool.Decides.{nat_tests}
use Rattle.std.specs.List.{prefix_len}
use Rattle.std.proofs.lemmas.List.{get_or-drop}
use Rattle.std.proofs.lemmas.List.Sums.{prefix_len_passes, prefix_len_stops, prefix_len_is}
use Rattle.grammar.specs.TokenRule.{Stretch}
use Rattle.grammar.proofs.Runs.{run_within}

-- from a place of a text on
at_place : (such : ℕ → Bool) (text : List ℕ) (from i : ℕ) (t : Bool) → from ≤ i → such (get_or (drop from text) (i - from) 0) ≡ t → such (get_or text i 0) ≡ t
at_place such text from i t h e = grind (arith, common_steps, nat_tests, get_or-drop from text (i - from) 0)

pub run_stretch : (such : ℕ → Bool) (text : List ℕ) (from : ℕ) → from ≤ length text → Stretch such text from (from + prefix_len such (drop from text))
run_stretch such text from h = record {
  order = omega arith;
  within = run_within such text from h;
  all = λ i low high. at_place such text from i true low (prefix_len_passes such (drop from text) (i - from) 0 (omega arith));
}

pub run_stops : (such : ℕ → Bool) (text : List ℕ) (from : ℕ) → from + prefix_len such (drop from text) < length text
    → such (get_or text (from + prefix_len such (drop from text)) 0) ≡ false
run_stops such text from h =
    sym (ap such (get_or-drop from text (prefix_len such (drop from text)) 0)) ∙ prefix_len_stops such (drop from text) 0 (omega (arith, length-drop from text))

pub run_is : (such : ℕ → Bool) (text : List ℕ) (from to : ℕ) → Stretch such text from to → (to < length text → such (get_or text to 0) ≡ false)
    → to ≡ from + prefix_len such (drop from text)
run_is such text from to s stops =
    let n = prefix_len_is such (drop from text) (to - from) 0 (omega (arith, s.order, s.within, length-drop from text))
    (λ i l. ap such (get_or-drop from text i 0) ∙ s.all (from + i) (omega arith) (omega (arith, s.order)))
    (λ l. ap such (get_or-drop from text (to - from) 0)
    ∙ ap (λ j. such (get_or text j 0)) (let back : from + (to - from) ≡ to = omega (arith, s.order) in back)
    ∙ stops (omega (arith, s.order, length-drop from text))) in
    omega (arith, s.order)
