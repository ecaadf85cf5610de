-- When two lists of calls agree at a label, and what is heard there of their answers.
use Rattle.std.specs.Prelude.{◌≡◌, ℕ, ◌<◌, Bool, true, false, cond, not, ◌&&◌, List, [], ◌∷◌, length, filter, nat_lt, slice_index}
use Rattle.std.specs.List.{AllZip}
use Rattle.rules.specs.declared.answer.Answer.{Answer}
use Rattle.lattice.specs.Order.{Order}
use Rattle.rules.specs.Plans.{Plan}
use Rattle.rules.specs.Lots.{width}
use Rattle.rules.specs.Labels.{row_label, cell_label}
use Rattle.rules.specs.Admission.{Admission}
use Rattle.rules.specs.Calls.{Bench, Call, reply, step}
use Rattle.rules.specs.Calls.Call.{post, admit, run, look, count, meter}

abbrev pub lot_exists : Plan → ℕ → ℕ → Bool
lot_exists plan t v = nat_lt t (length plan.tables) && nat_lt v plan.vendors

-- A post is unseen: its lot exists, and the label of its rows is not at or below s.
abbrev pub unseen : Order → Plan → ℕ → Call → Bool
unseen o plan s (post t v values) = lot_exists plan t v && not (o.below (row_label o plan t v) s)
unseen o plan s (admit slot text) = false
unseen o plan s (run slot v) = false
unseen o plan s (look clearance t v place column) = false
unseen o plan s (count clearance t v) = false
unseen o plan s (meter clearance) = false

-- The calls without the unseen posts.
abbrev pub strike : Order → Plan → ℕ → List Call → List Call
strike o plan s calls = filter (λ call. not (unseen o plan s call)) calls

-- Two calls that may stand beside each other: equal ones, and posts that are equal in table, vendor, number of values and
-- in each value whose cell is seen. A value that has no cell may differ.
pub data Alike (o : Order) (plan : Plan) (s : ℕ) : Call → Call → Type 0 where
  equal : (call : Call) → Alike o plan s call call
  posts : (t v : ℕ) (xs ys : List ℕ) → length xs ≡ length ys
      → ((column : ℕ) → lot_exists plan t v ≡ true → column < width plan t → o.below (cell_label o plan t v column) s ≡ true
      → slice_index xs column ≡ slice_index ys column)
      → Alike o plan s (post t v xs) (post t v ys)

-- Two lists agree at s: without the unseen posts they are alike call by call.
abbrev pub Agree : Order → Plan → ℕ → List Call → List Call → Type 0
Agree o plan s left right = AllZip (Alike o plan s) (strike o plan s left) (strike o plan s right)

-- An answer is heard at s: that of a read whose clearance is at or below s, and that of any other call but an unseen post.
abbrev pub hears : Order → Plan → ℕ → Call → Bool
hears o plan s (post t v values) = not (unseen o plan s (post t v values))
hears o plan s (admit slot text) = true
hears o plan s (run slot v) = true
hears o plan s (look clearance t v place column) = o.below clearance s
hears o plan s (count clearance t v) = o.below clearance s
hears o plan s (meter clearance) = o.below clearance s

-- The answers that are heard at s, in their order.
abbrev pub heard : Order → Admission → Plan → ℕ → Bench → List Call → List Answer
heard o admits plan s bench [] = []
heard o admits plan s bench (c ∷ cs) =
    cond (hears o plan s c) (reply o admits plan bench c ∷ heard o admits plan s (step o admits plan bench c) cs)
    (heard o admits plan s (step o admits plan bench c) cs)
