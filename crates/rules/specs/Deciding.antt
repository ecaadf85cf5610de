-- Agreement as a verdict that can be worked out.
use Rattle.std.specs.Prelude.{◌≡◌, ℕ, suc, Bool, true, false, not, ◌&&◌, ◌||◌, List, [], ◌∷◌, ◌==◌, nat_lt}
use Rattle.lattice.specs.Order.{Order}
use Rattle.rules.specs.Plans.{Plan}
use Rattle.rules.specs.Lots.{width}
use Rattle.rules.specs.Labels.{cell_label}
use Rattle.rules.specs.Calls.{Call}
use Rattle.rules.specs.Calls.Call.{post, admit, run, look, count, meter}
use Rattle.rules.specs.Agreement.{lot_exists, strike, Agree}

-- Two lists of numbers are equal.
abbrev pub same_numbers : List ℕ → List ℕ → Bool
same_numbers [] [] = true
same_numbers [] (y ∷ ys) = false
same_numbers (x ∷ xs) [] = false
same_numbers (x ∷ xs) (y ∷ ys) = x == y && same_numbers xs ys

-- The cell of a posted value is seen: the lot exists, the column is one of the table's, and the label is at or below s.
abbrev pub seen_cell : Order → Plan → ℕ → ℕ → ℕ → ℕ → Bool
seen_cell o plan s t v column = lot_exists plan t v && (nat_lt column (width plan t) && o.below (cell_label o plan t v column) s)

-- Two lists of values are equally long, and equal from a column on in each value whose cell is seen.
abbrev pub same_values : Order → Plan → ℕ → ℕ → ℕ → ℕ → List ℕ → List ℕ → Bool
same_values o plan s t v column [] [] = true
same_values o plan s t v column [] (y ∷ ys) = false
same_values o plan s t v column (x ∷ xs) [] = false
same_values o plan s t v column (x ∷ xs) (y ∷ ys) =
    (x == y || not (seen_cell o plan s t v column)) && same_values o plan s t v (suc column) xs ys

-- A post beside another call, an admission, and so on.
abbrev pub like_post : Order → Plan → ℕ → ℕ → ℕ → List ℕ → Call → Bool
like_post o plan s t v xs (post u w ys) = t == u && (v == w && same_values o plan s t v 0 xs ys)
like_post o plan s t v xs (admit slot text) = false
like_post o plan s t v xs (run slot w) = false
like_post o plan s t v xs (look clearance u w place column) = false
like_post o plan s t v xs (count clearance u w) = false
like_post o plan s t v xs (meter clearance) = false

abbrev pub like_admit : ℕ → List ℕ → Call → Bool
like_admit slot text (post t v values) = false
like_admit slot text (admit other letters) = slot == other && same_numbers text letters
like_admit slot text (run other v) = false
like_admit slot text (look clearance t v place column) = false
like_admit slot text (count clearance t v) = false
like_admit slot text (meter clearance) = false

abbrev pub like_run : ℕ → ℕ → Call → Bool
like_run slot v (post t w values) = false
like_run slot v (admit other text) = false
like_run slot v (run other w) = slot == other && v == w
like_run slot v (look clearance t w place column) = false
like_run slot v (count clearance t w) = false
like_run slot v (meter clearance) = false

abbrev pub like_look : List ℕ → Call → Bool
like_look numbers (post t v values) = false
like_look numbers (admit slot text) = false
like_look numbers (run slot v) = false
like_look numbers (look clearance t v place column) = same_numbers numbers (clearance ∷ t ∷ v ∷ place ∷ column ∷ [])
like_look numbers (count clearance t v) = false
like_look numbers (meter clearance) = false

abbrev pub like_count : List ℕ → Call → Bool
like_count numbers (post t v values) = false
like_count numbers (admit slot text) = false
like_count numbers (run slot v) = false
like_count numbers (look clearance t v place column) = false
like_count numbers (count clearance t v) = same_numbers numbers (clearance ∷ t ∷ v ∷ [])
like_count numbers (meter clearance) = false

abbrev pub like_meter : ℕ → Call → Bool
like_meter clearance (post t v values) = false
like_meter clearance (admit slot text) = false
like_meter clearance (run slot v) = false
like_meter clearance (look other t v place column) = false
like_meter clearance (count other t v) = false
like_meter clearance (meter other) = clearance == other

-- Two calls may stand beside each other.
abbrev pub alike : Order → Plan → ℕ → Call → Call → Bool
alike o plan s (post t v xs) d = like_post o plan s t v xs d
alike o plan s (admit slot text) d = like_admit slot text d
alike o plan s (run slot v) d = like_run slot v d
alike o plan s (look clearance t v place column) d = like_look (clearance ∷ t ∷ v ∷ place ∷ column ∷ []) d
alike o plan s (count clearance t v) d = like_count (clearance ∷ t ∷ v ∷ []) d
alike o plan s (meter clearance) d = like_meter clearance d

-- Two lists are alike call by call.
abbrev pub all_alike : Order → Plan → ℕ → List Call → List Call → Bool
all_alike o plan s [] [] = true
all_alike o plan s [] (d ∷ ds) = false
all_alike o plan s (c ∷ cs) [] = false
all_alike o plan s (c ∷ cs) (d ∷ ds) = alike o plan s c d && all_alike o plan s cs ds

-- Two lists agree at s.
abbrev pub agree : Order → Plan → ℕ → List Call → List Call → Bool
agree o plan s left right = all_alike o plan s (strike o plan s left) (strike o plan s right)

-- The verdict is yes exactly where the lists agree.
abbrev pub AgreementIsDecided : Type 0
AgreementIsDecided =
    (o : Order) (plan : Plan) (s : ℕ) (left right : List Call)
    → (agree o plan s left right ≡ true → Agree o plan s left right) × (Agree o plan s left right → agree o plan s left right ≡ true)
