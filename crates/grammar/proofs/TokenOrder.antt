-- The tokens of a text lie one behind the other, and none is left out.
use Rattle.std.proofs.Common.{◌≡◌, ℕ, zero, suc, ◌+◌, ◌≤◌, Bool, true, false, List, length, Ok, Err, Result, refl, ap, ◌∙◌, arith}
use Rattle.std.proofs.lemmas.Grind.{common_steps}
use Rattle.std.proofs.lemmas.Bool.Decides.{nat_tests}
use Rattle.std.proofs.lemmas.Bool.{both_ways}
use Rattle.grammar.specs.Tokens.{Refusal, Token, end, Found, token_at}
use Rattle.grammar.specs.TokenList.{is_end, list_on, tokens_from, Rising, behind_all, over, TokensAreInOrder}
use Rattle.grammar.proofs.TokenLaws.{tokens_lie_within}

-- the facts of a list of tokens that is read from a place on, with bytes enough to read them all
pub record InOrder (text : List ℕ) (place n : ℕ) (fs : List Found) : Type 0 where
  pub rising : Rising place (length text) fs
  pub whole : length text ≤ place + n → over (token_at text (behind_all place fs)) ≡ true

no_end : (t : Token) → is_end t ≡ false → t ≡ end → ⊥
no_end t p e = both_ways (is_end t) p (ap is_end e)

-- a token at the end of the text would have no byte
over_at_end : (text : List ℕ) (place : ℕ) → place ≡ length text → over (token_at text place) ≡ true
over_at_end text place h = grind (arith, common_steps, nat_tests, tokens_lie_within text place)

pub in_order : (n : ℕ) (text : List ℕ) (place : ℕ) → place ≤ length text → InOrder text place n (tokens_from n text place)
in_order zero text place h = record { rising = h; whole = λ full. over_at_end text place (omega arith) }
in_order (suc n) text place h = go (token_at text place) refl (in_order n text)
  where
    go : (r : Result Found Refusal) → token_at text place ≡ r → ((p : ℕ) → p ≤ length text → InOrder text p n (tokens_from n text p))
        → InOrder text place (suc n) (list_on (token_at text place) (tokens_from n text))
    go (Err why) e rest = rw e (record { rising = h; whole = λ _. ap over e })
    go (Ok f) e rest = one (is_end f.token) refl
      where
        one : (t : Bool) → is_end f.token ≡ t → InOrder text place (suc n) (list_on (token_at text place) (tokens_from n text))
        one true p = rw (e, p) (record { rising = h; whole = λ _. ap over e ∙ p })
        one false p =
            let lies = tokens_lie_within text place h f e in
            let some = lies.some (no_end f.token p) in
            let later = rest f.after lies.within in
            rw (e, p) (record { rising = (lies.from, (some, later.rising)); whole = λ full. later.whole (omega (arith, lies.from)) })

pub tokens_are_in_order : TokensAreInOrder
tokens_are_in_order text =
    let all = in_order (length text) text 0 (omega arith) in
    record { rising = all.rising; whole = all.whole (omega arith) }
