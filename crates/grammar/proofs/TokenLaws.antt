-- What follows from the rule of tokens.
use Rattle.std.proofs.Common.{◌≡◌, ℕ, ◌+◌, ◌-◌, ◌<◌, ◌≤◌, min, Bool, List, length, get_or, take, drop, Ok, sym, refl, ap, ◌∙◌, subst, arith}
use Rattle.std.proofs.lemmas.List.{length-take, get_or-take, take-take, drop-take}
use Rattle.std.proofs.lemmas.List.Sums.{prefix_len-drop_yes}
use Rattle.grammar.specs.Tokens.{Token, keyword, mark, name, number, end, Found, blank, letter, digit, past_blanks, token_at}
use Rattle.grammar.specs.TokenRule.{part, Stretch, Longest, Is, Next, Right, OneNextToken, TokensLieWithin, BlanksDoNotMatter, ReadingLooksNoFurther}
use Rattle.grammar.proofs.FirstBytes.{token_at_is}
use Rattle.grammar.proofs.Answered.{reading_is_the_rule}

pub one_next_token : OneNextToken
one_next_token text place h f g next other =
    let one = (reading_is_the_rule text place h).all f next in
    let two = (reading_is_the_rule text place h).all g other in
    cc

-- the token read, by the rule
pub next_read : (text : List ℕ) (place : ℕ) → place ≤ length text → (f : Found) → token_at text place ≡ Ok f → Next text place f
next_read text place h f e = subst (Right text place) e (reading_is_the_rule text place h).right

-- how far a token reaches
pub record Reach (text : List ℕ) (from to : ℕ) (t : Token) : Type 0 where
  pub order : from ≤ to
  pub within : to ≤ length text
  pub some : (t ≡ end → ⊥) → from < to

pub is_reach : (text : List ℕ) (from to : ℕ) (t : Token) → Is text from to t → Reach text from to t
is_reach text from to (keyword k) is = record { order = is.run.stretch.order; within = is.run.stretch.within; some = λ _. is.run.some }
is_reach text from to (mark m) is = record { order = omega (arith, is.one); within = omega (arith, is.one, is.within); some = λ _. omega (arith, is.one) }
is_reach text from to (name ls) is = record { order = is.run.stretch.order; within = is.run.stretch.within; some = λ _. is.run.some }
is_reach text from to (number ds v) is = record { order = is.run.stretch.order; within = is.run.stretch.within; some = λ _. is.run.some }
is_reach text from to end is = record { order = omega (arith, is.none); within = omega (arith, is.none, is.here); some = λ no_end. absurd (no_end refl) }

pub tokens_lie_within : TokensLieWithin
tokens_lie_within text place h f e =
    let next = next_read text place h f e in
    let reach = is_reach text f.place f.after f.token next.is in
    record { from = next.blanks.order; order = reach.order; within = reach.within; some = reach.some }

pub blanks_do_not_matter : BlanksDoNotMatter
blanks_do_not_matter text place h b =
    let more = prefix_len-drop_yes blank text place 0 h b in
    let same : past_blanks text place ≡ past_blanks text (place + 1) = omega arith in
    token_at_is text place (past_blanks text place) refl ∙ sym (token_at_is text (place + 1) (past_blanks text place) same)

-- two texts that agree up to a byte
module _ (text other : List ℕ) (last : ℕ) (agree : take (last + 1) text ≡ take (last + 1) other) where
  lengths : min (last + 1) (length text) ≡ min (last + 1) (length other)
  lengths = sym (length-take (last + 1) text) ∙ ap length agree ∙ length-take (last + 1) other

  byte_same : (i : ℕ) → i ≤ last → get_or text i 0 ≡ get_or other i 0
  byte_same i h =
      sym (get_or-take (last + 1) text i 0 (omega arith)) ∙ ap (λ xs. get_or xs i 0) agree ∙ get_or-take (last + 1) other i 0 (omega arith)

  stretch_same : (such : ℕ → Bool) (from to : ℕ) → to ≤ last → Stretch such text from to → Stretch such other from to
  stretch_same such from to h s = record {
    order = s.order;
    within = omega (arith, lengths, s.within);
    all = λ i low high. sym (ap such (byte_same i (omega arith))) ∙ s.all i low high;
  }

  longest_same : (such : ℕ → Bool) (from to : ℕ) → to ≡ last → Longest such text from to → Longest such other from to
  longest_same such from to h r = record {
    stretch = stretch_same such from to (omega arith) r.stretch;
    some = r.some;
    stops = λ l. sym (ap such (byte_same to (omega arith))) ∙ r.stops (omega (arith, lengths));
  }

  part_same : (from to : ℕ) → from ≤ to → to ≤ last → part text from to ≡ part other from to
  part_same from to order h =
      let whole : from + (to - from) ≡ to = omega arith in
      let cut : take to text ≡ take to other = sym (take-take to (last + 1) text (omega arith)) ∙ ap (take to) agree ∙ take-take to (last + 1) other (omega arith) in
      sym (drop-take from (to - from) text) ∙ ap (λ n. drop from (take n text)) whole ∙ ap (drop from) cut
      ∙ sym (ap (λ n. drop from (take n other)) whole) ∙ drop-take from (to - from) other

  is_same : (from to : ℕ) (t : Token) → to ≡ last → Is text from to t → Is other from to t
  is_same from to (keyword k) h is = record {
    run = longest_same letter from to h is.run;
    written = sym (part_same from to is.run.stretch.order (omega arith)) ∙ is.written;
  }
  is_same from to (mark m) h is = record {
    within = omega (arith, lengths, is.within, is.one);
    written = sym (byte_same from (omega (arith, is.one))) ∙ is.written;
    one = is.one;
  }
  is_same from to (name ls) h is = record {
    run = longest_same letter from to h is.run;
    written = sym (part_same from to is.run.stretch.order (omega arith)) ∙ is.written;
    short = is.short;
    no_keyword = is.no_keyword;
  }
  is_same from to (number ds v) h is = record {
    run = longest_same digit from to h is.run;
    written = sym (part_same from to is.run.stretch.order (omega arith)) ∙ is.written;
    counts = is.counts;
    fits = is.fits;
    no_leading_zero = is.no_leading_zero;
  }
  is_same from to end h is = record { here = omega (arith, lengths, is.here, is.none); none = is.none }

pub reading_looks_no_further : ReadingLooksNoFurther
reading_looks_no_further text other place h f e agree =
    let next = next_read text place h f e in
    let reach = is_reach text f.place f.after f.token next.is in
    let blanks = stretch_same text other f.after agree blank place f.place reach.order next.blanks in
    (reading_is_the_rule other place (omega (arith, blanks.order, blanks.within))).all f
    (record { blanks = blanks; is = is_same text other f.after agree f.place f.after f.token refl next.is })
