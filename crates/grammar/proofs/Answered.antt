-- What reading answers is right: the next token, or the place where none can be read.
use Rattle.std.proofs.Common.{◌≡◌, ℕ, ◌+◌, ◌^◌, ◌<◌, ◌≤◌, Bool, true, false, ◌||◌, eqb, ltb, leb, List, length, get_or, drop, Some, None, Ok, Err, Option, sym, refl, ap, ◌∙◌, subst, ⊎_elim, arith}
use Rattle.std.specs.Str.Parse.{digits_value}
use Rattle.std.specs.List.{prefix_len}
use Rattle.std.proofs.lemmas.List.Sums.{prefix_len-drop_yes}
use Rattle.std.proofs.lemmas.Bool.{or_parts, and_from, eq-eqb, lt-ltb, ltb-false, leb-false, both_ways, cases_lt}
use Rattle.rules.specs.declared.refusal.Refusal.TheVariants.{NoToken}
use Rattle.rules.specs.Guards.{guard}
use Rattle.grammar.specs.declared.keywords.Keyword.{Keyword}
use Rattle.grammar.specs.declared.marks.Mark.{Mark}
use Rattle.grammar.specs.Spelling.{keyword_of, mark_of}
use Rattle.grammar.specs.Tokens.{Token, keyword, mark, name, number, end, blank, letter, digit, run, word, found, leading_zero, read, read_word, read_number, read_mark, past_blanks, token_at}
use Rattle.grammar.specs.TokenRule.{part, Stretch, Longest, Is, Right, ReadingIsTheRule}
use Rattle.grammar.proofs.Runs.{length_run, part_is_run}
use Rattle.grammar.proofs.Stretches.{run_stretch, run_stops}
use Rattle.grammar.proofs.Spelled.{keyword_of_letters, keyword_is_written, mark_is_written}
use Rattle.grammar.proofs.FirstBytes.{read_end, read_letter, read_digit, read_other, token_at_is}
use Rattle.grammar.proofs.Found.{next_found}

-- the run at a place whose first byte is such a byte
longest_run : (such : ℕ → Bool) (text : List ℕ) (at : ℕ) → at < length text → such (get_or text at 0) ≡ true
    → Longest such text at (at + prefix_len such (drop at text))
longest_run such text at h first = record {
  stretch = run_stretch such text at (omega arith);
  some = omega (arith, prefix_len-drop_yes such text at 0 h first);
  stops = run_stops such text at;
}

-- the end of the run, as reading counts it
run_end : (such : ℕ → Bool) (text : List ℕ) (at : ℕ) → at + length (run such (drop at text)) ≡ at + prefix_len such (drop at text)
run_end such text at = ap (λ n. at + n) (length_run such (drop at text))

written_run : (such : ℕ → Bool) (text : List ℕ) (at : ℕ) → part text at (at + prefix_len such (drop at text)) ≡ run such (drop at text)
written_run such text at = part_is_run such text at (at + prefix_len such (drop at text)) refl

-- where the blanks end, and no token of the rule stands
refused : (text : List ℕ) (place at : ℕ) → Stretch blank text place at → at < length text → blank (get_or text at 0) ≡ false
    → token_at text place ≡ Err (NoToken at) → Right text place (token_at text place)
refused text place at s inside dark e =
    subst (Right text place) (sym e) (
      at,
      refl,
      record {
        blanks = s;
        inside = inside;
        no_blank = dark;
        none = λ after t is. let never = next_found text place at after t s is in let z : ◌≡◌ {A = ℕ} 0 1 = cc in omega arith;
      },
    )

taken : (text : List ℕ) (place at after : ℕ) (t : Token) → Stretch blank text place at → Is text at after t
    → Right text place (Ok (record { token = t; place = at; after = after }))
taken text place at after t s is = record { blanks = s; is = is }

module _ (text : List ℕ) (place at : ℕ) (s : Stretch blank text place at) (inside : at < length text)
    (dark : blank (get_or text at 0) ≡ false) where
  right_word : letter (get_or text at 0) ≡ true → token_at text place ≡ read_word at (run letter (drop at text)) → Right text place (token_at text place)
  right_word first e = go (ltb 8 (length (run letter (drop at text)))) refl (keyword_of (run letter (drop at text))) refl
    where
      chain : (t : Bool) → ltb 8 (length (run letter (drop at text))) ≡ t
          → token_at text place ≡ guard t (NoToken at) (found (word (run letter (drop at text)) (keyword_of (run letter (drop at text)))) at (length (run letter (drop at text))))
      chain t p = e ∙ ap (λ b. guard b (NoToken at) (found (word (run letter (drop at text)) (keyword_of (run letter (drop at text)))) at (length (run letter (drop at text))))) p

      seen : (o : Option Keyword) → ltb 8 (length (run letter (drop at text))) ≡ false → keyword_of (run letter (drop at text)) ≡ o
          → token_at text place ≡ Ok (record { token = word (run letter (drop at text)) o; place = at; after = at + prefix_len letter (drop at text) })
      seen o p q = chain false p ∙ (λ i. Ok (record { token = word (run letter (drop at text)) (q i); place = at; after = run_end letter text at i }))

      go : (t : Bool) → ltb 8 (length (run letter (drop at text))) ≡ t → (o : Option Keyword) → keyword_of (run letter (drop at text)) ≡ o
          → Right text place (token_at text place)
      go true p o q = refused text place at s inside dark (chain true p)
      go false p (Some k) q =
          subst (Right text place) (sym (seen (Some k) p q))
          (taken text place at (at + prefix_len letter (drop at text)) (keyword k) s (record {
            run = longest_run letter text at inside first;
            written = written_run letter text at ∙ keyword_is_written (run letter (drop at text)) k q;
          }))
      go false p None q =
          subst (Right text place) (sym (seen None p q))
          (taken text place at (at + prefix_len letter (drop at text)) (name (run letter (drop at text))) s (record {
            run = longest_run letter text at inside first;
            written = written_run letter text at;
            short = ltb-false 8 (length (run letter (drop at text))) p;
            no_keyword = λ k same.
                let clash : Some k ≡ None = sym (keyword_of_letters k) ∙ ap keyword_of (sym same) ∙ q in
                let z : ◌≡◌ {A = ℕ} 0 1 = cc in omega arith;
          }))

  right_number : digit (get_or text at 0) ≡ true → token_at text place ≡ read_number at (run digit (drop at text)) → Right text place (token_at text place)
  right_number first e = go (leading_zero (run digit (drop at text)) || leb (2 ^ 32) (digits_value 10 (run digit (drop at text)))) refl
    where
      chain : (t : Bool) → (leading_zero (run digit (drop at text)) || leb (2 ^ 32) (digits_value 10 (run digit (drop at text)))) ≡ t
          → token_at text place ≡ guard t (NoToken at) (found (number (run digit (drop at text)) (digits_value 10 (run digit (drop at text)))) at (length (run digit (drop at text))))
      chain t p = e ∙ ap (λ b. guard b (NoToken at) (found (number (run digit (drop at text)) (digits_value 10 (run digit (drop at text)))) at (length (run digit (drop at text))))) p

      go : (t : Bool) → (leading_zero (run digit (drop at text)) || leb (2 ^ 32) (digits_value 10 (run digit (drop at text)))) ≡ t → Right text place (token_at text place)
      go true p = refused text place at s inside dark (chain true p)
      go false p =
          let parts = or_parts (leading_zero (run digit (drop at text))) (leb (2 ^ 32) (digits_value 10 (run digit (drop at text)))) p in
          subst (Right text place)
          (sym (chain false p ∙ (λ i. Ok (record { token = number (run digit (drop at text)) (digits_value 10 (run digit (drop at text))); place = at; after = run_end digit text at i }))))
          (taken text place at (at + prefix_len digit (drop at text)) (number (run digit (drop at text)) (digits_value 10 (run digit (drop at text)))) s (record {
            run = longest_run digit text at inside first;
            written = written_run digit text at;
            counts = refl;
            fits = leb-false (2 ^ 32) (digits_value 10 (run digit (drop at text))) parts.1;
            no_leading_zero = λ more is_zero. both_ways (leading_zero (run digit (drop at text))) parts.0
                (and_from (eqb (get_or (run digit (drop at text)) 0 0) 48) (ltb 1 (length (run digit (drop at text))))
                (eq-eqb (get_or (run digit (drop at text)) 0 0) 48 is_zero) (lt-ltb 1 (length (run digit (drop at text))) more));
          }))

  right_mark : token_at text place ≡ read_mark at (mark_of (get_or text at 0)) → Right text place (token_at text place)
  right_mark e = go (mark_of (get_or text at 0)) refl
    where
      go : (o : Option Mark) → mark_of (get_or text at 0) ≡ o → Right text place (token_at text place)
      go None p = refused text place at s inside dark (e ∙ ap (read_mark at) p)
      go (Some m) p =
          subst (Right text place) (sym (e ∙ ap (read_mark at) p))
          (taken text place at (at + 1) (mark m) s (record { within = inside; written = mark_is_written (get_or text at 0) m p; one = refl }))

  right_inside : token_at text place ≡ read at (drop at text) → Right text place (token_at text place)
  right_inside e = go (letter (get_or text at 0)) refl (digit (get_or text at 0)) refl
    where
      go : (x : Bool) → letter (get_or text at 0) ≡ x → (y : Bool) → digit (get_or text at 0) ≡ y → Right text place (token_at text place)
      go true p y q = right_word p (e ∙ read_letter text at inside p)
      go false p true q = right_number q (e ∙ read_digit text at inside p q)
      go false p false q = right_mark (e ∙ read_other text at inside p q)

right : (text : List ℕ) (place : ℕ) → place ≤ length text → Right text place (token_at text place)
right text place h =
    let s = run_stretch blank text place h in
    let e = token_at_is text place (past_blanks text place) refl in
    ⊎_elim
    (λ inside. right_inside text place (past_blanks text place) s inside (run_stops blank text place inside) e)
    (λ past. subst (Right text place) (sym (e ∙ read_end text (past_blanks text place) past))
    (taken text place (past_blanks text place) (past_blanks text place) end s (record { here = omega (arith, s.within); none = refl })))
    (cases_lt (past_blanks text place) (length text))

pub reading_is_the_rule : ReadingIsTheRule
reading_is_the_rule text place h = record {
  right = right text place h;
  all = λ f next. next_found text place f.place f.after f.token next.blanks next.is;
}
