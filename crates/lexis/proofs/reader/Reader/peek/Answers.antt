use Rattle.std.proofs.Common.{◌≡◌, ◌<◌, length, get_or, sym, ap, ◌∙◌, rules, arith}
use Rattle.grammar.specs.Spelling.{mark_of}
use Rattle.grammar.specs.Tokens.{blank, letter, digit, read_mark}
use Rattle.grammar.proofs.FirstBytes.{read_end, read_letter, read_digit, read_other, token_at_is}
use Rattle.lexis.proofs.reader.Reader.peek.Goals as goal

pub returns-in-None : goal.returns-in-None
returns-in-None c =
    let text = c.args.self.now.text.now in
    let at = c.run_end-place.result in
    let place = token_at_is text c.args.self.now.place at (c.run_end-place.ensures blank (λ b r k. k.says.met ∙ ap blank k.shows)) in
    sym (place ∙ read_end text at (omega (arith, c.in-None.ensures)))

pub returns-in-Some : goal.returns-in-Some
returns-in-Some c =
    let text = c.args.self.now.text.now in
    let at = c.run_end-place.result in
    let place = token_at_is text c.args.self.now.place at (c.run_end-place.ensures blank (λ b r k. k.says.met ∙ ap blank k.shows)) in
    let within : at < length text = omega (arith, c.in-Some.ensures) in
    let is : c.in-Some.byte.now ≡ get_or text at 0 = search (rules, c.in-Some.ensures) in
    c.read_word.ensures ∙ sym (place ∙ read_letter text at within (ap letter (sym is) ∙ sym c.is_letter.ensures ∙ c.if-is_letter.true))

pub returns-in-Some-2 : goal.returns-in-Some-2
returns-in-Some-2 c =
    let text = c.args.self.now.text.now in
    let at = c.run_end-place.result in
    let place = token_at_is text c.args.self.now.place at (c.run_end-place.ensures blank (λ b r k. k.says.met ∙ ap blank k.shows)) in
    let within : at < length text = omega (arith, c.in-Some.ensures) in
    let is : c.in-Some.byte.now ≡ get_or text at 0 = search (rules, c.in-Some.ensures) in
    c.read_number.ensures
    ∙ sym (place ∙ read_digit text at within (ap letter (sym is) ∙ sym c.is_letter.ensures ∙ c.if-is_letter.false) (ap digit (sym is) ∙ sym c.is_digit.ensures ∙ c.if-is_digit.true))

pub returns-in-Some-3 : goal.returns-in-Some-3
returns-in-Some-3 c =
    let text = c.args.self.now.text.now in
    let at = c.run_end-place.result in
    let place = token_at_is text c.args.self.now.place at (c.run_end-place.ensures blank (λ b r k. k.says.met ∙ ap blank k.shows)) in
    let within : at < length text = omega (arith, c.in-Some.ensures) in
    let is : c.in-Some.byte.now ≡ get_or text at 0 = search (rules, c.in-Some.ensures) in
    c.read_mark.ensures ∙ ap (λ b. read_mark at (mark_of b)) is
    ∙ sym (place ∙ read_other text at within (ap letter (sym is) ∙ sym c.is_letter.ensures ∙ c.if-is_letter.false) (ap digit (sym is) ∙ sym c.is_digit.ensures ∙ c.if-is_digit.false))
