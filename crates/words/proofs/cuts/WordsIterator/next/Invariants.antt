use Rattle.std.proofs.Common.{◌≡◌, ◌≤◌, length}
use Rattle.words.specs.Cuts.{first_word, after_word}
use Rattle.words.proofs.cuts.WordsIterator.next.Given as goal

-- What is left has the word that is looked for.
abbrev pub invariant-loop-word : goal.invariant-loop-word
invariant-loop-word l = record {
  word : first_word l.self.rest.now ≡ first_word l.initial.self.rest.now;
  after : after_word l.self.rest.now ≡ after_word l.initial.self.rest.now;
  shorter : length l.self.rest.now ≤ length l.initial.self.rest.now;
}

abbrev pub decreases-loop-word : goal.decreases-loop-word
decreases-loop-word l = length l.self.rest.now
