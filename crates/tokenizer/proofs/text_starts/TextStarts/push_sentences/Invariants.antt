-- What was put to the end, then the starts that stay of those that are left, are all; each that is left is after the last one.
use Rattle.std.proofs.Common.{◌≡◌, ℕ, ◌+◌, ◌<◌, ◌≤◌, ◌++◌, All, length, map, drop}
use Rattle.std.specs.Option.{ForSome}
use Rattle.ft_base.specs.Places.{last_place}
use Rattle.tokenizer.specs.steps.TextsKnown.{sentences_under, staying, words_known}
use Rattle.tokenizer.proofs.text_starts.TextStarts.push_sentences.Given as goal

abbrev pub invariant-loop-number : goal.invariant-loop-number
invariant-loop-number l = record {
  done : l.places ++ map (λ place. l.fn.before + place) (staying l.abbreviations l.text (drop l.number l.self.after.breaks.sentences) (drop l.number l.self.by_period.items))
      ≡ l.fn.places ++ map (λ place. l.fn.before + place) (sentences_under l.abbreviations l.text l.self);
  counted : l.count + length (staying l.abbreviations l.text (drop l.number l.self.after.breaks.sentences) (drop l.number l.self.by_period.items))
      ≡ length (sentences_under l.abbreviations l.text l.self);
  above : ForSome (last_place l.places) (λ last. All (λ place. last < l.fn.before + place) (drop l.number l.self.after.breaks.sentences));
  most : (most : ℕ) → ForSome (last_place l.fn.places) (λ last. last ≤ most) → l.fn.before + words_known l.self ≤ most → ForSome (last_place l.places) (λ last. last ≤ most);
}
