-- The next segment is the first of those that are left, and behind it the word is that segment, or none.
use Rattle.std.proofs.Common.{◌≡◌, ℕ, List, All, ◌∷◌, refl, sym, ap, ◌∙◌, map, subst, if◌then◌else◌}
use Rattle.std.proofs.lemmas.List.Elements.{All-head, All-rest}
use Rattle.unicode_segmentation.specs.Iter.{word_bound_indices_left}
use Rattle.text_words.specs.Words.{is_word}
use Rattle.tokenizer.specs.Parts.{gap_characters, parts_behind, without_period, word}
use Rattle.tokenizer.specs.steps.Behind.{StandsIn, has_word, spares}
use Rattle.tokenizer.specs.steps.SegmentParts.{IsSegmentOf}
use Rattle.tokenizer.specs.steps.SegmentsLeft.{parts_left}
use Rattle.tokenizer.proofs.PartsLemmas.{parts_behind-nil}
use Rattle.tokenizer.proofs.SegmentsLemmas.{has_word-word_of, next-segment, word_of, word_of-stands}
use Rattle.tokenizer.proofs.segments.Segments.next.Goals as goal

pub returns-in_default : goal.returns-in_default
unfolding parts_left
returns-in_default c abbreviations =
    let spared = spares abbreviations c.args.self.now.text.now c.args.self.now.before in
    ap (λ l. parts_behind abbreviations spared (map (λ (x : ℕ × List ℕ). x.1) l)) c.in_default.ensures.steps.0 ∙ parts_behind-nil abbreviations spared

pub invariant_of-self-2 : goal.invariant_of-self-2
invariant_of-self-2 c =
    let text = c.args.self.now.text.now in
    let x : ℕ × List ℕ = (c.in-Some.from, c.in-Some.text.now) in
    let left = word_bound_indices_left c.next.new.self in
    let all = subst (All (IsSegmentOf text)) c.in-Some.ensures.steps c.args.self.now.inside in
    record {
      short = c.args.self.now.short;
      inside = All-rest (IsSegmentOf text) x left _ c.in-Some.ensures.steps c.args.self.now.inside;
      before_stands = subst (StandsIn text) (sym c.word_at-self.ensures) (word_of-stands text x (All-head (IsSegmentOf text) x left all) c.is_word.result);
    }

pub returns : goal.returns
unfolding parts_left
returns c =
    let old = c.args.self.now in
    let text = old.text.now in
    let x : ℕ × List ℕ = (c.in-Some.from, c.in-Some.text.now) in
    let left = word_bound_indices_left c.next.new.self in
    let rest = map (λ (x : ℕ × List ℕ). x.1) left in
    let all = subst (All (IsSegmentOf text)) c.in-Some.ensures.steps old.inside in
    let is : is_word x.1 ≡ c.is_word.result = sym c.is_word.ensures in
    let behind : word_of (is_word x.1) x ≡ c.word_at-self.result = ap (λ b. word_of b x) is ∙ sym c.word_at-self.ensures in
    record {
      parts = λ abbreviations.
          ap (λ l. parts_behind abbreviations (spares abbreviations text old.before) (map (λ (x : ℕ × List ℕ). x.1) l)) c.in-Some.ensures.steps
          ∙ next-segment abbreviations text old.before x rest (All-head (IsSegmentOf text) x left all)
          ∙ (λ i. (if is i then word x.1 else gap_characters (without_period (spares abbreviations text old.before) x.1)) ∷ parts_behind abbreviations (spares abbreviations text (behind i)) rest);
      text = refl;
      before = refl;
      behind_word = λ has. has_word-word_of c.is_word.result x (ap has_word (sym c.word_at-self.ensures) ∙ has);
    }
