-- At first all of the document is left; a text's words are then seen, and those after it are still to come.
use Rattle.std.proofs.Common.{◌≡◌, ◌∷◌, flat_map, length, length-append, sym, ap, ◌∙◌, zero-add, arith}
use Rattle.text_words.specs.Words.{words}
use Rattle.unicode_segmentation.specs.Word.{word_bounds}
use Rattle.tokenizer.specs.Parts.{characters, parts, parts_of_event}
use Rattle.tokenizer.specs.steps.StartsLeft.{sentences_in, paragraphs_in}
use Rattle.tokenizer.specs.Tokens.{tokens}
use Rattle.tokenizer.specs.steps.Walks.{events_left}
use Rattle.tokenizer.proofs.PartsLemmas.{words_among, words_among-parts, words_among-text}
use Rattle.tokenizer.proofs.breaks.breaks_of.Goals as goal

pub loop-walk-init : goal.loop-walk-init
unfolding tokens
loop-walk-init c = record {
  sentences = rw (c.new-walk.ensures, c.root.ensures.tree) (sym (c.new-starts.ensures.sentences (parts c.args.abbreviations.now c.args.doc.now)));
  paragraphs = rw (c.new-walk.ensures, c.root.ensures.tree) (sym (c.new-starts.ensures.paragraphs (parts c.args.abbreviations.now c.args.doc.now)));
  words = rw (c.new-starts.ensures.words, c.new-walk.ensures, c.root.ensures.tree) (zero-add (length (words_among (parts c.args.abbreviations.now c.args.doc.now))) ∙ ap length (words_among-parts c.args.abbreviations.now c.args.doc.now));
}

pub pass_text-requires : goal.pass_text-requires
pass_text-requires c =
    let next : events_left c.loop-walk.walk ≡ characters c.in-Text.text.now ∷ events_left c.next.new.self = rw (c.in-Some.is, c.in-Text.is) at c.in_ok-event.ensures in
    let left = flat_map (parts_of_event c.args.abbreviations.now) (events_left c.next.new.self) in
    let words = ap (λ l. length (words_among (flat_map (parts_of_event c.args.abbreviations.now) l))) next
    ∙ ap length (words_among-text c.args.abbreviations.now (word_bounds c.in-Text.text.now) left) ∙ length-append (words c.in-Text.text.now) (words_among left) in
    omega (arith, words, c.loop-walk.invariant.words)

pub loop-walk-preserved : goal.loop-walk-preserved
loop-walk-preserved c =
    let next : events_left c.loop-walk.walk ≡ characters c.in-Text.text.now ∷ events_left c.next.new.self = rw (c.in-Some.is, c.in-Text.is) at c.in_ok-event.ensures in
    let left = flat_map (parts_of_event c.args.abbreviations.now) (events_left c.next.new.self) in
    let words = ap (λ l. length (words_among (flat_map (parts_of_event c.args.abbreviations.now) l))) next
    ∙ ap length (words_among-text c.args.abbreviations.now (word_bounds c.in-Text.text.now) left) ∙ length-append (words c.in-Text.text.now) (words_among left) in
    record {
      sentences = c.loop-walk.invariant.sentences ∙ ap (λ l. sentences_in c.loop-walk.starts (flat_map (parts_of_event c.args.abbreviations.now) l)) next ∙ c.in_ok-pass_text-in-Text.ensures.sentences left;
      paragraphs = c.loop-walk.invariant.paragraphs ∙ ap (λ l. paragraphs_in c.loop-walk.starts (flat_map (parts_of_event c.args.abbreviations.now) l)) next ∙ c.in_ok-pass_text-in-Text.ensures.paragraphs left;
      words = omega (arith, words, c.loop-walk.invariant.words, c.in_ok-pass_text-in-Text.ensures.words);
    }
