-- The number of the token of each place.
use Rattle.std.proofs.Common.{◌∙◌}
use Rattle.all_matches.specs.Spans.{in_span}
use Rattle.index_phrases.proofs.SpanTokens.{paragraph_read, part_paragraph, part_sentence, sentence_read}
use Rattle.index_phrases.proofs.laws.span_numbers_law.Goals as goal

pub returns-clause-sentences : goal.returns-clause-sentences
returns-clause-sentences c = λ document tokens span text s i h. sentence_read (in_span span tokens) i h ∙ part_sentence document tokens span text s i h

pub returns-clause-paragraphs : goal.returns-clause-paragraphs
returns-clause-paragraphs c = λ document tokens span text s i h. paragraph_read (in_span span tokens) i h ∙ part_paragraph document tokens span text s i h
