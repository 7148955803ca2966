-- What is counted is the segments of the text that are words.
use Rattle.std.proofs.Common.{Ok, length, ap, ◌∙◌, filter, rules, tests}
use Rattle.std.proofs.lemmas.Iterator.Consumers.{count_from_yields_List, YieldsList-from_filter, YieldsList-at}
use Rattle.unicode_segmentation.proofs.SegmentsLemmas.{YieldsList-from_gives}
use Rattle.text_words.specs.Words.{is_word}
use Rattle.text_words.proofs.words.count_words.Goals as goal

pub returns : goal.returns
returns c =
    ap Ok (count_from_yields_List _ _ c.count.ensures.ran
    (YieldsList-from_filter _ is_word (YieldsList-at c.filter.ensures.source (YieldsList-from_gives _ _ c.split_word_bounds.result))
    c.filter.ensures.closure (λ x r q k. search (rules, tests)))
    ∙ ap (λ pieces. length (filter is_word pieces)) c.split_word_bounds.ensures.left)
