-- What a filter asks of single words that are joined under it, by the places at which they stand.
use Rattle.std.proofs.Common.{◌≡◌, refl, ap, ◌∙◌, ℕ, ◌+◌, ◌-◌, eqb, ◌≤◌, Bool, true, ◌&&◌, List, [], ◌∷◌, map, length, get_or, Some, arith}
use Rattle.std.specs.Prelude.{nat_le, nat_lt}
use Rattle.std.specs.List.{list_all}
use Rattle.std.proofs.lemmas.Bool.{and_from, and_parts}
use Rattle.std.proofs.lemmas.Bool.Decides.{nat_tests}
use Rattle.std.proofs.lemmas.Option.{cond_some, none-some, same_Some}
use Rattle.ft_base.specs.declared.filter.Filter.{Filter}
use Rattle.ft_base.specs.declared.filter.Filter.TheVariants as F
use Rattle.ft_base.specs.declared.hit.Hit.{Hit}
use Rattle.ft_base.specs.declared.places.Breaks.{Breaks}
use Rattle.ft_base.specs.declared.span.Span.{Span}
use Rattle.ft_base.specs.declared.range.Range.{Range}
use Rattle.ft_base.specs.declared.range.Range.TheVariants as R
use Rattle.ft_base.specs.declared.unit.TextUnit.{TextUnit}
use Rattle.ft_base.specs.declared.unit.TextUnit.TheVariants as Unit
use Rattle.all_matches.specs.Boolean.{satisfied}
use Rattle.all_matches.specs.Ways.{matches_of}
use Rattle.index_phrases.specs.Phrases.{own_number}
use Rattle.index_cursors.specs.SpanHits.{started}
use Rattle.place_merges.specs.steps.Searching.{has}
use Rattle.window_merges.specs.Choices.{are_close, are_in_one, are_in_order, some_choice}
use Rattle.window_merges.specs.Words.{are_numbered, are_single, are_told, filtered_words, first_words}
use Rattle.window_merges.proofs.ChoiceLemmas.{same_places}
use Rattle.window_merges.proofs.OrderLemmas.{later_all}
use Rattle.window_merges.proofs.FilterLemmas.{ordered_choices, window_choices}
use Rattle.window_merges.proofs.ShiftLemmas.{close_counted, order_counted}
use Rattle.window_merges.proofs.DistanceFilter.{distance_choices}
use Rattle.window_merges.proofs.UnitFilter.{counted_units, same_paragraph, same_sentence}
use Rattle.plan_kinds.specs.steps.JoinedPhrases.{are_two}
use Rattle.plan_kinds.specs.steps.MergeKinds.{distance_kind, stand_as, words_kind}
use Rattle.plan_kinds.specs.declared.joined.Joined.{Joined}
use Rattle.plan_kinds.proofs.JoinedLaw.{pair_count}
use Rattle.plan_kinds.specs.steps.RisingUnits.{started_rises}
use Rattle.plan_kinds.specs.declared.merge_kind.MergeKind.{MergeKind}
use Rattle.plan_kinds.specs.declared.merge_kind.MergeKind.TheVariants.{Close, InOrder, InSentence, InParagraph}

-- the number of a unit round a place that is counted from the first of a span, which is in its first unit
abbrev pub own_unit : List ℕ → ℕ → ℕ → ℕ
own_unit starts from place = own_number starts from (place + (from - 1))

-- ---- what they say of a span

own_same : (starts : List ℕ) (from p q : ℕ) → from ≤ p → from ≤ q
    → eqb (own_unit starts from (p - (from - 1))) (own_unit starts from (q - (from - 1))) ≡ eqb (started starts p) (started starts q)
own_same starts from p q a b =
    let p_is : (p - (from - 1)) + (from - 1) ≡ p = omega (arith, a) in
    let q_is : (q - (from - 1)) + (from - 1) ≡ q = omega (arith, b) in
    let p_later = started_rises starts from p a in
    let q_later = started_rises starts from q b in
    (λ i. eqb (own_number starts from (p_is i)) (own_number starts from (q_is i)))
    ∙ less_alike (started starts p) (started starts q) (started starts from) p_later q_later
  where
    less_alike : (m n k : ℕ) → k ≤ m → k ≤ n → eqb (m - (k - 1)) (n - (k - 1)) ≡ eqb m n
    less_alike m n k h j = grind (arith, nat_tests, h, j)

-- how words stand, by places that are counted from the first of a span
abbrev pub stand_in_span : Breaks → ℕ → MergeKind → List (List ℕ) → Bool
stand_in_span breaks from (Close size) places = some_choice (are_close size) places
stand_in_span breaks from InOrder places = some_choice are_in_order places
stand_in_span breaks from InSentence places = some_choice (are_in_one (own_unit breaks.sentences from)) places
stand_in_span breaks from InParagraph places = some_choice (are_in_one (own_unit breaks.paragraphs from)) places

all_less_after : (low high : ℕ) (lists : List (List ℕ)) → low ≤ high → list_all (list_all (nat_le high)) lists ≡ true → list_all (list_all (nat_le low)) lists ≡ true
all_less_after low high [] h all = refl
all_less_after low high (xs ∷ lists) h all =
    let parts = and_parts (list_all (nat_le high) xs) (list_all (list_all (nat_le high)) lists) all in
    and_from (list_all (nat_le low) xs) (list_all (list_all (nat_le low)) lists) (later_all low high xs h parts.0) (all_less_after low high lists h parts.1)

pub stand_counted : (breaks : Breaks) (from : ℕ) (kind : MergeKind) (lists : List (List ℕ)) → list_all (list_all (nat_le from)) lists ≡ true
    → stand_in_span breaks from kind (map (map (λ place. place - (from - 1))) lists) ≡ stand_as breaks kind lists
stand_counted breaks from (Close size) lists h = close_counted (from - 1) size lists (all_less_after (from - 1) from lists (omega arith) h)
stand_counted breaks from InOrder lists h = order_counted (from - 1) lists (all_less_after (from - 1) from lists (omega arith) h)
stand_counted breaks from InSentence lists h =
    counted_units (own_unit breaks.sentences from) (started breaks.sentences) (from - 1) from lists h (own_same breaks.sentences from)
stand_counted breaks from InParagraph lists h =
    counted_units (own_unit breaks.paragraphs from) (started breaks.paragraphs) (from - 1) from lists h (own_same breaks.paragraphs from)

pub stand_same : (breaks : Breaks) (kind : MergeKind) (lists others : List (List ℕ)) → length lists ≡ length others
    → ((number place : ℕ) → has (get_or lists number []) place ≡ has (get_or others number []) place) → stand_as breaks kind lists ≡ stand_as breaks kind others
stand_same breaks (Close size) lists others long same = same_places (are_close size) lists others long same
stand_same breaks InOrder lists others long same = same_places are_in_order lists others long same
stand_same breaks InSentence lists others long same = same_places (are_in_one (started breaks.sentences)) lists others long same
stand_same breaks InParagraph lists others long same = same_places (are_in_one (started breaks.paragraphs)) lists others long same

-- hits of words that are single, numbered one after the other, and told in the sentences and paragraphs of a span
pub record AreWords (breaks : Breaks) (from number : ℕ) (words : List (List Hit)) : Type 0 where
  pub single : are_single words ≡ true
  pub numbered : are_numbered number words ≡ true
  pub sentences : are_told Unit.Sentences (own_unit breaks.sentences from) words ≡ true
  pub paragraphs : are_told Unit.Paragraphs (own_unit breaks.paragraphs from) words ≡ true

-- a distance of two words
two_words : (size : ℕ) (item : Span) (hits : List Hit) (words : List (List Hit)) → length words ≡ 1 → are_single (hits ∷ words) ≡ true
    → satisfied (matches_of item (filtered_words (F.Distance (R.AtMost size) Unit.Words) (hits ∷ words))) ≡ some_choice (are_close (size + 2)) (first_words (hits ∷ words))
two_words size item hits [] two single = absurd (omega (arith, two))
two_words size item hits (others ∷ []) two single = distance_choices size item hits others single
two_words size item hits (others ∷ more ∷ rest) two single = absurd (omega (arith, two))

distance_law : (breaks : Breaks) (from : ℕ) (joined : Joined) (range : Range) (unit : TextUnit) (kind : MergeKind) → distance_kind range unit joined ≡ Some kind
    → (item : Span) (hits : List Hit) (words : List (List Hit)) → joined.last ≡ joined.first + length words → are_single (hits ∷ words) ≡ true
    → satisfied (matches_of item (filtered_words (F.Distance range unit) (hits ∷ words))) ≡ stand_in_span breaks from kind (first_words (hits ∷ words))
distance_law breaks from joined (R.Exactly size) unit kind h item hits words counted single = absurd (none-some kind h)
distance_law breaks from joined (R.AtLeast size) unit kind h item hits words counted single = absurd (none-some kind h)
distance_law breaks from joined (R.AtMost size) Unit.Words kind h item hits words counted single =
    let made = cond_some (are_two joined && nat_lt size 4294967294) (Close (size + 2)) kind h in
    let pair = and_parts (are_two joined) (nat_lt size 4294967294) made.0 in
    two_words size item hits words (pair_count joined (length words) counted pair.0) single ∙ ap (λ k. stand_in_span breaks from k (first_words (hits ∷ words))) made.1
distance_law breaks from joined (R.AtMost size) Unit.Sentences kind h item hits words counted single = absurd (none-some kind h)
distance_law breaks from joined (R.AtMost size) Unit.Paragraphs kind h item hits words counted single = absurd (none-some kind h)
distance_law breaks from joined (R.FromTo low high) unit kind h item hits words counted single = absurd (none-some kind h)

pub merge_law : (breaks : Breaks) (from : ℕ) (joined : Joined) (filter : Filter) (kind : MergeKind) → words_kind filter joined ≡ Some kind
    → (item : Span) (hits : List Hit) (words : List (List Hit)) → joined.last ≡ joined.first + length words
    → AreWords breaks from joined.first (hits ∷ words)
    → satisfied (matches_of item (filtered_words filter (hits ∷ words))) ≡ stand_in_span breaks from kind (first_words (hits ∷ words))
merge_law breaks from joined F.Ordered kind h item hits words counted are =
    ordered_choices joined.first item hits words are.numbered ∙ ap (λ k. stand_in_span breaks from k (first_words (hits ∷ words))) (same_Some InOrder kind h)
merge_law breaks from joined (F.Window size Unit.Words) kind h item hits words counted are =
    window_choices size item hits words are.single ∙ ap (λ k. stand_in_span breaks from k (first_words (hits ∷ words))) (same_Some (Close size) kind h)
merge_law breaks from joined (F.Window size Unit.Sentences) kind h item hits words counted are = absurd (none-some kind h)
merge_law breaks from joined (F.Window size Unit.Paragraphs) kind h item hits words counted are = absurd (none-some kind h)
merge_law breaks from joined (F.Distance range unit) kind h item hits words counted are = distance_law breaks from joined range unit kind h item hits words counted are.single
merge_law breaks from joined F.SameSentence kind h item hits words counted are =
    same_sentence (own_unit breaks.sentences from) item hits words are.sentences ∙ ap (λ k. stand_in_span breaks from k (first_words (hits ∷ words))) (same_Some InSentence kind h)
merge_law breaks from joined F.SameParagraph kind h item hits words counted are =
    same_paragraph (own_unit breaks.paragraphs from) item hits words are.paragraphs ∙ ap (λ k. stand_in_span breaks from k (first_words (hits ∷ words))) (same_Some InParagraph kind h)
merge_law breaks from joined F.DifferentSentence kind h item hits words counted are = absurd (none-some kind h)
merge_law breaks from joined F.DifferentParagraph kind h item hits words counted are = absurd (none-some kind h)
merge_law breaks from joined F.AtStart kind h item hits words counted are = absurd (none-some kind h)
merge_law breaks from joined F.AtEnd kind h item hits words counted are = absurd (none-some kind h)
merge_law breaks from joined F.EntireContent kind h item hits words counted are = absurd (none-some kind h)
