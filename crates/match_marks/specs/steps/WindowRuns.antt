-- Windows in words round phrases: the hits that phrases have left, and the least joined hit of one of each.
use Rattle.std.specs.Prelude.{◌≡◌, ℕ, suc, Bool, true, false, ◌&&◌, ◌==◌, nat_lt, min, max, if◌then◌else◌, List, [], ◌∷◌, ◌++◌, map, filter, flat_map, fold, length, Option, Some, None, option_map, option_to_list}
use Rattle.std.specs.List.{list_all}
use Rattle.ft_base.specs.Hits.{every_two}
use Rattle.ft_base.specs.declared.filter.Filter.{Filter}
use Rattle.ft_base.specs.declared.filter.Filter.TheVariants as F
use Rattle.ft_base.specs.declared.hit.Hit.{Hit}
use Rattle.ft_base.specs.declared.span.Span.{Span}
use Rattle.ft_base.specs.declared.unit.TextUnit.{TextUnit}
use Rattle.ft_base.specs.declared.unit.TextUnit.TheVariants.{Words, Sentences, Paragraphs}
use Rattle.all_matches.specs.Join.{join}
use Rattle.all_matches.specs.Ways.{Operator, phrase, either, together, apart, negated, through_filter, one_hit, way_includes}
use Rattle.all_matches.specs.Window.{fits_window}
use Rattle.best_hits.specs.Least.{least}
use Rattle.ft_operators.specs.Phrases.{first_hit}
use Rattle.ft_operators.specs.Standing.{Aims}
use Rattle.ft_operators.specs.Starts.{hits_of}
use Rattle.ft_operators.specs.Tuples.{walk_of}
use Rattle.ft_operators.specs.Walk.{Walk, aimed_walk, at_first_way, walk_at}
use Rattle.ft_operators.specs.declared.tuples.Tuples.{Tuples}
use Rattle.index_phrases.specs.Cursors.{state_of}
use Rattle.index_phrases.specs.declared.phrase_cursor.PhraseCursor.{PhraseCursor}
use Rattle.phrase_merges.specs.Rows.{goes_on_in}
use Rattle.plan_compiler.specs.declared.item_matching.ItemTest.{ItemTest}
use Rattle.plan_compiler.specs.declared.operator_plan.FilteredPlan.{FilteredPlan}
use Rattle.plan_compiler.specs.declared.operator_plan.OperatorPlan.{OperatorPlan, Phrase, Choice', Both', MildNot', Negated', Filtered'}
use Rattle.plan_runs.specs.steps.OpenedOperators.{aims_of}
use Rattle.match_marks.specs.declared.window.FirstHits.{FirstHits}
use Rattle.match_marks.specs.declared.window.Joined.{Joined}

-- ---- which plans

-- whether the variants have as many words as the first one
abbrev pub have_one_length : List (List ItemTest) → Bool
have_one_length [] = true
have_one_length (first ∷ rest) = list_all (λ tests. length tests == length first) (first ∷ rest)

-- whether there is nothing but phrases that are joined by `ftand`, all variants of each of which have as many words
unfoldable pub joins_phrases : OperatorPlan → Bool
joins_phrases (Phrase found) = have_one_length found.variants
joins_phrases (Choice' p left right) = false
joins_phrases (Both' p left right) = joins_phrases left && joins_phrases right
joins_phrases (MildNot' p left right) = false
joins_phrases (Negated' p operand) = false
joins_phrases (Filtered' p operand kind) = false

-- how many words a window has, and 0 for what isn't a window in words
abbrev pub words_of_window : Filter → ℕ
words_of_window F.Ordered = 0
words_of_window (F.Window size Words) = size
words_of_window (F.Window size Sentences) = 0
words_of_window (F.Window size Paragraphs) = 0
words_of_window (F.Distance range kind) = 0
words_of_window F.SameSentence = 0
words_of_window F.SameParagraph = 0
words_of_window F.DifferentSentence = 0
words_of_window F.DifferentParagraph = 0
words_of_window F.AtStart = 0
words_of_window F.AtEnd = 0
words_of_window F.EntireContent = 0

abbrev pub window_over : FilteredPlan → Option (ℕ × OperatorPlan)
window_over plan =
    if nat_lt 0 (words_of_window plan.kind) && joins_phrases plan.operand then Some (words_of_window plan.kind, plan.operand) else None

-- how many words the window has, one at least, and the operand that joins the phrases
abbrev pub window_of : OperatorPlan → Option (ℕ × OperatorPlan)
window_of (Phrase found) = None
window_of (Choice' p left right) = None
window_of (Both' p left right) = None
window_of (MildNot' p left right) = None
window_of (Negated' p operand) = None
window_of (Filtered' p operand kind) = window_over (record { operand = operand; kind = kind })

-- ---- hits

-- whether no hit begins or ends before an earlier one
abbrev pub is_rising : List Hit → Bool
is_rising hits = every_two (goes_on_in Words) hits

-- one hit of each list
abbrev pub choices_of : List (List Hit) → List (List Hit)
choices_of [] = [] ∷ []
choices_of (hits ∷ lists) = flat_map (λ hit. map (λ chosen. hit ∷ chosen) (choices_of lists)) hits

-- whether a window of so many words holds hits
abbrev pub is_held : ℕ → List Hit → Bool
is_held size chosen = fits_window size Words (join chosen)

abbrev pub held_choices : ℕ → List (List Hit) → List (List Hit)
held_choices size lists = filter (is_held size) (choices_of lists)

abbrev pub joined_alone : List Hit → List Hit
joined_alone chosen = option_to_list (join chosen)

-- the least joined hit of those that it holds, alone
abbrev pub least_held : ℕ → List (List Hit) → List Hit
least_held size lists = least (map joined_alone (held_choices size lists))

-- the hits from the first one on that begins at a word or after it
abbrev pub hits_from : ℕ → List Hit → List Hit
hits_from from [] = []
hits_from from (hit ∷ rest) = if nat_lt hit.from from then hits_from from rest else hit ∷ rest

-- whether the first one begins before the word
abbrev pub begins_before : ℕ → List Hit → Bool
begins_before from [] = false
begins_before from (hit ∷ rest) = nat_lt hit.from from

-- ---- the first hits of some lists, joined

abbrev pub wider : Option Joined → Hit → Joined
wider None hit = record { from = hit.from; to = hit.to }
wider (Some joined) hit = record { from = min joined.from hit.from; to = max joined.to hit.to }

abbrev pub with_hit : FirstHits → Option Hit → FirstHits
with_hit firsts None = record { each = false; joined = firsts.joined }
with_hit firsts (Some hit) = record { each = firsts.each; joined = Some (wider firsts.joined hit) }

abbrev pub with_first : FirstHits → List Hit → FirstHits
with_first firsts hits = with_hit firsts (first_hit hits)

abbrev pub none_yet : FirstHits
none_yet = record { each = true; joined = None }

abbrev pub where_each : FirstHits → Option Joined
where_each firsts = if firsts.each then firsts.joined else None

-- where each list has one
abbrev pub joined_firsts : List (List Hit) → Option Joined
joined_firsts lists = where_each (fold with_first none_yet lists)

-- the places that it covers
abbrev pub places_of : Option Joined → List Span
places_of joined = option_to_list (option_map (λ (own : Joined). record { from = own.from; to = suc own.to }) joined)

-- ---- walks

-- the hits that a walk through those of a phrase has left
abbrev pub hits_left : Walk → List Hit
hits_left walk = flat_map way_includes walk.rest

-- at the first of these hits
abbrev pub at_hits : List Hit → Walk → Walk
at_hits hits walk = walk_at (map one_hit hits) walk

-- as it is where each way that it has left is a hit, and it is at the first one
abbrev pub at_own_hits : Walk → Walk
at_own_hits walk = at_hits (hits_left walk) walk

-- gone on to the first hit that begins at a word or after it
abbrev pub sought : ℕ → Walk → Walk
sought from walk = at_hits (hits_from from (hits_left walk)) walk

-- aimed at a span of a document, at the first way there
abbrev pub started : ℕ → Span → Walk → Walk
started doc span walk = at_first_way (aimed_walk doc span walk)

abbrev pub walks_of : List (Tuples PhraseCursor) → List Walk
walks_of phrases = map (walk_of state_of) phrases

abbrev pub lists_left : List (Tuples PhraseCursor) → List (List Hit)
lists_left phrases = map hits_left (walks_of phrases)

abbrev pub all_aims : List (Tuples PhraseCursor) → List Aims
all_aims phrases = map aims_of phrases

-- each is at a hit or at the end, and no hit that it has left begins or ends before an earlier one
pub record AreAtHits (phrases : List (Tuples PhraseCursor)) : Type 0 where
  pub hits : map at_own_hits (walks_of phrases) ≡ walks_of phrases
  pub rising : list_all is_rising (lists_left phrases) ≡ true

-- ---- where they are aimed

abbrev pub is_phrase : Operator → Bool
is_phrase (phrase found) = true
is_phrase (either left right) = false
is_phrase (together left right) = false
is_phrase (apart left right) = false
is_phrase (negated operand) = false
is_phrase (through_filter operand kind) = false

-- it may be aimed there, and is a phrase of which no hit begins or ends before an earlier one
abbrev pub phrase_may : ℕ → Span → Aims → Bool
phrase_may doc span aims = aims.may doc span && (is_phrase (aims.operators doc span) && is_rising (hits_of (aims.operators doc span)))

abbrev pub hits_there : ℕ → Span → Aims → List Hit
hits_there doc span aims = hits_of (aims.operators doc span)
