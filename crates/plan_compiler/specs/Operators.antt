-- What a compiled selection with filters or `not in` is over a text, by what is looked at of the text's words.
use Rattle.std.specs.Prelude.{ℕ, ◌==◌, Bool, ◌&&◌, List, map, filter, length}
use Rattle.std.specs.List.{list_any}
use Rattle.ft_base.specs.declared.hit.Hit.{Hit}
use Rattle.ft_base.specs.declared.token.Token.{Token}
use Rattle.all_matches.specs.Boolean.{satisfied}
use Rattle.all_matches.specs.Counting.{begins_as}
use Rattle.all_matches.specs.Hits.{Interval, hit_on, intervals, tokens_in}
use Rattle.all_matches.specs.Operators.{either_of, together_of}
use Rattle.all_matches.specs.Spans.{whole_text}
use Rattle.all_matches.specs.Ways.{Operator, phrase, either, together, apart, negated, through_filter, matches_of}
use Rattle.word_lists.specs.Stems.{Stem}
use Rattle.plan_compiler.specs.ItemTests.{passes}
use Rattle.plan_compiler.specs.TextWords.{words_of_tokens}
use Rattle.plan_compiler.specs.declared.item_matching.ItemTest.{ItemTest}
use Rattle.plan_compiler.specs.declared.joining.Join.{Join}
use Rattle.plan_compiler.specs.declared.joining.Join.TheVariants.{Choice, Both}
use Rattle.plan_compiler.specs.declared.looks.Looks.{Looks}
use Rattle.plan_compiler.specs.declared.operator_plan.OperatorPlan.{OperatorPlan, Phrase, Choice', Both', MildNot', Negated', Filtered'}
use Rattle.plan_compiler.specs.declared.text_word.TextWord.{TextWord}

-- a text, and what is looked at of its words
pub record LookedText : Type 0 where
  pub looks : Looks
  pub stems : List Stem
  pub tokens : List Token

abbrev pub looked_text : Looks → List Stem → List Token → LookedText
looked_text looks stems tokens = record { looks = looks; stems = stems; tokens = tokens }

-- the words of a part of a text, as they are looked at
abbrev pub words_on : LookedText → Interval → List TextWord
words_on text interval = words_of_tokens text.looks text.stems (tokens_in text.tokens interval)

-- whether the words are as many as the tests, and each passes its own
abbrev pub stand_on : List ItemTest → List TextWord → Bool
stand_on tests words = (length tests == length words) && begins_as passes tests words

-- the hits of the phrase of that number: one on each interval on which some variant of it stands
abbrev pub hits_by_tests : LookedText → ℕ → List (List ItemTest) → List Hit
hits_by_tests text number variants =
    map (hit_on text.tokens number)
    (filter (λ interval. list_any (λ tests. stand_on tests (words_on text interval)) variants) (intervals (length text.tokens)))

unfoldable pub operator_at : LookedText → OperatorPlan → Operator
operator_at text (Phrase found) = phrase (hits_by_tests text found.number found.variants)
operator_at text (Choice' p left right) = either (operator_at text left) (operator_at text right)
operator_at text (Both' p left right) = together (operator_at text left) (operator_at text right)
operator_at text (MildNot' p left right) = apart (operator_at text left) (operator_at text right)
operator_at text (Negated' p operand) = negated (operator_at text operand)
operator_at text (Filtered' p operand kind) = through_filter (operator_at text operand) kind

-- some operands, joined
abbrev pub joined_of : Join → List Operator → Operator
joined_of Choice operands = either_of operands
joined_of Both operands = together_of operands

-- whether a text satisfies what an operator is over it
abbrev pub satisfied_over : List Token → Operator → Bool
satisfied_over tokens operator = satisfied (matches_of (whole_text tokens) operator)
