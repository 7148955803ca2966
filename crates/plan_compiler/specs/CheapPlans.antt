-- Compiled selections that count words, and have single words stand in order or in a window of words, and do nothing else but count words
-- in windows, sentences or paragraphs where these are allowed as well.
use Rattle.std.specs.Prelude.{ℕ, ◌-◌, ◌==◌, Bool, true, false, not, ◌&&◌, cond, List, length, Option, Some, None, is_some}
use Rattle.std.specs.List.{list_all}
use Rattle.ft_base.specs.declared.filter.Filter.{Filter}
use Rattle.plan_compiler.specs.CheapSelections.{is_cheap_filter}
use Rattle.plan_compiler.specs.ItemTests.{asks_nothing}
use Rattle.plan_compiler.specs.declared.item_matching.ItemTest.{ItemTest}
use Rattle.plan_compiler.specs.declared.node.Node.{Node, fold-Node}
use Rattle.plan_compiler.specs.declared.node.Node.TheOpen.{Node-F}
use Rattle.plan_compiler.specs.declared.operator_plan.OperatorPlan.{OperatorPlan, Phrase, Choice', Both', MildNot', Negated', Filtered'}
use Rattle.plan_compiler.specs.declared.operator_plan.PhraseTests.{PhraseTests}

-- whether a variant is one word, and not any word
abbrev pub is_single : List ItemTest → Bool
is_single tests = (length tests == 1) && list_all (λ test. not (asks_nothing test)) tests

-- whether each variant of a phrase is
abbrev pub is_word : PhraseTests → Bool
is_word found = list_all is_single found.variants

-- the number of the single word that a plan is, if it is one
abbrev pub word_number : OperatorPlan → Option ℕ
word_number (Phrase found) = cond (is_word found) (Some found.number) None
word_number (Choice' p left right) = None
word_number (Both' p left right) = None
word_number (MildNot' p left right) = None
word_number (Negated' p operand) = None
word_number (Filtered' p operand kind) = None

-- the number of a further word, if it is the one after the last before it
abbrev pub number_after : Option ℕ → Option ℕ → Option ℕ
number_after None next = None
number_after (Some last) None = None
number_after (Some last) (Some next) = cond (next - last == 1) (Some next) None

-- the number of the last of the single words that a plan joins by `ftand`, if it is nothing else and they are numbered one after the other
unfoldable pub last_word : OperatorPlan → Option ℕ
last_word (Phrase found) = word_number (Phrase found)
last_word (Choice' p left right) = None
last_word (Both' p left right) = number_after (last_word left) (word_number right)
last_word (MildNot' p left right) = None
last_word (Negated' p operand) = None
last_word (Filtered' p operand kind) = None

-- whether a plan is single words that have to stand in order or in a window of words
abbrev pub is_cheap_operator : OperatorPlan → Bool
is_cheap_operator (Phrase found) = false
is_cheap_operator (Choice' p left right) = false
is_cheap_operator (Both' p left right) = false
is_cheap_operator (MildNot' p left right) = false
is_cheap_operator (Negated' p operand) = false
is_cheap_operator (Filtered' p operand kind) = is_cheap_filter kind && is_some (last_word operand)

-- one level, where it is known of each part, and whether words may be counted
abbrev pub layer : Bool → Node-F Bool → Bool
layer counts (Node-F.Words plan) = true
layer counts (Node-F.Or parts) = list_all (λ part. part) parts
layer counts (Node-F.And parts) = list_all (λ part. part) parts
layer counts (Node-F.Not part) = part.value
layer counts (Node-F.Ways plan) = is_cheap_operator plan.operator
layer counts (Node-F.Counted plan) = counts

unfoldable pub is_cheap_node : Bool → Node → Bool
is_cheap_node counts = fold-Node Bool (layer counts)
