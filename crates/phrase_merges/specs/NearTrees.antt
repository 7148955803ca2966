-- A tree of lists of hits, and where a pass through the ends of its hits stands.
use Rattle.std.specs.Prelude.{List, ◌++◌, map, Option}
use Rattle.std.specs.List.{list_all}
use Rattle.ft_base.specs.declared.filter.Filter.{Filter}
use Rattle.ft_base.specs.declared.filter.Filter.TheVariants as F
use Rattle.all_matches.specs.Ways.{phrase, either, together, through_filter}
use Rattle.ft_operators.specs.Phrases.{PhraseAims, PhraseState}
use Rattle.ft_operators.specs.Standing.{Aims, one_aims, two_aims}
use Rattle.phrase_merges.specs.Rows.{hits_there}
use Rattle.phrase_merges.specs.declared.field.Field.{Field}
use Rattle.phrase_merges.specs.declared.field.Field.TheVariants.{Window, SameSentence, SameParagraph}
use Rattle.phrase_merges.specs.declared.position.Position.{Position}
use Rattle.phrase_merges.specs.declared.near_tree.NearTree.{NearTree, Phrase, Either', Both', Within'}

-- the filter that a window or scope is
abbrev pub filter_of : Field → Filter
filter_of (Window size unit) = F.Window size unit
filter_of SameSentence = F.SameSentence
filter_of SameParagraph = F.SameParagraph

-- the lists of each phrase, and the starts that phrases, windows and scopes keep
pub data Passage : Type 0 where
  lists_at : List PhraseState → Option Position → Passage
  either_at : Passage → Passage → Passage
  both_at : Passage → Passage → Passage
  within_at : Passage → Field → Option Position → Passage

unfoldable pub passage_of : {P : Type 0} → (P → PhraseState) → NearTree P → Passage
passage_of state (Phrase found) = lists_at (map state found.lists.items) found.start
passage_of state (Either' p left right) = either_at (passage_of state left) (passage_of state right)
passage_of state (Both' p left right) = both_at (passage_of state left) (passage_of state right)
passage_of state (Within' p operand field start) = within_at (passage_of state operand) field start

-- where the lists of a phrase may be aimed, and the phrase of the hits that all of them have there
abbrev pub lists_aims : List PhraseAims → Aims
lists_aims lists = record { may = λ doc span. list_all (λ aims. aims.may doc span) lists; operators = λ doc span. phrase (hits_there doc span lists) }

unfoldable pub aims_at : Passage → Aims
aims_at (lists_at states start) = lists_aims (map (λ s. s.aims) states)
aims_at (either_at left right) = two_aims either (aims_at left) (aims_at right)
aims_at (both_at left right) = two_aims together (aims_at left) (aims_at right)
aims_at (within_at operand field start) = one_aims (λ operator. through_filter operator (filter_of field)) (aims_at operand)

unfoldable pub all_lists : Passage → List PhraseAims
all_lists (lists_at states start) = map (λ s. s.aims) states
all_lists (either_at left right) = all_lists left ++ all_lists right
all_lists (both_at left right) = all_lists left ++ all_lists right
all_lists (within_at operand field start) = all_lists operand

-- where a tree may be aimed and the operator that it is there, which passes never change
abbrev pub near_aims : {P : Type 0} → (P → PhraseState) → NearTree P → Aims
near_aims state tree = aims_at (passage_of state tree)

-- all its lists, by where they may be aimed and the hits that they have there
abbrev pub near_lists : {P : Type 0} → (P → PhraseState) → NearTree P → List PhraseAims
near_lists state tree = all_lists (passage_of state tree)
