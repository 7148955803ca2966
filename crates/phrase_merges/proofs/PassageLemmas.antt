-- A tree of lists as the passage that it is, kind by kind.
use Rattle.std.proofs.Common.{◌≡◌, refl, ap, sym, ◌∙◌, Box, Global, List, [], ◌∷◌, map}
use Rattle.ft_operators.specs.Phrases.{PhraseState}
use Rattle.phrase_merges.specs.NearTrees.{Passage, lists_at, either_at, both_at, within_at, passage_of}
use Rattle.phrase_merges.specs.declared.near_tree.NearPair.{NearPair}
use Rattle.phrase_merges.specs.declared.near_tree.NearPhrase.{NearPhrase}
use Rattle.phrase_merges.specs.declared.near_tree.NearTree.{NearTree}
use Rattle.phrase_merges.specs.declared.near_tree.NearTree as N
use Rattle.phrase_merges.specs.declared.near_tree.NearWindow.{NearWindow}

pub map_map : {X Y Z : Type 0} (g : Y → Z) (f : X → Y) (xs : List X) → map g (map f xs) ≡ map (λ x. g (f x)) xs
map_map g f [] = refl
map_map g f (x ∷ xs) = ap (λ rest. g (f x) ∷ rest) (map_map g f xs)

module _ {P : Type 0} (state : P → PhraseState) where
  abbrev pub phrase_passage : NearPhrase P → Passage
  phrase_passage found = lists_at (map state found.lists.items) found.start

  abbrev pub either_passage : NearPair P → Passage
  either_passage pair = either_at (passage_of state pair.left) (passage_of state pair.right)

  abbrev pub both_passage : NearPair P → Passage
  both_passage pair = both_at (passage_of state pair.left) (passage_of state pair.right)

  abbrev pub window_passage : NearWindow P → Passage
  window_passage window = within_at (passage_of state window.operand) window.field window.start

  pub view_Phrase : (found : NearPhrase P) → passage_of state (N.Phrase found) ≡ phrase_passage found
  unfolding passage_of
  view_Phrase found = refl

  pub view_Either : (pair : Box (NearPair P) Global) → passage_of state (N.Either pair) ≡ either_passage pair.value
  unfolding passage_of
  view_Either pair = refl

  pub view_Both : (pair : Box (NearPair P) Global) → passage_of state (N.Both pair) ≡ both_passage pair.value
  unfolding passage_of
  view_Both pair = refl

  pub view_Within : (window : Box (NearWindow P) Global) → passage_of state (N.Within window) ≡ window_passage window.value
  unfolding passage_of
  view_Within window = refl

  -- told of what a tree lends of its inside
  pub seen_Phrase : (tree : NearTree P) (found : NearPhrase P) → tree ≡ N.Phrase found → passage_of state tree ≡ phrase_passage found
  seen_Phrase tree found is = ap (passage_of state) is ∙ view_Phrase found

  pub seen_Either : (tree : NearTree P) (pair : Box (NearPair P) Global) (lent : NearPair P) → tree ≡ N.Either pair → lent ≡ pair.value → passage_of state tree ≡ either_passage lent
  seen_Either tree pair lent is same = ap (passage_of state) is ∙ view_Either pair ∙ ap either_passage (sym same)

  pub seen_Both : (tree : NearTree P) (pair : Box (NearPair P) Global) (lent : NearPair P) → tree ≡ N.Both pair → lent ≡ pair.value → passage_of state tree ≡ both_passage lent
  seen_Both tree pair lent is same = ap (passage_of state) is ∙ view_Both pair ∙ ap both_passage (sym same)

  pub seen_Within : (tree : NearTree P) (window : Box (NearWindow P) Global) (lent : NearWindow P) → tree ≡ N.Within window → lent ≡ window.value → passage_of state tree ≡ window_passage lent
  seen_Within tree window lent is same = ap (passage_of state) is ∙ view_Within window ∙ ap window_passage (sym same)
