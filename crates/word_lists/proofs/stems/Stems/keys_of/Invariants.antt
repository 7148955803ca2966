-- A key is found already, or is listed by a pair that is left, where one of all pairs lists it.
use Rattle.std.proofs.Common.{◌≡◌, ◌||◌, ℕ, List, map}
use Rattle.std.specs.List.{list_any}
use Rattle.word_lists.specs.Stems.{is_one_of}
use Rattle.word_lists.specs.View.{bytes_of_both}
use Rattle.word_lists.proofs.KeysOfStem.{lists_key}
use Rattle.word_lists.proofs.stems.Stems.keys_of.Given as goal

abbrev pub invariant-loop-word : goal.invariant-loop-word
invariant-loop-word l = (key : List ℕ) → (is_one_of l.keys key || list_any (lists_key l.self l.stem key) (map bytes_of_both l.word-iterator))
    ≡ list_any (lists_key l.self l.stem key) l.self
