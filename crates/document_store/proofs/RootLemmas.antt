-- The root stands first of all nodes.
use Rattle.std.proofs.Common.{List, [], ◌∷◌, Contains, arith}
use Rattle.std.proofs.lemmas.List.Elements.{Contains-get_or}
use Rattle.ordered_tree.specs.Numbered.{Numbered, element_at, text_at}
use Rattle.ordered_tree.specs.Stands.{Stand, child_stands, round_first, round_root, stands, stands_in}

abbrev pub root-stand : Numbered → Stand
root-stand root = record { node = root; around = round_root }

first : (s : Stand) (rest : List Stand) → Contains (s ∷ rest) s
first s rest = Contains-get_or (s ∷ rest) 0 s (omega arith)

pub root-stands : (root : Numbered) → Contains (stands_in root) (root-stand root)
unfolding stands child_stands
root-stands (element_at r name attrs kids) = first (root-stand (element_at r name attrs kids)) (child_stands (round_first 0 r) kids)
root-stands (text_at r bytes) = first (root-stand (text_at r bytes)) []
