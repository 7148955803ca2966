-- Hits told from another number on, as those of a part of a document are.
use Rattle.std.specs.Prelude.{◌≡◌, ℕ, ◌+◌, Bool, true, false, ◌&&◌, ◌==◌, List, [], ◌∷◌}
use Rattle.ft_base.specs.declared.hit.Hit.{Hit}
use Rattle.ft_base.specs.declared.unit.TextUnit.{TextUnit}
use Rattle.all_matches.specs.Positions.{start_in, end_in}
use Rattle.counted_shapes.specs.Shapes.{Counted}

-- whether the numbers of one hit are less by this than those of another
abbrev pub is_told_from : ℕ → TextUnit → Hit → Hit → Bool
is_told_from before kind told hit = (start_in kind told + before == start_in kind hit) && (end_in kind told + before == end_in kind hit)

-- whether those of each of some hits are than those of each of some others
abbrev pub are_told_from : ℕ → TextUnit → List Hit → List Hit → Bool
are_told_from before kind [] [] = true
are_told_from before kind [] (hit ∷ hits) = false
are_told_from before kind (one ∷ told) [] = false
are_told_from before kind (one ∷ told) (hit ∷ hits) = is_told_from before kind one hit && are_told_from before kind told hits

-- an item with its hits told so
pub record IsTold (before : ℕ) (kind : TextUnit) (told item : Counted) : Type 0 where
  pub hits : are_told_from before kind told.hits item.hits ≡ true
  pub least : told.least ≡ item.least
  pub most : told.most ≡ item.most
