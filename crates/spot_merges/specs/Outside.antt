-- How a phrase stands outside another one.
use Rattle.std.specs.Prelude.{Bool, List}
use Rattle.place_merges.specs.declared.spot.Spot.{Spot}
use Rattle.spot_merges.specs.Apart.{some_apart}
use Rattle.spot_merges.specs.Clear.{begins, some_clear}
use Rattle.spot_merges.specs.declared.outside.Outside.{Outside}
use Rattle.spot_merges.specs.declared.outside.Outside.TheVariants.{Cover, Window}

-- whether one of the spots on the left stands outside those on the right: within none of them, or in a window with none of them
abbrev pub stands_outside : Outside → List Spot → List Spot → Bool
stands_outside Cover left right = some_apart left right
stands_outside (Window size) left right = some_clear size (begins left) (begins right)
