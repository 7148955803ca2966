-- Trees of runs that count words and merge single words, and do nothing else but count words in windows, sentences or paragraphs where these
-- are allowed as well: what their words cost bounds their moves.
use Rattle.std.specs.Prelude.{Bool, true, false, ◌&&◌}
use Rattle.plan_runs.specs.steps.RunShapes.{Shape, Shapes, words, any_of, all_of, not_of, by_ways, by_near, by_hits, by_merge, by_spots, by_counts, none, more}

unfoldable mutual
  pub is_cheap_shape : Bool → Shape → Bool
  is_cheap_shape counts (words run) = true
  is_cheap_shape counts (any_of parts) = are_cheap_shapes counts parts
  is_cheap_shape counts (all_of parts) = are_cheap_shapes counts parts
  is_cheap_shape counts (not_of part) = is_cheap_shape counts part
  is_cheap_shape counts (by_ways run) = false
  is_cheap_shape counts (by_near run) = false
  is_cheap_shape counts (by_hits run) = false
  is_cheap_shape counts (by_merge merge) = true
  is_cheap_shape counts (by_spots run) = false
  is_cheap_shape counts (by_counts run) = counts

  pub are_cheap_shapes : Bool → Shapes → Bool
  are_cheap_shapes counts none = true
  are_cheap_shapes counts (more part rest) = is_cheap_shape counts part && are_cheap_shapes counts rest
