-- The law is the lemmas.
use Rattle.window_merges.proofs.ShiftLemmas.{close_counted, order_counted}
use Rattle.window_merges.proofs.laws.counted_places_law.Goals as goal

pub returns : goal.returns
returns c = record { close = close_counted; ordered = order_counted }
