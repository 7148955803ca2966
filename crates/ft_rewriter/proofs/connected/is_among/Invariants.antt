-- What holds of the selections that are left holds of all.
use Rattle.std.proofs.Common.{◌≡◌, drop}
use Rattle.std.specs.Prelude.{bytes_eq}
use Rattle.std.specs.List.{list_any}
use Rattle.ft_rewriter.proofs.connected.is_among.Given as goal

abbrev pub invariant-loop-other : goal.invariant-loop-other
invariant-loop-other l = list_any (bytes_eq l.code) (drop l.other-index l.other-items) ≡ list_any (bytes_eq l.code) l.codes
