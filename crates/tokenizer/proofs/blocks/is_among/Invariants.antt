-- The name is among those from the next one on if it is among all, as none of the others was it.
use Rattle.std.proofs.Common.{◌≡◌, drop, bytes_eq}
use Rattle.std.specs.List.{list_any}
use Rattle.tokenizer.proofs.blocks.is_among.Given as goal

abbrev pub invariant-loop-known : goal.invariant-loop-known
invariant-loop-known l =
    list_any (λ known. bytes_eq known.now l.fn.name) (drop l.known-index l.names) ≡ list_any (λ known. bytes_eq known.now l.fn.name) l.names
