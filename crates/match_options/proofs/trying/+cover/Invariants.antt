-- No smaller number of characters serves, and the rest is what stands after so many.
use Rattle.std.proofs.Common.{◌≡◌, ◌∷◌, ◌≤◌, ◌-◌, ◌*◌, ◌+◌, length, drop, chars, IsUtf8}
use Rattle.std.specs.Str.Iter.{chars_rest}
use Rattle.match_options.specs.declared.atom.Atom.TheVariants.{Gap}
use Rattle.match_options.specs.Wildcards.{covers}
use Rattle.match_options.proofs.CoverLemmas.{from_count}
use Rattle.match_options.proofs.trying.+cover.Given as goal

abbrev pub decreases-covers_from : goal.decreases-covers_from
decreases-covers_from l = 3 * (length l.atoms.now - l.next)

abbrev pub decreases-letter_covers : goal.decreases-letter_covers
decreases-letter_covers l = 3 * (length l.atoms.now - l.next) + 1

abbrev pub decreases-gap_covers : goal.decreases-gap_covers
decreases-gap_covers l = 3 * (length l.atoms.now - l.next) + 2

abbrev pub decreases-so_many_covers : goal.decreases-so_many_covers
decreases-so_many_covers l = 3 * (length l.atoms.now - l.next) + 1

abbrev pub invariant-gap_covers-loop-count : goal.invariant-gap_covers-loop-count
invariant-gap_covers-loop-count l = record {
  text : IsUtf8 (chars_rest l.rest);
  here : chars (chars_rest l.rest) ≡ drop l.count (chars l.text);
  within : l.count ≤ length (chars l.text);
  known : from_count l.low l.high (drop l.next l.atoms) (chars l.text) l.count ≡ covers (Gap l.low l.high ∷ drop l.next l.atoms) (chars l.text);
}
