-- The ranges, tested one after another, are those of the class.
use Rattle.std.proofs.Math.Bool.{or_assoc, or-false}
use Rattle.ft_base.specs.Characters as chars
use Rattle.ft_base.proofs.characters.is_space.Goals as goal

pub returns : goal.returns
unfolding chars.is_space
returns c = simp (c.is_within.ensures, c.is_within-2.ensures, c.is_within-3.ensures, or_assoc, or-false)
