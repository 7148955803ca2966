-- The ranges, tested one after another, are those of the class.
use Rattle.std.proofs.Math.Bool.{or_assoc, or-false}
use Rattle.ft_base.specs.Characters as chars
use Rattle.ft_base.proofs.characters.is_name_char.Goals as goal

pub returns : goal.returns
unfolding chars.is_name_char
returns c = simp (c.is_name_start.ensures, c.is_within.ensures, c.is_within-2.ensures, c.is_within-3.ensures, c.is_within-4.ensures, c.is_within-5.ensures, or_assoc, or-false)
