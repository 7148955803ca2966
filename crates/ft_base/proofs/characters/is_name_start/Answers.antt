-- The ranges, tested one after another, are those of the class; among the ASCII characters the first four are enough.
use Rattle.std.proofs.Common.{sym, ◌∙◌}
use Rattle.std.proofs.Common.{arith}
use Rattle.std.proofs.lemmas.Bool.Decides.{nat_tests}
use Rattle.std.proofs.Math.Bool.{or_assoc, or-false}
use Rattle.ft_base.specs.Characters as chars
use Rattle.ft_base.proofs.CharacterLemmas.{ascii_name_start}
use Rattle.ft_base.proofs.characters.is_name_start.Goals as goal

pub returns-then-is_ascii : goal.returns-then-is_ascii
returns-then-is_ascii c = c.is_ascii_name_start.ensures ∙ sym (ascii_name_start c.args.c (grind (arith, nat_tests)))

pub returns : goal.returns
unfolding chars.is_name_start
returns c = simp (c.is_ascii_name_start-2.ensures, c.is_within.ensures, c.is_within-2.ensures, c.is_within-3.ensures, c.is_within-4.ensures, c.is_within-5.ensures, c.is_within-6.ensures, c.is_within-7.ensures, c.is_within-8.ensures, c.is_within-9.ensures, c.is_within-10.ensures, c.is_within-11.ensures, c.is_within-12.ensures, or_assoc, or-false)
