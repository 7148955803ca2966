-- What is known of elements from those that were named so far.
use Rattle.std.specs.Prelude.{ℕ, List}
use Rattle.ordered_tree.specs.Numbered.{Numbered}
use Rattle.element_lines.specs.declared.names.Known.{Known}
use Rattle.element_lines.specs.steps.Children.{IsCountingOrNone}
use Rattle.element_lines.specs.steps.Leading.{AreLeading}
use Rattle.element_lines.specs.steps.Numbers.{AreNumbers}

pub record IsKnown (document : List ℕ) (root : Numbered) (known : Known) : Type 0 where
  pub leading : AreLeading document root known.leads
  pub numbers : AreNumbers root known.numbers.items
  pub counting : IsCountingOrNone root known.counting
