-- Which selections what is looked at of each word of a text serves.
use Rattle.std.specs.Prelude.{Bool, true, not, ◌&&◌, ◌||◌}
use Rattle.ft_base.specs.declared.options.Options.{Options}
use Rattle.ft_base.specs.Selection.{Form, Forms, words, or_of, and_of, mild_not, not_of, filtered, with_options, none, more}
use Rattle.match_options.specs.TokenTest.{is_on}
use Rattle.match_options.specs.WordTests.{choice_of, is_by_key}
use Rattle.plan_compiler.specs.declared.looks.Looks.{Looks}

abbrev pub everything : Looks
everything = record { all_forms = true; stems = true }

-- options whose words ask for no more
abbrev pub are_served : Looks → Options → Bool
are_served looks options = (looks.all_forms || is_by_key (choice_of options)) && (looks.stems || not (is_on options.stemming))

unfoldable mutual
  pub is_served : Looks → Form → Bool
  is_served looks (words value) = are_served looks value.options
  is_served looks (or_of forms) = all_served looks forms
  is_served looks (and_of forms) = all_served looks forms
  is_served looks (mild_not left right) = is_served looks left && is_served looks right
  is_served looks (not_of form) = is_served looks form
  is_served looks (filtered form kind) = is_served looks form
  is_served looks (with_options form options) = are_served looks options && is_served looks form

  pub all_served : Looks → Forms → Bool
  all_served looks none = true
  all_served looks (more form rest) = is_served looks form && all_served looks rest
