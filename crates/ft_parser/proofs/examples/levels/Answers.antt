-- By computation.
use Rattle.std.proofs.Common.{refl}
use Rattle.std.specs.Str.{chars}
use Rattle.std.proofs.Math.Utf8.{encode}
use Rattle.ft_base.specs.Characters.{is_name_start, is_name_char}
use Rattle.selection_grammar.specs.Form.{form_of}
use Rattle.selection_grammar.specs.steps.Machine.{next}
use Rattle.query_lexer.specs.Symbols.{symbols_of, symbols_within, first_lexeme}
use Rattle.ft_parser.proofs.examples.levels.Goals as goal

pub returns-clause-or_and : goal.returns-clause-or_and
unfolding symbols_of symbols_within first_lexeme is_name_start is_name_char chars encode next form_of
returns-clause-or_and c = refl

pub returns-clause-in_parentheses : goal.returns-clause-in_parentheses
unfolding symbols_of symbols_within first_lexeme is_name_start is_name_char chars encode next form_of
returns-clause-in_parentheses c = refl

pub returns-clause-to_the_left : goal.returns-clause-to_the_left
unfolding symbols_of symbols_within first_lexeme is_name_start is_name_char chars encode next form_of
returns-clause-to_the_left c = refl

pub returns-clause-not_whole : goal.returns-clause-not_whole
unfolding symbols_of symbols_within first_lexeme is_name_start is_name_char chars encode next form_of
returns-clause-not_whole c = refl
