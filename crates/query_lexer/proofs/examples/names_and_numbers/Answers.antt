-- By computation.
use Rattle.std.proofs.Common.{refl}
use Rattle.std.specs.Str.{chars}
use Rattle.std.proofs.Math.Utf8.{encode}
use Rattle.ft_base.specs.Characters.{is_name_start, is_name_char}
use Rattle.query_lexer.specs.Symbols.{symbols_of, symbols_within, first_lexeme}
use Rattle.query_lexer.proofs.examples.names_and_numbers.Goals as goal

pub returns-clause-dash : goal.returns-clause-dash
unfolding symbols_of symbols_within first_lexeme is_name_start is_name_char chars encode
returns-clause-dash c = refl

pub returns-clause-period : goal.returns-clause-period
unfolding symbols_of symbols_within first_lexeme is_name_start is_name_char chars encode
returns-clause-period c = refl

pub returns-clause-period_first : goal.returns-clause-period_first
unfolding symbols_of symbols_within first_lexeme is_name_start is_name_char chars encode
returns-clause-period_first c = refl

pub returns-clause-zeros : goal.returns-clause-zeros
unfolding symbols_of symbols_within first_lexeme is_name_start is_name_char chars encode
returns-clause-zeros c = refl

pub returns-clause-past_a_million : goal.returns-clause-past_a_million
unfolding symbols_of symbols_within first_lexeme is_name_start is_name_char chars encode
returns-clause-past_a_million c = refl

pub returns-clause-a_name_after_a_number : goal.returns-clause-a_name_after_a_number
unfolding symbols_of symbols_within first_lexeme is_name_start is_name_char chars encode
returns-clause-a_name_after_a_number c = refl

pub returns-clause-a_period_after_a_number : goal.returns-clause-a_period_after_a_number
unfolding symbols_of symbols_within first_lexeme is_name_start is_name_char chars encode
returns-clause-a_period_after_a_number c = refl
