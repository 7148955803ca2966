-- By computation.
use Rattle.std.proofs.Common.{refl}
use Rattle.std.specs.Str.{chars}
use Rattle.std.proofs.Math.Utf8.{encode}
use Rattle.ft_base.specs.Characters.{is_name_start, is_name_char}
use Rattle.query_lexer.specs.Symbols.{symbols_of, symbols_within, first_lexeme}
use Rattle.query_lexer.proofs.examples.strings.Goals as goal

pub returns-clause-doubled : goal.returns-clause-doubled
unfolding symbols_of symbols_within first_lexeme is_name_start is_name_char chars encode
returns-clause-doubled c = refl

pub returns-clause-other_quote : goal.returns-clause-other_quote
unfolding symbols_of symbols_within first_lexeme is_name_start is_name_char chars encode
returns-clause-other_quote c = refl

pub returns-clause-empty : goal.returns-clause-empty
unfolding symbols_of symbols_within first_lexeme is_name_start is_name_char chars encode
returns-clause-empty c = refl

pub returns-clause-side_by_side : goal.returns-clause-side_by_side
unfolding symbols_of symbols_within first_lexeme is_name_start is_name_char chars encode
returns-clause-side_by_side c = refl

pub returns-clause-open : goal.returns-clause-open
unfolding symbols_of symbols_within first_lexeme is_name_start is_name_char chars encode
returns-clause-open c = refl
