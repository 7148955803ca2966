-- By computation.
use Rattle.std.proofs.Common.{refl}
use Rattle.std.specs.Str.{chars}
use Rattle.std.proofs.Math.Utf8.{encode}
use Rattle.ft_base.specs.Characters.{is_name_start, is_name_char}
use Rattle.query_lexer.specs.Symbols.{symbols_of, symbols_within, first_lexeme}
use Rattle.query_lexer.proofs.examples.marks.Goals as goal

pub returns-clause-slashes : goal.returns-clause-slashes
unfolding symbols_of symbols_within first_lexeme is_name_start is_name_char chars encode
returns-clause-slashes c = refl

pub returns-clause-brackets : goal.returns-clause-brackets
unfolding symbols_of symbols_within first_lexeme is_name_start is_name_char chars encode
returns-clause-brackets c = refl

pub returns-clause-bars : goal.returns-clause-bars
unfolding symbols_of symbols_within first_lexeme is_name_start is_name_char chars encode
returns-clause-bars c = refl

pub returns-clause-no_symbol : goal.returns-clause-no_symbol
unfolding symbols_of symbols_within first_lexeme is_name_start is_name_char chars encode
returns-clause-no_symbol c = refl

pub returns-clause-blanks : goal.returns-clause-blanks
unfolding symbols_of symbols_within first_lexeme is_name_start is_name_char chars encode
returns-clause-blanks c = refl
