-- By computation.
use Rattle.std.proofs.Common.{refl}
use Rattle.std.specs.Str.{chars}
use Rattle.std.proofs.Math.Utf8.{encode}
use Rattle.ft_base.specs.Characters.{is_name_start, is_name_char}
use Rattle.selection_grammar.specs.Form.{form_of}
use Rattle.selection_grammar.specs.steps.Machine.{next}
use Rattle.query_lexer.specs.Symbols.{symbols_of, symbols_within, first_lexeme}
use Rattle.ft_parser.proofs.examples.words_and_filters.Goals as goal

pub returns-clause-all_words : goal.returns-clause-all_words
unfolding symbols_of symbols_within first_lexeme is_name_start is_name_char chars encode next form_of
returns-clause-all_words c = refl

pub returns-clause-any : goal.returns-clause-any
unfolding symbols_of symbols_within first_lexeme is_name_start is_name_char chars encode next form_of
returns-clause-any c = refl

pub returns-clause-in_turn : goal.returns-clause-in_turn
unfolding symbols_of symbols_within first_lexeme is_name_start is_name_char chars encode next form_of
returns-clause-in_turn c = refl

pub returns-clause-on_all : goal.returns-clause-on_all
unfolding symbols_of symbols_within first_lexeme is_name_start is_name_char chars encode next form_of
returns-clause-on_all c = refl

pub returns-clause-no_keyword_alone : goal.returns-clause-no_keyword_alone
unfolding symbols_of symbols_within first_lexeme is_name_start is_name_char chars encode next form_of
returns-clause-no_keyword_alone c = refl
