-- The keys of ASCII words are those words in lower case.
use Rattle.tokenizer.proofs.ExampleLemmas.{capitals_are_listed, longer_is_not_listed, no_key_is_found, title_is_listed}
use Rattle.tokenizer.proofs.examples.abbreviations.Goals as goal

pub returns-clause-listed : goal.returns-clause-listed
returns-clause-listed c = capitals_are_listed

pub returns-clause-another_word : goal.returns-clause-another_word
returns-clause-another_word c = longer_is_not_listed

pub returns-clause-no_key : goal.returns-clause-no_key
returns-clause-no_key c = no_key_is_found

pub returns-clause-before : goal.returns-clause-before
returns-clause-before c = title_is_listed
