-- What is looked at of the words of a text.
use Rattle.std.specs.Prelude.{ℕ, Bool, true, false, List, [], map}
use Rattle.ft_base.specs.declared.token.Token.{Token}
use Rattle.text_forms.specs.Forms.{key_of}
use Rattle.match_options.specs.WordTests.{forms_as}
use Rattle.word_lists.specs.Stems.{Stem, stem_in}
use Rattle.plan_compiler.specs.declared.looks.Looks.{Looks}
use Rattle.plan_compiler.specs.declared.text_word.TextWord.{TextWord}

-- the stem of a key, where stems are looked at
abbrev pub stem_as : Bool → List Stem → List ℕ → List ℕ
stem_as true stems key = stem_in stems key
stem_as false stems key = []

abbrev pub word_as : Looks → List Stem → List ℕ → TextWord
word_as looks stems w = record { forms = forms_as looks.all_forms w; stem = stem_as looks.stems stems (key_of w) }

abbrev pub words_of_tokens : Looks → List Stem → List Token → List TextWord
words_of_tokens looks stems tokens = map (λ token. word_as looks stems token.word) tokens
