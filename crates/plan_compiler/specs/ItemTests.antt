-- What a test says of a word of a text, and whether it says it of each word.
use Rattle.std.specs.Prelude.{Bool, true, false, ◌&&◌, bytes_eq}
use Rattle.match_options.specs.TokenTest.{has_case}
use Rattle.match_options.specs.WordTests as forms
use Rattle.plan_compiler.specs.declared.item_matching.ItemTest.{ItemTest}
use Rattle.plan_compiler.specs.declared.item_matching.ItemTest.TheVariants.{Any, ByForms, ByStem}
use Rattle.plan_compiler.specs.declared.text_word.TextWord.{TextWord}

unfoldable pub passes : ItemTest → TextWord → Bool
passes Any w = true
passes (ByForms test) w = forms.passes test w.forms
passes (ByStem stem case) w = bytes_eq stem w.stem && has_case case w.forms

-- whether each word passes, whatever it is
abbrev pub asks_nothing : ItemTest → Bool
asks_nothing Any = true
asks_nothing (ByForms test) = false
asks_nothing (ByStem stem case) = false
