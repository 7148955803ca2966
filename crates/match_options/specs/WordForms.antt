-- The forms of a word under which it is compared.
use Rattle.std.specs.Prelude.{ℕ, List}
use Rattle.text_forms.specs.Forms.{key_of, plain_case_of, plain_marks_of, exact_of}
use Rattle.text_forms.specs.Cases.{is_lower_text, is_upper_text}
use Rattle.match_options.specs.declared.word_forms.Forms.{Forms}

abbrev pub forms_of : List ℕ → Forms
forms_of word = record {
  key = key_of word;
  plain_case = plain_case_of word;
  plain_marks = plain_marks_of word;
  exact = exact_of word;
  lower = is_lower_text word;
  upper = is_upper_text word;
}
