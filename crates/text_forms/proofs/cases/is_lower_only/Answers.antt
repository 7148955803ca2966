-- All characters are looked at, and none of them may be an uppercase or titlecase letter.
use Rattle.std.proofs.Common.{not, rules, tests}
use Rattle.std.proofs.lemmas.Iterator.{YieldsList-from_chars}
use Rattle.std.proofs.lemmas.Iterator.Search.{all_from_yields_List}
use Rattle.ucd_category.specs.GeneralCategory.{general_category}
use Rattle.text_forms.specs.Cases.{is_upper_or_title, is_lower_text}
use Rattle.text_forms.proofs.cases.is_lower_only.Goals as goal

pub returns : goal.returns
unfolding is_lower_text
returns c =
    all_from_yields_List (λ x. not (is_upper_or_title (general_category x))) _ _ _ c.all.ensures.ran
    (YieldsList-from_chars _ c.utf8.text c.chars.ensures.rest) (λ x r q k. search (rules, tests))
