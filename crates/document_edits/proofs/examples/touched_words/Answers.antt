-- By computation, with the words of the texts.
use Rattle.std.proofs.Common.{refl}
use Rattle.ordered_tree.specs.Numbering.{numbered, children_numbered}
use Rattle.text_words.specs.Words.{is_letter_or_number, is_word}
use Rattle.ucd_category.proofs.Computing.{ucd_category}
use Rattle.unicode_segmentation.proofs.Computing.{unicode_segmentation}
use Rattle.document_edits.specs.Targets.{touched_by}
use Rattle.document_edits.proofs.examples.touched_words.Goals as goal

pub returns-clause-one_text : goal.returns-clause-one_text
unfolding touched_by numbered children_numbered is_word is_letter_or_number unicode_segmentation ucd_category
returns-clause-one_text c = refl

pub returns-clause-two_texts : goal.returns-clause-two_texts
unfolding touched_by numbered children_numbered is_word is_letter_or_number unicode_segmentation ucd_category
returns-clause-two_texts c = refl

pub returns-clause-joined : goal.returns-clause-joined
unfolding touched_by numbered children_numbered is_word is_letter_or_number unicode_segmentation ucd_category
returns-clause-joined c = refl

pub returns-clause-no_text : goal.returns-clause-no_text
unfolding touched_by numbered children_numbered
returns-clause-no_text c = refl

pub returns-clause-content : goal.returns-clause-content
unfolding touched_by numbered children_numbered is_word is_letter_or_number unicode_segmentation ucd_category
returns-clause-content c = refl

pub returns-clause-made_longer : goal.returns-clause-made_longer
unfolding touched_by numbered children_numbered is_word is_letter_or_number unicode_segmentation ucd_category
returns-clause-made_longer c = refl

pub returns-clause-replaced : goal.returns-clause-replaced
unfolding touched_by numbered children_numbered is_word is_letter_or_number unicode_segmentation ucd_category
returns-clause-replaced c = refl
