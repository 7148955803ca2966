-- ASCII text becomes lowercase; another is decomposed, folded, and decomposed again.
use Rattle.std.proofs.Common.{◌∙◌, ap, encode_utf8_all}
use Rattle.caseless.specs.Caseless.{default_case_fold}
use Rattle.unicode_normalization.specs.Forms.{nfd}
use Rattle.text_forms.specs.Forms.{plain_case_of}
use Rattle.text_forms.proofs.FormsLemmas.{plain_case_of-ascii, chars-written}
use Rattle.text_forms.proofs.forms.plain_case.Goals as goal

pub returns-then-is_ascii : goal.returns-then-is_ascii
returns-then-is_ascii c = rw (plain_case_of-ascii c.args.text.now c.if-is_ascii.ensures.cases) c.ascii_lowercase.ensures

pub returns : goal.returns
unfolding plain_case_of
returns c =
    let decomposed = chars-written _ c.as_str.result.now c.as_str.utf8 (c.as_str.ensures.value ∙ c.in_ok-decomposed.ensures) in
    let folded = chars-written _ c.as_str-2.result.now c.as_str-2.utf8 (c.as_str-2.ensures.value ∙ c.in_ok-folded.ensures) in
    c.from_string.ensures ∙ c.in_ok-folded-2.ensures
    ∙ ap (λ cs. encode_utf8_all (nfd cs)) (folded ∙ ap default_case_fold decomposed)
