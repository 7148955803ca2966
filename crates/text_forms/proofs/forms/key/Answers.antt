-- The key of ASCII text is the text in lowercase; of another it is the decomposition, with marks left out and case folded.
use Rattle.std.proofs.Common.{not, Ok, ◌∙◌, ap, encode_utf8_all, rules, tests}
use Rattle.std.specs.declared.alloc.AllocError.{AllocError}
use Rattle.std.proofs.lemmas.Iterator.{YieldsList-from_chars, text_from_collect}
use Rattle.std.proofs.lemmas.Iterator.Consumers.{YieldsList-from_filter, YieldsList-at}
use Rattle.unicode_normalization.proofs.IterLemmas.{Spells-from_YieldsList}
use Rattle.caseless.specs.Caseless.{default_case_fold}
use Rattle.caseless.specs.CaseFold.{CaseFoldSteps}
use Rattle.caseless.proofs.CaselessLemmas.{Spells-CaseFold}
use Rattle.text_forms.specs.Forms.{is_nonspacing_mark, without_marks, key_of}
use Rattle.text_forms.proofs.FormsLemmas.{key_of-ascii, chars-written}
use Rattle.text_forms.proofs.forms.key.Goals as goal

pub returns-then-is_ascii : goal.returns-then-is_ascii
returns-then-is_ascii c = rw (key_of-ascii c.args.text.now c.if-is_ascii.ensures.cases) c.ascii_lowercase.ensures

pub returns : goal.returns
unfolding key_of
returns c =
    let read = chars-written _ c.as_str.result.now c.as_str.utf8 (c.as_str.ensures.value ∙ c.in_ok-decomposed.ensures) in
    c.from_string.ensures
    ∙ text_from_collect {E = AllocError} {steps = CaseFoldSteps _} {s = c.default_case_fold.result} (Ok c.in_ok-folded.folded) c.in_ok-folded.ensures.ran (record {
      runs = Spells-CaseFold (c.default_case_fold.ensures.text _
          (Spells-from_YieldsList _ c.filter.result _ (YieldsList-from_filter _ (λ x. not (is_nonspacing_mark x))
          (YieldsList-at c.filter.ensures.source (YieldsList-from_chars _ c.as_str.utf8 c.chars.ensures.rest)) c.filter.ensures.closure (λ x r q k. search (rules, tests)))));
    })
    ∙ ap (λ cs. encode_utf8_all (default_case_fold (without_marks cs))) read
