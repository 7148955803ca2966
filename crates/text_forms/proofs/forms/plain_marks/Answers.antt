-- ASCII text has no marks and stays as it is; another is decomposed, and its nonspacing marks are left out.
use Rattle.std.proofs.Common.{not, Ok, ◌∙◌, ap, encode_utf8_all, rules, tests}
use Rattle.std.specs.declared.alloc.AllocError.{AllocError}
use Rattle.std.proofs.lemmas.Iterator.{YieldsList-from_chars, text_from_collect}
use Rattle.std.proofs.lemmas.Iterator.Consumers.{YieldsList-from_filter, YieldsList-at}
use Rattle.text_forms.specs.Forms.{is_nonspacing_mark, without_marks, plain_marks_of}
use Rattle.text_forms.proofs.FormsLemmas.{plain_marks_of-ascii, chars-written}
use Rattle.text_forms.proofs.forms.plain_marks.Goals as goal

pub returns-then-is_ascii : goal.returns-then-is_ascii
returns-then-is_ascii c = rw (plain_marks_of-ascii c.args.text.now c.if-is_ascii.ensures.cases) c.read.ensures

pub returns : goal.returns
unfolding plain_marks_of
returns c =
    let read = chars-written _ c.as_str.result.now c.as_str.utf8 (c.as_str.ensures.value ∙ c.in_ok-decomposed.ensures) in
    c.from_string.ensures
    ∙ text_from_collect {E = AllocError} (Ok c.in_ok-bare.bare) c.in_ok-bare.ensures.ran
    (YieldsList-from_filter _ (λ x. not (is_nonspacing_mark x)) (YieldsList-at c.filter.ensures.source (YieldsList-from_chars _ c.as_str.utf8 c.chars.ensures.rest))
    c.filter.ensures.closure (λ x r q k. search (rules, tests)))
    ∙ ap (λ cs. encode_utf8_all (without_marks cs)) read
