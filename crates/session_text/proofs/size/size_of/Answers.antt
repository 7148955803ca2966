-- The number that was parsed is the one that the word is.
use Rattle.std.proofs.Common.{◌≡◌, ◌∙◌, sym, subst, true, false}
use Rattle.session_text.specs.SizedBlocks.{is_size}
use Rattle.session_text.proofs.SizeLemmas.{found, not_found, parsed, sized}
use Rattle.session_text.proofs.size.size_of.Goals as goal

pub returns-in-Ok-clause-size : goal.returns-in-Ok-clause-size
returns-in-Ok-clause-size c = found c.in-Ok.size c.args.word.now (sym c.is_size.ensures ∙ c.if-is_size.true)

pub returns-in-Ok-clause-within : goal.returns-in-Ok-clause-within
returns-in-Ok-clause-within c = (sized c.in-Ok.size c.args.word.now (sym c.is_size.ensures ∙ c.if-is_size.true)).0

pub returns-in_default-clause-size : goal.returns-in_default-clause-size
returns-in_default-clause-size c = not_found c.args.word.now (λ n is.
    let as_number = parsed n c.args.word.now c.parse.result c.parse.ensures.value.0 is in
    let result = c.in-Ok.is in
    let same : n ≡ c.in-Ok.size = cc in
    let holds : is_size c.in-Ok.size c.args.word.now ≡ true = subst (λ k. is_size k c.args.word.now ≡ true) same is in
    let fails : is_size c.in-Ok.size c.args.word.now ≡ false = sym c.is_size.ensures ∙ c.if-is_size.false in
    let no : ⊥ = cc in no)

pub returns-in_default-2-clause-size : goal.returns-in_default-2-clause-size
returns-in_default-2-clause-size c = not_found c.args.word.now (λ n is.
    let as_number = parsed n c.args.word.now c.parse.result c.parse.ensures.value.0 is in
    let result = c.in_default.is in
    let no : ⊥ = cc in no)
