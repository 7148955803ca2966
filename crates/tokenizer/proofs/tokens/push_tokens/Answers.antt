-- There are too many tokens where there is no room for a word.
use Rattle.std.proofs.Common.{◌≡◌, ◌∷◌, Err, sym, ap, ◌∙◌, if◌then◌else◌}
use Rattle.ft_base.specs.declared.limits.TheConstants.{MAX_TOKENS}
use Rattle.tokenizer.specs.Parts.{gap_characters, without_period, word}
use Rattle.tokenizer.specs.steps.Behind.{spares}
use Rattle.tokenizer.specs.steps.SegmentsLeft.{Steps, parts_left}
use Rattle.tokenizer.specs.declared.tokens.TokenFault.TheVariants as Fault
use Rattle.tokenizer.proofs.NumberingLemmas.{token_more}
use Rattle.tokenizer.proofs.SegmentsLemmas.{step-parts}
use Rattle.tokenizer.proofs.tokens.push_tokens.Goals as goal

pub returns-in_err-push_token-clause-full : goal.returns-in_err-push_token-clause-full
returns-in_err-push_token-clause-full c full rest =
    let abbreviations = c.args.abbreviations.now in
    let text = c.args.text.now in
    let old = c.loop-segment.segments in
    let segment = c.in-Some.segment in
    let new = c.next.new.self in
    let steps : Steps old segment new = c.in-Some.ensures in
    let same : Fault.Tokens ≡ c.in_err-push_token.field-0.0 = rw full at c.from_residual-in_err-push_token.ensures.1 in
    let next : parts_left abbreviations old ≡ word segment.text.now ∷ parts_left abbreviations new =
    step-parts old segment new steps text c.loop-segment.invariant.text abbreviations
    ∙ (λ i. (if c.if-segment.true i then word segment.text.now else gap_characters (without_period (spares abbreviations text segment.before) segment.text.now)) ∷ parts_left abbreviations new) in
    rw (c.loop-segment.invariant.left rest, next)
    (token_more c.loop-segment.out.items c.loop-segment.last segment.text.now _ MAX_TOKENS (c.in_err-push_token.ensures.full (ap Err (sym same))))
