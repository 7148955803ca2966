-- At first all tokens are left, and in the end none.
use Rattle.std.proofs.Common.{◌≡◌, ◌≤◌, ◌<◌, ◌∷◌, ◌++◌, [], Err, flat_map, length, sym, ap, ◌∙◌, append-nil, zero-le, subst}
use Rattle.ft_base.specs.declared.limits.TheConstants.{MAX_TOKENS}
use Rattle.plain_tree.specs.View.{node}
use Rattle.tokenizer.specs.steps.Numbering.{tokens_left}
use Rattle.tokenizer.specs.Parts.{characters, parts, parts_of_event}
use Rattle.tokenizer.specs.Tokens.{tokens}
use Rattle.tokenizer.specs.steps.Walks.{events_left}
use Rattle.tokenizer.specs.declared.tokens.TokenFault.TheVariants as Fault
use Rattle.tokenizer.proofs.NumberingLemmas.{tokens_left-nil}
use Rattle.tokenizer.proofs.PartsLemmas.{length-tokens}
use Rattle.tokenizer.proofs.tokens.tokens_of_tree.Goals as goal

pub loop-walk-init : goal.loop-walk-init
unfolding tokens
loop-walk-init c = record {
  left = rw (c.new-out.ensures.items, c.new-walk.ensures) (sym (c.new-last.ensures.tokens (parts c.args.abbreviations.now (node c.args.tree.now))));
  few = rw c.new-out.ensures.items zero-le;
  sentence = rw c.new-last.ensures.sentence zero-le;
  paragraph = rw c.new-last.ensures.paragraph zero-le;
}

pub returns-clause-tokens : goal.returns-clause-tokens
returns-clause-tokens c =
    let none : events_left c.loop-walk.walk ≡ [] = rw c.in_default.is at c.in_ok-event.ensures in
    sym (c.loop-walk.invariant.left ∙ ap (λ l. c.loop-walk.out.items ++ tokens_left c.loop-walk.last (flat_map (parts_of_event c.args.abbreviations.now) l)) none
    ∙ ap (λ l. c.loop-walk.out.items ++ l) (tokens_left-nil c.loop-walk.last) ∙ append-nil c.loop-walk.out.items)

pub returns-clause-few : goal.returns-clause-few
returns-clause-few c =
    subst (λ n. n ≤ MAX_TOKENS) (ap length (returns-clause-tokens c) ∙ length-tokens c.args.abbreviations.now (node c.args.tree.now)) c.loop-walk.invariant.few

pub returns-in_err-push_tokens-in-Text-clause-full : goal.returns-in_err-push_tokens-in-Text-clause-full
returns-in_err-push_tokens-in-Text-clause-full c full =
    let parts_of = parts_of_event c.args.abbreviations.now in
    let same : Fault.Tokens ≡ c.in_err-push_tokens-in-Text.field-0.0 = rw full at c.from_residual-in_err-push_tokens-in-Text.ensures.1 in
    let next : events_left c.loop-walk.walk ≡ characters c.in-Text.text.now ∷ events_left c.next.new.self = rw (c.in-Some.is, c.in-Text.is) at c.in_ok-event.ensures in
    let all = c.loop-walk.invariant.left ∙ ap (λ l. c.loop-walk.out.items ++ tokens_left c.loop-walk.last (flat_map parts_of l)) next in
    subst (λ n. MAX_TOKENS < n) (sym (ap length all) ∙ length-tokens c.args.abbreviations.now (node c.args.tree.now))
    (c.in_err-push_tokens-in-Text.ensures.full (ap Err (sym same)) (flat_map parts_of (events_left c.next.new.self)))
