-- What is known of the text stands for it.
use Rattle.std.proofs.Common.{arith, rules, subst, sym}
use Rattle.tokenizer.specs.Parts.{parts_of_text}
use Rattle.tokenizer.specs.steps.TextsKnown.{Tells}
use Rattle.ordered_tree.specs.steps.Passing.{Passes}
use Rattle.ordered_tree.proofs.PassingLemmas.{Passes-text}
use Rattle.ordered_tree.proofs.breaks.pass_text.Goals as goal

pub pass_known-requires-clause-tells : goal.pass_known-requires-clause-tells
pass_known-requires-clause-tells c = subst (Tells c.starts.result.now) (sym c.as_str.ensures) c.starts.ensures

pub unreachable-requires : goal.unreachable-requires
unreachable-requires c =
    let told = subst (Tells c.starts.result.now) (sym c.as_str.ensures) c.starts.ensures in
    omega (arith, c.requires, told.words, c.pass_known.ensures.full (search rules))

pub returns-in-Ok-clause-passed : goal.returns-in-Ok-clause-passed
returns-in-Ok-clause-passed c =
    let old = c.args.starts.now in
    let new = c.pass_known.new.self in
    let abbreviations = c.args.abbreviations.now in
    Passes-text abbreviations old new c.args.content.now
    (subst (λ bytes. Passes old (parts_of_text abbreviations bytes) new) c.as_str.ensures (record { sentences = c.in-Ok.ensures.sentences; paragraphs = c.in-Ok.ensures.paragraphs }))
