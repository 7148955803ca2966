-- A first term, after no others.
use Rattle.std.proofs.Common.{◌≡◌, [], ◌+◌, true, cond, List, drop, Err, sym, ◌∙◌, ap, subst}
use Rattle.std.specs.Prelude.{codes, false}
use Rattle.ft_base.specs.declared.options.StopTerm.{StopTerm}
use Rattle.selection_grammar.specs.steps.Machine as m
use Rattle.selection_grammar.specs.steps.Machine.{State}
use Rattle.selection_grammar.specs.steps.Reading.{reading, first_is}
use Rattle.selection_grammar.specs.Shapes.{Shape}
use Rattle.ft_parser.specs.steps.State.{Answers, frames_of, left_of, primary_of, state_of}
use Rattle.ft_parser.proofs.option_turns.stop_words.Goals as goal

pub returns-then-is_word : goal.returns-then-is_word
returns-then-is_word c =
    let term : List StopTerm → Shape State = λ ts. m.term_next (frames_of c.args.context.outer.items) (left_of c.args.context.left) c.args.operand.negation (primary_of c.args.operand.primary) c.args.operand.options c.args.at ts false in
    let words : first_is (codes "words") (drop c.args.next c.args.reader.symbols.now) ≡ true = sym c.is_word.ensures.value ∙ c.if-is_word.true in
    subst (Answers state_of c.term.result)
    (ap (λ ts. reading (term ts) c.args.reader.symbols.now (c.args.next + 1)) c.new-terms.ensures ∙ sym (ap (λ b. cond b (reading (term []) c.args.reader.symbols.now (c.args.next + 1)) (Err c.args.next)) words))
    c.term.ensures
