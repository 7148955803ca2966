-- What a write took stands after what the writes before it took.
use Rattle.std.proofs.Common.{◌∙◌, sym, ap, take, drop, arith}
use Rattle.std.proofs.Math.Seq.{take-add}
use Rattle.std.proofs.lemmas.List.{take_rest, take-append-drop}
use Rattle.std.proofs.lemmas.Result.{err_from_is_err_and}
use Rattle.ft_session.specs.Run.{with_text}
use Rattle.ft_session.proofs.WrittenLemmas.{with_text_twice}
use Rattle.ft_session.proofs.writing.write_all.Goals as goal

pub loop-at-preserved : goal.loop-at-preserved
loop-at-preserved g c =
    let text = c.args.text.now in
    let at = c.loop-at.at in
    let count = c.in_ok-at.field-0 in
    record {
      within = omega (arith, c.in_ok-at.ensures.within);
      written = c.in_ok-at.ensures.written
          ∙ (ap (λ rest. with_text (g.K.Sink.written c.loop-at.sink) (take count rest)) (take_rest text at)
          ∙ (ap (λ held. with_text held (take count (drop at text))) c.loop-at.invariant.written
          ∙ (with_text_twice (g.K.Sink.written c.args.sink.now) (take at text) (take count (drop at text))
          ∙ ap (with_text (g.K.Sink.written c.args.sink.now)) (sym (take-add at count text)))));
      faults = c.in_ok-at.ensures.cause ∙ c.loop-at.invariant.faults;
    }

pub returns-in_err-at-clause-written : goal.returns-in_err-at-clause-written
returns-in_err-at-clause-written g c =
    let p = err_from_is_err_and c.from_residual.result c.from_residual.ensures.1 in
    rw p.1 (record {
      prefix = take c.loop-at.at c.args.text.now;
      rest = drop c.loop-at.at c.args.text.now;
      whole = take-append-drop c.loop-at.at c.args.text.now;
      took = c.in_err-at.ensures.written ∙ c.loop-at.invariant.written;
    })
