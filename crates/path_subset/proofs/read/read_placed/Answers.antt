-- From where the reader stands, one symbol leads on, or reading ends.
use Rattle.std.proofs.Common.{◌+◌, [], length, drop, map, Err, sym, ◌∙◌, ap, subst, arith}
use Rattle.std.proofs.lemmas.List.{drop_all, length-drop, take_rest}
use Rattle.ft_parser.specs.Answer.{Answered}
use Rattle.path_grammar.specs.steps.Machine as m
use Rattle.path_subset.specs.Answer.{turned, read_from}
use Rattle.path_subset.specs.Paths.{found_form, read_form}
use Rattle.path_subset.specs.steps.Reading.{led_of}
use Rattle.path_subset.specs.steps.State.{state_of}
use Rattle.path_subset.proofs.Skipped.{leads, halts, stops, at_end}
use Rattle.path_subset.proofs.read.read_placed.Goals as goal

pub loop-next-preserved : goal.loop-next-preserved
loop-next-preserved c =
    let rest = take_rest c.args.placed.now (c.loop-next.next + 1) in
    record {
      reads = leads (state_of c.loop-next.reading.state) (map found_form c.loop-next.reading.found) c.args.placed.now c.loop-next.next c.index-placed-next.result c.args.bad c.args.size (omega arith) c.index-placed-next.is (led_of (c.in-Ok.there, c.in-Ok.count))
          (c.in-Ok.ensures.value ∙ ap (λ u. turned (state_of c.loop-next.reading.state) (map found_form c.loop-next.reading.found) c.index-placed-next.result u c.args.bad c.args.size) rest)
          ∙ c.loop-next.invariant.reads;
      within = omega (arith, c.in-Ok.ensures.within, c.loop-next-test.true, ap length rest, length-drop (c.loop-next.next + 1) c.args.placed.now);
    }

pub returns-in-Err : goal.returns-in-Err
returns-in-Err c =
    stops led_of read_form (turned (state_of c.loop-next.reading.state) (map found_form c.loop-next.reading.found) c.index-placed-next.result (drop (c.loop-next.next + 1) c.args.placed.now) c.args.bad c.args.size) (read_from (m.at_root m.nothing) [] 0 c.args.placed.now c.args.bad c.args.size) c.in-Err.fault
    (λ f e. halts (state_of c.loop-next.reading.state) (map found_form c.loop-next.reading.found) c.args.placed.now c.loop-next.next c.index-placed-next.result c.args.bad c.args.size (omega arith) c.index-placed-next.is f e ∙ c.loop-next.invariant.reads)
    (subst (λ u. Answered led_of (turned (state_of c.loop-next.reading.state) (map found_form c.loop-next.reading.found) c.index-placed-next.result u c.args.bad c.args.size) (Err c.in-Err.fault)) (take_rest c.args.placed.now (c.loop-next.next + 1)) c.in-Err.ensures.value)

pub returns : goal.returns
returns c = subst (λ r. Answered read_form r c.ended.result)
    (sym (at_end (state_of c.loop-next.reading.state) (map found_form c.loop-next.reading.found) c.args.placed.now c.loop-next.next c.args.bad c.args.size (drop_all c.loop-next.next c.args.placed.now (omega arith))) ∙ c.loop-next.invariant.reads) c.ended.ensures
