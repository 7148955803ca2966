-- Before the first line nothing is known; a line that finds no room leaves those before it.
use Rattle.std.proofs.Common.{rules, [], sym, append-nil}
use Rattle.element_lines.proofs.KeptLemmas.{kept-err}
use Rattle.element_lines.proofs.names.put_names.Goals as goal

pub returns-in_err-push-clause-err : goal.returns-in_err-push-clause-err
returns-in_err-push-clause-err c =
    kept-err c.from_residual-in_err-push.result c.args.lines.now c.loop-node.lines c.push.new.self c.loop-node.invariant.kept c.in_err-push.ensures.err

pub loop-node-init : goal.loop-node-init
loop-node-init c = record {
  known = record { leading = c.in_ok-new.ensures c.args.document.now c.args.tree.now.root; numbers = search rules; counting = search rules };
  lines = search rules;
  kept = ([], sym (append-nil c.args.lines.now));
}
