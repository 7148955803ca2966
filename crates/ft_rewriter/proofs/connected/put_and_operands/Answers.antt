-- An And gives its operands, and any other selection itself.
use Rattle.std.proofs.lemmas.Result.{on_ok_weaker}
use Rattle.ft_rewriter.specs.declared.connective.Connective.TheVariants.{And}
use Rattle.ft_rewriter.proofs.Among.{and_alone, put_one, put_and}
use Rattle.ft_rewriter.proofs.connected.put_and_operands.Goals as goal

pub returns-in-And : goal.returns-in-And
returns-in-And c = on_ok_weaker c.append.result (put_and c.args.out.now c.append.new.self c.in-And.operands c.args.part c.in-And.is) c.append.ensures.ok

pub returns-in_default : goal.returns-in_default
returns-in_default c = on_ok_weaker c.push.result (put_one c.args.out.now c.push.new.self And c.args.part (and_alone c.args.part c.in_default.not-And)) c.push.ensures.ok
