-- An Or gives its operands, and any other selection itself.
use Rattle.std.proofs.lemmas.Result.{on_ok_weaker}
use Rattle.ft_rewriter.specs.declared.connective.Connective.TheVariants.{Or}
use Rattle.ft_rewriter.proofs.Among.{or_alone, put_one, put_or}
use Rattle.ft_rewriter.proofs.connected.put_or_operands.Goals as goal

pub returns-in-Or : goal.returns-in-Or
returns-in-Or c = on_ok_weaker c.append.result (put_or c.args.out.now c.append.new.self c.in-Or.operands c.args.part c.in-Or.is) c.append.ensures.ok

pub returns-in_default : goal.returns-in_default
returns-in_default c = on_ok_weaker c.push.result (put_one c.args.out.now c.push.new.self Or c.args.part (or_alone c.args.part c.in_default.not-Or)) c.push.ensures.ok
