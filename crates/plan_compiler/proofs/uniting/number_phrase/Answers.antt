-- The phrase has the next number.
use Rattle.std.proofs.Common.{arith}
use Rattle.plan_compiler.specs.steps.Uniting.{a_phrase}
use Rattle.plan_compiler.proofs.uniting.number_phrase.Goals as goal

pub returns-in-Some : goal.returns-in-Some
returns-in-Some c = a_phrase c.args.next.now c.in-Some.following c.args.found (let is = c.in-Some.ensures in omega (arith, is))
