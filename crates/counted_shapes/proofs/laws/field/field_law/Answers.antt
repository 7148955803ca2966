-- The law is the lemmas.
use Rattle.counted_shapes.proofs.FieldLaws.{made-or, made-and, made-not, made-times}
use Rattle.counted_shapes.proofs.laws.field.field_law.Goals as goal

pub returns-clause-ft_or : goal.returns-clause-ft_or
returns-clause-ft_or c = made-or

pub returns-clause-ft_and : goal.returns-clause-ft_and
returns-clause-ft_and c = made-and

pub returns-clause-ft_not : goal.returns-clause-ft_not
returns-clause-ft_not c = made-not

pub returns-clause-occurs : goal.returns-clause-occurs
returns-clause-occurs c = made-times
