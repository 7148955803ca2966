-- What the session's file was answered as is the status.
use Rattle.std.proofs.Common.{◌≡◌, subst, true, false, List, ℕ}
use Rattle.std.specs.Prelude.{Option, Ok, IfSome, IsSomeAnd}
use Rattle.ft_io.specs.Shelf.{bytes_of}
use Rattle.ft_session.specs.declared.status.Status.TheVariants.{Done, SomeRefused}
use Rattle.ft_session.specs.Run.{AnswersAll}
use Rattle.ft_session.proofs.FileLemmas.{finished}
use Rattle.ft_session.proofs.running.run.Goals as goal

pub returns-in-Ok-true-clause-answers : goal.returns-in-Ok-true-clause-answers
returns-in-Ok-true-clause-answers g c = λ _.
    let is : c.answer_file.result ≡ Ok true = cc in
    subst (λ (o : Option (List ℕ)). IfSome o (λ name. IfSome (g.S.Shelf.files c.args.shelf.now) (λ files. IsSomeAnd (bytes_of files name) (λ session.
    AnswersAll g.J.Judge.says session (g.S.Shelf.reached c.answer_file.new.shelf name) (g.K.Sink.written c.args.sink.now) (g.K.Sink.written c.answer_file.new.sink) SomeRefused))))
    c.in-Some.ensures.file (finished g.J.Judge.says _ _ _ _ _ _ _ _ _ c.answer_file.result true c.answer_file.ensures is)

pub returns-in-Ok-false-clause-answers : goal.returns-in-Ok-false-clause-answers
returns-in-Ok-false-clause-answers g c = λ _.
    let is : c.answer_file.result ≡ Ok false = cc in
    subst (λ (o : Option (List ℕ)). IfSome o (λ name. IfSome (g.S.Shelf.files c.args.shelf.now) (λ files. IsSomeAnd (bytes_of files name) (λ session.
    AnswersAll g.J.Judge.says session (g.S.Shelf.reached c.answer_file.new.shelf name) (g.K.Sink.written c.args.sink.now) (g.K.Sink.written c.answer_file.new.sink) Done))))
    c.in-Some.ensures.file (finished g.J.Judge.says _ _ _ _ _ _ _ _ _ c.answer_file.result false c.answer_file.ensures is)
