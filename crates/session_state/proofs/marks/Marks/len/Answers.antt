-- Each mark keeps its index.
use Rattle.std.proofs.Common.{List, subst}
use Rattle.session_state.specs.KeptMarks.{marks_of, versions_of}
use Rattle.session_state.specs.Marks.{AreIndexesOf}
use Rattle.session_state.proofs.MarkLemmas.{indexes-of, Entry}
use Rattle.session_state.proofs.marks.Marks.len.Goals as goal

pub returns-clause-indexed : goal.returns-clause-indexed
returns-clause-indexed c =
    subst (λ (es : List Entry). AreIndexesOf (marks_of es) (versions_of es)) c.self.view_is (indexes-of c.self.inside.kept.entries c.self.invariant)
