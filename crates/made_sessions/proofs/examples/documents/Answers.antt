-- A document's text, by computation.
use Rattle.std.proofs.Common.{refl}
use Rattle.std.specs.Fmt.{digits}
use Rattle.made_sessions.specs.Made.{document, paragraphs, words}
use Rattle.made_sessions.proofs.examples.documents.Goals as goal

pub returns : goal.returns
unfolding digits words paragraphs document
returns c = refl
