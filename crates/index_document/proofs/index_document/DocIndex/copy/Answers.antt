-- What is made of the same parts is as sound as they are.
use Rattle.index_document.proofs.SoundLemmas.{sound-copy}
use Rattle.index_document.proofs.index_document.DocIndex.copy.Goals as goal

pub invariant_of-result : goal.invariant_of-result
invariant_of-result c =
    let copy = c.in_ok-parts.ensures in
    sound-copy c.self.inside.parts c.in_ok-parts.parts copy.leaves copy.ids copy.starts copy.rows c.self.invariant
