-- The version that other abbreviations make is that of the same documents.
use Rattle.document_store.proofs.collection.Collection.set_abbreviations.Goals as goal

pub rebreak_all-requires : goal.rebreak_all-requires
rebreak_all-requires c = (c.self.inside.abbreviations, (c.self.inside.next, c.self.invariant.numbered))
