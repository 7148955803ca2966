-- A text is walked through once, and each of its prefixes is right by the grammar.
use Rattle.doc_profile.proofs.BytesRead as law
use Rattle.doc_profile.proofs.laws.reading_law.Goals as goal

pub returns : goal.returns
returns c = record { document = law.document; document_fault = law.document_fault; fragment = law.fragment; fragment_fault = law.fragment_fault; every_document = law.every_document; every_fragment = law.every_fragment }
