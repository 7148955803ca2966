-- Each piece that the grammar spells is one that is printed.
use Rattle.doc_grammar.proofs.Printable as printable
use Rattle.doc_grammar.proofs.laws.spelled_is_printable.Goals as goal

pub returns : goal.returns
returns c = record { document = printable.document; fragment = printable.fragment }
