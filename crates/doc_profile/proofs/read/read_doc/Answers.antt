-- What is read is right by the law.
use Rattle.std.proofs.Common.{◌∙◌, Ok, sym, ap}
use Rattle.std.specs.Str.{chars}
use Rattle.plain_tree.specs.View.{node}
use Rattle.doc_grammar.specs.Texts.{Kind, without_mark, mark_len}
use Rattle.doc_profile.specs.Faults.{FaultOf}
use Rattle.doc_profile.specs.Readings.{document_of}
use Rattle.doc_profile.proofs.Answered.{at_exit, fault_right}
use Rattle.doc_grammar.proofs.Printable as printable
use Rattle.doc_profile.proofs.BytesRead as law
use Rattle.doc_profile.proofs.read.read_doc.Goals as goal

pub returns-in_err-root-clause-faults : goal.returns-in_err-root-clause-faults
returns-in_err-root-clause-faults c =
    let bytes = c.args.bytes.now in
    at_exit c.from_residual.result (FaultOf Kind.document bytes (without_mark (chars bytes)) (mark_len (chars bytes))) c.in_err-root.field-0.0 c.from_residual.ensures.1
    (fault_right Kind.document bytes (without_mark (chars bytes)) (mark_len (chars bytes)) (document_of bytes) c.in_err-root.field-0.0 (law.document_fault bytes) c.in_err-root.ensures.err)

pub from_tree-requires : goal.from_tree-requires
from_tree-requires c = (law.document c.args.bytes.now (node c.in_ok-root.root) c.in_ok-root.ensures.ok).4

pub returns-clause-answer_ok : goal.returns-clause-answer_ok
returns-clause-answer_ok c = c.in_ok-root.ensures.ok ∙ ap Ok (sym c.from_tree.ensures)

pub returns-clause-read : goal.returns-clause-read
returns-clause-read c =
    let x = law.document c.args.bytes.now c.from_tree.result (c.in_ok-root.ensures.ok ∙ ap Ok (sym c.from_tree.ensures)) in
    (x.0, x.1)

pub returns-clause-fits : goal.returns-clause-fits
returns-clause-fits c = (law.document c.args.bytes.now (node c.in_ok-root.root) c.in_ok-root.ensures.ok).2

pub returns-clause-printable : goal.returns-clause-printable
returns-clause-printable c = printable.document (without_mark (chars c.args.bytes.now)) c.from_tree.result (law.document c.args.bytes.now c.from_tree.result (c.in_ok-root.ensures.ok ∙ ap Ok (sym c.from_tree.ensures))).1

pub returns-clause-within : goal.returns-clause-within
returns-clause-within c = (law.document c.args.bytes.now c.from_tree.result (c.in_ok-root.ensures.ok ∙ ap Ok (sym c.from_tree.ensures))).3
