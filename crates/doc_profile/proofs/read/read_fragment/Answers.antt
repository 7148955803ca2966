-- What is read is right by the law.
use Rattle.std.proofs.Common.{◌∙◌, map, Ok, sym, ap, subst}
use Rattle.std.specs.Str.{chars}
use Rattle.plain_tree.specs.View.{node}
use Rattle.doc_grammar.specs.Texts.{Kind}
use Rattle.doc_profile.specs.Faults.{FaultOf}
use Rattle.doc_profile.specs.Readings.{Faults, fragment_of}
use Rattle.doc_profile.proofs.Answered.{at_exit, fragment_no_text, fragment_same, fault_right}
use Rattle.doc_grammar.proofs.Printable as printable
use Rattle.doc_profile.proofs.BytesRead as law
use Rattle.doc_profile.proofs.read.read_fragment.Goals as goal

pub returns-in_err-text-clause-answer_err : goal.returns-in_err-text-clause-answer_err
returns-in_err-text-clause-answer_err c = at_exit c.from_residual.result (Faults (fragment_of c.args.bytes.now)) c.in_err-text.field-0.0 c.from_residual.ensures.1 (fragment_no_text c.args.bytes.now c.in_err-text.field-0.0 c.in_err-text.ensures.err)

pub returns-in_err-kids-clause-answer_err : goal.returns-in_err-kids-clause-answer_err
returns-in_err-kids-clause-answer_err c =
    at_exit c.from_residual-in_err-kids.result (Faults (fragment_of c.args.bytes.now)) c.in_err-kids.field-0.0 c.from_residual-in_err-kids.ensures.1
    (subst (λ r. Faults r c.in_err-kids.field-0.0) (fragment_same c.args.bytes.now c.in_ok-text.text.now c.in_ok-text.ensures.ok) c.in_err-kids.ensures.err)

pub returns-in_err-kids-clause-faults : goal.returns-in_err-kids-clause-faults
returns-in_err-kids-clause-faults c =
    at_exit c.from_residual-in_err-kids.result (FaultOf Kind.fragment c.args.bytes.now (chars c.args.bytes.now) 0) c.in_err-kids.field-0.0 c.from_residual-in_err-kids.ensures.1
    (fault_right Kind.fragment c.args.bytes.now (chars c.args.bytes.now) 0 (fragment_of c.args.bytes.now) c.in_err-kids.field-0.0 (law.fragment_fault c.args.bytes.now)
    (subst (λ r. Faults r c.in_err-kids.field-0.0) (fragment_same c.args.bytes.now c.in_ok-text.text.now c.in_ok-text.ensures.ok) c.in_err-kids.ensures.err))

pub returns-clause-answer_ok : goal.returns-clause-answer_ok
returns-clause-answer_ok c = sym (fragment_same c.args.bytes.now c.in_ok-text.text.now c.in_ok-text.ensures.ok) ∙ c.in_ok-kids.ensures.ok ∙ ap (λ ts. Ok (map node ts)) (sym c.from_vec.ensures)

pub returns-clause-read : goal.returns-clause-read
returns-clause-read c =
    let x = law.fragment c.args.bytes.now (map node c.from_vec.result) (sym (fragment_same c.args.bytes.now c.in_ok-text.text.now c.in_ok-text.ensures.ok) ∙ c.in_ok-kids.ensures.ok ∙ ap (λ ts. Ok (map node ts)) (sym c.from_vec.ensures)) in
    (x.0, x.1)

pub returns-clause-fits : goal.returns-clause-fits
returns-clause-fits c = (law.fragment c.args.bytes.now (map node c.in_ok-kids.kids.items) (sym (fragment_same c.args.bytes.now c.in_ok-text.text.now c.in_ok-text.ensures.ok) ∙ c.in_ok-kids.ensures.ok)).2

pub returns-clause-printable : goal.returns-clause-printable
returns-clause-printable c = printable.fragment (chars c.args.bytes.now) (map node c.from_vec.result) (law.fragment c.args.bytes.now (map node c.from_vec.result) (sym (fragment_same c.args.bytes.now c.in_ok-text.text.now c.in_ok-text.ensures.ok) ∙ c.in_ok-kids.ensures.ok ∙ ap (λ ts. Ok (map node ts)) (sym c.from_vec.ensures))).1

pub returns-clause-within : goal.returns-clause-within
returns-clause-within c = (law.fragment c.args.bytes.now (map node c.from_vec.result) (sym (fragment_same c.args.bytes.now c.in_ok-text.text.now c.in_ok-text.ensures.ok) ∙ c.in_ok-kids.ensures.ok ∙ ap (λ ts. Ok (map node ts)) (sym c.from_vec.ensures))).3
