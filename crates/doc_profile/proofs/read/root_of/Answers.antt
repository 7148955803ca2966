-- A document has one node, its root.
use Rattle.std.proofs.Common.{rules, [], ◌≡◌}
use Rattle.std.specs.Str.{chars}
use Rattle.doc_profile.specs.Readings.{Faults, document_of}
use Rattle.doc_profile.proofs.Answered.{at_exit, after_in, document_no_text, document_faults, document_popped, document_pops}
use Rattle.doc_profile.proofs.read.root_of.Goals as goal

pub returns-in_err-text-clause-err : goal.returns-in_err-text-clause-err
returns-in_err-text-clause-err c = at_exit c.from_residual.result (Faults (document_of c.args.bytes.now)) c.in_err-text.field-0.0 c.from_residual.ensures.1 (document_no_text c.args.bytes.now c.in_err-text.field-0.0 c.in_err-text.ensures.err)

pub returns-in_err-kids-clause-err : goal.returns-in_err-kids-clause-err
returns-in_err-kids-clause-err c =
    let text = c.after_mark-from.ensures in
    let b = after_in c.args.bytes.now c.in_ok-text.text.now (chars c.after_mark-from.result.0.now) c.after_mark-from.result.1 _ c.in_ok-text.ensures.ok text.rest text.place text.room in
    at_exit c.from_residual-in_err-kids.result (Faults (document_of c.args.bytes.now)) c.in_err-kids.field-0.0 c.from_residual-in_err-kids.ensures.1 (document_faults c.in_err-kids.field-0.0 b c.in_err-kids.ensures.err)

pub unreachable-requires : goal.unreachable-requires
unreachable-requires c =
    let text = c.after_mark-from.ensures in
    let b = after_in c.args.bytes.now c.in_ok-text.text.now (chars c.after_mark-from.result.0.now) c.after_mark-from.result.1 _ c.in_ok-text.ensures.ok text.rest text.place text.room in
    let none : c.in_ok-kids.kids.items ≡ [] = search rules in
    document_pops c.in_ok-kids.kids.items b c.in_ok-kids.ensures.ok none

pub returns : goal.returns
returns c =
    let text = c.after_mark-from.ensures in
    let b = after_in c.args.bytes.now c.in_ok-text.text.now (chars c.after_mark-from.result.0.now) c.after_mark-from.result.1 _ c.in_ok-text.ensures.ok text.rest text.place text.room in
    record { ok = document_popped c.pop.new.self.items c.in_ok-kids.kids.items c.in-Some.root b c.in_ok-kids.ensures.ok c.in-Some.ensures.items; err = tt }
