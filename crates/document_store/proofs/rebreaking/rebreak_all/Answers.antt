-- The next document comes under the new abbreviations.
use Rattle.std.proofs.Common.{◌≤◌, ◌∙◌, length, rules}
use Rattle.document_store.proofs.RebreakLemmas.{rebroken-first, rebroken-follows, rebroken-last, rebroken-next}
use Rattle.document_store.proofs.rebreaking.rebreak_all.Goals as goal

pub loop-at-init : goal.loop-at-init
loop-at-init c = λ before next held.
    c.in_ok-made.ensures ∙ rebroken-first before c.args.abbreviations.now c.args.documents.now c.args.version.now next held

pub rebreak_one-requires : goal.rebreak_one-requires
rebreak_one-requires c =
    let before = c.requires.0 in
    let next = c.requires.1.0 in
    let held = c.requires.1.1 in (
      before,
      rebroken-follows before c.args.abbreviations.now c.args.documents.now c.args.version.now next held c.loop-at.at c.entry.result.0.now c.entry.result.1.now
          c.loop-at.made c.entry.ensures (c.loop-at.invariant before next held),
    )

pub loop-at-preserved : goal.loop-at-preserved
loop-at-preserved c = λ before next held.
    rebroken-next before c.args.abbreviations.now c.args.documents.now c.args.version.now next held c.loop-at.at c.entry.result.0.now c.entry.result.1.now
    c.loop-at.made c.entry.ensures (c.loop-at.invariant before next held) c.rebreak_one.new.version c.in_ok-rebreak_one.ensures

pub returns : goal.returns
returns c =
    let before = c.requires.0 in
    let next = c.requires.1.0 in
    let held = c.requires.1.1 in
    let end : length c.args.documents.now ≤ c.loop-at.at = search rules in
    rebroken-last before c.args.abbreviations.now c.args.documents.now c.args.version.now next held c.loop-at.at c.loop-at.made (c.loop-at.invariant before next held) end
