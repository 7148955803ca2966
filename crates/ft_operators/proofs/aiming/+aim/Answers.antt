-- A node is aimed as its inside is, and that as the operands are.
use Rattle.std.proofs.Common.{◌∙◌, ap, sym, arith}
use Rattle.ft_operators.specs.steps.Nodes.{frame_of}
use Rattle.ft_operators.proofs.FrameLemmas.{frame_Phrase, frame_Choice, frame_Both, frame_MildNot, frame_Negated, frame_Filtered, framed_Phrase, framed_Choice, framed_Both, framed_MildNot, framed_Negated, framed_Filtered, aimed_inside, aimed_phrase, may_both, aimed_choice, aimed_both, aimed_apart, aimed_pair}
use Rattle.ft_operators.proofs.aiming.+aim.Goals as goal

pub aim_node-aim_fork-requires : goal.aim_node-aim_fork-requires
aim_node-aim_fork-requires g t c κs within =
    let is = framed_Choice g.P.PhraseHits.state c.args.node.now c.in-Choice.fork c.deref_mut.result.now c.in-Choice.is c.deref_mut.ensures.value in
    let deep = ap (λ f. f.shape.weight) is in
    (omega (arith, c.decreases), (within.0, (within.1, ap (λ f. f.aims.may c.args.doc.0 c.args.span) (sym is) ∙ c.requires)))

pub aim_node-returns-in-Choice : goal.aim_node-returns-in-Choice
aim_node-returns-in-Choice g t c =
    let state = g.P.PhraseHits.state in
    aimed_inside c.args.doc.0 c.args.span _ _ _ _ _ _ (framed_Choice state c.args.node.now c.in-Choice.fork c.deref_mut.result.now c.in-Choice.is c.deref_mut.ensures.value) (frame_Choice state _) c.aim_fork.ensures

pub aim_node-aim_pair-requires : goal.aim_node-aim_pair-requires
aim_node-aim_pair-requires g t c κs within =
    let is = framed_Both g.P.PhraseHits.state c.args.node.now c.in-Both.pair c.deref_mut-in-Both.result.now c.in-Both.is c.deref_mut-in-Both.ensures.value in
    let deep = ap (λ f. f.shape.weight) is in
    (omega (arith, c.decreases), (within.0, (within.1, may_both (frame_of g.P.PhraseHits.state c.deref_mut-in-Both.result.now.left).aims (frame_of g.P.PhraseHits.state c.deref_mut-in-Both.result.now.right).aims c.args.doc.0 c.args.span (ap (λ f. f.aims.may c.args.doc.0 c.args.span) (sym is) ∙ c.requires))))

pub aim_node-returns-in-Both : goal.aim_node-returns-in-Both
aim_node-returns-in-Both g t c =
    let state = g.P.PhraseHits.state in
    aimed_inside c.args.doc.0 c.args.span _ _ _ _ _ _ (framed_Both state c.args.node.now c.in-Both.pair c.deref_mut-in-Both.result.now c.in-Both.is c.deref_mut-in-Both.ensures.value) (frame_Both state _)
    (aimed_both c.args.doc.0 c.args.span _ _ _ _ _ _ c.aim_pair.ensures)

pub aim_node-aim_pair-requires-in-MildNot : goal.aim_node-aim_pair-requires-in-MildNot
aim_node-aim_pair-requires-in-MildNot g t c κs within =
    let is = framed_MildNot g.P.PhraseHits.state c.args.node.now c.in-MildNot.pair c.deref_mut-in-MildNot.result.now c.in-MildNot.is c.deref_mut-in-MildNot.ensures.value in
    let deep = ap (λ f. f.shape.weight) is in
    (omega (arith, c.decreases), (within.0, (within.1, may_both (frame_of g.P.PhraseHits.state c.deref_mut-in-MildNot.result.now.left).aims (frame_of g.P.PhraseHits.state c.deref_mut-in-MildNot.result.now.right).aims c.args.doc.0 c.args.span (ap (λ f. f.aims.may c.args.doc.0 c.args.span) (sym is) ∙ c.requires))))

pub aim_node-returns-in-MildNot : goal.aim_node-returns-in-MildNot
aim_node-returns-in-MildNot g t c =
    let state = g.P.PhraseHits.state in
    aimed_inside c.args.doc.0 c.args.span _ _ _ _ _ _ (framed_MildNot state c.args.node.now c.in-MildNot.pair c.deref_mut-in-MildNot.result.now c.in-MildNot.is c.deref_mut-in-MildNot.ensures.value) (frame_MildNot state _)
    (aimed_apart c.args.doc.0 c.args.span _ _ _ _ _ _ c.aim_pair-in-MildNot.ensures)

pub aim_node-aim_negation-requires : goal.aim_node-aim_negation-requires
aim_node-aim_negation-requires g t c κs within =
    let is = framed_Negated g.P.PhraseHits.state c.args.node.now c.in-Negated.negation c.deref_mut-in-Negated.result.now c.in-Negated.is c.deref_mut-in-Negated.ensures.value in
    let deep = ap (λ f. f.shape.weight) is in
    (omega (arith, c.decreases), (within.0, (within.1, ap (λ f. f.aims.may c.args.doc.0 c.args.span) (sym is) ∙ c.requires)))

pub aim_node-returns-in-Negated : goal.aim_node-returns-in-Negated
aim_node-returns-in-Negated g t c =
    let state = g.P.PhraseHits.state in
    aimed_inside c.args.doc.0 c.args.span _ _ _ _ _ _ (framed_Negated state c.args.node.now c.in-Negated.negation c.deref_mut-in-Negated.result.now c.in-Negated.is c.deref_mut-in-Negated.ensures.value) (frame_Negated state _) c.aim_negation.ensures

pub aim_node-aim_sieve-requires : goal.aim_node-aim_sieve-requires
aim_node-aim_sieve-requires g t c κs within =
    let is = framed_Filtered g.P.PhraseHits.state c.args.node.now c.in-Filtered.sieve c.deref_mut-in-Filtered.result.now c.in-Filtered.is c.deref_mut-in-Filtered.ensures.value in
    let deep = ap (λ f. f.shape.weight) is in
    (omega (arith, c.decreases), (within.0, (within.1, ap (λ f. f.aims.may c.args.doc.0 c.args.span) (sym is) ∙ c.requires)))

pub aim_node-returns-in-Filtered : goal.aim_node-returns-in-Filtered
aim_node-returns-in-Filtered g t c =
    let state = g.P.PhraseHits.state in
    aimed_inside c.args.doc.0 c.args.span _ _ _ _ _ _ (framed_Filtered state c.args.node.now c.in-Filtered.sieve c.deref_mut-in-Filtered.result.now c.in-Filtered.is c.deref_mut-in-Filtered.ensures.value) (frame_Filtered state _) c.aim_sieve.ensures

pub aim_node-aim-requires : goal.aim_node-aim-requires
aim_node-aim-requires g t c =
    ap (λ p. (g.P.PhraseHits.state p).aims.may c.args.doc.0 c.args.span) c.in-Phrase.phrase-is
    ∙ ap (λ f. f.aims.may c.args.doc.0 c.args.span) (sym (framed_Phrase g.P.PhraseHits.state c.args.node.now c.in-Phrase.phrase c.in-Phrase.is)) ∙ c.requires

pub aim_node-returns-in-Phrase : goal.aim_node-returns-in-Phrase
aim_node-returns-in-Phrase g t c =
    let state = g.P.PhraseHits.state in
    aimed_inside c.args.doc.0 c.args.span _ _ _ _ _ _ (framed_Phrase state c.args.node.now c.in-Phrase.phrase c.in-Phrase.is) (frame_Phrase state _)
    (aimed_phrase c.args.doc.0 c.args.span (state c.in-Phrase.phrase) _ _ _ c.aim.ensures.moved c.aim.ensures.grown)

pub aim_fork-returns : goal.aim_fork-returns
aim_fork-returns g t c =
    let at = frame_of g.P.PhraseHits.state in
    aimed_choice c.args.doc.0 c.args.span (at c.args.fork.now.left) (at c.aim_node.new.node) (at c.args.fork.now.right) (at c.aim_node-2.new.node) _ _ _ c.aim_node.ensures c.aim_node-2.ensures

pub aim_pair-returns : goal.aim_pair-returns
aim_pair-returns g t c =
    let at = frame_of g.P.PhraseHits.state in
    aimed_pair c.args.doc.0 c.args.span (at c.args.pair.now.left) (at c.aim_node.new.node) (at c.args.pair.now.right) (at c.aim_node-2.new.node) _ _ _ c.aim_node.ensures c.aim_node-2.ensures
