-- One more of the terms that were there is done, with its start.
use Rattle.std.proofs.Common.{◌+◌, ◌++◌, ◌∷◌, [], ℕ, List, sym, subst, arith}
use Rattle.std.proofs.lemmas.List.{get_or_read}
use Rattle.index_document.specs.Rows.{entries_of}
use Rattle.index_document.specs.steps.Widening.{AreUpTo, IsWidening}
use Rattle.index_document.proofs.StepLemmas.{starts-length}
use Rattle.index_document.proofs.WideningLemmas.{widening-old, up_to-old}
use Rattle.index_document.proofs.terms.copy_up_to.Goals as goal

pub index-requires-in-loop-made : goal.index-requires-in-loop-made
index-requires-in-loop-made c =
    let parts = c.args.parts.now in
    let next = c.is_up_to.ensures.yes c.loop-made-test.true in
    omega (arith, next.0, parts.starts.ok.0, starts-length (entries_of parts.leaves) parts.ids.items parts.starts.items parts.rows c.requires.indexed)

pub loop-made-preserved : goal.loop-made-preserved
loop-made-preserved c =
    let parts = c.args.parts.now in
    let all = entries_of parts.leaves in
    let ids = parts.ids.items in
    let made = c.loop-made.made in
    let next = c.is_up_to.ensures.yes c.loop-made-test.true in
    let id = c.index.result.now in
    let start = c.index-in-loop-made.result.now in
    let id_is = get_or_read ids made.number id next.0 c.index.ensures 0 in
    record {
      widening = λ done was.
          subst (λ (xs : List ℕ). IsWidening all ids (made.number + 1) done xs c.push-in-loop-made.new.self.items) (sym c.in_ok-push.ensures.items)
          (subst (λ (xs : List ℕ). IsWidening all ids (made.number + 1) done (made.ids.items ++ id ∷ []) xs) (sym c.in_ok-push-2.ensures.items)
          (widening-old all ids parts.starts.items made.number done made.ids.items made.starts.items id start (c.loop-made.invariant.widening done was) c.requires.rising
          c.requires.indexed.starts_are next.0 id_is c.index-in-loop-made.ensures));
      up_to = λ most. subst (λ (xs : List ℕ). AreUpTo c.args.term xs) (sym c.in_ok-push.ensures.items)
          (up_to-old all ids c.args.term made.ids.items id (c.loop-made.invariant.up_to most) (omega (arith, next.1, id_is)));
    }
