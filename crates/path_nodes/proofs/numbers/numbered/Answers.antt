-- The item of the number, or none.
use Rattle.std.proofs.Common.{◌≡◌, ◌+◌, ◌-◌, ◌≤◌, ◌<◌, ◌∷◌, [], ◌++◌, map, length, sym, ap, ◌∙◌, arith, rules}
use Rattle.std.proofs.lemmas.List.{get_or-map, length-map}
use Rattle.path_nodes.specs.References.{element_of}
use Rattle.path_nodes.proofs.NumberLemmas.{numbered_from, at, past, before}
use Rattle.path_nodes.proofs.numbers.numbered.Goals as goal
use Rattle.path_nodes.proofs.numbers.numbered.Goals.{then-index-len+in_ok-push, else-index-len}

pub returns-then-number-eq0 : goal.returns-then-number-eq0
returns-then-number-eq0 c =
    let root = c.args.tree.now.root in
    let zero : c.args.number ≡ 0 = omega (arith, c.if-number-eq0.true) in
    record {
      there = search rules;
      are = ap (map (element_of root)) c.new-kept.ensures
          ∙ sym (ap (λ k. numbered_from 1 k (map (element_of root) c.args.items.now)) zero ∙ before 1 0 (map (element_of root) c.args.items.now) (omega arith));
    }

pub returns : goal.returns
returns c =
    let root = c.args.tree.now.root in
    let items = c.args.items.now in
    let n = c.args.number in
    let long = length-map items (element_of root) in
    let counted : 1 + (n - 1) ≡ n = omega (arith, c.if-number-eq0.false) in
    elim c.if-index-len.branch [
      | then-index-len+in_ok-push w ↦
          let x = w.get.result.now in
          let within : n - 1 < length (map (element_of root) items) = omega (arith, w.if-index-len.true, c.len.ensures, long) in
          let short : n - 1 < length items = omega (arith, within, long) in
          record {
            there = search rules;
            are = ap (map (element_of root)) (w.kept-is ∙ w.in_ok-push.ensures.ok ∙ ap (λ l. l ++ x ∷ []) c.new-kept.ensures)
                ∙ ap (λ r. element_of root r ∷ []) w.get.ensures
                ∙ ap (λ e. e ∷ []) (sym (get_or-map (element_of root) items (n - 1) x (element_of root x) short))
                ∙ sym (at 1 (n - 1) (map (element_of root) items) (element_of root x) within)
                ∙ ap (λ k. numbered_from 1 k (map (element_of root) items)) counted;
          }
      | else-index-len w ↦
          let few : length (map (element_of root) items) ≤ n - 1 = omega (arith, w.if-index-len.false, c.len.ensures, long) in
          record {
            there = search rules;
            are = ap (map (element_of root)) (w.kept-is ∙ c.new-kept.ensures)
                ∙ sym (past 1 (n - 1) (map (element_of root) items) few)
                ∙ ap (λ k. numbered_from 1 k (map (element_of root) items)) counted;
          }
    ]
