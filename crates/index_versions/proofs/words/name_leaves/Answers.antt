-- One more leaf gets its ids.
use Rattle.std.proofs.Common.{◌≡◌, ◌<◌, ◌+◌, ◌∷◌, ◌++◌, [], List, length, get_or, map, take, ap, sym, subst, ◌∙◌, arith}
use Rattle.index_document.specs.Terms as by_id
use Rattle.index_meaning.specs.Documents.{Leaf}
use Rattle.index_versions.specs.steps.Held.{leaf_under}
use Rattle.index_versions.specs.steps.Naming.{all_words, entries_of, IsNamed}
use Rattle.index_versions.proofs.WordLemmas.{leaf_made, leaf_named}
use Rattle.index_versions.proofs.words.name_leaves.Goals as goal

pub loop-leaf-preserved : goal.loop-leaf-preserved
loop-leaf-preserved c =
    let leaves = c.args.leaves.now in
    let i = c.loop-leaf.leaf-index in
    let leaf = c.leaf-item.result in
    let old = c.args.dictionary.now in
    let now = c.loop-leaf.dictionary in
    let new = c.ids_of.new.dictionary in
    let made = c.loop-leaf.made.items in
    let ids = c.in_ok-ids.ids.items in
    let inv = c.loop-leaf.invariant in
    let list = c.as_slice-leaf-items.ensures in
    let within : i < length leaves = omega (arith, c.loop-leaf-test.true, ap length list) in
    let is : leaf ≡ get_or leaves i leaf = c.leaf-item.is ∙ ap (λ (ls : List Leaf). get_or ls i leaf) list in
    let named : IsNamed now (entries_of leaf.words) new ids = subst (λ ws. IsNamed now (entries_of ws) new ids) c.words.ensures c.in_ok-ids.ensures.named in
    let all : c.push.new.self.items ≡ made ++ by_id.leaf_of leaf.id ids ∷ [] =
    c.in_ok-push.ensures.items ∙ ap (λ (l : by_id.Leaf). made ++ l ∷ []) (c.in_ok-new.ensures ∙ ap (λ n. by_id.leaf_of n ids) c.leaf.ensures) in
    record {
      named = subst (λ (ls : List by_id.Leaf). IsNamed old (entries_of (all_words (take (i + 1) leaves))) new (by_id.words_of ls)) (sym all)
          (leaf_named old now new leaves i leaf made ids within is inv.named named);
      leaves = ap (map (leaf_under new.given)) all ∙ leaf_made old now new leaves i leaf made ids within is inv.named named inv.leaves;
      known = c.in_ok-ids.ensures.known;
    }
