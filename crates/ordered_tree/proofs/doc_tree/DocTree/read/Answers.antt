-- The slots of all nodes stand for the document, and what was read of its texts are its leaves and the starts in it.
use Rattle.std.proofs.Common.{◌≡◌, ◌+◌, ◌++◌, List, [], None, Err, true, map, length, sym, ap, ap₂, ◌∙◌, subst, arith, append-nil}
use Rattle.std.proofs.lemmas.List.Elements.{All-same}
use Rattle.doc_grammar.specs.Limits.{node_count}
use Rattle.plain_tree.specs.Document.{Node}
use Rattle.plain_tree.specs.View.{node}
use Rattle.tokenizer.specs.Parts.{parts}
use Rattle.tokenizer.specs.Tokens.{tokens, tokens_from, sentence_starts, paragraph_starts}
use Rattle.tokenizer.specs.steps.StartsLeft.{words_seen}
use Rattle.tokenizer.specs.declared.tokens.TokenFault.TheVariants as Fault
use Rattle.ordered_tree.specs.Counts.{word_count, element_depth}
use Rattle.ordered_tree.specs.Leaves.{texts, leaves, leaves_after}
use Rattle.ordered_tree.specs.Numbered.{plain}
use Rattle.ordered_tree.specs.Numbering.{numbered, next_sibling}
use Rattle.ordered_tree.specs.Slots.{slot, root_of, IsDocument}
use Rattle.ordered_tree.specs.Stands.{round_root, stands, stands_in}
use Rattle.ordered_tree.specs.declared.around.Around.{Around}
use Rattle.ordered_tree.specs.declared.slot.Slot.{Slot}
use Rattle.ordered_tree.specs.steps.Gathering.{Gathers}
use Rattle.ordered_tree.specs.steps.LinksBelow.{LinksBelow}
use Rattle.ordered_tree.proofs.BuildingLemmas.{plain-numbered, length-filled-root}
use Rattle.ordered_tree.proofs.LinksLemmas.{links-numbered}
use Rattle.ordered_tree.proofs.SlotsLemmas.{IsDocument-numbered, root_of-numbered}
use Rattle.ordered_tree.proofs.doc_tree.DocTree.read.Goals.{After-into_parts-leaves}
use Rattle.ordered_tree.proofs.doc_tree.DocTree.read.Goals as goal

-- what is added to no slots, round which nothing stands
all-added : (before after : List Slot) (around : Around) (root doc : Node) → before ≡ [] → around ≡ round_root → root ≡ doc
    → after ≡ before ++ map slot (stands (record around { next = next_sibling true (length before + node_count root) })
    (numbered (length before) root))
    → after ≡ map slot (stands_in (numbered 0 doc))
all-added before after around root doc none alone same added =
    added
    ∙ ap (λ l. l ++ map slot (stands (record around { next = next_sibling true (length l + node_count root) }) (numbered (length l) root))) none
    ∙ ap (λ a. map slot (stands (record a { next = None }) (numbered 0 root))) alone
    ∙ ap (λ n. map slot (stands_in (numbered 0 n))) same

pub from_vec-requires : goal.from_vec-requires
from_vec-requires c =
    All-same (LinksBelow 2147483648) c.add_tree.new.slots.items (map slot (stands_in (numbered 0 c.args.doc)))
    (all-added c.in-Ok.slots.items c.add_tree.new.slots.items c.root.result (node c.into_tree-root.result) c.args.doc
    c.in-Ok.ensures.items c.root.ensures c.into_tree-root.ensures.tree
    c.in_ok-added.ensures.slots)
    (links-numbered c.args.doc 2147483648 (omega (arith, c.requires.few_nodes)))

filled : (c : After-into_parts-leaves) → c.in_ok-slots.slots ≡ map slot (stands_in (numbered 0 c.args.doc))
filled c =
    c.in_ok-slots.ensures
    ∙ all-added c.in-Ok.slots.items c.add_tree.new.slots.items c.root.result (node c.into_tree-root.result) c.args.doc
    c.in-Ok.ensures.items c.root.ensures c.into_tree-root.ensures.tree
    c.in_ok-added.ensures.slots

-- all words that were seen are the document's
counted : (c : After-into_parts-leaves) → words_seen c.add_tree.new.read.starts ≡ word_count c.args.doc
counted c =
    omega (arith, c.in_ok-added.ensures.counted, c.new-texts.ensures.words, ap word_count c.into_tree-root.ensures.tree)

-- what was read of the texts is read under the abbreviations that were lent
gathered : (c : After-into_parts-leaves) → Gathers c.new-texts.result (texts (numbered (length c.in-Ok.slots.items) (node c.into_tree-root.result)))
    (parts c.args.abbreviations.now (node c.into_tree-root.result)) c.add_tree.new.read
gathered c =
    subst (λ a. Gathers c.new-texts.result (texts (numbered (length c.in-Ok.slots.items) (node c.into_tree-root.result))) (parts a (node c.into_tree-root.result)) c.add_tree.new.read)
    c.new-texts.ensures.abbreviations c.in_ok-added.ensures.gathers

pub invariant_of-tree : goal.invariant_of-tree
invariant_of-tree c =
    let slots = c.in_ok-slots.slots in
    let doc = c.args.doc in
    let is : root_of slots ≡ numbered 0 doc = root_of-numbered slots doc (filled c) in
    let plain-is : plain (root_of slots) ≡ doc = ap plain is ∙ plain-numbered doc 0 in
    record {
      stored = subst (IsDocument slots None) (sym is) (IsDocument-numbered slots doc c.into_tree-root.ensures.document (filled c) c.requires.few_nodes
          (omega (arith, counted c, c.add_tree.new.read.few, c.add_tree.new.read.countable)));
      nodes_are = omega (arith, c.len-nodes.ensures, length-filled-root slots doc (filled c), ap node_count plain-is);
      levels_are = c.in_ok-added.ensures.levels ∙ ap element_depth (c.into_tree-root.ensures.tree ∙ sym plain-is);
    }

pub returns-clause-tree : goal.returns-clause-tree
returns-clause-tree c =
    let slots = c.in_ok-slots.slots in
    let doc = c.args.doc in
    ap₂ (λ r s. record { root = r; slots = s }) (root_of-numbered slots doc (filled c)) (length-filled-root slots doc (filled c))

pub returns-clause-leaves : goal.returns-clause-leaves
returns-clause-leaves c =
    c.into_parts-leaves.ensures.leaves ∙ c.in_ok-added.ensures.gathers.leaves
    ∙ ap₂ (λ l b. l ++ leaves_after b (texts (numbered (length c.in-Ok.slots.items) (node c.into_tree-root.result)))) c.new-texts.ensures.leaves c.new-texts.ensures.last
    ∙ ap₂ (λ s n. leaves (numbered (length s) n)) c.in-Ok.ensures.items c.into_tree-root.ensures.tree

pub returns-clause-sentences : goal.returns-clause-sentences
unfolding tokens
returns-clause-sentences c =
    let root = node c.into_tree-root.result in
    let all = parts c.args.abbreviations.now root in
    c.into_parts-leaves.ensures.sentences ∙ sym ((gathered c).sentences []) ∙ c.new-texts.ensures.sentences (all ++ [])
    ∙ ap (λ ps. sentence_starts (tokens_from 1 1 ps)) (append-nil all)
    ∙ ap (λ n. sentence_starts (tokens_from 1 1 (parts c.args.abbreviations.now n))) c.into_tree-root.ensures.tree

pub returns-clause-paragraphs : goal.returns-clause-paragraphs
unfolding tokens
returns-clause-paragraphs c =
    let root = node c.into_tree-root.result in
    let all = parts c.args.abbreviations.now root in
    c.into_parts-leaves.ensures.paragraphs ∙ sym ((gathered c).paragraphs []) ∙ c.new-texts.ensures.paragraphs (all ++ [])
    ∙ ap (λ ps. paragraph_starts (tokens_from 1 1 ps)) (append-nil all)
    ∙ ap (λ n. paragraph_starts (tokens_from 1 1 (parts c.args.abbreviations.now n))) c.into_tree-root.ensures.tree

pub returns-clause-few : goal.returns-clause-few
returns-clause-few c = omega (arith, counted c, c.add_tree.new.read.few, c.in_ok-added.ensures.gathers.most, c.new-texts.ensures.most)

pub returns-in_err-added-clause-full : goal.returns-in_err-added-clause-full
returns-in_err-added-clause-full c full =
    let same : Fault.Tokens ≡ c.in_err-added.field-0.0 = rw full at c.from_residual.ensures.1 in
    omega (arith, c.in_err-added.ensures.full (ap Err (sym same)), c.new-texts.ensures.most, c.new-texts.ensures.words, ap word_count c.into_tree-root.ensures.tree)
