-- What was read of the texts, one part of a document further.
use Rattle.std.proofs.Common.{◌≡◌, ℕ, ◌+◌, List, [], ◌∷◌, ◌++◌, refl, sym, ap, ap₂, ◌∙◌, subst, append_assoc, append-nil, add-one}
use Rattle.doc_grammar.specs.Limits.{node_count}
use Rattle.ft_base.specs.declared.ids.NodeRef.{NodeRef}
use Rattle.plain_tree.specs.Document.{Node, element, text, Nodes, no_nodes, node_then}
use Rattle.plain_tree.specs.declared.tree.Attr.{Attr}
use Rattle.tokenizer.specs.Parts.{Part, gap_tag, parts_of_text, events, events_of, parts}
use Rattle.tokenizer.specs.steps.StartsLeft.{sentences_in, paragraphs_in}
use Rattle.ordered_tree.specs.Leaves.{texts, texts_of, leaves_after, last_leaf}
use Rattle.ordered_tree.specs.Numbering.{numbered, children_numbered}
use Rattle.ordered_tree.specs.steps.Gathering.{Gathers, parts_of}
use Rattle.ordered_tree.specs.declared.texts_read.TextsRead.{TextsRead}
use Rattle.ordered_tree.proofs.LeavesLemmas.{leaves_after-append, last_leaf-append, leaves_after-nil, last_leaf-nil}
use Rattle.ordered_tree.proofs.ShiftLemmas.{parts-element, parts_of-then}

Gathers-append : (a b c : TextsRead) (ts us : List (NodeRef × List ℕ)) (ps qs : List Part) → Gathers a ts ps b → Gathers b us qs c → Gathers a (ts ++ us) (ps ++ qs) c
Gathers-append a b c ts us ps qs g h = record {
  leaves = h.leaves ∙ ap₂ (λ l o. l ++ leaves_after o us) g.leaves g.last ∙ append_assoc a.leaves (leaves_after a.last ts) (leaves_after (last_leaf a.last ts) us)
      ∙ ap (λ l. a.leaves ++ l) (sym (leaves_after-append ts us a.last));
  last = h.last ∙ ap (λ o. last_leaf o us) g.last ∙ sym (last_leaf-append ts us a.last);
  sentences = λ rest. ap (sentences_in a.starts) (append_assoc ps qs rest) ∙ g.sentences (qs ++ rest) ∙ h.sentences rest;
  paragraphs = λ rest. ap (paragraphs_in a.starts) (append_assoc ps qs rest) ∙ g.paragraphs (qs ++ rest) ∙ h.paragraphs rest;
  abbreviations = h.abbreviations ∙ g.abbreviations;
  most = h.most ∙ g.most;
}

-- ---- a text, and an element

pub Gathers-text : (abbreviations : List (List ℕ)) (a b : TextsRead) (bytes : List ℕ) (s here : ℕ) → here ≡ s
    → Gathers a ((record { 0 = here }, bytes) ∷ []) (parts_of_text abbreviations bytes) b → Gathers a (texts (numbered s (text bytes))) (parts abbreviations (text bytes)) b
unfolding numbered events
Gathers-text abbreviations a b bytes s here at g =
    subst (λ (ps : List Part). Gathers a ((record { 0 = s }, bytes) ∷ []) ps b) (sym (append-nil (parts_of_text abbreviations bytes)))
    (subst (λ (h : ℕ). Gathers a ((record { 0 = h }, bytes) ∷ []) (parts_of_text abbreviations bytes) b) at g)

texts-numbered : (name : List ℕ) (attrs : List Attr) (kids : Nodes) (s : ℕ) → texts_of (children_numbered (s + 1) kids) ++ [] ≡ texts (numbered s (element name attrs kids))
unfolding numbered
texts-numbered name attrs kids s = append-nil _ ∙ ap (λ k. texts_of (children_numbered k kids)) (add-one s)

pub Gathers-element : (abbreviations : List (List ℕ)) (a b c d : TextsRead) (name : List ℕ) (attrs : List Attr) (kids : Nodes) (s first : ℕ) → first ≡ s + 1
    → Gathers a [] (gap_tag name ∷ []) b → Gathers b (texts_of (children_numbered first kids)) (parts_of abbreviations kids) c → Gathers c [] (gap_tag name ∷ []) d
    → Gathers a (texts (numbered s (element name attrs kids))) (parts abbreviations (element name attrs kids)) d
Gathers-element abbreviations a b c d name attrs kids s first at open' inner close =
    let kids-read : Gathers b (texts_of (children_numbered (s + 1) kids)) (parts_of abbreviations kids) c =
    subst (λ (k : ℕ). Gathers b (texts_of (children_numbered k kids)) (parts_of abbreviations kids) c) at inner in
    let all : Gathers a (texts_of (children_numbered (s + 1) kids) ++ []) (gap_tag name ∷ (parts_of abbreviations kids ++ gap_tag name ∷ [])) d =
    Gathers-append a b d [] (texts_of (children_numbered (s + 1) kids) ++ []) (gap_tag name ∷ []) (parts_of abbreviations kids ++ gap_tag name ∷ []) open'
    (Gathers-append b c d (texts_of (children_numbered (s + 1) kids)) [] (parts_of abbreviations kids) (gap_tag name ∷ []) kids-read close) in
    subst (λ (ts : List (NodeRef × List ℕ)). Gathers a ts (parts abbreviations (element name attrs kids)) d) (texts-numbered name attrs kids s)
    (subst (λ (ps : List Part). Gathers a (texts_of (children_numbered (s + 1) kids) ++ []) ps d) (sym (parts-element abbreviations name attrs kids)) all)

-- ---- children

pub Gathers-none : (abbreviations : List (List ℕ)) (a : TextsRead) (s : ℕ) → Gathers a (texts_of (children_numbered s no_nodes)) (parts_of abbreviations no_nodes) a
unfolding children_numbered events_of
Gathers-none abbreviations a s = record {
  leaves = sym (append-nil a.leaves) ∙ ap (λ l. a.leaves ++ l) (sym (leaves_after-nil a.last));
  last = sym (last_leaf-nil a.last);
  sentences = λ rest. refl;
  paragraphs = λ rest. refl;
  abbreviations = refl;
  most = refl;
}

pub Gathers-then : (abbreviations : List (List ℕ)) (a b c : TextsRead) (n : Node) (ns : Nodes) (s next : ℕ) → next ≡ s + node_count n
    → Gathers a (texts (numbered s n)) (parts abbreviations n) b → Gathers b (texts_of (children_numbered next ns)) (parts_of abbreviations ns) c
    → Gathers a (texts_of (children_numbered s (node_then n ns))) (parts_of abbreviations (node_then n ns)) c
unfolding children_numbered
Gathers-then abbreviations a b c n ns s next at one others =
    let rest : Gathers b (texts_of (children_numbered (s + node_count n) ns)) (parts_of abbreviations ns) c =
    subst (λ (k : ℕ). Gathers b (texts_of (children_numbered k ns)) (parts_of abbreviations ns) c) at others in
    subst (λ (ps : List Part). Gathers a (texts (numbered s n) ++ texts_of (children_numbered (s + node_count n) ns)) ps c) (sym (parts_of-then abbreviations n ns))
    (Gathers-append a b c (texts (numbered s n)) (texts_of (children_numbered (s + node_count n) ns)) (parts abbreviations n) (parts_of abbreviations ns) one rest)
