-- The starts that were seen, one part of a document further.
use Rattle.std.proofs.Common.{ℕ, List, [], ◌∷◌, ◌++◌, refl, sym, ap, ◌∙◌, append_assoc, append-nil, subst}
use Rattle.plain_tree.specs.Document.{element, text, Nodes, no_nodes}
use Rattle.plain_tree.specs.declared.tree.Attr.{Attr}
use Rattle.tokenizer.specs.Parts.{Part, gap_tag, parts_of_text, events, events_of, parts}
use Rattle.tokenizer.specs.steps.StartsLeft.{sentences_in, paragraphs_in}
use Rattle.tokenizer.specs.declared.starts.Starts.{Starts}
use Rattle.ordered_tree.specs.steps.Gathering.{parts_of}
use Rattle.ordered_tree.specs.steps.Passing.{Passes}
use Rattle.ordered_tree.proofs.ShiftLemmas.{parts-element}

pub Passes-append : (a b c : Starts) (ps qs : List Part) → Passes a ps b → Passes b qs c → Passes a (ps ++ qs) c
Passes-append a b c ps qs one two = record {
  sentences = λ rest. ap (sentences_in a) (append_assoc ps qs rest) ∙ one.sentences (qs ++ rest) ∙ two.sentences rest;
  paragraphs = λ rest. ap (paragraphs_in a) (append_assoc ps qs rest) ∙ one.paragraphs (qs ++ rest) ∙ two.paragraphs rest;
}

module _ (abbreviations : List (List ℕ)) where
  pub Passes-none : (a : Starts) → Passes a (parts_of abbreviations no_nodes) a
  unfolding events_of
  Passes-none a = record { sentences = λ rest. refl; paragraphs = λ rest. refl }

  pub Passes-text : (a b : Starts) (bytes : List ℕ) → Passes a (parts_of_text abbreviations bytes) b → Passes a (parts abbreviations (text bytes)) b
  unfolding events
  Passes-text a b bytes one = subst (λ (ps : List Part). Passes a ps b) (sym (append-nil (parts_of_text abbreviations bytes))) one

  pub Passes-element : (a b c d : Starts) (name : List ℕ) (attrs : List Attr) (kids : Nodes)
      → Passes a (gap_tag name ∷ []) b → Passes b (parts_of abbreviations kids) c → Passes c (gap_tag name ∷ []) d → Passes a (parts abbreviations (element name attrs kids)) d
  Passes-element a b c d name attrs kids open' inner close =
      let inside = parts_of abbreviations kids in
      subst (λ (ps : List Part). Passes a ps d) (sym (parts-element abbreviations name attrs kids))
      (Passes-append a b d (gap_tag name ∷ []) (inside ++ gap_tag name ∷ []) open' (Passes-append b c d inside (gap_tag name ∷ []) inner close))
