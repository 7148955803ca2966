-- What was found at the hits of an operator, made of what was found at its operands.
use Rattle.std.proofs.Common.{◌≡◌, refl, ap, sym, ◌∙◌, ℕ, Bool, true, ◌&&◌, arith}
use Rattle.std.specs.Prelude.{Option, Some, None}
use Rattle.std.proofs.lemmas.Bool.{le-leb}
use Rattle.ft_base.specs.declared.unit.TextUnit.{TextUnit}
use Rattle.ft_base.specs.declared.unit.TextUnit.TheVariants.{Words, Sentences, Paragraphs}
use Rattle.all_matches.specs.Ways.{Operator}
use Rattle.ft_operators.specs.declared.extent.Extent.{Extent}
use Rattle.ft_operators.specs.declared.measuring.Extents.{Extents}
use Rattle.ft_operators.specs.Standing.{Frame}
use Rattle.ft_operators.specs.steps.Forms.{both_frame, apart_frame}
use Rattle.ft_operators.specs.declared.node.Node.{Node}
use Rattle.ft_operators.specs.Extents.{extent_inside}
use Rattle.ft_operators.specs.Phrases.{PhraseState}
use Rattle.ft_operators.specs.Starts.{hits_of, starts_rise}
use Rattle.ft_operators.specs.steps.Measuring.{extents_of, extents_of_both, extents_of_apart, holds, is_held, IsLimited, IsMeasured, AreMeasured, IsTold, IsToldIn}
use Rattle.ft_operators.specs.steps.Nodes.{frame_of}
use Rattle.ft_operators.specs.steps.Rising.{IsRisen, left_of}
use Rattle.ft_operators.proofs.LeftNodes.{left_frame}
use Rattle.ft_operators.proofs.StartLemmas.{words_rise}

module _ (kind : TextUnit) (inside inside_new node node_new : Frame) (start end : ℕ) (answer : Extents) where
  pub measured_inside : node ≡ inside → node_new ≡ inside_new → IsMeasured kind inside inside_new start end answer → IsMeasured kind node node_new start end answer
  measured_inside old new m = record {
    same = new ∙ m.same ∙ sym old;
    found = m.found ∙ ap (λ f. extents_of kind f.operator) (sym old);
    grown = m.grown;
  }

module _ (kind : TextUnit) (left left_new right right_new : Frame) (start end : ℕ) (first second answer : Extents) (m : AreMeasured kind left left_new right right_new start end first second) where
  pub measured_both : answer ≡ extents_of_both first second → IsMeasured kind (both_frame left right) (both_frame left_new right_new) start end answer
  measured_both is = record {
    same = λ i. both_frame (m.same_left i) (m.same_right i);
    found = is ∙ (λ i. extents_of_both (m.found_left i) (m.found_right i));
    grown = m.grown;
  }

  pub measured_apart : answer ≡ extents_of_apart first second → IsMeasured kind (apart_frame left right) (apart_frame left_new right_new) start end answer
  measured_apart is = record {
    same = λ i. apart_frame (m.same_left i) (m.same_right i);
    found = is ∙ (λ i. extents_of_apart (m.found_left i) (m.found_right i));
    grown = m.grown;
  }

-- an extent holds for itself
pub holds_itself : (extent : Option Extent) → holds extent extent ≡ true
holds_itself None = refl
holds_itself (Some extent) = λ i. le-leb extent.includes extent.includes (omega arith) i && le-leb extent.size extent.size (omega arith) i

-- ---- what is told where the hits begin in order

module _ {P : Type 0} (state : P → PhraseState) (kind : TextUnit) (old mid new : Node P) (start middle end : ℕ) (found : Extents) (answer : Bool)
    (limited : IsLimited kind (frame_of state old) (frame_of state mid) start middle found) (risen : IsRisen kind (left_of state mid) (left_of state new) middle end answer) where
  pub risen_same : frame_of state new ≡ frame_of state old
  risen_same = sym (left_frame state new) ∙ risen.same ∙ left_frame state mid ∙ limited.same

  pub told_risen : (extent : Extent) → found.inside ≡ Some extent → answer ≡ true → IsToldIn kind (frame_of state old) (frame_of state new) start end (Some extent)
  told_risen extent is said = record {
    same = risen_same;
    held =
        let operator = ap (λ f. f.operator) (left_frame state mid ∙ limited.same) in
        let rises = ap (λ o. starts_rise kind (hits_of o)) (sym operator) ∙ risen.rises said in
        let holds_inside = ap (λ e. holds e (extent_inside kind (frame_of state old).operator)) (sym is) ∙ limited.holds_inside in
        λ i. holds_inside i && rises i;
    grown = omega (arith, limited.grown, risen.grown);
  }

  pub told_unrisen : IsToldIn kind (frame_of state old) (frame_of state new) start end None
  told_unrisen = record { same = risen_same; held = refl; grown = omega (arith, limited.grown, risen.grown) }

-- words always begin in the order of words
held_words : (extent : Option Extent) (operator : Operator) → holds extent (extent_inside Words operator) ≡ true → is_held Words extent operator ≡ true
held_words None operator h = refl
held_words (Some extent) operator h = λ i. h i && words_rise (hits_of operator) i

-- unit by unit
pub told_each : (old words_now sentences_now new : Frame) (start first second end : ℕ) (found : Extents) (sentences paragraphs : Option Extent)
    → IsLimited Words old words_now start first found → IsToldIn Sentences words_now sentences_now first second sentences → IsToldIn Paragraphs sentences_now new second end paragraphs
    → IsTold old new start end (record { extents = record { words = found.inside; sentences = sentences; paragraphs = paragraphs }; beside = found.beside })
told_each old words_now sentences_now new start first second end found sentences paragraphs w s p = record {
  same = p.same ∙ s.same ∙ w.same;
  held =
      let in_words = held_words found.inside old.operator w.holds_inside in
      let in_sentences = ap (λ f. is_held Sentences sentences f.operator) (sym w.same) ∙ s.held in
      let in_paragraphs = ap (λ f. is_held Paragraphs paragraphs f.operator) (sym (s.same ∙ w.same)) ∙ p.held in
      λ i. in_words i && (in_sentences i && in_paragraphs i);
  beside = w.holds_beside;
  grown = omega (arith, w.grown, s.grown, p.grown);
}
