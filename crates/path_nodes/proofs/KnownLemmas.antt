-- What is known of a condition, and one truth more.
use Rattle.std.proofs.Common.{◌≡◌, ℕ, Bool, true, false, ◌&&◌, List, [], ◌∷◌, cond, Some, Result, Ok, Err, OnOk, OnErr, refl, sym, ap, ◌∙◌, subst}
use Rattle.std.specs.HashMap.{HashMap, IsUnchanged, Updates, get}
use Rattle.std.specs.Map.{lookup}
use Rattle.std.proofs.lemmas.Bool.{eqb-true}
use Rattle.ordered_tree.specs.Numbered.{Numbered, plain}
use Rattle.ft_base.specs.declared.ids.NodeRef.{NodeRef}
use Rattle.path_grammar.specs.Form.{Condition}
use Rattle.path_meaning.specs.Elements.{elements}
use Rattle.path_meaning.specs.Meaning.{is_true}
use Rattle.path_nodes.specs.steps.Known.{AreRight, IsTruth, is_same_pair}
use Rattle.path_nodes.specs.steps.Leading.{StandFrom}
use Rattle.path_nodes.specs.References.{element_of}
use Rattle.path_nodes.specs.Says.{Meaning, satisfied}
use Rattle.path_nodes.proofs.LeadingLemmas.{same-condition}
use Rattle.path_nodes.proofs.SpotLemmas.{of_number}

both : (a b : Bool) → (a && b) ≡ true → (a ≡ true) × (b ≡ true)
both true b h = (refl, h)
both false b h = cc

module _ (root : Numbered) (m : Meaning) (conditions : List Condition) (number : ℕ) (element : NodeRef) (truth : Bool) where
  -- the truth of the condition that stands there
  pub is-truth : (c : Condition) → StandFrom conditions number (c ∷ []) → truth ≡ is_true (satisfied root m) (elements (plain root)) c (element_of root element) → IsTruth root m conditions number element truth
  is-truth c stands is = λ d at. is ∙ ap (λ x. is_true (satisfied root m) (elements (plain root)) x (element_of root element)) (same-condition conditions number c d stands at)

  pub kept-right : {S T : Type 0} (truths : HashMap (ℕ × ℕ) Bool S) (more : HashMap (ℕ × ℕ) Bool T)
      → ((q : ℕ × ℕ) → get is_same_pair more q ≡ cond (is_same_pair (number, element.0) q) (Some truth) (get is_same_pair truths q))
      → AreRight root m conditions truths → IsTruth root m conditions number element truth → AreRight root m conditions more
  kept-right truths more puts before is = λ k r t found. by_place k r t found (is_same_pair (number, element.0) (k, r.0)) refl
    where
      by_place : (k : ℕ) (r : NodeRef) (t : Bool) → get is_same_pair more (k, r.0) ≡ Some t → (b : Bool) → is_same_pair (number, element.0) (k, r.0) ≡ b → IsTruth root m conditions k r t
      by_place k r t found true e =
          let two = both _ _ e in
          let here : number ≡ k = eqb-true number k two.0 in
          let node : element ≡ r = ap of_number (eqb-true element.0 r.0 two.1) in
          let kept : Some t ≡ Some truth = sym found ∙ puts (k, r.0) ∙ ap (λ b. cond b (Some truth) (get is_same_pair truths (k, r.0))) e in
          let value : truth ≡ t = cc in
          subst (λ b. IsTruth root m conditions k r b) value
          (subst (λ n. IsTruth root m conditions n r truth) here (subst (λ q. IsTruth root m conditions number q truth) node is))
      by_place k r t found false e = before k r t (sym (puts (k, r.0) ∙ ap (λ b. cond b (Some truth) (get is_same_pair truths (k, r.0))) e) ∙ found)

  -- where there is no memory for it, what was known stays
  pub kept-or-not : {S A E : Type 0} (truths more : HashMap (ℕ × ℕ) Bool S) (result : Result A E) → OnOk result (Updates is_same_pair truths more (number, element.0) (Some truth))
      → OnErr result (IsUnchanged truths more) → AreRight root m conditions truths → IsTruth root m conditions number element truth → AreRight root m conditions more
  kept-or-not truths more (Ok done) puts stays before is = kept-right truths more puts.0 before is
  kept-or-not truths more (Err failed) puts stays before is = λ k r t found. before k r t (ap (lookup (is_same_pair (k, r.0))) (sym stays) ∙ found)
