-- What conditions ask for, by where they stand among those of the path.
use Rattle.std.proofs.Common.{◌≡◌, ◌+◌, ℕ, zero, suc, List, [], ◌∷◌, drop, refl, subst}
use Rattle.std.specs.List.{All}
use Rattle.std.proofs.lemmas.List.Elements.{All-nil, All-cons, All-head, All-tail}
use Rattle.ordered_tree.specs.Numbered.{Numbered}
use Rattle.path_grammar.specs.Form as form
use Rattle.path_nodes.specs.Asked.{OfEach, OfPredicates, MayAsk}
use Rattle.path_nodes.specs.Says.{Meaning}
use Rattle.path_nodes.specs.steps.Known.{AreAsked}
use Rattle.path_nodes.specs.steps.Leading.{StandFrom, in_steps, in_predicates}
use Rattle.path_nodes.proofs.AskedLemmas.{Asks, asked-predicates, asked-steps}
use Rattle.path_nodes.proofs.LeadingLemmas.{stand-itself, stand-inside}

module _ (root : Numbered) (m : Meaning) (conditions : List form.Condition) (asked : AreAsked root m conditions) where
  abbrev P : ℕ → Type 0
  P = MayAsk root m

  parts-ask : (part : List form.Condition) (n : ℕ) → StandFrom conditions n part → All (Asks P) part
  parts-ask [] n h = All-nil (Asks P)
  parts-ask (c ∷ part) n h =
      let itself = stand-itself conditions n c part h in
      All-cons (Asks P) c part (asks c n itself) (parts-ask part (n + 1) (stand-inside conditions n (n + 1) c part h refl))
    where
      asks : (c : form.Condition) (n : ℕ) → StandFrom conditions n (c ∷ []) → Asks P c
      asks (form.contains s k ps) n h = asked n s k ps h
      asks (form.or_of cs) n h = tt
      asks (form.and_of cs) n h = tt
      asks (form.not_of c) n h = tt
      asks (form.attribute name value) n h = tt
      asks (form.exists s) n h = tt

  pub of-predicates : (ps : form.Predicates) (n : ℕ) → StandFrom conditions n (in_predicates ps) → OfPredicates P ps
  of-predicates ps n h = (asked-predicates P ps).0 (parts-ask (in_predicates ps) n h)

-- what holds of each condition holds of the one of a number
pub at-number : (P : form.Condition → Type 0) (cs : List form.Condition) (n : ℕ) (c : form.Condition) (rest : List form.Condition) → drop n cs ≡ c ∷ rest → All P cs → P c
at-number P [] zero c rest is h = cc
at-number P [] (suc n) c rest is h = cc
at-number P (x ∷ cs) zero c rest is h = let same : x ≡ c = cc in subst P same (All-head P x cs h)
at-number P (x ∷ cs) (suc n) c rest is h = at-number P cs n c rest is (All-tail P x cs h)

pub are-asked : (root : Numbered) (m : Meaning) (ss : form.Steps) → OfEach (MayAsk root m) ss → AreAsked root m (in_steps ss)
are-asked root m ss h number s k ps (rest, is) = at-number (Asks (MayAsk root m)) (in_steps ss) number (form.contains s k ps) rest is ((asked-steps (MayAsk root m) ss).1 h)
