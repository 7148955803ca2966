-- The best hits of a selection are those of some Match of it, by cases on the selection.
use Rattle.std.proofs.Common.{◌≡◌, refl, sym, subst, ◌∙◌, ℕ, ◌+◌, List, [], ◌∷◌, ◌++◌, inl, Bool, true, false, true≢false, ◌||◌, append-nil, append_assoc}
use Rattle.std.specs.Prelude.{fold, cond}
use Rattle.std.specs.List.{list_all, list_any}
use Rattle.std.proofs.lemmas.Bool.{and_parts}
use Rattle.ft_base.specs.declared.hit.Hit.{Hit}
use Rattle.ft_base.specs.declared.hit.Match.{Match}
use Rattle.ft_base.specs.declared.options.Options.{Options}
use Rattle.ft_base.specs.declared.token.Token.{Token}
use Rattle.ft_base.specs.Selection.{Form, Forms, words, or_of, and_of, mild_not, not_of, filtered, with_options, none, more}
use Rattle.all_matches.specs.Boolean.{empty_match, ft_and, ft_or, satisfied}
use Rattle.all_matches.specs.Meaning.{all_matches, each_form, inside, phrase_count, value_matches}
use Rattle.all_matches.specs.Variants.{Lexicon}
use Rattle.all_matches.proofs.Compositional.{satisfied-and_of, satisfied-or_of}
use Rattle.best_hits.specs.Best.{best, each_best, first_best, Gives, SomeOf}
use Rattle.best_hits.specs.Showable.{can_show, can_show_in, each_can_show_in}
use Rattle.best_hits.proofs.CleanLemmas.{form-clean, value-clean}
use Rattle.best_hits.proofs.LeastLemmas.{least-chosen}
use Rattle.best_hits.proofs.SomeLemmas.{some-and, some-left, some-right}
use Rattle.best_hits.proofs.TimesLemmas.{not-chosen, times-chosen}

-- what is there stays when others come after it
kept-or : (P : Match → Type 0) (operands : List (List Match)) (done : List Match) → SomeOf P done → SomeOf P (fold ft_or done operands)
kept-or P [] done h = h
kept-or P (next ∷ rest) done h = kept-or P rest (done ++ next) (some-left P done next h)

-- the first operand where it is satisfied, else one of the others
or-step : (hits others : List Hit) (done ms : List Match) (operands : List (List Match)) (b : Bool) → (b || list_any satisfied operands) ≡ true
    → (b ≡ true → SomeOf (Gives hits) ms) → (list_any satisfied operands ≡ true → SomeOf (Gives others) (fold ft_or (done ++ ms) operands))
    → SomeOf (Gives (cond b hits others)) (fold ft_or (done ++ ms) operands)
or-step hits others done ms operands true h one later = kept-or (Gives hits) operands (done ++ ms) (some-right (Gives hits) done ms (one refl))
or-step hits others done ms operands false h one later = later h

mutual
  unfolding all_matches best can_show_in

  pub best-form : (lexicon : Lexicon) (options : Options) (first : ℕ) (tokens : List Token) (form : Form) → can_show form ≡ true
      → satisfied (all_matches lexicon options first tokens form) ≡ true
      → SomeOf (Gives (best lexicon options first tokens form)) (all_matches lexicon options first tokens form)
  best-form lexicon options first tokens (words value) k h =
      times-chosen value.times (value_matches lexicon (inside value.options options) first value tokens) (value-clean lexicon (inside value.options options) tokens first value) h
  best-form lexicon options first tokens (or_of forms) k h =
      best-first lexicon options first tokens [] forms k (sym (satisfied-or_of (each_form lexicon options first tokens forms)) ∙ h)
  best-form lexicon options first tokens (and_of forms) k h =
      best-each lexicon options first tokens [] (empty_match ∷ []) forms k (sym (satisfied-and_of (each_form lexicon options first tokens forms)) ∙ h) (inl (record { clean = refl; same = refl }))
  best-form lexicon options first tokens (mild_not left right) k h = least-chosen (all_matches lexicon options first tokens (mild_not left right)) h
  best-form lexicon options first tokens (not_of form) k h = not-chosen (all_matches lexicon options first tokens form) (form-clean lexicon options first tokens form k) h
  best-form lexicon options first tokens (filtered form kind) k h = least-chosen (all_matches lexicon options first tokens (filtered form kind)) h
  best-form lexicon options first tokens (with_options form inner) k h = best-form lexicon (inside inner options) first tokens form k h

  best-first : (lexicon : Lexicon) (options : Options) (first : ℕ) (tokens : List Token) (done : List Match) (forms : Forms) → each_can_show_in true true forms ≡ true
      → list_any satisfied (each_form lexicon options first tokens forms) ≡ true
      → SomeOf (Gives (first_best lexicon options first tokens forms)) (fold ft_or done (each_form lexicon options first tokens forms))
  best-first lexicon options first tokens done none k h = absurd (true≢false (sym h))
  best-first lexicon options first tokens done (more form rest) k h =
      let parts = and_parts (can_show form) (each_can_show_in true true rest) k in
      let ms = all_matches lexicon options first tokens form in
      let next = first + phrase_count lexicon options form in
      or-step (best lexicon options first tokens form) (first_best lexicon options next tokens rest) done ms (each_form lexicon options next tokens rest) (satisfied ms) h
      (best-form lexicon options first tokens form parts.0) (best-first lexicon options next tokens (done ++ ms) rest parts.1)

  best-each : (lexicon : Lexicon) (options : Options) (first : ℕ) (tokens : List Token) (hits : List Hit) (done : List Match) (forms : Forms) → each_can_show_in true true forms ≡ true
      → list_all satisfied (each_form lexicon options first tokens forms) ≡ true → SomeOf (Gives hits) done
      → SomeOf (Gives (hits ++ each_best lexicon options first tokens forms)) (fold ft_and done (each_form lexicon options first tokens forms))
  best-each lexicon options first tokens hits done none k h w = subst (λ l. SomeOf (Gives l) done) (sym (append-nil hits)) w
  best-each lexicon options first tokens hits done (more form rest) k h w =
      let parts = and_parts (can_show form) (each_can_show_in true true rest) k in
      let ms = all_matches lexicon options first tokens form in
      let here = best lexicon options first tokens form in
      let next = first + phrase_count lexicon options form in
      let each = and_parts (satisfied ms) (list_all satisfied (each_form lexicon options next tokens rest)) h in
      subst (λ l. SomeOf (Gives l) (fold ft_and (ft_and done ms) (each_form lexicon options next tokens rest))) (append_assoc hits here (each_best lexicon options next tokens rest))
      (best-each lexicon options next tokens (hits ++ here) (ft_and done ms) rest parts.1 each.1 (some-and hits here done ms w (best-form lexicon options first tokens form parts.0 each.0)))
