-- Marks are over the version of each of some documents, and the places that are found among the tokens of an element are those of its best hits.
use Rattle.std.proofs.Common.{◌≡◌, ◌∙◌, sym, ap, ℕ, zero, suc, List, [], ◌∷◌, arith}
use Rattle.std.specs.Prelude.{Option, unwrap_or}
use Rattle.document_store.specs.Indexed.{FollowsEach}
use Rattle.ft_base.specs.declared.span.Span.{Span}
use Rattle.ft_base.specs.declared.token.Token.{Token}
use Rattle.index_updates.specs.Follows.{Follows}
use Rattle.match_marks.specs.MarksMeaning.{marks as marked}
use Rattle.ordered_tree.specs.Numbered.{Numbered}
use Rattle.plan_runs.specs.RunMeaning.{RunMeaning}
use Rattle.session_state.specs.MarkedWords.{best_spans}
use Rattle.session_state.specs.SelectionTests.{AreOver, AreOverEach}

pub marks-follow : (abbreviations : List (List ℕ)) (marks : RunMeaning) (doc : ℕ) (root : Numbered) → AreOver abbreviations (marks ∷ []) (doc, root)
    → Follows abbreviations marks.version doc root
marks-follow abbreviations marks doc root over = over zero marks (omega arith)

pub best-found : (marks : RunMeaning) (told own : List Token) (found : Option (List Span)) → told ≡ own → found ≡ marked marks.lists marks.form told
    → best_spans marks.lists marks.form own ≡ unwrap_or found []
best-found marks told own found same is = ap (best_spans marks.lists marks.form) (sym same) ∙ ap (λ (o : Option (List Span)). unwrap_or o []) (sym is)

-- marks over a version that follows each of some trees are over each of them
pub marks-over-each : (abbreviations : List (List ℕ)) (marks : RunMeaning) (trees : List (ℕ × Numbered)) → FollowsEach abbreviations marks.version trees
    → AreOverEach abbreviations (marks ∷ []) trees
marks-over-each abbreviations marks [] follow = tt
marks-over-each abbreviations marks (t ∷ trees) follow = (one, marks-over-each abbreviations marks trees follow.1)
  where
    one : AreOver abbreviations (marks ∷ []) t
    one zero d less = follow.0
    one (suc k) d less = absurd (omega (arith, less))
