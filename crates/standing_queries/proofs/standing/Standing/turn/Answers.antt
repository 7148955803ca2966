-- The answers that stay have no line that went or came.
use Rattle.std.proofs.Common.{◌≡◌, ◌∷◌, [], ◌++◌, ap, ap₂, ◌∙◌, subst}
use Rattle.std.specs.Prelude.{nat_eq}
use Rattle.std.specs.List.{IsDistinct}
use Rattle.std.specs.Map.{keys_of}
use Rattle.standing_queries.specs.Answers.{all_lines, answers_of}
use Rattle.standing_queries.specs.Changes.{behind, not_among}
use Rattle.standing_queries.specs.steps.Staying.{changed_lines, is_in}
use Rattle.standing_queries.proofs.AnswerLemmas.{all-missing, stay-kept, stay-now}
use Rattle.standing_queries.proofs.standing.Standing.turn.Goals as goal

pub returns-clause-changes : goal.returns-clause-changes
returns-clause-changes c =
    let kept = c.args.self.now in
    let turns = c.args.now.now in
    let after = answers_of kept turns in
    let test = is_in c.in_ok-staying.staying in
    let went = all-missing test (all_lines after) kept (stay-kept kept turns test c.in_ok-staying.ensures (subst (λ es. IsDistinct nat_eq (keys_of es)) c.self.view_is c.len-count.ensures.unique)) in
    let came = all-missing test (all_lines kept) after (stay-now kept turns test c.in_ok-staying.ensures c.requires.stamps) in
    let first : c.push_missing.new.out ≡ behind (45 ∷ 32 ∷ []) (not_among (all_lines after) (all_lines kept)) =
    c.in_ok-push_missing.ensures
    ∙ ap (λ l. l ++ behind (45 ∷ 32 ∷ []) (not_among (all_lines c.in_ok-standing.standing) (changed_lines test kept))) c.new-lines.ensures
    ∙ ap (λ a. behind (45 ∷ 32 ∷ []) (not_among (all_lines a) (changed_lines test kept))) c.in_ok-standing.ensures
    ∙ ap (behind (45 ∷ 32 ∷ [])) went in
    c.in_ok-push_missing-2.ensures
    ∙ ap (λ a. c.push_missing.new.out ++ behind (43 ∷ 32 ∷ []) (not_among (all_lines kept) (changed_lines test a))) c.in_ok-standing.ensures
    ∙ ap₂ (λ l m. l ++ behind (43 ∷ 32 ∷ []) m) first came
