-- Windows in words round phrases, opened over a version, show what is shown of the compiled window.
use Rattle.std.proofs.Common.{◌≡◌, refl, sym, ap, subst, ◌∙◌, ℕ, ◌<◌, Bool, true, false, true≢false, ◌&&◌, List, [], ◌∷◌, ◌++◌, map, filter, append_assoc, Option, Some, None}
use Rattle.std.specs.Prelude.{nat_lt}
use Rattle.std.specs.List.{list_all}
use Rattle.std.proofs.lemmas.Bool.{and_from, and_parts, ltb-true}
use Rattle.std.proofs.lemmas.List.{map_push}
use Rattle.std.proofs.lemmas.List.Elements.{All-nil}
use Rattle.std.proofs.lemmas.List.Folds.{list_all-append}
use Rattle.std.proofs.lemmas.Option.{cond_some, none-some}
use Rattle.ft_base.specs.declared.filter.Filter.{Filter}
use Rattle.ft_base.specs.declared.filter.Filter.TheVariants as F
use Rattle.ft_base.specs.declared.unit.TextUnit.TheVariants.{Words, Sentences, Paragraphs}
use Rattle.all_matches.specs.Chain.{kept_by}
use Rattle.all_matches.specs.Spans.{whole_text}
use Rattle.all_matches.specs.Ways.{Operator, phrase, through_filter, clean_under, way_includes, ways_of}
use Rattle.best_hits.specs.Best.{spans_of}
use Rattle.best_hits.specs.Least.{least}
use Rattle.ft_operators.specs.Standing.{Aims}
use Rattle.ft_operators.specs.Starts.{hits_of}
use Rattle.index_meaning.specs.Documents.{Numbered}
use Rattle.word_lists.specs.Stems.{Stem}
use Rattle.plan_compiler.specs.Operators.{LookedText, looked_text, operator_at}
use Rattle.plan_compiler.specs.declared.looks.Looks.{Looks}
use Rattle.plan_compiler.specs.declared.operator_plan.OperatorPlan.{OperatorPlan, Phrase, Choice', Both', MildNot', Negated', Filtered'}
use Rattle.plan_compiler.specs.declared.operator_plan.OperatorSides.{OperatorSides}
use Rattle.plan_compiler.specs.declared.operator_plan.PhraseTests.{PhraseTests}
use Rattle.plan_compiler.specs.declared.operator_plan.WaysPlan.{WaysPlan}
use Rattle.plan_compiler.specs.declared.shown_plan.ShownNode as N
use Rattle.plan_compiler.proofs.ShownViews.{shown-Least}
use Rattle.plan_kinds.specs.steps.JoinedPhrases.{joined_phrases}
use Rattle.plan_runs.specs.OpenedParts.{IsWalk, MayHold}
use Rattle.plan_runs.specs.steps.AskedSpans.{AskedSpan, IsAsked, tokens_in}
use Rattle.match_marks.specs.steps.ShownRuns.{AreWalks, IsShown, MayShow, PutAfter, Showing, showing, tested_hits}
use Rattle.match_marks.specs.steps.WindowRuns.{all_aims, have_one_length, hits_there, is_phrase, is_rising, joins_phrases, least_held, phrase_may, window_of, words_of_window}
use Rattle.match_marks.specs.declared.shown.Shown as S
use Rattle.match_marks.specs.declared.shown.WindowRun.{WindowRun}
use Rattle.match_marks.proofs.ShownRunViews.{showing-Window}
use Rattle.match_marks.proofs.TestedHits.{tested_rise}
use Rattle.match_marks.proofs.WindowWays.{window_shows}

-- ---- which plans

-- a window in so many words, one at least, round phrases that are joined
pub record IsWindow (plan : OperatorPlan) (size : ℕ) (operand : OperatorPlan) : Type 0 where
  pub some : 0 < size
  pub joins : joins_phrases operand ≡ true
  pub operator : (text : LookedText) → operator_at text plan ≡ through_filter (operator_at text operand) (F.Window size Words)

window_by : (p : _) (own : OperatorPlan) (kind : Filter) (size : ℕ) (operand : OperatorPlan) → nat_lt 0 (words_of_window kind) ≡ true → joins_phrases own ≡ true → words_of_window kind ≡ size
    → own ≡ operand → IsWindow (Filtered' p own kind) size operand
unfolding operator_at
window_by p own F.Ordered size operand some joins long is = absurd (true≢false (sym some))
window_by p own (F.Window words Words) size operand some joins long is = record {
  some = subst (λ n. 0 < n) long (ltb-true 0 words some);
  joins = ap joins_phrases (sym is) ∙ joins;
  operator = λ text i. through_filter (operator_at text (is i)) (F.Window (long i) Words);
}
window_by p own (F.Window words Sentences) size operand some joins long is = absurd (true≢false (sym some))
window_by p own (F.Window words Paragraphs) size operand some joins long is = absurd (true≢false (sym some))
window_by p own (F.Distance range unit) size operand some joins long is = absurd (true≢false (sym some))
window_by p own F.SameSentence size operand some joins long is = absurd (true≢false (sym some))
window_by p own F.SameParagraph size operand some joins long is = absurd (true≢false (sym some))
window_by p own F.DifferentSentence size operand some joins long is = absurd (true≢false (sym some))
window_by p own F.DifferentParagraph size operand some joins long is = absurd (true≢false (sym some))
window_by p own F.AtStart size operand some joins long is = absurd (true≢false (sym some))
window_by p own F.AtEnd size operand some joins long is = absurd (true≢false (sym some))
window_by p own F.EntireContent size operand some joins long is = absurd (true≢false (sym some))

pub is_window : (plan : OperatorPlan) (size : ℕ) (operand : OperatorPlan) → window_of plan ≡ Some (size, operand) → IsWindow plan size operand
is_window (Phrase found) size operand h = absurd (none-some (size, operand) h)
is_window (Choice' p left right) size operand h = absurd (none-some (size, operand) h)
is_window (Both' p left right) size operand h = absurd (none-some (size, operand) h)
is_window (MildNot' p left right) size operand h = absurd (none-some (size, operand) h)
is_window (Negated' p own) size operand h = absurd (none-some (size, operand) h)
is_window (Filtered' p own kind) size operand h =
    let parts = cond_some (nat_lt 0 (words_of_window kind) && joins_phrases own) (words_of_window kind, own) (size, operand) h in
    let both = and_parts (nat_lt 0 (words_of_window kind)) (joins_phrases own) parts.0 in
    window_by p own kind size operand both.0 both.1 (ap (λ (pair : ℕ × OperatorPlan). pair.0) parts.1) (ap (λ (pair : ℕ × OperatorPlan). pair.1) parts.1)

-- ---- opened

phrase_operator : (text : LookedText) (found : PhraseTests) → operator_at text (Phrase found) ≡ phrase (tested_hits text found)
unfolding operator_at
phrase_operator text found = refl

phrase_long : (found : PhraseTests) → joins_phrases (Phrase found) ≡ true → have_one_length found.variants ≡ true
unfolding joins_phrases
phrase_long found h = h

module _ (looks : Looks) (stems : List Stem) (version : List Numbered) where
  abbrev text_of : AskedSpan → LookedText
  text_of asked = looked_text looks stems (tokens_in version asked)

  pub no_walks : AreWalks looks stems version [] []
  no_walks = record { may = λ asked there. refl; hits = λ asked there. refl }

  pub walks_more : (walks : List Aims) (phrases : List PhraseTests) (walk : Aims) (found : PhraseTests) → joins_phrases (Phrase found) ≡ true → IsWalk looks stems version walk (Phrase found)
      → AreWalks looks stems version walks phrases → AreWalks looks stems version (walks ++ walk ∷ []) (phrases ++ found ∷ [])
  walks_more walks phrases walk found long opened all = record {
    may = λ asked there.
        let is = opened.operators asked there ∙ phrase_operator (text_of asked) found in
        let rises = ap (λ operator. is_rising (hits_of operator)) is ∙ tested_rise (text_of asked) found.number found.variants (phrase_long found long) in
        list_all-append (phrase_may asked.doc asked.span) walks (walk ∷ [])
        ∙ and_from (list_all (phrase_may asked.doc asked.span) walks) (phrase_may asked.doc asked.span walk && true) (all.may asked there)
        (and_from (phrase_may asked.doc asked.span walk) true
        (and_from (walk.may asked.doc asked.span) (is_phrase (walk.operators asked.doc asked.span) && is_rising (hits_of (walk.operators asked.doc asked.span))) (opened.may asked there)
        (and_from (is_phrase (walk.operators asked.doc asked.span)) (is_rising (hits_of (walk.operators asked.doc asked.span))) (ap is_phrase is) rises)) refl);
    hits = λ asked there.
        let is = opened.operators asked there ∙ phrase_operator (text_of asked) found in
        map_push (hits_there asked.doc asked.span) walks walk
        ∙ (λ i. all.hits asked there i ++ hits_of (is i) ∷ [])
        ∙ sym (map_push (tested_hits (text_of asked)) phrases found);
  }

  -- ---- one after the other

  put_same : (old new : List Aims) (joins same_joins : Bool) (phrases same_phrases : List PhraseTests) → joins ≡ same_joins → phrases ≡ same_phrases
      → PutAfter looks stems version old new joins phrases → PutAfter looks stems version old new same_joins same_phrases
  put_same old new joins same_joins phrases same_phrases e f put =
      subst (λ (own : Bool). PutAfter looks stems version old new own same_phrases) e (subst (PutAfter looks stems version old new joins) f put)

  pub put_walk : (old new : List Aims) (walk : Aims) (plan : OperatorPlan) (found : PhraseTests) → plan ≡ Phrase found → IsWalk looks stems version walk plan → new ≡ old ++ walk ∷ []
      → PutAfter looks stems version old new (joins_phrases plan) (found ∷ [])
  put_walk old new walk plan found is opened pushed = record {
    walks = λ before joins all.
        subst (λ (walks : List Aims). AreWalks looks stems version walks (before ++ found ∷ [])) (sym pushed)
        (walks_more old before walk found (ap joins_phrases (sym is) ∙ joins) (subst (IsWalk looks stems version walk) is opened) all);
  }

  pub put_phrase : (old new : List Aims) (plan : OperatorPlan) (found : PhraseTests) → plan ≡ Phrase found → PutAfter looks stems version old new (joins_phrases plan) (found ∷ [])
      → PutAfter looks stems version old new (joins_phrases plan) (joined_phrases plan)
  unfolding joined_phrases
  put_phrase old new plan found is put = put_same old new (joins_phrases plan) (joins_phrases plan) (found ∷ []) (joined_phrases plan) refl (sym (ap joined_phrases is)) put

  pub put_sides : (old middle new : List Aims) (left right : OperatorPlan) → PutAfter looks stems version old middle (joins_phrases left) (joined_phrases left)
      → PutAfter looks stems version middle new (joins_phrases right) (joined_phrases right)
      → PutAfter looks stems version old new (joins_phrases left && joins_phrases right) (joined_phrases left ++ joined_phrases right)
  put_sides old middle new left right first then = record {
    walks = λ before joins all.
        let parts = and_parts (joins_phrases left) (joins_phrases right) joins in
        subst (AreWalks looks stems version new) (append_assoc before (joined_phrases left) (joined_phrases right))
        (then.walks (before ++ joined_phrases left) parts.1 (first.walks before parts.0 all));
  }

  pub put_both : (old new : List Aims) (plan : OperatorPlan) (sides : OperatorSides) → joins_phrases plan ≡ (joins_phrases sides.left && joins_phrases sides.right)
      → joined_phrases plan ≡ joined_phrases sides.left ++ joined_phrases sides.right
      → PutAfter looks stems version old new (joins_phrases sides.left && joins_phrases sides.right) (joined_phrases sides.left ++ joined_phrases sides.right)
      → PutAfter looks stems version old new (joins_phrases plan) (joined_phrases plan)
  put_both old new plan sides joins phrases put =
      put_same old new (joins_phrases sides.left && joins_phrases sides.right) (joins_phrases plan) (joined_phrases sides.left ++ joined_phrases sides.right) (joined_phrases plan) (sym joins) (sym phrases) put

  pub put_other : (old : List Aims) (plan : OperatorPlan) (phrases : List PhraseTests) → joins_phrases plan ≡ false → PutAfter looks stems version old old (joins_phrases plan) phrases
  put_other old plan phrases other = record { walks = λ before joins all. absurd (true≢false (sym joins ∙ other)) }

  pub put_all : (old new : List Aims) (plan : OperatorPlan) → joins_phrases plan ≡ true → old ≡ [] → PutAfter looks stems version old new (joins_phrases plan) (joined_phrases plan)
      → AreWalks looks stems version new (joined_phrases plan)
  put_all old new plan joins none put = put.walks [] joins (subst (λ (walks : List Aims). AreWalks looks stems version walks []) (sym none) no_walks)

  pub window_opened : (run : WindowRun) (plan : WaysPlan) (size : ℕ) (operand : OperatorPlan) → IsWindow plan.operator size operand → run.size ≡ size
      → AreWalks looks stems version (all_aims run.phrases.items) (joined_phrases operand) → IsShown looks stems version (showing (S.Window run)) (N.Least plan)
  window_opened run plan size operand is sized walks = subst (λ (s : Showing). IsShown looks stems version s (N.Least plan)) (sym (showing-Window run)) (record {
    may = λ asked there. record { walks = walks.may asked there; parts = All-nil (MayHold asked.doc asked.span) };
    spans = λ asked there.
        (λ i. spans_of (least_held (sized i) (walks.hits asked there i)))
        ∙ sym (window_shows (text_of asked) (whole_text (tokens_in version asked)) size operand is.joins)
        ∙ ap (λ operator. spans_of (least (map way_includes (filter (clean_under (kept_by [])) (ways_of (whole_text (tokens_in version asked)) operator))))) (sym (is.operator (text_of asked)))
        ∙ sym (shown-Least (text_of asked) plan);
  })
