-- What an opened selection shows at a span of a document, and where it may be aimed.
use Rattle.std.specs.Prelude.{◌≡◌, ℕ, suc, Bool, true, ◌&&◌, List, [], ◌∷◌, ◌++◌, filter, flat_map, map, take}
use Rattle.std.specs.List.{All, list_all, sum_by}
use Rattle.ft_base.specs.declared.hit.Hit.{Hit}
use Rattle.ft_base.specs.declared.span.Span.{Span}
use Rattle.all_matches.specs.Chain.{kept_by}
use Rattle.all_matches.specs.Ways.{Way, clean_under, is_plain, way_includes, ways_of}
use Rattle.best_hits.specs.Best.{spans_of}
use Rattle.best_hits.specs.Least.{least}
use Rattle.ft_operators.specs.Standing.{Aims}
use Rattle.ft_operators.specs.Walk.{own_span}
use Rattle.index_meaning.specs.Documents.{Numbered}
use Rattle.word_lists.specs.Stems.{Stem}
use Rattle.plan_compiler.specs.Operators.{LookedText, hits_by_tests, looked_text}
use Rattle.plan_compiler.specs.ShownMeaning.{first_shown, shown_part, shown_spans}
use Rattle.plan_compiler.specs.declared.looks.Looks.{Looks}
use Rattle.plan_compiler.specs.declared.operator_plan.PhraseTests.{PhraseTests}
use Rattle.plan_compiler.specs.declared.shown_plan.ShownNode.{ShownNode}
use Rattle.plan_compiler.specs.declared.shown_plan.ShownPart.{ShownPart}
use Rattle.plan_runs.specs.OpenedParts.{MayHold, Part, part_of, part_says}
use Rattle.plan_runs.specs.RunMeaning.{RunMeaning}
use Rattle.plan_runs.specs.steps.AskedSpans.{AskedSpan, IsAsked, tokens_in}
use Rattle.plan_runs.specs.steps.OpenedOperators.{aims_of}
use Rattle.match_marks.specs.MarksMeaning.{best_places}
use Rattle.match_marks.specs.steps.WindowRuns.{all_aims, hits_there, least_held, phrase_may}
use Rattle.match_marks.specs.declared.shown.FirstRun.{FirstRun}
use Rattle.match_marks.specs.declared.shown.LeastRun.{LeastRun}
use Rattle.match_marks.specs.declared.shown.Shown.{Shown, fold-Shown}
use Rattle.match_marks.specs.declared.shown.Shown.TheOpen.{Shown-F, ShownRun-F}
use Rattle.match_marks.specs.declared.shown.ShownRun.{ShownRun}

-- where walks may be aimed, and what is shown there; the parts that are asked, and how large it is
pub record Showing : Type 0 where
  pub may : ℕ → Span → Bool
  pub spans : ℕ → Span → List Span
  pub parts : List Part
  pub weight : ℕ

-- a part of a choice, and the same of what is shown of it
pub record Choosing : Type 0 where
  pub own : Part
  pub may : ℕ → Span → Bool
  pub spans : ℕ → Span → List Span
  pub parts : List Part
  pub weight : ℕ

-- the ways of a walk at a span of a document
abbrev pub ways_there : Aims → ℕ → Span → List Way
ways_there aims doc span = ways_of (own_span span) (aims.operators doc span)

abbrev pub walk_may : Aims → ℕ → Span → Bool
walk_may aims doc span = aims.may doc span && is_plain (aims.operators doc span)

abbrev pub first_of : ℕ → Aims → Showing
first_of most aims = record {
  may = walk_may aims;
  spans = λ doc span. spans_of (flat_map way_includes (take most (ways_there aims doc span)));
  parts = [];
  weight = 0;
}

abbrev pub least_of : Aims → Showing
least_of aims = record {
  may = walk_may aims;
  spans = λ doc span. spans_of (least (map way_includes (filter (clean_under (kept_by [])) (ways_there aims doc span))));
  parts = [];
  weight = 0;
}

abbrev pub in_window : ℕ → List Aims → Showing
in_window size phrases = record {
  may = λ doc span. list_all (phrase_may doc span) phrases;
  spans = λ doc span. spans_of (least_held size (map (hits_there doc span) phrases));
  parts = [];
  weight = 0;
}

abbrev pub choice_of : List Choosing → Showing
choice_of parts = record {
  may = λ doc span. list_all (λ part. part.may doc span) parts;
  spans = λ doc span. first_shown (map (λ part. (part_says part.own doc span, part.spans doc span)) parts);
  parts = flat_map (λ part. part.own ∷ part.parts) parts;
  weight = suc (sum_by (λ part. part.weight) parts);
}

abbrev pub each_of : List Showing → Showing
each_of parts = record {
  may = λ doc span. list_all (λ part. part.may doc span) parts;
  spans = λ doc span. flat_map (λ part. part.spans doc span) parts;
  parts = flat_map (λ part. part.parts) parts;
  weight = suc (sum_by (λ part. part.weight) parts);
}

abbrev pub nothing_shown : Showing
nothing_shown = record { may = λ doc span. true; spans = λ doc span. []; parts = []; weight = 0 }

-- one level, where it is known of each part
abbrev pub shown_layer : Shown-F Showing Choosing → Showing
shown_layer (Shown-F.First run) = first_of run.most (aims_of run.tuples)
shown_layer (Shown-F.Or parts) = choice_of parts.items
shown_layer (Shown-F.And parts) = each_of parts.items
shown_layer Shown-F.Nothing = nothing_shown
shown_layer (Shown-F.Least run) = least_of (aims_of run.tuples)
shown_layer (Shown-F.Window run) = in_window run.size (all_aims run.phrases.items)

abbrev pub part_layer : ShownRun-F Showing Choosing → Choosing
part_layer run = record {
  own = part_of run.part;
  may = run.shown.may;
  spans = run.shown.spans;
  parts = run.shown.parts;
  weight = suc run.shown.weight;
}

unfoldable pub showing : Shown → Showing
showing = fold-Shown Showing Choosing shown_layer part_layer

abbrev pub choosing : ShownRun → Choosing
choosing run = record {
  own = part_of run.part;
  may = (showing run.shown).may;
  spans = (showing run.shown).spans;
  parts = (showing run.shown).parts;
  weight = suc (showing run.shown).weight;
}

-- it may be aimed at this span of a document, and so may a part of a choice
pub record MayShow (doc : ℕ) (span : Span) (shown : Showing) : Type 0 where
  pub walks : shown.may doc span ≡ true
  pub parts : All (MayHold doc span) shown.parts

pub record MayChoose (doc : ℕ) (span : Span) (part : Choosing) : Type 0 where
  pub own : MayHold doc span part.own
  pub walks : part.may doc span ≡ true
  pub parts : All (MayHold doc span) part.parts

-- the hits of a phrase in a text
abbrev pub tested_hits : LookedText → PhraseTests → List Hit
tested_hits text found = hits_by_tests text found.number found.variants

module _ (looks : Looks) (stems : List Stem) (version : List Numbered) where
  -- it may be aimed at each span of the version's documents, and shows there what is shown of the tokens
  pub record IsShown (run : Showing) (node : ShownNode) : Type 0 where
    pub may : (asked : AskedSpan) → IsAsked version asked → MayShow asked.doc asked.span run
    pub spans : (asked : AskedSpan) → IsAsked version asked
        → run.spans asked.doc asked.span ≡ shown_spans (looked_text looks stems (tokens_in version asked)) node

  -- the same of lists of both
  pub record AreShown (runs : List Showing) (nodes : List ShownNode) : Type 0 where
    pub may : (asked : AskedSpan) → IsAsked version asked → MayShow asked.doc asked.span (each_of runs)
    pub spans : (asked : AskedSpan) → IsAsked version asked
        → map (λ run. run.spans asked.doc asked.span) runs ≡ map (shown_spans (looked_text looks stems (tokens_in version asked))) nodes

  -- the same of a part of a choice, which holds where the tokens satisfy the compiled part, and of lists of both
  pub record IsShownPart (run : Choosing) (part : ShownPart) : Type 0 where
    pub may : (asked : AskedSpan) → IsAsked version asked → MayChoose asked.doc asked.span run
    pub shown : (asked : AskedSpan) → IsAsked version asked
        → (part_says run.own asked.doc asked.span, run.spans asked.doc asked.span) ≡ shown_part (looked_text looks stems (tokens_in version asked)) part

  pub record AreShownParts (runs : List Choosing) (parts : List ShownPart) : Type 0 where
    pub may : (asked : AskedSpan) → IsAsked version asked → MayShow asked.doc asked.span (choice_of runs)
    pub shown : (asked : AskedSpan) → IsAsked version asked
        → map (λ run. (part_says run.own asked.doc asked.span, run.spans asked.doc asked.span)) runs
        ≡ map (shown_part (looked_text looks stems (tokens_in version asked))) parts

  -- walks that may be gone through at each of them, each of which is there what the phrase is over the tokens
  pub record AreWalks (walks : List Aims) (phrases : List PhraseTests) : Type 0 where
    pub may : (asked : AskedSpan) → IsAsked version asked → list_all (phrase_may asked.doc asked.span) walks ≡ true
    pub hits : (asked : AskedSpan) → IsAsked version asked
        → map (hits_there asked.doc asked.span) walks ≡ map (tested_hits (looked_text looks stems (tokens_in version asked))) phrases

  -- walks with those of some phrases put after others, where the plan of the phrases joins nothing else
  pub record PutAfter (old new : List Aims) (joins : Bool) (phrases : List PhraseTests) : Type 0 where
    pub walks : (before : List PhraseTests) → joins ≡ true → AreWalks old before → AreWalks new (before ++ phrases)

-- of a run's selection: it shows at each span the places of the best hits in the tokens
pub record ShowsBest (run : RunMeaning) (shown : Showing) : Type 0 where
  pub may : (asked : AskedSpan) → IsAsked run.version asked → MayShow asked.doc asked.span shown
  pub spans : (asked : AskedSpan) → IsAsked run.version asked → shown.spans asked.doc asked.span ≡ best_places run.lists run.form (tokens_in run.version asked)
