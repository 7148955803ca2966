-- Opened selections show at the spans of documents what is shown of their tokens.
use Rattle.std.proofs.Common.{◌≡◌, refl, sym, ap, subst, ◌∙◌, ℕ, ◌+◌, ◌<◌, Bool, true, ◌&&◌, List, [], ◌∷◌, ◌++◌, map, filter, flat_map, take, get_or, length, Global}
use Rattle.std.specs.declared.vec.Vec.{Vec}
use Rattle.std.specs.List.{All, list_all}
use Rattle.std.proofs.lemmas.Bool.{and_from}
use Rattle.std.proofs.lemmas.Grind.{flat_map-append}
use Rattle.std.proofs.lemmas.List.{map_more, map_push}
use Rattle.std.proofs.lemmas.List.Elements.{All-append, All-cons, All-nil}
use Rattle.std.proofs.lemmas.List.Folds.{list_all-append}
use Rattle.ft_base.specs.declared.span.Span.{Span}
use Rattle.all_matches.specs.Chain.{kept_by}
use Rattle.all_matches.specs.Ways.{clean_under, is_plain, way_includes, ways_of}
use Rattle.best_hits.specs.Best.{spans_of}
use Rattle.best_hits.specs.Least.{least}
use Rattle.index_meaning.specs.Documents.{Numbered}
use Rattle.word_lists.specs.Stems.{Stem}
use Rattle.plan_compiler.specs.Operators.{LookedText, looked_text}
use Rattle.plan_compiler.specs.ShownMeaning.{first_shown, shown_part, shown_spans}
use Rattle.plan_compiler.specs.declared.looks.Looks.{Looks}
use Rattle.plan_compiler.specs.declared.operator_plan.WaysPlan.{WaysPlan}
use Rattle.plan_compiler.specs.declared.shown_plan.FirstWays.{FirstWays}
use Rattle.plan_compiler.specs.declared.shown_plan.ShownNode as N
use Rattle.plan_compiler.specs.declared.shown_plan.ShownNode.{ShownNode}
use Rattle.plan_compiler.specs.declared.shown_plan.ShownPart.{ShownPart}
use Rattle.plan_compiler.proofs.ShownViews.{shown-And, shown-First, shown-Least, shown-Nothing, shown-Or}
use Rattle.plan_runs.specs.OpenedParts.{IsPart, IsWalk, MayHold, part_of, part_says}
use Rattle.plan_runs.specs.steps.AskedSpans.{AskedSpan, IsAsked, tokens_in}
use Rattle.plan_runs.specs.steps.OpenedOperators.{aims_of}
use Rattle.match_marks.specs.steps.ShownRuns.{AreShown, AreShownParts, Choosing, IsShown, IsShownPart, MayChoose, MayShow, Showing, choice_of, choosing, each_of, showing}
use Rattle.match_marks.specs.declared.shown.FirstRun.{FirstRun}
use Rattle.match_marks.specs.declared.shown.LeastRun.{LeastRun}
use Rattle.match_marks.specs.declared.shown.Shown.{Shown}
use Rattle.match_marks.specs.declared.shown.Shown as S
use Rattle.match_marks.specs.declared.shown.ShownRun.{ShownRun}
use Rattle.match_marks.proofs.ShownRunViews.{showing-And, showing-First, showing-Least, showing-Nothing, showing-Or}

each_joined : (runs : List Showing) (doc : ℕ) (span : Span) → flat_map (λ run. run.spans doc span) runs ≡ flat_map (λ spans. spans) (map (λ run. run.spans doc span) runs)
each_joined [] doc span = refl
each_joined (run ∷ rest) doc span = ap (λ spans. run.spans doc span ++ spans) (each_joined rest doc span)

-- one more may be aimed too
module _ (doc : ℕ) (span : Span) where
  abbrev each_may : Showing → Bool
  each_may run = run.may doc span

  abbrev choice_may : Choosing → Bool
  choice_may run = run.may doc span

each_and : (runs : List Showing) (run : Showing) (doc : ℕ) (span : Span) → MayShow doc span (each_of runs) → MayShow doc span run → MayShow doc span (each_of (runs ++ run ∷ []))
each_and runs run doc span all one = record {
  walks = list_all-append (each_may doc span) runs (run ∷ []) ∙ and_from _ _ all.walks (and_from _ _ one.walks refl);
  parts = subst (All (MayHold doc span)) (sym (flat_map-append (λ (s : Showing). s.parts) runs (run ∷ [])))
      (All-append (MayHold doc span) (flat_map (λ (s : Showing). s.parts) runs) (run.parts ++ []) all.parts (All-append (MayHold doc span) run.parts [] one.parts (All-nil (MayHold doc span))));
}

choice_and : (runs : List Choosing) (run : Choosing) (doc : ℕ) (span : Span) → MayShow doc span (choice_of runs) → MayChoose doc span run → MayShow doc span (choice_of (runs ++ run ∷ []))
choice_and runs run doc span all one = record {
  walks = list_all-append (choice_may doc span) runs (run ∷ []) ∙ and_from _ _ all.walks (and_from _ _ one.walks refl);
  parts = subst (All (MayHold doc span)) (sym (flat_map-append (λ (c : Choosing). c.own ∷ c.parts) runs (run ∷ [])))
      (All-append (MayHold doc span) (flat_map (λ (c : Choosing). c.own ∷ c.parts) runs) ((run.own ∷ run.parts) ++ []) all.parts
      (All-append (MayHold doc span) (run.own ∷ run.parts) [] (All-cons (MayHold doc span) run.own run.parts one.own one.parts) (All-nil (MayHold doc span))));
}

module _ (looks : Looks) (stems : List Stem) (version : List Numbered) where
  abbrev text_of : AskedSpan → LookedText
  text_of asked = looked_text looks stems (tokens_in version asked)

  -- ---- each kind

  pub first_opened : (run : FirstRun) (first : FirstWays) → run.most ≡ first.most → IsWalk looks stems version (aims_of run.tuples) first.ways.operator
      → IsShown looks stems version (showing (S.First run)) (N.First first)
  first_opened run first most walk = subst (λ (s : Showing). IsShown looks stems version s (N.First first)) (sym (showing-First run)) (record {
    may = λ asked there. record { walks = and_from _ _ (walk.may asked there) (ap is_plain (walk.operators asked there) ∙ first.ways.plain (text_of asked)); parts = All-nil (MayHold asked.doc asked.span) };
    spans = λ asked there.
        (λ i. spans_of (flat_map way_includes (take (most i) (ways_of (walk.item asked there i) (walk.operators asked there i)))))
        ∙ sym (shown-First (text_of asked) first);
  })

  pub least_opened : (run : LeastRun) (plan : WaysPlan) → IsWalk looks stems version (aims_of run.tuples) plan.operator → IsShown looks stems version (showing (S.Least run)) (N.Least plan)
  least_opened run plan walk = subst (λ (s : Showing). IsShown looks stems version s (N.Least plan)) (sym (showing-Least run)) (record {
    may = λ asked there. record { walks = and_from _ _ (walk.may asked there) (ap is_plain (walk.operators asked there) ∙ plan.plain (text_of asked)); parts = All-nil (MayHold asked.doc asked.span) };
    spans = λ asked there.
        (λ i. spans_of (least (map way_includes (filter (clean_under (kept_by [])) (ways_of (walk.item asked there i) (walk.operators asked there i))))))
        ∙ sym (shown-Least (text_of asked) plan);
  })

  pub nothing_opened : (node : ShownNode) → node ≡ N.Nothing → IsShown looks stems version (showing S.Nothing) node
  nothing_opened node is = subst (λ (s : Showing). IsShown looks stems version s node) (sym showing-Nothing) (record {
    may = λ asked there. record { walks = refl; parts = All-nil (MayHold asked.doc asked.span) };
    spans = λ asked there. sym (ap (shown_spans (text_of asked)) is ∙ shown-Nothing (text_of asked));
  })

  pub choice_opened : (runs : Vec ShownRun Global) (parts : List ShownPart) (node : ShownNode) → node ≡ N.Or parts → AreShownParts looks stems version (map choosing runs.items) parts
      → IsShown looks stems version (showing (S.Or runs)) node
  choice_opened runs parts node is opened = subst (λ (s : Showing). IsShown looks stems version s node) (sym (showing-Or runs)) (record {
    may = opened.may;
    spans = λ asked there. ap first_shown (opened.shown asked there) ∙ sym (ap (shown_spans (text_of asked)) is ∙ shown-Or (text_of asked) parts);
  })

  pub each_opened : (runs : Vec Shown Global) (nodes : List ShownNode) (node : ShownNode) → node ≡ N.And nodes → AreShown looks stems version (map showing runs.items) nodes
      → IsShown looks stems version (showing (S.And runs)) node
  each_opened runs nodes node is opened = subst (λ (s : Showing). IsShown looks stems version s node) (sym (showing-And runs)) (record {
    may = opened.may;
    spans = λ asked there.
        each_joined (map showing runs.items) asked.doc asked.span
        ∙ ap (flat_map (λ spans. spans)) (opened.spans asked there)
        ∙ sym (ap (shown_spans (text_of asked)) is ∙ shown-And (text_of asked) nodes);
  })

  pub part_opened : (run : ShownRun) (plan : ShownPart) → IsPart looks stems version (part_of run.part) plan.node → IsShown looks stems version (showing run.shown) plan.shown
      → IsShownPart looks stems version (choosing run) plan
  part_opened run plan part shown = record {
    may = λ asked there. record {
      own = record { sound = part.sound; asked = subst (λ v. IsAsked v asked) (sym part.own) there };
      walks = (shown.may asked there).walks;
      parts = (shown.may asked there).parts;
    };
    shown = λ asked there i. (part.says asked there i, shown.spans asked there i);
  }

  -- ---- one more

  pub shown_more : (before after : List Shown) (run : Shown) (nodes : List ShownNode) (i : ℕ) (node : ShownNode) → i < length nodes → node ≡ get_or nodes i node → after ≡ before ++ run ∷ []
      → IsShown looks stems version (showing run) node → AreShown looks stems version (map showing before) (take i nodes) → AreShown looks stems version (map showing after) (take (i + 1) nodes)
  shown_more before after run nodes i node h is pushed opened all =
      let views : map showing after ≡ map showing before ++ showing run ∷ [] = ap (map showing) pushed ∙ map_push showing before run in
      record {
        may = λ asked there. subst (λ list. MayShow asked.doc asked.span (each_of list)) (sym views) (each_and (map showing before) (showing run) asked.doc asked.span (all.may asked there) (opened.may asked there));
        spans = λ asked there.
            let spans : Showing → List Span = λ s. s.spans asked.doc asked.span in
            ap (map spans) views
            ∙ map_push spans (map showing before) (showing run)
            ∙ (λ j. all.spans asked there j ++ opened.spans asked there j ∷ [])
            ∙ ap (λ (n : ShownNode). map (shown_spans (text_of asked)) (take i nodes) ++ shown_spans (text_of asked) n ∷ []) is
            ∙ sym (map_more (shown_spans (text_of asked)) nodes i node h);
      }

  pub parts_more : (before after : List ShownRun) (run : ShownRun) (parts : List ShownPart) (i : ℕ) (part : ShownPart) → i < length parts → part ≡ get_or parts i part → after ≡ before ++ run ∷ []
      → IsShownPart looks stems version (choosing run) part → AreShownParts looks stems version (map choosing before) (take i parts) → AreShownParts looks stems version (map choosing after) (take (i + 1) parts)
  parts_more before after run parts i part h is pushed opened all =
      let views : map choosing after ≡ map choosing before ++ choosing run ∷ [] = ap (map choosing) pushed ∙ map_push choosing before run in
      record {
        may = λ asked there. subst (λ list. MayShow asked.doc asked.span (choice_of list)) (sym views) (choice_and (map choosing before) (choosing run) asked.doc asked.span (all.may asked there) (opened.may asked there));
        shown = λ asked there.
            let shown : Choosing → Bool × List Span = λ s. (part_says s.own asked.doc asked.span, s.spans asked.doc asked.span) in
            ap (map shown) views
            ∙ map_push shown (map choosing before) (choosing run)
            ∙ (λ j. all.shown asked there j ++ opened.shown asked there j ∷ [])
            ∙ ap (λ (p : ShownPart). map (shown_part (text_of asked)) (take i parts) ++ shown_part (text_of asked) p ∷ []) is
            ∙ sym (map_more (shown_part (text_of asked)) parts i part h);
      }
