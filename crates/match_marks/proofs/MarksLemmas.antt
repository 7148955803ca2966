-- What is shown are the best hits, where the tokens satisfy the selection.
use Rattle.std.proofs.Common.{◌≡◌, refl, sym, ap, ◌∙◌, ℕ, ◌+◌, ◌≤◌, Bool, true, false, cond, List, [], ◌++◌}
use Rattle.std.specs.Prelude.{Option, Some, None}
use Rattle.ft_base.specs.declared.span.Span.{Span}
use Rattle.ft_base.specs.declared.token.Token.{Token}
use Rattle.ft_base.specs.Selection.{Form, no_options}
use Rattle.all_matches.specs.Meaning.{sat}
use Rattle.best_hits.specs.Best.{best, spans_of}
use Rattle.index_meaning.specs.Documents.{Numbered, document_at, has_document, token_count}
use Rattle.index_phrases.specs.Tokens.{span_tokens}
use Rattle.plan_compiler.specs.Lexicon.{lexicon}
use Rattle.plan_compiler.specs.NamedLists.{NamedLists}
use Rattle.plan_compiler.specs.Operators.{looked_text}
use Rattle.plan_compiler.specs.PlanMeaning.{plan_form, plan_lists}
use Rattle.plan_compiler.specs.ShownMeaning.{shown_spans}
use Rattle.plan_compiler.specs.declared.plan.Plan.{Plan}
use Rattle.plan_compiler.specs.declared.shown_plan.ShownPlan.{ShownPlan}
use Rattle.plan_runs.specs.RunMeaning.{RunMeaning, run_of}
use Rattle.plan_runs.specs.steps.AskedSpans.{IsAsked, tokens_in}
use Rattle.match_marks.specs.MarksMeaning.{best_places, marks}
use Rattle.match_marks.specs.steps.ShownRuns.{IsShown, MayShow, Showing, ShowsBest}

pub shows_best : (plan : Plan) (version : List Numbered) (compiled : ShownPlan) (run : Showing)
    → ((tokens : List Token) → shown_spans (looked_text compiled.looks (plan_lists plan).stems tokens) compiled.root ≡ spans_of (best (lexicon (plan_lists plan)) no_options 1 tokens (plan_form plan)))
    → IsShown compiled.looks (plan_lists plan).stems version run compiled.root → ShowsBest (run_of (plan_form plan) (plan_lists plan) version) run
shows_best plan version compiled run law shown = record { may = shown.may; spans = λ asked there. shown.spans asked there ∙ law (tokens_in version asked) }

module _ (run : RunMeaning) (doc : ℕ) (span : Span) (there : has_document doc run.version ≡ true)
    (inside : (1 ≤ span.from) × (span.from ≤ span.to) × (span.to ≤ token_count (document_at doc run.version) + 1)) where
  asked : IsAsked run.version (record { doc = doc; span = span })
  asked = record { there = there; inside = record { first = inside.0; order = inside.1; last = inside.2 } }

  pub shown_may : (shown : Showing) → ShowsBest run shown → MayShow doc span shown
  shown_may shown shows = shows.may (record { doc = doc; span = span }) asked

  none_marked : (satisfied : Bool) (places : List Span) → satisfied ≡ false → None ≡ cond satisfied (Some places) None
  none_marked satisfied places h = ap (λ b. cond b (Some places) None) (sym h)

  some_marked : (satisfied : Bool) (places found : List Span) → satisfied ≡ true → found ≡ places → Some found ≡ cond satisfied (Some places) None
  some_marked satisfied places found h same = ap Some same ∙ ap (λ b. cond b (Some places) None) (sym h)

  pub marked_none : sat (lexicon run.lists) run.form (span_tokens span (document_at doc run.version)) ≡ false → None ≡ marks run.lists run.form (span_tokens span (document_at doc run.version))
  marked_none fails =
      none_marked (sat (lexicon run.lists) run.form (span_tokens span (document_at doc run.version))) (best_places run.lists run.form (span_tokens span (document_at doc run.version))) fails

  pub marked_some : (shown : Showing) (found : List Span) → ShowsBest run shown → sat (lexicon run.lists) run.form (span_tokens span (document_at doc run.version)) ≡ true → found ≡ shown.spans doc span
      → Some found ≡ marks run.lists run.form (span_tokens span (document_at doc run.version))
  marked_some shown found shows holds put =
      some_marked (sat (lexicon run.lists) run.form (span_tokens span (document_at doc run.version))) (best_places run.lists run.form (span_tokens span (document_at doc run.version))) found holds
      (put ∙ shows.spans (record { doc = doc; span = span }) asked)
