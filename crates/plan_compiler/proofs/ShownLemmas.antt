-- What is compiled of each kind of selection shows its best hits.
use Rattle.std.proofs.Common.{◌≡◌, refl, ap, sym, ◌∙◌, ℕ, ◌+◌, ◌<◌, suc, Bool, true, false, List, [], ◌∷◌, ◌++◌, length, get_or, map, flat_map, take, Box, Global, add-zero}
use Rattle.std.specs.Prelude.{cond, filter}
use Rattle.std.proofs.lemmas.List.{map-append}
use Rattle.ft_base.specs.Selection.{Form, words, or_of, and_of, mild_not, not_of, filtered, with_options}
use Rattle.ft_base.specs.declared.hit.Hit.{Hit}
use Rattle.ft_base.specs.declared.options.Options.{Options}
use Rattle.ft_base.specs.declared.span.Span.{Span}
use Rattle.ft_base.specs.declared.token.Token.{Token}
use Rattle.ft_base.specs.declared.words.Words.{Words}
use Rattle.ft_syntax.specs.View.{form, forms_of}
use Rattle.ft_syntax.specs.declared.selection.Selection.{Selection}
use Rattle.ft_syntax.specs.declared.selection.Selection as S
use Rattle.ft_syntax.proofs.Views.{form-And, form-Or}
use Rattle.all_matches.specs.Allowed.{has_plain_nots, may_be_filtered}
use Rattle.all_matches.specs.Boolean.{satisfied}
use Rattle.all_matches.specs.Chain.{kept_by}
use Rattle.all_matches.specs.Meaning.{all_matches, inside, phrase_count, sat_under}
use Rattle.all_matches.specs.Operators.{operator_of}
use Rattle.all_matches.specs.Spans.{whole_text}
use Rattle.all_matches.specs.Variants.{Lexicon}
use Rattle.all_matches.specs.Ways.{clean_under, way_includes, ways_of}
use Rattle.all_matches.proofs.Numbering.{satisfied_by-any_number}
use Rattle.best_hits.specs.Best.{best, each_best, first_best, spans_of}
use Rattle.best_hits.specs.Least.{least}
use Rattle.best_hits.proofs.NumberedBest.{best-numbered}
use Rattle.best_hits.proofs.WayIncludes.{least-by_ways, words-first}
use Rattle.counted_shapes.specs.Shapes.{least_times}
use Rattle.plan_compiler.specs.CompiledSelection.{Compiles}
use Rattle.plan_compiler.specs.CompiledOperators.{CompilesTo, is_positional}
use Rattle.plan_compiler.specs.CompiledShown.{best_part, best_spans, ShowAll, ShowParts, Shows, ShowsPart}
use Rattle.plan_compiler.specs.Lexicon.{lexicon}
use Rattle.plan_compiler.specs.NamedLists.{NamedLists}
use Rattle.plan_compiler.specs.Operators.{looked_text}
use Rattle.plan_compiler.specs.Served.{are_served, is_served}
use Rattle.plan_compiler.specs.ShownMeaning.{first_shown, shown_part, shown_spans}
use Rattle.plan_compiler.specs.declared.looks.Looks.{Looks}
use Rattle.plan_compiler.specs.declared.operator_plan.WaysPlan.{WaysPlan}
use Rattle.plan_compiler.specs.declared.shown_plan.FirstWays.{FirstWays}
use Rattle.plan_compiler.specs.declared.shown_plan.ShownNode.{ShownNode}
use Rattle.plan_compiler.specs.declared.shown_plan.ShownNode as N
use Rattle.plan_compiler.specs.declared.shown_plan.ShownPart.{ShownPart}
use Rattle.plan_compiler.proofs.ServedLemmas.{form-Not, form-With}
use Rattle.plan_compiler.proofs.SelectionMeaning.{say_more}
use Rattle.plan_compiler.proofs.ShownViews.{shown-And, shown-First, shown-Least, shown-Nothing, shown-Or}

-- ---- best hits of some selections, whatever the numbers of their phrases

module _ (lexicon : Lexicon) (options : Options) (tokens : List Token) where
  best-anywhere : (first second : ℕ) (selection : Form) → spans_of (best lexicon options first tokens selection) ≡ spans_of (best lexicon options second tokens selection)
  best-anywhere first second selection =
      ap (λ n. spans_of (best lexicon options n tokens selection)) (sym (add-zero first))
      ∙ best-numbered first lexicon options 0 tokens selection
      ∙ sym (ap (λ n. spans_of (best lexicon options n tokens selection)) (sym (add-zero second)) ∙ best-numbered second lexicon options 0 tokens selection)

  satisfied-anywhere : (first : ℕ) (selection : Form) → satisfied (all_matches lexicon options first tokens selection) ≡ sat_under lexicon options selection tokens
  unfolding sat_under
  satisfied-anywhere first selection =
      ap (λ n. satisfied (all_matches lexicon options n tokens selection)) (sym (add-zero first))
      ∙ satisfied_by-any_number lexicon options first 0 tokens selection
      ∙ sym (satisfied_by-any_number lexicon options 1 0 tokens selection)

  first_one : (b c : Bool) (xs ys : List Span) (us vs : List Hit) → b ≡ c → xs ≡ spans_of us → ys ≡ spans_of vs → cond b xs ys ≡ spans_of (cond c us vs)
  first_one true true xs ys us vs h k l = k
  first_one true false xs ys us vs h k l = cc
  first_one false true xs ys us vs h k l = cc
  first_one false false xs ys us vs h k l = l

  first-shown : (first : ℕ) (parts : List Selection) → first_shown (map (λ part. best_part lexicon options tokens (form part)) parts) ≡ spans_of (first_best lexicon options first tokens (forms_of (map form parts)))
  unfolding best
  first-shown first [] = refl
  first-shown first (part ∷ rest) =
      let next = first + phrase_count lexicon options (form part) in
      first_one (sat_under lexicon options (form part) tokens) (satisfied (all_matches lexicon options first tokens (form part)))
      (best_spans lexicon options tokens (form part)) (first_shown (map (λ p. best_part lexicon options tokens (form p)) rest))
      (best lexicon options first tokens (form part)) (first_best lexicon options next tokens (forms_of (map form rest)))
      (sym (satisfied-anywhere first (form part))) (best-anywhere 1 first (form part)) (first-shown next rest)

  each-shown : (first : ℕ) (parts : List Selection) → flat_map (λ spans. spans) (map (λ part. best_spans lexicon options tokens (form part)) parts) ≡ spans_of (each_best lexicon options first tokens (forms_of (map form parts)))
  unfolding best
  each-shown first [] = refl
  each-shown first (part ∷ rest) =
      let next = first + phrase_count lexicon options (form part) in
      (λ i. best-anywhere 1 first (form part) i ++ each-shown next rest i)
      ∙ sym (map-append (λ hit. record { from = hit.from; to = suc hit.to }) (best lexicon options first tokens (form part)) (each_best lexicon options next tokens (forms_of (map form rest))))

-- the best hits of what has a filter or `not in`
best-positional : (lexicon : Lexicon) (options : Options) (tokens : List Token) (selection : Form) → is_positional selection ≡ true → may_be_filtered selection ≡ true
    → spans_of (least (map way_includes (filter (clean_under (kept_by [])) (ways_of (whole_text tokens) (operator_of lexicon options 1 tokens selection))))) ≡ best_spans lexicon options tokens selection
unfolding best
best-positional lexicon options tokens (words value) h k = cc
best-positional lexicon options tokens (or_of forms) h k = cc
best-positional lexicon options tokens (and_of forms) h k = cc
best-positional lexicon options tokens (mild_not left right) h k = sym (least-by_ways lexicon options 1 tokens (mild_not left right) k)
best-positional lexicon options tokens (not_of form) h k = cc
best-positional lexicon options tokens (filtered form kind) h k = sym (least-by_ways lexicon options 1 tokens (filtered form kind) k)
best-positional lexicon options tokens (with_options form inner) h k = cc

-- ---- what is compiled

pub words_nots : (value : Words) → has_plain_nots (words value) ≡ true
unfolding has_plain_nots
words_nots value = refl

module _ (looks : Looks) (lists : NamedLists) (options : Options) where
  pub words_shown : (value : Words) (next : ℕ) (first : FirstWays) → CompilesTo lists options 1 next first.ways.operator (words value) → first.most ≡ least_times value.times
      → are_served looks options ≡ true → are_served looks value.options ≡ true → Shows looks lists options (N.First first) (words value)
  unfolding best operator_of is_served
  words_shown value next first compiled most outer inner = record {
    shown = λ tokens.
        let text = looked_text looks lists.stems tokens in
        shown-First text first
        ∙ (λ i. spans_of (flat_map way_includes (take (most i) (ways_of (whole_text tokens) (compiled.same looks tokens outer inner i)))))
        ∙ ap spans_of (words-first (lexicon lists) (inside value.options options) 1 value tokens (least_times value.times));
  }

  pub ways_shown : (selection : Form) (next : ℕ) (plan : WaysPlan) → CompilesTo lists options 1 next plan.operator selection → is_positional selection ≡ true → may_be_filtered selection ≡ true
      → are_served looks options ≡ true → is_served looks selection ≡ true → Shows looks lists options (N.Least plan) selection
  ways_shown selection next plan compiled positional allowed outer inner = record {
    shown = λ tokens.
        shown-Least (looked_text looks lists.stems tokens) plan
        ∙ ap (λ operator. spans_of (least (map way_includes (filter (clean_under (kept_by [])) (ways_of (whole_text tokens) operator))))) (compiled.same looks tokens outer inner)
        ∙ best-positional (lexicon lists) options tokens selection positional allowed;
  }

  module _ (selection : Selection) where
    pub or_shown : (parts : List Selection) → selection ≡ S.Or parts → (shown_parts : List ShownPart) → ShowParts looks lists options shown_parts parts → Shows looks lists options (N.Or shown_parts) (form selection)
    unfolding best
    or_shown parts e shown_parts all = record {
      shown = λ tokens.
          shown-Or (looked_text looks lists.stems tokens) shown_parts
          ∙ ap first_shown (all.shown tokens)
          ∙ first-shown (lexicon lists) options tokens 1 parts
          ∙ ap (best_spans (lexicon lists) options tokens) (sym (ap form e ∙ form-Or parts));
    }

    pub and_shown : (parts : List Selection) → selection ≡ S.And parts → (nodes : List ShownNode) → ShowAll looks lists options nodes parts → Shows looks lists options (N.And nodes) (form selection)
    unfolding best
    and_shown parts e nodes all = record {
      shown = λ tokens.
          shown-And (looked_text looks lists.stems tokens) nodes
          ∙ ap (flat_map (λ spans. spans)) (all.shown tokens)
          ∙ each-shown (lexicon lists) options tokens 1 parts
          ∙ ap (best_spans (lexicon lists) options tokens) (sym (ap form e ∙ form-And parts));
    }

    pub nothing_shown : (operand : Box Selection Global) → selection ≡ S.Not operand → Shows looks lists options N.Nothing (form selection)
    unfolding best
    nothing_shown operand e = record {
      shown = λ tokens.
          shown-Nothing (looked_text looks lists.stems tokens)
          ∙ ap (best_spans (lexicon lists) options tokens) (sym (ap form e ∙ form-Not operand));
    }

    pub with_shown : (operand : Box Selection Global) (inner : Options) → selection ≡ S.With operand inner → (node : ShownNode) → Shows looks lists (inside inner options) node (form operand.value)
        → Shows looks lists options node (form selection)
    unfolding best
    with_shown operand inner e node part = record {
      shown = λ tokens. part.shown tokens ∙ ap (best_spans (lexicon lists) options tokens) (sym (ap form e ∙ form-With operand inner));
    }

  -- a part of a choice
  pub part_shown : (selection : Form) (part : ShownPart) → Compiles looks lists options part.node selection → Shows looks lists options part.shown selection → ShowsPart looks lists options part selection
  part_shown selection part compiled shows = record {
    shown = λ tokens i. (compiled.says tokens i, shows.shown tokens i);
  }

  -- one operand more
  pub nodes_more : (nodes new : List ShownNode) (parts : List Selection) (i : ℕ) (node : ShownNode) (part : Selection) → i < length parts → part ≡ get_or parts i part → new ≡ nodes ++ node ∷ []
      → Shows looks lists options node (form part) → ShowAll looks lists options nodes (take i parts) → ShowAll looks lists options new (take (i + 1) parts)
  nodes_more nodes new parts i node part below is pushed one all = record {
    shown = λ tokens.
        say_more (shown_spans (looked_text looks lists.stems tokens)) (λ p. best_spans (lexicon lists) options tokens (form p)) nodes new parts i node part below is pushed (one.shown tokens) (all.shown tokens);
  }

  pub parts_more : (shown_parts new : List ShownPart) (parts : List Selection) (i : ℕ) (shown : ShownPart) (part : Selection) → i < length parts → part ≡ get_or parts i part → new ≡ shown_parts ++ shown ∷ []
      → ShowsPart looks lists options shown (form part) → ShowParts looks lists options shown_parts (take i parts) → ShowParts looks lists options new (take (i + 1) parts)
  parts_more shown_parts new parts i shown part below is pushed one all = record {
    shown = λ tokens.
        say_more (shown_part (looked_text looks lists.stems tokens)) (λ p. best_part (lexicon lists) options tokens (form p)) shown_parts new parts i shown part below is pushed (one.shown tokens) (all.shown tokens);
  }
