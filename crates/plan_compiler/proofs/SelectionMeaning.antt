-- What a compiled selection says is whether the text satisfies the selection.
use Rattle.std.proofs.Common.{◌≡◌, refl, sym, ap, ◌∙◌, ℕ, zero, suc, Bool, true, false, not, ◌&&◌, ◌||◌, List, [], ◌∷◌, ◌++◌, map, take, Option, Some, None, get_or, length, ◌+◌, ◌<◌, arith, Box, Global}
use Rattle.std.specs.List.{list_any, list_all}
use Rattle.std.specs.Option.{option_or}
use Rattle.std.proofs.lemmas.Bool.{and_parts, and_from}
use Rattle.std.proofs.lemmas.List.{take_more, map-append}
use Rattle.ft_base.specs.declared.token.Token.{Token}
use Rattle.ft_base.specs.declared.options.Options.{Options}
use Rattle.ft_base.specs.declared.words.Words.{Words}
use Rattle.ft_base.specs.Selection.{Form, words, or_of, and_of}
use Rattle.ft_syntax.specs.View.{form, forms_of}
use Rattle.ft_syntax.specs.declared.selection.Selection.{Selection}
use Rattle.ft_syntax.specs.declared.selection.Selection as S
use Rattle.ft_syntax.proofs.Views.{form-Or, form-And}
use Rattle.all_matches.specs.Meaning.{inside, sat_under}
use Rattle.all_matches.specs.Compositional.{some_form, each_form_passes, enough}
use Rattle.all_matches.proofs.Compositional.{sat-or_of, sat-and_of, sat-not_of, sat-with_options, sat-words}
use Rattle.all_matches.proofs.Counting.{value_occurrences}
use Rattle.match_options.specs.TokenTest.{is_on, case_of}
use Rattle.match_options.specs.WordTests.{choice_of, is_by_key, is_insensitive}
use Rattle.plan_compiler.specs.Lexicon.{lexicon}
use Rattle.plan_compiler.specs.NamedLists.{NamedLists}
use Rattle.plan_compiler.specs.NodeMeaning.{truth}
use Rattle.plan_compiler.specs.Operators.{LookedText, looked_text}
use Rattle.plan_compiler.specs.Served.{are_served, is_served, all_served}
use Rattle.plan_compiler.specs.TextWords.{words_of_tokens}
use Rattle.plan_compiler.specs.declared.looks.Looks.{Looks}
use Rattle.plan_compiler.specs.WordsMeaning.{words_truth}
use Rattle.plan_compiler.specs.CompiledWords.{IsCompiled}
use Rattle.plan_compiler.specs.declared.words_plan.WordsPlan.{WordsPlan}
use Rattle.plan_compiler.specs.declared.node.Node.{Node}
use Rattle.plan_compiler.specs.declared.node.Node as N
use Rattle.plan_compiler.proofs.ServedLemmas.{form-Not, form-With}
use Rattle.plan_compiler.proofs.NodeViews.{truth-Or, truth-And, truth-Not}
use Rattle.plan_compiler.proofs.PhraseMeaning.{compiled_count}

-- what holds of both options of a group holds of the one that stands further in
nearer : {X : Type 0} (test : Option X → Bool) (inner outer : Option X) → test inner ≡ true → test outer ≡ true → test (option_or inner outer) ≡ true
nearer test None outer h k = k
nearer test (Some x) outer h k = h

by_key_inside : (inner outer : Options) → is_by_key (choice_of inner) ≡ true → is_by_key (choice_of outer) ≡ true → is_by_key (choice_of (inside inner outer)) ≡ true
by_key_inside inner outer h k =
    let a = and_parts (is_insensitive (case_of inner.case)) (not (is_on inner.diacritics_sensitive)) h in
    let b = and_parts (is_insensitive (case_of outer.case)) (not (is_on outer.diacritics_sensitive)) k in
    and_from (is_insensitive (case_of (option_or inner.case outer.case))) (not (is_on (option_or inner.diacritics_sensitive outer.diacritics_sensitive)))
    (nearer (λ o. is_insensitive (case_of o)) inner.case outer.case a.0 b.0) (nearer (λ o. not (is_on o)) inner.diacritics_sensitive outer.diacritics_sensitive a.1 b.1)

forms_inside : (all : Bool) (inner outer : Options) → (all || is_by_key (choice_of inner)) ≡ true → (all || is_by_key (choice_of outer)) ≡ true → (all || is_by_key (choice_of (inside inner outer))) ≡ true
forms_inside true inner outer h k = refl
forms_inside false inner outer h k = by_key_inside inner outer h k

stems_inside : (stems : Bool) (inner outer : Option Bool) → (stems || not (is_on inner)) ≡ true → (stems || not (is_on outer)) ≡ true → (stems || not (is_on (option_or inner outer))) ≡ true
stems_inside true inner outer h k = refl
stems_inside false inner outer h k = nearer (λ o. not (is_on o)) inner outer h k

-- options that are served hold inside others
pub served_inside : (looks : Looks) (inner outer : Options) → are_served looks inner ≡ true → are_served looks outer ≡ true → are_served looks (inside inner outer) ≡ true
served_inside looks inner outer h k =
    let a = and_parts (looks.all_forms || is_by_key (choice_of inner)) (looks.stems || not (is_on inner.stemming)) h in
    let b = and_parts (looks.all_forms || is_by_key (choice_of outer)) (looks.stems || not (is_on outer.stemming)) k in
    and_from (looks.all_forms || is_by_key (choice_of (inside inner outer))) (looks.stems || not (is_on (option_or inner.stemming outer.stemming)))
    (forms_inside looks.all_forms inner outer a.0 b.0) (stems_inside looks.stems inner.stemming outer.stemming a.1 b.1)

pub words_mean : (looks : Looks) (lists : NamedLists) (outer : Options) (value : Words) (plan : WordsPlan) (tokens : List Token) → IsCompiled plan lists (inside value.options outer) value
    → are_served looks (inside value.options outer) ≡ true → words_truth plan (words_of_tokens looks lists.stems tokens) ≡ sat_under (lexicon lists) outer (words value) tokens
words_mean looks lists outer value plan tokens compiled served =
    (λ i. enough (compiled.times i) ((compiled_count looks lists (inside value.options outer) plan value tokens compiled served ∙ sym (value_occurrences (lexicon lists) (inside value.options outer) value tokens)) i))
    ∙ sym (sat-words (lexicon lists) outer value tokens)

-- what compiled operands say, one beside the other
abbrev pub SayAs : Looks → NamedLists → Options → List Node → List Selection → Type 0
SayAs looks lists options nodes parts = (tokens : List Token) → map (λ node. truth node (looked_text looks lists.stems tokens)) nodes ≡ map (λ part. sat_under (lexicon lists) options (form part) tokens) parts

some_node : (text : LookedText) (nodes : List Node) → list_any (λ node. truth node text) nodes ≡ list_any (λ b. b) (map (λ node. truth node text) nodes)
some_node text [] = refl
some_node text (node ∷ nodes) = ap (λ b. truth node text || b) (some_node text nodes)

each_node : (text : LookedText) (nodes : List Node) → list_all (λ node. truth node text) nodes ≡ list_all (λ b. b) (map (λ node. truth node text) nodes)
each_node text [] = refl
each_node text (node ∷ nodes) = ap (λ b. truth node text && b) (each_node text nodes)

some_part : (test : Form → Bool) (parts : List Selection) → list_any (λ b. b) (map (λ part. test (form part)) parts) ≡ some_form test (forms_of (map form parts))
some_part test [] = refl
some_part test (part ∷ parts) = ap (λ b. test (form part) || b) (some_part test parts)

each_part : (test : Form → Bool) (parts : List Selection) → list_all (λ b. b) (map (λ part. test (form part)) parts) ≡ each_form_passes test (forms_of (map form parts))
each_part test [] = refl
each_part test (part ∷ parts) = ap (λ b. test (form part) && b) (each_part test parts)

pub or_means : (looks : Looks) (lists : NamedLists) (options : Options) (nodes : List Node) (parts : List Selection) (tokens : List Token) → SayAs looks lists options nodes parts → truth (N.Or nodes) (looked_text looks lists.stems tokens) ≡ sat_under (lexicon lists) options (or_of (forms_of (map form parts))) tokens
or_means looks lists options nodes parts tokens same =
    truth-Or nodes (looked_text looks lists.stems tokens) ∙ some_node (looked_text looks lists.stems tokens) nodes ∙ ap (list_any (λ b. b)) (same tokens)
    ∙ some_part (λ f. sat_under (lexicon lists) options f tokens) parts ∙ sym (sat-or_of (lexicon lists) options (forms_of (map form parts)) tokens)

pub and_means : (looks : Looks) (lists : NamedLists) (options : Options) (nodes : List Node) (parts : List Selection) (tokens : List Token) → SayAs looks lists options nodes parts → truth (N.And nodes) (looked_text looks lists.stems tokens) ≡ sat_under (lexicon lists) options (and_of (forms_of (map form parts))) tokens
and_means looks lists options nodes parts tokens same =
    truth-And nodes (looked_text looks lists.stems tokens) ∙ each_node (looked_text looks lists.stems tokens) nodes ∙ ap (list_all (λ b. b)) (same tokens)
    ∙ each_part (λ f. sat_under (lexicon lists) options f tokens) parts ∙ sym (sat-and_of (lexicon lists) options (forms_of (map form parts)) tokens)

-- which operands are served
pub served_at : (looks : Looks) (parts : List Selection) (i : ℕ) (part : Selection) → all_served looks (forms_of (map form parts)) ≡ true → i < length parts → part ≡ get_or parts i part → is_served looks (form part) ≡ true
unfolding is_served
served_at looks [] i part h below is = absurd (omega arith)
served_at looks (first ∷ parts) zero part h below is = ap (λ p. is_served looks (form p)) is ∙ (and_parts (is_served looks (form first)) (all_served looks (forms_of (map form parts))) h).0
served_at looks (first ∷ parts) (suc i) part h below is = served_at looks parts i part (and_parts (is_served looks (form first)) (all_served looks (forms_of (map form parts))) h).1 (omega arith) is

-- ---- what a compiled selection says, of each kind

module _ (looks : Looks) (lists : NamedLists) (options : Options) (selection : Selection) where
  pub with_selection : (operand : Box Selection Global) (inner : Options) → selection ≡ S.With operand inner → (tokens : List Token)
      → sat_under (lexicon lists) (inside inner options) (form operand.value) tokens ≡ sat_under (lexicon lists) options (form selection) tokens
  with_selection operand inner e tokens =
      sym (sat-with_options (lexicon lists) options inner (form operand.value) tokens)
      ∙ ap (λ f. sat_under (lexicon lists) options f tokens) (sym (ap form e ∙ form-With operand inner))

  pub or_selection : (parts : List Selection) → selection ≡ S.Or parts → (nodes : List Node) (tokens : List Token) → SayAs looks lists options nodes parts → truth (N.Or nodes) (looked_text looks lists.stems tokens) ≡ sat_under (lexicon lists) options (form selection) tokens
  or_selection parts e nodes tokens same = or_means looks lists options nodes parts tokens same ∙ ap (λ f. sat_under (lexicon lists) options f tokens) (sym (ap form e ∙ form-Or parts))

  pub and_selection : (parts : List Selection) → selection ≡ S.And parts → (nodes : List Node) (tokens : List Token) → SayAs looks lists options nodes parts → truth (N.And nodes) (looked_text looks lists.stems tokens) ≡ sat_under (lexicon lists) options (form selection) tokens
  and_selection parts e nodes tokens same = and_means looks lists options nodes parts tokens same ∙ ap (λ f. sat_under (lexicon lists) options f tokens) (sym (ap form e ∙ form-And parts))

  pub not_selection : (operand : Box Selection Global) → selection ≡ S.Not operand → (node : Box Node Global) (tokens : List Token) → truth node.value (looked_text looks lists.stems tokens) ≡ sat_under (lexicon lists) options (form operand.value) tokens
      → truth (N.Not node) (looked_text looks lists.stems tokens) ≡ sat_under (lexicon lists) options (form selection) tokens
  not_selection operand e node tokens same =
      truth-Not node (looked_text looks lists.stems tokens) ∙ ap not same ∙ sym (sat-not_of (lexicon lists) options (form operand.value) tokens)
      ∙ ap (λ f. sat_under (lexicon lists) options f tokens) (sym (ap form e ∙ form-Not operand))

-- one operand more
pub say_more : {N V : Type 0} (f : N → V) (g : Selection → V) (nodes new : List N) (parts : List Selection) (i : ℕ) (node : N) (part : Selection) → i < length parts → part ≡ get_or parts i part
    → new ≡ nodes ++ node ∷ [] → f node ≡ g part → map f nodes ≡ map g (take i parts) → map f new ≡ map g (take (i + 1) parts)
say_more f g nodes new parts i node part h is pushed same known =
    ap (map f) pushed ∙ map-append f nodes (node ∷ []) ∙ (λ k. known k ++ same k ∷ []) ∙ sym (map-append g (take i parts) (part ∷ []))
    ∙ ap (map g) (sym (take_more parts i part h ∙ ap (λ p. take i parts ++ p ∷ []) (sym is)))
