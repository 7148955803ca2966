-- Options and strings one after the other.
use Rattle.std.proofs.Common.{◌≡◌, ℕ, ◌+◌, ◌<◌, Bool, List, [], ◌∷◌, ◌++◌, length, take, get_or, refl, sym, ap, ◌∙◌}
use Rattle.std.proofs.lemmas.List.{take_more}
use Rattle.std.specs.Option.{unwrap_or}
use Rattle.ft_base.specs.declared.options.Options.{Options}
use Rattle.ft_base.specs.Selection.{no_options}
use Rattle.selection_grammar.specs.Form.{options_from, options_of, with_option}
use Rattle.selection_grammar.specs.declared.parsed.MatchOption.{MatchOption}
use Rattle.selection_grammar.specs.declared.parsed.MatchOption.TheVariants as O
use Rattle.selection_grammar.specs.declared.parsed.PlacedOption.{PlacedOption}
use Rattle.selection_grammar.specs.declared.parsed.PlacedString.{PlacedString}
use Rattle.selection_grammar.specs.Grammar.{texts_of}
use Rattle.selection_faults.specs.Strings.{wildcards_inside}
use Rattle.selection_faults.specs.steps.Walk.{wildcards_after}

options_append : (options : Options) (xs ys : List PlacedOption) → options_from options (xs ++ ys) ≡ options_from (options_from options xs) ys
options_append options [] ys = refl
options_append options (x ∷ xs) ys = options_append (with_option options x.option) xs ys

pub options_more : (xs : List PlacedOption) (x : PlacedOption) → options_of (xs ++ x ∷ []) ≡ with_option (options_of xs) x.option
options_more xs x = options_append no_options xs (x ∷ [])

wildcards_with : (options : Options) (around : Bool) (option : MatchOption) → unwrap_or (with_option options option).wildcards around ≡ wildcards_after (unwrap_or options.wildcards around) option
wildcards_with options around (O.Case case) = refl
wildcards_with options around (O.Diacritics sensitive) = refl
wildcards_with options around (O.Stemming on) = refl
wildcards_with options around (O.Thesaurus choice) = refl
wildcards_with options around (O.StopWords choice) = refl
wildcards_with options around (O.Language name) = refl
wildcards_with options around (O.Wildcards on) = refl

-- whether wildcards are on, one option further
pub wildcards_next : (around : Bool) (os : List PlacedOption) (i : ℕ) (o : PlacedOption) → i < length os → wildcards_after (wildcards_inside around (take i os)) (get_or os i o).option ≡ wildcards_inside around (take (i + 1) os)
wildcards_next around os i o h =
    sym (ap (wildcards_inside around) (take_more os i o h)
    ∙ ap (λ (options : Options). unwrap_or options.wildcards around) (options_more (take i os) (get_or os i o))
    ∙ wildcards_with (options_of (take i os)) around (get_or os i o).option)

pub texts_more : (xs : List PlacedString) (x : PlacedString) → texts_of (xs ++ x ∷ []) ≡ texts_of xs ++ x.text ∷ []
texts_more [] x = refl
texts_more (y ∷ ys) x = ap (λ rest. y.text ∷ rest) (texts_more ys x)
