-- Parts of selections that hold no other parts are taken where they may stand.
use Rattle.std.proofs.Common.{◌≡◌, ℕ, Bool, true, false, cond, List, [], ◌∷◌, ◌++◌, Option, Some, None, refl, sym, ◌∙◌, ap, subst, append_assoc}
use Rattle.std.proofs.lemmas.List.{append-nil}
use Rattle.std.specs.Prelude.{codes}
use Rattle.ft_base.specs.declared.filter.Filter.{Filter}
use Rattle.ft_base.specs.declared.range.Range.{Range}
use Rattle.ft_base.specs.declared.words.Mode.{Mode}
use Rattle.ft_base.specs.declared.words.Mode.TheVariants as M
use Rattle.ft_base.specs.declared.options.StopTerm.{StopTerm}
use Rattle.ft_base.specs.declared.options.StopSource.{StopSource}
use Rattle.ft_base.specs.declared.options.StopSource.TheVariants.{At, Written}
use Rattle.ft_base.specs.declared.options.ThesaurusUse.{ThesaurusUse}
use Rattle.selection_grammar.specs.declared.symbol.Symbol.TheVariants as S
use Rattle.selection_grammar.specs.declared.symbol.Placed.{Placed}
use Rattle.selection_grammar.specs.declared.parsed.PlacedString.{PlacedString}
use Rattle.selection_grammar.specs.declared.parsed.PlacedOption.{PlacedOption}
use Rattle.selection_grammar.specs.declared.parsed.PlacedTimes.{PlacedTimes}
use Rattle.selection_grammar.specs.Shapes.{Shape, whole, nothing, word, number, text, mark, is_word, step, run, Spelled, or_else, and_then}
use Rattle.selection_grammar.specs.Keywords.{filters, times, levels, plain_option}
use Rattle.selection_grammar.specs.Tree as tree
use Rattle.selection_grammar.specs.Tree.{Tree, and_of, joined, Primary, phrases, inner}
use Rattle.selection_grammar.specs.Grammar as g
use Rattle.selection_grammar.specs.Grammar.{Spot, at, name, string, joint, Strings, Value, Moded, Timed, Named, Thesaurus, Thesauri, Source, Terms, Given, Options, Negation, Operand, Unary, Mild, Ands, Ors, Selection, texts_of}
use Rattle.selection_grammar.specs.steps.Machine as m
use Rattle.selection_grammar.specs.steps.Machine.{Left, nothing_left_of, Frame, Stage, State, next, advance, run_on, selection_at, selection_with, ors_with, ands_with, mild_with, operand_of, filtered_state, thesaurus_option, thesaurus_use, stop_option, start, close_next}
use Rattle.selection_grammar.proofs.Paths.{along}
use Rattle.selection_grammar.proofs.Walks.{st}

pub filters_run : (k : Filter → State) (rest : Shape State) (v : List Placed) (x : Filter) → Spelled filters v x → run (Some (or_else (and_then filters (λ f. whole (k f))) rest)) v ≡ Some (whole (k x))
filters_run k rest v x h = along filters (λ v x. run (Some (or_else (and_then filters (λ f. whole (k f))) rest)) v ≡ Some (whole (k x))) ((λ p. refl), ((λ p. ((λ p n. ((λ p. refl), ((λ p. refl), ((λ p. refl), tt)))), tt)), ((λ p. ((λ p. ((λ p n. ((λ p. refl), ((λ p. refl), ((λ p. refl), tt)))), tt)), ((λ p. ((λ p n. ((λ p. ((λ p n. ((λ p. refl), ((λ p. refl), ((λ p. refl), tt)))), tt)), tt)), tt)), ((λ p. ((λ p. ((λ p n. ((λ p. refl), ((λ p. refl), ((λ p. refl), tt)))), tt)), ((λ p. ((λ p n. ((λ p. refl), ((λ p. refl), ((λ p. refl), tt)))), tt)), tt))), tt)))), ((λ p. ((λ p. refl), ((λ p. refl), tt))), ((λ p. ((λ p. refl), ((λ p. refl), tt))), ((λ p. ((λ p. refl), tt)), ((λ p. ((λ p. refl), ((λ p. refl), tt))), tt))))))) v x h.runs

pub times_run : (k : PlacedTimes → State) (rest : Shape State) (v : List Placed) (x : PlacedTimes) → Spelled times v x → run (Some (or_else (and_then times (λ f. whole (k f))) rest)) v ≡ Some (whole (k x))
times_run k rest v x h = along times (λ v x. run (Some (or_else (and_then times (λ f. whole (k f))) rest)) v ≡ Some (whole (k x))) ((λ p. ((λ p. ((λ p n. ((λ p. refl), tt)), tt)), ((λ p. ((λ p n. ((λ p. ((λ p n. ((λ p. refl), tt)), tt)), tt)), tt)), ((λ p. ((λ p. ((λ p n. ((λ p. refl), tt)), tt)), ((λ p. ((λ p n. ((λ p. refl), tt)), tt)), tt))), tt)))), tt) v x h.runs

pub option_run : (outer : List Frame) (left : Left) (n : Option ℕ) (y : Primary) (os : List PlacedOption) (at : ℕ) (v : List Placed) (x : PlacedOption) → Spelled (plain_option at) v x → run (Some (m.using_next outer left n y os at)) v ≡ Some (whole (st outer left (m.given_options n y (os ++ x ∷ []))))
option_run outer left n y os at v x h = along (plain_option at) (λ v x. run (Some (m.using_next outer left n y os at)) v ≡ Some (whole (st outer left (m.given_options n y (os ++ x ∷ []))))) ((λ p. ((λ p. refl), ((λ p. refl), tt))), ((λ p. refl), ((λ p. refl), ((λ p. ((λ p. refl), ((λ p. refl), tt))), ((λ p. refl), ((λ p. refl), ((λ p. ((λ p s. refl), tt)), ((λ p. ((λ p. refl), ((λ p. refl), ((λ p. refl), ((λ p. ((λ p. refl), tt)), tt))))), tt)))))))) v x h.runs

pub thesaurus_filters_run : (outer : List Frame) (left : Left) (n : Option ℕ) (y : Primary) (os : List PlacedOption) (at : ℕ) (s : List ℕ) (r : Option (List ℕ)) (v : List Placed) (x : Filter) → Spelled filters v x → run (Some (m.thesaurus_rest outer left n y os at s r)) v ≡ Some (whole (filtered_state outer (selection_with left (operand_of n y (os ++ thesaurus_option at (thesaurus_use s r None ∷ []) ∷ []))) x))
thesaurus_filters_run outer left n y os at s r v x h = along filters (λ v x. run (Some (m.thesaurus_rest outer left n y os at s r)) v ≡ Some (whole (filtered_state outer (selection_with left (operand_of n y (os ++ thesaurus_option at (thesaurus_use s r None ∷ []) ∷ []))) x))) ((λ p. refl), ((λ p. ((λ p n. ((λ p. refl), ((λ p. refl), ((λ p. refl), tt)))), tt)), ((λ p. ((λ p. ((λ p n. ((λ p. refl), ((λ p. refl), ((λ p. refl), tt)))), tt)), ((λ p. ((λ p n. ((λ p. ((λ p n. ((λ p. refl), ((λ p. refl), ((λ p. refl), tt)))), tt)), tt)), tt)), ((λ p. ((λ p. ((λ p n. ((λ p. refl), ((λ p. refl), ((λ p. refl), tt)))), tt)), ((λ p. ((λ p n. ((λ p. refl), ((λ p. refl), ((λ p. refl), tt)))), tt)), tt))), tt)))), ((λ p. ((λ p. refl), ((λ p. refl), tt))), ((λ p. ((λ p. refl), ((λ p. refl), tt))), ((λ p. ((λ p. refl), tt)), ((λ p. ((λ p. refl), ((λ p. refl), tt))), tt))))))) v x h.runs

pub thesaurus_levels_run : (outer : List Frame) (left : Left) (n : Option ℕ) (y : Primary) (os : List PlacedOption) (at : ℕ) (s : List ℕ) (r : Option (List ℕ)) (v : List Placed) (x : Range) → Spelled levels v x → run (Some (m.thesaurus_rest outer left n y os at s r)) v ≡ Some (whole (st outer left (m.given_options n y (os ++ thesaurus_option at (thesaurus_use s r (Some x) ∷ []) ∷ []))))
thesaurus_levels_run outer left n y os at s r v x h = along levels (λ v x. run (Some (m.thesaurus_rest outer left n y os at s r)) v ≡ Some (whole (st outer left (m.given_options n y (os ++ thesaurus_option at (thesaurus_use s r (Some x) ∷ []) ∷ []))))) ((λ p. ((λ p n. ((λ p. refl), tt)), tt)), ((λ p. ((λ p n. ((λ p. ((λ p n. ((λ p. refl), tt)), tt)), tt)), tt)), ((λ p. ((λ p. ((λ p n. ((λ p. refl), tt)), tt)), ((λ p. ((λ p n. ((λ p. refl), tt)), tt)), tt))), tt))) v x h.runs

pub thesauri_levels_run : (outer : List Frame) (left : Left) (n : Option ℕ) (y : Primary) (os : List PlacedOption) (at : ℕ) (us : List ThesaurusUse) (s : List ℕ) (r : Option (List ℕ)) (v : List Placed) (x : Range) → Spelled levels v x → run (Some (m.thesaurus_in_rest outer left n y os at us s r)) v ≡ Some (whole (st outer left (m.thesauri_in n y os at (us ++ thesaurus_use s r (Some x) ∷ []))))
thesauri_levels_run outer left n y os at us s r v x h = along levels (λ v x. run (Some (m.thesaurus_in_rest outer left n y os at us s r)) v ≡ Some (whole (st outer left (m.thesauri_in n y os at (us ++ thesaurus_use s r (Some x) ∷ []))))) ((λ p. ((λ p n. ((λ p. refl), tt)), tt)), ((λ p. ((λ p n. ((λ p. ((λ p n. ((λ p. refl), tt)), tt)), tt)), tt)), ((λ p. ((λ p. ((λ p n. ((λ p. refl), tt)), tt)), ((λ p. ((λ p n. ((λ p. refl), tt)), tt)), tt))), tt))) v x h.runs
