-- Every path through the parts of selections that hold no other parts.
use Rattle.std.proofs.Common.{◌≡◌, ℕ, List, [], ◌∷◌, ◌++◌, refl}
use Rattle.ft_base.specs.declared.filter.Filter.{Filter}
use Rattle.selection_grammar.specs.declared.symbol.Placed.{Placed}
use Rattle.selection_grammar.specs.declared.parsed.PlacedOption.{PlacedOption}
use Rattle.selection_grammar.specs.declared.parsed.PlacedTimes.{PlacedTimes}
use Rattle.selection_grammar.specs.Shapes.{Spelled}
use Rattle.selection_grammar.specs.Keywords.{filters, filters_without_at, times, plain_option}
use Rattle.selection_grammar.proofs.Paths.{Paths}

pub filters_each : (P : List Placed → Filter → Type 0) → ((u : List Placed) (x : Filter) → Spelled filters u x → P u x) → Paths filters P
filters_each P h = ((λ p. h _ _ (record { runs = refl })), ((λ p. ((λ p n. ((λ p. h _ _ (record { runs = refl })), ((λ p. h _ _ (record { runs = refl })), ((λ p. h _ _ (record { runs = refl })), tt)))), tt)), ((λ p. ((λ p. ((λ p n. ((λ p. h _ _ (record { runs = refl })), ((λ p. h _ _ (record { runs = refl })), ((λ p. h _ _ (record { runs = refl })), tt)))), tt)), ((λ p. ((λ p n. ((λ p. ((λ p n. ((λ p. h _ _ (record { runs = refl })), ((λ p. h _ _ (record { runs = refl })), ((λ p. h _ _ (record { runs = refl })), tt)))), tt)), tt)), tt)), ((λ p. ((λ p. ((λ p n. ((λ p. h _ _ (record { runs = refl })), ((λ p. h _ _ (record { runs = refl })), ((λ p. h _ _ (record { runs = refl })), tt)))), tt)), ((λ p. ((λ p n. ((λ p. h _ _ (record { runs = refl })), ((λ p. h _ _ (record { runs = refl })), ((λ p. h _ _ (record { runs = refl })), tt)))), tt)), tt))), tt)))), ((λ p. ((λ p. h _ _ (record { runs = refl })), ((λ p. h _ _ (record { runs = refl })), tt))), ((λ p. ((λ p. h _ _ (record { runs = refl })), ((λ p. h _ _ (record { runs = refl })), tt))), ((λ p. ((λ p. h _ _ (record { runs = refl })), tt)), ((λ p. ((λ p. h _ _ (record { runs = refl })), ((λ p. h _ _ (record { runs = refl })), tt))), tt)))))))

pub times_each : (P : List Placed → PlacedTimes → Type 0) → ((u : List Placed) (x : PlacedTimes) → Spelled times u x → P u x) → Paths times P
times_each P h = ((λ p. ((λ p. ((λ p n. ((λ p. h _ _ (record { runs = refl })), tt)), tt)), ((λ p. ((λ p n. ((λ p. ((λ p n. ((λ p. h _ _ (record { runs = refl })), tt)), tt)), tt)), tt)), ((λ p. ((λ p. ((λ p n. ((λ p. h _ _ (record { runs = refl })), tt)), tt)), ((λ p. ((λ p n. ((λ p. h _ _ (record { runs = refl })), tt)), tt)), tt))), tt)))), tt)

pub plain_option_each : (at : ℕ) (P : List Placed → PlacedOption → Type 0) → ((u : List Placed) (x : PlacedOption) → Spelled (plain_option at) u x → P u x) → Paths (plain_option at) P
plain_option_each at P h = ((λ p. ((λ p. h _ _ (record { runs = refl })), ((λ p. h _ _ (record { runs = refl })), tt))), ((λ p. h _ _ (record { runs = refl })), ((λ p. h _ _ (record { runs = refl })), ((λ p. ((λ p. h _ _ (record { runs = refl })), ((λ p. h _ _ (record { runs = refl })), tt))), ((λ p. h _ _ (record { runs = refl })), ((λ p. h _ _ (record { runs = refl })), ((λ p. ((λ p s. h _ _ (record { runs = refl })), tt)), ((λ p. ((λ p. h _ _ (record { runs = refl })), ((λ p. h _ _ (record { runs = refl })), ((λ p. h _ _ (record { runs = refl })), ((λ p. ((λ p. h _ _ (record { runs = refl })), tt)), tt))))), tt))))))))

-- those that don't begin with `at` are filters too
pub other_filters_each : (P : List Placed → Filter → Type 0) → ((u : List Placed) (x : Filter) → Spelled filters u x → P u x) → Paths filters_without_at P
other_filters_each P h = ((λ p. h _ _ (record { runs = refl })), ((λ p. ((λ p n. ((λ p. h _ _ (record { runs = refl })), ((λ p. h _ _ (record { runs = refl })), ((λ p. h _ _ (record { runs = refl })), tt)))), tt)), ((λ p. ((λ p. ((λ p n. ((λ p. h _ _ (record { runs = refl })), ((λ p. h _ _ (record { runs = refl })), ((λ p. h _ _ (record { runs = refl })), tt)))), tt)), ((λ p. ((λ p n. ((λ p. ((λ p n. ((λ p. h _ _ (record { runs = refl })), ((λ p. h _ _ (record { runs = refl })), ((λ p. h _ _ (record { runs = refl })), tt)))), tt)), tt)), tt)), ((λ p. ((λ p. ((λ p n. ((λ p. h _ _ (record { runs = refl })), ((λ p. h _ _ (record { runs = refl })), ((λ p. h _ _ (record { runs = refl })), tt)))), tt)), ((λ p. ((λ p n. ((λ p. h _ _ (record { runs = refl })), ((λ p. h _ _ (record { runs = refl })), ((λ p. h _ _ (record { runs = refl })), tt)))), tt)), tt))), tt)))), ((λ p. ((λ p. h _ _ (record { runs = refl })), ((λ p. h _ _ (record { runs = refl })), tt))), ((λ p. ((λ p. h _ _ (record { runs = refl })), ((λ p. h _ _ (record { runs = refl })), tt))), ((λ p. ((λ p. h _ _ (record { runs = refl })), tt)), tt))))))
