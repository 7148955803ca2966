-- Phrases, and phrases at an edge of the text, as they are recognized.
use Rattle.std.proofs.Common.{◌≡◌, ap, Option, Some, None}
use Rattle.std.proofs.lemmas.Option.{none-some, same_Some}
use Rattle.ft_base.specs.declared.filter.Filter.{Filter}
use Rattle.ft_base.specs.declared.filter.Filter.TheVariants as F
use Rattle.spot_merges.specs.Edges.{edge_filter}
use Rattle.spot_merges.specs.declared.edge.Edge.{Edge}
use Rattle.plan_compiler.specs.declared.operator_plan.OperatorPlan.{OperatorPlan, Phrase, Choice', Both', MildNot', Negated', Filtered'}
use Rattle.plan_compiler.specs.declared.operator_plan.PhraseTests.{PhraseTests}
use Rattle.plan_kinds.specs.steps.JoinedPhrases.{phrase_of}
use Rattle.plan_kinds.specs.steps.PlacedPhrases.{both_of, filter_edge}

pub both_found : {A B : Type 0} (first : Option A) (second : Option B) (a : A) (b : B) → both_of first second ≡ Some (a, b) → (first ≡ Some a) × (second ≡ Some b)
both_found None second a b h = absurd (none-some (a, b) h)
both_found (Some x) None a b h = absurd (none-some (a, b) h)
both_found (Some x) (Some y) a b h =
    let pair = same_Some (x, y) (a, b) h in
    (ap (λ q. Some q.0) pair, ap (λ q. Some q.1) pair)

pub phrase_is : (plan : OperatorPlan) (found : PhraseTests) → phrase_of plan ≡ Some found → plan ≡ Phrase found
phrase_is (Phrase own) found h = ap Phrase (same_Some own found h)
phrase_is (Choice' p left right) found h = absurd (none-some found h)
phrase_is (Both' p left right) found h = absurd (none-some found h)
phrase_is (MildNot' p left right) found h = absurd (none-some found h)
phrase_is (Negated' p operand) found h = absurd (none-some found h)
phrase_is (Filtered' p operand kind) found h = absurd (none-some found h)

pub filter_is : (kind : Filter) (edge : Edge) → filter_edge kind ≡ Some edge → kind ≡ edge_filter edge
filter_is F.Ordered edge h = absurd (none-some edge h)
filter_is (F.Window size unit) edge h = absurd (none-some edge h)
filter_is (F.Distance range unit) edge h = absurd (none-some edge h)
filter_is F.SameSentence edge h = absurd (none-some edge h)
filter_is F.SameParagraph edge h = absurd (none-some edge h)
filter_is F.DifferentSentence edge h = absurd (none-some edge h)
filter_is F.DifferentParagraph edge h = absurd (none-some edge h)
filter_is F.AtStart edge h = ap edge_filter (same_Some _ edge h)
filter_is F.AtEnd edge h = ap edge_filter (same_Some _ edge h)
filter_is F.EntireContent edge h = ap edge_filter (same_Some _ edge h)
