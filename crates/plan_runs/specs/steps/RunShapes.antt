-- A run's tree as plain data: what it is, whatever its cursors stand at.
use Rattle.std.specs.Prelude.{ℕ, Bool, List, [], ◌∷◌, map, length, Option}
use Rattle.std.specs.declared.alloc.Global.{Global}
use Rattle.std.specs.declared.vec.Vec.{Vec}
use Rattle.ft_base.specs.Hits.{HitPlace}
use Rattle.ft_base.specs.declared.range.Range.{Range}
use Rattle.ft_base.specs.declared.span.Span.{Span}
use Rattle.ft_operators.specs.Standing.{Aims}
use Rattle.index_phrases.specs.Cursors.{state_of}
use Rattle.index_phrases.specs.declared.word_terms.WordTerms.{WordTerms}
use Rattle.index_phrases.specs.steps.Aiming.{sizes_of, variant_words}
use Rattle.phrase_merges.specs.NearTrees.{near_aims, near_lists}
use Rattle.phrase_merges.specs.Rows.{all_aims}
use Rattle.spot_merges.specs.declared.edge.Edge.{Edge}
use Rattle.spot_merges.specs.declared.outside.Outside.{Outside}
use Rattle.count_merges.specs.declared.item.CountedItem.{CountedItem}
use Rattle.count_merges.specs.declared.item.VariantGroup.{VariantGroup}
use Rattle.plan_runs.specs.steps.Counts.{CountsShape, GroupSizes, TermCounts, TermGroups}
use Rattle.plan_runs.specs.steps.Merges.{MergeShape}
use Rattle.plan_runs.specs.steps.NearRuns.{NearShape}
use Rattle.plan_runs.specs.steps.Skips.{skip_of}
use Rattle.plan_runs.specs.steps.OpenedOperators.{aims_of}
use Rattle.plan_runs.specs.steps.Passes.{HitsShape}
use Rattle.plan_runs.specs.declared.run_counts.CountedTerms.{CountedTerms}
use Rattle.plan_runs.specs.declared.run_counts.RunCounts.{RunCounts}
use Rattle.plan_runs.specs.declared.run_counts.TermGroup.{TermGroup}
use Rattle.plan_runs.specs.declared.run_hits.RunHits.{RunHits}
use Rattle.plan_runs.specs.declared.run_merge.RunMerge.{RunMerge}
use Rattle.plan_runs.specs.declared.run_near.RunNear.{RunNear}
use Rattle.plan_runs.specs.declared.run_node.RunGroup.{RunGroup}
use Rattle.plan_runs.specs.declared.run_node.RunPhrase.{RunPhrase}
use Rattle.plan_runs.specs.declared.run_node.RunWords.{RunWords}
use Rattle.plan_runs.specs.declared.run_placed.RunPlaced.{RunPlaced}
use Rattle.plan_runs.specs.declared.run_placed.RunPlaced.TheVariants.{AtEdge, Apart}
use Rattle.plan_runs.specs.declared.run_ways.RunWays.{RunWays}
use Rattle.plan_runs.specs.declared.run_node.RunNode.{RunNode, fold-RunNode}
use Rattle.plan_runs.specs.declared.run_node.RunNode.TheOpen.{RunNode-F}

-- the terms of each word of each variant, and how many cursors there are for it
pub record GroupShape : Type 0 where
  pub terms : List (List WordTerms)
  pub sizes : List (List (Option ℕ))

pub record WordsShape : Type 0 where
  pub phrases : List (List GroupShape)
  pub all : Bool
  pub times : Option Range

-- what the walk through the ways is at the spans of documents, and up to where a part of a document has no Match
pub record WaysShape : Type 0 where
  pub aims : Aims
  pub skips : ℕ → Span → Option ℕ

-- a phrase at an edge of the text, by the terms of each word of each variant, or one that stands so outside another
pub data PlacedShape : Type 0 where
  at_edge : Edge → List (List WordTerms) → PlacedShape
  outside : Outside → GroupShape → GroupShape → PlacedShape

mutual
  pub data Shape : Type 0 where
    words : WordsShape → Shape
    any_of : Shapes → Shape
    all_of : Shapes → Shape
    not_of : Shape → Shape
    by_ways : WaysShape → Shape
    by_near : NearShape → Shape
    by_hits : HitsShape → Shape
    by_merge : MergeShape → Shape
    by_spots : PlacedShape → Shape
    by_counts : CountsShape → Shape

  pub data Shapes : Type 0 where
    none : Shapes
    more : Shape → Shapes → Shapes

abbrev pub shapes_of : List Shape → Shapes
shapes_of [] = none
shapes_of (first ∷ rest) = more first (shapes_of rest)

abbrev pub group_shape : RunGroup → GroupShape
group_shape group = record { terms = map variant_words group.terms.items; sizes = map sizes_of group.variants.items }

abbrev pub phrase_shape : RunPhrase → List GroupShape
phrase_shape phrase = map group_shape phrase.groups.items

abbrev pub words_shape : RunWords → WordsShape
words_shape run = record { phrases = map phrase_shape run.phrases.items; all = run.all; times = run.times }

-- the cursors of a word of a merge, and how many there are
abbrev pub cursors_of : Vec HitPlace Global → List HitPlace
cursors_of word = word.items

abbrev pub count_of : Vec HitPlace Global → ℕ
count_of word = length word.items

abbrev pub merge_shape : RunMerge → MergeShape
merge_shape run = record { kind = run.kind; words = run.words.items; sizes = map count_of run.cursors.items }

abbrev pub ways_shape : RunWays → WaysShape
ways_shape run = record { aims = aims_of run.tuples; skips = skip_of run.needs }

abbrev pub near_shape : RunNear → NearShape
near_shape run = record { aims = near_aims state_of run.tree; lists = near_lists state_of run.tree; skips = skip_of run.needs }

abbrev pub hits_shape : RunHits → HitsShape
hits_shape run = record { kind = run.kind; phrases = all_aims state_of run.phrases.items; skips = skip_of run.needs }

abbrev pub placed_shape : RunPlaced → PlacedShape
placed_shape (AtEdge phrase) = at_edge phrase.edge (map variant_words phrase.variants.items)
placed_shape (Apart phrases) = outside phrases.outside (group_shape phrases.left) (group_shape phrases.right)

-- variants of one length, by the terms of each word
abbrev pub term_groups : List TermGroup → TermGroups
term_groups groups = map (λ group. (group.words, map variant_words group.variants.items)) groups

abbrev pub term_counts : CountedTerms → TermCounts
term_counts item = record { least = item.least; most = item.most; groups = term_groups item.groups.items }

-- of an item with cursors its bounds, and how many cursors there are in front and at the back
abbrev pub item_bounds : CountedItem HitPlace → ℕ × Option ℕ
item_bounds item = (item.least, item.most)

abbrev pub front_sizes : List (VariantGroup HitPlace) → GroupSizes
front_sizes groups = map (λ group. (group.words, map sizes_of group.front.items)) groups

abbrev pub back_sizes : List (VariantGroup HitPlace) → GroupSizes
back_sizes groups = map (λ group. (group.words, map sizes_of group.back.items)) groups

abbrev pub item_fronts : CountedItem HitPlace → GroupSizes
item_fronts item = front_sizes item.groups.items

abbrev pub item_backs : CountedItem HitPlace → GroupSizes
item_backs item = back_sizes item.groups.items

abbrev pub counts_shape : RunCounts → CountsShape
counts_shape run = record {
  field = run.field;
  words = map term_counts run.words.items;
  bounds = map item_bounds run.items.items;
  fronts = map item_fronts run.items.items;
  backs = map item_backs run.items.items;
}

-- one level, with the shape of each part
abbrev pub layer : RunNode-F Shape → Shape
layer (RunNode-F.Words run) = words (words_shape run)
layer (RunNode-F.Or parts) = any_of (shapes_of parts.items)
layer (RunNode-F.And parts) = all_of (shapes_of parts.items)
layer (RunNode-F.Not part) = not_of part.value
layer (RunNode-F.Ways run) = by_ways (ways_shape run.value)
layer (RunNode-F.Near run) = by_near (near_shape run.value)
layer (RunNode-F.Hits run) = by_hits (hits_shape run.value)
layer (RunNode-F.Merge run) = by_merge (merge_shape run)
layer (RunNode-F.Placed run) = by_spots (placed_shape run)
layer (RunNode-F.Counted run) = by_counts (counts_shape run)

unfoldable pub shape : RunNode → Shape
shape = fold-RunNode Shape layer
