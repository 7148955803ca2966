-- What is said of the nodes of a document, by runs and the judge that is asked with them.
use Rattle.std.specs.Prelude.{◌≡◌, ℕ, ◌==◌, Bool, true, ◌&&◌, nat_lt, List, [], ◌∷◌, length, map, All, cond, if◌then◌else◌, Option}
use Rattle.std.specs.List.{list_any, AllByRecursion}
use Rattle.std.specs.Option.{ForSome}
use Rattle.ignore_view.specs.Holes.{whole_document}
use Rattle.index_meaning.specs.Documents.{document_at, has_document}
use Rattle.index_phrases.specs.Tokens.{span_tokens}
use Rattle.index_updates.specs.Follows.{Follows}
use Rattle.ordered_tree.specs.Numbered.{Numbered}
use Rattle.ordered_tree.specs.Stands.{span}
use Rattle.ft_base.specs.declared.ids.NodeRef.{NodeRef}
use Rattle.ft_base.specs.declared.span.Span.{Span}
use Rattle.path_nodes.specs.References.{Spot, element_of, spot_reference, spots_in}
use Rattle.path_nodes.specs.Says.{Meaning}
use Rattle.plan_runs.specs.Judgement.{Judgement}
use Rattle.plan_runs.specs.RunMeaning.{RunMeaning}
use Rattle.session_state.specs.IgnoredText.{tokens_left}
use Rattle.session_state.specs.PathPrices.{are_cheap, element_price}
use Rattle.session_state.specs.PlannedPaths.{is_meant, run_meant, run_price}
use Rattle.session_state.specs.declared.text_left.LeftView.{LeftView}

-- whether a reference names a node of a document
abbrev pub is_there : Numbered → NodeRef → Bool
is_there root r = list_any (λ s. (spot_reference s).0 == r.0) (spots_in root)

-- the positions of the words of the node that a reference names
abbrev pub span_among : NodeRef → List Spot → Span
span_among r [] = record { from = 1; to = 1 }
span_among r (s ∷ rest) = if (spot_reference s).0 == r.0 then span s.stand else span_among r rest

abbrev pub span_at : Numbered → NodeRef → Span
span_at root r = span_among r (spots_in root)

-- Runs may be asked, each by its number, of each node of a document.
abbrev pub may_ask : List RunMeaning → Numbered → ℕ → NodeRef → Bool
may_ask runs root k r = nat_lt k (length runs) && is_there root r

-- Where all selections are cheap, what is counted, and else nothing.
abbrev pub where_cheap : List RunMeaning → ℕ → ℕ
where_cheap runs count = cond (are_cheap (map run_meant runs)) count 0

-- It is said whether the element that the reference names satisfies the selection, without what the ignored ones hold of it, for the price
-- of the run at its words where all selections are cheap. The runs and a count of steps are lent, under these names.
abbrev pub asked_of : Judgement → List (List ℕ) → List RunMeaning → Numbered → ℕ → ℕ → Meaning
asked_of says abbreviations runs root runs_loan moves_loan = record {
  may_ask = may_ask runs root;
  says = λ k ignored r. is_meant says abbreviations (map run_meant runs) k (map (element_of root) ignored) (element_of root r);
  price = λ k r. where_cheap runs (element_price (map run_price runs) k (element_of root r));
  span = span_at root;
  lent = runs_loan ∷ moves_loan ∷ [];
}

-- Each run is over a version that follows a tree under its number and the abbreviations, or each of some trees.
abbrev pub AreOver : List (List ℕ) → List RunMeaning → ℕ × Numbered → Type 0
AreOver abbreviations runs t = All (λ run. Follows abbreviations run.version t.0 t.1) runs

abbrev pub AreOverEach : List (List ℕ) → List RunMeaning → List (ℕ × Numbered) → Type 0
AreOverEach abbreviations runs trees = AllByRecursion (AreOver abbreviations runs) trees

-- A view of what is left of a node without ignored elements has the tokens of that, and so has what is kept, if something is.
abbrev pub IsLeft : List (List ℕ) → ℕ → Numbered → LeftView → Type 0
IsLeft abbreviations doc root left =
    (has_document doc left.view ≡ true)
    × (span_tokens (whole_document (document_at doc left.view)) (document_at doc left.view)
    ≡ tokens_left abbreviations (map (element_of root) left.holes) (element_of root left.node))

abbrev pub IsKept : List (List ℕ) → ℕ → Numbered → Option LeftView → Type 0
IsKept abbreviations doc root kept = ForSome kept (IsLeft abbreviations doc root)
