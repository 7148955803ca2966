-- The node that a test is asked for, and the run by which it answers.
use Rattle.std.proofs.Common.{◌≡◌, ◌∙◌, sym, ap, refl, subst, ℕ, zero, suc, ◌+◌, ◌-◌, ◌<◌, ◌≤◌, ◌==◌, Bool, true, false, ◌&&◌, ◌||◌, cond, List, [], ◌∷◌, length, map, take, drop, get_or, arith, IsTrue}
use Rattle.std.specs.Prelude.{nat_lt}
use Rattle.std.specs.List.{list_any, slice_range, Contains}
use Rattle.std.proofs.lemmas.List.{drop-map, length-map, take-map}
use Rattle.std.proofs.lemmas.Bool.Decides.{nat_tests}
use Rattle.std.proofs.lemmas.Bool.{and_parts, ltb-true}
use Rattle.ft_base.specs.declared.span.Span.{Span}
use Rattle.ft_base.specs.declared.token.Token.{Token}
use Rattle.index_meaning.specs.Documents as indexed
use Rattle.index_meaning.specs.Documents.{Document, document_at, token_count, words_of}
use Rattle.index_phrases.specs.Phrases.{words_at}
use Rattle.index_phrases.specs.Tokens.{IsSpan, span_tokens}
use Rattle.index_updates.specs.Follows.{Follows}
use Rattle.ordered_tree.specs.Numbered.{Numbered, plain}
use Rattle.ordered_tree.specs.Part.{counted_from, part, renumbered}
use Rattle.ordered_tree.specs.Stands.{span}
use Rattle.ft_base.specs.declared.ids.NodeRef.{NodeRef}
use Rattle.path_meaning.specs.Elements.{Element, placed}
use Rattle.path_nodes.specs.References.{Spot, spots_in, spot_element, spot_reference, found_in, element_of, IsElement}
use Rattle.path_nodes.specs.Says.{Meaning}
use Rattle.plan_compiler.specs.CheapSelections.{is_cheap}
use Rattle.plan_compiler.specs.Lexicon.{lexicon}
use Rattle.plan_runs.specs.Judgement.{Judgement}
use Rattle.plan_runs.specs.RunMeaning.{RunMeaning}
use Rattle.plan_runs.specs.RunPrice.{price_at}
use Rattle.kept_plans.specs.PlanOf.{PlanOf}
use Rattle.tokenizer.specs.Tokens.{tokens}
use Rattle.session_state.specs.IgnoredText.{tokens_left}
use Rattle.session_state.specs.PathPrices.{are_cheap, element_price, words_of as element_words}
use Rattle.session_state.specs.PlannedPaths.{is_meant, meant, run_meant, run_over, run_price}
use Rattle.session_state.specs.SelectionTests.{asked_of, is_there, may_ask, span_among, span_at, where_cheap, AreOver, AreOverEach}
use Rattle.document_store.specs.Indexed.{FollowsEach}

-- the node that a reference names
pub record Node (root : Numbered) (r : NodeRef) : Type 0 where
  pub spot : Spot
  pub among : Contains (spots_in root) spot
  pub refers : spot_reference spot ≡ r
  pub is : element_of root r ≡ spot_element spot
  pub at : span_at root r ≡ span spot.stand

same-number : (s : Spot) (r : NodeRef) → ((spot_reference s).0 == r.0) ≡ true → spot_reference s ≡ r
same-number s r h = let numbers : (spot_reference s).0 ≡ r.0 = grind (arith, nat_tests, h) in ap (λ (n : ℕ). let named : NodeRef = record { 0 = n } in named) numbers

record Among (r : NodeRef) (other : Element) (xs : List Spot) : Type 0 where
  spot : Spot
  among : Contains xs spot
  refers : spot_reference spot ≡ r
  is : found_in r other xs ≡ spot_element spot
  at : span_among r xs ≡ span spot.stand

further : (x : Spot) (xs : List Spot) (s : Spot) → Contains xs s → Contains (x ∷ xs) s
further x xs s (k, more, is) = (suc k, (omega (arith, more)), is)

found : (xs : List Spot) (r : NodeRef) (other : Element) → list_any (λ s. (spot_reference s).0 == r.0) xs ≡ true → Among r other xs
found [] r other h = let no : ⊥ = cc in absurd no
found (x ∷ xs) r other h = by (found xs r other) ((spot_reference x).0 == r.0) refl
  where
    by : (list_any (λ s. (spot_reference s).0 == r.0) xs ≡ true → Among r other xs) → (test : Bool) → ((spot_reference x).0 == r.0) ≡ test → Among r other (x ∷ xs)
    by later true e = record {
      spot = x;
      among = (zero, (omega arith), refl);
      refers = same-number x r e;
      is = ap (λ t. cond t (spot_element x) (found_in r other xs)) e;
      at = ap (λ t. cond t (span x.stand) (span_among r xs)) e;
    }
    by later false e =
        let rest = later (sym (ap (λ t. t || list_any (λ s. (spot_reference s).0 == r.0) xs) e) ∙ h) in
        record {
          spot = rest.spot;
          among = further x xs rest.spot rest.among;
          refers = rest.refers;
          is = ap (λ t. cond t (spot_element x) (found_in r other xs)) e ∙ rest.is;
          at = ap (λ t. cond t (span x.stand) (span_among r xs)) e ∙ rest.at;
        }

pub node-there : (root : Numbered) (r : NodeRef) → is_there root r ≡ true → Node root r
unfolding element_of
node-there root r h =
    let n = found (spots_in root) r (placed [] (plain root)) h in
    record { spot = n.spot; among = n.among; refers = n.refers; is = n.is; at = n.at }

-- what runs may be asked for is a node
pub asked-there : (runs : List RunMeaning) (root : Numbered) (k : ℕ) (r : NodeRef) → IsTrue (may_ask runs root k r) → is_there root r ≡ true
asked-there runs root k r h = (and_parts (nat_lt k (length runs)) (is_there root r) h).1

pub asked-run : (runs : List RunMeaning) (root : Numbered) (k : ℕ) (r : NodeRef) → IsTrue (may_ask runs root k r) → k < length runs
asked-run runs root k r h = ltb-true k (length runs) (and_parts (nat_lt k (length runs)) (is_there root r) h).0

-- each element of a document may be asked for
there : (xs : List Spot) (r : NodeRef) (k : ℕ) (s : Spot) → k < length xs → get_or xs k s ≡ s → spot_reference s ≡ r → list_any (λ s. (spot_reference s).0 == r.0) xs ≡ true
there [] r k s more is refers = absurd (omega (arith, more))
there (x ∷ xs) r zero s more is refers =
    let numbers : (spot_reference x).0 ≡ r.0 = ap (λ y. (spot_reference y).0) is ∙ ap (λ (q : NodeRef). q.0) refers in
    let test : ((spot_reference x).0 == r.0) ≡ true = grind (arith, nat_tests, numbers) in
    ap (λ t. t || list_any (λ s. (spot_reference s).0 == r.0) xs) test
there (x ∷ xs) r (suc k) s more is refers =
    let rest = there xs r k s (omega (arith, more)) is refers in
    elim ((spot_reference x).0 == r.0) as (λ t. (t || list_any (λ s. (spot_reference s).0 == r.0) xs) ≡ true) [ true ↦ refl | false ↦ rest ]

pub element-there : (root : Numbered) (r : NodeRef) → IsElement root r → is_there root r ≡ true
element-there root r e = there (spots_in root) r e.among.0 e.spot e.among.1 e.among.2 e.refers

pub may-asked : (runs : List RunMeaning) (root : Numbered) (k : ℕ) → k < length runs → (r : NodeRef) → IsElement root r → IsTrue (may_ask runs root k r)
may-asked runs root k less r e =
    let named : nat_lt k (length runs) ≡ true = grind (arith, nat_tests, less) in
    ap (λ b. b && is_there root r) named ∙ element-there root r e

-- there are as many runs as plans
pub as-many : (plans : List PlanOf) (runs : List RunMeaning) → map run_meant runs ≡ map meant plans → length plans ≡ length runs
as-many plans runs same = sym (length-map plans meant) ∙ (ap length (sym same) ∙ length-map runs run_meant)

-- ---- the run of a number

pub met-left : (says : Judgement) (abbreviations : List (List ℕ)) (runs : List RunMeaning) (k : ℕ) (run : RunMeaning) (ignored : List Element) (e : Element) → k < length runs
    → get_or runs k run ≡ run → is_meant says abbreviations (map run_meant runs) k ignored e ≡ says run.form run.lists (tokens_left abbreviations ignored e)
unfolding is_meant
met-left says abbreviations [] k run ignored e more is = absurd (omega (arith, more))
met-left says abbreviations (r ∷ runs) zero run ignored e more is = ap (λ q. says q.form q.lists (tokens_left abbreviations ignored e)) is
met-left says abbreviations (r ∷ runs) (suc k) run ignored e more is = met-left says abbreviations runs k run ignored e (omega (arith, more)) is

pub met-at : (says : Judgement) (abbreviations : List (List ℕ)) (runs : List RunMeaning) (k : ℕ) (run : RunMeaning) (e : Element) → k < length runs → get_or runs k run ≡ run
    → tokens_left abbreviations [] e ≡ tokens abbreviations e.node → is_meant says abbreviations (map run_meant runs) k [] e ≡ says run.form run.lists (tokens abbreviations e.node)
met-at says abbreviations runs k run e more is all =
    met-left says abbreviations runs k run [] e more is ∙ ap (says run.form run.lists) all

pub priced-at : (runs : List RunMeaning) (k : ℕ) (run : RunMeaning) (e : Element) → k < length runs → get_or runs k run ≡ run
    → element_price (map run_price runs) k e ≡ run_price run (element_words e)
unfolding element_price
priced-at [] k run e more is = absurd (omega (arith, more))
priced-at (r ∷ runs) zero run e more is = ap (λ q. run_price q (element_words e)) is
priced-at (r ∷ runs) (suc k) run e more is = priced-at runs k run e (omega (arith, more)) is

pub cheap-at : (runs : List RunMeaning) (k : ℕ) (run : RunMeaning) → are_cheap (map run_meant runs) ≡ true → k < length runs → get_or runs k run ≡ run
    → is_cheap (lexicon run.lists) run.form ≡ true
cheap-at [] k run h more is = absurd (omega (arith, more))
cheap-at (r ∷ runs) zero run h more is = sym (ap (λ (q : RunMeaning). is_cheap (lexicon q.lists) q.form) is) ∙ (and_parts (is_cheap (lexicon r.lists) r.form) (are_cheap (map run_meant runs)) h).0
cheap-at (r ∷ runs) (suc k) run h more is = cheap-at runs k run (and_parts (is_cheap (lexicon r.lists) r.form) (are_cheap (map run_meant runs)) h).1 (omega (arith, more)) is

pub over-at : (abbreviations : List (List ℕ)) (runs : List RunMeaning) (k : ℕ) (run : RunMeaning) (t : ℕ × Numbered) → k < length runs → get_or runs k run ≡ run
    → AreOver abbreviations runs t → Follows abbreviations run.version t.0 t.1
over-at abbreviations runs k run t more is over = subst (λ (q : RunMeaning). Follows abbreviations q.version t.0 t.1) is (over k run more)

-- the run of a number among the runs that are lent
pub run-lent : (lent runs : List RunMeaning) (k : ℕ) (run : RunMeaning) → runs ≡ lent → run ≡ get_or runs k run → get_or lent k (get_or runs k run) ≡ get_or runs k run
run-lent lent runs k run same is = ap (λ rs. get_or rs k (get_or runs k run)) (sym same) ∙ ap (get_or runs k) (sym is)

-- ---- the loans of a test

pub runs-loan : (says : Judgement) (abbreviations : List (List ℕ)) (runs : List RunMeaning) (root root₂ : Numbered) (x y x₂ y₂ : ℕ)
    → asked_of says abbreviations runs root x y ≡ asked_of says abbreviations runs root₂ x₂ y₂ → x ≡ x₂
runs-loan says abbreviations runs root root₂ x y x₂ y₂ same = ap (λ (m : Meaning). get_or m.lent 0 x) same

pub moves-loan : (says : Judgement) (abbreviations : List (List ℕ)) (runs : List RunMeaning) (root root₂ : Numbered) (x y x₂ y₂ : ℕ)
    → asked_of says abbreviations runs root x y ≡ asked_of says abbreviations runs root₂ x₂ y₂ → y ≡ y₂
moves-loan says abbreviations runs root root₂ x y x₂ y₂ same = ap (λ (m : Meaning). get_or m.lent 1 y) same

-- ---- the words at the span of a node

words-counted : (first : Token) (ts : List Token) → map (λ token. token.word) (map (counted_from first) ts) ≡ map (λ token. token.word) ts
words-counted first [] = refl
words-counted first (t ∷ ts) = ap (λ ws. t.word ∷ ws) (words-counted first ts)

words-renumbered : (ts : List Token) → map (λ token. token.word) (renumbered ts) ≡ map (λ token. token.word) ts
words-renumbered [] = refl
words-renumbered (first ∷ rest) = words-counted first (first ∷ rest)

words-range : (ts : List Token) (a b : ℕ) → map (λ token. token.word) (slice_range ts a b) ≡ slice_range (map (λ token. token.word) ts) a b
words-range ts a b = sym (take-map (λ (token : Token). token.word) (b - a) (drop a ts)) ∙ ap (take (b - a)) (sym (drop-map (λ (token : Token). token.word) a ts))

-- the words of a part of a document's tokens are those at its span
pub words-of-part : (document : Document) (all ts : List Token) (at : Span) → map (λ token. token.word) all ≡ words_of document → part all at ≡ ts
    → words_at at document ≡ map (λ token. token.word) ts
words-of-part document all ts at words is =
    ap (λ ws. slice_range ws (at.from - 1) (at.to - 1)) (sym words)
    ∙ (sym (words-range all (at.from - 1) (at.to - 1))
    ∙ (sym (words-renumbered (slice_range all (at.from - 1) (at.to - 1)))
    ∙ ap (map (λ token. token.word)) is))

-- ---- what is said of the tokens at each span is said of each node

-- what is spent within the price of a run is spent within that of the node
pub spent-within : (runs : List RunMeaning) (k : ℕ) (run : RunMeaning) (doc : ℕ) (root : Numbered) (r : NodeRef) (at : Span) (old new : ℕ)
    → k < length runs → get_or runs k run ≡ run → words_at at (document_at doc run.version) ≡ element_words (element_of root r)
    → (is_cheap (lexicon run.lists) run.form ≡ true → new ≤ old + price_at run doc at)
    → where_cheap runs new ≤ where_cheap runs old + where_cheap runs (element_price (map run_price runs) k (element_of root r))
spent-within runs k run doc root r at old new less is words paid =
    let price : price_at run doc at ≡ element_price (map run_price runs) k (element_of root r) =
    ap (run_price run) words ∙ sym (priced-at runs k run (element_of root r) less is) in
    let own = element_price (map run_price runs) k (element_of root r) in
    elim (are_cheap (map run_meant runs)) as (λ b. are_cheap (map run_meant runs) ≡ b → cond b new 0 ≤ cond b old 0 + cond b own 0) [
      | true ↦ λ h. subst (λ n. new ≤ old + n) price (paid (cheap-at runs k run h less is))
      | false ↦ λ h. omega arith
    ] refl

pub skipped : (says : Judgement) (abbreviations : List (List ℕ)) (runs : List RunMeaning) (root : Numbered) (k : ℕ) (run : RunMeaning) (doc from to : ℕ) → get_or runs k run ≡ run
    → ((r : NodeRef) → is_there root r ≡ true → IsSpan (span_at root r) (document_at doc run.version)
    × (span_tokens (span_at root r) (document_at doc run.version) ≡ tokens abbreviations (element_of root r).node))
    → ((e : Element) → tokens_left abbreviations [] e ≡ tokens abbreviations e.node)
    → ((at : Span) → (1 ≤ at.from) × (at.from ≤ at.to) × (at.to ≤ token_count (document_at doc run.version) + 1)
    → from ≤ at.from → at.to ≤ to → says run.form run.lists (span_tokens at (document_at doc run.version)) ≡ false)
    → (r : NodeRef) → IsTrue (may_ask runs root k r) → from ≤ (span_at root r).from → (span_at root r).to ≤ to
    → is_meant says abbreviations (map run_meant runs) k [] (element_of root r) ≡ false
skipped says abbreviations runs root k run doc from to is at_span all none r asked suffix ahead =
    let here = at_span r (asked-there runs root k r asked) in
    met-at says abbreviations runs k run (element_of root r) (asked-run runs root k r asked) is (all (element_of root r))
    ∙ (ap (says run.form run.lists) (sym here.1) ∙ none (span_at root r) (here.0.first, here.0.order, here.0.last) suffix ahead)

-- ---- runs of plans over one version

over-all : (abbreviations : List (List ℕ)) (version : List indexed.Numbered) (plans : List PlanOf) (t : ℕ × Numbered) → Follows abbreviations version t.0 t.1
    → AreOver abbreviations (map (run_over version) plans) t
over-all abbreviations version [] t follows k d less = absurd (omega (arith, less))
over-all abbreviations version (plan ∷ plans) t follows zero d less = follows
over-all abbreviations version (plan ∷ plans) t follows (suc k) d less = over-all abbreviations version plans t follows k d (omega (arith, less))

pub over-each : (abbreviations : List (List ℕ)) (version : List indexed.Numbered) (plans : List PlanOf) (trees : List (ℕ × Numbered)) → FollowsEach abbreviations version trees
    → AreOverEach abbreviations (map (run_over version) plans) trees
over-each abbreviations version plans [] follow = tt
over-each abbreviations version plans (t ∷ trees) follow = (over-all abbreviations version plans t follow.0, over-each abbreviations version plans trees follow.1)
