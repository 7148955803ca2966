-- Documents with their version, one after the other of which is put as it is after an edit.
use Rattle.std.proofs.Common.{◌≡◌, ◌∙◌, subst, sym, ap, refl, ℕ, ◌+◌, ◌-◌, ◌<◌, ◌≤◌, arith, true, false, Bool, cond, ◌||◌, ◌==◌, List, [], ◌∷◌, ◌++◌, length, length-append, map, drop, append_assoc, Option, Some, None}
use Rattle.std.specs.Prelude.{nat_lt}
use Rattle.std.specs.List.{list_any}
use Rattle.std.proofs.lemmas.Bool.{cond-false, cond-true, eq-eqb, le-ltb, ne_eqb, or_parts}
use Rattle.std.proofs.lemmas.List.{drop_at, drop-drop, length-drop, map-append}
use Rattle.std.proofs.lemmas.List.Folds.{list_any-append}
use Rattle.std.proofs.lemmas.List.Sums.{sum_by-cons}
use Rattle.doc_grammar.specs.Limits.{height, node_count}
use Rattle.document_edits.specs.Targets.{places_of}
use Rattle.tree_edits.specs.Changed.{touched, KeepsOrder}
use Rattle.tree_edits.specs.declared.drafts.Draft.{Draft}
use Rattle.ft_base.specs.Limits.{max_depth, max_nodes, max_tokens}
use Rattle.ft_base.specs.declared.ids.DocId.{DocId}
use Rattle.ft_base.specs.declared.ids.NodeRef.{NodeRef}
use Rattle.index_meaning.specs.Documents.{Numbered, with_document}
use Rattle.index_updates.specs.Follows.{Follows, under_tree}
use Rattle.indexmap.specs.IndexMap.{set_value_at}
use Rattle.ordered_tree.specs.Counts.{word_count}
use Rattle.ordered_tree.specs.Numbered.{plain}
use Rattle.ordered_tree.specs.RefView.{ref_node}
use Rattle.ordered_tree.specs.Stored.{Stored}
use Rattle.path_meaning.specs.Collection.{Named}
use Rattle.plain_tree.specs.Document.{Node}
use Rattle.document_store.specs.Documents.{Edit, changed_roots, edited_documents, edited_root, limit_of, token_total, touched_in}
use Rattle.document_store.specs.Indexed.{FollowsEach}
use Rattle.document_store.specs.Loaded.{LoadedTree, to_document, tree_of, trees_of}
use Rattle.document_store.specs.Targets.{places_of_targets}
use Rattle.document_store.specs.declared.fault.NotEdited.{NotEdited}
use Rattle.document_store.specs.declared.fault.NotEdited.TheVariants as unedited
use Rattle.document_store.specs.declared.planning.Planned.{Planned}
use Rattle.document_store.specs.steps.Numbering.{Ascend, IsNumbered}
use Rattle.document_store.specs.steps.Planning.{root_after, ArePlanned, IsDrafted, IsPutAt}
use Rattle.document_store.proofs.NameLemmas.{all-at}
use Rattle.document_store.proofs.NumberingLemmas.{followed, follows-each}

abbrev Entries : Type 0
Entries = List (List ℕ × LoadedTree)

abbrev loaded_as : DocId → Stored → LoadedTree
loaded_as doc tree = record { doc = doc; tree = tree }

followed-append : (abbreviations : List (List ℕ)) (es fs : Entries) → followed abbreviations (es ++ fs) ≡ followed abbreviations es ++ followed abbreviations fs
followed-append abbreviations es fs =
    ap (map (under_tree abbreviations)) (map-append tree_of es fs) ∙ map-append (under_tree abbreviations) (trees_of es) (trees_of fs)

-- ---- one document with another tree

module _ (name : List ℕ) (doc : DocId) (before after : Stored) where
  abbrev was : List ℕ × LoadedTree
  was = (name, loaded_as doc before)

  abbrev is : List ℕ × LoadedTree
  is = (name, loaded_as doc after)

  pub low-at : (from : ℕ) (es rest : Entries) (to : ℕ) → Ascend from (es ++ was ∷ rest) to → from ≤ doc.0
  low-at from [] rest to up = up.0
  low-at from ((other, first) ∷ es) rest to up = let low = up.0 in let later = low-at (first.doc.0 + 1) es rest to up.1 in omega (arith, low, later)

  ascend-at : (from : ℕ) (es rest : Entries) (to : ℕ) → Ascend from (es ++ was ∷ rest) to → Ascend from (es ++ is ∷ rest) to
  ascend-at from [] rest to up = up
  ascend-at from ((other, first) ∷ es) rest to up = (up.0, ascend-at (first.doc.0 + 1) es rest to up.1)

  -- the tree in the place of the one of before, where the documents ahead stand under some abbreviations, and those behind under some
  pub with-at : (ahead behind abbreviations : List (List ℕ)) (from : ℕ) (es rest : Entries) (to : ℕ) → Ascend from (es ++ was ∷ rest) to
      → with_document (under_tree abbreviations (doc.0, after.root)) (followed ahead es ++ followed behind (was ∷ rest))
      ≡ followed ahead es ++ under_tree abbreviations (doc.0, after.root) ∷ followed behind rest
  with-at ahead behind abbreviations from [] rest to up =
      let new = under_tree abbreviations (doc.0, after.root) in
      let old = under_tree behind (doc.0, before.root) in
      let ds = followed behind rest in
      cond-false (nat_lt doc.0 doc.0) (new ∷ old ∷ ds) (cond (doc.0 == doc.0) (new ∷ ds) (old ∷ with_document new ds)) (le-ltb doc.0 doc.0 (omega arith))
      ∙ cond-true (doc.0 == doc.0) (new ∷ ds) (old ∷ with_document new ds) (eq-eqb doc.0 doc.0 refl)
  with-at ahead behind abbreviations from ((other, first) ∷ es) rest to up =
      let new = under_tree abbreviations (doc.0, after.root) in
      let d = under_tree ahead (tree_of (other, first)) in
      let ds = followed ahead es ++ followed behind (was ∷ rest) in
      let low = low-at (first.doc.0 + 1) es rest to up.1 in
      cond-false (nat_lt doc.0 first.doc.0) (new ∷ d ∷ ds) (cond (doc.0 == first.doc.0) (new ∷ ds) (d ∷ with_document new ds)) (le-ltb doc.0 first.doc.0 (omega (arith, low)))
      ∙ (cond-false (doc.0 == first.doc.0) (new ∷ ds) (d ∷ with_document new ds) (ne_eqb doc.0 first.doc.0 (λ same. omega (arith, low, same)))
      ∙ ap (λ l. d ∷ l) (with-at ahead behind abbreviations (first.doc.0 + 1) es rest to up.1))

  pub numbered-ahead : (abbreviations : List (List ℕ)) (draft : Draft) (es rest : Entries) (version next_version : List Numbered) (next : ℕ) → after.root ≡ ref_node draft.root
      → next_version ≡ with_document (under_tree abbreviations (doc.0, ref_node draft.root)) version → IsNumbered abbreviations (es ++ was ∷ rest) version next
      → IsNumbered abbreviations (es ++ is ∷ rest) next_version next
  numbered-ahead abbreviations draft es rest version next_version next root made held = record {
    ascend = ascend-at 0 es rest next held.ascend;
    follows = made
        ∙ (ap (λ r. with_document (under_tree abbreviations (doc.0, r)) version) (sym root)
        ∙ (ap (with_document (under_tree abbreviations (doc.0, after.root))) (held.follows ∙ followed-append abbreviations es (was ∷ rest))
        ∙ (with-at abbreviations abbreviations abbreviations 0 es rest next held.ascend ∙ sym (followed-append abbreviations es (is ∷ rest)))));
  }

-- the version follows a document that stands after others
pub follows-at : (abbreviations : List (List ℕ)) (es : Entries) (name : List ℕ) (loaded : LoadedTree) (rest : Entries) (version : List Numbered) (next : ℕ)
    → IsNumbered abbreviations (es ++ (name, loaded) ∷ rest) version next → Follows abbreviations version loaded.doc.0 loaded.tree.root
follows-at abbreviations es name loaded rest version next held =
    all-at (λ t. Follows abbreviations version t.0 t.1) (trees_of es) (tree_of (name, loaded)) (trees_of rest)
    (subst (FollowsEach abbreviations version) (map-append tree_of es ((name, loaded) ∷ rest)) (follows-each abbreviations (es ++ (name, loaded) ∷ rest) version next held))

-- ---- limits

abbrev pub by_tests : Bool → Bool → Bool → Option NotEdited
by_tests deep many long = cond deep (Some unedited.TooDeep) (cond many (Some unedited.TooManyNodes) (cond long (Some unedited.TooManyTokens) None))

within-tests : (deep many long : Bool) → by_tests deep many long ≡ None → (deep ≡ false) × ((many ≡ false) × (long ≡ false))
within-tests true many long is = let no : ⊥ = cc in absurd no
within-tests false true long is = let no : ⊥ = cc in absurd no
within-tests false false true is = let no : ⊥ = cc in absurd no
within-tests false false false is = (refl, (refl, refl))

abbrev deep : Node → Bool
deep root = nat_lt max_depth (height root)

abbrev many : Node → Bool
many root = nat_lt max_nodes (node_count root)

abbrev long : Node → Bool
long root = nat_lt max_tokens (word_count root)

split-any : (test : Node → Bool) (xs ys : List Node) → list_any test (xs ++ ys) ≡ false → (list_any test xs ≡ false) × (list_any test ys ≡ false)
split-any test xs ys none = or_parts (list_any test xs) (list_any test ys) (sym (list_any-append test xs ys) ∙ none)

none-tests : (a b c : Bool) → a ≡ false → b ≡ false → c ≡ false → by_tests a b c ≡ None
none-tests a b c ha hb hc = ap (λ t. by_tests t b c) ha ∙ (ap (λ t. by_tests false t c) hb ∙ ap (λ t. by_tests false false t) hc)

pub limit-parts : (xs ys : List Node) → limit_of (xs ++ ys) ≡ None → (limit_of xs ≡ None) × (limit_of ys ≡ None)
limit-parts xs ys none =
    let tests = within-tests (list_any deep (xs ++ ys)) (list_any many (xs ++ ys)) (list_any long (xs ++ ys)) none in
    let d = split-any deep xs ys tests.0 in
    let m = split-any many xs ys tests.1.0 in
    let l = split-any long xs ys tests.1.1 in
    (none-tests (list_any deep xs) (list_any many xs) (list_any long xs) d.0 m.0 l.0, none-tests (list_any deep ys) (list_any many ys) (list_any long ys) d.1 m.1 l.1)

-- the tests of each document's root are those of all roots
any-after : (test : Node → Bool) (ps : List Planned) → list_any test (map root_after ps) ≡ list_any (λ p. test (root_after p)) ps
any-after test [] = refl
any-after test (p ∷ ps) = ap (λ b. test (root_after p) || b) (any-after test ps)

module _ (ps : List Planned) where
  abbrev is_deep : Bool
  is_deep = list_any (λ p. deep (root_after p)) ps

  abbrev has_many : Bool
  has_many = list_any (λ p. many (root_after p)) ps

  abbrev is_long : Bool
  is_long = list_any (λ p. long (root_after p)) ps

  limit-by : limit_of (map root_after ps) ≡ by_tests is_deep has_many is_long
  limit-by =
      ap (λ t. by_tests t (list_any many (map root_after ps)) (list_any long (map root_after ps))) (any-after deep ps)
      ∙ (ap (λ t. by_tests is_deep t (list_any long (map root_after ps))) (any-after many ps) ∙ ap (by_tests is_deep has_many) (any-after long ps))

  pub limit-deep : is_deep ≡ true → limit_of (map root_after ps) ≡ Some unedited.TooDeep
  limit-deep d = limit-by ∙ ap (λ t. by_tests t has_many is_long) d

  pub limit-nodes : is_deep ≡ false → has_many ≡ true → limit_of (map root_after ps) ≡ Some unedited.TooManyNodes
  limit-nodes d m = limit-by ∙ (ap (λ t. by_tests t has_many is_long) d ∙ ap (λ t. by_tests false t is_long) m)

  pub limit-tokens : is_deep ≡ false → has_many ≡ false → is_long ≡ true → limit_of (map root_after ps) ≡ Some unedited.TooManyTokens
  limit-tokens d m l = limit-by ∙ (ap (λ t. by_tests t has_many is_long) d ∙ (ap (λ t. by_tests false t is_long) m ∙ ap (λ t. by_tests false false t) l))

  pub limit-none : is_deep ≡ false → has_many ≡ false → is_long ≡ false → limit_of (map root_after ps) ≡ None
  limit-none d m l = limit-by ∙ (ap (λ t. by_tests t has_many is_long) d ∙ (ap (λ t. by_tests false t is_long) m ∙ ap (λ t. by_tests false false t) l))

-- ---- the documents after those that were looked at

abbrev Lists : Type 0
Lists = List (List NodeRef)

abbrev places : Entries → Lists → List (List (List ℕ))
places entries lists = places_of_targets (trees_of entries) lists

abbrev edited : Edit → Entries → Lists → List Named
edited edit es lists = edited_documents edit (places es lists) (map to_document es)

abbrev words : Edit → Entries → Lists → ℕ
words edit es lists = touched_in edit (places es lists) (map to_document es)

-- The roots after the edit are those of the drafts.
pub roots-planned : (edit : Edit) (at : ℕ) (es : Entries) (lists : Lists) (ps : List Planned) → ArePlanned edit at es lists ps
    → map root_after ps ≡ changed_roots edit (places es lists) (map to_document es)
roots-planned edit at [] lists ps plans = ap (map root_after) plans
roots-planned edit at (e ∷ es) [] ps plans = absurd plans
roots-planned edit at (e ∷ es) ([] ∷ lists) ps plans = roots-planned edit (at + 1) es lists ps plans
roots-planned edit at (e ∷ es) ((r ∷ refs) ∷ lists) [] plans = absurd plans
roots-planned edit at (e ∷ es) ((r ∷ refs) ∷ lists) (p ∷ ps) plans =
    ap (λ n. n ∷ map root_after ps) plans.1.0.ahead
    ∙ ap (λ ns. edited_root edit (places_of e.1.tree.root (r ∷ refs)) (plain e.1.tree.root) ∷ ns) (roots-planned edit (at + 1) es lists ps plans.1.1)

-- Where no draft is left the documents stay.
pub none-left : (edit : Edit) (at : ℕ) (es : Entries) (lists : Lists) → ArePlanned edit at es lists [] → edited edit es lists ≡ map to_document es
none-left edit at [] lists plans = refl
none-left edit at (e ∷ es) [] plans = absurd plans
none-left edit at (e ∷ es) ([] ∷ lists) plans = ap (λ ds. to_document e ∷ ds) (none-left edit (at + 1) es lists plans)
none-left edit at (e ∷ es) ((r ∷ refs) ∷ lists) plans = absurd plans

-- The document of the next draft stands after some that stay.
pub record Reached (edit : Edit) (at : ℕ) (es : Entries) (lists : Lists) (p : Planned) (ps : List Planned) : Type 0 where
  pub prefix : Entries
  pub name : List ℕ
  pub loaded : LoadedTree
  pub back : Entries
  pub refs : List NodeRef
  pub left : Lists
  pub split : es ≡ prefix ++ (name, loaded) ∷ back
  pub place : p.at ≡ at + length prefix
  pub drafted : IsDrafted edit loaded.tree.root refs p.draft
  pub planned : ArePlanned edit (p.at + 1) back left ps
  pub after : edited edit es lists ≡ map to_document prefix ++ record { name = name; root = root_after p } ∷ edited edit back left
  pub costs : words edit es lists ≡ touched loaded.tree.root (ref_node p.draft.root) + words edit back left

pub reached : (edit : Edit) (at : ℕ) (es : Entries) (lists : Lists) (p : Planned) (ps : List Planned) → ArePlanned edit at es lists (p ∷ ps) → Reached edit at es lists p ps
reached edit at [] lists p ps plans = let no : ⊥ = cc in absurd no
reached edit at (e ∷ es) [] p ps plans = absurd plans
reached edit at (e ∷ es) ([] ∷ lists) p ps plans =
    let later = reached edit (at + 1) es lists p ps plans in
    let place = later.place in
    let rest : words edit es lists ≡ touched later.loaded.tree.root (ref_node p.draft.root) + words edit later.back later.left = later.costs in
    record {
      prefix = e ∷ later.prefix;
      name = later.name;
      loaded = later.loaded;
      back = later.back;
      refs = later.refs;
      left = later.left;
      split = ap (λ fs. e ∷ fs) later.split;
      place = omega (arith, place);
      drafted = later.drafted;
      planned = later.planned;
      after = ap (λ ds. to_document e ∷ ds) later.after;
      costs = omega (arith, rest);
    }
reached edit at (e ∷ es) ((r ∷ refs) ∷ lists) p ps plans = record {
  prefix = [];
  name = e.0;
  loaded = e.1;
  back = es;
  refs = r ∷ refs;
  left = lists;
  split = refl;
  place = let here = plans.0 in omega (arith, here);
  drafted = plans.1.0;
  planned = subst (λ k. ArePlanned edit (k + 1) es lists ps) (sym plans.0) plans.1.1;
  after = ap (λ n. record { name = e.0; root = n } ∷ edited edit es lists) (sym plans.1.0.ahead);
  costs = ap (λ n. n + words edit es lists) (sym plans.1.0.words);
}

-- ---- one document after the other

head-same : {X : Type 0} (x : X) (xs : List X) (y : X) (ys : List X) → x ∷ xs ≡ y ∷ ys → x ≡ y
head-same x xs y ys both = let one : x ≡ y = cc in one

tail-same : {X : Type 0} (x : X) (xs : List X) (y : X) (ys : List X) → x ∷ xs ≡ y ∷ ys → xs ≡ ys
tail-same x xs y ys both = let one : xs ≡ ys = cc in one

-- another document in the place after some
set-ahead : (es : Entries) (name : List ℕ) (before after : LoadedTree) (rest : Entries) → set_value_at (es ++ (name, before) ∷ rest) (length es) after ≡ es ++ (name, after) ∷ rest
set-ahead [] name before after rest = refl
set-ahead (e ∷ es) name before after rest = ap (λ fs. e ∷ fs) (set-ahead es name before after rest)

-- its tokens in place of those of before
total-ahead : (es : Entries) (name : List ℕ) (loaded : LoadedTree) (rest : Entries)
    → token_total (map to_document (es ++ (name, loaded) ∷ rest))
    ≡ token_total (map to_document (es ++ rest)) + word_count (plain loaded.tree.root)
total-ahead [] name loaded rest =
    let first = sum_by-cons (λ (d : Named). word_count d.root) (to_document (name, loaded)) (map to_document rest) in omega (arith, first)
total-ahead (e ∷ es) name loaded rest =
    let later = total-ahead es name loaded rest in
    let here = sum_by-cons (λ (d : Named). word_count d.root) (to_document e) (map to_document (es ++ (name, loaded) ∷ rest)) in
    let there = sum_by-cons (λ (d : Named). word_count d.root) (to_document e) (map to_document (es ++ rest)) in
    omega (arith, later, here, there)

module _ (abbreviations : List (List ℕ)) (edit : Edit) (all : Entries) (targets : Lists) (version : List Numbered) (rows : ℕ) where
  -- The documents before a place are as they are after the edit, in the version too; those from it on are as they were, and the drafts that are left are theirs.
  pub record Applied (now : Entries) (made : List Numbered) (counted now_rows : ℕ) (rest : List Planned) : Type 0 where
    pub done : Entries
    pub left : Entries
    pub lists : Lists
    pub split : now ≡ done ++ left
    pub suffix : drop (length done) all ≡ left
    pub planned : ArePlanned edit (length done) left lists rest
    pub numbered : (next : ℕ) → IsNumbered abbreviations all version next → IsNumbered abbreviations now made next
    pub after : map to_document done ++ edited edit left lists ≡ edited edit all targets
    pub total : counted ≡ token_total (map to_document now)
    pub most : now_rows + words edit left lists ≤ rows + words edit all targets
    pub limits : limit_of (map root_after rest) ≡ None

  pub applied-first : (total : ℕ) (ps : List Planned) → ArePlanned edit 0 all targets ps → total ≡ token_total (map to_document all) → limit_of (map root_after ps) ≡ None
      → Applied all version total rows ps
  applied-first total ps plans counted limits = record {
    done = [];
    left = all;
    lists = targets;
    split = refl;
    suffix = refl;
    planned = plans;
    numbered = λ next held. held;
    after = refl;
    total = counted;
    most = omega arith;
    limits = limits;
  }

  pub applied-last : (now : Entries) (made : List Numbered) (counted now_rows : ℕ) → Applied now made counted now_rows [] → map to_document now ≡ edited edit all targets
  applied-last now made counted now_rows held =
      ap (map to_document) held.split
      ∙ (map-append to_document held.done held.left
      ∙ (ap (λ ds. map to_document held.done ++ ds) (sym (none-left edit (length held.done) held.left held.lists held.planned)) ∙ held.after))

  -- ---- the next one

  module _ (now : Entries) (made : List Numbered) (counted now_rows : ℕ) (p : Planned) (ps : List Planned) (held : Applied now made counted now_rows (p ∷ ps)) where
    next : Reached edit (length held.done) held.left held.lists p ps
    next = reached edit (length held.done) held.left held.lists p ps held.planned

    abbrev before : Entries
    before = held.done ++ next.prefix

    now-is : now ≡ before ++ (next.name, next.loaded) ∷ next.back
    now-is = held.split ∙ (ap (λ es. held.done ++ es) next.split ∙ sym (append_assoc held.done next.prefix ((next.name, next.loaded) ∷ next.back)))

    before-long : length before ≡ p.at
    before-long = length-append held.done next.prefix ∙ sym next.place

    from-place : drop p.at all ≡ (next.name, next.loaded) ∷ next.back
    from-place =
        ap (λ k. drop k all) next.place
        ∙ (sym (drop-drop (length next.prefix) (length held.done) all)
        ∙ (ap (drop (length next.prefix)) (held.suffix ∙ next.split) ∙ drop_at next.prefix ((next.name, next.loaded) ∷ next.back) (length next.prefix) refl))

    pub place-there : (p.at < length all) × (p.at < length now)
    place-there =
        let some : length (drop p.at all) ≡ length ((next.name, next.loaded) ∷ next.back) = ap length from-place in
        let long = length-drop p.at all in
        let split : length now ≡ length (before ++ (next.name, next.loaded) ∷ next.back) = ap length now-is in
        let parts = length-append before ((next.name, next.loaded) ∷ next.back) in
        let prefix = before-long in
        (omega (arith, some, long), omega (arith, split, parts, prefix))

    module _ (name : List ℕ) (document : LoadedTree) (found : drop p.at all ≡ (name, document) ∷ drop (p.at + 1) all) where
      same-entry : ◌≡◌ {A = List ℕ × LoadedTree} (name, document) (next.name, next.loaded)
      same-entry = head-same (name, document) (drop (p.at + 1) all) (next.name, next.loaded) next.back (sym found ∙ from-place)

      same-document : document ≡ next.loaded
      same-document = ap (λ (e : List ℕ × LoadedTree). e.1) same-entry

      ahead : drop (p.at + 1) all ≡ next.back
      ahead = tail-same (name, document) (drop (p.at + 1) all) (next.name, next.loaded) next.back (sym found ∙ from-place)

      pub next-follows : (number : ℕ) → IsNumbered abbreviations all version number → Follows abbreviations made document.doc.0 document.tree.root
      next-follows number numbered =
          subst (λ (l : LoadedTree). Follows abbreviations made l.doc.0 l.tree.root) (sym same-document)
          (follows-at abbreviations before next.name next.loaded next.back made number
          (subst (λ es. IsNumbered abbreviations es made number) now-is (held.numbered number numbered)))

      pub next-order : KeepsOrder document.tree.root (ref_node p.draft.root)
      next-order = subst (λ (l : LoadedTree). KeepsOrder l.tree.root (ref_node p.draft.root)) (sym same-document) next.drafted.keeps_order

      pub next-counted : word_count (plain document.tree.root) ≤ counted
      next-counted =
          let total = held.total ∙ (ap (λ es. token_total (map to_document es)) now-is ∙ total-ahead before next.name next.loaded next.back) in
          let same = ap (λ (l : LoadedTree). word_count (plain l.tree.root)) same-document in
          omega (arith, total, same)

      pub next-touched : (more : ℕ) → more ≤ now_rows + touched document.tree.root (ref_node p.draft.root) → more ≤ rows + words edit all targets
      next-touched more most =
          let same = ap (λ (l : LoadedTree). touched l.tree.root (ref_node p.draft.root)) same-document in
          let parts = next.costs in
          let whole = held.most in
          omega (arith, most, same, parts, whole)

      pub applied-next : (now' : Entries) (made' : List Numbered) (counted' more : ℕ) → IsPutAt now document.doc p now'
          → made' ≡ with_document (under_tree abbreviations (document.doc.0, ref_node p.draft.root)) made
          → counted' ≡ counted - word_count (plain document.tree.root) + word_count (root_after p)
          → more ≤ now_rows + touched document.tree.root (ref_node p.draft.root) → Applied now' made' counted' more ps
      applied-next now' made' counted' more put version' words' most =
          let old : LoadedTree = next.loaded in
          let new : List ℕ × LoadedTree = (next.name, loaded_as old.doc put.tree) in
          let doc_same : document.doc ≡ old.doc = ap (λ (l : LoadedTree). l.doc) same-document in
          let root_same : document.tree.root ≡ old.tree.root = ap (λ (l : LoadedTree). l.tree.root) same-document in
          let changed : now' ≡ before ++ new ∷ next.back =
          put.entries
          ∙ (ap (λ es. set_value_at es p.at (loaded_as document.doc put.tree)) now-is
          ∙ (ap (λ k. set_value_at (before ++ (next.name, old) ∷ next.back) k (loaded_as document.doc put.tree)) (sym before-long)
          ∙ (set-ahead before next.name old (loaded_as document.doc put.tree) next.back ∙ ap (λ d. before ++ (next.name, loaded_as d put.tree) ∷ next.back) doc_same))) in
          let joined : now' ≡ (before ++ new ∷ []) ++ next.back = changed ∙ sym (append_assoc before (new ∷ []) next.back) in
          let longer : length (before ++ new ∷ []) ≡ p.at + 1 = length-append before (new ∷ []) ∙ ap (λ k. k + 1) before-long in
          let place : made' ≡ with_document (under_tree abbreviations (old.doc.0, ref_node p.draft.root)) made =
          version' ∙ ap (λ (d : DocId). with_document (under_tree abbreviations (d.0, ref_node p.draft.root)) made) doc_same in
          let count : word_count (plain document.tree.root) ≡ word_count (plain old.tree.root) = ap (λ r. word_count (plain r)) root_same in
          let before_total = held.total ∙ (ap (λ es. token_total (map to_document es)) now-is ∙ total-ahead before next.name old next.back) in
          let after_total = ap (λ es. token_total (map to_document es)) changed ∙ total-ahead before next.name (loaded_as old.doc put.tree) next.back in
          let new_count : word_count (plain put.tree.root) ≡ word_count (root_after p) = ap (λ r. word_count (plain r)) put.root in
          let touch : touched document.tree.root (ref_node p.draft.root) ≡ touched old.tree.root (ref_node p.draft.root) = ap (λ r. touched r (ref_node p.draft.root)) root_same in
          let parts = next.costs in
          let whole = held.most in
          record {
            done = before ++ new ∷ [];
            left = next.back;
            lists = next.left;
            split = joined;
            suffix = ap (λ k. drop k all) longer ∙ ahead;
            planned = subst (λ k. ArePlanned edit k next.back next.left ps) (sym longer) next.planned;
            numbered = λ number numbered.
                subst (λ es. IsNumbered abbreviations es made' number) (sym changed)
                (numbered-ahead next.name old.doc old.tree put.tree abbreviations p.draft before next.back made made' number put.root place
                (subst (λ es. IsNumbered abbreviations es made number) now-is (held.numbered number numbered)));
            after = ap (λ ds. ds ++ edited edit next.back next.left) (map-append to_document before (new ∷ []))
                ∙ (append_assoc (map to_document before) (to_document new ∷ []) (edited edit next.back next.left)
                ∙ (ap (λ ds. ds ++ to_document new ∷ edited edit next.back next.left) (map-append to_document held.done next.prefix)
                ∙ (append_assoc (map to_document held.done) (map to_document next.prefix) (to_document new ∷ edited edit next.back next.left)
                ∙ (ap (λ r. map to_document held.done ++ (map to_document next.prefix ++ record { name = next.name; root = plain r } ∷ edited edit next.back next.left)) put.root
                ∙ (ap (λ ds. map to_document held.done ++ ds) (sym next.after) ∙ held.after)))));
            total = omega (arith, words', count, before_total, after_total, new_count);
            most = omega (arith, most, touch, parts, whole);
            limits = (limit-parts (root_after p ∷ []) (map root_after ps) held.limits).1;
          }
