-- Looking for a way that passes a test, and whether the present way is clean, kind by kind.
use Rattle.std.proofs.Common.{◌≡◌, refl, ap, sym, ◌∙◌, subst, ℕ, ◌<◌, ◌≤◌, List, [], ◌∷◌, ◌++◌, Bool, true, false, not, ◌&&◌, ◌||◌, cond, drop, length, get_or, arith}
use Rattle.std.specs.Prelude.{map, flat_map, Option, None, ⊤}
use Rattle.std.specs.List.{list_any, list_all}
use Rattle.std.proofs.lemmas.Bool.{and_parts}
use Rattle.std.proofs.Math.Seq.{drop-cons}
use Rattle.ft_base.specs.Lists.{is_not_empty}
use Rattle.ft_base.specs.declared.filter.Filter.{Filter}
use Rattle.ft_base.specs.declared.hit.Hit.{Hit}
use Rattle.all_matches.specs.declared.window.Window.{Window}
use Rattle.all_matches.specs.Chain.{Link, kept_by}
use Rattle.all_matches.specs.Filters.{passes, choices}
use Rattle.all_matches.specs.Ways.{Operator, either, together, apart, negated, through_filter, matches_of, ways_of, Way, one_hit, turned_about, by_filter, way_includes, clean_under, without_negation, is_plain, bare_match}
use Rattle.all_matches.proofs.BareWays.{bare_matches}
use Rattle.all_matches.proofs.ListTests.{list_any-map}
use Rattle.all_matches.proofs.PlainOperators.{plain-positive}
use Rattle.ft_operators.specs.declared.course.Course.{Course}
use Rattle.ft_operators.specs.declared.course.Windows.{Windows}
use Rattle.ft_operators.specs.Course.{asked_for, course_inside, firsts, filtered_on, stands_on, ways_on}
use Rattle.ft_operators.specs.Bounds.{everywhere}
use Rattle.ft_operators.specs.KeptBounds.{chain_bounds}
use Rattle.ft_operators.specs.declared.chain.Chain.{Chain}
use Rattle.ft_operators.specs.Chains.{all_kept, passes_now, clean_now, links_of, spare_filters, spare_hits, IsKept}
use Rattle.ft_operators.specs.Phrases.{PhraseState}
use Rattle.ft_operators.specs.Standing.{Frame, Standing, course_now, frame, at_prefix, one_on, includes_now, one_aims}
use Rattle.ft_operators.specs.steps.Cleaning.{tells, Searched, Searching, MayAsk, Asked, Deciding, Decided}
use Rattle.ft_operators.specs.Extents.{extent_beside, extent_of, extent_of_either}
use Rattle.ft_base.specs.declared.unit.TextUnit.TheVariants.{Words}
use Rattle.ft_operators.specs.steps.Measuring.{are_held, holds}
use Rattle.ft_operators.specs.steps.Forms.{phrase_of, choice_of, first_left, both_of, pairs_left, apart_of, apart_left, negation_of, negated_shape, sieve_of, sieve_left, chosen_left, choices_of, choices_at}
use Rattle.ft_operators.specs.steps.Walking.{Gathered, IsHeld, Moved, MayGoOn}
use Rattle.ft_operators.proofs.ChainLemmas.{kept_refl, kept_trans}
use Rattle.ft_operators.proofs.CourseLemmas.{kept_told}
use Rattle.ft_operators.proofs.ExtentLemmas.{held_apart, held_both, held_either, held_inside, held_negated, holds_both}
use Rattle.ft_operators.proofs.KeptLemmas.{kept_lies}
use Rattle.ft_operators.proofs.SieveLemmas.{fewer, lead_below, sieve_operand_there}

-- ---- looking for a way

found_here : (test : Way → Bool) (ways : List Way) → is_not_empty ways ≡ true → passes_now test ways ≡ true → true ≡ list_any test ways
found_here test [] there passes = cc
found_here test (way ∷ rest) there passes = ap (λ b. b || list_any test rest) (sym passes)

found_after : (test : Way → Bool) (ways : List Way) → is_not_empty ways ≡ true → passes_now test ways ≡ false → list_any test (drop 1 ways) ≡ list_any test ways
found_after test [] there fails = cc
found_after test (way ∷ rest) there fails = ap (λ b. b || list_any test rest) (sym fails)

found_nowhere : (test : Way → Bool) (ways : List Way) → is_not_empty ways ≡ false → false ≡ list_any test ways
found_nowhere test [] none = refl
found_nowhere test (way ∷ rest) none = cc

pub search_starts : (course : Course) (known : Type 0) (test : Way → Bool) (old now : Standing) (room now_room start end : ℕ) (answer : Bool) → Moved (at_prefix course old) now room now_room start end answer
    → Searching course known test old now room now_room start end answer
search_starts course known test old now room now_room start end answer m = record {
  same = ap frame m.stand;
  passed = λ k. ap (λ s. list_any test s.rest) m.stand;
  there_now = m.there;
  kept_room = m.kept_room;
  grown = m.grown;
}

module _ (course : Course) (known : Type 0) (test : Way → Bool) (old now : Standing) (room now_room start end : ℕ) (there : Bool)
    (l : Searching course known test old now room now_room start end there) where
  pub search_may : (first_room : ℕ) → old.shape.room ≤ first_room → first_room ≤ room → there ≡ true → MayGoOn now now_room
  search_may first_room fits grew is = record {
    there = sym l.there_now ∙ is;
    fits = let same = ap (λ f. f.shape.room) l.same in omega (arith, fits, grew, same, l.kept_room);
  }

  pub search_none : there ≡ false → Searched course known test old now room now_room start end false
  search_none none = record {
    same = l.same;
    found = λ k. found_nowhere test now.rest (sym l.there_now ∙ none) ∙ l.passed k;
    kept_room = l.kept_room;
    grown = l.grown;
  }

  -- the present way was tried, and the walk is where it was
  module _ (tried : Standing) (tried_room tried_end : ℕ) (same : tried ≡ now) (grew : now_room ≤ tried_room) (later : end ≤ tried_end) where
    pub search_found : there ≡ true → (known → passes_now test now.rest ≡ true) → Searched course known test old tried room tried_room start tried_end true
    search_found is passes = record {
      same = ap frame same ∙ l.same;
      found = λ k. found_here test now.rest (sym l.there_now ∙ is) (passes k) ∙ l.passed k;
      kept_room = omega (arith, grew, l.kept_room);
      grown = omega (arith, later, l.grown);
    }

    module _ (next : Standing) (next_room next_end : ℕ) (answer : Bool) (m : Moved (one_on tried) next tried_room next_room tried_end next_end answer) where
      pub search_on : there ≡ true → (known → passes_now test now.rest ≡ false) → Searching course known test old next room next_room start next_end answer
      search_on is fails =
          let to = m.stand ∙ ap one_on same in record {
            same = ap frame to ∙ l.same;
            passed = λ k. ap (λ s. list_any test s.rest) to ∙ found_after test now.rest (sym l.there_now ∙ is) (fails k) ∙ l.passed k;
            there_now = m.there;
            kept_room = omega (arith, grew, l.kept_room, m.kept_room);
            grown = omega (arith, later, l.grown, m.grown);
          }

      pub search_fewer : there ≡ true → length next.rest < length now.rest
      search_fewer is =
          let to = ap (λ s. length s.rest) (m.stand ∙ ap one_on same) in
          omega (arith, to, fewer now.rest (sym l.there_now ∙ is))

-- the includes that are held are those of the present way
pub held_kept : (kept : Hit → Bool) (held : List Hit) (ways : List Way) → is_not_empty ways ≡ true → held ≡ includes_now ways → list_all kept held ≡ passes_now (all_kept kept) ways
held_kept kept held [] there is = cc
held_kept kept held (way ∷ rest) there is = ap (list_all kept) is

pub kept_verdict : (kept : Hit → Bool) (now : Standing) (there : Bool) (mid_room new_room : ℕ) (held : List Hit) → MayGoOn now mid_room → IsHeld there now mid_room new_room held → there ≡ true
    → list_all kept held ≡ passes_now (all_kept kept) now.rest
kept_verdict kept now there mid_room new_room held may h is = held_kept kept held now.rest may.there (h.hits is may.there may.fits)

-- ---- whether the present way is clean, kind by kind

-- what is asked of what a node has inside, told of the node
pub may_inside : (inside node : Standing) (room filters hits : ℕ) → node ≡ inside → MayAsk node room filters hits → MayAsk inside room filters hits
may_inside inside node room filters hits is may = subst (λ s. MayAsk s room filters hits) is may

pub asked_inside : (course : Course) (inside inside_now node node_now : Standing) (before after : Chain) (room new_room start end : ℕ) (answer : Bool) → node ≡ inside → node_now ≡ inside_now
    → Asked course inside inside_now before after room new_room start end answer → Asked course node node_now before after room new_room start end answer
asked_inside course inside inside_now node node_now before after room new_room start end answer old new a = record {
  same = new ∙ a.same ∙ sym old;
  clean = λ told. a.clean (ap (λ s. tells course s.operator) (sym old) ∙ told) ∙ ap (λ s. clean_now (kept_by (links_of before)) s.rest) (sym old);
  kept = a.kept;
  kept_room = a.kept_room;
  grown = a.grown;
}

found_clean : (kept : Hit → Bool) (found : List Hit) → true ≡ clean_now kept (map one_hit found)
found_clean kept [] = refl
found_clean kept (hit ∷ rest) = refl

pub asked_phrase : (course : Course) (s : PhraseState) (node : Standing) (chain : Chain) (room start : ℕ) → node ≡ phrase_of s → Asked course node node chain chain room room start start true
asked_phrase course s node chain room start is = record {
  same = refl;
  clean = λ told. found_clean (kept_by (links_of chain)) s.rest ∙ ap (λ n. clean_now (kept_by (links_of chain)) n.rest) (sym is);
  kept = kept_refl chain;
  kept_room = omega arith;
  grown = omega arith;
}

-- what is told of an operator is told of its operands
pub tells_both : (course : Course) (left right : Operator) → tells course (either left right) ≡ true → (tells course left ≡ true) × (tells course right ≡ true)
tells_both course left right h =
    let parts = and_parts (is_plain left && is_plain right) (are_held course.extents (either left right) && holds course.beside (extent_beside Words (either left right))) h in
    let plain = and_parts (is_plain left) (is_plain right) parts.0 in
    let said = and_parts (are_held course.extents (either left right)) (holds course.beside (extent_beside Words (either left right))) parts.1 in
    let held = held_either left right course.extents said.0 in
    let out = holds_both course.beside (extent_beside Words left) (extent_beside Words right) said.1 in
    (λ i. plain.0 i && (held.0 i && out.0 i), λ i. plain.1 i && (held.1 i && out.1 i))

tells_apart : (course : Course) (left right : Operator) → tells course (apart left right) ≡ true → tells course left ≡ true
tells_apart course left right h =
    let parts = and_parts (without_negation left && without_negation right) (are_held course.extents (apart left right) && holds course.beside (extent_beside Words (apart left right))) h in
    let said = and_parts (are_held course.extents (apart left right)) (holds course.beside (extent_beside Words (apart left right))) parts.1 in
    let out = (holds_both course.beside (extent_of Words right) (extent_of_either (extent_beside Words left) (extent_beside Words right)) said.1).1 in
    λ i. plain-positive left (and_parts (without_negation left) (without_negation right) parts.0).0 i
    && ((held_apart left right course.extents said.0).0 i && (holds_both course.beside (extent_beside Words left) (extent_beside Words right) out).0 i)

tells_inside : (course : Course) (kind : Filter) (operand : Operator) → tells course (through_filter operand kind) ≡ true → tells course operand ≡ true
tells_inside course kind operand h =
    let parts = and_parts (is_plain operand) (are_held course.extents (through_filter operand kind) && holds course.beside (extent_beside Words operand)) h in
    let said = and_parts (are_held course.extents (through_filter operand kind)) (holds course.beside (extent_beside Words operand)) parts.1 in
    λ i. parts.0 i && (held_inside operand kind course.extents said.0 i && said.1 i)

apart_clean : (kept : Hit → Bool) (stands : Way → Bool) (xs : List Way) → clean_now kept xs ≡ clean_now kept (apart_left stands xs)
apart_clean kept stands [] = refl
apart_clean kept stands (x ∷ xs) = refl

pub asked_apart : (course : Course) (left right left_now : Standing) (before after : Chain) (room new_room start end : ℕ) (answer : Bool) → Asked course left left_now before after room new_room start end answer
    → Asked course (apart_of course left right) (apart_of course left_now right) before after room new_room start end answer
asked_apart course left right left_now before after room new_room start end answer a = record {
  same = ap (λ s. apart_of course s right) a.same;
  clean = λ told.
      a.clean (tells_apart course left.operator right.operator told)
      ∙ apart_clean (kept_by (links_of before)) (stands_on course right.operator) left.rest;
  kept = a.kept;
  kept_room = a.kept_room;
  grown = a.grown;
}

-- ---- two operands

clean_left : (kept : Hit → Bool) (xs all : List Way) → clean_now kept xs ≡ clean_now kept (first_left xs all)
clean_left kept [] all = refl
clean_left kept (x ∷ xs) all = refl

module _ (course : Course) (second : Bool) (left right : Standing) where
  pub asked_second : (right_now : Standing) (before after : Chain) (room new_room start end : ℕ) (answer : Bool) → second ≡ true → Asked course right right_now before after room new_room start end answer
      → Asked course (choice_of course second left right) (choice_of course second left right_now) before after room new_room start end answer
  asked_second right_now before after room new_room start end answer is a = record {
    same = ap (choice_of course second left) a.same;
    clean = λ told.
        a.clean (tells_both course left.operator right.operator told).1
        ∙ ap (λ b. clean_now (kept_by (links_of before)) (cond b right.rest (first_left left.rest (ways_on course right.operator)))) (sym is);
    kept = a.kept;
    kept_room = a.kept_room;
    grown = a.grown;
  }

  pub asked_first : (left_now : Standing) (before after : Chain) (room new_room start end : ℕ) (answer : Bool) → second ≡ false → Asked course left left_now before after room new_room start end answer
      → Asked course (choice_of course second left right) (choice_of course second left_now right) before after room new_room start end answer
  asked_first left_now before after room new_room start end answer is a = record {
    same = ap (λ l. choice_of course second l right) a.same;
    clean = λ told.
        a.clean (tells_both course left.operator right.operator told).0
        ∙ clean_left (kept_by (links_of before)) left.rest (ways_on course right.operator)
        ∙ ap (λ b. clean_now (kept_by (links_of before)) (cond b right.rest (first_left left.rest (ways_on course right.operator)))) (sym is);
    kept = a.kept;
    kept_room = a.kept_room;
    grown = a.grown;
  }

tells_pair : (course : Course) (left right : Operator) → tells course (together left right) ≡ true → (tells course left ≡ true) × (tells course right ≡ true)
tells_pair course left right h =
    let parts = and_parts (is_plain left && is_plain right) (are_held course.extents (together left right) && holds course.beside (extent_beside Words (together left right))) h in
    let plain = and_parts (is_plain left) (is_plain right) parts.0 in
    let said = and_parts (are_held course.extents (together left right)) (holds course.beside (extent_beside Words (together left right))) parts.1 in
    let held = held_both left right course.extents said.0 in
    let out = holds_both course.beside (extent_beside Words left) (extent_beside Words right) said.1 in
    (λ i. plain.0 i && (held.0 i && out.0 i), λ i. plain.1 i && (held.1 i && out.1 i))

pair_clean : (kept : Hit → Bool) (course : Course) (right : Operator) (xs ys : List Way) → is_not_empty (pairs_left course right xs ys) ≡ true
    → (clean_now kept xs && clean_now kept ys) ≡ clean_now kept (pairs_left course right xs ys)
pair_clean kept course right [] ys there = cc
pair_clean kept course right (a ∷ more) [] there = cc
pair_clean kept course right (a ∷ more) (b ∷ rest) there = refl

-- the right side is one on the course beside the left one, wherever that stands
module _ (course : Course) (left left_now : Standing) (right : List Way → Standing) (room filters hits : ℕ) (may : MayAsk (both_of course left (right left.rest)) room filters hits) where
  pub asked_barred : (before after : Chain) (new_room start end : ℕ) (answer : Bool) → answer ≡ false → Asked course left left_now before after room new_room start end answer
      → Asked course (both_of course left (right left.rest)) (both_of course left_now (right left_now.rest)) before after room new_room start end false
  asked_barred before after new_room start end answer is a = record {
    same = ap (λ l. both_of course l (right l.rest)) a.same;
    clean = λ told.
        let parts = tells_pair course left.operator (right left.rest).operator told in
        ap (λ b. b && clean_now (kept_by (links_of before)) (right left.rest).rest) (sym is ∙ a.clean parts.0)
        ∙ pair_clean (kept_by (links_of before)) course (right left.rest).operator left.rest (right left.rest).rest may.there;
    kept = a.kept;
    kept_room = a.kept_room;
    grown = a.grown;
  }

  pub asked_both : (right_now : List Way → Standing) (before between after : Chain) (first_room second_room new_room start middle end : ℕ) (first answer : Bool) → first ≡ true → first_room ≤ second_room
      → Asked course left left_now before between room first_room start middle first → Asked (course_now course left.rest) (right left.rest) (right_now left.rest) between after second_room new_room middle end answer
      → Asked course (both_of course left (right left.rest)) (both_of course left_now (right_now left_now.rest)) before after room new_room start end answer
  asked_both right_now before between after first_room second_room new_room start middle end first answer is more a b = record {
    same = ap (λ l. both_of course l (right_now l.rest)) a.same ∙ ap (both_of course left) b.same;
    clean = λ told.
        let parts = tells_pair course left.operator (right left.rest).operator told in
        b.clean parts.1
        ∙ ap (λ links. clean_now (kept_by links) (right left.rest).rest) a.kept.links
        ∙ ap (λ c. c && clean_now (kept_by (links_of before)) (right left.rest).rest) (sym is ∙ a.clean parts.0)
        ∙ pair_clean (kept_by (links_of before)) course (right left.rest).operator left.rest (right left.rest).rest may.there;
    kept = kept_trans before between after a.kept b.kept;
    kept_room = omega (arith, a.kept_room, more, b.kept_room);
    grown = omega (arith, a.grown, b.grown);
  }

-- a negated selection, wherever a walk through its operand stands
negation_by : Course → Bool → Frame → Standing
negation_by course there f = record {
  aims = one_aims negated f.aims;
  shape = negated_shape f.shape;
  operator = negated f.operator;
  rest = cond there (turned_about (matches_of course.item f.operator) ∷ []) [];
}

-- the course of what is asked under a chain
abbrev pub excludes_course : Course → List Link → Course
excludes_course course links = firsts course.item (chain_bounds links everywhere) course.extents course.beside

-- some Match has all its hits kept exactly where some way has
pub some_kept : (course : Course) (operator : Operator) (links : List Link) → tells course (negated operator) ≡ true
    → list_any (all_kept (kept_by links)) (ways_on (excludes_course course links) operator) ≡ list_any (λ m. list_all (kept_by links) m.includes) (matches_of course.item operator)
some_kept course operator links told =
    let parts = and_parts (without_negation operator) (are_held course.extents (negated operator) && holds course.beside (extent_beside Words operator)) told in
    let said = and_parts (are_held course.extents (negated operator)) (holds course.beside (extent_beside Words operator)) parts.1 in
    kept_told course.item (chain_bounds links everywhere) course.extents course.beside operator (kept_by links) (kept_lies links) (sym (held_negated operator course.extents) ∙ said.0) said.1
    ∙ sym (list_any-map (λ m. list_all (kept_by links) m.includes) bare_match (ways_of course.item operator))
    ∙ ap (list_any (λ m. list_all (kept_by links) m.includes)) (sym (bare_matches course.item operator parts.0))

-- the walk that was gone through may be on another course
pub asked_negated : (course : Course) (there : Bool) (operand now begun ended : Standing) (chain : Chain) (room new_room start end : ℕ) (answer : Bool) → is_not_empty ((negation_of course there operand).rest) ≡ true
    → frame begun ≡ frame operand → frame ended ≡ frame now → Searched (excludes_course course (links_of chain)) ⊤ (all_kept (kept_by (links_of chain))) begun ended room new_room start end answer
    → Asked course (negation_of course there operand) (negation_of course there now) chain chain room new_room start end (not answer)
unfolding negation_by
asked_negated course true operand now begun ended chain room new_room start end answer way first last s = record {
  same = ap (negation_by course true) (sym last ∙ s.same ∙ first);
  clean = λ told.
      ap not
      (s.found tt
      ∙ ap (λ f. list_any (all_kept (kept_by (links_of chain))) (ways_on (excludes_course course (links_of chain)) f.operator)) first
      ∙ some_kept course operand.operator (links_of chain) told);
  kept = kept_refl chain;
  kept_room = s.kept_room;
  grown = s.grown;
}
asked_negated course false operand now begun ended chain room new_room start end answer way first last s = cc

-- ---- a filter

pub kept_choices : (kind : Filter) (course : Course) (includes : List Hit) (lead : ℕ) → lead < length (choices_of kind course includes) → choices_of kind course includes ≡ asked_for course.windows (choices kind includes)
kept_choices kind course includes lead below = by_test (passes kind includes course.item) below
  where
    asked : List (Option Window)
    asked = asked_for course.windows (choices kind includes)

    by_test : (b : Bool) → lead < length (cond b asked []) → cond b asked [] ≡ asked
    by_test true below = refl
    by_test false below = absurd (omega (arith, below))

-- the filter as a link of a chain, with these includes and the choice of that number
abbrev pub link_with : Windows → Filter → ℕ → List Hit → Link
link_with windows kind lead hits = record { kind = kind; includes = hits; choice = get_or (asked_for windows (choices kind hits)) lead None }

choice_clean : (links : List Link) (kind : Filter) (way : Way) (cs : List (Option Window)) (lead : ℕ) (later : List Way) → lead < length cs
    → clean_now (kept_by links) (chosen_left kind way (drop lead cs) later) ≡ clean_under (kept_by links) (by_filter way kind (get_or cs lead None))
choice_clean links kind way cs lead later below = ap (λ ds. clean_now (kept_by links) (chosen_left kind way ds later)) (drop-cons cs lead None below)

sieve_clean : (links : List Link) (kind : Filter) (course : Course) (lead : ℕ) (ways : List Way) → is_not_empty (sieve_left kind course lead ways) ≡ true
    → clean_now (kept_by (link_with course.windows kind lead (includes_now ways) ∷ links)) ways ≡ clean_now (kept_by links) (sieve_left kind course lead ways)
sieve_clean links kind course lead [] there = cc
sieve_clean links kind course lead (way ∷ more) there =
    let below = lead_below kind course lead (way ∷ more) there in
    ap (λ cs. clean_under (kept_by links) (by_filter way kind (get_or cs lead None))) (sym (kept_choices kind course (way_includes way) lead below))
    ∙ sym (choice_clean links kind way (choices_at kind course way) lead (flat_map (filtered_on kind course) more) below)

pub lead_chosen : (kind : Filter) (course : Course) (lead : ℕ) (ways : List Way) → is_not_empty (sieve_left kind course lead ways) ≡ true → lead < length (asked_for course.windows (choices kind (includes_now ways)))
lead_chosen kind course lead [] there = cc
lead_chosen kind course lead (way ∷ more) there =
    let below = lead_below kind course lead (way ∷ more) there in
    subst (λ cs. lead < length cs) (kept_choices kind course (way_includes way) lead below) below

-- the includes before a filter, when nothing was held before them
module _ (course : Course) (kind : Filter) (lead : ℕ) (operand : Standing) (room filters hits cleared_room new_room : ℕ) (cleared held : List Hit) (may : MayAsk (sieve_of course kind lead operand) room filters hits)
    (none : cleared ≡ []) (same : cleared_room ≡ room) (g : Gathered operand cleared_room new_room cleared held) where
  operand_there : is_not_empty operand.rest ≡ true
  operand_there = sieve_operand_there kind course lead operand.rest may.there

  pub held_includes : held ≡ includes_now operand.rest
  held_includes =
      let size = ap length none in
      g.hits operand_there (omega (arith, size, same, may.fits)) ∙ ap (λ hits. hits ++ includes_now operand.rest) none

pub asked_filtered : (course : Course) (kind : Filter) (lead : ℕ) (operand now : Standing) (old pushed asked new : Chain) (held : List Hit) (room mid_room new_room start end : ℕ) (answer : Bool)
    → is_not_empty ((sieve_of course kind lead operand).rest) ≡ true → held ≡ includes_now operand.rest → room ≤ mid_room
    → links_of pushed ≡ link_with course.windows kind lead held ∷ links_of old
    → Asked (course_inside kind course) operand now pushed asked mid_room new_room start end answer → IsKept old new
    → Asked course (sieve_of course kind lead operand) (sieve_of course kind lead now) old new room new_room start end answer
asked_filtered course kind lead operand now old pushed asked new held room mid_room new_room start end answer there is grew put a kept = record {
  same = ap (sieve_of course kind lead) a.same;
  clean = λ told.
      a.clean (tells_inside course kind operand.operator told)
      ∙ ap (λ ls. clean_now (kept_by ls) operand.rest) (put ∙ ap (λ hits. link_with course.windows kind lead hits ∷ links_of old) is)
      ∙ sieve_clean (links_of old) kind course lead operand.rest there;
  kept = kept;
  kept_room = omega (arith, grew, a.kept_room);
  grown = a.grown;
}

-- ---- the first way that is clean

pub may_go_on : (course : Course) (now tried : Standing) (before after : Chain) (room filters hits new_room start end : ℕ) (verdict : Bool) → MayAsk now room filters hits
    → Asked course now tried before after room new_room start end verdict → MayGoOn tried new_room
may_go_on course now tried before after room filters hits new_room start end verdict may a =
    subst (λ s. MayGoOn s new_room) (sym a.same) record { there = may.there; fits = omega (arith, may.fits, a.kept_room) }

pub deciding_starts : (course : Course) (test : Way → Bool) (old now : Standing) (chain : Chain) (room now_room start end : ℕ) (answer : Bool) → Moved (at_prefix course old) now room now_room start end answer
    → Deciding course test old now chain chain room now_room start end answer
deciding_starts course test old now chain room now_room start end answer m = record {
  search = search_starts course (tells course old.operator ≡ true) test old now room now_room start end answer m;
  kept = kept_refl chain;
}

module _ (course : Course) (old now : Standing) (before after : Chain) (room now_room start end : ℕ) (there : Bool)
    (l : Deciding course (clean_under (kept_by (links_of before))) old now before after room now_room start end there) where
  pub deciding_may : old.shape.room ≤ room → old.shape.filters ≤ spare_filters before → old.shape.hits ≤ spare_hits before → there ≡ true → MayAsk now now_room (spare_filters after) (spare_hits after)
  deciding_may fits few_filters few_hits is =
      let same = ap (λ f. f.shape) l.search.same in
      let filters = ap (λ s. s.filters) same in
      let hits = ap (λ s. s.hits) same in
      record {
        there = sym l.search.there_now ∙ is;
        fits = (search_may course (tells course old.operator ≡ true) (clean_under (kept_by (links_of before))) old now room now_room start end there l.search room fits (omega arith) is).fits;
        filters = omega (arith, filters, few_filters, l.kept.filters);
        hits = omega (arith, hits, few_hits, l.kept.hits);
      }

  pub decided_none : there ≡ false → Decided course (clean_under (kept_by (links_of before))) old now before after room now_room start end false
  decided_none none = record {
    search = search_none course (tells course old.operator ≡ true) (clean_under (kept_by (links_of before))) old now room now_room start end there l.search none;
    kept = l.kept;
  }

  -- the present way was asked
  module _ (tried : Standing) (asked : Chain) (tried_room tried_end : ℕ) (verdict : Bool) (a : Asked course now tried after asked now_room tried_room end tried_end verdict) where
    verdict_is : tells course old.operator ≡ true → passes_now (clean_under (kept_by (links_of before))) now.rest ≡ verdict
    verdict_is told =
        ap (λ ls. clean_now (kept_by ls) now.rest) (sym l.kept.links) ∙ sym (a.clean (ap (λ f. tells course f.operator) l.search.same ∙ told))

    pub decided_here : there ≡ true → verdict ≡ true → Decided course (clean_under (kept_by (links_of before))) old tried before asked room tried_room start tried_end true
    decided_here is holds = record {
      search = search_found course (tells course old.operator ≡ true) (clean_under (kept_by (links_of before))) old now room now_room start end there l.search tried tried_room tried_end a.same a.kept_room a.grown is
          (λ told. verdict_is told ∙ holds);
      kept = kept_trans before after asked l.kept a.kept;
    }

    module _ (next : Standing) (next_room next_end : ℕ) (answer : Bool) (m : Moved (one_on tried) next tried_room next_room tried_end next_end answer) where
      pub deciding_on : there ≡ true → verdict ≡ false → Deciding course (clean_under (kept_by (links_of before))) old next before asked room next_room start next_end answer
      deciding_on is fails = record {
        search = search_on course (tells course old.operator ≡ true) (clean_under (kept_by (links_of before))) old now room now_room start end there l.search tried tried_room tried_end a.same a.kept_room a.grown
            next next_room next_end answer m is (λ told. verdict_is told ∙ fails);
        kept = kept_trans before after asked l.kept a.kept;
      }

      pub deciding_fewer : there ≡ true → length next.rest < length now.rest
      deciding_fewer is =
          search_fewer course (tells course old.operator ≡ true) (clean_under (kept_by (links_of before))) old now room now_room start end there l.search tried tried_room tried_end a.same a.kept_room a.grown
          next next_room next_end answer m is
