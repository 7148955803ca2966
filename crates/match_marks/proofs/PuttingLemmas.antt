-- Places that are put one after the other are those of what is shown.
use Rattle.std.proofs.Common.{◌≡◌, refl, sym, ap, subst, ◌∙◌, ℕ, zero, suc, ◌+◌, ◌<◌, ◌≤◌, Bool, true, false, ◌&&◌, cond, List, [], ◌∷◌, ◌++◌, map, flat_map, take, drop, get_or, length, append_assoc, arith, Global}
use Rattle.std.specs.declared.vec.Vec.{Vec}
use Rattle.std.specs.List.{All, list_all, sum_by}
use Rattle.std.proofs.lemmas.Bool.{and_parts}
use Rattle.std.proofs.lemmas.List.{append-nil, drop_all, drop_more, flat_map_more, map-append, take_all, take_more}
use Rattle.std.proofs.lemmas.List.Sums.{sum_by-cons}
use Rattle.std.proofs.lemmas.List.Elements.{All-cons, All-head, All-nil, All-tail}
use Rattle.ft_base.specs.Lists.{is_not_empty}
use Rattle.ft_base.specs.declared.hit.Hit.{Hit}
use Rattle.ft_base.specs.declared.span.Span.{Span}
use Rattle.all_matches.specs.Ways.{Way, way_includes}
use Rattle.best_hits.specs.Best.{spans_of}
use Rattle.ft_operators.specs.Standing.{includes_now}
use Rattle.plan_compiler.specs.ShownMeaning.{first_shown}
use Rattle.plan_runs.specs.OpenedParts.{MayHold, part_says}
use Rattle.plan_runs.specs.steps.OpenedOperators.{aims_of}
use Rattle.match_marks.specs.steps.ShownRuns.{Choosing, MayChoose, MayShow, Showing, choice_of, choosing, each_of, first_of, in_window, least_of, showing, walk_may}
use Rattle.match_marks.specs.steps.WindowRuns.{all_aims, phrase_may}
use Rattle.match_marks.specs.declared.shown.FirstRun.{FirstRun}
use Rattle.match_marks.specs.declared.shown.LeastRun.{LeastRun}
use Rattle.match_marks.specs.declared.shown.Shown.{Shown}
use Rattle.match_marks.specs.declared.shown.Shown as S
use Rattle.match_marks.specs.declared.shown.ShownRun.{ShownRun}
use Rattle.match_marks.specs.declared.shown.WindowRun.{WindowRun}
use Rattle.match_marks.proofs.ShownRunViews.{showing-And, showing-First, showing-Least, showing-Or, showing-Window}

-- ---- hits and ways

-- the places that a hit covers
abbrev place_of : Hit → Span
place_of hit = record { from = hit.from; to = suc hit.to }

way_next : (n : ℕ) (ways : List Way) → is_not_empty (drop n ways) ≡ true → flat_map way_includes (take (suc n) ways) ≡ flat_map way_includes (take n ways) ++ includes_now (drop n ways)
way_next zero [] there = cc
way_next (suc n) [] there = cc
way_next zero (way ∷ rest) there = append-nil (way_includes way)
way_next (suc n) (way ∷ rest) there =
    ap (λ hits. way_includes way ++ hits) (way_next n rest there) ∙ sym (append_assoc (way_includes way) (flat_map way_includes (take n rest)) (includes_now (drop n rest)))

way_more : (n : ℕ) (ways : List Way) → is_not_empty (drop n ways) ≡ true → flat_map way_includes (take (n + 1) ways) ≡ flat_map way_includes (take n ways) ++ includes_now (drop n ways)
way_more n ways there = let one : n + 1 ≡ suc n = omega arith in ap (λ k. flat_map way_includes (take k ways)) one ∙ way_next n ways there

-- the places of one way more
pub spans_more : (before spans after : List Span) (n : ℕ) (ways : List Way) → is_not_empty (drop n ways) ≡ true → spans ≡ before ++ spans_of (flat_map way_includes (take n ways))
    → after ≡ spans ++ spans_of (includes_now (drop n ways)) → after ≡ before ++ spans_of (flat_map way_includes (take (n + 1) ways))
spans_more before spans after n ways there are put =
    put
    ∙ ap (λ list. list ++ spans_of (includes_now (drop n ways))) are
    ∙ append_assoc before (spans_of (flat_map way_includes (take n ways))) (spans_of (includes_now (drop n ways)))
    ∙ ap (λ list. before ++ list) (sym (map-append place_of (flat_map way_includes (take n ways)) (includes_now (drop n ways))) ∙ ap spans_of (sym (way_more n ways there)))

-- where no way is left, more of them are the same
pub ways_end : (n most : ℕ) (ways : List Way) → is_not_empty (drop n ways) ≡ false → n ≤ most → take n ways ≡ take most ways
ways_end zero zero [] none h = refl
ways_end zero (suc most) [] none h = refl
ways_end (suc n) zero [] none h = refl
ways_end (suc n) (suc most) [] none h = refl
ways_end zero most (way ∷ rest) none h = cc
ways_end (suc n) zero (way ∷ rest) none h = absurd (omega (arith, h))
ways_end (suc n) (suc most) (way ∷ rest) none h = ap (λ list. way ∷ list) (ways_end n most rest none (omega (arith, h)))

-- ---- parts

pub each_more : (f : Showing → List Span) (before spans after : List Span) (views : List Showing) (n : ℕ) (view : Showing) → n < length views → view ≡ get_or views n view
    → spans ≡ before ++ flat_map f (take n views) → after ≡ spans ++ f view → after ≡ before ++ flat_map f (take (n + 1) views)
each_more f before spans after views n view h is are put =
    put
    ∙ ap (λ list. list ++ f view) are
    ∙ flat_map_more f before (take n views) view
    ∙ ap (λ v. before ++ flat_map f (take n views ++ v ∷ [])) is
    ∙ ap (λ list. before ++ flat_map f list) (sym (take_more views n view h))

pub each_end : (f : Showing → List Span) (before spans : List Span) (views : List Showing) (n : ℕ) → length views ≤ n → spans ≡ before ++ flat_map f (take n views) → spans ≡ before ++ flat_map f views
each_end f before spans views n h are = are ∙ ap (λ list. before ++ flat_map f list) (take_all n views h)

-- of parts from one on, what is shown is of this one if it holds, and else of those after it
choice_at : (doc : ℕ) (span : Span) (views : List Choosing) (n : ℕ) (view : Choosing) → n < length views → view ≡ get_or views n view
    → (choice_of (drop n views)).spans doc span ≡ cond (part_says view.own doc span) (view.spans doc span) ((choice_of (drop (n + 1) views)).spans doc span)
choice_at doc span views n view h is =
    ap (λ list. (choice_of list).spans doc span) (drop_more views n view h)
    ∙ ap (λ (v : Choosing). cond (part_says v.own doc span) (v.spans doc span) ((choice_of (drop (n + 1) views)).spans doc span)) (sym is)

choice_end : (doc : ℕ) (span : Span) (views : List Choosing) (n : ℕ) → length views ≤ n → [] ≡ (choice_of (drop n views)).spans doc span
choice_end doc span views n h = sym (ap (λ list. (choice_of list).spans doc span) (drop_all n views h))

module _ (doc : ℕ) (span : Span) (before spans after : List Span) (views : List Choosing) (n : ℕ) (view : Choosing) (holds : Bool) (h : n < length views) (is : view ≡ get_or views n view)
    (none : spans ≡ before) (put : after ≡ spans ++ cond holds (view.spans doc span) []) (says : holds ≡ part_says view.own doc span)
    (rest : (choice_of (drop n views)).spans doc span ≡ (choice_of views).spans doc span) where
  -- this one holds
  pub choice_taken : holds ≡ true → after ≡ before ++ (choice_of views).spans doc span
  choice_taken true_one =
      put
      ∙ (λ i. none i ++ cond (true_one i) (view.spans doc span) [])
      ∙ ap (λ list. before ++ list)
      (sym (choice_at doc span views n view h is ∙ (λ i. cond ((sym says ∙ true_one) i) (view.spans doc span) ((choice_of (drop (n + 1) views)).spans doc span))) ∙ rest)

  -- it doesn't
  pub choice_passed : holds ≡ false → after ≡ before
  choice_passed false_one = put ∙ (λ i. none i ++ cond (false_one i) (view.spans doc span) []) ∙ append-nil before

  pub choice_left : holds ≡ false → (choice_of (drop (n + 1) views)).spans doc span ≡ (choice_of views).spans doc span
  choice_left false_one =
      sym (choice_at doc span views n view h is ∙ (λ i. cond ((sym says ∙ false_one) i) (view.spans doc span) ((choice_of (drop (n + 1) views)).spans doc span))) ∙ rest

-- none of them holds
pub choice_ended : (doc : ℕ) (span : Span) (before spans : List Span) (views : List Choosing) (n : ℕ) → length views ≤ n → spans ≡ before
    → (choice_of (drop n views)).spans doc span ≡ (choice_of views).spans doc span → spans ≡ before ++ (choice_of views).spans doc span
choice_ended doc span before spans views n h none rest =
    none ∙ sym (append-nil before) ∙ ap (λ list. before ++ list) (choice_end doc span views n h ∙ rest)

-- ---- of several that may be aimed, each may

all-left : {X : Type 0} (P : X → Type 0) (xs ys : List X) → All P (xs ++ ys) → All P xs
all-left P [] ys h = All-nil P
all-left P (x ∷ xs) ys h = All-cons P x xs (All-head P x (xs ++ ys) h) (all-left P xs ys (All-tail P x (xs ++ ys) h))

all-right : {X : Type 0} (P : X → Type 0) (xs ys : List X) → All P (xs ++ ys) → All P ys
all-right P [] ys h = h
all-right P (x ∷ xs) ys h = all-right P xs ys (All-tail P x (xs ++ ys) h)

module _ (doc : ℕ) (span : Span) where
  pub each_may_at : (views : List Showing) (n : ℕ) (view : Showing) → n < length views → view ≡ get_or views n view → MayShow doc span (each_of views) → MayShow doc span view
  each_may_at [] n view h is may = absurd (omega (arith, h))
  each_may_at (first ∷ rest) zero view h is may =
      let parts = and_parts (first.may doc span) (list_all (λ (s : Showing). s.may doc span) rest) may.walks in
      subst (MayShow doc span) (sym is) (record { walks = parts.0; parts = all-left (MayHold doc span) first.parts (flat_map (λ (s : Showing). s.parts) rest) may.parts })
  each_may_at (first ∷ rest) (suc n) view h is may =
      let parts = and_parts (first.may doc span) (list_all (λ (s : Showing). s.may doc span) rest) may.walks in
      each_may_at rest n view (omega (arith, h)) is (record { walks = parts.1; parts = all-right (MayHold doc span) first.parts (flat_map (λ (s : Showing). s.parts) rest) may.parts })

  pub choice_may_at : (views : List Choosing) (n : ℕ) (view : Choosing) → n < length views → view ≡ get_or views n view → MayShow doc span (choice_of views) → MayChoose doc span view
  choice_may_at [] n view h is may = absurd (omega (arith, h))
  choice_may_at (first ∷ rest) zero view h is may =
      let parts = and_parts (first.may doc span) (list_all (λ (c : Choosing). c.may doc span) rest) may.walks in
      let own = all-left (MayHold doc span) (first.own ∷ first.parts) (flat_map (λ (c : Choosing). c.own ∷ c.parts) rest) may.parts in
      subst (MayChoose doc span) (sym is) (record { own = All-head (MayHold doc span) first.own first.parts own; walks = parts.0; parts = All-tail (MayHold doc span) first.own first.parts own })
  choice_may_at (first ∷ rest) (suc n) view h is may =
      let parts = and_parts (first.may doc span) (list_all (λ (c : Choosing). c.may doc span) rest) may.walks in
      choice_may_at rest n view (omega (arith, h)) is (record { walks = parts.1; parts = all-right (MayHold doc span) (first.own ∷ first.parts) (flat_map (λ (c : Choosing). c.own ∷ c.parts) rest) may.parts })

-- ---- how large they are

pub weight_at : {X : Type 0} (f : X → ℕ) (xs : List X) (n : ℕ) (x : X) → n < length xs → x ≡ get_or xs n x → f x ≤ sum_by f xs
weight_at f [] n x h is = absurd (omega (arith, h))
weight_at f (y ∷ ys) zero x h is =
    let same : f x ≡ f y = ap f is in
    let whole = sum_by-cons f y ys in
    omega (arith, same, whole)
weight_at f (y ∷ ys) (suc n) x h is =
    let later = weight_at f ys n x (omega (arith, h)) is in
    let whole = sum_by-cons f y ys in
    omega (arith, later, whole)

-- ---- each kind

module _ (node : Shown) where
  pub is-First : (run : FirstRun) → node ≡ S.First run → showing node ≡ first_of run.most (aims_of run.tuples)
  is-First run is = ap showing is ∙ showing-First run

  pub is-Least : (run : LeastRun) → node ≡ S.Least run → showing node ≡ least_of (aims_of run.tuples)
  is-Least run is = ap showing is ∙ showing-Least run

  pub is-Window : (run : WindowRun) → node ≡ S.Window run → showing node ≡ in_window run.size (all_aims run.phrases.items)
  is-Window run is = ap showing is ∙ showing-Window run

  pub is-And : (parts : Vec Shown Global) → node ≡ S.And parts → showing node ≡ each_of (map showing parts.items)
  is-And parts is = ap showing is ∙ showing-And parts

  pub is-Or : (parts : Vec ShownRun Global) → node ≡ S.Or parts → showing node ≡ choice_of (map choosing parts.items)
  is-Or parts is = ap showing is ∙ showing-Or parts

  module _ (doc : ℕ) (span : Span) (may : MayShow doc span (showing node)) where
    pub first_may : (run : FirstRun) → node ≡ S.First run → walk_may (aims_of run.tuples) doc span ≡ true
    first_may run is = (subst (MayShow doc span) (is-First run is) may).walks

    pub least_may : (run : LeastRun) → node ≡ S.Least run → walk_may (aims_of run.tuples) doc span ≡ true
    least_may run is = (subst (MayShow doc span) (is-Least run is) may).walks

    pub window_may : (run : WindowRun) → node ≡ S.Window run → list_all (phrase_may doc span) (all_aims run.phrases.items) ≡ true
    window_may run is = (subst (MayShow doc span) (is-Window run is) may).walks

    pub parts_may : (parts : Vec Shown Global) → node ≡ S.And parts → MayShow doc span (each_of (map showing parts.items))
    parts_may parts is = subst (MayShow doc span) (is-And parts is) may

    pub choice_may : (parts : Vec ShownRun Global) → node ≡ S.Or parts → MayShow doc span (choice_of (map choosing parts.items))
    choice_may parts is = subst (MayShow doc span) (is-Or parts is) may

  -- another one that looks the same
  pub same-First : (run other : FirstRun) → node ≡ S.First run → other.most ≡ run.most → aims_of other.tuples ≡ aims_of run.tuples → showing (S.First other) ≡ showing node
  same-First run other is most aims = showing-First other ∙ (λ i. first_of (most i) (aims i)) ∙ sym (is-First run is)

  pub same-Least : (run other : LeastRun) → node ≡ S.Least run → aims_of other.tuples ≡ aims_of run.tuples → showing (S.Least other) ≡ showing node
  same-Least run other is aims = showing-Least other ∙ ap least_of aims ∙ sym (is-Least run is)

  pub same-Window : (run other : WindowRun) → node ≡ S.Window run → other.size ≡ run.size → all_aims other.phrases.items ≡ all_aims run.phrases.items → showing (S.Window other) ≡ showing node
  same-Window run other is size aims = showing-Window other ∙ (λ i. in_window (size i) (aims i)) ∙ sym (is-Window run is)

  pub same-And : (parts others : Vec Shown Global) → node ≡ S.And parts → map showing others.items ≡ map showing parts.items → showing (S.And others) ≡ showing node
  same-And parts others is same = showing-And others ∙ ap each_of same ∙ sym (is-And parts is)

  pub same-Or : (parts others : Vec ShownRun Global) → node ≡ S.Or parts → map choosing others.items ≡ map choosing parts.items → showing (S.Or others) ≡ showing node
  same-Or parts others is same = showing-Or others ∙ ap choice_of same ∙ sym (is-Or parts is)
