-- The limits outside of selections, by how deep the brackets and parentheses of a path stand in one another.
use Rattle.std.proofs.Common.{◌≡◌, ◌≤◌, ◌<◌, ◌+◌, ◌⊎◌, inl, inr, ◌↔◌, ℕ, suc, Bool, true, false, List, [], ◌∷◌, ◌++◌, length, Option, Some, None, refl, sym, ◌∙◌, ap, subst, append_assoc, arith}
use Rattle.std.proofs.Math.Dec.{leb}
use Rattle.std.proofs.lemmas.Bool.{leb-true, leb-false, le-leb, ltb-true, ltb-false}
use Rattle.std.specs.Option.{is_some}
use Rattle.std.specs.Prelude.{nat_le}
use Rattle.ft_base.specs.Limits.{max_number, max_open}
use Rattle.selection_grammar.specs.declared.symbol.Symbol.{Symbol}
use Rattle.selection_grammar.specs.declared.symbol.Symbol.TheVariants as S
use Rattle.selection_grammar.specs.declared.symbol.Placed.{Placed}
use Rattle.selection_grammar.specs.Grammar.{Spot, at}
use Rattle.selection_grammar.specs.steps.Machine as selection
use Rattle.selection_grammar.specs.Shapes.{Shape}
use Rattle.selection_grammar.specs.Tree.{Tree}
use Rattle.path_grammar.specs.Form as form
use Rattle.path_grammar.specs.Grammar.{Inside, inside, Path, Begins}
use Rattle.path_grammar.specs.Levels.{levels, BeginsWithin, OpensTooDeep}
use Rattle.path_grammar.specs.steps.Machine as m
use Rattle.path_grammar.specs.steps.Machine.{Joint, Frame, Stage, Inner, State, stand, advance, run_on, read, open_count, most_open, most_open_on}
use Rattle.path_grammar.proofs.Begun.{begins_read, read-append}
use Rattle.path_grammar.proofs.Completed as completed
use Rattle.path_grammar.proofs.Depths as depths
use Rattle.path_grammar.proofs.Depths.{levels_most, begins_within, read_within, opened}
use Rattle.path_grammar.proofs.Growing.{grows_by}
use Rattle.path_grammar.proofs.Primaries.{leads_by}
use Rattle.path_subset.specs.Limits.{opens, exceeds, goes_on, goes_on_at, WithinFrom, Within, AreNumbersWithin}

-- what opens a bracket or a parenthesis outside of selections opens just one
joint_none : (frames : List Frame) (joint : Joint) (c : form.Condition) (all : List Inside) (z : Symbol) → opens z ≡ true → m.joint_next frames joint c all z ≡ None
joint_none [] joint c all z e = refl
joint_none (frame ∷ outer) joint c all S.OpenBracket e = refl
joint_none (frame ∷ outer) joint c all S.OpenParenthesis e = refl
joint_none (frame ∷ outer) joint c all other e = cc

without_none : (frames : List Frame) (joint : Joint) (all : List Inside) (before : List form.Step) (k : ℕ) (z : Symbol) → opens z ≡ true → m.without_next frames joint all before k z ≡ None
without_none frames joint all before k S.OpenBracket e = refl
without_none frames joint all before k S.OpenParenthesis e = refl
without_none frames joint all before k other e = cc

selection_none : (frames : List Frame) (joint : Joint) (all : List Inside) (before : List form.Step) (w : List Placed) (p : Placed) (o : Option (Shape selection.State)) (x : Option Tree) (next : Inner) → opens p.symbol ≡ true → is_some o ≡ false
    → leads_by frames joint all before w p o x ≡ Some next → ⊥
selection_none frames joint all before w p (Some shape) x next h g e = cc
selection_none frames joint all before w p None None next h g e = cc
selection_none frames joint all before w p None (Some tree) next h g e =
    let two : None ≡ Some next =
    sym (ap (λ o. m.otherwise o (m.joint_next frames joint (form.contains (form.steps before) (length all) form.no_paths) (all ++ inside w tree ∷ []) p.symbol)) (without_none frames joint (all ++ inside w tree ∷ []) before (length all) p.symbol h)
    ∙ joint_none frames joint (form.contains (form.steps before) (length all) form.no_paths) (all ++ inside w tree ∷ []) p.symbol h) ∙ e in cc

counted : (s t : Inner) → ◌≡◌ {A = Option Inner} (Some s) (Some t) → length t.frames ≡ length s.frames
counted s t e = let same : s ≡ t = cc in ap (λ (i : Inner). length i.frames) (sym same)

bracket_opens : (q : Spot) (frames : List Frame) (joint : Joint) (all : List Inside) (stage : Stage) (next : Inner) → goes_on_at stage (at q S.OpenBracket) ≡ false
    → m.advance_inner (stand frames joint all stage) (at q S.OpenBracket) ≡ Some next → length next.frames ≡ suc (length frames)
bracket_opens q frames joint all (m.selecting before w shape) next g e = absurd (selection_none frames joint all before w (at q S.OpenBracket) (selection.advance shape (at q S.OpenBracket)) (selection.finished_at shape) next refl g e)
bracket_opens q frames joint all (m.stepped last) next g e = counted _ next e
bracket_opens q frames joint all m.not_name next g e = counted _ next e
bracket_opens q [] joint all other next g e = cc
bracket_opens q (frame ∷ outer) joint all other next g e = cc

parenthesis_opens : (q : Spot) (frames : List Frame) (joint : Joint) (all : List Inside) (stage : Stage) (next : Inner) → goes_on_at stage (at q S.OpenParenthesis) ≡ false
    → m.advance_inner (stand frames joint all stage) (at q S.OpenParenthesis) ≡ Some next → length next.frames ≡ suc (length frames)
parenthesis_opens q frames joint all (m.selecting before w shape) next g e =
    absurd (selection_none frames joint all before w (at q S.OpenParenthesis) (selection.advance shape (at q S.OpenParenthesis)) (selection.finished_at shape) next refl g e)
parenthesis_opens q frames joint all (m.wanted first) next g e = counted _ next e
parenthesis_opens q frames joint all m.not_name next g e = counted _ next e
parenthesis_opens q [] joint all other next g e = cc
parenthesis_opens q (frame ∷ outer) joint all other next g e = cc

inner_opens : (q : Spot) (z : Symbol) (s next : Inner) → opens z ≡ true → goes_on_at s.stage (at q z) ≡ false → m.advance_inner s (at q z) ≡ Some next → length next.frames ≡ suc (length s.frames)
inner_opens q S.OpenBracket s next h g e = bracket_opens q s.frames s.joint s.selections s.stage next g e
inner_opens q S.OpenParenthesis s next h g e = parenthesis_opens q s.frames s.joint s.selections s.stage next g e
inner_opens q other s next h g e = cc

root_opens : (stage : m.RootStage) (z : Symbol) (next : State) → opens z ≡ true → m.root_next stage z ≡ Some next → open_count next ≡ 0
root_opens m.collection_name S.OpenParenthesis next h e = let same : m.at_root m.collection_open ≡ next = cc in ap open_count (sym same)
root_opens m.doc_name S.OpenParenthesis next h e = let same : m.at_root m.doc_open ≡ next = cc in ap open_count (sym same)
root_opens other S.OpenParenthesis next h e = cc
root_opens other S.OpenBracket next h e = cc
root_opens stage other next h e = cc

opens_one : (s next : State) (p : Placed) → opens p.symbol ≡ true → goes_on s p ≡ false → advance s p ≡ Some next → (open_count next ≡ suc (open_count s)) ⊎ (open_count s + open_count next ≡ 0)
opens_one (m.at_root stage) next p h g e = let none = root_opens stage p.symbol next h e in inr (omega (arith, none))
opens_one (m.along root s) next p h g e = by (m.advance_inner s p) refl e
  where
    by : (o : Option Inner) → m.advance_inner s p ≡ o → m.along_to root o ≡ Some next → (open_count next ≡ suc (length s.frames)) ⊎ (length s.frames + open_count next ≡ 0)
    by None a k = cc
    by (Some i) a k =
        let same : m.along root i ≡ next = cc in
        inl (ap open_count (sym same) ∙ inner_opens (p.from, p.to) p.symbol s i h g a)

-- a symbol that goes on with a selection opens nothing
selecting_keeps : (s next : State) (p : Placed) → goes_on s p ≡ true → advance s p ≡ Some next → open_count next ≡ open_count s
selecting_keeps (m.at_root stage) next p g e = cc
selecting_keeps (m.along root s) next p g e = by_stage s.stage refl
  where
    by_shape : (before : List form.Step) (w : List Placed) (o : Option (Shape selection.State)) (x : Option Tree) → is_some o ≡ true → m.along_to root (leads_by s.frames s.joint s.selections before w p o x) ≡ Some next → open_count next ≡ length s.frames
    by_shape before w None x h k = cc
    by_shape before w (Some shape) x h k = let same : m.along root (stand s.frames s.joint s.selections (m.selecting before (w ++ p ∷ []) shape)) ≡ next = cc in ap open_count (sym same)

    by_stage : (stage : Stage) → s.stage ≡ stage → open_count next ≡ length s.frames
    by_stage (m.selecting before w shape) k =
        by_shape before w (selection.advance shape p) (selection.finished_at shape)
        (sym (ap (λ z. goes_on_at z p) k) ∙ g)
        (sym (ap (λ z. m.along_to root (m.advance_inner (stand s.frames s.joint s.selections z) p)) k) ∙ e)
    by_stage other k = let two : true ≡ false = sym g ∙ ap (λ z. goes_on_at z p) k in cc

-- the limits of one symbol
opens_past : (depth : ℕ) (z : Symbol) → opens z ≡ true → exceeds depth z ≡ nat_le max_open depth
opens_past depth S.OpenBracket h = refl
opens_past depth S.OpenParenthesis h = refl
opens_past depth other h = cc

past_opens : (depth : ℕ) (z : Symbol) → exceeds depth z ≡ true → ((n : ℕ) → z ≡ S.Number n → n ≤ max_number) → (opens z ≡ true) × (max_open ≤ depth)
past_opens depth S.OpenBracket h few = (refl, leb-true max_open depth h)
past_opens depth S.OpenParenthesis h few = (refl, leb-true max_open depth h)
past_opens depth (S.Number n) h few = absurd (omega (arith, ltb-true max_number n h, few n refl))
past_opens depth other h few = cc

grown_opens : (z : Symbol) → (z ≡ S.OpenBracket) ⊎ (z ≡ S.OpenParenthesis) → opens z ≡ true
grown_opens z (inl e) = ap opens e
grown_opens z (inr e) = ap opens e

-- not more are open than may be after a symbol within the limits
one_few : (s next : State) (p : Placed) → advance s p ≡ Some next → (goes_on s p ≡ false → exceeds (open_count s) p.symbol ≡ false) → open_count s ≤ max_open → open_count next ≤ max_open
one_few s next p a l few = by_growth (leb (open_count next) (open_count s)) refl
  where
    by_opening : (open_count next ≡ suc (open_count s)) ⊎ (open_count s + open_count next ≡ 0) → open_count s < max_open → open_count next ≤ max_open
    by_opening (inl one) below = omega (arith, one, below)
    by_opening (inr none) below = omega (arith, none)

    by_going : (b : Bool) → goes_on s p ≡ b → opens p.symbol ≡ true → open_count s < open_count next → open_count next ≤ max_open
    by_going true g h more = let same = selecting_keeps s next p g a in absurd (omega (arith, same, more))
    by_going false g h more = by_opening (opens_one s next p h g a) (leb-false max_open (open_count s) (sym (opens_past (open_count s) p.symbol h) ∙ l g))

    by_growth : (b : Bool) → leb (open_count next) (open_count s) ≡ b → open_count next ≤ max_open
    by_growth true h = omega (arith, leb-true (open_count next) (open_count s) h, few)
    by_growth false h =
        let more : open_count s < open_count next = leb-false (open_count next) (open_count s) h in
        by_going (goes_on s p) refl (grown_opens p.symbol (grows_by s next p a more)) more

within_most : (u : List Placed) (s last : State) → WithinFrom s u → run_on (Some s) u ≡ Some last → open_count s ≤ max_open → most_open_on (Some s) u ≤ max_open
within_most [] s last w r few = few
within_most (p ∷ u) s last w r few = by (advance s p) refl r (λ next. within_most u next last)
  where
    by : (o : Option State) → advance s p ≡ o → run_on o u ≡ Some last → ((next : State) → WithinFrom next u → run_on (Some next) u ≡ Some last → open_count next ≤ max_open → most_open_on (Some next) u ≤ max_open) → most_open_on (Some s) (p ∷ u) ≤ max_open
    by None a k again = cc
    by (Some next) a k again =
        let rest : most_open_on (Some next) u ≤ max_open =
        again next (λ before q z t e f g. w (p ∷ before) q z t (ap (λ x. p ∷ x) e) (ap (λ o. run_on o before) a ∙ f) g) k (one_few s next p a (w [] p u s refl refl) few) in
        omega (arith, few, rest, ap (λ o. most_open_on o u) a)

-- what is open on the way
passing_most : (o : Option State) (u v : List Placed) (t : State) → run_on o u ≡ Some t → open_count t ≤ most_open_on o (u ++ v)
passing_most None u v t e = cc
passing_most (Some s) [] [] t e = let same : s ≡ t = cc in omega (arith, ap open_count same)
passing_most (Some s) [] (q ∷ v) t e = let same : s ≡ t = cc in omega (arith, ap open_count same)
passing_most (Some s) (p ∷ u) v t e = omega (arith, passing_most (advance s p) u v t e)

module _ (symbols : List Placed) (last : State) (r : read symbols ≡ Some last) where
  abbrev Few : Type 0
  Few = most_open symbols ≤ max_open

  number_within : Within symbols → AreNumbersWithin symbols
  number_within w before p rest t n e k g is = ltb-false max_number n (sym (ap (exceeds (open_count t)) is) ∙ w before p rest t e k g)

  few_within : Within symbols → Few × AreNumbersWithin symbols
  few_within w = (within_most symbols (m.at_root m.nothing) last w r (omega arith), number_within w)

  -- where a symbol exceeds a limit
  too_many : Few → (before : List Placed) (p : Placed) (rest : List Placed) (t next : State) → symbols ≡ before ++ p ∷ rest → read before ≡ Some t → goes_on t p ≡ false → opens p.symbol ≡ true → advance t p ≡ Some next → max_open ≤ open_count t → ⊥
  too_many few before p rest t next e k g h a deep = by (opens_one t next p h g a)
    where
      there : open_count next ≤ most_open symbols
      there =
          subst (λ z. open_count next ≤ most_open z) (append_assoc before (p ∷ []) rest ∙ sym e)
          (passing_most (Some (m.at_root m.nothing)) (before ++ p ∷ []) rest next (read-append before (p ∷ []) ∙ ap (λ o. run_on o (p ∷ [])) k ∙ ap (λ o. run_on o []) a))

      by : (open_count next ≡ suc (open_count t)) ⊎ (open_count t + open_count next ≡ 0) → ⊥
      by (inl one) = absurd (omega (arith, one, deep, there, few))
      by (inr none) = absurd (omega (arith, none, deep))

  within_few : Few → AreNumbersWithin symbols → Within symbols
  within_few few numbers before p rest t e k g = by_limit (exceeds (open_count t) p.symbol) refl
    where
      by_next : (o : Option State) → advance t p ≡ o → run_on o rest ≡ Some last → opens p.symbol ≡ true → max_open ≤ open_count t → ⊥
      by_next None a h o deep = cc
      by_next (Some next) a h o deep = too_many few before p rest t next e k g o a deep

      by_limit : (b : Bool) → exceeds (open_count t) p.symbol ≡ b → b ≡ false
      by_limit false h = refl
      by_limit true h =
          let opening = past_opens (open_count t) p.symbol h (λ n is. numbers before p rest t n e k g is) in
          absurd (by_next (advance t p) refl (sym (read-append before (p ∷ rest) ∙ ap (λ o. run_on o (p ∷ rest)) k) ∙ ap read (sym e) ∙ r) opening.0 opening.1)

pub path_depth : (symbols : List Placed) (value : form.Path) (insides : List Inside) (whole : Path symbols value insides) → Within symbols ↔ ((levels whole ≤ max_open) × AreNumbersWithin symbols)
path_depth symbols value insides whole = by (completed.path_read symbols value insides whole)
  where
    by : (x : State) × (read symbols ≡ Some x) × (m.finished x ≡ Some (value, insides)) → Within symbols ↔ ((levels whole ≤ max_open) × AreNumbersWithin symbols)
    by (x, r, f) = (
      (λ w. let h = few_within symbols x r w in (omega (arith, h.0, levels_most symbols value insides whole), h.1)),
      λ h. within_few symbols x r (omega (arith, h.0, levels_most symbols value insides whole)) h.1,
    )

pub prefix_depth : (symbols : List Placed) → Begins symbols → Within symbols ↔ (BeginsWithin max_open symbols × AreNumbersWithin symbols)
prefix_depth symbols begins = by (begins_read symbols begins)
  where
    most : (x : State) → read symbols ≡ Some x → (y : State) × (read symbols ≡ Some y) × (most_open symbols ≤ max_open) → AreNumbersWithin symbols → Within symbols
    most x r h numbers = within_few symbols x r h.2 numbers

    by : (x : State) × (read symbols ≡ Some x) → Within symbols ↔ (BeginsWithin max_open symbols × AreNumbersWithin symbols)
    by (x, r) = (
      (λ w. let h = few_within symbols x r w in (read_within max_open symbols x r h.0, h.1)),
      λ h. most x r (begins_within max_open symbols h.0) h.1,
    )

-- a bracket or a parenthesis that may stand
leads_to : (o : Option State) (t : State) → run_on o [] ≡ Some t → o ≡ Some t
leads_to None t e = e
leads_to (Some s) t e = e

module _ (before : List Placed) (p : Placed) (s : State) (r : read before ≡ Some s) (w : Within before) (h : opens p.symbol ≡ true) (g : goes_on s p ≡ false) where
  within : BeginsWithin max_open before
  within = read_within max_open before s r (few_within before s r w).0

  module _ (next : State) (k : read (before ++ p ∷ []) ≡ Some next) where
    one : (open_count next ≡ suc (open_count s)) ⊎ (open_count s + open_count next ≡ 0)
    one = opens_one s next p h g (leads_to (advance s p) next (sym (read-append before (p ∷ []) ∙ ap (λ o. run_on o (p ∷ [])) r) ∙ k))

    many : max_open ≤ open_count s → (open_count next ≡ suc (open_count s)) ⊎ (open_count s + open_count next ≡ 0) → max_open < open_count next
    many deep (inl more) = omega (arith, more, deep)
    many deep (inr none) = absurd (omega (arith, none, deep))

    full : max_open < open_count next → (open_count next ≡ suc (open_count s)) ⊎ (open_count s + open_count next ≡ 0) → max_open ≤ open_count s
    full deep (inl more) = omega (arith, more, deep)
    full deep (inr none) = absurd (omega (arith, none, deep))

    same_full : (t : State) × (read (before ++ p ∷ []) ≡ Some t) × (max_open < open_count t) → max_open ≤ open_count s
    same_full (t, j, deep) =
        let both : Some t ≡ Some next = sym j ∙ k in
        let same : t ≡ next = cc in
        full (omega (arith, deep, ap open_count same)) one

    too_deep : (exceeds (open_count s) p.symbol ≡ true) ↔ OpensTooDeep max_open before p
    too_deep = (
      (λ l. opened max_open before p within (next, k, many (leb-true max_open (open_count s) (sym (opens_past (open_count s) p.symbol h) ∙ l)) one)),
      λ o. opens_past (open_count s) p.symbol h ∙ le-leb max_open (open_count s) (same_full (depths.opens max_open before p o)),
    )

pub symbol_depth : (before : List Placed) (p : Placed) (s : State) → read before ≡ Some s → Within before → Begins (before ++ p ∷ []) → opens p.symbol ≡ true → goes_on s p ≡ false → (exceeds (open_count s) p.symbol ≡ true) ↔ OpensTooDeep max_open before p
symbol_depth before p s r w begins h g = by (begins_read (before ++ p ∷ []) begins)
  where
    by : (next : State) × (read (before ++ p ∷ []) ≡ Some next) → (exceeds (open_count s) p.symbol ≡ true) ↔ OpensTooDeep max_open before p
    by (next, k) = too_deep before p s r w h g next k
