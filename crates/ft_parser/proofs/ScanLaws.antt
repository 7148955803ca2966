-- What going through symbols comes to: one construct further on, and where it stops.
use Rattle.std.proofs.Common.{◌≡◌, ◌≤◌, ◌<◌, ◌+◌, ◌-◌, ℕ, suc, Bool, true, false, ◌&&◌, cond, List, [], ◌∷◌, ◌++◌, length, take, drop, Option, Some, None, Result, Ok, Err, refl, sym, ◌∙◌, ap, subst, arith, append_assoc}
use Rattle.std.specs.Option.{is_some}
use Rattle.std.proofs.lemmas.List.{append-nil, length-append, length-take, take-append-drop, length-take-le}
use Rattle.std.proofs.Math.Seq.{take-add}
use Rattle.ft_base.specs.Selection.{Form}
use Rattle.ft_base.specs.declared.fault.QueryFault.{QueryFault}
use Rattle.ft_base.specs.declared.fault.QueryFault.TheVariants as Q
use Rattle.ft_syntax.specs.View.{form}
use Rattle.selection_grammar.specs.declared.symbol.Symbol.{Symbol}
use Rattle.selection_grammar.specs.declared.symbol.Placed.{Placed}
use Rattle.selection_grammar.specs.steps.Machine.{State, next, start, advance, run_on, read, finished, finished_at, selection_at}
use Rattle.selection_grammar.specs.steps.Reading.{first_place}
use Rattle.selection_grammar.specs.Shapes.{Shape, whole, nothing, word, number, text, mark, is_mark, open_parenthesis, close_parenthesis, step, run}
use Rattle.selection_grammar.specs.Tree.{Tree}
use Rattle.selection_grammar.proofs.Decided.{read-append}
use Rattle.selection_grammar.proofs.Readings.{Stopped, is_whole}
use Rattle.ft_parser.specs.Answer.{scanned_from, ended}
use Rattle.ft_parser.specs.steps.Ending.{ends_before}
use Rattle.ft_parser.specs.Limits.{has_all_filters, depth_after, open_within, exceeds, limit_fault, is_deep_filter}
use Rattle.ft_parser.specs.steps.Parts.{begins_filter}
use Rattle.ft_parser.specs.Prefix as prefix
use Rattle.ft_parser.specs.Prefix.{counted, numbered_form, run_length, with_number}
use Rattle.ft_parser.specs.steps.Scan.{Fails, Scans, Stops, begins_deep_filter, read_alone, read_to_end, stopped}
use Rattle.ft_parser.specs.steps.Turns.{state_turn}
use Rattle.ft_parser.proofs.Endings as endings
use Rattle.ft_parser.proofs.Prefixes.{answered}
use Rattle.ft_parser.proofs.Runs.{run_is, run_suffices, all_fails, run_fails, next_fails}
use Rattle.ft_parser.proofs.SelectedExact.{passed, at_limit, at_filter, at_symbol}
use Rattle.ft_parser.proofs.SelectedLaws.{rest_read}
use Rattle.ft_parser.proofs.Steps.{Goes, back_is, goes, outcome_at, further, taken_there, read_there}

-- Between two constructs, what stands after the symbols so far decides what all are read as.
pub record Stands (w : List Placed) (s : State) (i depth : ℕ) : Type 0 where
  pub within : i ≤ length w
  pub small : depth ≤ i
  pub reads : read (take i w) ≡ Some (whole s)
  pub comes : (v : List Placed) (bad : Option ℕ) (size : ℕ) → rest_read 0 (whole start) (take i w ++ v) bad size ≡ rest_read depth (whole s) v bad size

pub start_stands : (w : List Placed) (s : State) → s ≡ start → Stands w s 0 0
start_stands w s e = record { within = omega arith; small = omega arith; reads = ap (λ t. Some (whole t)) (sym e); comes = λ v bad size. ap (λ t. rest_read 0 (whole t) v bad size) (sym e) }

-- no more parentheses are open than there are symbols
after_small : (depth : ℕ) (symbol : Symbol) → depth_after depth symbol ≤ depth + 1
after_small depth symbol = go (is_mark open_parenthesis symbol) (is_mark close_parenthesis symbol)
  where
    go : (b c : Bool) → cond b (depth + 1) (cond c (depth - 1) depth) ≤ depth + 1
    go true c = omega arith
    go false true = omega arith
    go false false = omega arith

within_small : (u : List Placed) (depth d : ℕ) → open_within depth u ≡ Ok d → d ≤ depth + length u
within_small [] depth d e = let same : depth ≡ d = cc in omega (arith, same)
within_small (p ∷ u) depth d e = go (exceeds depth p.symbol) (λ k. within_small u (depth_after depth p.symbol) d k) e
  where
    go : (b : Bool) → (open_within (depth_after depth p.symbol) u ≡ Ok d → d ≤ depth_after depth p.symbol + length u) → cond b (Err (limit_fault p)) (open_within (depth_after depth p.symbol) u) ≡ Ok d → d ≤ depth + length (p ∷ u)
    go true on e = cc
    go false on e = let small = on e in let one = after_small depth p.symbol in omega (arith, small, one)

end_small : (w : List Placed) (i n depth d : ℕ) → i ≤ n → depth ≤ i → open_within depth (take (n - i) (drop i w)) ≡ Ok d → d ≤ n
end_small w i n depth d h k e =
    let short : length (take (n - i) (drop i w)) ≤ n - i = simp (length-take) (omega arith) in
    omega (arith, short, h, k, within_small (take (n - i) (drop i w)) depth d e)

-- along symbols of a construct, one of which may pass a limit
abbrev on_within : Result ℕ QueryFault → (ℕ → Result Form QueryFault) → Result Form QueryFault
on_within (Ok depth) rest = rest depth
on_within (Err fault) rest = Err fault

one_along : (bad : Option ℕ) (size : ℕ) (p : Placed) (f v : List Placed) (depth : ℕ) (x r : Shape State) (o : Option (Shape State)) → is_deep_filter x p.symbol ≡ false → advance x p ≡ o → run o f ≡ Some r
    → ((y : Shape State) → run (Some y) f ≡ Some r → rest_read (depth_after depth p.symbol) y (f ++ v) bad size ≡ on_within (open_within (depth_after depth p.symbol) f) (λ d. rest_read d r v bad size))
    → rest_read depth x (p ∷ f ++ v) bad size ≡ on_within (open_within depth (p ∷ f)) (λ d. rest_read d r v bad size)
one_along bad size p f v depth x r None d a e on = cc
one_along bad size p f v depth x r (Some y) d a e on = go (exceeds depth p.symbol) refl
  where
    go : (b : Bool) → exceeds depth p.symbol ≡ b → rest_read depth x (p ∷ f ++ v) bad size ≡ on_within (cond b (Err (limit_fault p)) (open_within (depth_after depth p.symbol) f)) (λ d. rest_read d r v bad size)
    go true l = at_limit bad size depth p (f ++ v) x l
    go false l = passed bad size depth p (f ++ v) x y l d a ∙ on y e

along : (bad : Option ℕ) (size : ℕ) (f v : List Placed) (depth : ℕ) (x r : Shape State) → run (Some x) f ≡ Some r → rest_read depth x (f ++ v) bad size ≡ on_within (open_within depth f) (λ d. rest_read d r v bad size)
along bad size [] v depth x r e = let same : x ≡ r = cc in ap (λ t. rest_read depth t v bad size) same
along bad size (p ∷ f) v depth (whole a) r e = cc
along bad size (p ∷ f) v depth nothing r e = cc
along bad size (p ∷ f) v depth (word key to rest) r e = one_along bad size p f v depth (word key to rest) r (step (word key to rest) p) refl refl e (λ y h. along bad size f v (depth_after depth p.symbol) y r h)
along bad size (p ∷ f) v depth (number to rest) r e = one_along bad size p f v depth (number to rest) r (step (number to rest) p) refl refl e (λ y h. along bad size f v (depth_after depth p.symbol) y r h)
along bad size (p ∷ f) v depth (text to rest) r e = one_along bad size p f v depth (text to rest) r (step (text to rest) p) refl refl e (λ y h. along bad size f v (depth_after depth p.symbol) y r h)
along bad size (p ∷ f) v depth (mark k to rest) r e = one_along bad size p f v depth (mark k to rest) r (step (mark k to rest) p) refl refl e (λ y h. along bad size f v (depth_after depth p.symbol) y r h)

along_prefix : (w : List Placed) (i n depth : ℕ) (s : State) (r : Shape State) → Stands w s i depth → begins_deep_filter s (drop i w) ≡ false → Goes w i n s r → i < n
    → (v : List Placed) (bad : Option ℕ) (size : ℕ) → rest_read 0 (whole start) (take n w ++ v) bad size ≡ on_within (open_within depth (take (n - i) (drop i w))) (λ d. rest_read d r v bad size)
along_prefix w i n depth s r x deep g h v bad size =
    ap (λ u. rest_read 0 (whole start) (u ++ v) bad size) (taken_there w i n s r g)
    ∙ ap (λ u. rest_read 0 (whole start) u bad size) (append_assoc (take i w) g.prefix v)
    ∙ x.comes (g.prefix ++ v) bad size
    ∙ first g.prefix g.parts g.counted g.runs
    ∙ ap (λ f. on_within (open_within depth f) (λ d. rest_read d r v bad size)) (sym g.taken)
  where
    first : (f : List Placed) → drop i w ≡ f ++ g.back → n ≡ i + length f → run (Some (next s)) f ≡ Some r → rest_read depth (whole s) (f ++ v) bad size ≡ on_within (open_within depth f) (λ d. rest_read d r v bad size)
    first [] k c e = absurd (omega (arith, h, c))
    first (p ∷ f) k c e = one_along bad size p f v depth (whole s) r (step (next s) p) (ap (begins_deep_filter s) (sym k) ∙ deep) refl e (λ y j. along bad size f v (depth_after depth p.symbol) y r j)

-- symbols with a fault
failed : (w : List Placed) (n : ℕ) (fault : QueryFault) (x : Shape State) → n ≤ length w → read (take n w) ≡ Some x → ((v : List Placed) (bad : Option ℕ) (size : ℕ) → rest_read 0 (whole start) (take n w ++ v) bad size ≡ Err fault) → Fails w fault
failed w n fault x h e all = record {
  to_end = λ bad size. answered form _ fault (sym (all_fails w n fault all bad size));
  alone = λ bad size. answered numbered_form _ fault (sym (run_fails w n fault all x h e bad size));
}

-- one construct on
module _ (w : List Placed) (i n depth : ℕ) (s t : State) (x : Stands w s i depth) (deep : begins_deep_filter s (drop i w) ≡ false) (e : Ok (t, n) ≡ state_turn s w i) where
  pub turn_goes : Goes w i n s (whole t)
  turn_goes = goes w i n s (whole t) x.within (outcome_at w i s (Ok (t, n)) x.within e)

  pub turn_further : i < n
  turn_further = further w i n s t turn_goes

  turn_reads : read (take n w) ≡ Some (whole t)
  turn_reads = read_there w i n s (whole t) x.reads turn_goes turn_further

  turn_along : (v : List Placed) (bad : Option ℕ) (size : ℕ) → rest_read 0 (whole start) (take n w ++ v) bad size ≡ on_within (open_within depth (take (n - i) (drop i w))) (λ d. rest_read d (whole t) v bad size)
  turn_along = along_prefix w i n depth s (whole t) x deep turn_goes turn_further

  pub turn_stands : (d : ℕ) → open_within depth (take (n - i) (drop i w)) ≡ Ok d → Stands w t n d
  turn_stands d k = let g = turn_goes in let more = turn_further in record {
    within = g.within;
    small = end_small w i n depth d (omega (arith, more)) x.small k;
    reads = turn_reads;
    comes = λ v bad size. turn_along v bad size ∙ ap (λ o. on_within o (λ d. rest_read d (whole t) v bad size)) k;
  }

  pub turn_fails : (fault : QueryFault) → open_within depth (take (n - i) (drop i w)) ≡ Err fault → Fails w fault
  turn_fails fault k = let g = turn_goes in
      failed w n fault (whole t) g.within turn_reads (λ v bad size. turn_along v bad size ∙ ap (λ o. on_within o (λ d. rest_read d (whole t) v bad size)) k)

-- Nothing leads on from where the machine stands.
record Halts (w : List Placed) (n depth : ℕ) (r : Shape State) : Type 0 where
  pub within : n ≤ length w
  pub reads : read (take n w) ≡ Some r
  pub comes : (v : List Placed) (bad : Option ℕ) (size : ℕ) → rest_read 0 (whole start) (take n w ++ v) bad size ≡ rest_read depth r v bad size
  pub stops : (q : Placed) (z : List Placed) → drop n w ≡ q ∷ z → advance r q ≡ None
  pub shallow : (q : Placed) (z : List Placed) → drop n w ≡ q ∷ z → is_deep_filter r q.symbol ≡ false

left_comes : (r : Shape State) (depth : ℕ) (v : List Placed) (bad : Option ℕ) (size : ℕ) → ((q : Placed) (z : List Placed) → v ≡ q ∷ z → advance r q ≡ None) → ((q : Placed) (z : List Placed) → v ≡ q ∷ z → is_deep_filter r q.symbol ≡ false)
    → rest_read depth r v bad size ≡ read_to_end depth v bad size (finished_at r)
unfolding scanned_from
left_comes r depth [] bad size stops shallow = refl
left_comes r depth (q ∷ z) bad size stops shallow = go (exceeds depth q.symbol) refl
  where
    go : (b : Bool) → exceeds depth q.symbol ≡ b → rest_read depth r (q ∷ z) bad size ≡ Err (cond b (limit_fault q) (Q.Syntax q.from))
    go true l = at_limit bad size depth q z r l
    go false l = at_symbol bad size depth q z r l (shallow q z refl) (stops q z refl)

-- one symbol more tells the fault
next_comes : (r : Shape State) (depth : ℕ) (v : List Placed) (bad : Option ℕ) (size : ℕ) → ((q : Placed) (z : List Placed) → v ≡ q ∷ z → advance r q ≡ None) → ((q : Placed) (z : List Placed) → v ≡ q ∷ z → is_deep_filter r q.symbol ≡ false)
    → rest_read depth r (take 1 v) bad size ≡ read_to_end depth v bad size (finished_at r)
next_comes r depth [] bad size stops shallow = left_comes r depth [] bad size stops shallow
next_comes r depth (q ∷ z) bad size stops shallow = left_comes r depth (q ∷ []) bad size
    (λ p y k. let same : q ≡ p = cc in subst (λ (o : Placed). advance r o ≡ None) same (stops q z refl))
    (λ p y k. let same : q ≡ p = cc in subst (λ (o : Placed). is_deep_filter r o.symbol ≡ false) same (shallow q z refl))

alone_comes : (w : List Placed) (n depth : ℕ) (r : Shape State) (bad : Option ℕ) (size : ℕ) (o : Option Tree) → Halts w n depth r → finished_at r ≡ o → counted (is_some o) n w bad size ≡ with_number n (read_alone depth (drop n w) bad size o)
unfolding counted
alone_comes w n depth r bad size (Some tree) x e = ap (with_number n) (
    ap (λ u. rest_read 0 (whole start) u None size) (sym (append-nil (take n w))) ∙ x.comes [] None size ∙ left_comes r depth [] None size (λ q z k. cc) (λ q z k. cc) ∙ ap (ended None size) e)
alone_comes w n depth r bad size None x e =
    let more : suc n ≡ n + 1 = omega arith in
    ap (with_number n) (
    ap (λ u. rest_read 0 (whole start) u bad size) (ap (λ m. take m w) more ∙ take-add n 1 w) ∙ x.comes (take 1 (drop n w)) bad size
    ∙ next_comes r depth (drop n w) bad size x.stops x.shallow ∙ ap (read_to_end depth (drop n w) bad size) e)

halts_stops : (w : List Placed) (n depth : ℕ) (r : Shape State) → Halts w n depth r → Stops w n depth (finished_at r)
halts_stops w n depth r x = record {
  within = x.within;
  to_end = λ bad size. ap (λ u. rest_read 0 (whole start) u bad size) (sym (take-append-drop n w)) ∙ x.comes (drop n w) bad size ∙ left_comes r depth (drop n w) bad size x.stops x.shallow;
  alone = λ bad size. (run_suffices w n (is_some (finished_at r)) run_here (ap (λ o. is_some (finished o)) x.reads)).comes bad size ∙ alone_comes w n depth r bad size (finished_at r) x refl;
}
  where
    run_here : run_length w ≡ n
    run_here = run_is w n r x.within x.reads (λ p rest k. read-append (take n w) (p ∷ []) ∙ ap (λ o. run_on o (p ∷ [])) x.reads ∙ ap (λ o. run_on o []) (x.stops p rest k))

-- after a whole selection
pub end_stops : (w : List Placed) (i depth : ℕ) (s : State) → Stands w s i depth → ends_before s (drop i w) ≡ true → Stops w i depth (finished_at (whole s))
end_stops w i depth s x h = let end = endings.ended s (drop i w) h in halts_stops w i depth (whole s) (record {
  within = x.within;
  reads = x.reads;
  comes = x.comes;
  stops = end.stops;
  shallow = λ q z k. ap (λ b. b && has_all_filters (selection_at s.left s.stage)) (ap begins_filter (sym k) ∙ end.filters);
})

-- inside a construct, or before one
unfinished_stops : (t : Shape State) (p : Placed) → is_whole t ≡ false → step t p ≡ None → advance t p ≡ None
unfinished_stops (whole a) p h e = cc
unfinished_stops nothing p h e = refl
unfinished_stops (word key to rest) p h e = e
unfinished_stops (number to rest) p h e = e
unfinished_stops (text to rest) p h e = e
unfinished_stops (mark k to rest) p h e = e

unfinished_is : (t : Shape State) → is_whole t ≡ false → finished_at t ≡ None
unfinished_is (whole a) h = cc
unfinished_is nothing h = refl
unfinished_is (word key to rest) h = refl
unfinished_is (number to rest) h = refl
unfinished_is (text to rest) h = refl
unfinished_is (mark k to rest) h = refl

unfinished_shallow : (t : Shape State) (symbol : Symbol) → is_whole t ≡ false → is_deep_filter t symbol ≡ false
unfinished_shallow (whole a) symbol h = cc
unfinished_shallow nothing symbol h = refl
unfinished_shallow (word key to rest) symbol h = refl
unfinished_shallow (number to rest) symbol h = refl
unfinished_shallow (text to rest) symbol h = refl
unfinished_shallow (mark k to rest) symbol h = refl

module _ (w : List Placed) (i n depth : ℕ) (s : State) (x : Stands w s i depth) (open_end : ends_before s (drop i w) ≡ false) (deep : begins_deep_filter s (drop i w) ≡ false) (e : Err n ≡ state_turn s w i) where
  pub stuck_at : Stopped (next s) (take i w) (drop i w) n
  stuck_at = outcome_at w i s (Err n) x.within e

  pub stuck_goes : Goes w i n s stuck_at.last
  stuck_goes = goes w i n s stuck_at.last x.within stuck_at.along

  stuck_left : drop n w ≡ stuck_at.along.back
  stuck_left = let a = stuck_at.along in back_is w a.prefix a.back i n x.within a.spelled a.counted

  pub stuck_further : i ≤ n
  stuck_further = let g = stuck_goes in omega (arith, g.counted)

  -- at the first symbol
  at_once : (d : ℕ) → n ≡ i → next s ≡ stuck_at.last → open_within depth [] ≡ Ok d → Stops w n d None
  at_once d c l k =
      let same : depth ≡ d = cc in
      let stops : (q : Placed) (z : List Placed) → drop i w ≡ q ∷ z → step (next s) q ≡ None = λ q z j. ap (λ t. step t q) l ∙ stuck_at.stops q z (sym stuck_left ∙ ap (λ m. drop m w) c ∙ j) in
      subst (λ m. Stops w m d None) (sym c) (subst (λ m. Stops w i m None) same (subst (Stops w i depth) (endings.unended s (drop i w) open_end stops) (halts_stops w i depth (whole s) (record {
        within = x.within;
        reads = x.reads;
        comes = x.comes;
        stops = stops;
        shallow = λ q z j. ap (begins_deep_filter s) (sym j) ∙ deep;
      }))))

  stuck_reads : i < n → read (take n w) ≡ Some stuck_at.last
  stuck_reads h = read_there w i n s stuck_at.last x.reads stuck_goes h

  stuck_along : i < n → (v : List Placed) (bad : Option ℕ) (size : ℕ) → rest_read 0 (whole start) (take n w ++ v) bad size ≡ on_within (open_within depth (take (n - i) (drop i w))) (λ d. rest_read d stuck_at.last v bad size)
  stuck_along h = along_prefix w i n depth s stuck_at.last x deep stuck_goes h

  later : (d : ℕ) → i < n → open_within depth (take (n - i) (drop i w)) ≡ Ok d → Stops w n d None
  later d h k = let g = stuck_goes in subst (Stops w n d) (unfinished_is stuck_at.last stuck_at.unfinished) (halts_stops w n d stuck_at.last (record {
    within = g.within;
    reads = stuck_reads h;
    comes = λ v bad size. stuck_along h v bad size ∙ ap (λ o. on_within o (λ d. rest_read d stuck_at.last v bad size)) k;
    stops = λ q z j. unfinished_stops stuck_at.last q stuck_at.unfinished (stuck_at.stops q z (sym stuck_left ∙ j));
    shallow = λ q z j. unfinished_shallow stuck_at.last q.symbol stuck_at.unfinished;
  }))

  stuck_stops : (d : ℕ) → open_within depth (take (n - i) (drop i w)) ≡ Ok d → Stops w n d None
  stuck_stops d k = let g = stuck_goes in go g.prefix g.taken g.counted g.runs
    where
      go : (f : List Placed) → take (n - i) (drop i w) ≡ f → n ≡ i + length f → run (Some (next s)) f ≡ Some stuck_at.last → Stops w n d None
      go [] t c r = at_once d (omega (arith, c)) (let same : next s ≡ stuck_at.last = cc in same) (ap (open_within depth) (sym t) ∙ k)
      go (p ∷ f) t c r = later d (omega (arith, c)) k

  stuck_fails : (fault : QueryFault) → open_within depth (take (n - i) (drop i w)) ≡ Err fault → Fails w fault
  stuck_fails fault k = let g = stuck_goes in go g.prefix g.taken g.counted
    where
      go : (f : List Placed) → take (n - i) (drop i w) ≡ f → n ≡ i + length f → Fails w fault
      go [] t c = let two : Ok depth ≡ Err fault = ap (open_within depth) (sym t) ∙ k in cc
      go (p ∷ f) t c =
          let more : i < n = omega (arith, c) in
          let g = stuck_goes in
          failed w n fault stuck_at.last g.within (stuck_reads more) (λ v bad size. stuck_along more v bad size ∙ ap (λ o. on_within o (λ d. rest_read d stuck_at.last v bad size)) k)

  pub stuck_scans : Scans w (stopped n (open_within depth (take (n - i) (drop i w))))
  stuck_scans = go (open_within depth (take (n - i) (drop i w))) refl
    where
      go : (o : Result ℕ QueryFault) → open_within depth (take (n - i) (drop i w)) ≡ o → Scans w (stopped n o)
      go (Ok d) k = stuck_stops d k
      go (Err fault) k = stuck_fails fault k

-- before a filter too many
module _ (w : List Placed) (i depth : ℕ) (s : State) (x : Stands w s i depth) (open_end : ends_before s (drop i w) ≡ false) (p : Placed) (z : List Placed) (k : drop i w ≡ p ∷ z) (deep : is_deep_filter (whole s) p.symbol ≡ true) where
  taken_one : take (suc i) w ≡ take i w ++ p ∷ []
  taken_one = let more : suc i ≡ i + 1 = omega arith in ap (λ m. take m w) more ∙ take-add i 1 w ∙ ap (λ v. take i w ++ take 1 v) k

  one_fails : (v : List Placed) (bad : Option ℕ) (size : ℕ) → rest_read 0 (whole start) (take (suc i) w ++ v) bad size ≡ Err (Q.Deep p.from)
  one_fails v bad size =
      ap (λ u. rest_read 0 (whole start) (u ++ v) bad size) taken_one ∙ ap (λ u. rest_read 0 (whole start) u bad size) (append_assoc (take i w) (p ∷ []) v)
      ∙ x.comes (p ∷ v) bad size ∙ at_filter bad size depth p v (whole s) deep

  one_read : read (take i w ++ p ∷ []) ≡ run_on (step (next s) p) []
  one_read = read-append (take i w) (p ∷ []) ∙ ap (λ o. run_on o (p ∷ [])) x.reads

  by_step : (o : Option (Shape State)) → step (next s) p ≡ o → Fails w (Q.Deep p.from)
  by_step (Some r) a = failed w (suc i) (Q.Deep p.from) r (omega (arith, ap length k, ap length (take-append-drop i w), length-append (take i w) (drop i w), length-take-le i w x.within)) (ap read taken_one ∙ one_read ∙ ap (λ o. run_on o []) a) one_fails
  by_step None a = record {
    to_end = λ bad size. answered form _ (Q.Deep p.from) (sym (all_fails w (suc i) (Q.Deep p.from) one_fails bad size));
    alone = λ bad size. answered numbered_form _ (Q.Deep p.from) (sym (next_fails w (suc i) (Q.Deep p.from) one_fails i refl run_here none bad size));
  }
    where
      first_is : (q : Placed) (y : List Placed) → drop i w ≡ q ∷ y → p ≡ q
      first_is q y j = let two : p ∷ z ≡ q ∷ y = sym k ∙ j in cc

      run_here : run_length w ≡ i
      run_here = run_is w i (whole s) x.within x.reads (λ q y j. subst (λ (o : Placed). read (take i w ++ o ∷ []) ≡ None) (first_is q y j) (one_read ∙ ap (λ o. run_on o []) a))

      none : prefix.is_whole (take i w) ≡ false
      none = ap (λ o. is_some (finished o)) x.reads ∙ ap is_some (endings.unended s (drop i w) open_end (λ q y j. subst (λ (o : Placed). step (next s) o ≡ None) (first_is q y j) a))

pub deep_fails : (w : List Placed) (i depth : ℕ) (s : State) → Stands w s i depth → ends_before s (drop i w) ≡ false → begins_deep_filter s (drop i w) ≡ true → Fails w (Q.Deep (first_place (drop i w)))
deep_fails w i depth s x open_end d = go (drop i w) refl d
  where
    go : (v : List Placed) → drop i w ≡ v → begins_deep_filter s v ≡ true → Fails w (Q.Deep (first_place v))
    go [] k d = cc
    go (p ∷ z) k d = by_step w i depth s x open_end p z k d (step (next s) p) refl
