-- Answers one by one, and those that stay: their lines are among those of the others, whichever of the two lists is gone through.
use Rattle.std.proofs.Common.{◌≡◌, ℕ, zero, suc, ◌+◌, ◌<◌, ◌&&◌, ◌||◌, Bool, true, false, true≢false, not, cond, List, [], ◌∷◌, ◌++◌, Option, Some, None, filter, take, length, get_or, is_some, refl, sym, ap, ◌∙◌, subst, append-nil, arith}
use Rattle.std.specs.Prelude.{nat_eq, unwrap_or}
use Rattle.std.specs.Cmp.{nat_eq_equiv}
use Rattle.std.specs.List.{AllByRecursion, IsDistinct}
use Rattle.std.specs.Map.{keys_of, lookup}
use Rattle.std.specs.Str.{bytes_eq}
use Rattle.std.proofs.lemmas.Bool.{eq-eqb, eqb-true, or_right}
use Rattle.std.proofs.lemmas.List.{map-append, take_more}
use Rattle.std.proofs.lemmas.List.Concat.{flat_map-append}
use Rattle.std.proofs.lemmas.List.Elements.{filter-append}
use Rattle.std.proofs.lemmas.List.Folds.{list_any-append}
use Rattle.std.proofs.lemmas.Map.Keys.{IsDistinct-head, IsDistinct-tail}
use Rattle.standing_queries.specs.Answers.{Answers, all_lines, answers_of, stamps_of, turn_lines}
use Rattle.standing_queries.specs.Changes.{is_among, not_among}
use Rattle.standing_queries.specs.steps.Staying.{changed_lines, stays}
use Rattle.standing_queries.specs.declared.turn.Turn.{Turn}
use Rattle.standing_queries.proofs.SetLemmas.{none-left}

-- ---- one answer, and the others

module _ (test : ℕ → Bool) (e : ℕ × List (List ℕ)) (rest : Answers) where
  pub changed-first : changed_lines test (e ∷ rest) ≡ changed_lines test (e ∷ []) ++ changed_lines test rest
  changed-first = ap all_lines (filter-append (λ a. not (test a.0)) (e ∷ []) rest) ∙ flat_map-append (λ a. a.1) (filter (λ a. not (test a.0)) (e ∷ [])) (filter (λ a. not (test a.0)) rest)

pub among-append : (xs ys : List (List ℕ)) (line : List ℕ) → is_among (xs ++ ys) line ≡ (is_among xs line || is_among ys line)
among-append xs ys line = list_any-append (bytes_eq line) xs ys

-- the lines of an answer that doesn't stay
pub changed-one : (test : ℕ → Bool) (stamp : ℕ) (lines : List (List ℕ)) → test stamp ≡ false → changed_lines test ((stamp, lines) ∷ []) ≡ lines
changed-one test stamp lines e = ap (λ b. all_lines (cond (not b) ((stamp, lines) ∷ []) [])) e ∙ append-nil lines

-- those of one that stays
pub changed-none : (test : ℕ → Bool) (stamp : ℕ) (lines : List (List ℕ)) → test stamp ≡ true → changed_lines test ((stamp, lines) ∷ []) ≡ []
changed-none test stamp lines e = ap (λ b. all_lines (cond (not b) ((stamp, lines) ∷ []) [])) e

-- ---- what stays is among the others

-- each line of the first list is in the second
pub record Within (xs ys : List (List ℕ)) : Type 0 where
  pub each : (x : List ℕ) → is_among xs x ≡ true → is_among ys x ≡ true

-- each answer that stays has its lines among these
abbrev pub StayAmong : (ℕ → Bool) → List (List ℕ) → Answers → Type 0
StayAmong test all answers = AllByRecursion (λ e. test e.0 ≡ true → Within e.1 all) answers

pub all-missing : (test : ℕ → Bool) (others : List (List ℕ)) (answers : Answers) → StayAmong test others answers
    → not_among others (changed_lines test answers) ≡ not_among others (all_lines answers)
all-missing test others [] stay = refl
all-missing test others (e ∷ rest) stay =
    ap (not_among others) (changed-first test e rest)
    ∙ filter-append (λ line. not (is_among others line)) (changed_lines test (e ∷ [])) (changed_lines test rest)
    ∙ ap (λ l. l ++ not_among others (changed_lines test rest)) (one (test e.0) refl)
    ∙ ap (λ l. not_among others e.1 ++ l) (all-missing test others rest stay.1)
    ∙ sym (filter-append (λ line. not (is_among others line)) e.1 (all_lines rest))
  where
    one : (b : Bool) → test e.0 ≡ b → not_among others (changed_lines test (e ∷ [])) ≡ not_among others e.1
    one true h = ap (not_among others) (changed-none test e.0 e.1 h) ∙ sym (none-left others e.1 (stay.0 h).each)
    one false h = ap (not_among others) (changed-one test e.0 e.1 h)

-- ---- one turn more

apart-at : (s : ℕ) (ts : List Turn) (i : ℕ) (t : Turn) → AllByRecursion (λ y. nat_eq s y ≡ false) (stamps_of ts) → i < length ts → t ≡ get_or ts i t → nat_eq t.stamp s ≡ false
apart-at s [] i t all less is = absurd (omega (arith, less))
apart-at s (x ∷ ts) zero t all less is = ap (λ u. nat_eq u.stamp s) is ∙ nat_eq_equiv.symm x.stamp s ∙ all.0
apart-at s (x ∷ ts) (suc i) t all less is = apart-at s ts i t all.1 (omega (arith, less)) is

-- none of the turns before it has its stamp
pub fresh-stamp : (kept : Answers) (ts : List Turn) (i : ℕ) (t : Turn) → IsDistinct nat_eq (stamps_of ts) → i < length ts → t ≡ get_or ts i t
    → lookup (nat_eq t.stamp) (answers_of kept (take i ts)) ≡ None
fresh-stamp kept [] i t d less is = absurd (omega (arith, less))
fresh-stamp kept (x ∷ ts) zero t d less is = refl
fresh-stamp kept (x ∷ ts) (suc i) t d less is =
    ap (λ b. cond b (Some (turn_lines kept x)) (lookup (nat_eq t.stamp) (answers_of kept (take i ts))))
    (apart-at x.stamp ts i t (IsDistinct-head nat_eq x.stamp (stamps_of ts) d) (omega (arith, less)) is)
    ∙ fresh-stamp kept ts i t (IsDistinct-tail nat_eq x.stamp (stamps_of ts) d) (omega (arith, less)) is

pub answers-more : (kept : Answers) (ts : List Turn) (i : ℕ) (t : Turn) → i < length ts → t ≡ get_or ts i t
    → answers_of kept (take (i + 1) ts) ≡ answers_of kept (take i ts) ++ (t.stamp, turn_lines kept t) ∷ []
answers-more kept ts i t less is =
    ap (answers_of kept) (take_more ts i t less ∙ ap (λ u. take i ts ++ u ∷ []) (sym is))
    ∙ map-append (λ u. (u.stamp, turn_lines kept u)) (take i ts) (t ∷ [])

-- ---- the kept answers that stay

within-left : (xs ys zs : List (List ℕ)) → xs ≡ ys → Within xs (ys ++ zs)
within-left xs ys zs same = record { each = λ x there. among-append ys zs x ∙ ap (λ b. b || is_among zs x) (ap (λ l. is_among l x) (sym same) ∙ there) }

within-right : (xs ys zs : List (List ℕ)) → Within xs zs → Within xs (ys ++ zs)
within-right xs ys zs w = record { each = λ x there. among-append ys zs x ∙ or_right (is_among ys x) (is_among zs x) (w.each x there) }

found-later : (x : ℕ × List (List ℕ)) (more rest : Answers) → AllByRecursion (λ y. nat_eq x.0 y ≡ false) (keys_of rest)
    → AllByRecursion (λ e. lookup (nat_eq e.0) more ≡ Some e.1) rest → AllByRecursion (λ e. lookup (nat_eq e.0) (x ∷ more) ≡ Some e.1) rest
found-later x more [] apart found = tt
found-later x more (e ∷ rest) apart found =
    (ap (λ b. cond b (Some x.1) (lookup (nat_eq e.0) more)) (nat_eq_equiv.symm e.0 x.0 ∙ apart.0) ∙ found.0, found-later x more rest apart.1 found.1)

-- each answer is found by its stamp
own-found : (kept : Answers) → IsDistinct nat_eq (keys_of kept) → AllByRecursion (λ e. lookup (nat_eq e.0) kept ≡ Some e.1) kept
own-found [] d = tt
own-found (x ∷ rest) d = (
  ap (λ b. cond b (Some x.1) (lookup (nat_eq x.0) rest)) (eq-eqb x.0 x.0 refl),
  found-later x rest rest (IsDistinct-head nat_eq x.0 (keys_of rest) d) (own-found rest (IsDistinct-tail nat_eq x.0 (keys_of rest) d)),
)

lines-kept : (kept : Answers) (fresh : Option (List (List ℕ))) (stamp s : ℕ) (lines : List (List ℕ)) → (not (is_some fresh) && nat_eq s stamp) ≡ true
    → lookup (nat_eq s) kept ≡ Some lines → lines ≡ unwrap_or fresh (unwrap_or (lookup (nat_eq stamp) kept) [])
lines-kept kept (Some x) stamp s lines h found = absurd (true≢false (sym h))
lines-kept kept None stamp s lines h found = sym (ap (λ o. unwrap_or o []) (subst (λ n. lookup (nat_eq n) kept ≡ Some lines) (eqb-true s stamp h) found))

still-there : (kept : Answers) (s : ℕ) (lines : List (List ℕ)) → lookup (nat_eq s) kept ≡ Some lines → (ts : List Turn) → stays ts s ≡ true
    → Within lines (all_lines (answers_of kept ts))
still-there kept s lines found [] h = absurd (true≢false (sym h))
still-there kept s lines found (t ∷ ts) h = by (not (is_some t.fresh) && nat_eq s t.stamp) refl (still-there kept s lines found ts)
  where
    by : (b : Bool) → (not (is_some t.fresh) && nat_eq s t.stamp) ≡ b → (stays ts s ≡ true → Within lines (all_lines (answers_of kept ts)))
        → Within lines (turn_lines kept t ++ all_lines (answers_of kept ts))
    by true e later = within-left lines (turn_lines kept t) (all_lines (answers_of kept ts)) (lines-kept kept t.fresh t.stamp s lines e found)
    by false e later = within-right lines (turn_lines kept t) (all_lines (answers_of kept ts)) (later (sym (ap (λ b. b || stays ts s) e) ∙ h))

pub stay-kept : (kept : Answers) (ts : List Turn) (test : ℕ → Bool) → ((s : ℕ) → test s ≡ stays ts s) → IsDistinct nat_eq (keys_of kept)
    → StayAmong test (all_lines (answers_of kept ts)) kept
stay-kept kept ts test same d = each kept (own-found kept d)
  where
    each : (es : Answers) → AllByRecursion (λ e. lookup (nat_eq e.0) kept ≡ Some e.1) es → StayAmong test (all_lines (answers_of kept ts)) es
    each [] found = tt
    each (e ∷ es) found = (λ h. still-there kept e.0 e.1 found.0 ts (sym (same e.0) ∙ h), each es found.1)

-- ---- the answers of now that stay

looked-up : (kept : Answers) (s : ℕ) → Within (unwrap_or (lookup (nat_eq s) kept) []) (all_lines kept)
looked-up [] s = record { each = λ x there. there }
looked-up (e ∷ rest) s = by (nat_eq s e.0) (looked-up rest s)
  where
    by : (b : Bool) → Within (unwrap_or (lookup (nat_eq s) rest) []) (all_lines rest) → Within (unwrap_or (cond b (Some e.1) (lookup (nat_eq s) rest)) []) (e.1 ++ all_lines rest)
    by true later = within-left e.1 e.1 (all_lines rest) refl
    by false later = within-right (unwrap_or (lookup (nat_eq s) rest) []) e.1 (all_lines rest) later

none-stays : (s : ℕ) (ts : List Turn) → AllByRecursion (λ y. nat_eq s y ≡ false) (stamps_of ts) → stays ts s ≡ false
none-stays s [] all = refl
none-stays s (t ∷ ts) all = by (not (is_some t.fresh)) (nat_eq s t.stamp) (stays ts s) all.0 (none-stays s ts all.1)
  where
    by : (a b rest : Bool) → b ≡ false → rest ≡ false → ((a && b) || rest) ≡ false
    by true b rest e f = ap (λ c. c || rest) e ∙ f
    by false b rest e f = f

brings-none : (b same rest : Bool) → rest ≡ false → ((not b && same) || rest) ≡ true → b ≡ false
brings-none true same rest e h = absurd (true≢false (sym h ∙ e))
brings-none false same rest e h = refl

other-stays : (b same rest : Bool) → same ≡ false → ((not b && same) || rest) ≡ true → rest ≡ true
other-stays true same rest e h = h
other-stays false same rest e h = sym (ap (λ c. c || rest) e) ∙ h

-- a turn whose stamp stays brings no lines
Kept : List Turn → Turn → Type 0
Kept all t = stays all t.stamp ≡ true → is_some t.fresh ≡ false

kept-later : (t : Turn) (all ts : List Turn) → AllByRecursion (λ y. nat_eq t.stamp y ≡ false) (stamps_of ts) → AllByRecursion (Kept all) ts → AllByRecursion (Kept (t ∷ all)) ts
unfolding Kept
kept-later t all [] apart more = tt
kept-later t all (u ∷ ts) apart more =
    (λ h. more.0 (other-stays (is_some t.fresh) (nat_eq u.stamp t.stamp) (stays all u.stamp) (nat_eq_equiv.symm u.stamp t.stamp ∙ apart.0) h), kept-later t all ts apart.1 more.1)

all-kept : (ts : List Turn) → IsDistinct nat_eq (stamps_of ts) → AllByRecursion (Kept ts) ts
unfolding Kept
all-kept [] d = tt
all-kept (t ∷ ts) d =
    let apart = IsDistinct-head nat_eq t.stamp (stamps_of ts) d in (
      λ h. brings-none (is_some t.fresh) (nat_eq t.stamp t.stamp) (stays ts t.stamp) (none-stays t.stamp ts apart) h,
      kept-later t ts ts apart (all-kept ts (IsDistinct-tail nat_eq t.stamp (stamps_of ts) d)),
    )

of-turn : (kept : Answers) (fresh : Option (List (List ℕ))) (stamp : ℕ) → is_some fresh ≡ false → Within (unwrap_or fresh (unwrap_or (lookup (nat_eq stamp) kept) [])) (all_lines kept)
of-turn kept (Some x) stamp h = absurd (true≢false h)
of-turn kept None stamp h = looked-up kept stamp

pub stay-now : (kept : Answers) (ts : List Turn) (test : ℕ → Bool) → ((s : ℕ) → test s ≡ stays ts s) → IsDistinct nat_eq (stamps_of ts)
    → StayAmong test (all_lines kept) (answers_of kept ts)
unfolding Kept
stay-now kept ts test same d = each ts (all-kept ts d)
  where
    each : (us : List Turn) → AllByRecursion (Kept ts) us → StayAmong test (all_lines kept) (answers_of kept us)
    each [] h = tt
    each (u ∷ us) h = (λ e. of-turn kept u.fresh u.stamp (h.0 (sym (same u.stamp) ∙ e)), each us h.1)
