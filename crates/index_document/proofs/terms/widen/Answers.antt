-- Each entry brings its term where it is not there, and in the end all terms that were there are done.
use Rattle.std.proofs.Common.{◌≡◌, ◌+◌, ◌<◌, ◌≤◌, ◌++◌, ◌||◌, ◌∷◌, [], ℕ, List, length, get_or, map, take, ap, sym, subst, ◌∙◌, arith, true≢false, inl, inr}
use Rattle.std.proofs.lemmas.Bool.{cases_lt}
use Rattle.std.proofs.lemmas.List.{get_or_read, map_more, take_all}
use Rattle.index_document.specs.Terms.{has}
use Rattle.index_document.specs.Rows.{entries_of}
use Rattle.index_document.specs.steps.Groups.{term_of}
use Rattle.index_document.specs.steps.Widening.{IsWidening}
use Rattle.index_document.proofs.WideningLemmas.{widening-start, widening-indexed, widening-members}
use Rattle.index_document.proofs.terms.widen.Goals as goal

pub loop-next-init : goal.loop-next-init
loop-next-init c = record {
  widening = rw (c.new.ensures.items, c.new-2.ensures.items) (widening-start (entries_of c.args.parts.now.leaves) c.args.parts.now.ids.items);
  up_to = λ j d from there t inside. absurd (true≢false (sym inside ∙ ap (has t) c.new.ensures.items));
}

pub push_new-requires-clause-rising : goal.push_new-requires-clause-rising
push_new-requires-clause-rising c =
    (c.in_ok-copy_up_to.ensures.widening (map term_of (take c.loop-next.next c.args.entries.now.items)) c.loop-next.invariant.widening).rising

pub push_new-requires-clause-up_to : goal.push_new-requires-clause-up_to
push_new-requires-clause-up_to c =
    let next = c.loop-next.next in
    let entries = c.args.entries.now.items in
    let entry = c.index.result.now in
    let there : next < length entries = omega (arith, c.loop-next-test.true, c.len-next-end.ensures, c.args.entries.now.ok.0) in
    c.in_ok-copy_up_to.ensures.up_to (λ t inside. omega (arith, c.loop-next.invariant.up_to next entry (omega arith) there t inside, ap term_of c.index.ensures))

pub loop-next-preserved : goal.loop-next-preserved
loop-next-preserved c =
    let next = c.loop-next.next in
    let entries = c.args.entries.now.items in
    let entry = c.index.result.now in
    let made = c.push_new.new.made in
    let done = map term_of (take next entries) in
    let there : next < length entries = omega (arith, c.loop-next-test.true, c.len-next-end.ensures, c.args.entries.now.ok.0) in
    let more : done ++ entry.term ∷ [] ≡ map term_of (take (next + 1) entries) = sym (map_more term_of entries next entry there ∙ ap (λ t. done ++ t ∷ []) (sym (ap term_of c.index.ensures))) in
    record {
      widening = subst (λ (ds : List ℕ). IsWidening (entries_of c.args.parts.now.leaves) c.args.parts.now.ids.items made.number ds made.ids.items made.starts.items) more
          (c.in_ok-push_new.ensures.widening done (c.in_ok-copy_up_to.ensures.widening done c.loop-next.invariant.widening));
      up_to = λ j d from within t inside. omega (arith, c.in_ok-push_new.ensures.up_to t inside, ap term_of (get_or_read entries next entry there c.index.ensures d), c.requires.order next j d (omega (arith, from)) within);
    }

all-done : (ids : List ℕ) (number : ℕ) → (number < length ids → 4294967295 < get_or ids number 0) → (number < length ids → get_or ids number 0 < 4294967296) → length ids ≤ number
all-done ids number next fits = elim (cases_lt number (length ids)) [
  | inl more ↦ absurd (omega (arith, next more, fits more))
  | inr end ↦ end
]

pub returns-clause-indexed : goal.returns-clause-indexed
returns-clause-indexed c =
    let parts = c.args.parts.now in
    let made = c.copy_up_to-2.new.made in
    let done = map term_of (take c.loop-next.next c.args.entries.now.items) in
    let last = c.in_ok-copy_up_to-2.ensures in
    rw c.shrink_to_fit.ensures.items (widening-indexed (entries_of parts.leaves) parts.ids.items made.number done made.ids.items made.starts.items parts.rows (last.widening done c.loop-next.invariant.widening)
    c.requires.indexed.rows_are (all-done parts.ids.items made.number last.next last.fits))

pub returns-clause-rising : goal.returns-clause-rising
returns-clause-rising c =
    rw c.shrink_to_fit.ensures.items (c.in_ok-copy_up_to-2.ensures.widening (map term_of (take c.loop-next.next c.args.entries.now.items)) c.loop-next.invariant.widening).rising

pub returns-clause-members : goal.returns-clause-members
returns-clause-members c = λ t.
    let parts = c.args.parts.now in
    let entries = c.args.entries.now.items in
    let made = c.copy_up_to-2.new.made in
    let done = map term_of (take c.loop-next.next entries) in
    let last = c.in_ok-copy_up_to-2.ensures in
    let all : take c.loop-next.next entries ≡ entries = take_all c.loop-next.next entries (omega (arith, c.loop-next-test.false, c.len-next-end.ensures, c.args.entries.now.ok.0)) in
    ap (has t) c.shrink_to_fit.ensures.items
    ∙ widening-members (entries_of parts.leaves) parts.ids.items made.number done made.ids.items made.starts.items (last.widening done c.loop-next.invariant.widening)
    (all-done parts.ids.items made.number last.next last.fits) t
    ∙ ap (λ es. has t parts.ids.items || has t (map term_of es)) all
