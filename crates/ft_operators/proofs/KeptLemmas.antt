-- The excludes that the filters of a chain keep lie in the bounds of the chain.
use Rattle.std.proofs.Common.{◌≡◌, ℕ, suc, ◌∷◌, [], List, true, ◌&&◌, ◌==◌, arith}
use Rattle.std.specs.Prelude.{ℤ, pos, negsuc, int_le, nat_le, nat_lt, Option, Some, None}
use Rattle.std.specs.List.{list_all}
use Rattle.std.proofs.lemmas.Bool.{and_parts}
use Rattle.std.proofs.lemmas.Bool.Decides.{nat_tests}
use Rattle.std.proofs.lemmas.Int.{ints}
use Rattle.ft_base.specs.declared.filter.Filter.{Filter}
use Rattle.ft_base.specs.declared.filter.Filter.TheVariants as F
use Rattle.ft_base.specs.declared.hit.Hit.{Hit}
use Rattle.ft_base.specs.declared.unit.TextUnit.{TextUnit}
use Rattle.ft_base.specs.declared.unit.TextUnit.TheVariants.{Words, Sentences, Paragraphs}
use Rattle.all_matches.specs.declared.window.Window.{Window}
use Rattle.all_matches.specs.Chain.{Link, kept_by}
use Rattle.all_matches.specs.Filters.{keeps}
use Rattle.all_matches.specs.Positions.{agree_in_order, end_in, share_one, start_in}
use Rattle.all_matches.specs.Window.{lies_in_window}
use Rattle.ft_operators.specs.Bounds.{agrees, everywhere, is_allowed, lies_between, lies_in, order_reach}
use Rattle.ft_operators.specs.KeptBounds.{after_zero, chain_bounds, from_zero, kept_bounds, numbers_between, unit_between}
use Rattle.ft_operators.specs.declared.bounds.Bounds.{Bounds}
use Rattle.ft_operators.proofs.BoundLemmas.{all_beside, all_lie, all_more, four_parts, either_order}

numbers_lie : (from : ℕ) (to : Option ℕ) (first end one last : ℕ) → lies_between (record { from = from; to = to }) one last ≡ true → nat_le first one ≡ true → nat_lt last end ≡ true
    → lies_between (numbers_between first end (record { from = from; to = to })) one last ≡ true
numbers_lie from None first end one last h a b = grind (arith, nat_tests)
numbers_lie from (Some to) first end one last h a b = grind (arith, nat_tests)

unit_lies : (kind : TextUnit) (from to : ℕ) (bounds : Bounds) (hit : Hit) → lies_in bounds hit ≡ true → nat_le from (start_in kind hit) ≡ true → nat_lt (end_in kind hit) to ≡ true
    → lies_in (unit_between kind from to bounds) hit ≡ true
unit_lies Words from to bounds hit h a b =
    let parts = four_parts (lies_between bounds.words hit.from hit.to) (lies_between bounds.sentences hit.sent_from hit.sent_to) (lies_between bounds.paragraphs hit.para_from hit.para_to)
    (is_allowed bounds.order hit) h in
    λ i. numbers_lie bounds.words.from bounds.words.to from to hit.from hit.to parts.0 a b i && (parts.1.0 i && (parts.1.1.0 i && parts.1.1.1 i))
unit_lies Sentences from to bounds hit h a b =
    let parts = four_parts (lies_between bounds.words hit.from hit.to) (lies_between bounds.sentences hit.sent_from hit.sent_to) (lies_between bounds.paragraphs hit.para_from hit.para_to)
    (is_allowed bounds.order hit) h in
    λ i. parts.0 i && (numbers_lie bounds.sentences.from bounds.sentences.to from to hit.sent_from hit.sent_to parts.1.0 a b i && (parts.1.1.0 i && parts.1.1.1 i))
unit_lies Paragraphs from to bounds hit h a b =
    let parts = four_parts (lies_between bounds.words hit.from hit.to) (lies_between bounds.sentences hit.sent_from hit.sent_to) (lies_between bounds.paragraphs hit.para_from hit.para_to)
    (is_allowed bounds.order hit) h in
    λ i. parts.0 i && (parts.1.0 i && (numbers_lie bounds.paragraphs.from bounds.paragraphs.to from to hit.para_from hit.para_to parts.1.1.0 a b i && parts.1.1.1 i))

-- ---- a window

window_from : (z : ℤ) (n : ℕ) → int_le z (pos n) ≡ true → nat_le (from_zero z) n ≡ true
window_from (pos m) n h = grind (arith, ints, nat_tests)
window_from (negsuc m) n h = grind (arith, nat_tests)

window_to : (z : ℤ) (n : ℕ) → int_le (pos n) z ≡ true → nat_lt n (after_zero z) ≡ true
window_to (pos m) n h = grind (arith, ints, nat_tests)
window_to (negsuc m) n h = grind (arith, ints, nat_tests)

window_lies : (kind : TextUnit) (window : Window) (bounds : Bounds) (hit : Hit) → lies_in bounds hit ≡ true → lies_in_window kind window hit ≡ true
    → lies_in (unit_between kind (from_zero window.from) (after_zero window.to) bounds) hit ≡ true
window_lies kind window bounds hit h k =
    let parts = and_parts (int_le window.from (pos (start_in kind hit))) (int_le (pos (end_in kind hit)) window.to) k in
    unit_lies kind (from_zero window.from) (after_zero window.to) bounds hit h (window_from window.from (start_in kind hit) parts.0) (window_to window.to (end_in kind hit) parts.1)

-- ---- a scope

scope_from : (first last other_first other_last : ℕ) → ((first == last) && (other_first == other_last) && (first == other_first)) ≡ true → nat_le other_first first ≡ true
scope_from first last other_first other_last h = grind (arith, nat_tests)

scope_to : (first last other_first other_last : ℕ) → ((first == last) && (other_first == other_last) && (first == other_first)) ≡ true → nat_lt last (suc other_first) ≡ true
scope_to first last other_first other_last h = grind (arith, nat_tests)

-- ---- filters

keeps_lies : (kind : Filter) (includes : List Hit) (choice : Option Window) (bounds : Bounds) (hit : Hit) → lies_in bounds hit ≡ true → keeps kind includes choice hit ≡ true
    → lies_in (kept_bounds kind includes choice bounds) hit ≡ true
keeps_lies F.Ordered includes choice bounds hit h k =
    (and_parts (lies_in (kept_bounds F.Ordered includes choice bounds) hit) true
    (all_beside order_reach bounds includes (hit ∷ []) (λ i. h i && true)
    (all_more (agree_in_order hit) (λ a. list_all (agrees order_reach a) (hit ∷ [])) (λ a e i. (either_order hit.from hit.query a.from a.query e).1 i && true) includes k))).0
keeps_lies (F.Window size kind) includes None bounds hit h k = h
keeps_lies (F.Window size kind) includes (Some window) bounds hit h k = window_lies kind window bounds hit h k
keeps_lies (F.Distance range kind) includes choice bounds hit h k = h
keeps_lies F.SameSentence [] choice bounds hit h k = h
keeps_lies F.SameSentence (first ∷ rest) choice bounds hit h k =
    let one = (and_parts (share_one Sentences hit first) (list_all (share_one Sentences hit) rest)
    (and_parts (share_one Sentences hit hit) (list_all (share_one Sentences hit) (first ∷ rest)) k).1).0 in
    unit_lies Sentences first.sent_from (suc first.sent_from) bounds hit h (scope_from hit.sent_from hit.sent_to first.sent_from first.sent_to one)
    (scope_to hit.sent_from hit.sent_to first.sent_from first.sent_to one)
keeps_lies F.SameParagraph [] choice bounds hit h k = h
keeps_lies F.SameParagraph (first ∷ rest) choice bounds hit h k =
    let one = (and_parts (share_one Paragraphs hit first) (list_all (share_one Paragraphs hit) rest)
    (and_parts (share_one Paragraphs hit hit) (list_all (share_one Paragraphs hit) (first ∷ rest)) k).1).0 in
    unit_lies Paragraphs first.para_from (suc first.para_from) bounds hit h (scope_from hit.para_from hit.para_to first.para_from first.para_to one)
    (scope_to hit.para_from hit.para_to first.para_from first.para_to one)
keeps_lies F.DifferentSentence includes choice bounds hit h k = h
keeps_lies F.DifferentParagraph includes choice bounds hit h k = h
keeps_lies F.AtStart includes choice bounds hit h k = h
keeps_lies F.AtEnd includes choice bounds hit h k = h
keeps_lies F.EntireContent includes choice bounds hit h k = h

chain_lies : (links : List Link) (bounds : Bounds) (hit : Hit) → lies_in bounds hit ≡ true → kept_by links hit ≡ true → lies_in (chain_bounds links bounds) hit ≡ true
chain_lies [] bounds hit h k = h
chain_lies (link ∷ links) bounds hit h k =
    let parts = and_parts (keeps link.kind link.includes link.choice hit) (kept_by links hit) k in
    chain_lies links (kept_bounds link.kind link.includes link.choice bounds) hit (keeps_lies link.kind link.includes link.choice bounds hit h parts.0) parts.1

pub kept_lies : (links : List Link) (hit : Hit) → kept_by links hit ≡ true → lies_in (chain_bounds links everywhere) hit ≡ true
kept_lies links hit k = chain_lies links everywhere hit (all_lie hit) k
