-- A stable sort by the terms keeps those of one term in order.
use Rattle.std.proofs.Common.{◌≡◌, ℕ, ◌==◌, not, ◌&&◌, arith, rules, ◌∙◌, sym}
use Rattle.std.specs.Ordering.{nat_cmp, is_lt}
use Rattle.std.specs.List.Sorted.{ties}
use Rattle.std.proofs.lemmas.Bool.Decides.{nat_tests}
use Rattle.std.proofs.lemmas.List.Elements.{filter_agree}
use Rattle.std.proofs.lemmas.List.Sorted.{length_permutation, IsNonDecreasingBy-from_sort_by_key, answers_always}
use Rattle.index_document.specs.declared.entry.Entry.{Entry}
use Rattle.index_document.specs.Rows.{entry_at}
use Rattle.index_document.specs.steps.Groups.{term_of}
use Rattle.index_document.proofs.entry.sorted.Goals as goal

same-key : (t n : ℕ) → (not (is_lt (nat_cmp t n)) && not (is_lt (nat_cmp n t))) ≡ (n == t)
same-key t n = grind (arith, nat_tests)

tied : (t : ℕ) (e : Entry) → ties (λ (x y : Entry). is_lt (nat_cmp (term_of x) (term_of y))) (entry_at 0 0 t) e ≡ (e.term == t)
tied t e = same-key t e.term

pub returns : goal.returns
returns c =
    let old = c.args.entries.items in
    let new = c.sort_by_key.new.self.items in
    let done = c.in_ok-sort_by_key.ensures in
    record {
      same_length = length_permutation old new done.permutation;
      same = λ t. sym (filter_agree _ _ (tied t) new) ∙ done.stable term_of (answers_always _ _ _ (λ f a r g h. search rules)) (entry_at 0 0 t) ∙ filter_agree _ _ (tied t) old;
      in_order = IsNonDecreasingBy-from_sort_by_key term_of _ done.sorted (λ a r q k. search rules);
    }
