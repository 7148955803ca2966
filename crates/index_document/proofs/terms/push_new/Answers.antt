-- A new term has no rows, and comes where the next of the others begins.
use Rattle.std.proofs.Common.{◌≡◌, ◌<◌, ◌++◌, ◌∷◌, [], ℕ, List, Result, Ok, Err, OnOk, length, true, ap, sym, subst, ◌∙◌, arith, true≢false}
use Rattle.std.proofs.lemmas.Result.{on_ok_weaker}
use Rattle.index_document.specs.Terms.{has}
use Rattle.index_document.specs.Rows.{entries_of, runs_of}
use Rattle.index_document.specs.steps.Widening.{AreUpTo, IsWidening}
use Rattle.index_document.proofs.LeafLemmas.{differs}
use Rattle.index_document.proofs.WideningLemmas.{widening-same, widening-new, up_to-old}
use Rattle.index_document.proofs.terms.push_new.Goals as goal

three : {T E P Q R S : Type 0} (r : Result T E) → (P → Q → R → S) → OnOk r P → OnOk r Q → OnOk r R → OnOk r S
three (Ok x) f p q s = f p q s
three (Err e) f p q s = tt

pub returns-then-is_last-clause-widening : goal.returns-then-is_last-clause-widening
returns-then-is_last-clause-widening c = λ done was.
    let parts = c.args.parts.now in
    let made = c.args.made.now in
    widening-same (entries_of parts.leaves) parts.ids.items made.number done made.ids.items made.starts.items c.args.term was (sym c.if-is_last.ensures)

pub returns-clause-widening : goal.returns-clause-widening
returns-clause-widening c =
    let parts = c.args.parts.now in
    let all = entries_of parts.leaves in
    let ids = parts.ids.items in
    let made = c.args.made.now in
    let term = c.args.term in
    let runs = runs_of all ids in
    let greater : (t : ℕ) → has t made.ids.items ≡ true → t < term =
    λ t there. differs t term (c.requires.up_to t there) (λ same. true≢false (sym there ∙ ap (λ z. has z made.ids.items) same ∙ sym c.if-is_last.ensures)) in
    let start_is = c.start_at-start.ensures runs c.requires.indexed.starts_are (c.len.ensures ∙ ap length c.requires.indexed.rows_are) in
    let new = c.push_term.new.made in
    three c.push_term.result (λ ids_are starts_are number_is done was.
    subst (λ (n : ℕ). IsWidening all ids n (done ++ term ∷ []) new.ids.items new.starts.items) (sym number_is)
    (subst (λ (xs : List ℕ). IsWidening all ids made.number (done ++ term ∷ []) xs new.starts.items) (sym ids_are)
    (subst (λ (xs : List ℕ). IsWidening all ids made.number (done ++ term ∷ []) (made.ids.items ++ term ∷ []) xs) (sym starts_are)
    (widening-new all ids made.number done made.ids.items made.starts.items term c.start_at-start.result was c.requires.terms.rising greater c.requires.next c.requires.terms.members start_is))))
    c.push_term.ensures.ids c.push_term.ensures.starts c.push_term.ensures.number

pub returns-clause-up_to : goal.returns-clause-up_to
returns-clause-up_to c =
    let parts = c.args.parts.now in
    on_ok_weaker c.push_term.result (λ ids_are. subst (λ (xs : List ℕ). AreUpTo c.args.term xs) (sym ids_are)
    (up_to-old (entries_of parts.leaves) parts.ids.items c.args.term c.args.made.now.ids.items c.args.term c.requires.up_to (omega arith)))
    c.push_term.ensures.ids
