-- The text after nothing, and after the last node.
use Rattle.std.proofs.Common.{◌≡◌, ◌∷◌, ◌++◌, [], length, sym, ap, ◌∙◌, arith}
use Rattle.std.proofs.lemmas.Bool.Decides.{nat_tests}
use Rattle.std.proofs.lemmas.Result.{on_ok_weaker}
use Rattle.plain_tree.specs.Document.{are_joined, text}
use Rattle.plain_tree.specs.Edits.{append, joined, only}
use Rattle.plain_tree.proofs.TreesJoined.{row, no_text_after, text_alone}
use Rattle.plain_tree.proofs.joining.join_text.Goals as goal

pub returns-then-is_empty : goal.returns-then-is_empty
returns-then-is_empty c =
    let none : length c.args.more ≡ 0 = grind (arith, nat_tests) in
    λ joined. no_text_after c.args.list.now.items c.args.more joined none

pub join_after-requires : goal.join_after-requires
join_after-requires c = grind (arith, nat_tests)

pub returns-in-Some : goal.returns-in-Some
returns-in-Some c =
    let is : c.args.list.now.items ≡ c.pop.new.self.items ++ c.in-Some.last ∷ [] = c.in-Some.ensures.items in
    on_ok_weaker c.join_after.result (λ says h. says (ap (λ z. are_joined (row z)) (sym is) ∙ h) ∙ ap (λ z. joined (append (row z) (only (text c.args.more)))) (sym is)) c.join_after.ensures

pub returns-in_ok-push_text-in-None : goal.returns-in_ok-push_text-in-None
returns-in_ok-push_text-in-None c =
    let some : length c.args.more ≡ 0 → ⊥ = λ (h : length c.args.more ≡ 0). grind (arith, nat_tests) in
    λ joined. ap row c.in_ok-push_text-in-None.ensures
    ∙ text_alone c.args.list.now.items c.pop.new.self.items c.args.more c.in-None.ensures.items (omega (arith, c.in-None.ensures.cases.0)) some
