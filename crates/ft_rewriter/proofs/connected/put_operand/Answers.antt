-- An operand is one of the others exactly where its numbers are among theirs.
use Rattle.std.proofs.Common.{ap, sym, ◌∙◌, true, false, map, ◌∷◌, []}
use Rattle.std.specs.Prelude.{bytes_eq}
use Rattle.std.specs.List.{list_any}
use Rattle.std.proofs.lemmas.List.{map-append}
use Rattle.std.proofs.lemmas.Result.{on_ok_weaker}
use Rattle.ft_syntax.specs.View.{form}
use Rattle.ft_rewriter.proofs.Among.{known_operand}
use Rattle.ft_rewriter.proofs.connected.put_operand.Goals as goal

pub returns-then-is_among-clause-kept : goal.returns-then-is_among-clause-kept
returns-then-is_among-clause-kept c =
    sym (known_operand (map form c.args.kept.now) (form c.args.part) true
    ((λ i. list_any (bytes_eq (sym (c.as_slice.ensures ∙ c.in-Ok.ensures) i)) (sym c.requires i)) ∙ sym c.is_among.ensures ∙ c.if-is_among.true))

pub returns-in_ok-push-in-Ok-clause-kept : goal.returns-in_ok-push-in-Ok-clause-kept
returns-in_ok-push-in-Ok-clause-kept c =
    on_ok_weaker c.push-in-Ok.result
    (λ put.
    ap (map form) c.in_ok-push-in-Ok.ensures.ok ∙ map-append form c.args.kept.now (c.args.part ∷ [])
    ∙ sym (known_operand (map form c.args.kept.now) (form c.args.part) false
    ((λ i. list_any (bytes_eq (sym (c.as_slice.ensures ∙ c.in-Ok.ensures) i)) (sym c.requires i)) ∙ sym c.is_among.ensures ∙ c.if-is_among.false)))
    c.push-in-Ok.ensures.ok
