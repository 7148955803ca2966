-- The new text ends where the bytes do.
use Rattle.std.proofs.Common.{◌≡◌, ◌+◌, ◌++◌, ◌∷◌, [], length, string_bytes, ap, ap₂, sym, ◌∙◌, arith}
use Rattle.text_list.specs.Ends.{texts}
use Rattle.text_list.proofs.EndsLemmas.{texts-push, ends-push}
use Rattle.text_list.proofs.list.TextList.push.Goals as goal

-- the end of the new text
end : (c : goal.In_ok-push) → c.len.result ≡ length (string_bytes c.self.inside.text) + length c.args.text.now
end c = omega (arith, c.len.ensures, c.in_ok-push_str.ensures.len)

items : (c : goal.In_ok-push) → c.push.new.self.items ≡ c.self.inside.ends.items ++ (length (string_bytes c.self.inside.text) + length c.args.text.now) ∷ []
items c = c.in_ok-push.ensures.items ∙ ap₂ (λ l e. l ++ e ∷ []) c.in_ok-reserve.ensures.items (end c)

pub invariant_of-self-2 : goal.invariant_of-self-2
invariant_of-self-2 c =
    rw (items c, c.in_ok-push_str.ensures.bytes)
    (ends-push (string_bytes c.self.inside.text) c.args.text.now c.self.inside.ends.items 0 c.utf8.text c.self.invariant)

pub returns-clause-ok : goal.returns-clause-ok
returns-clause-ok c =
    ap₂ (texts 0) (items c) c.in_ok-push_str.ensures.bytes
    ∙ texts-push (string_bytes c.self.inside.text) c.args.text.now c.self.inside.ends.items 0 c.self.invariant
    ∙ ap (λ l. l ++ c.args.text.now ∷ []) c.self.view_is
