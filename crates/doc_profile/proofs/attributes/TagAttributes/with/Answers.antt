-- The set keeps the names of the attributes after the first few.
use Rattle.std.proofs.Common.{◌∙◌, true, arith}
use Rattle.std.specs.Prelude.{string_bytes}
use Rattle.std.proofs.lemmas.Map.Text.{hash_set_updates_text}
use Rattle.doc_profile.proofs.LaterLemmas.{none_later, one_later}
use Rattle.doc_profile.proofs.attributes.TagAttributes.with.Goals as goal

pub invariant_of-self : goal.invariant_of-self
invariant_of-self c = λ name.
    c.self.invariant name ∙ none_later name c.self.inside.attrs.items c.push.new.self.items c.args.attr (omega arith) c.in_ok-push.ensures.items

pub invariant_of-self-2 : goal.invariant_of-self-2
invariant_of-self-2 c = λ name.
    let text = c.in_ok-name.name in
    hash_set_updates_text (string_bytes text) c.self.inside.later c.insert.new.self true c.in_ok-insert.ensures.updates name
    ∙ one_later name c.self.inside.later text c.self.inside.attrs.items c.push-2.new.self.items c.args.attr (omega arith) c.in_ok-push-2.ensures.items
    (c.in_ok-name.ensures.ok ∙ c.as_str.ensures) (c.self.invariant name)
