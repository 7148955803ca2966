-- A text that isn't empty is a node more.
use Rattle.std.proofs.Common.{◌∙◌, ◌<◌, ◌++◌, ◌∷◌, [], ap, map, length, string_bytes, arith}
use Rattle.std.proofs.lemmas.Bool.Decides.{nat_tests}
use Rattle.plain_tree.specs.View.{node}
use Rattle.plain_tree.specs.declared.tree.Tree.TheVariants.{Text}
use Rattle.doc_profile.proofs.Readers.{text_some}
use Rattle.doc_profile.proofs.end_tags.with_text.Goals as goal

pub returns : goal.returns
returns c =
    let some : 0 < length (string_bytes c.args.text) = grind (arith, nat_tests) in
    ap (map node) c.in_ok-push.ensures.items ∙ ap (λ z. map node (c.args.kids.items ++ Text z ∷ [])) c.from_string.ensures ∙ text_some c.args.kids.items (string_bytes c.args.text) some
