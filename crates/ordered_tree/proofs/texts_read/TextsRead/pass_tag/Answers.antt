-- A tag brings no leaf, and the places of the starts are those that the tag leaves.
use Rattle.std.proofs.Common.{◌++◌, refl, sym, ap, ◌∙◌, append-nil}
use Rattle.ordered_tree.proofs.LeavesLemmas.{leaves_after-nil, last_leaf-nil}
use Rattle.ordered_tree.proofs.texts_read.TextsRead.pass_tag.Goals as goal

pub returns-clause-gathers : goal.returns-clause-gathers
returns-clause-gathers c =
    let old = c.args.self.now in
    record {
      leaves = sym (append-nil old.leaves) ∙ ap (λ l. old.leaves ++ l) (sym (leaves_after-nil old.last));
      last = sym (last_leaf-nil old.last);
      sentences = c.pass_tag.ensures.sentences;
      paragraphs = c.pass_tag.ensures.paragraphs;
      abbreviations = refl;
      most = refl;
    }
