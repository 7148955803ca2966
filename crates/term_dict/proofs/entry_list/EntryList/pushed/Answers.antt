-- A key and a word more are an entry more.
use Rattle.std.proofs.Common.{◌++◌, ◌∷◌, [], List, ap, ◌∙◌}
use Rattle.index_meaning.specs.Entries.{Entry, entry}
use Rattle.term_dict.specs.Given.{paired}
use Rattle.term_dict.proofs.GivenLemmas.{paired-more}
use Rattle.term_dict.proofs.entry_list.EntryList.pushed.Goals as goal

pub returns : goal.returns
returns c =
    let inside = c.self.inside in
    (λ i. paired (c.in_ok-push.ensures.ok i) (c.in_ok-push-2.ensures.ok i))
    ∙ paired-more inside.keys inside.words c.args.key.now c.args.word.now c.self.invariant
    ∙ ap (λ (es : List Entry). es ++ entry c.args.key.now c.args.word.now ∷ []) c.self.view_is
