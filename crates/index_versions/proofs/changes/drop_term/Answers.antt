-- The id of a term that is there names its entry, with which only this id leaves.
use Rattle.std.proofs.Common.{◌≡◌, Some, ap, sym, ◌∙◌}
use Rattle.index_meaning.specs.Entries.{entry}
use Rattle.index_versions.proofs.EntryLemmas.{live_below}
use Rattle.index_versions.proofs.NamingLemmas.{left_is}
use Rattle.index_versions.proofs.changes.drop_term.Goals as goal

pub entry-term-requires : goal.entry-term-requires
entry-term-requires c =
    let d = c.args.dictionary.now in
    live_below d.given d.terms c.args.id c.len-terms.ensures.sorted c.len-terms.ensures.given c.requires

pub returns-clause-left : goal.returns-clause-left
returns-clause-left c = λ other.
    let d = c.args.dictionary.now in
    let term = c.entry-term.result in
    let key = c.as_str.ensures ∙ c.in_ok-key.ensures in
    let word = c.as_str-2.ensures ∙ c.in_ok-word.ensures in
    let is : entry c.as_str.result.now c.as_str-2.result.now ≡ entry term.key.now term.word.now = λ i. entry (key i) (word i) in
    left_is d c.take.new.self (entry c.as_str.result.now c.as_str-2.result.now) c.args.id other c.len-terms.ensures.sorted c.len-terms.ensures.given c.requires
    (c.entry-term.ensures ∙ ap Some (sym is)) c.in_ok-take.ensures.becomes
