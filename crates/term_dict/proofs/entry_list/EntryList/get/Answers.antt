-- An entry has the key and the word of its number.
use Rattle.std.proofs.Common.{◌<◌, List, length, get_or, ap, sym, ◌∙◌, arith}
use Rattle.index_meaning.specs.Entries.{Entry, entry}
use Rattle.term_dict.proofs.GivenLemmas.{length-paired, paired-at}
use Rattle.term_dict.proofs.entry_list.EntryList.get.Goals as goal

pub get-requires : goal.get-requires
get-requires c =
    let inside = c.self.inside in omega (arith, c.requires, c.self.invariant, ap length c.self.view_is, length-paired inside.keys inside.words c.self.invariant)

pub get-requires-2 : goal.get-requires-2
get-requires-2 c =
    let inside = c.self.inside in omega (arith, c.requires, ap length c.self.view_is, length-paired inside.keys inside.words c.self.invariant)

pub returns : goal.returns
returns c =
    let inside = c.self.inside in
    let within : c.args.number < length inside.words = omega (arith, c.requires, ap length c.self.view_is, length-paired inside.keys inside.words c.self.invariant) in
    c.new.ensures
    ∙ (λ i. entry (c.get.ensures i) (c.get-2.ensures i))
    ∙ sym (paired-at inside.keys inside.words c.args.number c.get.result.now c.get-2.result.now c.new.result c.self.invariant within)
    ∙ ap (λ (es : List Entry). get_or es c.args.number c.new.result) c.self.view_is
