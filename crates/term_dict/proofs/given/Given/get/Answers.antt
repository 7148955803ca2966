-- The blocks before an entry's are full.
use Rattle.std.proofs.Common.{◌≡◌, ◌<◌, ◌/◌, ◌%◌, List, [], length, get_or, subst, ap, sym, ◌∙◌, arith}
use Rattle.std.proofs.lemmas.List.{get_or_default}
use Rattle.index_meaning.specs.Entries.{Entry}
use Rattle.shared_list.specs.Blocks.{joined}
use Rattle.term_dict.proofs.GivenLemmas.{block-there, offset-within, entry-at}
use Rattle.term_dict.proofs.given.Given.get.Goals as goal

pub index-requires : goal.index-requires
index-requires c =
    let blocks = c.self.inside.blocks.items in
    let within : c.args.number < length (joined blocks) = omega (arith, c.requires, ap length c.self.view_is) in
    omega (arith, block-there blocks c.args.number c.self.invariant.filled within)

pub get-requires : goal.get-requires
get-requires c =
    let blocks = c.self.inside.blocks.items in
    let n = c.args.number in
    let block = c.index.result.now in
    let within : n < length (joined blocks) = omega (arith, c.requires, ap length c.self.view_is) in
    let is : block ≡ get_or blocks (n / 256) [] = c.index.ensures ∙ get_or_default blocks (n / 256) block [] (block-there blocks n c.self.invariant.filled within) in
    subst (λ (b : List Entry). n % 256 < length b) (sym is) (offset-within blocks n c.self.invariant.filled within)

pub returns : goal.returns
returns c =
    let blocks = c.self.inside.blocks.items in
    let n = c.args.number in
    let block = c.index.result.now in
    let within : n < length (joined blocks) = omega (arith, c.requires, ap length c.self.view_is) in
    let is : block ≡ get_or blocks (n / 256) [] = c.index.ensures ∙ get_or_default blocks (n / 256) block [] (block-there blocks n c.self.invariant.filled within) in
    c.get.ensures
    ∙ ap (λ (b : List Entry). get_or b (n % 256) c.get.result) is
    ∙ entry-at blocks n c.get.result c.self.invariant.filled within
    ∙ ap (λ (es : List Entry). get_or es n c.get.result) c.self.view_is
