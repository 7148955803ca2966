-- One link more.
use Rattle.std.proofs.Common.{◌≡◌, ◌∙◌, sym, ap, ◌+◌, ◌∷◌, suc, drop, arith, drop-cons}
use Rattle.std.specs.Prelude.{fold}
use Rattle.std.specs.Option.{option_copied}
use Rattle.std.specs.BTreeSet.{insert_key}
use Rattle.thesaurus_file.specs.Phrases.{phrase_cmp}
use Rattle.thesaurus_file.specs.steps.Walks.{unseen_ends}
use Rattle.thesaurus_file.proofs.WalkLemmas.{ends_first}
use Rattle.thesaurus_file.proofs.thesaurus.insert_ends.Goals as goal

pub loop-link-preserved : goal.loop-link-preserved
loop-link-preserved c =
    let relation = option_copied c.args.relationship in
    let seen = c.args.seen.now.keys in
    let links = c.args.links.now in
    let e : c.loop-link.link-index + 1 ≡ suc c.loop-link.link-index = omega arith in
    let rest = drop (c.loop-link.link-index + 1) c.args.links.now in
    ap (λ keys. fold (insert_key phrase_cmp) keys (unseen_ends relation seen rest)) c.in_ok-insert_end.ensures
    ∙ ends_first relation seen c.loop-link.next.keys c.link-item.result rest
    ∙ ap (λ l. fold (insert_key phrase_cmp) c.loop-link.next.keys (unseen_ends relation seen l)) ((λ i. c.link-item.is i ∷ drop (e i) links) ∙ sym (drop-cons links c.loop-link.link-index c.link-item.result c.loop-link-test.true))
    ∙ c.loop-link.invariant
