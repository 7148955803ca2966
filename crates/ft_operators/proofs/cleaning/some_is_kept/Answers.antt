-- A way whose includes are all kept settles it; one of which some is not leaves those after it.
use Rattle.std.proofs.Common.{◌∙◌, refl, ap, sym, arith}
use Rattle.std.specs.List.{list_all}
use Rattle.all_matches.specs.Chain.{kept_by}
use Rattle.ft_operators.specs.Chains.{links_of}
use Rattle.ft_operators.proofs.CleanLemmas.{search_starts, search_may, search_none, search_found, search_on, search_fewer, kept_verdict}
use Rattle.ft_operators.proofs.cleaning.some_is_kept.Goals as goal

pub loop-there-init : goal.loop-there-init
loop-there-init g c = search_starts c.args.course _ _ _ _ _ _ _ _ _ c.first-there.ensures

pub returns-then-are_kept : goal.returns-then-are_kept
returns-then-are_kept g c =
    let may = search_may c.args.course _ _ _ _ _ _ _ _ _ c.loop-there.invariant _ c.requires (omega arith) c.loop-there-test.true in
    let h = c.hold.ensures c.args.course in
    search_found c.args.course _ _ _ _ _ _ _ _ _ c.loop-there.invariant _ _ c.loop-there.steps refl h.kept_room (omega arith) c.loop-there-test.true
    (λ known. sym (kept_verdict (kept_by (links_of c.args.chain.now)) _ _ _ _ _ may h c.loop-there-test.true) ∙ ap (list_all (kept_by (links_of c.args.chain.now))) (sym c.deref.ensures.value) ∙ sym c.are_kept.ensures ∙ c.if-are_kept.true)

pub go_on-there-requires : goal.go_on-there-requires
go_on-there-requires g c =
    let may = search_may c.args.course _ _ _ _ _ _ _ _ _ c.loop-there.invariant _ c.requires (omega arith) c.loop-there-test.true in
    record { there = may.there; fits = omega (arith, may.fits, (c.hold.ensures c.args.course).kept_room) }

pub loop-there-smaller : goal.loop-there-smaller
loop-there-smaller g c =
    search_fewer c.args.course _ _ _ _ _ _ _ _ _ c.loop-there.invariant _ _ c.loop-there.steps refl (c.hold.ensures c.args.course).kept_room (omega arith) _ _ _ _ c.go_on-there.ensures c.loop-there-test.true

pub loop-there-preserved : goal.loop-there-preserved
loop-there-preserved g c =
    let may = search_may c.args.course _ _ _ _ _ _ _ _ _ c.loop-there.invariant _ c.requires (omega arith) c.loop-there-test.true in
    let h = c.hold.ensures c.args.course in
    search_on c.args.course _ _ _ _ _ _ _ _ _ c.loop-there.invariant _ _ c.loop-there.steps refl h.kept_room (omega arith) _ _ _ _ c.go_on-there.ensures c.loop-there-test.true
    (λ known. sym (kept_verdict (kept_by (links_of c.args.chain.now)) _ _ _ _ _ may h c.loop-there-test.true) ∙ ap (list_all (kept_by (links_of c.args.chain.now))) (sym c.deref.ensures.value) ∙ sym c.are_kept.ensures ∙ c.if-are_kept.false)

pub returns : goal.returns
returns g c = search_none c.args.course _ _ _ _ _ _ _ _ _ c.loop-there.invariant c.loop-there-test.false
