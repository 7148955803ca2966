-- A way that is clean settles it; one that is not leaves those after it.
use Rattle.ft_operators.proofs.CleanLemmas.{deciding_starts, deciding_may, decided_none, decided_here, deciding_on, deciding_fewer, may_go_on}
use Rattle.ft_operators.proofs.cleaning.some_is_clean.Goals as goal

pub loop-there-init : goal.loop-there-init
loop-there-init g c = deciding_starts c.args.course _ _ _ c.args.chain.now _ _ _ _ _ c.first-there.ensures

pub is_clean-requires : goal.is_clean-requires
is_clean-requires g c = deciding_may c.args.course _ _ _ _ _ _ _ _ _ c.loop-there.invariant c.requires.fits c.requires.filters c.requires.hits c.loop-there-test.true

pub returns-then-is_clean : goal.returns-then-is_clean
returns-then-is_clean g c =
    decided_here c.args.course _ _ _ _ _ _ _ _ _ c.loop-there.invariant _ _ _ _ _ c.is_clean.ensures c.loop-there-test.true c.if-is_clean.true

pub go_on-there-requires : goal.go_on-there-requires
go_on-there-requires g c =
    let may = deciding_may c.args.course _ _ _ _ _ _ _ _ _ c.loop-there.invariant c.requires.fits c.requires.filters c.requires.hits c.loop-there-test.true in
    may_go_on _ _ _ _ _ _ _ _ _ _ _ _ may c.is_clean.ensures

pub loop-there-smaller : goal.loop-there-smaller
loop-there-smaller g c =
    deciding_fewer c.args.course _ _ _ _ _ _ _ _ _ c.loop-there.invariant _ _ _ _ _ c.is_clean.ensures _ _ _ _ c.go_on-there.ensures c.loop-there-test.true

pub loop-there-preserved : goal.loop-there-preserved
loop-there-preserved g c =
    deciding_on c.args.course _ _ _ _ _ _ _ _ _ c.loop-there.invariant _ _ _ _ _ c.is_clean.ensures _ _ _ _ c.go_on-there.ensures c.loop-there-test.true c.if-is_clean.false

pub returns : goal.returns
returns g c = decided_none c.args.course _ _ _ _ _ _ _ _ _ c.loop-there.invariant c.loop-there-test.false
