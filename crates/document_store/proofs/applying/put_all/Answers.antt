-- What is asked of the next document, and how it is put.
use Rattle.std.proofs.Common.{◌≡◌, ◌∙◌, ◌∷◌, [], ap, arith, length, rules, subst, sym}
use Rattle.std.specs.Vec.Iter.{into_iter_items}
use Rattle.std.proofs.lemmas.List.{nil_from_length}
use Rattle.document_store.proofs.ApplyLemmas.{Applied, applied-first, applied-last, applied-next, next-counted, next-follows, next-order, next-touched, place-there}
use Rattle.document_store.proofs.applying.put_all.Goals as goal

pub loop-one-init : goal.loop-one-init
loop-one-init g c =
    let all = c.args.documents.now in
    let made = c.args.made.now in
    let given : into_iter_items c.into_iter-one-iterator.result ≡ c.args.planned.items = search rules in
    record {
      applied = λ edit targets plans.
          subst (Applied c.args.abbreviations.now edit all targets made.version c.args.rows.now made.documents made.version made.tokens c.args.rows.now) (sym given)
          (subst (λ es. Applied c.args.abbreviations.now edit all targets made.version c.args.rows.now es made.version made.tokens c.args.rows.now c.args.planned.items) (sym c.requires.same)
          (applied-first c.args.abbreviations.now edit all targets made.version c.args.rows.now made.tokens c.args.planned.items plans c.requires.counted c.requires.limits));
      ends = search rules;
    }

pub entry-requires : goal.entry-requires
entry-requires g c =
    let all = c.args.documents.now in
    let made = c.args.made.now in
    let now = c.loop-one.made in
    let rest = into_iter_items c.next.new.self in
    let edit = c.requires.plans.0 in
    let targets = c.requires.plans.1.0 in
    let held : Applied c.args.abbreviations.now edit all targets made.version c.args.rows.now now.documents now.version now.tokens c.loop-one.rows (c.in-Some.one ∷ rest) =
    subst (Applied c.args.abbreviations.now edit all targets made.version c.args.rows.now now.documents now.version now.tokens c.loop-one.rows) c.in-Some.ensures.steps.0
    (c.loop-one.invariant.applied edit targets c.requires.plans.1.1) in
    (place-there c.args.abbreviations.now edit all targets made.version c.args.rows.now now.documents now.version now.tokens c.loop-one.rows c.in-Some.one rest held).0

pub put-requires-clause-follows : goal.put-requires-clause-follows
put-requires-clause-follows g c =
    let all = c.args.documents.now in
    let made = c.args.made.now in
    let now = c.loop-one.made in
    let rest = into_iter_items c.next.new.self in
    let edit = c.requires.plans.0 in
    let targets = c.requires.plans.1.0 in
    let held : Applied c.args.abbreviations.now edit all targets made.version c.args.rows.now now.documents now.version now.tokens c.loop-one.rows (c.in-Some.one ∷ rest) =
    subst (Applied c.args.abbreviations.now edit all targets made.version c.args.rows.now now.documents now.version now.tokens c.loop-one.rows) c.in-Some.ensures.steps.0
    (c.loop-one.invariant.applied edit targets c.requires.plans.1.1) in
    next-follows c.args.abbreviations.now edit all targets made.version c.args.rows.now now.documents now.version now.tokens c.loop-one.rows c.in-Some.one rest held
    c.entry.result.0.now c.entry.result.1.now c.entry.ensures c.requires.numbered.0 c.requires.numbered.1

pub put-requires-clause-order : goal.put-requires-clause-order
put-requires-clause-order g c =
    let all = c.args.documents.now in
    let made = c.args.made.now in
    let now = c.loop-one.made in
    let rest = into_iter_items c.next.new.self in
    let edit = c.requires.plans.0 in
    let targets = c.requires.plans.1.0 in
    let held : Applied c.args.abbreviations.now edit all targets made.version c.args.rows.now now.documents now.version now.tokens c.loop-one.rows (c.in-Some.one ∷ rest) =
    subst (Applied c.args.abbreviations.now edit all targets made.version c.args.rows.now now.documents now.version now.tokens c.loop-one.rows) c.in-Some.ensures.steps.0
    (c.loop-one.invariant.applied edit targets c.requires.plans.1.1) in
    next-order c.args.abbreviations.now edit all targets made.version c.args.rows.now now.documents now.version now.tokens c.loop-one.rows c.in-Some.one rest held
    c.entry.result.0.now c.entry.result.1.now c.entry.ensures

pub put-requires-clause-counted : goal.put-requires-clause-counted
put-requires-clause-counted g c =
    let all = c.args.documents.now in
    let made = c.args.made.now in
    let now = c.loop-one.made in
    let rest = into_iter_items c.next.new.self in
    let edit = c.requires.plans.0 in
    let targets = c.requires.plans.1.0 in
    let held : Applied c.args.abbreviations.now edit all targets made.version c.args.rows.now now.documents now.version now.tokens c.loop-one.rows (c.in-Some.one ∷ rest) =
    subst (Applied c.args.abbreviations.now edit all targets made.version c.args.rows.now now.documents now.version now.tokens c.loop-one.rows) c.in-Some.ensures.steps.0
    (c.loop-one.invariant.applied edit targets c.requires.plans.1.1) in
    next-counted c.args.abbreviations.now edit all targets made.version c.args.rows.now now.documents now.version now.tokens c.loop-one.rows c.in-Some.one rest held
    c.entry.result.0.now c.entry.result.1.now c.entry.ensures

pub loop-one-preserved : goal.loop-one-preserved
loop-one-preserved g c =
    let all = c.args.documents.now in
    let made = c.args.made.now in
    let now = c.loop-one.made in
    let rest = into_iter_items c.next.new.self in
    let next = c.in-Some.ensures.steps.0 in
    record {
      applied = λ edit targets plans.
          let held : Applied c.args.abbreviations.now edit all targets made.version c.args.rows.now now.documents now.version now.tokens c.loop-one.rows (c.in-Some.one ∷ rest) =
          subst (Applied c.args.abbreviations.now edit all targets made.version c.args.rows.now now.documents now.version now.tokens c.loop-one.rows) next (c.loop-one.invariant.applied edit targets plans) in
          applied-next c.args.abbreviations.now edit all targets made.version c.args.rows.now now.documents now.version now.tokens c.loop-one.rows c.in-Some.one rest held
          c.entry.result.0.now c.entry.result.1.now c.entry.ensures c.put.new.made.documents c.put.new.made.version c.put.new.made.tokens c.put.new.rows
          c.in_ok-put.ensures.documents c.in_ok-put.ensures.version c.in_ok-put.ensures.tokens c.in_ok-put.ensures.rows;
      ends = omega (arith, c.in-Some.ensures.steps.1, ap length next, c.loop-one.invariant.ends);
    }

pub returns-in_err-put-clause-rows : goal.returns-in_err-put-clause-rows
returns-in_err-put-clause-rows g c = λ edit targets plans.
    let all = c.args.documents.now in
    let made = c.args.made.now in
    let now = c.loop-one.made in
    let rest = into_iter_items c.next.new.self in
    let held : Applied c.args.abbreviations.now edit all targets made.version c.args.rows.now now.documents now.version now.tokens c.loop-one.rows (c.in-Some.one ∷ rest) =
    subst (Applied c.args.abbreviations.now edit all targets made.version c.args.rows.now now.documents now.version now.tokens c.loop-one.rows) c.in-Some.ensures.steps.0
    (c.loop-one.invariant.applied edit targets plans) in
    next-touched c.args.abbreviations.now edit all targets made.version c.args.rows.now now.documents now.version now.tokens c.loop-one.rows c.in-Some.one rest held
    c.entry.result.0.now c.entry.result.1.now c.entry.ensures c.put.new.rows c.in_err-put.ensures.rows

pub returns-clause-documents : goal.returns-clause-documents
returns-clause-documents g c = λ edit targets plans.
    let all = c.args.documents.now in
    let made = c.args.made.now in
    let now = c.loop-one.made in
    let none : into_iter_items c.loop-one.one-iterator ≡ [] =
    nil_from_length (into_iter_items c.loop-one.one-iterator) (sym c.loop-one.invariant.ends ∙ c.in-None.ensures.steps.0) in
    applied-last c.args.abbreviations.now edit all targets made.version c.args.rows.now now.documents now.version now.tokens c.loop-one.rows
    (subst (Applied c.args.abbreviations.now edit all targets made.version c.args.rows.now now.documents now.version now.tokens c.loop-one.rows) none (c.loop-one.invariant.applied edit targets plans))
