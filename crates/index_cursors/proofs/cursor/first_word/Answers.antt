-- The first place of the span is the word of the hit at which a cursor would stand.
use Rattle.std.proofs.Common.{ap, ◌∙◌, arith}
use Rattle.std.specs.Prelude.{option_map}
use Rattle.ft_base.specs.declared.hit.Hit.{Hit}
use Rattle.ft_base.specs.Hits.{HitPlace, hit_at}
use Rattle.index_cursors.proofs.CursorLemmas.{reads-first}
use Rattle.index_cursors.proofs.SpanLemmas.{first-hit}
use Rattle.index_cursors.proofs.cursor.first_word.Goals as goal

pub returns : goal.returns
returns c breaks =
    let first = c.first_place.result.number in
    let places = c.args.places.now in
    reads-first breaks c.args.span.to first first places (omega arith) (omega arith) c.place_before.result (c.place_before.ensures.place places c.first_place.ensures.place)
    ∙ ap (λ (v : HitPlace). option_map (λ (hit : Hit). hit.from) (hit_at v)) (first-hit breaks c.args.span first places c.first_place.ensures.ascending c.first_place.ensures.number)
