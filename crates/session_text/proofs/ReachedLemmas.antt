-- What bytes of the first line change of a place, and the first line's end.
use Rattle.std.proofs.Common.{◌≡◌, ◌∙◌, sym, ap, subst, ℕ, ◌+◌, ◌<◌, ◌≤◌, Bool, true, false, List, [], ◌++◌, length, take, drop, arith, length-append, length-take}
use Rattle.session_text.specs.Commands.{says_second}
use Rattle.session_text.specs.Lines.{without_mark}
use Rattle.session_text.specs.SizedBlocks.{sized_commands}
use Rattle.session_text.specs.declared.reached.Stage.{Stage}
use Rattle.session_text.specs.declared.reached.Stage.TheVariants as stage
use Rattle.session_text.specs.steps.PeriodReading.{Place, at_start, commands_from, is_unended}
use Rattle.session_text.specs.steps.SizedReading.{SizedPlace, sized_commands_from}
use Rattle.session_text.specs.steps.Reached.{IsFirstLine, IsPlace, IsPlaceAt, Reached, commands_after, commands_at}
use Rattle.session_text.proofs.FirstLineLemmas.{first_none, period_piece, periods_end, second_ends, second_piece}
use Rattle.session_text.proofs.PlaceLemmas.{feed_at, unended_prefix}
use Rattle.session_text.proofs.ReadingLemmas.{commands_from-unended, unended_append}
use Rattle.session_text.proofs.SizedPlaceLemmas.{sized-none_whole}

-- nothing is whole that wasn't before
pub none_whole : (place : Reached) (bytes : ℕ) → IsPlace place bytes → commands_after false place [] ≡ []
none_whole place bytes is = by place.stage is
  where
    by : (s : Stage) → IsPlaceAt s place.lines place.sized bytes → commands_at false s place.lines place.sized [] ≡ []
    by stage.FirstLine is = first_none place.lines.rest is.unended
    by stage.PeriodBlocks is = commands_from-unended place.lines is.unended
    by stage.SizedBlocks is = sized-none_whole place.sized.number place.sized.rest place.sized.opened is.0.unended is.0.block

-- the first line grows
grown_start : (old new : Place) (part : List ℕ) → old ≡ record at_start { rest = old.rest } → new ≡ record old { rest = old.rest ++ part } → new ≡ record at_start { rest = old.rest ++ part }
grown_start old new part start moved = moved ∙ ap (λ (p : Place). (λ (q : Place). q) (record p { rest = old.rest ++ part })) start

pub first_place : (s : Stage) (old new : Place) (sized : SizedPlace) (taken : ℕ) (piece part : List ℕ)
    → s ≡ stage.FirstLine → IsFirstLine old sized taken → new ≡ record old { rest = old.rest ++ part } → is_unended part ≡ true → length part ≤ length piece
    → IsPlaceAt s new sized (taken + length piece)
first_place s old new sized taken piece part is first moved h fits =
    let place : IsFirstLine new sized (taken + length piece) = record {
      start = grown_start old new part first.start moved ∙ ap (λ (p : Place). (λ (q : Place). q) (record at_start { rest = p.rest })) (sym moved);
      unended = ap (λ (p : Place). is_unended p.rest) moved ∙ unended_append old.rest part first.unended h;
      counted = omega (arith, ap (λ (p : Place). length p.rest) moved, length-append old.rest part, first.counted, fits);
      sized_start = first.sized_start;
    } in
    subst (λ t. IsPlaceAt t new sized (taken + length piece)) (sym is) place

-- it ends, and blocks have lengths
pub first_sized : (at_end : Bool) (old : Reached) (taken : ℕ) (piece suffix more : List ℕ) (end : ℕ)
    → old.stage ≡ stage.FirstLine → IsFirstLine old.lines old.sized taken → end ≡ feed_at piece → end < length piece
    → says_second (without_mark (old.lines.rest ++ take end piece)) ≡ true → suffix ≡ drop (end + 1) piece
    → commands_after at_end old (piece ++ more) ≡ sized_commands_from at_end old.sized (suffix ++ more)
first_sized at_end old taken piece suffix more end is first feed within says left =
    let inside : feed_at piece < length piece = omega (arith, feed, within) in
    (λ i. commands_at at_end (is i) old.lines old.sized (piece ++ more))
    ∙ (second_piece old.lines.rest piece inside at_end more first.unended (ap (λ n. says_second (without_mark (old.lines.rest ++ take n piece))) (sym feed) ∙ says)
    ∙ (ap (λ n. sized_commands at_end 2 0 (drop (n + 1) piece ++ more)) (sym feed)
    ∙ (ap (λ w. sized_commands at_end 2 0 (w ++ more)) (sym left)
    ∙ ap (λ p. sized_commands_from at_end p (suffix ++ more)) (sym first.sized_start))))

-- it ends, and blocks end at periods
pub first_period : (at_end : Bool) (old : Reached) (new : Place) (taken : ℕ) (piece suffix more : List ℕ) (end : ℕ)
    → old.stage ≡ stage.FirstLine → IsFirstLine old.lines old.sized taken → end ≡ feed_at piece → end < length piece
    → says_second (without_mark (old.lines.rest ++ take end piece)) ≡ false → new ≡ record old.lines { rest = old.lines.rest ++ take end piece } → suffix ≡ drop end piece
    → commands_after at_end old (piece ++ more) ≡ commands_from at_end new (suffix ++ more)
first_period at_end old new taken piece suffix more end is first feed within says moved left =
    let inside : feed_at piece < length piece = omega (arith, feed, within) in
    (λ i. commands_at at_end (is i) old.lines old.sized (piece ++ more))
    ∙ (period_piece old.lines.rest piece inside at_end more first.unended (ap (λ n. says_second (without_mark (old.lines.rest ++ take n piece))) (sym feed) ∙ says)
    ∙ (ap (λ n. commands_from at_end (record at_start { rest = old.lines.rest ++ take n piece }) (drop n piece ++ more)) (sym feed)
    ∙ (ap (λ w. commands_from at_end (record at_start { rest = old.lines.rest ++ take end piece }) (w ++ more)) (sym left)
    ∙ ap (λ p. commands_from at_end p (suffix ++ more)) (sym (grown_start old.lines new (take end piece) first.start moved)))))

-- the session ends in it
pub last_second : (old : Reached) (taken : ℕ) → old.stage ≡ stage.FirstLine → IsFirstLine old.lines old.sized taken → says_second (without_mark old.lines.rest) ≡ true → commands_after true old [] ≡ []
last_second old taken is first says = (λ i. commands_at true (is i) old.lines old.sized []) ∙ second_ends true old.lines.rest first.unended says

pub last_period : (old : Reached) (taken : ℕ) → old.stage ≡ stage.FirstLine → IsFirstLine old.lines old.sized taken → says_second (without_mark old.lines.rest) ≡ false
    → commands_after true old [] ≡ commands_from true old.lines []
last_period old taken is first says =
    (λ i. commands_at true (is i) old.lines old.sized [])
    ∙ (periods_end old.lines.rest first.unended says ∙ ap (λ p. commands_from true p []) (sym first.start))

-- ---- the same of what a reader holds

-- what was held of the first line, with the bytes up to its end
moved_as : (viewed old : Reached) (new : Place) (part : List ℕ) → viewed ≡ old → new ≡ record viewed.lines { rest = viewed.lines.rest ++ part } → new ≡ record old.lines { rest = old.lines.rest ++ part }
moved_as viewed old new part view moved = moved ∙ ap (λ (r : Reached). (λ (q : Place). q) (record r.lines { rest = r.lines.rest ++ part })) view

pub first_place_as : (viewed old : Reached) (new : Place) (taken : ℕ) (piece : List ℕ) (end : ℕ)
    → viewed ≡ old → old.stage ≡ stage.FirstLine → IsFirstLine old.lines old.sized taken → end ≡ feed_at piece → new ≡ record viewed.lines { rest = viewed.lines.rest ++ take end piece }
    → IsPlaceAt viewed.stage new viewed.sized (taken + length piece)
first_place_as viewed old new taken piece end view is first feed moved =
    let h : is_unended (take end piece) ≡ true = ap (λ n. is_unended (take n piece)) feed ∙ unended_prefix piece in
    subst (λ (r : Reached). IsPlaceAt r.stage new r.sized (taken + length piece)) (sym view)
    (first_place old.stage old.lines new old.sized taken piece (take end piece) is first (moved_as viewed old new (take end piece) view moved) h (omega (arith, length-take end piece)))

pub first_unended_as : (viewed old : Reached) (new : Place) (taken : ℕ) (piece : List ℕ) (end : ℕ)
    → viewed ≡ old → IsFirstLine old.lines old.sized taken → end ≡ feed_at piece → new ≡ record viewed.lines { rest = viewed.lines.rest ++ take end piece } → is_unended new.rest ≡ true
first_unended_as viewed old new taken piece end view first feed moved =
    let h : is_unended (take end piece) ≡ true = ap (λ n. is_unended (take n piece)) feed ∙ unended_prefix piece in
    ap (λ (p : Place). is_unended p.rest) (moved_as viewed old new (take end piece) view moved) ∙ unended_append old.lines.rest (take end piece) first.unended h

pub first_sized_as : (at_end : Bool) (viewed old : Reached) (new : Place) (taken : ℕ) (piece suffix more : List ℕ) (end : ℕ)
    → viewed ≡ old → old.stage ≡ stage.FirstLine → IsFirstLine old.lines old.sized taken → end ≡ feed_at piece → end < length piece
    → new ≡ record viewed.lines { rest = viewed.lines.rest ++ take end piece } → says_second (without_mark new.rest) ≡ true → suffix ≡ drop (end + 1) piece
    → commands_after at_end old (piece ++ more) ≡ sized_commands_from at_end viewed.sized (suffix ++ more)
first_sized_as at_end viewed old new taken piece suffix more end view is first feed within moved says left =
    first_sized at_end old taken piece suffix more end is first feed within
    (ap (λ (p : Place). says_second (without_mark p.rest)) (sym (moved_as viewed old new (take end piece) view moved)) ∙ says) left
    ∙ ap (λ (r : Reached). sized_commands_from at_end r.sized (suffix ++ more)) (sym view)

pub first_period_as : (at_end : Bool) (viewed old : Reached) (new : Place) (taken : ℕ) (piece suffix more : List ℕ) (end : ℕ)
    → viewed ≡ old → old.stage ≡ stage.FirstLine → IsFirstLine old.lines old.sized taken → end ≡ feed_at piece → end < length piece
    → new ≡ record viewed.lines { rest = viewed.lines.rest ++ take end piece } → says_second (without_mark new.rest) ≡ false → suffix ≡ drop end piece
    → commands_after at_end old (piece ++ more) ≡ commands_from at_end new (suffix ++ more)
first_period_as at_end viewed old new taken piece suffix more end view is first feed within moved says left =
    let here = moved_as viewed old new (take end piece) view moved in
    first_period at_end old new taken piece suffix more end is first feed within (ap (λ (p : Place). says_second (without_mark p.rest)) (sym here) ∙ says) here left
