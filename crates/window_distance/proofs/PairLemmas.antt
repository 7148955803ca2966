-- Tests of every two hits, one hit further.
use Rattle.std.proofs.Common.{◌≡◌, ap, sym, ◌∙◌, ℕ, ◌+◌, ◌-◌, ◌<◌, Bool, true, ◌&&◌, List, length, take, drop, get_or}
use Rattle.std.specs.List.{list_all}
use Rattle.std.proofs.lemmas.List.{at_drop_more, take_rest}
use Rattle.ft_base.specs.Hits.{every_two}
use Rattle.ft_base.specs.declared.hit.Hit.{Hit}

pub next_passes : (test : Hit → Hit → Bool) (hits : List Hit) (i : ℕ) (hit : Hit) (passes : Bool) → i < length hits
    → passes ≡ list_all (test (get_or hits i hit)) (take (length hits - (i + 1)) (drop (i + 1) hits)) → passes ≡ true
    → every_two test (drop i hits) ≡ every_two test (drop (i + 1) hits)
next_passes test hits i hit passes there is h =
    at_drop_more (every_two test) hits i hit there
    ∙ ap (λ b. b && every_two test (drop (i + 1) hits)) (sym (is ∙ ap (list_all (test (get_or hits i hit))) (take_rest hits (i + 1))) ∙ h)
