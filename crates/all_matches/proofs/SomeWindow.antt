-- Whether there is a window.
use Rattle.std.proofs.Common.{◌≡◌, refl, ap, sym, ◌∙◌, ℕ, suc, ◌+◌, ◌-◌, List, arith, length}
use Rattle.std.specs.Prelude.{pos, ◌-ℤ◌, nat_lt, Option, Some, None}
use Rattle.std.proofs.lemmas.Bool.Decides.{nat_tests}
use Rattle.std.proofs.lemmas.List.{length-map}
use Rattle.std.proofs.lemmas.List.FromFn.{length-map-range_with_len}
use Rattle.ft_base.specs.declared.filter.Filter.TheVariants as F
use Rattle.ft_base.specs.declared.hit.Hit.{Hit}
use Rattle.ft_base.specs.declared.span.Span.{Span}
use Rattle.ft_base.specs.declared.unit.TextUnit.{TextUnit}
use Rattle.all_matches.specs.Positions.{start_in, end_in}
use Rattle.all_matches.specs.Join.{join}
use Rattle.all_matches.specs.Window.{window_at, windows_round, fits_window}
use Rattle.all_matches.specs.Filters.{passes, choices}

more_than_none : (first size last : ℕ) → nat_lt last (first + size) ≡ nat_lt 0 ((first + size) - last)
more_than_none first size last = grind (arith, nat_tests)

fits_where_some : (size : ℕ) (kind : TextUnit) (joined : Option Hit) → fits_window size kind joined ≡ nat_lt 0 (length (windows_round size kind joined))
fits_where_some size kind None = refl
fits_where_some size kind (Some joined) =
    more_than_none (start_in kind joined) size (end_in kind joined)
    ∙ ap (nat_lt 0) (sym (length-map-range_with_len (λ n. window_at size (pos (suc (end_in kind joined) + n) -ℤ pos size)) 0 ((start_in kind joined + size) - end_in kind joined)))

pub some_window : (size : ℕ) (kind : TextUnit) (includes : List Hit) (item : Span) → passes (F.Window size kind) includes item ≡ nat_lt 0 (length (choices (F.Window size kind) includes))
some_window size kind includes item = fits_where_some size kind (join includes) ∙ ap (nat_lt 0) (sym (length-map (windows_round size kind (join includes)) Some))
