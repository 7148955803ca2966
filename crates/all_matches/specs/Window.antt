-- Windows (XQuery and XPath Full Text 3.0, section 4.2.7.7: ApplyFTWindow).
-- A window of a size stands round the joined hit of the includes. Its numbers count as those of the hits do, and may be
-- below 1, since it may begin before the text.
use Rattle.std.specs.Prelude.{ℕ, suc, ◌+◌, ◌-◌, ℤ, pos, ◌+ℤ◌, ◌-ℤ◌, int_le, Bool, false, ◌&&◌, nat_lt, List, [], map, Option, Some, None}
use Rattle.std.specs.List.{range_with_len}
use Rattle.ft_base.specs.declared.hit.Hit.{Hit}
use Rattle.ft_base.specs.declared.unit.TextUnit.{TextUnit}
use Rattle.all_matches.specs.declared.window.Window.{Window}
use Rattle.all_matches.specs.Positions.{start_in, end_in}

-- the window of a size that begins at a number
abbrev pub window_at : ℕ → ℤ → Window
window_at size from = record { from = from; to = (from +ℤ pos size) -ℤ pos 1 }

-- the windows of a size that hold the joined hit, by their first numbers: of three words round "a b" in `x a b` those from 1 to 3 and from 2 to 4
abbrev pub windows_round : ℕ → TextUnit → Option Hit → List Window
windows_round size kind None = []
windows_round size kind (Some joined) =
    map (λ n. window_at size (pos (suc (end_in kind joined) + n) -ℤ pos size)) (range_with_len 0 ((start_in kind joined + size) - end_in kind joined))

-- whether a window of this size can hold the joined hit
abbrev pub fits_window : ℕ → TextUnit → Option Hit → Bool
fits_window size kind None = false
fits_window size kind (Some joined) = nat_lt (end_in kind joined) (start_in kind joined + size)

-- whether a hit lies in a window
abbrev pub lies_in_window : TextUnit → Window → Hit → Bool
lies_in_window kind window hit = int_le window.from (pos (start_in kind hit)) && int_le (pos (end_in kind hit)) window.to
