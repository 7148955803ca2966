-- Symbols that are printed: each can be printed, none exceeds a limit where so many parentheses are open before, and all that open are closed.
use Rattle.std.proofs.Common.{◌≡◌, ◌≤◌, ◌+◌, ◌-◌, ℕ, true, false, ◌&&◌, List, [], ◌∷◌, ◌++◌, refl, sym, ◌∙◌, ap, subst, arith}
use Rattle.std.proofs.lemmas.Bool.{and_left, and_right, le-ltb, or_from}
use Rattle.std.specs.Prelude.{nat_le, nat_lt}
use Rattle.ft_parser.specs.Limits.{depth_after, exceeds}
use Rattle.ft_parser.specs.Selected.{open_after}
use Rattle.ft_parser.proofs.SelectedLaws.{open_on}
use Rattle.ft_base.specs.Limits.{max_number, max_open}
use Rattle.selection_grammar.specs.declared.symbol.Placed.{Placed}
use Rattle.selection_grammar.specs.declared.symbol.Symbol.TheVariants as S
use Rattle.selection_grammar.specs.Grammar.{Spot, at, name, string}
use Rattle.selection_round_trip.specs.Printable.{IsEncoded, is_keyword, Printable}
use Rattle.selection_round_trip.proofs.Fits.{Room}

abbrev pub Within : ℕ → List Placed → Type 0
Within d [] = Unit {0}
Within d (p ∷ rest) = Printable p.symbol × (exceeds d p.symbol ≡ false) × Within (depth_after d p.symbol) rest

pub record Good (d : ℕ) (u : List Placed) : Type 0 where
  pub within : Within d u
  pub closed : open_after d u ≡ d

within_append : (u v : List Placed) (d : ℕ) → Within d u → Within (open_after d u) v → Within d (u ++ v)
within_append [] v d h k = k
within_append (p ∷ u) v d h k = (h.0, h.1, within_append u v (depth_after d p.symbol) h.2 k)

pub good_nil : (d : ℕ) → Good d []
good_nil d = record { within = tt; closed = refl }

pub good_append : (u v : List Placed) (d : ℕ) → Good d u → Good d v → Good d (u ++ v)
good_append u v d h k = record {
  within = within_append u v d h.within (subst (λ n. Within n v) (sym h.closed) k.within);
  closed = open_on u v d ∙ ap (λ n. open_after n v) h.closed ∙ k.closed;
}

no_limit : (d : ℕ) → (nat_le max_open d && false) ≡ false
no_limit d = and_right (nat_le max_open d) false refl

pub good_word : (p : Spot) (key : List ℕ) (u : List Placed) (d : ℕ) → is_keyword key ≡ true → Good d u → Good d (name p key ∷ u)
good_word p key u d e h = record { within = (e, no_limit d, h.within); closed = h.closed }

pub good_number : (p : Spot) (n : ℕ) (u : List Placed) (d : ℕ) → n ≤ max_number → Good d u → Good d (at p (S.Number n) ∷ u)
good_number p n u d e h = record { within = (e, or_from (nat_lt max_number n) (nat_le max_open d && false) (le-ltb max_number n e) (no_limit d), h.within); closed = h.closed }

pub good_text : (p : Spot) (t : List ℕ) (u : List Placed) (d : ℕ) → IsEncoded t → Good d u → Good d (string p t ∷ u)
good_text p t u d e h = record { within = (e, no_limit d, h.within); closed = h.closed }

pub good_comma : (p : Spot) (u : List Placed) (d : ℕ) → Good d u → Good d (at p S.Comma ∷ u)
good_comma p u d h = record { within = (tt, no_limit d, h.within); closed = h.closed }

pub good_braces : (p q : Spot) (u : List Placed) (d : ℕ) → Good d u → Good d (at p S.OpenBrace ∷ u ++ at q S.CloseBrace ∷ [])
good_braces p q u d h =
    let last : Good d (at q S.CloseBrace ∷ []) = record { within = (tt, no_limit d, tt); closed = refl } in
    let all = good_append u (at q S.CloseBrace ∷ []) d h last in
    record { within = (tt, no_limit d, all.within); closed = all.closed }

pub good_closed : (p q : Spot) (u : List Placed) (d : ℕ) → Room d → Good (d + 1) u → Good d (at p S.OpenParenthesis ∷ u ++ at q S.CloseParenthesis ∷ [])
good_closed p q u d room h =
    let last : List Placed = at q S.CloseParenthesis ∷ [] in
    let back : (d + 1) - 1 ≡ d = omega arith in
    record {
      within = (tt, and_left (nat_le max_open d) true room, within_append u last (d + 1) h.within (tt, no_limit (open_after (d + 1) u), tt));
      closed = open_on u last (d + 1) ∙ ap (λ n. n - 1) h.closed ∙ back;
    }
