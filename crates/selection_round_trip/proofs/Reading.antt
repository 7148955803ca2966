-- What was read is printed within the limits, without a fault.
use Rattle.std.proofs.Common.{◌≡◌, ℕ, false, List, [], ◌∷◌, ◌++◌, length, Ok, refl, sym, ◌∙◌, ap, subst}
use Rattle.std.specs.Prelude.{chars}
use Rattle.ft_base.specs.Selection.{Form}
use Rattle.ft_syntax.specs.Symbols.{symbols}
use Rattle.ft_parser.specs.Answer.{selection_read}
use Rattle.ft_parser.specs.Limits.{depth_after, exceeds}
use Rattle.ft_parser.specs.Selected.{Selects, IsWhole, open_after}
use Rattle.query_lexer.specs.Symbols.{symbols_of}
use Rattle.ft_parser.proofs.SelectedLaws.{Outcome, all_read}
use Rattle.selection_grammar.specs.declared.symbol.Placed.{Placed}
use Rattle.selection_grammar.specs.Form.{form_of}
use Rattle.selection_grammar.specs.Grammar.{Selection}
use Rattle.selection_grammar.specs.Tree.{Tree}
use Rattle.selection_round_trip.specs.Places.{symbols_in}
use Rattle.selection_round_trip.specs.Printed.{WithinLimits}
use Rattle.selection_round_trip.proofs.Contents.{AllContent, all_contents}
use Rattle.selection_round_trip.proofs.Faultless.{faultless_again}
use Rattle.selection_round_trip.proofs.Filters.{filters_same}
use Rattle.selection_round_trip.proofs.Fits.{Fit}
use Rattle.selection_round_trip.proofs.Good.{Good, Within}
use Rattle.selection_round_trip.proofs.Induction.{selection_all}
use Rattle.selection_round_trip.proofs.Known.{Known}
use Rattle.selection_round_trip.proofs.KnownTrees.{selection_kept}
use Rattle.selection_round_trip.proofs.Levels.{Again}

-- no symbol exceeds a limit where so many parentheses are open before all of them
abbrev pub Limited : ℕ → List Placed → Type 0
Limited d u = (before : List Placed) (p : Placed) (rest : List Placed) → u ≡ before ++ p ∷ rest → exceeds (open_after d before) p.symbol ≡ false

known : (u : List Placed) (d : ℕ) → AllContent u → Limited d u → Known d u
known [] d h k = tt
known (p ∷ u) d h k = (h.0, k [] p u refl, known u (depth_after d p.symbol) h.1 (λ before q rest e. k (p ∷ before) q rest (ap (λ w. p ∷ w) e)))

-- the same symbols at other places
pub limited : (u v : List Placed) (d : ℕ) → Within d u → symbols_in v ≡ symbols_in u → Limited d v
limited [] [] d h e [] p rest k = cc
limited [] [] d h e (q ∷ before) p rest k = cc
limited [] (r ∷ v) d h e before p rest k = cc
limited (q ∷ u) [] d h e before p rest k = cc
limited (q ∷ u) (r ∷ v) d h e [] p rest k =
    let same : r.symbol ≡ q.symbol = cc in
    let one : p ≡ r = cc in
    ap (λ (x : Placed). exceeds d x.symbol) one ∙ ap (exceeds d) same ∙ h.1
limited (q ∷ u) (r ∷ v) d h e (s ∷ before) p rest k =
    let same : r.symbol ≡ q.symbol = cc in
    let others : symbols_in v ≡ symbols_in u = cc in
    let one : s ≡ r = cc in
    let left : v ≡ before ++ p ∷ rest = cc in
    ap (λ n. exceeds (open_after n before) p.symbol) (ap (λ (x : Placed). depth_after d x.symbol) one ∙ ap (depth_after d) same) ∙ limited u v (depth_after d q.symbol) h.2 others before p rest left

-- a selection that is printed within the limits
pub record Printing (t : Tree) : Type 0 where
  pub again : Again Selection (Fit (form_of t)) (form_of t) (symbols (form_of t))
  pub good : Good 0 again.placed

pub printing : (u : List Placed) (t : Tree) → AllContent u → IsWhole u t → Printing t
printing u t contents x = let again = (selection_all x.spells).alone in record { again = again; good = again.good 0 (selection_kept x.spells 0 (known u 0 contents x.limits)).0 }

pub whole_again : (u : List Placed) (t : Tree) → IsWhole u t → (p : Printing t) → IsWhole p.again.placed p.again.tree
whole_again u t x p = record {
  spells = p.again.spells;
  limits = limited p.again.placed p.again.placed 0 p.good.within refl;
  filters = filters_same t p.again.tree p.again.is ∙ x.filters;
}

pub text_contents : (text : List ℕ) → AllContent (symbols_of text).placed
unfolding symbols_of
text_contents text = all_contents (length (chars text)) 0 (chars text)

pub text_selects : (text : List ℕ) (form : Form) → selection_read text ≡ Ok form → Selects (symbols_of text).placed (symbols_of text).bad form
unfolding selection_read
text_selects text form h = let u = symbols_of text in subst (Outcome u.placed u.bad (length text)) h (all_read u.placed u.bad (length text))

pub read_within : (text : List ℕ) (form : Form) → selection_read text ≡ Ok form → WithinLimits form
read_within text form h =
    let u = (symbols_of text).placed in
    let x = text_selects text form h in
    let p = printing u x.tree (text_contents text) x.whole in
    subst WithinLimits (sym x.is) (record {
      again = record {
        spelled = record { placed = p.again.placed; tree = p.again.tree; written = p.again.written_so; spells = p.again.spells; is = p.again.is };
        faultless = faultless_again x.tree p.again.tree p.again.is p.again.once x.faultless;
      };
      whole = whole_again u x.tree x.whole p;
    })
