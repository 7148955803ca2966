-- What is printed of a selection that was read is read back as it.
use Rattle.std.proofs.Common.{◌≡◌, ℕ, List, [], ◌∷◌, length, Option, None, Ok, refl, sym, ◌∙◌, ap}
use Rattle.std.specs.Option.{is_some}
use Rattle.ft_base.specs.Selection.{Form}
use Rattle.ft_base.proofs.Truth.{none_from_test}
use Rattle.ft_syntax.specs.Spacing.{set_out}
use Rattle.ft_syntax.specs.Symbols.{symbols, printed}
use Rattle.ft_parser.specs.Answer.{selection_read, symbols_read}
use Rattle.ft_parser.specs.Limits.{depth_after}
use Rattle.ft_parser.specs.Selected.{Selects}
use Rattle.query_lexer.specs.Symbols.{symbols_of}
use Rattle.ft_parser.proofs.SelectedExact.{selects_read}
use Rattle.selection_grammar.specs.declared.symbol.Placed.{Placed}
use Rattle.selection_grammar.specs.declared.symbol.Symbols.{Symbols}
use Rattle.selection_faults.specs.Faults.{fault_of}
use Rattle.selection_round_trip.specs.Printable.{AllPrintable}
use Rattle.selection_round_trip.specs.Printed.{spellings}
use Rattle.selection_round_trip.proofs.Contents.{AllContent}
use Rattle.selection_round_trip.proofs.Faultless.{faultless_again}
use Rattle.selection_round_trip.proofs.Good.{Within}
use Rattle.selection_round_trip.proofs.LaidOut.{symbols_laid}
use Rattle.selection_round_trip.proofs.Places.{same_there}
use Rattle.selection_round_trip.proofs.Reading.{limited, printing, whole_again, text_contents, text_selects}

printable : (u : List Placed) (d : ℕ) → Within d u → AllPrintable u
printable [] d h = tt
printable (p ∷ u) d h = (h.0, printable u (depth_after d p.symbol) h.2)

-- the symbols of the printed form select the form
selects_back : (u : List Placed) (bad : Option ℕ) (form : Form) → AllContent u → Selects u bad form → (v : List Placed) × (symbols_of (printed form) ≡ record { placed = v; bad = None }) × Selects v None form
unfolding printed
selects_back u bad form contents x =
    let p = printing u x.tree contents x.whole in
    let again = p.again in
    let laid = symbols_laid again.placed (printable again.placed 0 p.good.within) in
    let there = same_there again.placed laid.placed again.tree again.spells laid.are in
    let text : set_out (spellings again.placed) ≡ set_out (symbols form) = ap set_out (again.written_so ∙ ap symbols (sym x.is)) in
    let faultless : fault_of again.tree ≡ None = faultless_again x.tree again.tree again.is again.once x.faultless in (
      laid.placed,
      ap symbols_of (sym text) ∙ laid.all,
      record {
        tree = there.tree;
        all = refl;
        whole = record { spells = there.spells; limits = limited again.placed laid.placed 0 p.good.within laid.are; filters = there.filters ∙ (whole_again u x.tree x.whole p).filters };
        faultless = none_from_test (fault_of there.tree) (there.faults ∙ ap is_some faultless);
        is = x.is ∙ sym again.is ∙ sym there.is;
      },
    )

read_of : (size : ℕ) (form : Form) (s : Symbols) (v : List Placed) → s ≡ record { placed = v; bad = None } → Selects v None form → symbols_read s size ≡ Ok form
read_of size form s v e x = ap (λ w. symbols_read w size) e ∙ selects_read v None size form x

pub form_read_back : (text : List ℕ) (form : Form) → selection_read text ≡ Ok form → selection_read (printed form) ≡ Ok form
unfolding selection_read
form_read_back text form h =
    let u = symbols_of text in
    let back = selects_back u.placed u.bad form (text_contents text) (text_selects text form h) in
    read_of (length (printed form)) form (symbols_of (printed form)) back.0 back.1 back.2
