-- A selection that symbols spell is spelled again by its printed form, in every place with the parentheses that the place wants.
use Rattle.std.proofs.Common.{◌≡◌, ◌+◌, ℕ, Bool, true, false, cond, List, [], ◌∷◌, ◌++◌, refl, sym, ◌∙◌, ap, subst}
use Rattle.std.proofs.lemmas.List.{append-nil}
use Rattle.std.specs.Prelude.{nat_lt}
use Rattle.ft_base.specs.Selection.{Form}
use Rattle.ft_syntax.specs.Symbols.{level, symbols, operand_symbols, in_parentheses}
use Rattle.selection_grammar.specs.Form.{form_of}
use Rattle.selection_grammar.specs.declared.symbol.Symbol.TheVariants as S
use Rattle.selection_grammar.specs.declared.symbol.Placed.{Placed}
use Rattle.selection_grammar.specs.declared.parsed.PlacedOption.{PlacedOption}
use Rattle.selection_grammar.specs.Tree as tree
use Rattle.selection_grammar.specs.Tree.{Tree, Trees, trees_of, joined, Primary, phrases, inner, optioned, negated}
use Rattle.selection_grammar.specs.Grammar as g
use Rattle.selection_grammar.specs.Grammar.{at, name, Operand, Unary, Negation, Mild, Ands, Ors, Selection, texts_of}
use Rattle.selection_round_trip.specs.Printed.{spellings}
use Rattle.selection_round_trip.proofs.Parts.{o, moved, in_marks}
use Rattle.selection_round_trip.proofs.Once.{Once}
use Rattle.selection_round_trip.proofs.Fits.{Room, If, Fit, FitAt}
use Rattle.selection_round_trip.proofs.Good.{Good, good_closed}

-- symbols with these spellings that spell, as a selection of a kind, a tree of this form, within the limits where it fits
pub record Again (Kind : List Placed → Tree → Type 0) (Fits : ℕ → Type 0) (x : Form) (written : List (List ℕ)) : Type 0 where
  pub placed : List Placed
  pub tree : Tree
  pub spells : Kind placed tree
  pub written_so : spellings placed ≡ written
  pub is : form_of tree ≡ x
  pub once : Once tree
  pub good : (d : ℕ) → Fits d → Good d placed

-- an operand with its options
pub record Operated (u : List Placed) (t : Tree) : Type 0 where
  pub operand : Primary
  pub options : List PlacedOption
  pub prefix : List Placed
  pub back : List Placed
  pub spells : Operand prefix operand
  pub chosen : g.Options back options
  pub split : u ≡ prefix ++ back
  pub is : t ≡ optioned operand options

-- one selection, or several that are joined by `ftand`
pub record Anded (u : List Placed) (t : Tree) : Type 0 where
  pub operands : List Tree
  pub spells : Ands u operands
  pub is : t ≡ joined tree.and_of operands

-- the same of `ftor`
pub record Ored (u : List Placed) (t : Tree) : Type 0 where
  pub operands : List Tree
  pub spells : Ors u operands
  pub is : t ≡ joined tree.or_of operands

with_kind : (Kind Other : List Placed → Tree → Type 0) {F : ℕ → Type 0} (x : Form) (s : List (List ℕ)) → ((u : List Placed) (t : Tree) → Kind u t → Other u t) → Again Kind F x s → Again Other F x s
with_kind Kind Other x s f a = record { placed = a.placed; tree = a.tree; spells = f a.placed a.tree a.spells; written_so = a.written_so; is = a.is; once = a.once; good = a.good }

unary_of : (u : List Placed) (t : Tree) → Operated u t → Unary u t
unary_of u t x = moved Unary (x.prefix ++ x.back) u (optioned x.operand x.options) t (Unary.unary Negation.none x.spells x.chosen) (sym x.split) (sym x.is)

ands_of : (u : List Placed) (t : Tree) → Mild u t → Anded u t
ands_of u t a = record { operands = t ∷ []; spells = Ands.first_and a; is = refl }

ors_of : (u : List Placed) (t : Tree) → Anded u t → Ored u t
ors_of u t x = record { operands = joined tree.and_of x.operands ∷ []; spells = Ors.first_or x.spells; is = x.is }

selection_of : (u : List Placed) (t : Tree) → Ored u t → Selection u t
selection_of u t x = subst (Selection u) (sym x.is) (Selection.plain x.spells)

abbrev pub enclosed_placed : List Placed → List Placed
enclosed_placed u = at o S.OpenParenthesis ∷ u ++ at o S.CloseParenthesis ∷ []

-- what fits in parentheses
abbrev Enclosed : (ℕ → Type 0) → ℕ → Type 0
Enclosed F d = Room d × F (d + 1)

enclosed : {F : ℕ → Type 0} (x : Form) (s : List (List ℕ)) → Again Selection F x s → Again Operated (Enclosed F) x (in_parentheses s)
enclosed x s a = record {
  placed = enclosed_placed a.placed;
  tree = a.tree;
  spells = record { operand = inner a.tree; options = []; prefix = enclosed_placed a.placed; back = []; spells = Operand.parentheses o a.spells o; chosen = g.Options.none; split = sym (append-nil (enclosed_placed a.placed)); is = refl };
  written_so = in_marks (at o S.OpenParenthesis) (at o S.CloseParenthesis) a.placed s a.written_so;
  is = a.is;
  once = a.once;
  good = λ d h. good_closed o o a.placed d h.0 (a.good (d + 1) h.1);
}

-- in every place
pub record Everywhere (x : Form) : Type 0 where
  pub alone : Again Selection (Fit x) x (symbols x)
  pub in_or : Again Anded (FitAt 2 x) x (operand_symbols 2 x)
  pub in_and : Again Mild (FitAt 3 x) x (operand_symbols 3 x)
  pub in_mild : Again Unary (FitAt 4 x) x (operand_symbols 4 x)
  pub in_not : Again Operated (FitAt 5 x) x (operand_symbols 5 x)

unary_up : {F : ℕ → Type 0} (x : Form) (s : List (List ℕ)) → Again Operated F x s → Again Unary F x s
unary_up x s a = with_kind Operated Unary x s unary_of a

mild_up : {F : ℕ → Type 0} (x : Form) (s : List (List ℕ)) → Again Unary F x s → Again Mild F x s
mild_up x s a = with_kind Unary Mild x s (λ u t b. Mild.first_mild b) a

and_up : {F : ℕ → Type 0} (x : Form) (s : List (List ℕ)) → Again Mild F x s → Again Anded F x s
and_up x s a = with_kind Mild Anded x s ands_of a

or_up : {F : ℕ → Type 0} (x : Form) (s : List (List ℕ)) → Again Anded F x s → Again Ored F x s
or_up x s a = with_kind Anded Ored x s ors_of a

pub selection_up : {F : ℕ → Type 0} (x : Form) (s : List (List ℕ)) → Again Ored F x s → Again Selection F x s
selection_up x s a = with_kind Ored Selection x s selection_of a

-- by how closely the form holds together
abbrev Placing : (Kind : List Placed → Tree → Type 0) → Form → Bool → Type 0
Placing Kind x b = Again Kind (λ d. If b (Room d × Fit x (d + 1)) (Fit x d)) x (cond b (in_parentheses (symbols x)) (symbols x))

placing : (Kind : List Placed → Tree → Type 0) (x : Form) (wanted n : ℕ) (b : Bool) → level x ≡ n → nat_lt n wanted ≡ b → Placing Kind x b → Placing Kind x (nat_lt (level x) wanted)
placing Kind x wanted n b e f a = subst (Placing Kind x) (sym (ap (λ m. nat_lt m wanted) e ∙ f)) a

pub from_operated : (x : Form) → level x ≡ 5 → Again Operated (Fit x) x (symbols x) → Everywhere x
from_operated x e a =
    let b = unary_up x (symbols x) a in
    let c = mild_up x (symbols x) b in
    let d = and_up x (symbols x) c in
    record {
      alone = selection_up x (symbols x) (or_up x (symbols x) d);
      in_or = placing Anded x 2 5 false e refl d;
      in_and = placing Mild x 3 5 false e refl c;
      in_mild = placing Unary x 4 5 false e refl b;
      in_not = placing Operated x 5 5 false e refl a;
    }

pub from_unary : (x : Form) → level x ≡ 4 → Again Unary (Fit x) x (symbols x) → Everywhere x
from_unary x e b =
    let c = mild_up x (symbols x) b in
    let d = and_up x (symbols x) c in
    let alone = selection_up x (symbols x) (or_up x (symbols x) d) in
    record {
      alone = alone;
      in_or = placing Anded x 2 4 false e refl d;
      in_and = placing Mild x 3 4 false e refl c;
      in_mild = placing Unary x 4 4 false e refl b;
      in_not = placing Operated x 5 4 true e refl (enclosed x (symbols x) alone);
    }

pub from_mild : (x : Form) → level x ≡ 3 → Again Mild (Fit x) x (symbols x) → Everywhere x
from_mild x e c =
    let d = and_up x (symbols x) c in
    let alone = selection_up x (symbols x) (or_up x (symbols x) d) in
    let closed = enclosed x (symbols x) alone in
    record {
      alone = alone;
      in_or = placing Anded x 2 3 false e refl d;
      in_and = placing Mild x 3 3 false e refl c;
      in_mild = placing Unary x 4 3 true e refl (unary_up x _ closed);
      in_not = placing Operated x 5 3 true e refl closed;
    }

pub from_anded : (x : Form) → level x ≡ 2 → Again Anded (Fit x) x (symbols x) → Everywhere x
from_anded x e d =
    let alone = selection_up x (symbols x) (or_up x (symbols x) d) in
    let closed = enclosed x (symbols x) alone in
    let unary = unary_up x _ closed in
    record {
      alone = alone;
      in_or = placing Anded x 2 2 false e refl d;
      in_and = placing Mild x 3 2 true e refl (mild_up x _ unary);
      in_mild = placing Unary x 4 2 true e refl unary;
      in_not = placing Operated x 5 2 true e refl closed;
    }

pub from_selection : (x : Form) (n : ℕ) → level x ≡ n → nat_lt n 2 ≡ true → nat_lt n 3 ≡ true → nat_lt n 4 ≡ true → nat_lt n 5 ≡ true → Again Selection (Fit x) x (symbols x) → Everywhere x
from_selection x n e two three four five alone =
    let closed = enclosed x (symbols x) alone in
    let unary = unary_up x _ closed in
    let mild = mild_up x _ unary in
    record {
      alone = alone;
      in_or = placing Anded x 2 n true e two (and_up x _ mild);
      in_and = placing Mild x 3 n true e three mild;
      in_mild = placing Unary x 4 n true e four unary;
      in_not = placing Operated x 5 n true e five closed;
    }
