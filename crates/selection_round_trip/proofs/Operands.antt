-- Words, options after parentheses, and operands that are joined, each spelled again in the place that its form has.
use Rattle.std.proofs.Common.{◌≡◌, ◌+◌, ℕ, true, List, [], ◌∷◌, ◌++◌, Option, Some, None, refl, sym, ◌∙◌, ap, append_assoc}
use Rattle.std.proofs.lemmas.List.{append-nil}
use Rattle.std.specs.Prelude.{flat_map, option_map}
use Rattle.std.specs.List.{join_by}
use Rattle.ft_base.specs.declared.range.Range.{Range}
use Rattle.ft_base.specs.declared.words.Mode.{Mode}
use Rattle.ft_base.specs.declared.options.Options.{Options}
use Rattle.ft_base.specs.Selection as form
use Rattle.ft_base.specs.Selection.{no_options, Form, Forms}
use Rattle.ft_syntax.specs.Symbols.{symbols, operands, operand_symbols, in_parentheses, words_symbols}
use Rattle.selection_grammar.specs.Form.{form_of, forms_of, options_of}
use Rattle.selection_grammar.specs.declared.symbol.Symbol.TheVariants as S
use Rattle.selection_grammar.specs.declared.symbol.Placed.{Placed}
use Rattle.selection_grammar.specs.declared.parsed.PlacedOption.{PlacedOption}
use Rattle.selection_grammar.specs.declared.parsed.PlacedTimes.{PlacedTimes}
use Rattle.selection_grammar.specs.Tree as tree
use Rattle.selection_grammar.specs.Tree.{Tree, trees_of, phrases, inner}
use Rattle.selection_grammar.specs.Grammar as g
use Rattle.selection_grammar.specs.Grammar.{at, name, Operand, Selection}
use Rattle.selection_faults.specs.Options.{second_option}
use Rattle.selection_round_trip.specs.Printable.{is_keyword}
use Rattle.selection_round_trip.specs.Printed.{spellings}
use Rattle.selection_round_trip.proofs.Parts as parts
use Rattle.selection_round_trip.proofs.Parts.{o, moved, in_marks, texts_same, placed_strings, value_printed, mode_printed, times_printed, placed_times}
use Rattle.selection_round_trip.proofs.Once.{once_words, once_with, AllOnce}
use Rattle.selection_round_trip.proofs.Choices.{Sound, Done, options_printed}
use Rattle.selection_round_trip.proofs.Fits.{Room, FitTexts, FitTimes, FitOptions, Fit, FitAll, FitAt}
use Rattle.selection_round_trip.proofs.Good.{Good, good_nil, good_append, good_word, good_closed}
use Rattle.selection_round_trip.proofs.Levels.{Again, Operated, enclosed_placed, Everywhere}

times_same : (t : Option Range) → option_map (λ (x : PlacedTimes). x.range) (placed_times t) ≡ t
times_same None = refl
times_same (Some r) = refl

-- words
pub words_again : (s : List ℕ) (rest : List (List ℕ)) (mode : Mode) (times : Option Range) (options : Options) → Sound options
    → Again Operated (λ d. FitTexts (s ∷ rest) × FitTimes times × FitOptions options d) (form.words (record { values = s ∷ rest; mode = mode; times = times; options = options })) (words_symbols (record { values = s ∷ rest; mode = mode; times = times; options = options }))
unfolding form_of
words_again s rest mode times options h =
    let v = value_printed s rest in
    let m = mode_printed mode in
    let t = times_printed times in
    let d = options_printed options h in
    let prefix = v.placed ++ m.placed ++ t.placed in
    record {
      placed = prefix ++ d.placed;
      tree = tree.words (record { strings = placed_strings (s ∷ rest); mode = mode; times = placed_times times; options = d.all });
      spells = record { operand = phrases (placed_strings (s ∷ rest)) mode (placed_times times); options = d.all; prefix = prefix; back = d.placed; spells = Operand.words v.spells m.spells t.spells; chosen = d.spells; split = refl; is = refl };
      written_so = parts.joined prefix d.placed _ _ (parts.joined (v.placed ++ m.placed) t.placed _ _ (parts.joined v.placed m.placed _ _ v.is m.is) t.is) d.written_so;
      is =
          ap (λ (z : List (List ℕ)). form.words (record { values = z; mode = mode; times = option_map (λ (x : PlacedTimes). x.range) (placed_times times); options = options_of d.all })) (texts_same (s ∷ rest))
          ∙ ap (λ (z : Option Range). form.words (record { values = s ∷ rest; mode = mode; times = z; options = options_of d.all })) (times_same times)
          ∙ ap (λ (z : Options). form.words (record { values = s ∷ rest; mode = mode; times = times; options = z })) d.is;
      once = once_words (record { strings = placed_strings (s ∷ rest); mode = mode; times = placed_times times; options = d.all }) d.once;
      good = λ n h. good_append prefix d.placed n (good_append (v.placed ++ m.placed) t.placed n (good_append v.placed m.placed n (v.good n h.0) (m.good n tt)) (t.good n h.1)) (d.good n h.2);
    }

-- a selection in parentheses with options
pub closed_again : {F : ℕ → Type 0} (x : Form) (options : Options) (s t : List (List ℕ)) → (options ≡ no_options → ⊥) → Again Selection F x s → Done options t 7 → Again Operated (λ d. Room d × F (d + 1) × FitOptions options d) (form.with_options x options) (in_parentheses s ++ t)
unfolding form_of
closed_again {F = F} x options s t some a d = go d.all d.spells d.is d.once
  where
    go : (all : List PlacedOption) → g.Options d.placed all → options_of all ≡ options → second_option all ≡ None → Again Operated (λ d. Room d × F (d + 1) × FitOptions options d) (form.with_options x options) (in_parentheses s ++ t)
    go [] k e l = absurd (some (sym e))
    go (first ∷ rest) k e l = record {
      placed = enclosed_placed a.placed ++ d.placed;
      tree = tree.with_options a.tree (first ∷ rest);
      spells = record { operand = inner a.tree; options = first ∷ rest; prefix = enclosed_placed a.placed; back = d.placed; spells = Operand.parentheses o a.spells o; chosen = k; split = refl; is = refl };
      written_so = parts.joined (enclosed_placed a.placed) d.placed (in_parentheses s) t (in_marks (at o S.OpenParenthesis) (at o S.CloseParenthesis) a.placed s a.written_so) d.written_so;
      is = ap (λ z. form.with_options z (options_of (first ∷ rest))) a.is ∙ ap (λ z. form.with_options x z) e;
      once = once_with a.tree (first ∷ rest) a.once l;
      good = λ n h. good_append (enclosed_placed a.placed) d.placed n (good_closed o o a.placed n h.0 (a.good (n + 1) h.1)) (d.good n h.2);
    }

-- operands that are joined
abbrev pub AllEverywhere : List Tree → Type 0
AllEverywhere [] = Unit {0}
AllEverywhere (t ∷ rest) = Everywhere (form_of t) × AllEverywhere rest

-- further operands
record Further (Listed : List Placed → List Tree → Type 0) (key : List ℕ) (wanted : ℕ) (u : List Placed) (xs : List Tree) (rest : List Tree) : Type 0 where
  placed : List Placed
  trees : List Tree
  spells : Listed (u ++ placed) (xs ++ trees)
  written_so : spellings placed ≡ flat_map (λ operand. key ∷ operand) (operands wanted (forms_of (trees_of rest)))
  is : forms_of (trees_of trees) ≡ forms_of (trees_of rest)
  once : AllOnce trees
  good : (d : ℕ) → FitAll (forms_of (trees_of rest)) wanted d → Good d placed

further : (Kind : List Placed → Tree → Type 0) (Listed : List Placed → List Tree → Type 0) (key : List ℕ) (wanted : ℕ)
    → ((u v : List Placed) (xs : List Tree) (t : Tree) → Listed u xs → Kind v t → Listed (u ++ name o key ∷ v) (xs ++ t ∷ []))
    → ((x : Form) → Everywhere x → Again Kind (FitAt wanted x) x (operand_symbols wanted x)) → is_keyword key ≡ true
    → (rest : List Tree) → AllEverywhere rest → (u : List Placed) (xs : List Tree) → Listed u xs → Further Listed key wanted u xs rest
unfolding form_of symbols Fit
further Kind Listed key wanted more get keyword [] h u xs a = record { placed = []; trees = []; spells = moved Listed u (u ++ []) xs (xs ++ []) a (sym (append-nil u)) (sym (append-nil xs)); written_so = refl; is = refl; once = tt; good = λ d h. good_nil d }
further Kind Listed key wanted more get keyword (t ∷ rest) h u xs a =
    let b = get (form_of t) h.0 in
    let y = further Kind Listed key wanted more get keyword rest h.1 (u ++ name o key ∷ b.placed) (xs ++ b.tree ∷ []) (more u b.placed xs b.tree a b.spells) in
    record {
      placed = (name o key ∷ b.placed) ++ y.placed;
      trees = b.tree ∷ y.trees;
      spells = moved Listed _ _ _ _ y.spells (append_assoc u (name o key ∷ b.placed) y.placed) (append_assoc xs (b.tree ∷ []) y.trees);
      written_so = parts.joined (name o key ∷ b.placed) y.placed (key ∷ operand_symbols wanted (form_of t)) _ (ap (λ w. key ∷ w) b.written_so) y.written_so;
      is = ap (λ z. form.more z (forms_of (trees_of y.trees))) b.is ∙ ap (λ z. form.more (form_of t) z) y.is;
      once = (b.once, y.once);
      good = λ d h. good_word o key _ d keyword (good_append b.placed y.placed d (b.good d h.0) (y.good d h.1));
    }

-- two operands or more
pub record Several (Listed : List Placed → List Tree → Type 0) (key : List ℕ) (wanted : ℕ) (trees : List Tree) : Type 0 where
  pub placed : List Placed
  pub one : Tree
  pub two : Tree
  pub rest : List Tree
  pub spells : Listed placed (one ∷ two ∷ rest)
  pub written_so : spellings placed ≡ join_by (λ operand. operand) (key ∷ []) (operands wanted (forms_of (trees_of trees)))
  pub is : forms_of (trees_of (one ∷ two ∷ rest)) ≡ forms_of (trees_of trees)
  pub once : AllOnce (one ∷ two ∷ rest)
  pub good : (d : ℕ) → FitAll (forms_of (trees_of trees)) wanted d → Good d placed

pub several : (Kind : List Placed → Tree → Type 0) (Listed : List Placed → List Tree → Type 0) (key : List ℕ) (wanted : ℕ)
    → ((u : List Placed) (t : Tree) → Kind u t → Listed u (t ∷ []))
    → ((u v : List Placed) (xs : List Tree) (t : Tree) → Listed u xs → Kind v t → Listed (u ++ name o key ∷ v) (xs ++ t ∷ []))
    → ((x : Form) → Everywhere x → Again Kind (FitAt wanted x) x (operand_symbols wanted x)) → is_keyword key ≡ true
    → (one two : Tree) (rest : List Tree) → AllEverywhere (one ∷ two ∷ rest) → Several Listed key wanted (one ∷ two ∷ rest)
unfolding form_of symbols Fit
several Kind Listed key wanted first more get keyword one two rest h =
    let a = get (form_of one) h.0 in
    let b = get (form_of two) h.1.0 in
    let y = further Kind Listed key wanted more get keyword rest h.1.1 (a.placed ++ name o key ∷ b.placed) (a.tree ∷ b.tree ∷ []) (more a.placed b.placed (a.tree ∷ []) b.tree (first a.placed a.tree a.spells) b.spells) in
    record {
      placed = (a.placed ++ name o key ∷ b.placed) ++ y.placed;
      one = a.tree;
      two = b.tree;
      rest = y.trees;
      spells = y.spells;
      written_so =
          parts.joined (a.placed ++ name o key ∷ b.placed) y.placed (operand_symbols wanted (form_of one) ++ key ∷ operand_symbols wanted (form_of two)) _
          (parts.joined a.placed (name o key ∷ b.placed) _ (key ∷ operand_symbols wanted (form_of two)) a.written_so (ap (λ w. key ∷ w) b.written_so)) y.written_so
          ∙ append_assoc (operand_symbols wanted (form_of one)) (key ∷ operand_symbols wanted (form_of two)) _;
      is =
          ap (λ z. form.more z (form.more (form_of b.tree) (forms_of (trees_of y.trees)))) a.is
          ∙ ap (λ z. form.more (form_of one) (form.more z (forms_of (trees_of y.trees)))) b.is
          ∙ ap (λ z. form.more (form_of one) (form.more (form_of two) z)) y.is;
      once = (a.once, (b.once, y.once));
      good = λ d h. good_append (a.placed ++ name o key ∷ b.placed) y.placed d (good_append a.placed (name o key ∷ b.placed) d (a.good d h.0) (good_word o key b.placed d keyword (b.good d h.1.0))) (y.good d h.1.1);
    }
