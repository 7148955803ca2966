-- How selections and lists are stored, by which proofs tell them apart: a selection by its parts, operands first.
use Rattle.std.specs.Prelude.{◌≡◌, ◌⊎◌, ℕ, Bool, true, false, List, [], ◌∷◌, ◌++◌, refl}
use Rattle.std.specs.Coded.{Coded, code_by, coded×, coded⊎, coded_bool, coded_list, coded_ℕ}
use Rattle.std.proofs.Common.{ap, ◌∙◌, inl, inr, append_assoc, append-nil, sym}
use Rattle.ft_base.specs.Selection.{Form, Forms, words, or_of, and_of, mild_not, not_of, filtered, with_options, none, more}
use Rattle.ft_base.specs.declared.filter.Filter.{Filter}
use Rattle.ft_base.specs.declared.options.Options.{Options}
use Rattle.ft_base.specs.declared.words.Words.{Words}
use Rattle.ft_base.specs.contracts.filter.Filter as filter
use Rattle.ft_base.specs.contracts.options.Options as options
use Rattle.ft_base.specs.contracts.words.Words as words_row
use Rattle.plan_compiler.specs.NamedLists.{NamedLists}
use Rattle.thesaurus_file.specs.Links.{Links}
use Rattle.thesaurus_file.specs.Phrases.{Phrase}
use Rattle.thesaurus_file.specs.declared.link.Link.{Link}
use Rattle.word_lists.specs.Stems.{Stem}

abbrev Piece : Type 0
Piece = Words ⊎ (Filter ⊎ (Options ⊎ (Bool × (Bool × Bool))))

abbrev op : Bool → Bool → Bool → Piece
op a b c = inr (inr (inr (a, (b, c))))

abbrev mutual
  pub pieces : Form → List Piece
  pieces (words w) = inl w ∷ []
  pieces (or_of fs) = all_pieces fs ++ op true true true ∷ []
  pieces (and_of fs) = all_pieces fs ++ op true true false ∷ []
  pieces (mild_not a b) = pieces a ++ (pieces b ++ op true false true ∷ [])
  pieces (not_of f) = pieces f ++ op true false false ∷ []
  pieces (filtered f by) = pieces f ++ inr (inl by) ∷ []
  pieces (with_options f by) = pieces f ++ inr (inr (inl by)) ∷ []

  pub all_pieces : Forms → List Piece
  all_pieces none = op false true true ∷ []
  all_pieces (more f fs) = all_pieces fs ++ (pieces f ++ op false true false ∷ [])

abbrev pub read : List Piece → List Form → List Forms → Form
read [] [] t = or_of none
read [] (f ∷ s) t = f
read (inl w ∷ rest) s t = read rest (words w ∷ s) t
read (inr (inl by) ∷ rest) [] t = or_of none
read (inr (inl by) ∷ rest) (f ∷ s) t = read rest (filtered f by ∷ s) t
read (inr (inr (inl by)) ∷ rest) [] t = or_of none
read (inr (inr (inl by)) ∷ rest) (f ∷ s) t = read rest (with_options f by ∷ s) t
read (inr (inr (inr (true, (true, true)))) ∷ rest) s [] = or_of none
read (inr (inr (inr (true, (true, true)))) ∷ rest) s (fs ∷ t) = read rest (or_of fs ∷ s) t
read (inr (inr (inr (true, (true, false)))) ∷ rest) s [] = or_of none
read (inr (inr (inr (true, (true, false)))) ∷ rest) s (fs ∷ t) = read rest (and_of fs ∷ s) t
read (inr (inr (inr (true, (false, true)))) ∷ rest) [] t = or_of none
read (inr (inr (inr (true, (false, true)))) ∷ rest) (b ∷ []) t = or_of none
read (inr (inr (inr (true, (false, true)))) ∷ rest) (b ∷ a ∷ s) t = read rest (mild_not a b ∷ s) t
read (inr (inr (inr (true, (false, false)))) ∷ rest) [] t = or_of none
read (inr (inr (inr (true, (false, false)))) ∷ rest) (f ∷ s) t = read rest (not_of f ∷ s) t
read (inr (inr (inr (false, (true, true)))) ∷ rest) s t = read rest s (none ∷ t)
read (inr (inr (inr (false, (true, false)))) ∷ rest) [] t = or_of none
read (inr (inr (inr (false, (true, false)))) ∷ rest) (f ∷ s) [] = or_of none
read (inr (inr (inr (false, (true, false)))) ∷ rest) (f ∷ s) (fs ∷ t) = read rest s (more f fs ∷ t)
read (inr (inr (inr (false, (false, c)))) ∷ rest) s t = or_of none

mutual
  pub read-pieces : (f : Form) (rest : List Piece) (s : List Form) (t : List Forms) → read (pieces f ++ rest) s t ≡ read rest (f ∷ s) t
  read-pieces (words w) rest s t = refl
  read-pieces (or_of fs) rest s t =
      ap (λ ps. read ps s t) (append_assoc (all_pieces fs) (op true true true ∷ []) rest) ∙ read-all fs (op true true true ∷ rest) s t
  read-pieces (and_of fs) rest s t =
      ap (λ ps. read ps s t) (append_assoc (all_pieces fs) (op true true false ∷ []) rest) ∙ read-all fs (op true true false ∷ rest) s t
  read-pieces (mild_not a b) rest s t =
      ap (λ ps. read ps s t) (append_assoc (pieces a) (pieces b ++ op true false true ∷ []) rest)
      ∙ (read-pieces a ((pieces b ++ op true false true ∷ []) ++ rest) s t
      ∙ (ap (λ ps. read ps (a ∷ s) t) (append_assoc (pieces b) (op true false true ∷ []) rest)
      ∙ read-pieces b (op true false true ∷ rest) (a ∷ s) t))
  read-pieces (not_of f) rest s t =
      ap (λ ps. read ps s t) (append_assoc (pieces f) (op true false false ∷ []) rest) ∙ read-pieces f (op true false false ∷ rest) s t
  read-pieces (filtered f by) rest s t = ap (λ ps. read ps s t) (append_assoc (pieces f) (inr (inl by) ∷ []) rest) ∙ read-pieces f (inr (inl by) ∷ rest) s t
  read-pieces (with_options f by) rest s t =
      ap (λ ps. read ps s t) (append_assoc (pieces f) (inr (inr (inl by)) ∷ []) rest) ∙ read-pieces f (inr (inr (inl by)) ∷ rest) s t

  pub read-all : (fs : Forms) (rest : List Piece) (s : List Form) (t : List Forms) → read (all_pieces fs ++ rest) s t ≡ read rest s (fs ∷ t)
  read-all none rest s t = refl
  read-all (more f fs) rest s t =
      ap (λ ps. read ps s t) (append_assoc (all_pieces fs) (pieces f ++ op false true false ∷ []) rest)
      ∙ (read-all fs ((pieces f ++ op false true false ∷ []) ++ rest) s t
      ∙ (ap (λ ps. read ps s (fs ∷ t)) (append_assoc (pieces f) (op false true false ∷ []) rest)
      ∙ read-pieces f (op false true false ∷ rest) s (fs ∷ t)))

pub read-back : (f : Form) → read (pieces f) [] [] ≡ f
read-back f = ap (λ ps. read ps [] []) (sym (append-nil (pieces f))) ∙ read-pieces f [] [] []

abbrev pub form_code : Coded Form
form_code =
    code_by (List Piece)
    (coded_list (coded⊎ words_row.the_row.coded (coded⊎ filter.the_row.coded
    (coded⊎ options.the_row.coded (coded× coded_bool (coded× coded_bool coded_bool))))))
    pieces (λ ps. read ps [] []) read-back

abbrev pub bytes_code : Coded (List ℕ)
bytes_code = coded_list coded_ℕ

abbrev link_code : Coded Link
link_code =
    code_by (List ℕ × Phrase) (coded× bytes_code (coded_list bytes_code)) (λ l. (l.relation, l.to)) (λ p. record { relation = p.0; to = p.1 }) (λ _. refl)

abbrev pub lists_code : Coded NamedLists
lists_code =
    code_by (List (List ℕ × List (List ℕ)) × (List (List ℕ × Links) × List Stem))
    (coded× (coded_list (coded× bytes_code (coded_list bytes_code)))
    (coded× (coded_list (coded× bytes_code (coded_list (coded× (coded_list bytes_code) (coded_list link_code)))))
    (coded_list (coded× bytes_code bytes_code))))
    (λ l. (l.stops, (l.thesauri, l.stems))) (λ p. record { stops = p.0; thesauri = p.1.0; stems = p.1.1 }) (λ _. refl)
