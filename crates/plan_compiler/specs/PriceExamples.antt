-- A text, its terms and words of queries, for the examples of prices.
use Rattle.std.specs.Prelude.{ℕ, Bool, false, if◌then◌else◌, List, [], ◌∷◌, codes}
use Rattle.ft_base.specs.declared.options.Options.{Options}
use Rattle.ft_base.specs.Selection.{Form, no_options}
use Rattle.all_matches.specs.Examples.{is_on, is_word, plain}
use Rattle.all_matches.specs.Variants.{Item, any_word, word, pattern, Lexicon}
use Rattle.index_meaning.specs.Entries.{Entry}
use Rattle.index_meaning.specs.EntryExamples.{a, b, c, capital_a}
use Rattle.plan_compiler.specs.Price.{price_under}

-- words of three terms: `a` three times, `A` and `b` once. `c` stands elsewhere in the documents
abbrev pub text : List (List ℕ)
text = codes "a" ∷ codes "A" ∷ codes "b" ∷ codes "a" ∷ codes "a" ∷ []

abbrev pub terms : List Entry
terms = capital_a ∷ a ∷ b ∷ c ∷ []

-- stemming gives `a` and `A` one stem
abbrev pub stem : List ℕ → List ℕ
stem w = if is_word (word (codes "A")) w then codes "a" else w

-- a word is another form of the word of the query where stemming is on, and the same word elsewhere
abbrev pub passes : Options → Item → List ℕ → Bool
passes options any_word w = false
passes options (word q) w = if is_on options.stemming then is_word (word (stem q)) (stem w) else is_word (word q) w
passes options (pattern p) w = false

-- a thesaurus reaches `b c` from each phrase
abbrev pub lexicon : Lexicon
lexicon = record plain { accepts = passes; reached = λ choice phrase. (codes "b" ∷ codes "c" ∷ []) ∷ [] }

abbrev pub price_of : Form → ℕ
price_of form = price_under lexicon no_options terms text form
