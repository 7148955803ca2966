-- What words, options and lists mean.
use Rattle.std.specs.Prelude.{ℕ, Bool, true, false, ◌&&◌, if◌then◌else◌, List, [], Option, Some, None, bytes_eq}
use Rattle.std.specs.List.{list_any}
use Rattle.ft_base.specs.declared.options.Case.{Case}
use Rattle.ft_base.specs.declared.options.Options.{Options}
use Rattle.ft_base.specs.declared.options.ThesaurusUse.{ThesaurusUse}
use Rattle.ft_base.specs.declared.range.Range.{Range}
use Rattle.ft_base.specs.declared.range.Range.TheVariants.{Exactly, AtLeast, AtMost, FromTo}
use Rattle.text_forms.specs.Forms.{key_of}
use Rattle.text_words.specs.Words.{words}
use Rattle.all_matches.specs.Variants.{Item, any_word, word, pattern, Lexicon}
use Rattle.match_options.specs.Items.{items_of}
use Rattle.match_options.specs.TokenTest.{is_on, case_of, has_case}
use Rattle.match_options.specs.WordForms.{forms_of}
use Rattle.match_options.specs.WordTests.{choice_of, item_passes}
use Rattle.thesaurus_file.specs.Expansion.{reached}
use Rattle.thesaurus_file.specs.Links.{Links}
use Rattle.thesaurus_file.specs.declared.levels.Levels.{Levels}
use Rattle.word_lists.specs.Stems.{Stem, stem_in}
use Rattle.plan_compiler.specs.NamedLists.{NamedLists, list_named}

-- whether a word of a text has the stem of a word of a query (section 3.4.4: FTStemOption), and what `lowercase` and `uppercase` ask of it.
-- Each stem is looked up once; `case sensitive` and `diacritics sensitive` are without effect
abbrev pub same_stem : List Stem → Case → List ℕ → List ℕ → Bool
same_stem stems case query w = bytes_eq (stem_in stems (key_of query)) (stem_in stems (key_of w)) && has_case case (forms_of w)

-- whether a word of a text passes an item under its options. A pattern has no stem
abbrev pub accepts : List Stem → Options → Item → List ℕ → Bool
accepts stems options any_word w = true
accepts stems options (word query) w = if is_on options.stemming then same_stem stems (case_of options.case) query w
    else item_passes (choice_of options) (word query) (forms_of w)
accepts stems options (pattern p) w = item_passes (choice_of options) (pattern p) (forms_of w)

-- whether a stop list holds a key, if there is the list
abbrev pub holds_key : Option (List (List ℕ)) → List ℕ → Bool
holds_key None key = false
holds_key (Some keys) key = list_any (bytes_eq key) keys

-- the levels that are asked for: all but that of the phrase itself, where no range is written
abbrev pub levels_of : Option Range → Levels
levels_of None = record { from = 1; to = None }
levels_of (Some (Exactly n)) = record { from = n; to = Some n }
levels_of (Some (AtLeast n)) = record { from = n; to = None }
levels_of (Some (AtMost n)) = record { from = 0; to = Some n }
levels_of (Some (FromTo low high)) = record { from = low; to = Some high }

-- the phrases that a thesaurus reaches, if there is one
abbrev pub reached_in : Option Links → ThesaurusUse → List (List ℕ) → List (List (List ℕ))
reached_in None choice phrase = []
reached_in (Some links) choice phrase = reached links choice.relationship (levels_of choice.levels) phrase

abbrev pub lexicon : NamedLists → Lexicon
lexicon lists = record {
  words_of = words;
  items_of = λ options text. items_of (is_on options.wildcards) text;
  key = key_of;
  accepts = accepts lists.stems;
  stop_list_holds = λ name key. holds_key (list_named name lists.stops) key;
  reached = λ choice phrase. reached_in (list_named choice.name lists.thesauri) choice phrase;
}
