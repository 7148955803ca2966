-- The options that hold at a place of a selection.
use Rattle.std.specs.Prelude.{option_map}
use Rattle.ft_base.specs.declared.options.Options.{Options}
use Rattle.plan_compiler.specs.declared.chosen.Chosen.{Chosen}

abbrev pub options_of : Chosen → Options
options_of chosen = record {
  case = chosen.case;
  diacritics_sensitive = chosen.diacritics_sensitive;
  stemming = chosen.stemming;
  thesaurus = option_map (λ lent. lent.now) chosen.thesaurus;
  stop_words = option_map (λ lent. lent.now) chosen.stop_words;
  language = option_map (λ lent. lent.now) chosen.language;
  wildcards = chosen.wildcards;
}
