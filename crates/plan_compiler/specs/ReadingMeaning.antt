-- What a reading of words says of the lists and of the options that hold for them.
use Rattle.std.specs.Prelude.{◌≡◌, map, option_map}
use Rattle.ft_base.specs.declared.options.Options.{Options}
use Rattle.match_options.specs.TokenTest.{is_on}
use Rattle.match_options.specs.WordTests.{choice_of}
use Rattle.plan_compiler.specs.NamedLists.{NamedLists}
use Rattle.plan_compiler.specs.Stops.{stops_of, term_of}
use Rattle.plan_compiler.specs.declared.reading.Reading.{Reading}

pub record Reads (reading : Reading) (lists : NamedLists) (options : Options) : Type 0 where
  pub named : reading.lists.now ≡ lists
  pub choice : reading.choice ≡ choice_of options
  pub wildcards : reading.wildcards ≡ is_on options.wildcards
  pub stemming : reading.stemming ≡ is_on options.stemming
  pub stops : map term_of reading.stops.items ≡ stops_of lists options.stop_words
  pub thesaurus : option_map (λ lent. lent.now) reading.thesaurus ≡ options.thesaurus
