-- Words compiled with the lists, and under the options that hold for them.
use Rattle.std.specs.Prelude.{◌≡◌, ◌&&◌, map}
use Rattle.ft_base.specs.Lists.{is_not_empty}
use Rattle.ft_base.specs.declared.options.Options.{Options}
use Rattle.ft_base.specs.declared.words.Words.{Words}
use Rattle.all_matches.specs.Meaning.{phrases_by}
use Rattle.match_options.specs.Items.{items_of}
use Rattle.plan_compiler.specs.NamedLists.{NamedLists}
use Rattle.plan_compiler.specs.ReadingMeaning.{Reads}
use Rattle.plan_compiler.specs.WordsMeaning.{asks_all, grouped_tests, plan_tests}
use Rattle.plan_compiler.specs.declared.reading.Reading.{Reading}
use Rattle.plan_compiler.specs.declared.words_plan.WordsPlan.{WordsPlan}

-- where there is no phrase, none can be found
pub record IsCompiled (plan : WordsPlan) (lists : NamedLists) (options : Options) (value : Words) : Type 0 where
  pub reading : Reading
  pub reads : Reads reading lists options
  pub phrases : map plan_tests plan.phrases ≡ map (grouped_tests reading) (phrases_by value.mode (map (items_of reading.wildcards) value.values))
  pub all : plan.all ≡ (asks_all value.mode && is_not_empty plan.phrases)
  pub times : plan.times ≡ value.times
