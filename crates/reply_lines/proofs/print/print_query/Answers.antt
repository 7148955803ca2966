-- The words of the later faults.
use Rattle.reply_lines.proofs.print.print_query.Goals as goal

pub returns-in-Phrases : goal.returns-in-Phrases
returns-in-Phrases c = rw c.in-Phrases.is c.print_numbered-in-Phrases.ensures

pub returns-in-OptionTwice : goal.returns-in-OptionTwice
returns-in-OptionTwice c = rw c.in-OptionTwice.is c.print_numbered-in-OptionTwice.ensures

pub returns-in-BadWildcard : goal.returns-in-BadWildcard
returns-in-BadWildcard c = rw c.in-BadWildcard.is c.print_numbered-in-BadWildcard.ensures

pub returns-in-MildNotExclude : goal.returns-in-MildNotExclude
returns-in-MildNotExclude c = rw c.in-MildNotExclude.is c.print_numbered-in-MildNotExclude.ensures

pub returns-in-InsideFilter : goal.returns-in-InsideFilter
returns-in-InsideFilter c = rw c.in-InsideFilter.is c.print_numbered-in-InsideFilter.ensures
