-- A line of the program as the line that it stands for.
use Rattle.text_lines.specs.Lines.{Content}
use Rattle.text_lines.specs.declared.content_lines.ContentLine.{ContentLine}

abbrev pub content_of : ContentLine → Content
content_of line = record { number = line.number; text = line.text.now }
