-- The lines that are still to be read.
use Rattle.std.specs.Prelude.{◌+◌, ◌^◌, ◌<◌, List, length}
use Rattle.gi_script.specs.Words.{NumberedLine, lines_from}
use Rattle.gi_script.specs.declared.lines.Lines.{Lines}

-- numbered on from the lines before
abbrev pub left : Lines → List NumberedLine
left lines = lines_from (lines.before + 1) lines.rest.now

-- their numbers fit
abbrev pub IsCounted : Lines → Type 0
IsCounted lines = lines.before + length lines.rest.now < 2 ^ 64
