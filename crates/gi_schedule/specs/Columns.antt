-- The columns of a schedule in text. What speaks of all pairs, or of the whole day, has `*` in their place.
use Rattle.std.specs.Prelude.{ℕ, ◌-◌, List, ◌++◌, length, replicate, Option, Some, None, codes}
use Rattle.gi_text.specs.Columns.{right_in}
use Rattle.gi_reports.specs.Columns.{left_in}
use Rattle.gi_schedule.specs.Lines.{flow_text}
use Rattle.gi_schedule.specs.declared.schedule_line.Flow.{Flow}

-- a text right in so many places
abbrev pub right_of : ℕ → List ℕ → List ℕ
right_of places text = replicate (places - length text) 32 ++ text

abbrev pub number_column : Option ℕ → List ℕ
number_column None = codes " *"
number_column (Some number) = right_in 2 number

abbrev pub flow_column : Flow → List ℕ
flow_column flow = left_in 3 (flow_text flow)

abbrev pub code_or_all : Option (List ℕ) → List ℕ
code_or_all None = codes "*"
code_or_all (Some code) = code
