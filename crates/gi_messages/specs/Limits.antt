-- The limits of messages (this project's choice).
use Rattle.std.specs.Prelude.{ℕ, ◌==◌, if◌then◌else◌}

-- how many bytes a message has at most
abbrev pub most_bytes : ℕ
most_bytes = 16_777_216

-- how many elements the array `processed` of a message has at most, and the array `confirmed`
abbrev pub most_processed_elements : ℕ
most_processed_elements = 4_096

abbrev pub most_confirmed_elements : ℕ
most_confirmed_elements = 8_192

-- how many bytes a line of a NOMRES takes at most, a line of a nomination, and a row of a table
abbrev pub most_line_bytes : ℕ
most_line_bytes = 389

abbrev pub most_nomination_line_bytes : ℕ
most_nomination_line_bytes = 413

abbrev pub most_row_bytes : ℕ
most_row_bytes = 417

-- how many parts an order or a response comes in at most
abbrev pub most_parts : ℕ
most_parts = 66

-- how many elements each array of one of several parts has at most
abbrev pub most_part_elements : ℕ
most_part_elements = 1_000

-- how many elements an array has at most in one of so many parts: fewer where there are several
abbrev pub elements_of : ℕ → ℕ → ℕ
elements_of most parts = if parts == 1 then most else most_part_elements

-- how many lines a message has at most whose text is known to be short
abbrev pub few_lines : ℕ
few_lines = 33_280

-- the highest number of a cycle
abbrev pub last_cycle : ℕ
last_cycle = 36

-- the highest version of a nomination
abbrev pub last_version : ℕ
last_version = 999_999_999

-- the greatest priority number of a line of a nomination, whose lines are served last, and that of a line which names none
abbrev pub last_priority : ℕ
last_priority = 9

abbrev pub usual_priority : ℕ
usual_priority = 5
