-- Hours in words, and their local time.
use Rattle.std.specs.Prelude.{ℕ, List, ◌++◌, codes, nat_eq, if◌then◌else◌}
use Rattle.std.specs.Fmt.{decimal}
use Rattle.gi_picture.specs.Clock.{clock_text, time_mark}

-- `3`, and `3–8`
unfoldable pub span : ℕ → ℕ → List ℕ
span first last = if nat_eq first last then decimal first else (decimal first ++ (codes "&ndash;" ++ decimal last))

-- the local time at a bound, and which of two it is
unfoldable pub local_time : ℕ → ℕ → List ℕ
local_time count bound =
    clock_text count bound ++ time_mark count bound

-- from one bound to another
unfoldable pub local_span : ℕ → ℕ → ℕ → List ℕ
local_span count before behind =
    local_time count before ++ (codes "&ndash;" ++ local_time count behind)
