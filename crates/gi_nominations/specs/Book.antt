-- The nominations that are kept of those taken, and which of them is in force.
-- Source: Regulation (EU) 312/2014, Articles 14 and 15, but for the choice that is named.
use Rattle.std.specs.Prelude.{◌≡◌, ℕ, ◌<◌, ◌≤◌, List, reverse, find, Bool, true, ◌&&◌, Option, Some, if◌then◌else◌}
use Rattle.std.specs.Str.{bytes_eq}
use Rattle.jiff_core.specs.declared.civil.date.Date.{Date}
use Rattle.gi_day.specs.SameDay.{same_day}
use Rattle.gi_messages.specs.declared.message.Nomint.{Nomint}

-- the documents that are kept at a point
pub record Documents : Type 0 where
  pub point : List ℕ
  pub documents : List Nomint

-- the document is of the portfolio and the gas day
abbrev pub is_of : List ℕ → Date → Nomint → Bool
is_of portfolio day document = bytes_eq document.portfolio portfolio && same_day document.day day

-- The nomination in force: the last document taken of the portfolio and the gas day, whole. A document that is
-- refused is not taken, and so changes nothing (this project's choice).
unfoldable pub in_force : List ℕ → Date → List Nomint → Option Nomint
in_force portfolio day documents = find (is_of portfolio day) (reverse documents)

-- where the document is of the portfolio and the gas day, its version is at most that of the one in force
abbrev pub IsUpTo : List ℕ → Date → Nomint → Nomint → Type 0
IsUpTo portfolio day held document = is_of portfolio day document ≡ true → document.version ≤ held.version

-- the document is in force for its portfolio and gas day, and for all others the one that was
abbrev pub DocumentStands : List Nomint → List Nomint → Nomint → Type 0
DocumentStands old new document =
    (portfolio : List ℕ) (day : Date) → in_force portfolio day new ≡ (if is_of portfolio day document then Some document else in_force portfolio day old)

-- its version is above that of the document in force
abbrev pub IsNewer : List Nomint → Nomint → Type 0
IsNewer documents document = (held : Nomint) → in_force document.portfolio document.day documents ≡ Some held → held.version < document.version
