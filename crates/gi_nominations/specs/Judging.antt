-- The acceptance of a nomination.
-- Source: Regulation (EU) 312/2014, Articles 14 and 15 (the last document before a cycle counts); the refusals and their order are this project's.
use Rattle.std.specs.Prelude.{◌≡◌, ℕ, ◌-◌, Bool, true, false, not, nat_le, nat_lt, Option, Some, None, if◌then◌else◌}
use Rattle.std.specs.Cmp.Lexicographic.{pointwise}
use Rattle.std.specs.Str.{bytes_eq}
use Rattle.jiff_core.specs.declared.civil.date.Date.{Date}
use Rattle.gi_day.specs.Cycles.{hour_count, cycle_count}
use Rattle.gi_messages.specs.Lines.{line_eq}
use Rattle.gi_messages.specs.declared.message.Nomint.{Nomint}
use Rattle.gi_nominations.specs.Book.{Documents, IsNewer, in_force}
use Rattle.gi_nominations.specs.Lines.{lines_fault}
use Rattle.gi_nominations.specs.declared.nomination_fault.NominationFault.{NominationFault}
use Rattle.gi_nominations.specs.declared.nomination_fault.NominationFault.TheVariants.{WrongPoint, UnknownPortfolio, DayOver, Stale, Conflict}
use Rattle.gi_nominations.specs.declared.setting.Setting.{Setting}
use Rattle.gi_nominations.specs.declared.verdict.Verdict.{Verdict}
use Rattle.gi_nominations.specs.declared.verdict.Verdict.TheVariants.{Recordable, Repeat, Refused}

-- the last cycle of the gas day is closed
abbrev pub is_day_over : Date → Option ℕ → Bool
is_day_over day None = false
is_day_over day (Some last_closed) = nat_le (cycle_count day - 1) last_closed

-- By the document in force: a higher version is taken, a lower one is stale, and the same one is a repeat where the
-- lines are the same, in the same order.
abbrev pub by_version : Option Nomint → Nomint → Verdict
by_version None document = Recordable
by_version (Some held) document =
    if nat_lt held.version document.version then Recordable
    else (if nat_lt document.version held.version then Refused (Stale held.version)
    else (if pointwise line_eq document.lines held.lines then Repeat else Refused (Conflict held.version)))

-- the fault, or else what comes next
abbrev pub or_else : Option NominationFault → Verdict → Verdict
or_else None next = next
or_else (Some fault) next = Refused fault

-- the first refusal whose condition holds, else by the document in force
unfoldable pub verdict : Documents → Setting → Nomint → Verdict
verdict book setting document =
    if not (bytes_eq document.point book.point) then Refused WrongPoint
    else (if not setting.known then Refused UnknownPortfolio
    else or_else (lines_fault (hour_count setting.frame) document.lines) (
    if is_day_over setting.frame setting.last_closed then Refused DayOver
    else by_version (in_force document.portfolio document.day book.documents) document))

-- what holds of a nomination that can be taken
pub record IsRecordable (book : Documents) (setting : Setting) (document : Nomint) : Type 0 where
  pub point : document.point ≡ book.point
  pub known : setting.known ≡ true
  pub lines : lines_fault (hour_count setting.frame) document.lines ≡ None
  pub not_over : is_day_over setting.frame setting.last_closed ≡ false
  pub newer : IsNewer book.documents document

-- what holds of one that is a repeat: it has the version and the lines of the one in force
pub record IsRepeat (book : Documents) (document : Nomint) : Type 0 where
  pub held : Nomint
  pub in_force : in_force document.portfolio document.day book.documents ≡ Some held
  pub version : document.version ≡ held.version
  pub lines : document.lines ≡ held.lines
