-- What the lines of `hours` print.
use Rattle.std.proofs.Common.{◌≡◌, ℕ, suc, ◌+◌, ◌++◌, List, Result, Ok, subst, arith}
use Rattle.jiff_core.specs.declared.civil.date.Date.{Date}
use Rattle.gi_day.specs.declared.calendar.CalendarFault.{CalendarFault}
use Rattle.gi_table_commands.specs.Hours.{AreCycleLines, IsCycleLine, IsFrameText, cycle_line, day_lines}

-- lines of the same parts
pub same_line : (cycle : ℕ) (d e : Date) (h j m n f g : ℕ) → d ≡ e → h ≡ j → m ≡ n → f ≡ g → cycle_line cycle d h m f ≡ cycle_line cycle e j n g
same_line cycle d e h j m n f g de hj mn fg = λ i. cycle_line cycle (de i) (hj i) (mn i) (fg i)

pub same_lines : (d e : Date) (h j c k : ℕ) (lines : List ℕ) → d ≡ e → h ≡ j → c ≡ k → day_lines d h c lines ≡ day_lines e j k lines
same_lines d e h j c k lines de hj ck = λ i. day_lines (de i) (hj i) (ck i) lines

-- one line more
pub more_lines : (day : Date) (cycle : ℕ) (before line text : List ℕ) → AreCycleLines day cycle before → IsCycleLine day cycle line
    → text ≡ before ++ line → AreCycleLines day (cycle + 1) text
more_lines day cycle before line text lines is e =
    let next : cycle + 1 ≡ suc cycle = omega arith in
    rw next (before, line, lines, is, e)

-- the text of the frame that was answered is that of its day
pub of_answered : (given day : Date) (text : List ℕ) → ◌≡◌ {A = Result Date CalendarFault} (Ok given) (Ok day) → IsFrameText given text → IsFrameText day text
of_answered given day text e is =
    let same : given ≡ day = cc in
    subst (λ (d : Date). IsFrameText d text) same is
