-- What is written of what came of the lines, and of what was saved.
use Rattle.std.specs.Prelude.{ℕ, ◌+◌, List, [], ◌∷◌, ◌++◌, codes, flat_map, Bool, true, nat_le, if◌then◌else◌, Option, None, Some}
use Rattle.gi_live.specs.Answers.{answer_text, closed_text, due_text, packet_text, refused_text}
use Rattle.gi_desk.specs.declared.packet.Packet.{Packet}
use Rattle.gi_desk.specs.declared.reply.Answer.{Answer}
use Rattle.gi_desk.specs.declared.reply.Answer.TheVariants as answers
use Rattle.gi_office.specs.declared.note.Note.{Note}
use Rattle.gi_live.specs.declared.came.Came.{Came}
use Rattle.gi_live.specs.declared.came.Came.TheVariants.{Unread, Answered, Due, Closed}
use Rattle.gi_live.specs.declared.came.UnreadLine.{UnreadLine}
use Rattle.gi_live.specs.declared.came.UnreadLine.TheVariants.{Unreadable, TooLarge, Halted}

abbrev pub unread_text : UnreadLine → List ℕ
unread_text Unreadable = codes "Unreadable"
unread_text TooLarge = codes "TooLarge"
unread_text Halted = codes "Halted"

-- ---- what is saved

-- the number of the fact that an answer names
abbrev pub fact_in : Answer → Option ℕ
fact_in (answers.Recorded n) = Some n
fact_in (answers.Repeat n) = Some n
fact_in (answers.Saved n) = Some n
fact_in _ = None

-- how many facts are saved once this answer is given, where so many were before
abbrev pub saved_after : ℕ → Answer → ℕ
saved_after saved (answers.Saved n) = n
saved_after saved _ = saved

-- the same once all these marks are noted
abbrev pub saved_by : ℕ → List Note → ℕ
saved_by saved [] = saved
saved_by saved (note ∷ notes) = saved_by (saved_after saved note.reply.answer) notes

-- An answer that names a fact is told once that fact is saved, where so many are; any other is always told.
abbrev pub may_tell : ℕ → Answer → Bool
may_tell saved (answers.Recorded n) = nat_le n saved
may_tell saved (answers.Repeat n) = nat_le n saved
may_tell saved (answers.Saved n) = nat_le n saved
may_tell saved _ = true

abbrev pub may_tell_of : ℕ → Came → Bool
may_tell_of saved (Unread line) = true
may_tell_of saved (Answered reply portfolio) = may_tell saved reply.answer
may_tell_of saved (Due cycles) = true
may_tell_of saved (Closed id reply) = may_tell saved reply.answer

-- ---- the text

-- the packets that the fact let out
abbrev pub packets_text : Option ℕ → List Packet → List ℕ
packets_text fact packets = flat_map (packet_text fact) packets

-- what came of the line of this number, and what was let out with it
abbrev pub came_text : ℕ → Came → List ℕ
came_text line (Unread reason) = refused_text line (unread_text reason) None
came_text line (Answered reply portfolio) = answer_text line reply.answer portfolio ++ packets_text (fact_in reply.answer) reply.out
came_text line (Due cycles) = due_text line cycles
came_text line (Closed id reply) = closed_text line id reply.answer ++ packets_text (fact_in reply.answer) reply.out

-- the same, where it may be told
abbrev pub told_text : ℕ → ℕ → Came → List ℕ
told_text saved line came = if may_tell_of saved came then came_text line came else []

-- the number of the line of which the next one comes: what comes of cycles that are due is all of one line
abbrev pub line_behind : ℕ → Came → ℕ
line_behind line (Unread reason) = line + 1
line_behind line (Answered reply portfolio) = line + 1
line_behind line (Due cycles) = line
line_behind line (Closed id reply) = line

-- what came of the lines from this number on, in order
abbrev pub cames_text : ℕ → ℕ → List Came → List ℕ
cames_text saved line [] = []
cames_text saved line (came ∷ cames) = told_text saved line came ++ cames_text saved (line_behind line came) cames

-- what the mark of a saved fact let out
abbrev pub mark_text : Note → List ℕ
mark_text note = packets_text (fact_in note.reply.answer) note.reply.out

-- the answers to lines, and behind them what the facts let out that were saved since
abbrev pub step_text : ℕ → ℕ → List Came → List Note → List ℕ
step_text saved line cames marks = cames_text saved line cames ++ flat_map mark_text marks
