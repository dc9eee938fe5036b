-- What `clap` says in place of a command: memory ran out, or the words ask for none.
use Rattle.std.proofs.Common.{◌≡◌, ◌≢◌, ◌⊎◌, inl, inr, ℕ, List, Option, None, Some, Result, Err, refl, sym, subst}
use Rattle.std.specs.Prelude.{IsErrAnd}
use Rattle.std.specs.Io.KnownBytes.{Keeps}
use Rattle.clap.specs.Words.{HasKind, IsAmong, kind_of}
use Rattle.clap.specs.declared.error.Error.{Error}
use Rattle.clap.specs.declared.error.kind.ErrorKind.TheVariants as kind
use Rattle.gi_command_line.specs.Asked.{Wanted, about_book, at_once, audit, explain, hours, match_tables, mistaken, office, page, report, serve, simulate}
use Rattle.gi_command_line.specs.CommandLine.{IsMistaken, objections}
use Rattle.gi_table_commands.specs.Match.{IsFirstFault}
use Rattle.gi_table_commands.specs.declared.fault.Fault.TheVariants as table
use Rattle.gi_table_commands.proofs.Unasked.{if_some, keeps_same}
use Rattle.gi_commands.specs.Fault.{OfTables}
use Rattle.gi_commands.specs.Simulating.{CutsShort, HasReport, HasScript, IsFirstScriptFault}
use Rattle.gi_commands.specs.declared.desk_report.DeskReport.TheVariants.{Listed}
use Rattle.gi_commands.specs.declared.fault.Fault.TheVariants as fault
use Rattle.gi_store.specs.Source.{Source}
use Rattle.gi_service.specs.Serving.{IsFirstServeFault}
use Rattle.gi_service.specs.Tasks.{IsTaskFault, LeavesTask, MayReadTask}
use Rattle.gi_service.specs.declared.program_fault.ProgramFault.{ProgramFault}
use Rattle.gi_service.specs.declared.program_fault.ProgramFault.TheVariants.{Command}

-- memory may run out of each command
pub may_want : (from : Source) (wanted : Wanted) (remaining : Option (List ℕ)) → IsTaskFault from wanted remaining (Command fault.OutOfMemory)
may_want from (at_once match_tables) remaining = if_some remaining (λ input. OfTables (IsFirstFault input) fault.OutOfMemory) (λ input. (table.OutOfMemory, refl, tt))
may_want from (at_once (hours day)) remaining = (table.OutOfMemory, refl, tt)
may_want from (at_once (simulate trace strict)) remaining = if_some remaining (λ input. IsFirstScriptFault HasScript input fault.OutOfMemory) (λ input. tt)
may_want from (at_once (report kind format side words book)) remaining = inl refl
may_want from (at_once (explain format side words book)) remaining = inl refl
may_want from (at_once (page side word book)) remaining = inl refl
may_want from (at_once (audit format initiating matching point)) remaining = tt
may_want from (at_once (about_book file expected)) remaining = tt
may_want from (at_once mistaken) remaining = inr refl
may_want from (serve service) remaining = (tt, if_some remaining (λ input. IsFirstServeFault service.sessions input (Command fault.OutOfMemory)) (λ input. inl tt))
may_want from (office run) remaining = inr tt

-- each command may have read nothing
pub may_leave : (wanted : Wanted) (remaining : Option (List ℕ)) → MayReadTask wanted remaining remaining
may_leave (at_once match_tables) remaining = tt
may_leave (at_once (hours day)) remaining = keeps_same remaining
may_leave (at_once (simulate trace strict)) remaining = tt
may_leave (at_once (report kind format side words None)) remaining = tt
may_leave (at_once (report kind format side words (Some book))) remaining = keeps_same remaining
may_leave (at_once (explain format side words None)) remaining = tt
may_leave (at_once (explain format side words (Some book))) remaining = keeps_same remaining
may_leave (at_once (page side word None)) remaining = tt
may_leave (at_once (page side word (Some book))) remaining = keeps_same remaining
may_leave (at_once (audit format initiating matching point)) remaining = keeps_same remaining
may_leave (at_once (about_book file expected)) remaining = keeps_same remaining
may_leave (at_once mistaken) remaining = keeps_same remaining
may_leave (serve service) remaining = tt
may_leave (office run) remaining = tt

-- and where memory ran out, each command may have written nothing
pub may_keep : (from : Source) (wanted : Wanted) (remaining old new : Option (List ℕ)) → Keeps old new → LeavesTask from wanted remaining old new (Command fault.OutOfMemory)
may_keep from (at_once match_tables) remaining old new kept = kept
may_keep from (at_once (hours day)) remaining old new kept = kept
may_keep from (at_once (simulate trace strict)) remaining old new kept = if_some remaining (λ input. CutsShort trace input old new) (λ input. inl kept)
may_keep from (at_once (report kind format side words book)) remaining old new kept = kept
may_keep from (at_once (explain format side words book)) remaining old new kept = kept
may_keep from (at_once (page side word book)) remaining old new kept = kept
may_keep from (at_once (audit format initiating matching point)) remaining old new kept = kept
may_keep from (at_once (about_book file expected)) remaining old new kept = kept
may_keep from (at_once mistaken) remaining old new kept = kept
may_keep from (serve service) remaining old new kept = kept
may_keep from (office run) remaining old new kept = kept

-- words that ask for no command are told as that, or memory ran out
abbrev pub IsNoCommand : ProgramFault → Type 0
IsNoCommand why = (why ≡ Command fault.CommandLine) ⊎ (why ≡ Command fault.OutOfMemory)

pub no_command : (words : List (List ℕ)) (said : Error) (result : Result (Unit {0}) ProgramFault) → HasKind (objections words) said
    → (kind_of said ≡ kind.OutOfMemory → result ≡ Err (Command fault.OutOfMemory))
    → (kind_of said ≢ kind.DisplayHelp → kind_of said ≢ kind.DisplayVersion → IsErrAnd result IsNoCommand)
    → IsMistaken words → IsErrAnd result IsNoCommand
no_command words said result (inl memory) out up none = subst (λ (r : Result (Unit {0}) ProgramFault). IsErrAnd r IsNoCommand) (sym (out memory)) (inr refl)
no_command words said result (inr among) out up (inl objected) = up (objected.no_help _ among) (objected.no_version _ among)
no_command words said result (inr among) out up (inr both) = absurd (subst (IsAmong (kind_of said)) both.0 among)
