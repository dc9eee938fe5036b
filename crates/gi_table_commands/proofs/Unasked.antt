-- What `clap` says in place of a command: memory ran out, or the words ask for none.
use Rattle.std.proofs.Common.{◌≡◌, ◌≢◌, ◌⊎◌, inl, inr, ℕ, List, [], Option, None, Some, Result, Err, refl, sym, subst}
use Rattle.std.specs.Prelude.{IfSome, IsErrAnd}
use Rattle.std.specs.Io.KnownBytes.{Keeps}
use Rattle.clap.specs.Words.{HasKind, IsAmong, Kinds, kind_of}
use Rattle.clap.specs.declared.error.Error.{Error}
use Rattle.clap.specs.declared.error.kind.ErrorKind.TheVariants as kind
use Rattle.gi_command_line.specs.Asked.{Wanted, about_book, at_once, audit, explain, hours, match_tables, mistaken, office, page, report, serve, simulate}
use Rattle.gi_command_line.specs.CommandLine.{IsMistaken, objections}
use Rattle.gi_table_commands.specs.Match.{IsFirstFault}
use Rattle.gi_table_commands.specs.Tables.{IsTablesFault, MayReadTables}
use Rattle.gi_table_commands.specs.declared.fault.Fault.{Fault}
use Rattle.gi_table_commands.specs.declared.fault.Fault.TheVariants as fault

-- where nothing is objected to, an error is want of memory
pub memory_alone : (kinds : Kinds) (said : Error) → HasKind kinds said → kinds ≡ [] → kind_of said ≡ kind.OutOfMemory
memory_alone kinds said (inl memory) none = memory
memory_alone kinds said (inr among) none = absurd (subst (IsAmong (kind_of said)) none among)

pub if_some : (remaining : Option (List ℕ)) (P : List ℕ → Type 0) → ((input : List ℕ) → P input) → IfSome remaining P
if_some None P all = tt
if_some (Some input) P all = all input

-- what is kept as it is, is kept
pub keeps_same : (remaining : Option (List ℕ)) → Keeps remaining remaining
keeps_same None = tt
keeps_same (Some input) = refl

-- memory may run out of each command
pub may_want : (wanted : Wanted) (remaining : Option (List ℕ)) → IsTablesFault wanted remaining fault.OutOfMemory
may_want (at_once match_tables) remaining = if_some remaining (λ input. IsFirstFault input fault.OutOfMemory) (λ input. tt)
may_want (at_once (hours day)) remaining = tt
may_want (at_once (simulate trace strict)) remaining = inr refl
may_want (at_once (report kind format side words book)) remaining = inr refl
may_want (at_once (explain format side words book)) remaining = inr refl
may_want (at_once (page side word book)) remaining = inr refl
may_want (at_once (audit format initiating matching point)) remaining = inr refl
may_want (at_once (about_book file expected)) remaining = inr refl
may_want (at_once mistaken) remaining = inr refl
may_want (office wanted) remaining = inr refl
may_want (serve wanted) remaining = inr refl

-- each command may have read nothing
pub may_leave : (wanted : Wanted) (remaining : Option (List ℕ)) → MayReadTables wanted remaining remaining
may_leave (at_once match_tables) remaining = tt
may_leave (at_once (hours day)) remaining = keeps_same remaining
may_leave (at_once (simulate trace strict)) remaining = keeps_same remaining
may_leave (at_once (report kind format side words book)) remaining = keeps_same remaining
may_leave (at_once (explain format side words book)) remaining = keeps_same remaining
may_leave (at_once (page side word book)) remaining = keeps_same remaining
may_leave (at_once (audit format initiating matching point)) remaining = keeps_same remaining
may_leave (at_once (about_book file expected)) remaining = keeps_same remaining
may_leave (at_once mistaken) remaining = keeps_same remaining
may_leave (office wanted) remaining = keeps_same remaining
may_leave (serve wanted) remaining = keeps_same remaining

-- words that ask for no command are told as that, or memory ran out
abbrev pub IsNoCommand : Fault → Type 0
IsNoCommand why = (why ≡ fault.CommandLine) ⊎ (why ≡ fault.OutOfMemory)

pub no_command : (words : List (List ℕ)) (said : Error) (result : Result (Unit {0}) Fault) → HasKind (objections words) said
    → (kind_of said ≡ kind.OutOfMemory → result ≡ Err fault.OutOfMemory)
    → (kind_of said ≢ kind.DisplayHelp → kind_of said ≢ kind.DisplayVersion → IsErrAnd result IsNoCommand)
    → IsMistaken words → IsErrAnd result IsNoCommand
no_command words said result (inl memory) out up none = subst (λ (r : Result (Unit {0}) Fault). IsErrAnd r IsNoCommand) (sym (out memory)) (inr refl)
no_command words said result (inr among) out up (inl objected) = up (objected.no_help _ among) (objected.no_version _ among)
no_command words said result (inr among) out up (inr both) = absurd (subst (IsAmong (kind_of said)) both.0 among)
