-- The first fault of a script that is not run, and what is written of one that is.
use Rattle.std.proofs.Common.{◌≡◌, ◌≢◌, ◌⊎◌, ◌∙◌, inl, inr, refl, sym, subst, ℕ, Bool, true, false, List, Option, Some, None, IfSome, Result, Ok, Err}
use Rattle.std.specs.Io.KnownBytes.{Appends, Keeps}
use Rattle.std.specs.Prelude.{IfOk}
use Rattle.gi_commands.specs.declared.fault.Fault.{Fault}
use Rattle.gi_commands.specs.declared.fault.Fault.TheVariants as fault
use Rattle.gi_script.specs.Script.{ScriptContents}
use Rattle.gi_serving.specs.Ending.{Ends, Writes}
use Rattle.gi_serving.specs.declared.serve_fault.ServeFault.{ServeFault}
use Rattle.gi_serving.specs.declared.serve_fault.ServeFault.TheVariants as serve
use Rattle.gi_store.specs.declared.store_fault.StoreFault.{StoreFault}
use Rattle.gi_service.specs.Serving.{End, IsBooksFault, IsFirstServeFault, IsInputOf, IsServed, IsServedFrom, IsServedText, IsTextFault, IsUndone, LeavesServed, MayBeTold, Serves}
use Rattle.gi_service.specs.Standing.{IsPrefixFault}
use Rattle.gi_service.specs.declared.program_fault.ProgramFault.{ProgramFault}
use Rattle.gi_service.specs.declared.program_fault.ProgramFault.TheVariants.{Closed, Command, Served}

-- no book is why a writer fails
no_write : (point : List ℕ) → IsPrefixFault fault.Write ⊎ IsBooksFault point fault.Write → ⊥
no_write point (inl h) = h
no_write point (inr (inl (inl h))) = h
no_write point (inr (inl (inr h))) = h
no_write point (inr (inr h)) = h.2

first_command : (sessions : ℕ) (input : List ℕ) (why : Fault) → IsTextFault input why → IsFirstServeFault sessions input (Command why)
first_command sessions input fault.Write (inl h) = absurd h
first_command sessions input fault.Write (inr h) = absurd (no_write h.0.point h.2)
first_command sessions input fault.CommandLine h = h
first_command sessions input fault.Read h = h
first_command sessions input fault.TooLarge h = h
first_command sessions input fault.Lines h = h
first_command sessions input fault.ShapeDiffers h = h
first_command sessions input fault.Differs h = h
first_command sessions input fault.Unexpected h = h
first_command sessions input (fault.TwoPasts day cycle) h = h
first_command sessions input fault.Empty h = h
first_command sessions input fault.OutOfMemory h = h
first_command sessions input (fault.Message line why) h = h
first_command sessions input (fault.WrongKind line) h = h
first_command sessions input (fault.Parts line) h = h
first_command sessions input (fault.Day why) h = h
first_command sessions input (fault.Calendar why) h = h
first_command sessions input (fault.Script why) h = h
first_command sessions input (fault.Code why) h = h
first_command sessions input (fault.Store why) h = h
first_command sessions input (fault.MissingBook side) h = h
first_command sessions input (fault.BadFact why) h = h

pub first_served : (sessions : ℕ) (remaining : Option (List ℕ)) (why : Fault) → IfSome remaining (λ bytes. IsTextFault bytes why) → IfSome remaining (λ bytes. IsFirstServeFault sessions bytes (Command why))
first_served sessions None why h = tt
first_served sessions (Some bytes) why h = first_command sessions bytes why h

-- ---- what is written

-- nothing, of a script that is not run
pub left_command : (sessions : ℕ) (remaining old new : Option (List ℕ)) (why : Fault) → Keeps old new → LeavesServed sessions remaining old new (Command why)
left_command sessions remaining old new fault.Write kept = tt
left_command sessions remaining old new fault.CommandLine kept = kept
left_command sessions remaining old new fault.Read kept = kept
left_command sessions remaining old new fault.TooLarge kept = kept
left_command sessions remaining old new fault.Lines kept = kept
left_command sessions remaining old new fault.ShapeDiffers kept = kept
left_command sessions remaining old new fault.Differs kept = kept
left_command sessions remaining old new fault.Unexpected kept = kept
left_command sessions remaining old new (fault.TwoPasts day cycle) kept = kept
left_command sessions remaining old new fault.Empty kept = kept
left_command sessions remaining old new fault.OutOfMemory kept = kept
left_command sessions remaining old new (fault.Message line why) kept = kept
left_command sessions remaining old new (fault.WrongKind line) kept = kept
left_command sessions remaining old new (fault.Parts line) kept = kept
left_command sessions remaining old new (fault.Day why) kept = kept
left_command sessions remaining old new (fault.Calendar why) kept = kept
left_command sessions remaining old new (fault.Script why) kept = kept
left_command sessions remaining old new (fault.Code why) kept = kept
left_command sessions remaining old new (fault.Store why) kept = kept
left_command sessions remaining old new (fault.MissingBook side) kept = kept
left_command sessions remaining old new (fault.BadFact why) kept = kept

-- how far it came and what was written of it
abbrev HasText : ℕ → List ℕ → Option (List ℕ) → Option (List ℕ) → End → Type 0
HasText sessions input old new end = (text : List ℕ) × IsServedText sessions input text end × Appends old new text

text_of_whole : (sessions : ℕ) (input : List ℕ) (old new : Option (List ℕ)) (end : End) → IsServed sessions input old new end → end ≡ Ok tt → HasText sessions input old new (Ok tt)
text_of_whole sessions input old new end served is =
    let writes = subst (λ (e : End). Ends sessions served.script.lines served.served.0 old new e) is served.served.1 in
    (writes.text, record { script = served.script; spelled = served.spelled; served = writes.over }, writes.written)

text_of_fault : (sessions : ℕ) (input : List ℕ) (old new : Option (List ℕ)) (end : End) (fault : ServeFault) → IsServed sessions input old new end → end ≡ Err fault → fault ≢ serve.Write
    → HasText sessions input old new (Err fault)
text_of_fault sessions input old new end fault served is other = by fault other (subst (λ (e : End). Ends sessions served.script.lines served.served.0 old new e) is served.served.1)
  where
    has : (why : ServeFault) → Writes sessions served.script.lines served.served.0 old new (Err why) → HasText sessions input old new (Err why)
    has why writes = (writes.text, record { script = served.script; spelled = served.spelled; served = writes.over }, writes.written)

    by : (why : ServeFault) → why ≢ serve.Write → Ends sessions served.script.lines served.served.0 old new (Err why) → HasText sessions input old new (Err why)
    by (serve.Turn why) not writes = has (serve.Turn why) writes
    by (serve.Unsettled why) not writes = has (serve.Unsettled why) writes
    by (serve.Unreconciled why) not writes = has (serve.Unreconciled why) writes
    by serve.Write not writes = absurd (not refl)
    by serve.OutOfMemory not writes = has serve.OutOfMemory writes

pub of_whole : (sessions : ℕ) (remaining old new : Option (List ℕ)) (end : End) → IfSome remaining (λ input. IsServed sessions input old new end) → end ≡ Ok tt
    → IfSome remaining (λ input. Serves sessions input old new)
of_whole sessions None old new end served is = tt
of_whole sessions (Some input) old new end served is = text_of_whole sessions input old new end served is

first_undone : (sessions : ℕ) (input : List ℕ) (old new : Option (List ℕ)) (end : End) (closed : Result (Unit {0}) StoreFault) (why : ProgramFault)
    → IsServed sessions input old new end → IsUndone end closed why → IsFirstServeFault sessions input why
first_undone sessions input old new end closed why served (inl h) =
    subst (λ (w : ProgramFault). IsFirstServeFault sessions input w) (sym h.1)
    (record {
      script = served.script;
      spelled = served.spelled;
      count = served.served.0;
      made = subst (λ (e : End). Ends sessions served.script.lines served.served.0 old new e) h.0 served.served.1;
    })
first_undone sessions input old new end closed why served (inr (inl h)) =
    let told = text_of_fault sessions input old new end h.0 served h.1 h.2 in
    subst (λ (w : ProgramFault). IsFirstServeFault sessions input w) (sym h.3) (told.0, told.1)
first_undone sessions input old new end closed why served (inr (inr h)) =
    let told = text_of_whole sessions input old new end served h.1 in
    subst (λ (w : ProgramFault). IsFirstServeFault sessions input w) (sym h.3) (told.0, told.1)

pub first_of_run : (sessions : ℕ) (remaining old new : Option (List ℕ)) (end : End) (closed : Result (Unit {0}) StoreFault) (why : ProgramFault)
    → IfSome remaining (λ input. IsServed sessions input old new end) → IsUndone end closed why → IfSome remaining (λ input. IsFirstServeFault sessions input why)
first_of_run sessions None old new end closed why served undone = tt
first_of_run sessions (Some input) old new end closed why served undone = first_undone sessions input old new end closed why served undone

if_some : {A : Type 0} {P Q : A → Type 0} (o : Option A) → ((x : A) → P x → Q x) → IfSome o P → IfSome o Q
if_some None f p = tt
if_some (Some x) f p = f x p

pub left_of_run : (sessions : ℕ) (remaining old new : Option (List ℕ)) (end : End) (closed : Result (Unit {0}) StoreFault) (why : ProgramFault)
    → IfSome remaining (λ input. IsServed sessions input old new end) → IsUndone end closed why → LeavesServed sessions remaining old new why
left_of_run sessions remaining old new end closed why served (inl h) = subst (λ (w : ProgramFault). LeavesServed sessions remaining old new w) (sym h.1) tt
left_of_run sessions remaining old new end closed why served (inr (inl h)) =
    subst (λ (w : ProgramFault). LeavesServed sessions remaining old new w) (sym h.3)
    (if_some remaining (λ input is. text_of_fault sessions input old new end h.0 is h.1 h.2) served)
left_of_run sessions remaining old new end closed why served (inr (inr h)) =
    subst (λ (w : ProgramFault). LeavesServed sessions remaining old new w) (sym h.3)
    (if_some remaining (λ input is. text_of_whole sessions input old new end is h.1) served)

-- of a dry run, whose books are always closed well, it is not told that one was not
pub may_be_told : (dry_run : Bool) (end : End) (closed : Result (Unit {0}) StoreFault) (why : ProgramFault)
    → (dry_run ≡ true → closed ≡ Ok tt) → IsUndone end closed why → MayBeTold dry_run why
may_be_told dry_run end closed why well (inl h) = subst (λ (w : ProgramFault). MayBeTold dry_run w) (sym h.1) tt
may_be_told dry_run end closed why well (inr (inl h)) = subst (λ (w : ProgramFault). MayBeTold dry_run w) (sym h.3) tt
may_be_told true end closed why well (inr (inr h)) = absurd (let no : Ok tt ≡ Err h.0 = sym (well refl) ∙ h.2 in cc)
may_be_told false end closed why well (inr (inr h)) = subst (λ (w : ProgramFault). MayBeTold false w) (sym h.3) refl

-- what is written of a script is written of the input that spells it
pub served_of : (sessions : ℕ) (script : ScriptContents) (remaining old new : Option (List ℕ)) (r : Result (End × Result (Unit {0}) StoreFault) Fault)
    → IfSome remaining (IsInputOf script) → IfOk r (λ done. IsServedFrom sessions script old new done.0)
    → IfOk r (λ done. IfSome remaining (λ bytes. IsServed sessions bytes old new done.0))
served_of sessions script remaining old new (Ok done) spelled served = if_some remaining (λ bytes is. record { script = script; spelled = is; served = served }) spelled
served_of sessions script remaining old new (Err why) spelled served = tt
