-- What `audit` writes of both operators' books.
use Rattle.std.specs.Prelude.{◌≡◌, ◌⊎◌, ℕ, List, Option, None, Some, Ok, Err, false}
use Rattle.std.specs.Io.KnownBytes.{Appends, Keeps}
use Rattle.gi_pairs.specs.Code.{IsCode}
use Rattle.gi_pairs.specs.declared.cycle_id.CycleId.{CycleId}
use Rattle.gi_pairs.specs.declared.side.Side.TheVariants.{I, M}
use Rattle.gi_facts.specs.declared.fact.Fact.{Fact}
use Rattle.gi_desk.specs.Machine.{DeskState, bad_fact}
use Rattle.gi_audit.specs.Agreeing.{ConfirmOneQuantity}
use Rattle.gi_audit.specs.Audit.{IsAudit}
use Rattle.gi_audit.specs.JsonAudit.{IsJsonAudit}
use Rattle.gi_audit.specs.Verdict.{IsToldExactly, names_difference}
use Rattle.gi_audit.specs.declared.verdict.Verdict.{Verdict}
use Rattle.gi_audit.specs.declared.verdict.Verdict.TheVariants as told
use Rattle.gi_command_line.specs.declared.request.LineFormat.{LineFormat}
use Rattle.gi_command_line.specs.declared.request.LineFormat.TheVariants.{Text, Json}
use Rattle.gi_commands.specs.Owned.{FactsReading as Reading}
use Rattle.gi_store.specs.declared.store_fault.StoreFault.TheVariants as store
use Rattle.gi_commands.specs.Reporting.{desk_of}
use Rattle.gi_commands.specs.declared.fault.Fault.{Fault}
use Rattle.gi_commands.specs.declared.fault.Fault.TheVariants as fault

-- the audit of two desks: in lines, and as JSON lines
abbrev pub IsAuditIn : LineFormat → DeskState → DeskState → List ℕ → Verdict → Type 0
IsAuditIn Text initiating matching text verdict = IsAudit initiating matching text verdict
IsAuditIn Json initiating matching text verdict = IsJsonAudit initiating matching text verdict

-- The audit of the facts of two books, the initiating operator's and the matching one's, and its verdict. Each makes a desk.
-- Where there is no difference, the two confirm one quantity: what either has confirmed is the lower of what both froze.
-- That a cycle is agreed, that all are open, or that there is none, is told exactly where it is so.
pub record IsFactsAudit (format : LineFormat) (point : List ℕ) (initiating matching : List Fact) (text : List ℕ) (verdict : Verdict) : Type 0 where
  pub legal : bad_fact I point initiating ≡ None
  pub legal_too : bad_fact M point matching ≡ None
  pub audited : IsAuditIn format (desk_of point initiating) (desk_of point matching) text verdict
  pub told : IsToldExactly (desk_of point initiating) (desk_of point matching) verdict
  pub one_quantity : names_difference verdict ≡ false → ConfirmOneQuantity (desk_of point initiating) (desk_of point matching)

-- why facts have no audit, the first: the initiating operator's make no desk, or the matching one's do not; or memory ran
-- out
abbrev pub IsNoFactsAudit : List ℕ → List Fact → List Fact → Fault → Type 0
IsNoFactsAudit point initiating matching (fault.BadFact n) =
    (bad_fact I point initiating ≡ Some n) ⊎ ((bad_fact I point initiating ≡ None) × (bad_fact M point matching ≡ Some n))
IsNoFactsAudit point initiating matching fault.OutOfMemory = Unit {0}
IsNoFactsAudit point initiating matching _ = ⊥

-- the audit of the facts that the two books give, the initiating operator's and the matching one's
abbrev pub HasAudit : LineFormat → Reading → Reading → List ℕ → List ℕ → Verdict → Type 0
HasAudit format ours theirs point text verdict =
    (initiating matching : List Fact) × ours (Ok initiating) × theirs (Ok matching) × IsFactsAudit format point initiating matching text verdict

-- the books compare, and none of their cycles differs
abbrev pub IsDone : Verdict → Type 0
IsDone told.Agreed = Unit {0}
IsDone told.Open = Unit {0}
IsDone told.Empty = ⊥
IsDone (told.Differs id) = ⊥

-- a cycle is agreed, or all that are closed are open, and none differs; the audit is what the output has gained
abbrev pub Audits : LineFormat → Reading → Reading → List ℕ → Option (List ℕ) → Option (List ℕ) → Type 0
Audits format ours theirs point old new = (text : List ℕ) × (verdict : Verdict) × IsDone verdict × HasAudit format ours theirs point text verdict × Appends old new text

-- why two books have no audit, the first: the initiating operator's gives this fault, or it has facts and the matching
-- operator's gives it, want of memory among them; or both have facts, of which some make no desk, or memory ran out then
abbrev pub IsNoBooksAudit : Reading → Reading → List ℕ → Fault → Type 0
IsNoBooksAudit ours theirs point (fault.Store store.OutOfMemory) = ⊥
IsNoBooksAudit ours theirs point (fault.Store why) = ours (Err why) ⊎ ((initiating : List Fact) × ours (Ok initiating) × theirs (Err why))
IsNoBooksAudit ours theirs point (fault.BadFact n) =
    (initiating matching : List Fact) × ours (Ok initiating) × theirs (Ok matching) × IsNoFactsAudit point initiating matching (fault.BadFact n)
IsNoBooksAudit ours theirs point fault.OutOfMemory =
    ours (Err store.OutOfMemory) ⊎ ((initiating : List Fact) × ours (Ok initiating) × (theirs (Err store.OutOfMemory) ⊎ ((matching : List Fact) × theirs (Ok matching))))
IsNoBooksAudit ours theirs point _ = ⊥

-- or the point is no code, whatever the books are
abbrev pub IsNoAudit : Reading → Reading → List ℕ → Fault → Type 0
IsNoAudit ours theirs point (fault.Code why) = ¬ (IsCode point)
IsNoAudit ours theirs point why = IsNoBooksAudit ours theirs point why

-- the first fault: a writer fails only where there is an audit, and then books differ or close no cycle; in the words of a command memory may run out before
abbrev pub IsFirstAuditFault : LineFormat → Reading → Reading → List ℕ → Fault → Type 0
IsFirstAuditFault format ours theirs point fault.Write = (text : List ℕ) × (verdict : Verdict) × HasAudit format ours theirs point text verdict
IsFirstAuditFault format ours theirs point fault.OutOfMemory = Unit {0}
IsFirstAuditFault format ours theirs point fault.Differs = (text : List ℕ) × (id : CycleId) × HasAudit format ours theirs point text (told.Differs id)
IsFirstAuditFault format ours theirs point fault.Empty = (text : List ℕ) × HasAudit format ours theirs point text told.Empty
IsFirstAuditFault format ours theirs point why = IsNoAudit ours theirs point why

-- of books that differ, or close no cycle, the output has gained the audit; before that nothing is written
abbrev pub LeavesAudit : LineFormat → Reading → Reading → List ℕ → Option (List ℕ) → Option (List ℕ) → Fault → Type 0
LeavesAudit format ours theirs point old new fault.Write = Unit {0}
LeavesAudit format ours theirs point old new fault.Differs = (text : List ℕ) × (id : CycleId) × HasAudit format ours theirs point text (told.Differs id) × Appends old new text
LeavesAudit format ours theirs point old new fault.Empty = (text : List ℕ) × HasAudit format ours theirs point text told.Empty × Appends old new text
LeavesAudit format ours theirs point old new _ = Keeps old new
