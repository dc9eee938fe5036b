-- What is known of what a part came to with those that are kept.
use Rattle.std.proofs.Common.{arith, ◌≡◌, ◌≤◌, inl, inr, List, length, Bool, true, false, cond, not, nat_lt, refl, sym, subst}
use Rattle.std.proofs.lemmas.Bool.{or_parts}
use Rattle.std.proofs.lemmas.Bool.Decides.{nat_tests}
use Rattle.std.proofs.lemmas.List.Sorted.{length_permutation}
use Rattle.gi_pairs.specs.Limits.{most_processed_rows, most_rows}
use Rattle.gi_pairs.specs.Table.{HasShapeOf, in_order}
use Rattle.gi_pairs.specs.declared.cycle_id.CycleId.{CycleId}
use Rattle.gi_pairs.specs.declared.row.Row.{Row}
use Rattle.gi_pairs.proofs.TableLaws.{in_order-permutation}
use Rattle.gi_messages.specs.Limits.{most_part_elements, most_processed_elements}
use Rattle.gi_parts.specs.Gathering.{CanKeep, IsGathered, all_confirmed, all_processed, are_too_many, gathered, go_together, is_awaiting, is_whole, joined_with, overlap, whole_of}
use Rattle.gi_parts.specs.Parts.{IsSent, parts_of}
use Rattle.gi_parts.specs.declared.gathered.Gathered.{Gathered}
use Rattle.gi_parts.specs.declared.gathered.Gathered.TheVariants.{Complete, Keep, Refused}
use Rattle.gi_parts.specs.declared.gathered.PartFault.TheVariants.{PartDiffers, PartsOverlap, TooManyRows}
use Rattle.gi_parts.specs.declared.kept_parts.KeptPart.{KeptPart}
use Rattle.gi_parts.specs.declared.part.Part.{Part}
use Rattle.gi_parts.specs.declared.part.Whole.{Whole}

-- the tables of all parts are for the hours of one of them, and have few rows
pub record IsWholeFor (part : Part) (whole : Whole) : Type 0 where
  pub hours : HasShapeOf part.processed whole.processed
  pub few : length whole.processed.rows ≤ most_processed_rows

-- it is kept itself
abbrev IsOfPart : Part → Gathered → Type 0
IsOfPart part (Complete whole) = IsWholeFor part whole
IsOfPart part (Keep one) = one ≡ part
IsOfPart part (Refused fault) = Unit {0}

few_sent : (part : Part) → IsSent part → is_whole part ≡ true → length part.processed.rows ≤ most_processed_rows
few_sent part sent whole = subst (λ (b : Bool). length part.processed.rows ≤ cond b most_processed_elements most_part_elements) whole sent.few

few_joined : (processed confirmed : List Row) → are_too_many processed confirmed ≡ false → length (in_order processed) ≤ most_processed_rows
few_joined processed confirmed e =
    let few = (or_parts (nat_lt most_processed_rows (length processed)) (nat_lt most_rows (length confirmed)) e).0 in
    let as_many = length_permutation processed (in_order processed) (in_order-permutation processed) in
    grind (arith, nat_tests, few, as_many)

joined_by : (part : Part) (processed confirmed : List Row) (overlaps many : Bool) → are_too_many processed confirmed ≡ many
    → IsOfPart part (cond overlaps (Refused PartsOverlap) (cond many (Refused TooManyRows) (Complete (whole_of part processed confirmed))))
joined_by part processed confirmed true many e = tt
joined_by part processed confirmed false true e = tt
joined_by part processed confirmed false false e = record { hours = record { first = refl; last = refl }; few = few_joined processed confirmed e }

gathered_by : (part : Part) (first last : Gathered) (whole together awaiting : Bool) → (whole ≡ true → IsOfPart part first) → IsOfPart part last
    → IsOfPart part (cond whole first (cond (not together) (Refused (PartDiffers part.number)) (cond awaiting (Keep part) last)))
gathered_by part first last true together awaiting is joined = is refl
gathered_by part first last false false awaiting is joined = tt
gathered_by part first last false true true is joined = refl
gathered_by part first last false true false is joined = joined

of_part : (id : CycleId) (kept : List KeptPart) (part : Part) → IsSent part → IsOfPart part (gathered id kept part)
of_part id kept part sent =
    let others = parts_of id kept in
    let processed = all_processed part others in
    let confirmed = all_confirmed part others in
    gathered_by part (Complete (record { processed = part.processed; confirmed = part.confirmed })) (joined_with part processed confirmed)
    (is_whole part) (go_together part others) (is_awaiting part others)
    (λ whole. record { hours = record { first = refl; last = refl }; few = few_sent part sent whole })
    (joined_by part processed confirmed (overlap processed confirmed) (are_too_many processed confirmed) refl)

-- What a part came to: tables for its hours, or that it can be kept.
abbrev pub IsKnown : CycleId → List KeptPart → Part → Gathered → Type 0
IsKnown id kept part (Complete whole) = IsWholeFor part whole
IsKnown id kept part (Keep one) = CanKeep id kept one
IsKnown id kept part (Refused fault) = Unit {0}

known_by : (id : CycleId) (kept : List KeptPart) (part : Part) (got : Gathered) → IsSent part → gathered id kept part ≡ got → IsOfPart part got → IsKnown id kept part got
known_by id kept part (Complete whole) sent is of = of
known_by id kept part (Keep one) sent is of =
    record { sent = subst IsSent (sym of) sent; awaits = subst (λ (p : Part). gathered id kept p ≡ Keep one) (sym of) is }
known_by id kept part (Refused fault) sent is of = tt

pub gathered-known : (id : CycleId) (kept : List KeptPart) (part : Part) → IsSent part → IsKnown id kept part (gathered id kept part)
gathered-known id kept part sent = known_by id kept part (gathered id kept part) sent refl (of_part id kept part sent)

-- the tables of all parts, where memory did not run out
pub whole-fits : (id : CycleId) (kept : List KeptPart) (part : Part) (whole : Whole) → IsSent part → IsGathered id kept part (Complete whole) → IsWholeFor part whole
whole-fits id kept part whole sent (inl is) = subst (IsKnown id kept part) (sym is) (gathered-known id kept part sent)
whole-fits id kept part whole sent (inr short) = absurd (let none = short.1 in cc)
