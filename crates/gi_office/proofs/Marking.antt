-- What a mark is answered, and what a turn tells of it.
use Rattle.std.proofs.Common.{◌≡◌, ◌↔◌, ◌⊎◌, inl, inr, ℕ, ◌+◌, List, slice_get, Bool, true, false, cond, nat_eq, Option, None, Some, Result, Ok, Err, refl, sym, ap, subst}
use Rattle.gi_pairs.specs.declared.side.Side.{Side}
use Rattle.gi_facts.specs.Same.{same_fact}
use Rattle.gi_facts.specs.declared.fact.Fact.{Fact}
use Rattle.gi_desk.specs.Judging.{if_same, marked}
use Rattle.gi_desk.specs.Machine.{DeskState, answer_of, outcome, reply, unless_full}
use Rattle.gi_desk.specs.declared.call.Call.TheVariants.{MarkSaved}
use Rattle.gi_desk.specs.declared.outcome.Outcome.{Outcome}
use Rattle.gi_desk.specs.declared.outcome.Outcome.TheVariants.{Records, RepeatsNomination, RepeatsMeeting, RepeatsPart, Keeps, Saves, Resends, Stops, Refuses}
use Rattle.gi_desk.specs.declared.refusal.Refusal.{Refusal}
use Rattle.gi_desk.specs.declared.refusal.Refusal.TheVariants as refusals
use Rattle.gi_desk.specs.declared.reply.Answer.{Answer}
use Rattle.gi_desk.specs.declared.reply.Answer.TheVariants as answers
use Rattle.gi_office.specs.Entering.{IsAnswered}
use Rattle.gi_office.specs.Keeping.{IsFull, SeatState}
use Rattle.gi_office.specs.Saving.{IsRefused, Marks, by_answer, turn_of}
use Rattle.gi_office.specs.declared.office_fault.OfficeFault.{OfficeFault}
use Rattle.gi_office.specs.declared.office_fault.OfficeFault.TheVariants.{SeatFull}
use Rattle.gi_office.specs.declared.receipt.Receipt.{Receipt}

-- the fact of this number is saved, or the call is refused
abbrev IsMark : ℕ → Outcome → Type 0
IsMark n (Records fact) = ⊥
IsMark n (RepeatsNomination m) = ⊥
IsMark n (RepeatsMeeting m) = ⊥
IsMark n (RepeatsPart m) = ⊥
IsMark n (Keeps id part) = ⊥
IsMark n (Saves m) = m ≡ n
IsMark n (Resends id) = ⊥
IsMark n Stops = ⊥
IsMark n (Refuses refusal) = Unit {0}

either_mark : (n : ℕ) (b : Bool) (x y : Outcome) → IsMark n x → IsMark n y → IsMark n (cond b x y)
either_mark n true x y p q = p
either_mark n false x y p q = q

same_mark : (n : ℕ) (fact : Fact) (next : Option Fact) → IsMark n (if_same n fact next)
same_mark n fact None = tt
same_mark n fact (Some next) = either_mark n (same_fact next fact) (Saves n) (Refuses refusals.OtherFact) refl tt

full_mark : (history : List Fact) (n : ℕ) (o : Outcome) → IsMark n o → IsMark n (unless_full history o)
full_mark history n (Records fact) is = absurd is
full_mark history n (RepeatsNomination m) is = absurd is
full_mark history n (RepeatsMeeting m) is = absurd is
full_mark history n (RepeatsPart m) is = absurd is
full_mark history n (Keeps id part) is = absurd is
full_mark history n (Saves m) is = is
full_mark history n (Resends id) is = absurd is
full_mark history n Stops is = absurd is
full_mark history n (Refuses refusal) is = tt

is_mark : (side : Side) (s : DeskState) (n : ℕ) (fact : Fact) → IsMark n (outcome side s (MarkSaved n fact))
unfolding outcome
is_mark side s n fact =
    let next = either_mark n (nat_eq n (s.saved + 1)) (if_same n fact (slice_get s.facts s.saved)) (Refuses (refusals.NotNext (s.saved + 1))) (same_mark n fact (slice_get s.facts s.saved)) tt in
    either_mark n s.halted (Refuses refusals.Halted) (unless_full s.facts (marked s.facts s.saved n fact)) tt (full_mark s.facts n (marked s.facts s.saved n fact) next)

abbrev IsToldMark : ℕ → Answer → Type 0
IsToldMark n answer = (answer ≡ answers.Saved n) ⊎ ((refusal : Refusal) × (answer ≡ answers.Refused refusal))

told_mark : (s : DeskState) (n : ℕ) (o : Outcome) → IsMark n o → IsToldMark n (answer_of s o)
told_mark s n (Records fact) is = absurd is
told_mark s n (RepeatsNomination m) is = absurd is
told_mark s n (RepeatsMeeting m) is = absurd is
told_mark s n (RepeatsPart m) is = absurd is
told_mark s n (Keeps id part) is = absurd is
told_mark s n (Saves m) is = inl (ap answers.Saved is)
told_mark s n (Resends id) is = absurd is
told_mark s n Stops is = absurd is
told_mark s n (Refuses refusal) is = inr (refusal, refl)

mark_answer : (side : Side) (s : DeskState) (n : ℕ) (fact : Fact) → IsToldMark n ((reply side s (MarkSaved n fact)).answer)
unfolding reply
mark_answer side s n fact = told_mark s n (outcome side s (MarkSaved n fact)) (is_mark side s n fact)

abbrev failed : OfficeFault → Result Receipt OfficeFault
failed fault = Err fault

refused : (old : SeatState) (fault : OfficeFault) (new : SeatState) → (failed fault ≡ failed SeatFull) ↔ IsFull old → new ≡ old → IsRefused old fault new
refused old fault new full same = (same, (λ e. full.0 (ap failed e), λ f. let e = full.1 f in cc))

pub marks : (side : Side) (n : ℕ) (fact : Fact) (old : SeatState) (answer : Result Receipt OfficeFault) (new : SeatState) → IsAnswered side old (MarkSaved n fact) answer new
    → Marks side n fact old (turn_of answer) new
marks side n fact old (Err fault) new is = refused old fault new is.full is.gives
marks side n fact old (Ok receipt) new is =
    let from = is.gives.0 in
    let told : IsToldMark n receipt.reply.answer = subst (IsToldMark n) (ap (λ (r : Receipt). r.reply.answer) (sym from.2)) (mark_answer side from.0.desk n fact) in
    elim told [
      | inl saved ↦ subst (λ a. Marks side n fact old (by_answer receipt a) new) (sym saved) (from, is.gives.1, saved)
      | inr other ↦ subst (λ a. Marks side n fact old (by_answer receipt a) new) (sym other.1) (receipt, from, is.gives.1, other.1)
    ]
