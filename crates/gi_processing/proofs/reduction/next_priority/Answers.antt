use Rattle.std.proofs.Common.{◌≡◌, ◌+◌, ◌<◌, ◌≤◌, ◌⊎◌, inl, inr, ◌∙◌, All, ap, arith, get_or, length, subst, sym, take}
use Rattle.std.specs.Borrow.{Bor}
use Rattle.std.proofs.lemmas.List.{get_or-map, length-map, take_all}
use Rattle.std.proofs.lemmas.List.Elements.{All-more, All-weaker}
use Rattle.gi_messages.specs.declared.nomination_line.NominationLine.{NominationLine}
use Rattle.gi_processing.specs.Reduction.{HasNoneBetween, referred}
use Rattle.gi_processing.proofs.reduction.next_priority.Goals.{then-from-priority+then-priority-next, else-from-priority, else-from-priority-via-then-from-priority+else-priority-next, else-from-priority-via-else-from-priority}
use Rattle.gi_processing.proofs.reduction.next_priority.Goals as goal

-- the line at the place is the one that was read
read_is : (c : goal.Joined-from-priority) → get_or (referred c.args.lines.now) c.loop-line.line-index c.line-item.result.now ≡ c.line-item.result.now
read_is c =
    get_or-map (λ (line : Bor NominationLine). line.now) c.args.lines.now c.loop-line.line-index c.line-item.result c.line-item.result.now c.loop-line-test.true
    ∙ ap (λ (line : Bor NominationLine). line.now) (sym c.line-item.is)

none_more : (c : goal.Joined-from-priority) → c.if-from-priority.next ≤ c.loop-line.next → (c.line-item.result.now.priority < c.args.from) ⊎ (c.if-from-priority.next ≤ c.line-item.result.now.priority)
    → HasNoneBetween c.args.from c.if-from-priority.next (take (c.loop-line.line-index + 1) (referred c.args.lines.now))
none_more c less side =
    let lines = referred c.args.lines.now in
    let here : c.loop-line.line-index < length lines = omega (arith, c.loop-line-test.true, length-map c.args.lines.now (λ (line : Bor NominationLine). line.now)) in
    All-more (λ (l : NominationLine). (l.priority < c.args.from) ⊎ (c.if-from-priority.next ≤ l.priority)) lines c.loop-line.line-index c.line-item.result.now here
    (All-weaker (λ (l : NominationLine). (l.priority < c.args.from) ⊎ (c.loop-line.next ≤ l.priority)) (λ (l : NominationLine). (l.priority < c.args.from) ⊎ (c.if-from-priority.next ≤ l.priority))
    (λ l h. weaker l h) (take c.loop-line.line-index lines) c.loop-line.invariant.next)
    (subst (λ (l : NominationLine). (l.priority < c.args.from) ⊎ (c.if-from-priority.next ≤ l.priority)) (sym (read_is c)) side)
  where
    weaker : (l : NominationLine) → (l.priority < c.args.from) ⊎ (c.loop-line.next ≤ l.priority) → (l.priority < c.args.from) ⊎ (c.if-from-priority.next ≤ l.priority)
    weaker l (inl below) = inl below
    weaker l (inr above) = inr (omega (arith, less, above))

byte : (c : goal.Joined-from-priority) → c.line-item.result.now.priority < 256
byte c = search arith

-- the number does not rise, and the line is not between
stays : (c : goal.Joined-from-priority)
    → (c.args.from ≤ c.if-from-priority.next) × (c.if-from-priority.next ≤ c.loop-line.next) × ((c.line-item.result.now.priority < c.args.from) ⊎ (c.if-from-priority.next ≤ c.line-item.result.now.priority))
stays c = elim c.if-from-priority.branch [
  | then-from-priority+then-priority-next w ↦
      let is = c.from-priority.ensures in (omega (arith, w.if-from-priority, w.next-is), omega (arith, w.if-priority-next, w.next-is), inr (omega (arith, w.next-is, is)))
  | else-from-priority w ↦
      let is = c.from-priority.ensures in
      let same : c.if-from-priority.next ≤ c.loop-line.next = omega (arith, w.next-is) in
      let low : c.args.from ≤ c.if-from-priority.next = omega (arith, w.next-is, c.loop-line.invariant.low) in
      elim w.else-from-priority.branch [
        | else-from-priority-via-then-from-priority+else-priority-next v ↦ (low, same, inr (omega (arith, w.next-is, v.if-priority-next, is)))
        | else-from-priority-via-else-from-priority v ↦ (low, same, inl (omega (arith, v.if-from-priority, is)))
      ]
]

pub loop-line-preserved : goal.loop-line-preserved
loop-line-preserved c =
    let lines = referred c.args.lines.now in
    let here : c.loop-line.line-index < length lines = omega (arith, c.loop-line-test.true, length-map c.args.lines.now (λ (line : Bor NominationLine). line.now)) in
    let found = stays c in
    record {
      low = found.0;
      high = omega (arith, found.1, c.loop-line.invariant.high);
      next = none_more c found.1 found.2;
      bytes = All-more (λ (l : NominationLine). l.priority < 256) lines c.loop-line.line-index c.line-item.result.now here c.loop-line.invariant.bytes
          (subst (λ (l : NominationLine). l.priority < 256) (sym (read_is c)) (byte c));
    }

pub returns-clause-next : goal.returns-clause-next
returns-clause-next c =
    subst (HasNoneBetween c.args.from c.loop-line.next)
    (take_all c.loop-line.line-index (referred c.args.lines.now) (omega (arith, c.loop-line-test.false, length-map c.args.lines.now (λ (line : Bor NominationLine). line.now)))) c.loop-line.invariant.next

pub returns-clause-bytes : goal.returns-clause-bytes
returns-clause-bytes c =
    subst (All (λ (line : NominationLine). line.priority < 256))
    (take_all c.loop-line.line-index (referred c.args.lines.now) (omega (arith, c.loop-line-test.false, length-map c.args.lines.now (λ (line : Bor NominationLine). line.now)))) c.loop-line.invariant.bytes
