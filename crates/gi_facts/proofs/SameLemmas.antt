-- Facts are the same exactly where they are equal.
use Rattle.std.proofs.Common.{◌≡◌, ℕ, Bool, true, false, ◌&&◌, List, refl, ap, subst, nat_eq}
use Rattle.std.specs.Prelude.{Decides}
use Rattle.std.specs.Cmp.Lexicographic.{pointwise}
use Rattle.std.proofs.lemmas.Bool.Decides.{Decides-and, Decides-eqb, Decides-like}
use Rattle.std.proofs.lemmas.Slice.Eq.{slice_eq-Decides}
use Rattle.gi_day.specs.SameDay.{same_day}
use Rattle.gi_day.proofs.DayLaws.{same_day-Decides}
use Rattle.gi_pairs.specs.Direction.{place_of}
use Rattle.gi_pairs.specs.Row.{row_eq}
use Rattle.gi_pairs.specs.Table.{TableContents, table_eq}
use Rattle.gi_pairs.specs.declared.cycle_id.CycleId.{CycleId}
use Rattle.gi_pairs.specs.declared.direction.Direction.{Direction}
use Rattle.gi_pairs.specs.declared.direction.Direction.TheVariants.{IM, MI}
use Rattle.gi_pairs.specs.declared.row.Row.{Row}
use Rattle.gi_messages.specs.Lines.{line_eq, nomint_eq}
use Rattle.gi_messages.specs.declared.nomination_line.NominationLine.{NominationLine}
use Rattle.gi_messages.specs.declared.message.Nomint.{Nomint}
use Rattle.gi_processing.specs.Capacity.{contract_eq, notice_eq, same_direction}
use Rattle.gi_processing.specs.declared.contract.Contract.{Contract}
use Rattle.gi_processing.specs.declared.notice.Notice.{Notice}
use Rattle.gi_processing.specs.Rule.{rule_number}
use Rattle.gi_processing.specs.declared.rule.Rule.{Rule}
use Rattle.gi_processing.specs.declared.rule.Rule.TheVariants.{One, Two}
use Rattle.gi_facts.specs.Same.{same_cycle, same_fact, same_rule}
use Rattle.gi_facts.specs.declared.fact.Fact.{Fact}
use Rattle.gi_facts.specs.declared.fact.Fact.TheVariants.{Contracted, Noticed, Nominated, Closed, Met}

-- ---- numbers, texts and directions

numbers : (a b : ℕ) → Decides (nat_eq a b) (a ≡ b)
numbers a b = Decides-eqb a b

lists : (xs ys : List ℕ) → Decides (pointwise nat_eq xs ys) (xs ≡ ys)
lists xs ys = slice_eq-Decides numbers xs ys (pointwise nat_eq xs ys) refl

place_from : (a b : Direction) → place_of a ≡ place_of b → a ≡ b
place_from IM IM e = refl
place_from IM MI e = absurd cc
place_from MI IM e = absurd cc
place_from MI MI e = refl

directions : (a b : Direction) → Decides (same_direction a b) (a ≡ b)
directions a b = Decides-like (same_direction a b) (place_from a b) (λ e. ap place_of e) (numbers (place_of a) (place_of b))

-- ---- rows, lines and tables

rows : (a b : Row) → Decides (row_eq a b) (a ≡ b)
rows a b =
    let initiating = pointwise nat_eq a.pair.initiating b.pair.initiating in
    let matching = pointwise nat_eq a.pair.matching b.pair.matching in
    let direction = same_direction a.direction b.direction in
    let hours = pointwise nat_eq a.hours b.hours in
    let all =
    Decides-and (initiating && matching) (direction && hours)
    (Decides-and initiating matching (lists a.pair.initiating b.pair.initiating) (lists a.pair.matching b.pair.matching))
    (Decides-and direction hours (directions a.direction b.direction) (lists a.hours b.hours)) in
    Decides-like (row_eq a b) (λ h. λ i. record { pair = record { initiating = h.0.0 i; matching = h.0.1 i }; direction = h.1.0 i; hours = h.1.1 i })
    (λ e. ((ap (λ (r : Row). r.pair.initiating) e, ap (λ (r : Row). r.pair.matching) e), (ap (λ (r : Row). r.direction) e, ap (λ (r : Row). r.hours) e))) all

pub tables : (a b : TableContents) → Decides (table_eq a b) (a ≡ b)
tables a b =
    let first = nat_eq a.first b.first in
    let last = nat_eq a.last b.last in
    let same = pointwise row_eq a.rows b.rows in
    let all = Decides-and (first && last) same (Decides-and first last (numbers a.first b.first) (numbers a.last b.last)) (slice_eq-Decides rows a.rows b.rows same refl) in
    Decides-like (table_eq a b) (λ h. λ i. record { first = h.0.0 i; last = h.0.1 i; rows = h.1 i })
    (λ e. ((ap (λ (t : TableContents). t.first) e, ap (λ (t : TableContents). t.last) e), ap (λ (t : TableContents). t.rows) e)) all

same_lines : (a b : NominationLine) → Decides (line_eq a b) (a ≡ b)
same_lines a b =
    let counterparty = pointwise nat_eq a.counterparty b.counterparty in
    let direction = same_direction a.direction b.direction in
    let hours = pointwise nat_eq a.hours b.hours in
    let priority = nat_eq a.priority b.priority in
    let hours_too = Decides-and hours priority (lists a.hours b.hours) (numbers a.priority b.priority) in
    let direction_too = Decides-and direction (hours && priority) (directions a.direction b.direction) hours_too in
    let all = Decides-and counterparty (direction && (hours && priority)) (lists a.counterparty b.counterparty) direction_too in
    Decides-like (line_eq a b) (λ h. λ i. record { counterparty = h.0 i; direction = h.1.0 i; hours = h.1.1.0 i; priority = h.1.1.1 i })
    (λ e. (ap (λ (l : NominationLine). l.counterparty) e, (ap (λ (l : NominationLine). l.direction) e, (ap (λ (l : NominationLine). l.hours) e, ap (λ (l : NominationLine). l.priority) e)))) all

-- ---- how `==` compares lines

each_way : (f g : Direction → Direction → Bool) → f IM IM ≡ g IM IM → f IM MI ≡ g IM MI → f MI IM ≡ g MI IM → f MI MI ≡ g MI MI → (a b : Direction) → f a b ≡ g a b
each_way f g first second third fourth IM IM = first
each_way f g first second third fourth IM MI = second
each_way f g first second third fourth MI IM = third
each_way f g first second third fourth MI MI = fourth

-- lines by a comparison of directions
abbrev lines_by : (Direction → Direction → Bool) → List NominationLine → List NominationLine → Bool
lines_by eq = pointwise (λ x y. pointwise nat_eq x.counterparty y.counterparty && (eq x.direction y.direction && (pointwise nat_eq x.hours y.hours && nat_eq x.priority y.priority)))

abbrev documents_by : (Direction → Direction → Bool) → Nomint → Nomint → Bool
documents_by eq a b = pointwise nat_eq a.point b.point && (pointwise nat_eq a.portfolio b.portfolio && (same_day a.day b.day && (nat_eq a.version b.version && lines_by eq a.lines b.lines)))

pub documents_compare : (eq : Direction → Direction → Bool) → eq IM IM ≡ true → eq IM MI ≡ false → eq MI IM ≡ false → eq MI MI ≡ true → (a b : Nomint) → documents_by eq a b ≡ nomint_eq a b
documents_compare eq first second third fourth a b =
    let same = each_way eq same_direction first second third fourth in
    λ i. documents_by (λ x y. same x y i) a b

-- ---- what facts are made of

contracts : (a b : Contract) → Decides (contract_eq a b) (a ≡ b)
contracts a b =
    let portfolio = pointwise nat_eq a.portfolio b.portfolio in
    let day = same_day a.day b.day in
    let direction = same_direction a.direction b.direction in
    let firm = nat_eq a.firm b.firm in
    let interruptible = nat_eq a.interruptible b.interruptible in
    let numbers_too = Decides-and firm interruptible (numbers a.firm b.firm) (numbers a.interruptible b.interruptible) in
    let direction_too = Decides-and direction (firm && interruptible) (directions a.direction b.direction) numbers_too in
    let day_too = Decides-and day (direction && (firm && interruptible)) (same_day-Decides a.day b.day) direction_too in
    let all = Decides-and portfolio (day && (direction && (firm && interruptible))) (lists a.portfolio b.portfolio) day_too in
    Decides-like (contract_eq a b) (λ h. λ i. record { portfolio = h.0 i; day = h.1.0 i; direction = h.1.1.0 i; firm = h.1.1.1.0 i; interruptible = h.1.1.1.1 i })
    (λ e. (ap (λ (c : Contract). c.portfolio) e, (ap (λ (c : Contract). c.day) e, (ap (λ (c : Contract). c.direction) e, (ap (λ (c : Contract). c.firm) e, ap (λ (c : Contract). c.interruptible) e))))) all

notices : (a b : Notice) → Decides (notice_eq a b) (a ≡ b)
notices a b =
    let day = same_day a.day b.day in
    let direction = same_direction a.direction b.direction in
    let first = nat_eq a.first b.first in
    let last = nat_eq a.last b.last in
    let firm = nat_eq a.firm b.firm in
    let interruptible = nat_eq a.interruptible b.interruptible in
    let numbers_too = Decides-and firm interruptible (numbers a.firm b.firm) (numbers a.interruptible b.interruptible) in
    let last_too = Decides-and last (firm && interruptible) (numbers a.last b.last) numbers_too in
    let first_too = Decides-and first (last && (firm && interruptible)) (numbers a.first b.first) last_too in
    let direction_too = Decides-and direction (first && (last && (firm && interruptible))) (directions a.direction b.direction) first_too in
    let all = Decides-and day (direction && (first && (last && (firm && interruptible)))) (same_day-Decides a.day b.day) direction_too in
    Decides-like (notice_eq a b) (λ h. λ i. record { day = h.0 i; direction = h.1.0 i; first = h.1.1.0 i; last = h.1.1.1.0 i; firm = h.1.1.1.1.0 i; interruptible = h.1.1.1.1.1 i })
    (λ e. (ap (λ (n : Notice). n.day) e, (ap (λ (n : Notice). n.direction) e, (ap (λ (n : Notice). n.first) e, (ap (λ (n : Notice). n.last) e, (ap (λ (n : Notice). n.firm) e, ap (λ (n : Notice). n.interruptible) e)))))) all

documents : (a b : Nomint) → Decides (nomint_eq a b) (a ≡ b)
documents a b =
    let point = pointwise nat_eq a.point b.point in
    let portfolio = pointwise nat_eq a.portfolio b.portfolio in
    let day = same_day a.day b.day in
    let version = nat_eq a.version b.version in
    let lines = pointwise line_eq a.lines b.lines in
    let version_too = Decides-and version lines (numbers a.version b.version) (slice_eq-Decides same_lines a.lines b.lines lines refl) in
    let day_too = Decides-and day (version && lines) (same_day-Decides a.day b.day) version_too in
    let portfolio_too = Decides-and portfolio (day && (version && lines)) (lists a.portfolio b.portfolio) day_too in
    let all = Decides-and point (portfolio && (day && (version && lines))) (lists a.point b.point) portfolio_too in
    Decides-like (nomint_eq a b) (λ h. λ i. record { point = h.0 i; portfolio = h.1.0 i; day = h.1.1.0 i; version = h.1.1.1.0 i; lines = h.1.1.1.1 i })
    (λ e. (ap (λ (m : Nomint). m.point) e, (ap (λ (m : Nomint). m.portfolio) e, (ap (λ (m : Nomint). m.day) e, (ap (λ (m : Nomint). m.version) e, ap (λ (m : Nomint). m.lines) e))))) all

pub cycles : (a b : CycleId) → Decides (same_cycle a b) (a ≡ b)
cycles a b =
    let day = same_day a.day b.day in
    let number = nat_eq a.cycle b.cycle in
    let all = Decides-and day number (same_day-Decides a.day b.day) (numbers a.cycle b.cycle) in
    Decides-like (same_cycle a b) (λ h. λ i. record { day = h.0 i; cycle = h.1 i }) (λ e. (ap (λ (id : CycleId). id.day) e, ap (λ (id : CycleId). id.cycle) e)) all

pub same_cycle-is : (a b : CycleId) → same_cycle a b ≡ true → a ≡ b
same_cycle-is a b is = (cycles a b).0 is

pub same_cycle-self : (a : CycleId) → same_cycle a a ≡ true
same_cycle-self a = (cycles a a).1 refl

rule_from : (a b : Rule) → rule_number a ≡ rule_number b → a ≡ b
rule_from One One e = refl
rule_from One Two e = absurd cc
rule_from Two One e = absurd cc
rule_from Two Two e = refl

pub same_rules : (a b : Rule) → Decides (same_rule a b) (a ≡ b)
same_rules a b = Decides-like (same_rule a b) (rule_from a b) (λ e. ap rule_number e) (numbers (rule_number a) (rule_number b))

-- ---- facts

abbrev Parts : Fact → Fact → Type 0
Parts (Contracted a) (Contracted b) = a ≡ b
Parts (Noticed a) (Noticed b) = a ≡ b
Parts (Nominated a) (Nominated b) = a ≡ b
Parts (Closed a rule) (Closed b other) = (a ≡ b) × (rule ≡ other)
Parts (Met a peer) (Met b other) = (a ≡ b) × (peer ≡ other)
Parts a b = ⊥

parts_refl : (a : Fact) → Parts a a
parts_refl (Contracted a) = refl
parts_refl (Noticed a) = refl
parts_refl (Nominated a) = refl
parts_refl (Closed a rule) = (refl, refl)
parts_refl (Met a peer) = (refl, refl)

parts_of : (a b : Fact) → a ≡ b → Parts a b
parts_of a b e = subst (Parts a) e (parts_refl a)

by_parts : (a b : Fact) → Parts a b → a ≡ b
by_parts (Contracted a) (Contracted b) e = ap Contracted e
by_parts (Noticed a) (Noticed b) e = ap Noticed e
by_parts (Nominated a) (Nominated b) e = ap Nominated e
by_parts (Closed a rule) (Closed b other) e = λ i. Closed (e.0 i) (e.1 i)
by_parts (Met a peer) (Met b other) e = λ i. Met (e.0 i) (e.1 i)
by_parts a b e = absurd e

by_fact : (a b : Fact) → Decides (same_fact a b) (Parts a b)
by_fact (Contracted a) (Contracted b) = contracts a b
by_fact (Noticed a) (Noticed b) = notices a b
by_fact (Nominated a) (Nominated b) = documents a b
by_fact (Closed a rule) (Closed b other) = Decides-and (same_cycle a b) (same_rule rule other) (cycles a b) (same_rules rule other)
by_fact (Met a peer) (Met b other) = Decides-and (same_cycle a b) (table_eq peer other) (cycles a b) (tables peer other)
by_fact a b = (λ e. absurd cc, λ e. absurd e)

pub facts : (a b : Fact) → Decides (same_fact a b) (a ≡ b)
facts a b = Decides-like (same_fact a b) (by_parts a b) (parts_of a b) (by_fact a b)
