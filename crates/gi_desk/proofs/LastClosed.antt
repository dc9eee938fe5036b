-- Of legal facts the cycle of a gas day that was closed last is the one with the greatest number.
use Rattle.std.proofs.Common.{arith, ◌≡◌, ◌≤◌, ℕ, List, [], ◌∷◌, ◌++◌, Bool, true, false, cond, not, ◌||◌, nat_lt, ltb-false, Option, Some, None, refl, sym, ap, ◌∙◌, subst}
use Rattle.std.specs.List.{list_any}
use Rattle.std.specs.Option.{option_or}
use Rattle.std.proofs.lemmas.Bool.{and_parts}
use Rattle.std.proofs.lemmas.List.{append-nil, append_assoc}
use Rattle.std.proofs.lemmas.List.Folds.{list_any-append}
use Rattle.jiff_core.specs.declared.civil.date.Date.{Date}
use Rattle.gi_day.specs.Cycles.{cycle_count}
use Rattle.gi_day.specs.SameDay.{same_day}
use Rattle.gi_day.proofs.DayLaws.{same_day-Decides}
use Rattle.gi_pairs.specs.declared.cycle_id.CycleId.{CycleId}
use Rattle.gi_pairs.specs.declared.side.Side.{Side}
use Rattle.gi_desk.specs.History.{closings, is_closed, is_closing, last_closed}
use Rattle.gi_desk.specs.Judging.{unless_later}
use Rattle.gi_desk.specs.Machine.{bad_fact, bad_from, is_record, would_record}
use Rattle.gi_desk.specs.declared.outcome.Outcome.{Outcome}
use Rattle.gi_desk.specs.declared.outcome.Outcome.TheVariants.{Records, Refuses}
use Rattle.gi_desk.specs.declared.refusal.Refusal.TheVariants.{AlreadyClosed, NoSuchCycle, OutOfOrder}
use Rattle.gi_facts.specs.declared.fact.Fact.{Fact}
use Rattle.gi_facts.specs.declared.fact.Fact.TheVariants.{Contracted, Noticed, Nominated, Closed, Met}
use Rattle.gi_facts.proofs.SameLemmas.{same_cycle-is, same_cycle-self}
use Rattle.gi_desk.proofs.CycleLaws.{is_closed-last}
use Rattle.gi_desk.proofs.HistoryLaws.{closed_more}
use Rattle.gi_desk.proofs.Legality.{legal-first}
use Rattle.gi_desk.proofs.StateLaws.{is_closed-more}
use Rattle.gi_processing.specs.declared.rule.Rule.{Rule}

abbrev cycle_of : Date → ℕ → CycleId
cycle_of day number = record { day = day; cycle = number }

-- the cycle of the gas day with the greatest number of those that are closed
abbrev pub IsGreatest : Date → (CycleId → Bool) → Option ℕ → Type 0
IsGreatest day closed None = (id : CycleId) → closed id ≡ true → id.day ≡ day → ⊥
IsGreatest day closed (Some number) = (closed (cycle_of day number) ≡ true) × ((id : CycleId) → closed id ≡ true → id.day ≡ day → id.cycle ≤ number)

-- there is only one
pub one-greatest : (day : Date) (closed : CycleId → Bool) (a b : Option ℕ) → IsGreatest day closed a → IsGreatest day closed b → a ≡ b
one-greatest day closed None None p q = refl
one-greatest day closed None (Some b) p q = absurd (p (cycle_of day b) q.0 refl)
one-greatest day closed (Some a) None p q = absurd (q (cycle_of day a) p.0 refl)
one-greatest day closed (Some a) (Some b) p q =
    let below = q.1 (cycle_of day a) p.0 refl in
    let above = p.1 (cycle_of day b) q.0 refl in
    let same : a ≡ b = omega (arith, below, above) in
    ap (λ (n : ℕ). Some n) same

-- ---- one more fact

-- which cycles are closed then
closed_then : (facts : List Fact) (fact : Fact) (id : CycleId) → is_closed id (facts ++ fact ∷ []) ≡ true → (is_closed id facts ≡ false → is_closing id fact ≡ true)
unfolding is_closed
closed_then facts fact id e before = by_parts (list_any (is_closing id) facts) (is_closing id fact) (sym (list_any-append (is_closing id) facts (fact ∷ [])) ∙ e) before
  where
    by_parts : (a b : Bool) → (a || (b || false)) ≡ true → a ≡ false → b ≡ true
    by_parts true b e before = absurd cc
    by_parts false true e before = refl
    by_parts false false e before = absurd cc

-- a fact that closes none leaves all as it was
same_greatest : (day : Date) (facts : List Fact) (fact : Fact) (o : Option ℕ) → ((id : CycleId) → is_closing id fact ≡ true → id.day ≡ day → ⊥)
    → IsGreatest day (λ id. is_closed id facts) o → IsGreatest day (λ id. is_closed id (facts ++ fact ∷ [])) o
same_greatest day facts fact None none greatest = λ id closed of.
    by_before id closed of (is_closed id facts) refl
  where
    by_before : (id : CycleId) → is_closed id (facts ++ fact ∷ []) ≡ true → id.day ≡ day → (b : Bool) → is_closed id facts ≡ b → ⊥
    by_before id closed of true before = greatest id before of
    by_before id closed of false before = none id (closed_then facts fact id closed before) of
same_greatest day facts fact (Some number) none greatest = (
  is_closed-more (cycle_of day number) facts (fact ∷ []) greatest.0,
  λ id closed of. by_before id closed of (is_closed id facts) refl,
)
  where
    by_before : (id : CycleId) → is_closed id (facts ++ fact ∷ []) ≡ true → id.day ≡ day → (b : Bool) → is_closed id facts ≡ b → id.cycle ≤ number
    by_before id closed of true before = greatest.1 id before of
    by_before id closed of false before = absurd (none id (closed_then facts fact id closed before) of)

-- no closing goes below the one before it
order_by : (beyond closed : Bool) (cycle : ℕ) (last : Option ℕ) (next : Outcome)
    → is_record (cond beyond (Refuses NoSuchCycle) (cond closed (Refuses AlreadyClosed) (unless_later cycle last next))) ≡ true → (number : ℕ) → last ≡ Some number → number ≤ cycle
order_by true closed cycle last next e number is = absurd cc
order_by false true cycle last next e number is = absurd cc
order_by false false cycle None next e number is = absurd cc
order_by false false cycle (Some last) next e number is =
    let same : last ≡ number = cc in
    let above = by_test (nat_lt cycle last) refl e in
    omega (arith, same, above)
  where
    by_test : (b : Bool) → nat_lt cycle last ≡ b → is_record (cond b (Refuses (OutOfOrder last)) next) ≡ true → last ≤ cycle
    by_test true is e = absurd cc
    by_test false is e = ltb-false cycle last is

recorded-order : (side : Side) (point : List ℕ) (before : List Fact) (id : CycleId) (rule : Rule) → would_record side point before (Closed id rule) ≡ true
    → (number : ℕ) → last_closed id.day before ≡ Some number → number ≤ id.cycle
recorded-order side point before id rule e =
    order_by (not (nat_lt id.cycle (cycle_count id.day))) (is_closed id before) id.cycle (last_closed id.day before) (Records (Closed id rule)) e

-- so a closing is the greatest of its gas day
closing_greatest : (side : Side) (point : List ℕ) (facts : List Fact) (id : CycleId) (rule : Rule) → would_record side point facts (Closed id rule) ≡ true
    → (o : Option ℕ) → last_closed id.day facts ≡ o → IsGreatest id.day (λ other. is_closed other facts) o → IsGreatest id.day (λ other. is_closed other (facts ++ Closed id rule ∷ [])) (Some id.cycle)
closing_greatest side point facts id rule e o last greatest = (is_closed-last facts id rule, λ other closed of. by_before other closed of (is_closed other facts) refl o last greatest)
  where
    by_before : (other : CycleId) → is_closed other (facts ++ Closed id rule ∷ []) ≡ true → other.day ≡ id.day → (b : Bool) → is_closed other facts ≡ b
        → (o : Option ℕ) → last_closed id.day facts ≡ o → IsGreatest id.day (λ other. is_closed other facts) o → other.cycle ≤ id.cycle
    by_before other closed of false before o last greatest =
        let same = ap (λ (c : CycleId). c.cycle) (same_cycle-is id other (closed_then facts (Closed id rule) other closed before)) in
        omega (arith, same)
    by_before other closed of true before None last greatest = absurd (greatest other before of)
    by_before other closed of true before (Some number) last greatest =
        let below = greatest.1 other before of in
        let above = recorded-order side point facts id rule e number last in
        omega (arith, below, above)

-- the closing is of the gas day or of another one
last_of : (day : Date) (id : CycleId) (rule : Rule) (b : Bool) → same_day id.day day ≡ b → last_closed day (Closed id rule ∷ []) ≡ cond b (Some id.cycle) None
unfolding last_closed closings
last_of day id rule true e = rw e refl
last_of day id rule false e = rw e refl

closing_by : (side : Side) (point : List ℕ) (facts : List Fact) (id : CycleId) (rule : Rule) (day : Date) (b : Bool) → would_record side point facts (Closed id rule) ≡ true → same_day id.day day ≡ b
    → IsGreatest day (λ other. is_closed other facts) (last_closed day facts)
    → IsGreatest day (λ other. is_closed other (facts ++ Closed id rule ∷ [])) (option_or (cond b (Some id.cycle) None) (last_closed day facts))
closing_by side point facts id rule day true e of greatest =
    subst (λ (d : Date). IsGreatest d (λ other. is_closed other facts) (last_closed d facts) → IsGreatest d (λ other. is_closed other (facts ++ Closed id rule ∷ [])) (Some id.cycle))
    ((same_day-Decides id.day day).0 of) (λ greatest. closing_greatest side point facts id rule e (last_closed id.day facts) refl greatest) greatest
closing_by side point facts id rule day false e of greatest =
    same_greatest day facts (Closed id rule) (last_closed day facts) (λ other same is.
    let day_is : id.day ≡ day = ap (λ (c : CycleId). c.day) (same_cycle-is id other same) ∙ is in
    absurd (cc ((same_day-Decides id.day day).1 day_is, of))) greatest

no_last : (day : Date) (fact : Fact) → ((id : CycleId) → is_closing id fact ≡ true → ⊥) → last_closed day (fact ∷ []) ≡ None
unfolding last_closed closings
no_last day (Contracted contract) none = refl
no_last day (Noticed notice) none = refl
no_last day (Nominated document) none = refl
no_last day (Met id peer) none = refl
no_last day (Closed id rule) none = absurd (none id (same_cycle-self id))

-- what one more fact that would be recorded makes of it
other_more : (day : Date) (facts : List Fact) (fact : Fact) → ((id : CycleId) → is_closing id fact ≡ true → ⊥) → IsGreatest day (λ id. is_closed id facts) (last_closed day facts)
    → IsGreatest day (λ id. is_closed id (facts ++ fact ∷ [])) (last_closed day (facts ++ fact ∷ []))
other_more day facts fact none greatest =
    subst (IsGreatest day (λ id. is_closed id (facts ++ fact ∷ []))) (sym (closed_more day facts fact ∙ ap (λ (o : Option ℕ). option_or o (last_closed day facts)) (no_last day fact none)))
    (same_greatest day facts fact (last_closed day facts) (λ id is of. none id is) greatest)

greatest_more : (side : Side) (point : List ℕ) (day : Date) (facts : List Fact) (fact : Fact) → would_record side point facts fact ≡ true
    → IsGreatest day (λ id. is_closed id facts) (last_closed day facts) → IsGreatest day (λ id. is_closed id (facts ++ fact ∷ [])) (last_closed day (facts ++ fact ∷ []))
greatest_more side point day facts (Contracted contract) e greatest = other_more day facts (Contracted contract) (λ id is. absurd cc) greatest
greatest_more side point day facts (Noticed notice) e greatest = other_more day facts (Noticed notice) (λ id is. absurd cc) greatest
greatest_more side point day facts (Nominated document) e greatest = other_more day facts (Nominated document) (λ id is. absurd cc) greatest
greatest_more side point day facts (Met id peer) e greatest = other_more day facts (Met id peer) (λ id is. absurd cc) greatest
greatest_more side point day facts (Closed id rule) e greatest =
    subst (IsGreatest day (λ other. is_closed other (facts ++ Closed id rule ∷ [])))
    (sym (closed_more day facts (Closed id rule) ∙ ap (λ (o : Option ℕ). option_or o (last_closed day facts)) (last_of day id rule (same_day id.day day) refl)))
    (closing_by side point facts id rule day (same_day id.day day) e refl greatest)

greatest_from : (side : Side) (point : List ℕ) (day : Date) (before later : List Fact) → bad_from side point before later ≡ None
    → IsGreatest day (λ id. is_closed id before) (last_closed day before) → IsGreatest day (λ id. is_closed id (before ++ later)) (last_closed day (before ++ later))
greatest_from side point day before [] e greatest =
    subst (λ (facts : List Fact). IsGreatest day (λ id. is_closed id facts) (last_closed day facts)) (sym (append-nil before)) greatest
greatest_from side point day before (fact ∷ later) e greatest =
    let first = legal-first side point before fact later e in
    let recorded = (and_parts _ _ first.0).0 in
    subst (λ (facts : List Fact). IsGreatest day (λ id. is_closed id facts) (last_closed day facts)) (append_assoc before (fact ∷ []) later)
    (greatest_from side point day (before ++ fact ∷ []) later first.1 (greatest_more side point day before fact recorded greatest))

none_closed : (day : Date) → IsGreatest day (λ id. is_closed id []) (last_closed day [])
unfolding is_closed last_closed closings
none_closed day = λ id closed of. absurd cc

pub last-greatest : (side : Side) (point : List ℕ) (day : Date) (facts : List Fact) → bad_fact side point facts ≡ None → IsGreatest day (λ id. is_closed id facts) (last_closed day facts)
unfolding bad_fact
last-greatest side point day facts e = greatest_from side point day [] facts e (none_closed day)
