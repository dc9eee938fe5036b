-- Facts that are recorded again one after the other.
use Rattle.std.proofs.Common.{◌≡◌, ◌+◌, ℕ, List, [], ◌∷◌, ◌++◌, length, append-nil, Bool, true, false, cond, Option, Some, None, Result, Err, refl, sym, ap, subst, ◌∙◌, arith}
use Rattle.std.proofs.lemmas.List.{append_assoc}
use Rattle.gi_pairs.specs.declared.side.Side.{Side}
use Rattle.gi_desk.specs.Machine.{BeginsWell, DeskState, IsReplayed, bad_fact, bad_from, kept_after, may_follow}
use Rattle.gi_desk.specs.declared.replay_fault.ReplayFault.{ReplayFault}
use Rattle.gi_desk.specs.declared.replay_fault.ReplayFault.TheVariants.{BadFact, OutOfMemory}
use Rattle.gi_facts.specs.declared.fact.Fact.{Fact}
use Rattle.gi_facts.specs.declared.fact.Fact.TheVariants.{Closed, Contracted, Met, Nominated, Noticed}
use Rattle.gi_desk.proofs.Legality.{legal-first, legal-joined, legal-next}

-- one more that may follow
pub followed : (side : Side) (point : List ℕ) (facts : List Fact) (s : DeskState) (fact : Fact) → bad_fact side point facts ≡ None → s.point ≡ point → s.facts ≡ facts
    → may_follow side s.point s.facts fact ≡ true → bad_fact side point (facts ++ fact ∷ []) ≡ None
unfolding bad_fact
followed side point facts s fact legal point_is facts_is may =
    let follows : may_follow side point facts fact ≡ true = (λ t. may_follow side (sym point_is t) (sym facts_is t) fact) ∙ may in
    legal-joined side point [] facts (fact ∷ []) legal (legal-next side point facts fact [] follows refl)

not_may : (b : Bool) (next : Option ℕ) (number : ℕ) → b ≡ false → cond b next (Some number) ≡ Some number
not_may true next number never = absurd cc
not_may false next number never = refl

may_so : (b : Bool) (next : Option ℕ) (number : ℕ) → b ≡ true → cond b next (Some number) ≡ next
may_so true next number does = refl
may_so false next number does = absurd cc

-- the first that may not follow is the bad one
first-bad : (side : Side) (point : List ℕ) (before facts : List Fact) (fact : Fact) (later : List Fact) → bad_from side point before facts ≡ None
    → may_follow side point (before ++ facts) fact ≡ false → bad_from side point before (facts ++ fact ∷ later) ≡ Some (length (before ++ facts) + 1)
first-bad side point before [] fact later legal never =
    let here : may_follow side point before fact ≡ false = subst (λ (all : List Fact). may_follow side point all fact ≡ false) (append-nil before) never in
    not_may (may_follow side point before fact) (bad_from side point (before ++ fact ∷ []) later) (length before + 1) here
    ∙ ap (λ (all : List Fact). Some (length all + 1)) (sym (append-nil before))
first-bad side point before (x ∷ facts) fact later legal never =
    let first = legal-first side point before x facts legal in
    let joined = append_assoc before (x ∷ []) facts in
    may_so (may_follow side point before x) (bad_from side point (before ++ x ∷ []) (facts ++ fact ∷ later)) (length before + 1) first.0
    ∙ first-bad side point (before ++ x ∷ []) facts fact later first.1 (subst (λ (all : List Fact). may_follow side point all fact ≡ false) (sym joined) never)
    ∙ ap (λ (all : List Fact). Some (length all + 1)) joined

pub refused_so : (side : Side) (point : List ℕ) (facts : List Fact) (s : DeskState) (fact : Fact) (later all : List Fact) (n : ℕ) → bad_fact side point facts ≡ None
    → s.point ≡ point → s.facts ≡ facts → may_follow side s.point s.facts fact ≡ false → n ≡ length s.facts + 1 → facts ++ fact ∷ later ≡ all → bad_fact side point all ≡ Some n
unfolding bad_fact
refused_so side point facts s fact later all n legal point_is facts_is never n_is all_is =
    let here : may_follow side point facts fact ≡ false = (λ t. may_follow side (sym point_is t) (sym facts_is t) fact) ∙ never in
    let number : length facts + 1 ≡ n = ap (λ (fs : List Fact). length fs + 1) (sym facts_is) ∙ sym n_is in
    ap (λ (fs : List Fact). bad_from side point [] fs) (sym all_is) ∙ first-bad side point [] facts fact later legal here ∙ ap Some number

pub refused_as : (side : Side) (point : List ℕ) (facts : List Fact) (r : Result DeskState ReplayFault) (fault : ReplayFault) → r ≡ Err fault
    → ((n : ℕ) → fault ≡ BadFact n → bad_fact side point facts ≡ Some n) → (fault ≡ OutOfMemory → BeginsWell side point facts) → IsReplayed side point facts r
refused_as side point facts r fault is bad begins = subst (IsReplayed side point facts) (sym is) (by_fault fault bad begins)
  where
    by_fault : (fault : ReplayFault) → ((n : ℕ) → fault ≡ BadFact n → bad_fact side point facts ≡ Some n) → (fault ≡ OutOfMemory → BeginsWell side point facts) → IsReplayed side point facts (Err fault)
    by_fault (BadFact n) bad begins = bad n refl
    by_fault OutOfMemory bad begins = begins refl

-- the first of facts may follow none, where one of them may follow those before it
first_may : (side : Side) (point : List ℕ) (before : List Fact) (fact : Fact) (later : List Fact) → bad_from side point [] before ≡ None → may_follow side point before fact ≡ true
    → BeginsWell side point (before ++ fact ∷ later)
first_may side point [] fact later legal may = may
first_may side point (first ∷ before) fact later legal may = (legal-first side point [] first before legal).0

pub begins_so : (side : Side) (point : List ℕ) (facts : List Fact) (s : DeskState) (fact : Fact) (later all : List Fact) → bad_fact side point facts ≡ None
    → s.point ≡ point → s.facts ≡ facts → may_follow side s.point s.facts fact ≡ true → facts ++ fact ∷ later ≡ all → BeginsWell side point all
unfolding bad_fact
begins_so side point facts s fact later all legal point_is facts_is may all_is =
    let here : may_follow side point facts fact ≡ true = (λ t. may_follow side (sym point_is t) (sym facts_is t) fact) ∙ may in
    subst (BeginsWell side point) all_is (first_may side point facts fact later legal here)

pub nothing_left : (facts : List Fact) → length facts ≡ 0 → facts ≡ []
nothing_left [] e = refl
nothing_left (fact ∷ facts) e = absurd (omega arith)

-- where no part is kept, none is kept after a fact
pub kept_none : (fact : Fact) → kept_after fact [] ≡ []
kept_none (Contracted contract) = refl
kept_none (Noticed notice) = refl
kept_none (Nominated document) = refl
kept_none (Closed id rule) = refl
kept_none (Met id peer) = refl
