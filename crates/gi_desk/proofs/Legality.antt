-- Facts that are legal: each would be recorded after those before it.
use Rattle.std.proofs.Common.{◌≡◌, ◌<◌, ◌≤◌, ◌+◌, ℕ, List, [], ◌∷◌, ◌++◌, length, take, drop, get_or, Bool, true, false, cond, nat_lt, ltb-true, length-append, arith, Option, Some, None, refl, sym, ap, subst}
use Rattle.std.proofs.lemmas.Bool.{and_from, and_parts}
use Rattle.std.proofs.lemmas.Bool.Decides.{nat_tests}
use Rattle.std.proofs.lemmas.List.{append-nil, append_assoc, take-append-drop}
use Rattle.jiff_core.specs.declared.civil.date.Date.{Date}
use Rattle.gi_pairs.specs.declared.side.Side.{Side}
use Rattle.gi_messages.specs.declared.message.Nomint.{Nomint}
use Rattle.gi_nominations.specs.Book.{IsNewer}
use Rattle.gi_nominations.specs.Judging.{IsRecordable}
use Rattle.gi_nominations.specs.declared.verdict.Verdict.{Verdict}
use Rattle.gi_nominations.specs.declared.verdict.Verdict.TheVariants as verdicts
use Rattle.gi_nominations.proofs.JudgingLaws.{verdict-recordable}
use Rattle.gi_processing.proofs.SoundLaws.{sound-contract, sound-none, sound-recordable}
use Rattle.gi_processing.specs.Capacity.{Capacity, knows}
use Rattle.gi_processing.specs.Processing.{AreSound}
use Rattle.gi_processing.specs.Recording.{is_refused, notice_refusal}
use Rattle.gi_processing.specs.declared.contract.Contract.{Contract}
use Rattle.gi_processing.specs.declared.notice.Notice.{Notice}
use Rattle.gi_processing.specs.declared.notice_fault.NoticeFault.{NoticeFault}
use Rattle.gi_processing.specs.declared.notice_fault.NoticeFault.TheVariants as notices
use Rattle.gi_desk.specs.History.{capacity_of, documents_of}
use Rattle.gi_desk.specs.Judging.{by_verdict, setting_of, unless_fault, verdict_on}
use Rattle.gi_desk.specs.declared.outcome.Outcome.TheVariants.{Records, Refuses}
use Rattle.gi_desk.specs.Machine.{bad_fact, bad_from, is_record, may_follow, most_facts, would_record}
use Rattle.gi_facts.specs.declared.fact.Fact.{Fact}
use Rattle.gi_facts.specs.declared.fact.Fact.TheVariants.{Contracted, Noticed, Nominated, Closed, Met}
use Rattle.gi_desk.specs.declared.refusal.Refusal.TheVariants as refusals
use Rattle.gi_desk.proofs.HistoryLaws.{capacity_more, documents_more, one_more}

first_may : (b : Bool) (next : Option ℕ) (number : ℕ) → cond b next (Some number) ≡ None → (b ≡ true) × (next ≡ None)
first_may true next number e = (refl, e)
first_may false next number e = absurd cc

first_then : (b : Bool) (next : Option ℕ) (number : ℕ) → b ≡ true → next ≡ None → cond b next (Some number) ≡ None
first_then true next number is e = e
first_then false next number is e = absurd cc

-- the first of legal facts may follow, and the others are legal after it
pub legal-first : (side : Side) (point : List ℕ) (before : List Fact) (fact : Fact) (later : List Fact) → bad_from side point before (fact ∷ later) ≡ None
    → (may_follow side point before fact ≡ true) × (bad_from side point (before ++ fact ∷ []) later ≡ None)
legal-first side point before fact later e =
    first_may (may_follow side point before fact) (bad_from side point (before ++ fact ∷ []) later) (length before + 1) e

pub legal-next : (side : Side) (point : List ℕ) (before : List Fact) (fact : Fact) (later : List Fact) → may_follow side point before fact ≡ true
    → bad_from side point (before ++ fact ∷ []) later ≡ None → bad_from side point before (fact ∷ later) ≡ None
legal-next side point before fact later may e =
    first_then (may_follow side point before fact) (bad_from side point (before ++ fact ∷ []) later) (length before + 1) may e

-- the parts of legal facts are legal, each after those before it
pub legal-parts : (side : Side) (point : List ℕ) (before xs ys : List Fact) → bad_from side point before (xs ++ ys) ≡ None
    → (bad_from side point before xs ≡ None) × (bad_from side point (before ++ xs) ys ≡ None)
legal-parts side point before [] ys e = (refl, subst (λ (facts : List Fact). bad_from side point facts ys ≡ None) (sym (append-nil before)) e)
legal-parts side point before (x ∷ xs) ys e =
    let first = legal-first side point before x (xs ++ ys) e in
    let rest = legal-parts side point (before ++ x ∷ []) xs ys first.1 in
    (legal-next side point before x xs first.0 rest.0, subst (λ (facts : List Fact). bad_from side point facts ys ≡ None) (append_assoc before (x ∷ []) xs) rest.1)

-- and legal parts make legal facts
pub legal-joined : (side : Side) (point : List ℕ) (before xs ys : List Fact) → bad_from side point before xs ≡ None → bad_from side point (before ++ xs) ys ≡ None
    → bad_from side point before (xs ++ ys) ≡ None
legal-joined side point before [] ys e f = subst (λ (facts : List Fact). bad_from side point facts ys ≡ None) (append-nil before) f
legal-joined side point before (x ∷ xs) ys e f =
    let first = legal-first side point before x xs e in
    legal-next side point before x (xs ++ ys) first.0
    (legal-joined side point (before ++ x ∷ []) xs ys first.1 (subst (λ (facts : List Fact). bad_from side point facts ys ≡ None) (sym (append_assoc before (x ∷ []) xs)) f))

-- of legal facts the first so many are legal
pub legal-front : (side : Side) (point : List ℕ) (facts : List Fact) (i : ℕ) → bad_fact side point facts ≡ None → bad_fact side point (take i facts) ≡ None
unfolding bad_fact
legal-front side point facts i e =
    (legal-parts side point [] (take i facts) (drop i facts) (subst (λ (all : List Fact). bad_from side point [] all ≡ None) (sym (take-append-drop i facts)) e)).0

-- legal facts are legal without the last of them
pub legal-some : (side : Side) (point : List ℕ) (facts later : List Fact) → bad_fact side point (facts ++ later) ≡ None → bad_fact side point facts ≡ None
unfolding bad_fact
legal-some side point facts later e = (legal-parts side point [] facts later e).0

-- a fact that stands among legal ones would be recorded after those before it
pub legal-recorded : (side : Side) (point : List ℕ) (before : List Fact) (fact : Fact) (later : List Fact) → bad_fact side point (before ++ fact ∷ later) ≡ None
    → would_record side point before fact ≡ true
unfolding bad_fact
legal-recorded side point before fact later e =
    let after = legal-parts side point [] before (fact ∷ later) e in
    let first = legal-first side point before fact later after.1 in
    (and_parts (would_record side point before fact) (nat_lt (length before) most_facts) first.0).0

pub legal-at : (side : Side) (point : List ℕ) (facts : List Fact) (i : ℕ) (fact : Fact) → bad_fact side point facts ≡ None → i < length facts → fact ≡ get_or facts i fact
    → would_record side point (take i facts) fact ≡ true
legal-at side point facts i fact e below is =
    legal-recorded side point (take i facts) fact [] (subst (λ (front : List Fact). bad_fact side point front ≡ None) (one_more facts i fact below is) (legal-front side point facts (i + 1) e))

-- ---- what is known of a fact that would be recorded

contract_by : (b : Bool) (fact : Fact) → is_record (cond b (Refuses refusals.TooManyPortfolios) (Records fact)) ≡ true → b ≡ false
contract_by true fact e = absurd cc
contract_by false fact e = refl

-- a contract is not refused
pub recorded-contract : (side : Side) (point : List ℕ) (before : List Fact) (contract : Contract) → would_record side point before (Contracted contract) ≡ true
    → is_refused contract (capacity_of before).contracts ≡ false
recorded-contract side point before contract e = contract_by (is_refused contract (capacity_of before).contracts) (Contracted contract) e

notice_by : (o : Option NoticeFault) (fact : Fact) → is_record (unless_fault o (Records fact)) ≡ true → o ≡ None
notice_by None fact e = refl
notice_by (Some notices.NoticeRange) fact e = absurd cc
notice_by (Some notices.PermilleRange) fact e = absurd cc
notice_by (Some notices.OutOfMemory) fact e = absurd cc

-- nor is a notice
pub recorded-notice : (side : Side) (point : List ℕ) (before : List Fact) (notice : Notice) → would_record side point before (Noticed notice) ≡ true
    → notice_refusal notice ≡ None
recorded-notice side point before notice e = notice_by (notice_refusal notice) (Noticed notice) e

nomination_by : (history : List Fact) (document : Nomint) (v : Verdict) → is_record (by_verdict history document v) ≡ true → v ≡ verdicts.Recordable
nomination_by history document verdicts.Recordable e = refl
nomination_by history document verdicts.Repeat e = absurd cc
nomination_by history document (verdicts.Refused fault) e = absurd cc

-- a nomination is recordable
pub recorded-nomination : (side : Side) (point : List ℕ) (before : List Fact) (document : Nomint) → would_record side point before (Nominated document) ≡ true
    → IsRecordable (record { point = point; documents = documents_of before }) (setting_of before document) document
recorded-nomination side point before document e =
    let first = (and_parts _ _ (and_parts _ _ (and_parts _ _ e).0).0).0 in
    verdict-recordable (record { point = point; documents = documents_of before }) (setting_of before document) document (nomination_by before document (verdict_on point before document) first)

-- and so newer than the one in force
pub recorded-newer : (side : Side) (point : List ℕ) (before : List Fact) (document : Nomint) → would_record side point before (Nominated document) ≡ true
    → IsNewer (documents_of before) document
recorded-newer side point before document e = (recorded-nomination side point before document e).newer

-- ---- the nominations of legal facts are sound

none_more : (capacity : Capacity) (documents : List Nomint) (day : Date) → AreSound capacity documents day → AreSound capacity (documents ++ []) day
none_more capacity documents day sound = subst (λ (all : List Nomint). AreSound capacity all day) (sym (append-nil documents)) sound

taken_sound : (side : Side) (point : List ℕ) (before : List Fact) (fact : Fact) (day : Date) → would_record side point before fact ≡ true
    → AreSound (capacity_of before) (documents_of before) day → AreSound (capacity_of before) (documents_of before ++ documents_of (fact ∷ [])) day
unfolding documents_of
taken_sound side point before (Contracted contract) day e sound = none_more (capacity_of before) (documents_of before) day sound
taken_sound side point before (Noticed notice) day e sound = none_more (capacity_of before) (documents_of before) day sound
taken_sound side point before (Closed id rule) day e sound = none_more (capacity_of before) (documents_of before) day sound
taken_sound side point before (Met id peer) day e sound = none_more (capacity_of before) (documents_of before) day sound
taken_sound side point before (Nominated document) day e sound =
    let recordable = recorded-nomination side point before document e in
    sound-recordable (capacity_of before) (documents_of before) day document.day document (knows document.portfolio document.day (capacity_of before).contracts)
    sound refl recordable.known refl recordable.lines

-- they stay so with a fact that would be recorded
pub sound-recorded : (side : Side) (point : List ℕ) (before : List Fact) (fact : Fact) (day : Date) → would_record side point before fact ≡ true
    → AreSound (capacity_of before) (documents_of before) day → AreSound (capacity_of (before ++ fact ∷ [])) (documents_of (before ++ fact ∷ [])) day
sound-recorded side point before fact day e sound =
    let taken = taken_sound side point before fact day e sound in
    let documents = documents_of (before ++ fact ∷ []) in
    sound-contract (capacity_of before) (capacity_of (before ++ fact ∷ [])) (capacity_of (fact ∷ [])).contracts documents day
    (ap (λ (capacity : Capacity). capacity.contracts) (capacity_more before fact))
    (subst (λ (all : List Nomint). AreSound (capacity_of before) all day) (sym (documents_more before fact)) taken)

sound_from : (side : Side) (point : List ℕ) (before later : List Fact) (day : Date) → bad_from side point before later ≡ None
    → AreSound (capacity_of before) (documents_of before) day → AreSound (capacity_of (before ++ later)) (documents_of (before ++ later)) day
sound_from side point before [] day e sound = subst (λ (facts : List Fact). AreSound (capacity_of facts) (documents_of facts) day) (sym (append-nil before)) sound
sound_from side point before (fact ∷ later) day e sound =
    let first = legal-first side point before fact later e in
    let recorded = (and_parts (would_record side point before fact) (nat_lt (length before) most_facts) first.0).0 in
    subst (λ (facts : List Fact). AreSound (capacity_of facts) (documents_of facts) day) (append_assoc before (fact ∷ []) later)
    (sound_from side point (before ++ fact ∷ []) later day first.1 (sound-recorded side point before fact day recorded sound))

pub legal-sound : (side : Side) (point : List ℕ) (facts : List Fact) (day : Date) → bad_fact side point facts ≡ None → AreSound (capacity_of facts) (documents_of facts) day
unfolding bad_fact documents_of
legal-sound side point facts day e = sound_from side point [] facts day e (sound-none (capacity_of []) day)

-- ---- more facts

-- legal facts stay legal with one more that would be recorded, where there is room
pub legal-more : (side : Side) (point : List ℕ) (facts : List Fact) (fact : Fact) → bad_fact side point facts ≡ None → would_record side point facts fact ≡ true
    → length facts < most_facts → bad_fact side point (facts ++ fact ∷ []) ≡ None
unfolding bad_fact
legal-more side point facts fact e recorded room =
    legal-joined side point [] facts (fact ∷ []) e
    (legal-next side point facts fact [] (and_from (would_record side point facts fact) (nat_lt (length facts) most_facts) recorded (grind (arith, nat_tests))) refl)

few_from : (side : Side) (point : List ℕ) (before later : List Fact) → bad_from side point before later ≡ None → length before ≤ most_facts → length (before ++ later) ≤ most_facts
few_from side point before [] e few = subst (λ (facts : List Fact). length facts ≤ most_facts) (sym (append-nil before)) few
few_from side point before (fact ∷ later) e few =
    let first = legal-first side point before fact later e in
    let room = ltb-true (length before) most_facts (and_parts (would_record side point before fact) (nat_lt (length before) most_facts) first.0).1 in
    let longer = length-append before (fact ∷ []) in
    subst (λ (facts : List Fact). length facts ≤ most_facts) (append_assoc before (fact ∷ []) later)
    (few_from side point (before ++ fact ∷ []) later first.1 (omega (arith, room, longer)))

-- legal facts are no more than a desk has
pub legal-few : (side : Side) (point : List ℕ) (facts : List Fact) → bad_fact side point facts ≡ None → length facts ≤ most_facts
unfolding bad_fact
legal-few side point facts e = few_from side point [] facts e (omega arith)
