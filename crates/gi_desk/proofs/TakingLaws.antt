-- The numbers of the facts that took the nominations in force, after one more fact.
use Rattle.std.proofs.Common.{arith, ◌≡◌, ◌≤◌, ◌+◌, ℕ, List, [], ◌∷◌, ◌++◌, length, find, reverse, append-nil, append_assoc, Bool, true, false, cond, ◌||◌, ◌&&◌, nat_eq, nat_lt, Option, Some, None, refl, sym, ap, ◌∙◌, subst}
use Rattle.std.specs.Prelude.{option_map}
use Rattle.std.specs.BTreeMap.{is_at}
use Rattle.std.specs.List.{list_any}
use Rattle.std.proofs.lemmas.Bool.{and_from, and_parts, both_ways}
use Rattle.std.proofs.lemmas.Bool.Decides.{nat_tests}
use Rattle.std.proofs.lemmas.Option.{none-some, same_Some}
use Rattle.jiff_core.specs.declared.civil.date.Date.{Date}
use Rattle.gi_pairs.specs.declared.side.Side.{Side}
use Rattle.gi_messages.specs.declared.message.Nomint.{Nomint}
use Rattle.gi_nominations.specs.Book.{IsNewer, in_force, is_of}
use Rattle.gi_nominations.specs.PortfolioDay.{portfolio_day_cmp, portfolio_day_of}
use Rattle.gi_nominations.specs.declared.portfolio_day.PortfolioDay.{PortfolioDay}
use Rattle.gi_nominations.proofs.BookLaws.{in_force-appended, is_of-again, is_of-takes, nothing_in_force}
use Rattle.gi_nominations.specs.declared.verdict.Verdict.TheVariants.{Repeat}
use Rattle.gi_nominations.proofs.FiledLaws.{is_of-own}
use Rattle.gi_nominations.proofs.JudgingLaws.{verdict-repeat}
use Rattle.gi_desk.specs.History.{documents_of, is_taking, number_of}
use Rattle.gi_desk.specs.Judging.{setting_of, verdict_on}
use Rattle.gi_desk.specs.Laws.{KeepsTheHighestVersion, VersionsRise}
use Rattle.gi_desk.specs.Machine.{bad_fact, bad_from, most_facts, would_record}
use Rattle.gi_desk.specs.Takings.{AreTakings, taken_at, taking_in}
use Rattle.gi_facts.specs.declared.fact.Fact.{Fact}
use Rattle.gi_facts.specs.declared.fact.Fact.TheVariants.{Closed, Contracted, Met, Nominated, Noticed}
use Rattle.gi_desk.proofs.HistoryLaws.{same_documents, taken-more}
use Rattle.gi_desk.proofs.Legality.{legal-first, legal-recorded, legal-some, recorded-newer}
use Rattle.gi_desk.proofs.StagesKept.{number_of-last, number_of-more}
use Rattle.gi_desk.proofs.StateLaws.{any-more}

-- ---- of legal facts the versions rise

-- a nomination that was taken is not above the one in force
pub record HasAbove (facts : List Fact) (document : Nomint) : Type 0 where
  pub held : Nomint
  pub in_force : in_force document.portfolio document.day (documents_of facts) ≡ Some held
  pub above : document.version ≤ held.version

pub record AreRising (facts : List Fact) : Type 0 where
  -- what is in force was taken
  pub taken : (portfolio : List ℕ) (day : Date) (held : Nomint) → in_force portfolio day (documents_of facts) ≡ Some held → list_any (is_taking held) facts ≡ true
  pub rising : (document : Nomint) → list_any (is_taking document) facts ≡ true → HasAbove facts document

any-last : (is : Fact → Bool) (facts : List Fact) (fact : Fact) (b : Bool) → is fact ≡ b → list_any is (facts ++ fact ∷ []) ≡ (list_any is facts || b)
any-last is [] fact true e = rw e refl
any-last is [] fact false e = rw e refl
any-last is (first ∷ facts) fact b e = any_by (is first) (list_any is (facts ++ fact ∷ [])) (list_any is facts) b (any-last is facts fact b e)
  where
    any_by : (p later now last : Bool) → later ≡ (now || last) → (p || later) ≡ ((p || now) || last)
    any_by true later now last is = refl
    any_by false later now last is = is

or_first : (p q : Bool) → (p || q) ≡ true → q ≡ false → p ≡ true
or_first true q any none = refl
or_first false q any none = absurd (both_ways q none any)

or_last : (p : Bool) → (p || true) ≡ true
or_last true = refl
or_last false = refl

-- a fact that takes no nomination
no_taking : (fact : Fact) (document : Nomint) → documents_of (fact ∷ []) ≡ [] → is_taking document fact ≡ false
unfolding documents_of
no_taking (Contracted contract) document none = refl
no_taking (Noticed notice) document none = refl
no_taking (Nominated other) document none = absurd cc
no_taking (Closed id rule) document none = refl
no_taking (Met id peer) document none = refl

rising-other : (facts : List Fact) (fact : Fact) → documents_of (fact ∷ []) ≡ [] → AreRising facts → AreRising (facts ++ fact ∷ [])
rising-other facts fact none rises =
    let same = same_documents facts fact none in
    record {
      taken = λ portfolio day held e. any-more (is_taking held) facts (fact ∷ []) (rises.taken portfolio day held (ap (in_force portfolio day) (sym same) ∙ e));
      rising = λ document any.
          let before = or_first (list_any (is_taking document) facts) false (sym (any-last (is_taking document) facts fact false (no_taking fact document none)) ∙ any) refl in
          let above = rises.rising document before in
          record { held = above.held; in_force = ap (in_force document.portfolio document.day) same ∙ above.in_force; above = above.above };
    }

taking_itself : (document : Nomint) → is_taking document (Nominated document) ≡ true
taking_itself document =
    and_from (is_of document.portfolio document.day document) (nat_eq document.version document.version)
    (is_of-again document.portfolio document.day document refl refl) (grind (arith, nat_tests))

-- what is in force once one more nomination is taken
force-taken : (facts : List Fact) (document : Nomint) (portfolio : List ℕ) (day : Date) (b : Bool) → is_of portfolio day document ≡ b
    → in_force portfolio day (documents_of (facts ++ Nominated document ∷ [])) ≡ cond b (Some document) (in_force portfolio day (documents_of facts))
force-taken facts document portfolio day b is =
    ap (in_force portfolio day) (taken-more facts document) ∙ in_force-appended (documents_of facts) document portfolio day
    ∙ ap (λ (p : Bool). cond p (Some document) (in_force portfolio day (documents_of facts))) is

-- none of the facts before took the same nomination
none-took : (facts : List Fact) (document : Nomint) → AreRising facts → IsNewer (documents_of facts) document → list_any (is_taking document) facts ≡ false
none-took facts document rises newer = by_any (list_any (is_taking document) facts) refl
  where
    by_any : (b : Bool) → list_any (is_taking document) facts ≡ b → b ≡ false
    by_any false any = refl
    by_any true any =
        let found = rises.rising document any in
        let below = newer found.held found.in_force in
        let above = found.above in
        absurd (omega (arith, below, above))

taken_by : (facts : List Fact) (document held : Nomint) (portfolio : List ℕ) (day : Date) (b : Bool) → AreRising facts → is_of portfolio day document ≡ b
    → in_force portfolio day (documents_of (facts ++ Nominated document ∷ [])) ≡ Some held → list_any (is_taking held) (facts ++ Nominated document ∷ []) ≡ true
taken_by facts document held portfolio day true rises is e =
    let held_is = same_Some document held (sym (force-taken facts document portfolio day true is) ∙ e) in
    subst (λ (d : Nomint). list_any (is_taking d) (facts ++ Nominated document ∷ []) ≡ true) held_is
    (any-last (is_taking document) facts (Nominated document) true (taking_itself document) ∙ or_last (list_any (is_taking document) facts))
taken_by facts document held portfolio day false rises is e =
    any-more (is_taking held) facts (Nominated document ∷ []) (rises.taken portfolio day held (sym (force-taken facts document portfolio day false is) ∙ e))

rising_by : (facts : List Fact) (document other : Nomint) (same again : Bool) → AreRising facts → IsNewer (documents_of facts) document
    → is_of other.portfolio other.day document ≡ same → nat_eq document.version other.version ≡ again
    → (list_any (is_taking other) facts || (same && again)) ≡ true → HasAbove (facts ++ Nominated document ∷ []) other
rising_by facts document other true true rises newer is equal any = record {
  held = document;
  in_force = force-taken facts document other.portfolio other.day true is;
  above = grind (arith, nat_tests, equal);
}
rising_by facts document other true false rises newer is equal any =
    let before = rises.rising other (or_first (list_any (is_taking other) facts) false any refl) in
    let own = is_of-takes other.portfolio other.day document is in
    let held_there : in_force document.portfolio document.day (documents_of facts) ≡ Some before.held =
    (λ t. in_force (own.0 t) (own.1 t) (documents_of facts)) ∙ before.in_force in
    let below = newer before.held held_there in
    let above = before.above in
    record { held = document; in_force = force-taken facts document other.portfolio other.day true is; above = omega (arith, below, above) }
rising_by facts document other false again rises newer is equal any =
    let before = rises.rising other (or_first (list_any (is_taking other) facts) false any refl) in
    record { held = before.held; in_force = force-taken facts document other.portfolio other.day false is ∙ before.in_force; above = before.above }

rising-taken : (facts : List Fact) (document : Nomint) → IsNewer (documents_of facts) document → AreRising facts → AreRising (facts ++ Nominated document ∷ [])
rising-taken facts document newer rises = record {
  taken = λ portfolio day held. taken_by facts document held portfolio day (is_of portfolio day document) rises refl;
  rising = λ other any.
      rising_by facts document other (is_of other.portfolio other.day document) (nat_eq document.version other.version) rises newer refl refl
      (sym (any-last (is_taking other) facts (Nominated document) (is_taking other (Nominated document)) refl) ∙ any);
}

rising-recorded : (side : Side) (point : List ℕ) (facts : List Fact) (fact : Fact) → would_record side point facts fact ≡ true → AreRising facts → AreRising (facts ++ fact ∷ [])
unfolding documents_of
rising-recorded side point facts (Contracted contract) e rises = rising-other facts (Contracted contract) refl rises
rising-recorded side point facts (Noticed notice) e rises = rising-other facts (Noticed notice) refl rises
rising-recorded side point facts (Closed id rule) e rises = rising-other facts (Closed id rule) refl rises
rising-recorded side point facts (Met id peer) e rises = rising-other facts (Met id peer) refl rises
rising-recorded side point facts (Nominated document) e rises = rising-taken facts document (recorded-newer side point facts document e) rises

rising_from : (side : Side) (point : List ℕ) (before later : List Fact) → bad_from side point before later ≡ None → AreRising before → AreRising (before ++ later)
rising_from side point before [] e rises = subst AreRising (sym (append-nil before)) rises
rising_from side point before (fact ∷ later) e rises =
    let first = legal-first side point before fact later e in
    let recorded = (and_parts (would_record side point before fact) (nat_lt (length before) most_facts) first.0).0 in
    subst AreRising (append_assoc before (fact ∷ []) later)
    (rising_from side point (before ++ fact ∷ []) later first.1 (rising-recorded side point before fact recorded rises))

rising-none : AreRising []
unfolding documents_of
rising-none = record {
  taken = λ portfolio day held e. absurd (none-some held (sym (nothing_in_force portfolio day) ∙ e));
  rising = λ document any. absurd cc;
}

pub legal-rising : (side : Side) (point : List ℕ) (facts : List Fact) → bad_fact side point facts ≡ None → AreRising facts
unfolding bad_fact
legal-rising side point facts e = rising_from side point [] facts e rising-none

any-within : (is : Fact → Bool) (before after : List Fact) (fact : Fact) → is fact ≡ true → list_any is (before ++ fact ∷ after) ≡ true
any-within is [] after fact e = ap (λ (b : Bool). b || list_any is after) e
any-within is (first ∷ before) after fact e = by_first (is first) (any-within is before after fact e)
  where
    by_first : (b : Bool) → list_any is (before ++ fact ∷ after) ≡ true → (b || list_any is (before ++ fact ∷ after)) ≡ true
    by_first true any = refl
    by_first false any = any

-- what is in force has the highest version of all that were taken
pub highest-version : KeepsTheHighestVersion
highest-version side point before after document held legal e =
    let facts = before ++ Nominated document ∷ after in
    let found = (legal-rising side point facts legal).rising document (any-within (is_taking document) before after (Nominated document) (taking_itself document)) in
    subst (λ (d : Nomint). document.version ≤ d.version) (same_Some found.held held (sym found.in_force ∙ e)) found.above

-- and a nomination that is taken after another one of its portfolio and gas day has a higher version
pub versions-rise : VersionsRise
versions-rise side point before between after document later legal of =
    let facts = before ++ Nominated document ∷ between in
    let all : bad_fact side point (facts ++ Nominated later ∷ after) ≡ None =
    subst (λ (fs : List Fact). bad_fact side point fs ≡ None) (sym (append_assoc before (Nominated document ∷ between) (Nominated later ∷ after))) legal in
    let newer = recorded-newer side point facts later (legal-recorded side point facts (Nominated later) after all) in
    let found = (legal-rising side point facts (legal-some side point facts (Nominated later ∷ after) all)).rising document
    (any-within (is_taking document) before between (Nominated document) (taking_itself document)) in
    let own = is_of-takes document.portfolio document.day later of in
    let below = newer found.held ((λ t. in_force (own.0 t) (own.1 t) (documents_of facts)) ∙ found.in_force) in
    let above = found.above in
    omega (arith, below, above)

-- ---- the numbers

-- no nomination is in force of no facts
pub takings-none : (facts : List Fact) (entries : List (PortfolioDay × ℕ)) → facts ≡ [] → entries ≡ [] → AreTakings facts entries
unfolding documents_of
takings-none facts entries none no_number key =
    ap (λ (es : List (PortfolioDay × ℕ)). taking_in es key) no_number
    ∙ sym (ap (option_map (taken_at facts)) (ap (λ (fs : List Fact). in_force key.portfolio key.day (documents_of fs)) none ∙ nothing_in_force key.portfolio key.day))

-- the number of what was in force stays with more facts
numbers-stay : (facts more : List Fact) (portfolio : List ℕ) (day : Date) (o : Option Nomint) → AreRising facts → in_force portfolio day (documents_of facts) ≡ o
    → option_map (taken_at facts) o ≡ option_map (taken_at (facts ++ more)) o
numbers-stay facts more portfolio day None rises is = refl
numbers-stay facts more portfolio day (Some held) rises is = ap (λ (n : ℕ). Some n) (sym (number_of-more (is_taking held) facts more (rises.taken portfolio day held is)))

-- a fact that takes no nomination changes none
pub takings-other : (facts : List Fact) (fact : Fact) (entries : List (PortfolioDay × ℕ)) → documents_of (fact ∷ []) ≡ [] → AreRising facts
    → AreTakings facts entries → AreTakings (facts ++ fact ∷ []) entries
takings-other facts fact entries none rises numbers key =
    numbers key ∙ numbers-stay facts (fact ∷ []) key.portfolio key.day (in_force key.portfolio key.day (documents_of facts)) rises refl
    ∙ ap (λ (documents : List Nomint). option_map (taken_at (facts ++ fact ∷ [])) (in_force key.portfolio key.day documents)) (sym (same_documents facts fact none))

-- what a map has once a number is put under a portfolio and a gas day, or is taken out there
abbrev pub Puts : List (PortfolioDay × ℕ) → List (PortfolioDay × ℕ) → PortfolioDay → Option ℕ → Type 0
Puts old new at number = (key : PortfolioDay) → taking_in new key ≡ cond (is_at (portfolio_day_cmp at) key) number (taking_in old key)

put-here : (old new : List (PortfolioDay × ℕ)) (document : Nomint) (number : Option ℕ) (key : PortfolioDay) (b : Bool) → Puts old new (portfolio_day_of document) number
    → is_of key.portfolio key.day document ≡ b → taking_in new key ≡ cond b number (taking_in old key)
put-here old new document number key b puts is = puts key ∙ ap (λ (p : Bool). cond p number (taking_in old key)) (is_of-own key document ∙ is)

-- the number of one more nomination
pub takings-taken : (facts : List Fact) (document : Nomint) (number : ℕ) (old new : List (PortfolioDay × ℕ)) → AreRising facts → IsNewer (documents_of facts) document
    → AreTakings facts old → Puts old new (portfolio_day_of document) (Some number) → number ≡ length facts + 1 → AreTakings (facts ++ Nominated document ∷ []) new
takings-taken facts document number old new rises newer numbers puts number_is key = by_key (is_of key.portfolio key.day document) refl
  where
    now : List Fact
    now = facts ++ Nominated document ∷ []

    by_key : (b : Bool) → is_of key.portfolio key.day document ≡ b → taking_in new key ≡ option_map (taken_at now) (in_force key.portfolio key.day (documents_of now))
    by_key true is =
        let last = number_of-last (is_taking document) facts (Nominated document) (none-took facts document rises newer) (taking_itself document) in
        put-here old new document (Some number) key true puts is ∙ ap (λ (n : ℕ). Some n) (number_is ∙ sym last)
        ∙ ap (option_map (taken_at now)) (sym (force-taken facts document key.portfolio key.day true is))
    by_key false is =
        put-here old new document (Some number) key false puts is ∙ numbers key
        ∙ numbers-stay facts (Nominated document ∷ []) key.portfolio key.day (in_force key.portfolio key.day (documents_of facts)) rises refl
        ∙ ap (option_map (taken_at now)) (sym (force-taken facts document key.portfolio key.day false is))

-- a number that is put where no nomination is in force, and taken out again
pub takings-back : (facts : List Fact) (document : Nomint) (number : ℕ) (old put new : List (PortfolioDay × ℕ)) → in_force document.portfolio document.day (documents_of facts) ≡ None
    → AreTakings facts old → Puts old put (portfolio_day_of document) (Some number) → Puts put new (portfolio_day_of document) None → AreTakings facts new
takings-back facts document number old put new absent numbers puts removes key = by_key (is_of key.portfolio key.day document) refl
  where
    by_key : (b : Bool) → is_of key.portfolio key.day document ≡ b → taking_in new key ≡ option_map (taken_at facts) (in_force key.portfolio key.day (documents_of facts))
    by_key true is =
        let own = is_of-takes key.portfolio key.day document is in
        put-here put new document None key true removes is ∙ ap (option_map (taken_at facts)) (sym absent ∙ (λ t. in_force (own.0 t) (own.1 t) (documents_of facts)))
    by_key false is = put-here put new document None key false removes is ∙ put-here old put document (Some number) key false puts is ∙ numbers key

-- ---- a repeat has the number of the nomination in force

same_taking : (held document : Nomint) → held.portfolio ≡ document.portfolio → held.day ≡ document.day → document.version ≡ held.version → (fact : Fact) → is_taking held fact ≡ is_taking document fact
same_taking held document portfolio day version (Contracted contract) = refl
same_taking held document portfolio day version (Noticed notice) = refl
same_taking held document portfolio day version (Nominated other) = λ t. is_of (portfolio t) (day t) other && nat_eq other.version (sym version t)
same_taking held document portfolio day version (Closed id rule) = refl
same_taking held document portfolio day version (Met id peer) = refl

find_passes : {X : Type 0} (p : X → Bool) (xs : List X) (x : X) → find p xs ≡ Some x → p x ≡ true
find_passes p [] x e = absurd (none-some x e)
find_passes p (y ∷ ys) x e = by_first (p y) refl (find_passes p ys x) e
  where
    by_first : (b : Bool) → p y ≡ b → (find p ys ≡ Some x → p x ≡ true) → cond b (Some y) (find p ys) ≡ Some x → p x ≡ true
    by_first true is rest found = subst (λ z. p z ≡ true) (same_Some y x found) is
    by_first false is rest found = rest found

force_of : (portfolio : List ℕ) (day : Date) (documents : List Nomint) (held : Nomint) → in_force portfolio day documents ≡ Some held → is_of portfolio day held ≡ true
unfolding in_force
force_of portfolio day documents held e = find_passes (is_of portfolio day) (reverse documents) held e

pub repeat-read : (point : List ℕ) (facts : List Fact) (document : Nomint) (takings : List (PortfolioDay × ℕ)) → AreTakings facts takings → verdict_on point facts document ≡ Repeat
    → taking_in takings (portfolio_day_of document) ≡ Some (number_of (is_taking document) facts)
repeat-read point facts document takings numbers e =
    let repeat = verdict-repeat (record { point = point; documents = documents_of facts }) (setting_of facts document) document e in
    let held = repeat.held in
    let own = is_of-takes document.portfolio document.day held (force_of document.portfolio document.day (documents_of facts) held repeat.in_force) in
    numbers (portfolio_day_of document) ∙ ap (option_map (taken_at facts)) repeat.in_force
    ∙ (λ t. Some (number_of (λ fact. same_taking held document own.0 own.1 repeat.version fact t) facts))
