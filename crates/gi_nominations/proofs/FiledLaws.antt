-- What a book keeps: each document under its own portfolio and gas day, and of both only one.
use Rattle.std.proofs.Common.{◌≡◌, List, [], ◌∷◌, Bool, true, false, cond, ◌&&◌, Some, None, Ordering, Less, Equal, Greater, refl, sym, ap, ◌∙◌, true≢false}
use Rattle.std.specs.BTreeMap.{insert_entry, is_at}
use Rattle.std.specs.Cmp.{IsEquivalence, IsTotalOrder, both_tied}
use Rattle.std.specs.List.{AllByRecursion}
use Rattle.std.specs.List.Sorted.{IsStrictlySortedBy}
use Rattle.std.specs.Map.{keys_of, lookup, values_of}
use Rattle.std.specs.Ordering.{eq_by_cmp, int_cmp, is_eq, match_ordering}
use Rattle.std.specs.Str.{bytes_eq}
use Rattle.std.proofs.lemmas.Bool.{and_parts}
use Rattle.std.proofs.lemmas.Cmp.{eq_by_cmp_equiv, int_cmp_total, nat_list_cmp_total, on_total, then_total}
use Rattle.std.proofs.lemmas.Map.{NonePasses, lookup-none}
use Rattle.std.proofs.lemmas.Map.Entries.{none_past_head}
use Rattle.std.proofs.lemmas.Map.Keys.{IsDistinct-from_sorted, sorted_tail}
use Rattle.std.proofs.lemmas.Map.Text.{is_eq-slice_cmp}
use Rattle.std.proofs.lemmas.Option.{same_Some}
use Rattle.std.proofs.lemmas.Slice.Eq.{bytes_eq-Decides}
use Rattle.jiff_core.specs.Date.{epoch_day}
use Rattle.gi_day.specs.SameDay.{same_day}
use Rattle.gi_day.proofs.DayLaws.{same_day-Decides}
use Rattle.gi_pairs.specs.Key.{code_cmp}
use Rattle.gi_messages.specs.declared.message.Nomint.{Nomint}
use Rattle.gi_nominations.specs.Book.{DocumentStands, in_force, is_of}
use Rattle.gi_nominations.specs.BookRepr.{IsFiled, IsOwn}
use Rattle.gi_nominations.specs.PortfolioDay.{portfolio_day_cmp, portfolio_day_of}
use Rattle.gi_nominations.specs.declared.portfolio_day.PortfolioDay.{PortfolioDay}
use Rattle.gi_nominations.proofs.BookLaws.{in_force-first, in_force-passed, nothing_in_force}

abbrev Entry : Type 0
Entry = PortfolioDay × Nomint

-- ---- the order of what nominations are for

total : IsTotalOrder portfolio_day_cmp
total = then_total (on_total (λ (p : PortfolioDay). p.portfolio) nat_list_cmp_total) (on_total (λ (p : PortfolioDay). epoch_day p.day) int_cmp_total)

equals : IsEquivalence (eq_by_cmp portfolio_day_cmp)
equals = eq_by_cmp_equiv total

tied : (a b : PortfolioDay) → is_eq (portfolio_day_cmp a b) ≡ (bytes_eq a.portfolio b.portfolio && same_day a.day b.day)
tied a b =
    sym (both_tied (bytes_eq a.portfolio b.portfolio) (same_day a.day b.day) (code_cmp a.portfolio b.portfolio) (int_cmp (epoch_day a.day) (epoch_day b.day)) (sym (is_eq-slice_cmp a.portfolio b.portfolio)) refl)

-- a document is of a portfolio and a gas day where its own are equal to them, on either side
pub is_of-own : (key : PortfolioDay) (document : Nomint) → is_eq (portfolio_day_cmp (portfolio_day_of document) key) ≡ is_of key.portfolio key.day document
is_of-own key document = tied (portfolio_day_of document) key

is_of-sought : (key : PortfolioDay) (document : Nomint) → is_eq (portfolio_day_cmp key (portfolio_day_of document)) ≡ is_of key.portfolio key.day document
is_of-sought key document = equals.symm key (portfolio_day_of document) ∙ is_of-own key document

one_key : (a b : PortfolioDay) → portfolio_day_cmp a b ≡ Equal → a ≡ b
one_key a b e =
    let both = and_parts (bytes_eq a.portfolio b.portfolio) (same_day a.day b.day) (sym (tied a b) ∙ ap is_eq e) in
    let portfolio = (bytes_eq-Decides a.portfolio b.portfolio).0 both.0 in
    let day = (same_day-Decides a.day b.day).0 both.1 in
    λ i. record { portfolio = portfolio i; day = day i }

-- ---- a look-up finds the document in force

rest_filed : (entry : Entry) (entries : List Entry) → IsFiled (entry ∷ entries) → IsFiled entries
rest_filed entry entries filed = record { own = filed.own.1; ordered = sorted_tail portfolio_day_cmp entry.0 (keys_of entries) filed.ordered }

first_of : (key : PortfolioDay) (entry : Entry) → IsOwn entry → is_eq (portfolio_day_cmp key entry.0) ≡ is_of key.portfolio key.day entry.1
first_of key entry own = ap (λ (p : PortfolioDay). is_eq (portfolio_day_cmp key p)) own ∙ is_of-sought key entry.1

-- behind the one of a portfolio and a gas day there is no other
none_behind : (key : PortfolioDay) (entry : Entry) (entries : List Entry) → IsFiled (entry ∷ entries) → is_of key.portfolio key.day entry.1 ≡ true → NonePasses (is_at (portfolio_day_cmp key)) entries
none_behind key entry entries filed of =
    none_past_head equals key entry entries (IsDistinct-from_sorted portfolio_day_cmp (keys_of (entry ∷ entries)) filed.ordered) (first_of key entry filed.own.0 ∙ of)

found_by : (key : PortfolioDay) (entry : Entry) (entries : List Entry) (b : Bool) → IsFiled (entry ∷ entries) → lookup (is_at (portfolio_day_cmp key)) entries ≡ in_force key.portfolio key.day (values_of entries)
    → is_of key.portfolio key.day entry.1 ≡ b → cond b (Some entry.1) (lookup (is_at (portfolio_day_cmp key)) entries) ≡ in_force key.portfolio key.day (values_of (entry ∷ entries))
found_by key entry entries true filed rest of =
    let none = lookup-none (is_at (portfolio_day_cmp key)) entries (none_behind key entry entries filed of) in
    sym (in_force-first key.portfolio key.day entry.1 (values_of entries) (sym rest ∙ none) of)
found_by key entry entries false filed rest other = rest ∙ sym (in_force-passed key.portfolio key.day entry.1 (values_of entries) other)

pub looked_up : (key : PortfolioDay) (entries : List Entry) → IsFiled entries → lookup (is_at (portfolio_day_cmp key)) entries ≡ in_force key.portfolio key.day (values_of entries)
looked_up key [] filed = sym (nothing_in_force key.portfolio key.day)
looked_up key (entry ∷ entries) filed =
    ap (λ b. cond b (Some entry.1) (lookup (is_at (portfolio_day_cmp key)) entries)) (first_of key entry filed.own.0)
    ∙ found_by key entry entries (is_of key.portfolio key.day entry.1) filed (looked_up key entries (rest_filed entry entries filed)) refl

-- ---- it is the only one

none_of : (key : PortfolioDay) (held : Nomint) (entries : List Entry) → AllByRecursion IsOwn entries → NonePasses (is_at (portfolio_day_cmp key)) entries
    → AllByRecursion (λ document. is_of key.portfolio key.day document ≡ true → document ≡ held) (values_of entries)
none_of key held [] own none = tt
none_of key held (entry ∷ entries) own none =
    ((λ of. absurd (true≢false (sym of ∙ sym (first_of key entry own.0) ∙ none.0))), none_of key held entries own.1 none.1)

-- all documents of the portfolio and the gas day are the one held
abbrev AreHeld : PortfolioDay → Nomint → List Entry → Type 0
AreHeld key held entries = AllByRecursion (λ document. is_of key.portfolio key.day document ≡ true → document ≡ held) (values_of entries)

sole_by : (key : PortfolioDay) (entry : Entry) (entries : List Entry) (held : Nomint) (b : Bool) → IsFiled (entry ∷ entries) → in_force key.portfolio key.day (values_of (entry ∷ entries)) ≡ Some held
    → (in_force key.portfolio key.day (values_of entries) ≡ Some held → AreHeld key held entries) → is_of key.portfolio key.day entry.1 ≡ b → AreHeld key held (entry ∷ entries)
sole_by key entry entries held true filed e rest of =
    let none = none_behind key entry entries filed of in
    let behind = sym (looked_up key entries (rest_filed entry entries filed)) ∙ lookup-none (is_at (portfolio_day_cmp key)) entries none in
    let here = sym (in_force-first key.portfolio key.day entry.1 (values_of entries) behind of) ∙ e in
    ((λ again. same_Some entry.1 held here), none_of key held entries filed.own.1 none)
sole_by key entry entries held false filed e rest other =
    ((λ of. absurd (true≢false (sym of ∙ other))), rest (sym (in_force-passed key.portfolio key.day entry.1 (values_of entries) other) ∙ e))

pub sole : (key : PortfolioDay) (entries : List Entry) (held : Nomint) → IsFiled entries → in_force key.portfolio key.day (values_of entries) ≡ Some held → AreHeld key held entries
sole key [] held filed e = tt
sole key (entry ∷ entries) held filed e =
    sole_by key entry entries held (is_of key.portfolio key.day entry.1) filed e (sole key entries held (rest_filed entry entries filed)) refl

-- ---- an insertion keeps all filed

own_by : (entry : Entry) (entries later : List Entry) (document : Nomint) (o : Ordering) → AllByRecursion IsOwn (entry ∷ entries) → AllByRecursion IsOwn later → portfolio_day_cmp (portfolio_day_of document) entry.0 ≡ o
    → AllByRecursion IsOwn (match_ordering o ((portfolio_day_of document, document) ∷ entry ∷ entries) ((entry.0, document) ∷ entries) (entry ∷ later))
own_by entry entries later document Less own inserted is = (refl, own)
own_by entry entries later document Equal own inserted is = (sym (one_key (portfolio_day_of document) entry.0 is), own.1)
own_by entry entries later document Greater own inserted is = (own.0, inserted)

own_inserted : (entries : List Entry) (document : Nomint) → AllByRecursion IsOwn entries → AllByRecursion IsOwn (insert_entry portfolio_day_cmp entries (portfolio_day_of document) document)
own_inserted [] document own = (refl, tt)
own_inserted (entry ∷ entries) document own =
    own_by entry entries (insert_entry portfolio_day_cmp entries (portfolio_day_of document) document) document (portfolio_day_cmp (portfolio_day_of document) entry.0) own (own_inserted entries document own.1) refl

pub filed_inserted : (old new : List Entry) (key : PortfolioDay) (document : Nomint) → key ≡ portfolio_day_of document → IsFiled old
    → new ≡ insert_entry portfolio_day_cmp old key document → IsStrictlySortedBy portfolio_day_cmp (keys_of new) → IsFiled new
filed_inserted old new key document of filed inserted ordered = record {
  own = rw (inserted, of) (own_inserted old document filed.own);
  ordered = ordered;
}

-- ---- what is in force afterwards

pub stands : (old new : List Entry) (key : PortfolioDay) (document : Nomint) → key ≡ portfolio_day_of document → IsFiled old
    → new ≡ insert_entry portfolio_day_cmp old key document → IsStrictlySortedBy portfolio_day_cmp (keys_of new)
    → ((q : PortfolioDay) → lookup (is_at (portfolio_day_cmp q)) new ≡ cond (is_at (portfolio_day_cmp key) q) (Some document) (lookup (is_at (portfolio_day_cmp q)) old))
    → DocumentStands (values_of old) (values_of new) document
stands old new key document of filed inserted ordered updates portfolio day =
    let q : PortfolioDay = record { portfolio = portfolio; day = day } in
    sym (looked_up q new (filed_inserted old new key document of filed inserted ordered))
    ∙ updates q
    ∙ ap (λ (k : PortfolioDay). cond (is_at (portfolio_day_cmp k) q) (Some document) (lookup (is_at (portfolio_day_cmp q)) old)) of
    ∙ ap (λ b. cond b (Some document) (lookup (is_at (portfolio_day_cmp q)) old)) (is_of-own q document)
    ∙ ap (cond (is_of portfolio day document) (Some document)) (looked_up q old filed)

-- ---- an insertion that is refused

pub none_before : (entries : List Entry) (key : PortfolioDay) (document : Nomint) → key ≡ portfolio_day_of document → IsFiled entries → lookup (is_at (portfolio_day_cmp key)) entries ≡ None
    → in_force document.portfolio document.day (values_of entries) ≡ None
none_before entries key document of filed absent = sym (ap (λ (k : PortfolioDay). in_force k.portfolio k.day (values_of entries)) of) ∙ sym (looked_up key entries filed) ∙ absent
