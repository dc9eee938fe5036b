-- What the readings of a list of facts come to.
use Rattle.std.proofs.Common.{◌≡◌, ◌<◌, ◌+◌, ℕ, List, [], ◌∷◌, ◌++◌, length, take, reverse, find, filter_map, get_or, append-nil, Bool, Option, Some, None, refl, sym, ap, ◌∙◌}
use Rattle.std.specs.Option.{option_or, option_map}
use Rattle.std.proofs.lemmas.List.{reverse-append, take_more}
use Rattle.std.proofs.lemmas.List.Elements.{filter_map-append}
use Rattle.std.proofs.lemmas.List.Folds.{find-append}
use Rattle.jiff_core.specs.declared.civil.date.Date.{Date}
use Rattle.gi_day.specs.SameDay.{same_day}
use Rattle.gi_pairs.specs.declared.cycle_id.CycleId.{CycleId}
use Rattle.gi_messages.specs.declared.message.Nomint.{Nomint}
use Rattle.gi_desk.specs.History.{capacity_of, contract_in, document_in, documents_of, notice_in, closing_in, closings, last_closed}
use Rattle.gi_facts.specs.declared.fact.Fact.{Fact}
use Rattle.gi_facts.specs.declared.fact.Fact.TheVariants.{Contracted, Noticed, Nominated, Closed, Met}

-- one more item, at a place of a list
pub one_more : {X : Type 0} (xs : List X) (i : ℕ) (x : X) → i < length xs → x ≡ get_or xs i x → take (i + 1) xs ≡ take i xs ++ x ∷ []
one_more xs i x below is = take_more xs i x below ∙ ap (λ y. take i xs ++ y ∷ []) (sym is)

mapped : {X Y : Type 0} (f : X → Y) (a b : Option X) → option_map f (option_or a b) ≡ option_or (option_map f a) (option_map f b)
mapped f None b = refl
mapped f (Some x) b = refl

-- the cycle closed last is that of the last fact that closes one of the gas day
pub closed_more : (day : Date) (facts : List Fact) (fact : Fact) → last_closed day (facts ++ fact ∷ []) ≡ option_or (last_closed day (fact ∷ [])) (last_closed day facts)
unfolding last_closed closings
closed_more day facts fact =
    let of_day : CycleId → Bool = λ id. same_day id.day day in
    let number : CycleId → ℕ = λ id. id.cycle in
    let first = filter_map closing_in facts in
    let last = filter_map closing_in (fact ∷ []) in
    ap (λ (ids : List CycleId). option_map number (find of_day (reverse ids))) (filter_map-append closing_in facts (fact ∷ []))
    ∙ ap (λ (ids : List CycleId). option_map number (find of_day ids)) (reverse-append first last)
    ∙ ap (option_map number) (find-append of_day (reverse last) (reverse first))
    ∙ mapped number (find of_day (reverse last)) (find of_day (reverse first))

-- one more fact records one more contract, notice or nomination
pub capacity_more : (facts : List Fact) (fact : Fact) → capacity_of (facts ++ fact ∷ [])
    ≡ record { contracts = (capacity_of facts).contracts ++ (capacity_of (fact ∷ [])).contracts; notices = (capacity_of facts).notices ++ (capacity_of (fact ∷ [])).notices }
unfolding capacity_of
capacity_more facts fact =
    let contracts = filter_map-append contract_in facts (fact ∷ []) in
    let notices = filter_map-append notice_in facts (fact ∷ []) in
    λ t. record { contracts = contracts t; notices = notices t }

pub documents_more : (facts : List Fact) (fact : Fact) → documents_of (facts ++ fact ∷ []) ≡ documents_of facts ++ documents_of (fact ∷ [])
unfolding documents_of
documents_more facts fact = filter_map-append document_in facts (fact ∷ [])

-- a fact that takes no nomination leaves those that were taken
pub same_documents : (facts : List Fact) (fact : Fact) → documents_of (fact ∷ []) ≡ [] → documents_of (facts ++ fact ∷ []) ≡ documents_of facts
same_documents facts fact none = documents_more facts fact ∙ ap (λ (ds : List Nomint). documents_of facts ++ ds) none ∙ append-nil (documents_of facts)

pub taken-more : (facts : List Fact) (document : Nomint) → documents_of (facts ++ Nominated document ∷ []) ≡ documents_of facts ++ document ∷ []
unfolding documents_of
taken-more facts document = documents_more facts (Nominated document)

pub no_document : (fact : Fact) → ((document : Nomint) → fact ≡ Nominated document → ⊥) → documents_of (fact ∷ []) ≡ []
unfolding documents_of
no_document (Contracted contract) nominated = refl
no_document (Noticed notice) nominated = refl
no_document (Nominated document) nominated = absurd (nominated document refl)
no_document (Closed id rule) nominated = refl
no_document (Met id peer) nominated = refl
