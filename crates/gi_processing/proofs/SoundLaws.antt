-- Nominations stay sound when a recordable one is taken, and when a contract or a notice is recorded.
use Rattle.std.proofs.Common.{◌≡◌, ℕ, List, [], ◌∷◌, ◌++◌, Bool, true, false, ◌||◌, Some, None, refl, sym, ap, ◌∙◌, subst}
use Rattle.std.specs.List.{list_any}
use Rattle.std.proofs.lemmas.List.Folds.{list_any-append}
use Rattle.std.proofs.lemmas.Option.{same_Some}
use Rattle.jiff_core.specs.declared.civil.date.Date.{Date}
use Rattle.gi_messages.specs.declared.message.Nomint.{Nomint}
use Rattle.gi_nominations.specs.Book.{in_force, is_of}
use Rattle.gi_nominations.proofs.BookLaws.{in_force-others, in_force-taken, is_of-takes, nothing_in_force}
use Rattle.gi_day.specs.Cycles.{hour_count}
use Rattle.gi_nominations.specs.Lines.{lines_fault}
use Rattle.gi_processing.specs.Capacity.{Capacity, is_of as is_contract_of, knows}
use Rattle.gi_processing.specs.Processing.{AreSound, IsSound}
use Rattle.gi_processing.specs.declared.contract.Contract.{Contract}

-- no nominations are sound
pub sound-none : (capacity : Capacity) (day : Date) → AreSound capacity [] day
sound-none capacity day portfolio document e = let none = nothing_in_force portfolio day in absurd cc

-- and so are sound ones with a sound one more, or with one of another gas day
pub sound-taken : (capacity : Capacity) (documents : List Nomint) (day : Date) (document : Nomint) → AreSound capacity documents day
    → (document.day ≡ day → IsSound capacity day document.portfolio document) → AreSound capacity (documents ++ document ∷ []) day
sound-taken capacity documents day document sound own portfolio held e = by_test (is_of portfolio day document) refl
  where
    by_test : (b : Bool) → is_of portfolio day document ≡ b → IsSound capacity day portfolio held
    by_test false other = sound portfolio held (sym (in_force-others portfolio day documents document other) ∙ e)
    by_test true of =
        let here = is_of-takes portfolio day document of in
        let taken : in_force portfolio day (documents ++ document ∷ []) ≡ Some document =
        subst (λ (p : List ℕ). in_force p day (documents ++ document ∷ []) ≡ Some document) here.0
        (subst (λ (d : Date). in_force document.portfolio d (documents ++ document ∷ []) ≡ Some document) here.1 (in_force-taken documents document)) in
        let same : document ≡ held = same_Some document held (sym taken ∙ e) in
        subst (λ (n : Nomint). IsSound capacity day portfolio n) same (subst (λ (p : List ℕ). IsSound capacity day p document) here.0 (own here.1))

-- a recordable one is sound
pub sound-recordable : (capacity : Capacity) (documents : List Nomint) (day frame : Date) (document : Nomint) (known : Bool) → AreSound capacity documents day
    → known ≡ knows document.portfolio document.day capacity.contracts → known ≡ true → frame ≡ document.day → lines_fault (hour_count frame) document.lines ≡ None
    → AreSound capacity (documents ++ document ∷ []) day
sound-recordable capacity documents day frame document known sound known_is is_known frame_is lines =
    sound-taken capacity documents day document sound
    (λ same. record {
      known = subst (λ (d : Date). knows document.portfolio d capacity.contracts ≡ true) same (sym known_is ∙ is_known);
      lines = subst (λ (d : Date). lines_fault (hour_count d) document.lines ≡ None) (frame_is ∙ same) lines;
    })

known_too : (b c : Bool) → b ≡ true → (b || c) ≡ true
known_too true c e = refl
known_too false c e = absurd cc

-- a known portfolio stays known with more contracts
pub knows-more : (portfolio : List ℕ) (day : Date) (contracts more : List Contract) → knows portfolio day contracts ≡ true → knows portfolio day (contracts ++ more) ≡ true
unfolding knows
knows-more portfolio day contracts more known =
    list_any-append (is_contract_of portfolio day) contracts more ∙ known_too (list_any (is_contract_of portfolio day) contracts) (list_any (is_contract_of portfolio day) more) known

-- and sound nominations stay sound with more contracts, whatever the notices are
pub sound-contract : (old new : Capacity) (more : List Contract) (documents : List Nomint) (day : Date) → new.contracts ≡ old.contracts ++ more → AreSound old documents day → AreSound new documents day
sound-contract old new more documents day is sound portfolio document e =
    let here = sound portfolio document e in
    record {
      known = ap (knows portfolio day) is ∙ knows-more portfolio day old.contracts more here.known;
      lines = here.lines;
    }
