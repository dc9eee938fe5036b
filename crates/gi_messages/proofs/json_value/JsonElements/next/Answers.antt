use Rattle.std.proofs.Common.{◌≡◌, List, Option, Some, sym, subst, ◌∙◌}
use Rattle.std.specs.Prelude.{MatchOption}
use Rattle.json.specs.Token.{Token}
use Rattle.serde_json.specs.Data.{no_items, item}
use Rattle.gi_messages.specs.Tokens.{value_at, elements_at}
use Rattle.gi_messages.proofs.TokenLemmas.{item_taken, begins_taken, holds_after, seen_taken}
use Rattle.gi_messages.proofs.json_value.JsonElements.next.Goals as goal
use Rattle.gi_messages.proofs.json_value.JsonElements.next.Goals.{in-Some, in-None}

abbrev Takes : Option (List Token) → List Token → List Token → Type 0
Takes r old new = MatchOption r (elements_at old ≡ no_items) (λ v. elements_at old ≡ item (value_at v) (elements_at new))

pub invariant_of-result : goal.invariant_of-result
invariant_of-result c =
    let old = c.self.inside.items in
    let r = c.in-Some.element in
    begins_taken r (elements_at old) c.next.new.self (item_taken (Some r) old c.next.new.self (elements_at old) c.self.invariant c.in-Some.ensures.value)

pub invariant_of-self : goal.invariant_of-self
invariant_of-self c =
    let old = c.self.inside.items in
    let new = c.next.new.self in
    let h = c.self.invariant in
    let r = c.next.result in
    holds_after r old new h (item_taken r old new (elements_at old) h c.next.ensures.value) c.next.ensures.stays

pub returns-clause-value : goal.returns-clause-value
returns-clause-value c =
    let old = c.self.inside.items in
    let new = c.next.new.self in
    let r = c.next.result in
    let seen : old ≡ c.args.self.now = c.self.view_is in
    let taken = seen_taken r old new (item_taken r old new (elements_at old) c.self.invariant c.next.ensures.value) in
    let same : r ≡ c.match-next.result = elim c.match-next.branch [
      | in-Some w ↦ w.in-Some.is ∙ sym w.result-is
      | in-None w ↦ w.in-None.is ∙ sym w.result-is
    ] in
    subst (λ q. Takes q c.args.self.now new) same (subst (λ t. Takes r t new) seen taken)
