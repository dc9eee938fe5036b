-- What is added to a JSON text that is being written, as tokens.
use Rattle.std.specs.Prelude.{◌≡◌, ℕ, List, [], ◌∷◌, ◌++◌, ◌==◌, Result, IfOk, if◌then◌else◌}
use Rattle.json.specs.Token.{Token}
use Rattle.json.specs.Tree.{json_tokens}
use Rattle.json.specs.Written.{Written}
use Rattle.jiff_core.specs.declared.civil.date.Date.{Date}
use Rattle.serde_json.specs.Data.{Data, string}
use Rattle.serde_json.specs.Written.{outline}
use Rattle.gi_day.specs.Day.{day_text}
use Rattle.gi_messages.specs.Key.{key_text}
use Rattle.gi_messages.specs.Kind.{kind_text}
use Rattle.gi_messages.specs.Limits.{usual_priority}
use Rattle.gi_messages.specs.Writing.{whole}
use Rattle.gi_messages.specs.declared.head.Span.{Span}
use Rattle.gi_messages.specs.declared.key.Key.{Key}
use Rattle.gi_messages.specs.declared.key.Key.TheVariants as keys
use Rattle.gi_messages.specs.declared.kind.Kind.{Kind}

-- these tokens come after the old ones, and what stood before them stays
pub record Added (old new : Written) (ts : List Token) : Type 0 where
  pub before : new.before ≡ old.before
  pub tokens : new.tokens ≡ old.tokens ++ ts

-- the tokens of a value
abbrev pub tokens_of : Data → List Token
tokens_of d = json_tokens (outline d)

-- the value is added
abbrev pub Adds : {E : Type 0} → Result (Unit {0}) E → Written → Written → Data → Type 0
Adds r old new d = IfOk r (λ _. Added old new (tokens_of d))

-- the member of an object with that key and that value is added
abbrev pub AddsMember : {E : Type 0} → Result (Unit {0}) E → Written → Written → Key → Data → Type 0
AddsMember r old new k d = IfOk r (λ _. Added old new (Token.key (key_text k) ∷ tokens_of d))

-- the tokens of a member
abbrev pub member_tokens : Key → Data → List Token
member_tokens k d = Token.key (key_text k) ∷ tokens_of d

-- the member of a priority is added, where it is not the usual one
abbrev pub AddsPriority : {E : Type 0} → Result (Unit {0}) E → Written → Written → ℕ → Type 0
AddsPriority r old new priority = IfOk r (λ _. Added old new (if priority == usual_priority then [] else member_tokens keys.Priority (whole priority)))

-- the tokens of the members that say which part it is and of how many, where there are several; these members are added
abbrev pub part_tokens : ℕ → ℕ → List Token
part_tokens parts part = if parts == 1 then [] else member_tokens keys.Part (whole part) ++ member_tokens keys.Parts (whole parts)

abbrev pub AddsPart : {E : Type 0} → Result (Unit {0}) E → Written → Written → ℕ → ℕ → Type 0
AddsPart r old new parts part = IfOk r (λ _. Added old new (part_tokens parts part))

-- the members are added that the messages of a cycle have from it on to the last hour
abbrev pub AddsHead : {E : Type 0} → Result (Unit {0}) E → Written → Written → Kind → ℕ → Date → Span → Type 0
AddsHead r old new kind cycle day span =
    IfOk r (λ _. Added old new (member_tokens keys.Cycle (whole cycle) ++ member_tokens keys.Day (string (day_text day)) ++ member_tokens keys.First (whole span.first)
    ++ member_tokens keys.Kind (string (kind_text kind)) ++ member_tokens keys.Last (whole span.last)))
