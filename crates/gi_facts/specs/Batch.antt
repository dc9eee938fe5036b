-- Several facts in one text: one fact's own text, or a JSON array of 2 to 64 facts in their order.
use Rattle.std.specs.Prelude.{◌≡◌, ℕ, Bool, false, List, [], ◌∷◌, map, length, ◌&&◌, nat_le, if◌then◌else◌, Option, Some, None, option_and_then, Result, Ok, Err}
use Rattle.std.specs.Result.{result_ok}
use Rattle.serde_json.specs.Data.{Data, Items, array}
use Rattle.serde_json.specs.Events.{items_len}
use Rattle.serde_json.specs.View.{items_of}
use Rattle.serde_json.specs.Written.{compact_text}
use Rattle.gi_messages.specs.Json.{json_of}
use Rattle.gi_messages.specs.Reading.{Read, ◌>>=◌, each}
use Rattle.gi_facts.specs.declared.fact.Fact.{Fact}
use Rattle.gi_facts.specs.declared.fact_fault.FactFault.{FactFault}
use Rattle.gi_facts.specs.declared.fact_fault.FactFault.TheVariants.{NotAFact, OutOfMemory}
use Rattle.gi_facts.specs.Decoding.{fact}
use Rattle.gi_facts.specs.Writing.{data_of, fact_text}

-- the most facts that are written together
abbrev pub most_facts : ℕ
most_facts = 64

-- ---- writing

-- the array of the facts, in their order
abbrev pub facts_data : List Fact → Data
facts_data facts = array (items_of (map data_of facts))

-- that array with no spaces
unfoldable pub array_text : List Fact → List ℕ
array_text facts = compact_text (facts_data facts)

-- one fact as it is written alone, more as an array
abbrev pub batch_text : List Fact → List ℕ
batch_text (fact ∷ []) = fact_text fact
batch_text facts = array_text facts

-- ---- reading

-- the facts, where an array may hold so many
abbrev pub several : List Fact → Option (List Fact)
several facts = if nat_le 2 (length facts) && nat_le (length facts) most_facts then Some facts else None

-- each element of an array is a fact
abbrev pub of_elements : Items → Option (List Fact)
of_elements ds = option_and_then several (result_ok (each fact ds))

-- the one fact that a value is
abbrev pub one_fact : Data → Read (List Fact)
one_fact d = fact d >>= λ found. Ok (found ∷ [])

-- the facts that a value is: those of an array, or one
abbrev pub batch_of_value : Data → Option (List Fact)
batch_of_value (array ds) = of_elements ds
batch_of_value d = result_ok (one_fact d)

-- whether a value is an array of as many elements as there may be facts in one
abbrev pub holds_several : Data → Bool
holds_several (array ds) = nat_le 2 (items_len ds) && nat_le (items_len ds) most_facts
holds_several d = false

-- the facts that bytes are
unfoldable pub batch_of : List ℕ → Option (List Fact)
batch_of bytes = option_and_then batch_of_value (json_of bytes)

-- What is answered, unless memory runs out: the facts where there are any, else that there are none.
abbrev pub GivesFacts : {X : Type 0} → (X → List Fact) → Result X FactFault → Option (List Fact) → Type 0
GivesFacts items (Ok facts) found = found ≡ Some (items facts)
GivesFacts items (Err NotAFact) found = found ≡ None
GivesFacts items (Err OutOfMemory) found = Unit {0}
