-- The JSON value that tokens stand for, in the words of `serde_json`.
use Rattle.std.specs.Prelude.{◌≡◌, ℕ, nat_lt, zero, suc, List, [], ◌∷◌, length, Bool, true, false, Option, Some, None, is_some, option_map, option_and_then, unwrap_or, if◌then◌else◌}
use Rattle.json.specs.Token.{Token}
use Rattle.json.specs.Json as json
use Rattle.json.specs.Find.{BeginsWith, InItems}
use Rattle.serde_json.specs.Data.{Data, null, boolean, number, string, array, object, Items, no_items}
use Rattle.serde_json.specs.Events.{items_len}
use Rattle.serde_json.specs.Read.{of_json, of_items, number_of}

abbrev or_null : Option Data → Data
or_null None = null
or_null (Some d) = d

-- the value with which tokens begin
unfoldable pub value_at : List Token → Data
value_at ts = or_null (option_and_then (λ p. of_json p.0) (json.value (length ts) ts))

abbrev elements_of : Data → Items
elements_of null = no_items
elements_of (boolean b) = no_items
elements_of (number n) = no_items
elements_of (string s) = no_items
elements_of (array ds) = ds
elements_of (object ms) = no_items

-- the elements up to the end of the array in which the tokens stand
unfoldable pub elements_at : List Token → Items
elements_at ts = elements_of (value_at (Token.begin_array ∷ ts))

-- how many there are, where there are no more than so many
abbrev pub count_within : ℕ → Items → Option ℕ
count_within limit ds = if nat_lt limit (items_len ds) then None else Some (items_len ds)

-- the tokens begin with this value
pub record Begins (ts : List Token) (d : Data) : Type 0 where
  pub json : json.Json
  pub begins : BeginsWith ts json
  pub is : of_json json ≡ Some d

-- the tokens stand in an array, of which these elements are left
pub record Holds (ts : List Token) (ds : Items) : Type 0 where
  pub json : json.Items
  pub inside : InItems ts json
  pub is : of_items json ≡ Some ds

-- How many more arrays and objects may be open after a token, where so many may be open before it. There is none after one too
-- many, and none after the text of a number that is none.
abbrev pub after : Token → ℕ → Option ℕ
after Token.begin_object zero = None
after Token.begin_object (suc d) = Some d
after Token.end_object d = Some (suc d)
after Token.begin_array zero = None
after Token.begin_array (suc d) = Some d
after Token.end_array d = Some (suc d)
after (Token.key s) d = Some d
after (Token.string s) d = Some d
after (Token.number s) d = if is_some (number_of s) then Some d else None
after (Token.boolean b) d = Some d
after Token.null d = Some d
after Token.bad d = Some d

-- No more are open than may be, and each number is one.
unfoldable pub is_sound : List Token → ℕ → Bool
is_sound [] d = true
is_sound (t ∷ ts) d = unwrap_or (option_map (is_sound ts) (after t d)) false
