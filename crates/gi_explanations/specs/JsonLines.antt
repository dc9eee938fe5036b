-- The lines of an explanation as JSON objects, compact and with their keys in byte order: `line` is the first word of the text's line,
-- and null stands for a number that there is not.
use Rattle.std.specs.Prelude.{ℕ, List, Option, codes}
use Rattle.serde_json.specs.Data.{Data, string, object, no_members, member}
use Rattle.gi_day.specs.Day.{day_text}
use Rattle.gi_messages.specs.Writing.{whole}
use Rattle.gi_pairs.specs.Direction.{direction_text}
use Rattle.gi_pairs.specs.Side.{side_text}
use Rattle.gi_pairs.specs.declared.side.Side.{Side}
use Rattle.gi_exports.specs.Json.{number_or_null, portfolio_data}
use Rattle.gi_explanations.specs.declared.question.Question.{Question}

-- `{"cycle":35,"day":"2026-01-15","direction":"IM","hour":24,"initiating":"A","line":"explain","matching":"B","side":"I"}`
unfoldable pub asked_data : Side → Question → Data
asked_data side q =
    object (member (codes "cycle") (whole q.id.cycle) (member (codes "day") (string (day_text q.id.day)) (member (codes "direction") (string (direction_text q.direction))
    (member (codes "hour") (whole q.hour) (member (codes "initiating") (string q.pair.initiating) (member (codes "line") (string (codes "explain"))
    (member (codes "matching") (string q.pair.matching) (member (codes "side") (string (side_text side)) no_members))))))))

-- `{"fact":3,"line":"nomination","priority":5,"quantity":10,"version":1}`
unfoldable pub nominated_data : Option ℕ → Option ℕ → Option ℕ → Option ℕ → Data
nominated_data fact priority quantity version =
    object (member (codes "fact") (number_or_null fact) (member (codes "line") (string (codes "nomination"))
    (member (codes "priority") (number_or_null priority) (member (codes "quantity") (number_or_null quantity)
    (member (codes "version") (number_or_null version) no_members)))))

-- `{"fact":1,"firm":1000,"interruptible":0,"line":"contract"}`
unfoldable pub held_data : List ℕ → Option ℕ → Option ℕ → Option ℕ → Data
held_data line fact firm interruptible =
    object (member (codes "fact") (number_or_null fact) (member (codes "firm") (number_or_null firm)
    (member (codes "interruptible") (number_or_null interruptible) (member (codes "line") (string line) no_members))))

-- `{"firm":1000,"firm_thousandths":900,"interruptible":0,"interruptible_thousandths":0,"line":"available","quantity":900}`
unfoldable pub offered_data : Option ℕ → Option ℕ → Option ℕ → Option ℕ → ℕ → Data
offered_data firm of_firm interruptible of_interruptible quantity =
    object (member (codes "firm") (number_or_null firm) (member (codes "firm_thousandths") (number_or_null of_firm)
    (member (codes "interruptible") (number_or_null interruptible) (member (codes "interruptible_thousandths") (number_or_null of_interruptible)
    (member (codes "line") (string (codes "available")) (member (codes "quantity") (whole quantity) no_members))))))

-- `{"before":60,"left":40,"line":"priority","priority":5}`
unfoldable pub served_data : Option ℕ → Option ℕ → Option ℕ → Data
served_data before left priority =
    object (member (codes "before") (number_or_null before) (member (codes "left") (number_or_null left)
    (member (codes "line") (string (codes "priority")) (member (codes "priority") (number_or_null priority) no_members))))

-- `{"all":10,"before":0,"line":"sums","up_to":10}`
unfoldable pub summed_data : ℕ → ℕ → ℕ → Data
summed_data before up_to all =
    object (member (codes "all") (whole all) (member (codes "before") (whole before) (member (codes "line") (string (codes "sums")) (member (codes "up_to") (whole up_to) no_members))))

-- `{"all":40,"before":10,"left":20,"line":"processed","quantity":15,"reason":"reduced","up_to":40}`
unfoldable pub reduced_data : Option ℕ → Option ℕ → Option ℕ → ℕ → List ℕ → Option ℕ → Data
reduced_data all before left quantity reason up_to =
    object (member (codes "all") (number_or_null all) (member (codes "before") (number_or_null before) (member (codes "left") (number_or_null left)
    (member (codes "line") (string (codes "processed")) (member (codes "quantity") (whole quantity) (member (codes "reason") (string reason)
    (member (codes "up_to") (number_or_null up_to) no_members)))))))

-- `{"fact":4,"line":"frozen","rule":2}`
unfoldable pub closing_data : Option ℕ → Option ℕ → Data
closing_data fact rule =
    object (member (codes "fact") (number_or_null fact) (member (codes "line") (string (codes "frozen"))
    (member (codes "rule") (number_or_null rule) no_members)))

-- `{"fact":5,"line":"peer","quantity":7}`
unfoldable pub met_data : Option ℕ → Option ℕ → Data
met_data fact quantity =
    object (member (codes "fact") (number_or_null fact) (member (codes "line") (string (codes "peer"))
    (member (codes "quantity") (number_or_null quantity) no_members)))

-- `{"line":"lower","peer":7,"processed":10,"quantity":7}`
unfoldable pub lesser_data : Option ℕ → Option ℕ → Option ℕ → Data
lesser_data peer processed quantity =
    object (member (codes "line") (string (codes "lower")) (member (codes "peer") (number_or_null peer)
    (member (codes "processed") (number_or_null processed) (member (codes "quantity") (number_or_null quantity) no_members))))

-- `{"line":"confirmed","quantity":7,"state":"confirmed"}`
unfoldable pub state_data : Option ℕ → List ℕ → Data
state_data quantity state =
    object (member (codes "line") (string (codes "confirmed")) (member (codes "quantity") (number_or_null quantity)
    (member (codes "state") (string state) no_members)))

-- `{"line":"told","portfolio":"A"}`
unfoldable pub told_data : Option (List ℕ) → Data
told_data portfolio = object (member (codes "line") (string (codes "told")) (member (codes "portfolio") (portfolio_data portfolio) no_members))
