-- The keys of JSON objects, as they stand in the text.
use Rattle.std.specs.Prelude.{ℕ, List, codes}
use Rattle.gi_messages.specs.declared.key.Key.{Key}
use Rattle.gi_messages.specs.declared.key.Key.TheVariants.{Kind, Point, Portfolio, Day, Version, Cycle, First, Last, Parts, Part, Lines, Processed, Confirmed, Counterparty, Initiating, Matching, Direction, Hours, Priority, Fact, Nomint, Firm, Interruptible, Peer, Rule}

abbrev pub key_text : Key → List ℕ
key_text Kind = codes "kind"
key_text Point = codes "point"
key_text Portfolio = codes "portfolio"
key_text Day = codes "day"
key_text Version = codes "version"
key_text Cycle = codes "cycle"
key_text First = codes "first"
key_text Last = codes "last"
key_text Parts = codes "parts"
key_text Part = codes "part"
key_text Lines = codes "lines"
key_text Processed = codes "processed"
key_text Confirmed = codes "confirmed"
key_text Counterparty = codes "counterparty"
key_text Initiating = codes "initiating"
key_text Matching = codes "matching"
key_text Direction = codes "direction"
key_text Hours = codes "hours"
key_text Priority = codes "priority"
key_text Fact = codes "fact"
key_text Nomint = codes "nomint"
key_text Firm = codes "firm"
key_text Interruptible = codes "interruptible"
key_text Peer = codes "peer"
key_text Rule = codes "rule"
