-- Both tables of an order or a response, from what the rows of its parts make.
use Rattle.std.specs.Prelude.{Result, Ok, Err, option_map}
use Rattle.gi_pairs.specs.Table.{TableContents}
use Rattle.gi_pairs.specs.declared.join_fault.JoinFault.{JoinFault}
use Rattle.gi_pairs.specs.declared.join_fault.JoinFault.TheVariants.{Overlap, TooMany}
use Rattle.gi_parts.specs.declared.gathered.Gathered.{Gathered}
use Rattle.gi_parts.specs.declared.gathered.Gathered.TheVariants.{Complete, Refused}
use Rattle.gi_parts.specs.declared.gathered.PartFault.TheVariants.{PartsOverlap, TooManyRows}
use Rattle.gi_parts.specs.declared.part.Part.{Part}

-- the second where something is confirmed; what overlaps is refused before what is too long
abbrev pub both : Result TableContents JoinFault → Result TableContents JoinFault → Part → Gathered
both (Ok processed) (Ok confirmed) part = Complete (record { processed = processed; confirmed = option_map (λ one. confirmed) part.confirmed })
both (Ok processed) (Err Overlap) part = Refused PartsOverlap
both (Ok processed) (Err TooMany) part = Refused TooManyRows
both (Err Overlap) confirmed part = Refused PartsOverlap
both (Err TooMany) (Ok confirmed) part = Refused TooManyRows
both (Err TooMany) (Err Overlap) part = Refused PartsOverlap
both (Err TooMany) (Err TooMany) part = Refused TooManyRows
