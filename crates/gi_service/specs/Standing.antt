-- What stands under the names of two books before they are opened, and what is refused for it.
use Rattle.std.specs.Prelude.{◌≡◌, ℕ, ◌++◌, codes, Bool, true, false, List, [], ◌∷◌, Option, None, Some, Result, Ok, Err}
use Rattle.std.specs.Global.{Vec}
use Rattle.gi_facts.specs.declared.fact.Fact.{Fact}
use Rattle.gi_pairs.specs.declared.side.Side.{Side}
use Rattle.gi_pairs.specs.declared.side.Side.TheVariants.{I, M}
use Rattle.gi_store.specs.Copies.{BookCopyState}
use Rattle.gi_store.specs.Heads.{none_by}
use Rattle.gi_store.specs.declared.head.Head.{Head}
use Rattle.gi_store.specs.declared.owner.Owner.{Owner}
use Rattle.gi_store.specs.declared.source.BookCopy.{BookCopy}
use Rattle.gi_store.specs.declared.store_fault.StoreFault.{StoreFault}
use Rattle.gi_store.specs.declared.store_fault.StoreFault.TheVariants as store
use Rattle.gi_commands.specs.Fault.{store_fault}
use Rattle.gi_commands.specs.Owned.{IsOf, IsOther, copy_state}
use Rattle.gi_commands.specs.declared.fault.Fault.{Fault}
use Rattle.gi_commands.specs.declared.fault.Fault.TheVariants as fault
use Rattle.gi_service.specs.declared.standing.Standing.{Standing}
use Rattle.gi_service.specs.declared.standing.Standing.TheVariants.{Missing, Empty, Facts}

-- the name of a side's book
abbrev pub book_name : Side → List ℕ → List ℕ
book_name I prefix = prefix ++ codes "-I.db"
book_name M prefix = prefix ++ codes "-M.db"

-- the facts of the book under a name, none where it is missing, or what is told of it
abbrev pub Found : Type 0
Found = Result (Option (Vec Fact)) StoreFault

-- what stands there, or what is told of it
abbrev pub Stands : Type 0
Stands = Result Standing StoreFault

-- of a book with these facts
abbrev pub of_facts : List Fact → Standing
of_facts [] = Empty
of_facts (fact ∷ facts) = Facts

abbrev pub standing_of : Found → Stands
standing_of (Ok None) = Ok Missing
standing_of (Ok (Some facts)) = Ok (of_facts facts.items)
standing_of (Err why) = Err why

-- the facts of a book of that owner; another's is told as that
abbrev pub IsFoundIn : Owner → BookCopyState → Found → Type 0
IsFoundIn owner copy (Ok None) = ⊥
IsFoundIn owner copy (Ok (Some facts)) = IsOf owner copy × (copy.facts ≡ facts.items)
IsFoundIn owner copy (Err why) = (other : Owner) × (why ≡ store.OtherBook other) × IsOther owner other copy

-- where a file is there, by what was read of it
abbrev pub IsFound : Owner → Result (Option BookCopy) StoreFault → Found → Type 0
IsFound owner (Ok None) found = found ≡ Ok None
IsFound owner (Ok (Some copy)) found = IsFoundIn owner (copy_state copy) found
IsFound owner (Err why) found = found ≡ Err why

-- where no file is there, by the head that is left: facts that it tells are lost
abbrev pub left_of : Result (Option Head) StoreFault → Found
left_of (Ok head) = none_by head
left_of (Err why) = Err why

abbrev pub facts_found : Found → List Fact
facts_found (Ok None) = []
facts_found (Ok (Some facts)) = facts.items
facts_found (Err why) = []

-- a book with no facts is no reason, where one may be made at all
abbrev pub of_standing : Bool → Side → Standing → Option Fault
of_standing only_old side Facts = Some (fault.MissingBook side)
of_standing true side Missing = Some (fault.MissingBook side)
of_standing true side Empty = Some (fault.MissingBook side)
of_standing false side Missing = None
of_standing false side Empty = None

-- One of two books is missing, that of this side: it may be made beside one with no facts.
abbrev pub of_one : Bool → Side → Stands → Option Fault
of_one only_old side (Err store.OutOfMemory) = Some fault.OutOfMemory
of_one only_old side (Err why) = Some (fault.MissingBook side)
of_one only_old side (Ok standing) = of_standing only_old side standing

-- the first fault: one book is missing beside the other; else what is told of the initiating side's, and then of the matching side's
abbrev pub first_refusal : Bool → Stands → Stands → Option Fault
first_refusal only_old (Ok Missing) other = of_one only_old I other
first_refusal only_old other (Ok Missing) = of_one only_old M other
first_refusal only_old (Err why) other = Some (store_fault why)
first_refusal only_old other (Err why) = Some (store_fault why)
first_refusal only_old _ _ = None

-- why books in files are not opened, where nothing is known of the files: one is missing, or this is told of a copy
abbrev pub IsPrefixFault : Fault → Type 0
IsPrefixFault (fault.MissingBook side) = Unit {0}
IsPrefixFault (fault.Store store.OutOfMemory) = ⊥
IsPrefixFault (fault.Store why) = Unit {0}
IsPrefixFault fault.OutOfMemory = Unit {0}
IsPrefixFault _ = ⊥
