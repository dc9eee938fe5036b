-- What `book` tells of a book.
use Rattle.std.specs.Prelude.{◌≡◌, ◌↔◌, ◌≤◌, ◌-◌, ◌++◌, ℕ, Bool, true, false, List, [], ◌∷◌, length, filter, take, Option, None, Some, IfSome, IsTrue, Ok, Err, codes}
use Rattle.std.specs.Fmt.{decimal}
use Rattle.std.specs.List.{flat_map}
use Rattle.std.specs.Io.KnownBytes.{Appends, Keeps}
use Rattle.hex.specs.Hex.{encode_lower}
use Rattle.gi_facts.specs.declared.fact.Fact.{Fact}
use Rattle.gi_facts.specs.declared.fact.Fact.TheVariants.{Closed, Contracted, Met}
use Rattle.gi_desk.specs.Machine.{bad_fact}
use Rattle.gi_reports.specs.Refused.{first_places}
use Rattle.gi_store.specs.Copies.{BookCopyState}
use Rattle.gi_store.specs.Digests.{chain_of}
use Rattle.gi_store.specs.Owner.{owner_text}
use Rattle.gi_store.specs.Source.{Reading}
use Rattle.gi_store.specs.declared.owner.Owner.{Owner}
use Rattle.gi_store.specs.declared.store_fault.StoreFault.TheVariants as store
use Rattle.gi_commands.specs.declared.fault.Fault.{Fault}
use Rattle.gi_commands.specs.declared.fault.Fault.TheVariants as fault

-- the most facts that a book takes, and the most portfolios with contracts
abbrev pub most_facts : ℕ
most_facts = 1000000

abbrev pub most_portfolios : ℕ
most_portfolios = 64

abbrev pub is_closing : Fact → Bool
is_closing (Closed id rule) = true
is_closing _ = false

abbrev pub is_meeting : Fact → Bool
is_meeting (Met id peer) = true
is_meeting _ = false

-- the portfolio of a contract
abbrev pub contracted : Fact → List (Option (List ℕ))
contracted (Contracted contract) = Some contract.portfolio ∷ []
contracted _ = []

-- how many portfolios have contracts
unfoldable pub portfolios_in : List Fact → ℕ
portfolios_in facts = length (first_places (flat_map contracted facts))

-- whose it is; a book of an older program does not say
unfoldable pub owner_word : Option Owner → List ℕ
owner_word None = codes "?"
owner_word (Some owner) = owner_text owner

-- how many facts, and their digest; how many cycles are closed, and how many of these confirmed
unfoldable pub counts_text : List Fact → List ℕ
counts_text facts =
    codes "facts " ++ (decimal (length facts)
    ++ (codes "\ndigest " ++ (encode_lower (chain_of facts).bytes
    ++ (codes "\nclosed " ++ (decimal (length (filter is_closing facts))
    ++ (codes "\nconfirmed " ++ (decimal (length (filter is_meeting facts)) ++ codes "\n")))))))

-- how many more facts, and how many more portfolios, the book takes
unfoldable pub room_text : List Fact → List ℕ
room_text facts = codes "room " ++ (decimal (most_facts - length facts) ++ (codes " " ++ (decimal (most_portfolios - portfolios_in facts) ++ codes "\n")))

-- whose it is, and then these; and how many bytes the log beside it has
abbrev pub contents_text : BookCopyState → List ℕ
contents_text copy =
    codes "owner " ++ (owner_word copy.owner ++ (codes "\n" ++ (counts_text copy.facts ++ (room_text copy.facts ++ (codes "log " ++ (decimal copy.log ++ codes "\n"))))))

-- the first facts, so many, are there and have this digest
pub record AreExpected (facts : List Fact) (expected : ℕ × List ℕ) : Type 0 where
  pub enough : expected.0 ≤ length facts
  pub digest : encode_lower (chain_of (take expected.0 facts)).bytes ≡ expected.1

-- where some are expected
abbrev pub HasExpected : List Fact → Option (ℕ × List ℕ) → Type 0
HasExpected facts expected = IfSome expected (AreExpected facts)

-- ---- the command

-- the facts of a book that says whose it is make a desk of its side and point
abbrev pub IsSound : BookCopyState → Type 0
IsSound copy = IfSome copy.owner (λ owner. bad_fact owner.side owner.point copy.facts ≡ None)

-- or do not: this is the first that it does not record after those before it
abbrev pub IsUnsound : BookCopyState → Fault → Type 0
IsUnsound copy (fault.BadFact n) = (owner : Owner) × (copy.owner ≡ Some owner) × (bad_fact owner.side owner.point copy.facts ≡ Some n)
IsUnsound copy fault.OutOfMemory = Unit {0}
IsUnsound copy _ = ⊥

-- what is told of the book that is read, and whether its first facts are those that are expected
pub record HasContents (reads : Reading) (expected : Option (ℕ × List ℕ)) (text : List ℕ) (is_expected : Bool) : Type 0 where
  pub copy : BookCopyState
  pub read : reads (Ok copy)
  pub sound : IsSound copy
  pub told : text ≡ contents_text copy
  pub are_first : IsTrue is_expected ↔ HasExpected copy.facts expected

-- why nothing is told: why the book is not read; or that its facts make no desk
abbrev pub IsNoContents : Reading → Fault → Type 0
IsNoContents reads (fault.Store store.OutOfMemory) = ⊥
IsNoContents reads (fault.Store why) = reads (Err why)
IsNoContents reads (fault.BadFact n) = (copy : BookCopyState) × reads (Ok copy) × IsUnsound copy (fault.BadFact n)
IsNoContents reads fault.OutOfMemory = Unit {0}
IsNoContents reads _ = ⊥

-- what is told is what the output has gained
abbrev pub TellsBook : Reading → Option (ℕ × List ℕ) → Option (List ℕ) → Option (List ℕ) → Type 0
TellsBook reads expected old new = (text : List ℕ) × HasContents reads expected text true × Appends old new text

-- the first fault: that nothing is told; a writer that failed; that other facts were expected
abbrev pub IsFirstContentsFault : Reading → Option (ℕ × List ℕ) → Fault → Type 0
IsFirstContentsFault reads expected fault.Write = (text : List ℕ) × (is_expected : Bool) × HasContents reads expected text is_expected
IsFirstContentsFault reads expected fault.Unexpected = (text : List ℕ) × HasContents reads expected text false
IsFirstContentsFault reads expected why = IsNoContents reads why

-- where other facts were expected the output has gained what is told; before that nothing is written
abbrev pub LeavesContents : Reading → Option (ℕ × List ℕ) → Option (List ℕ) → Option (List ℕ) → Fault → Type 0
LeavesContents reads expected old new fault.Write = Unit {0}
LeavesContents reads expected old new fault.Unexpected = (text : List ℕ) × HasContents reads expected text false × Appends old new text
LeavesContents reads expected old new _ = Keeps old new
