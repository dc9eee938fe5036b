-- The head that stands beside a book: how many facts were saved, and the digest of their chain.
use Rattle.std.specs.Prelude.{◌≡◌, ⊤, ℕ, zero, suc, ◌+◌, ◌*◌, ◌-◌, ◌/◌, ◌%◌, ◌<◌, ◌≤◌, ◌^◌, List, [], ◌∷◌, ◌++◌, length, take, codes, if◌then◌else◌, ◌==◌, nat_lt, Option, None, Some, Result, Ok, Err}
use Rattle.std.specs.List.{fold}
use Rattle.hex.specs.Hex.{IsBytes, encode_lower}
use Rattle.gi_facts.specs.declared.fact.Fact.{Fact}
use Rattle.gi_store.specs.declared.head.Head.{Head}
use Rattle.gi_store.specs.declared.store_fault.StoreFault.{StoreFault}
use Rattle.gi_store.specs.declared.store_fault.StoreFault.TheVariants.{Lost, OutOfMemory}
use Rattle.gi_store.specs.Digests.{chain_from, chain_of}

-- the head of facts
abbrev pub head_of : List Fact → Head
head_of facts = record { facts = length facts; digest = chain_of facts }

-- the head gone on by facts that are saved after those that it tells
abbrev pub gone_on : Head → List Fact → Head
gone_on head facts = record { facts = head.facts + length facts; digest = chain_from head.digest facts }

-- ---- its text

-- the last so many digits of the number, with zeros before a short one
unfoldable pub digits : ℕ → ℕ → List ℕ
digits zero number = []
digits (suc places) number = digits places (number / 10) ++ (48 + number % 10) ∷ []

-- the number of facts in ten digits, one space, the digest in 64 hexadecimal digits, a line feed
abbrev pub head_text : Head → List ℕ
head_text head = digits 10 head.facts ++ codes " " ++ encode_lower head.digest.bytes ++ codes "\n"

-- what every head is: its number is below 2 ^ 32, and its digest has 32 bytes
pub record IsHead (head : Head) : Type 0 where
  pub facts : head.facts < 2 ^ 32
  pub length : length head.digest.bytes ≡ 32
  pub bytes : IsBytes head.digest.bytes

-- the number that digits tell, whatever the bytes are
abbrev pub number_in : List ℕ → ℕ
number_in digits = fold (λ number digit. number * 10 + (digit - 48)) 0 digits

-- ---- what it tells of a book

-- the book has the facts that the head tells, and perhaps more after them
pub record Tells (head : Head) (facts : List Fact) : Type 0 where
  pub within : head.facts ≤ length facts
  pub chain : chain_of (take head.facts facts) ≡ head.digest

-- the book has fewer facts than the head tells, or others; or there was no memory to see it
abbrev pub IsHeadFault : Option Head → List Fact → StoreFault → Type 0
IsHeadFault (Some head) facts (Lost n) = (n ≡ head.facts) × ¬ Tells head facts
IsHeadFault (Some head) facts OutOfMemory = ⊤
IsHeadFault head facts _ = ⊥

-- what is read where there is no book: none, or that the facts are lost which the head tells
abbrev pub none_by : {X : Type 0} → Option Head → Result (Option X) StoreFault
none_by None = Ok None
none_by (Some head) = if head.facts == 0 then Ok None else Err (Lost head.facts)

-- ---- a head that is kept with its book

-- the head that a kept one becomes by these facts; a book of 4,294,967,295 facts and more counts as not loaded, and keeps none
abbrev pub told_after : Option Head → List Fact → Option Head
told_after None facts = None
told_after (Some head) facts = if nat_lt (head.facts + length facts) 4294967295 then Some (gone_on head facts) else None

-- the head that is kept on with a book that was read again and has so many facts
abbrev pub told_on : Option Head → Option ℕ → Option Head
told_on None loaded = None
told_on (Some head) None = None
told_on (Some head) (Some k) = if k == head.facts then Some head else None

-- the head that is kept with a book of these facts, where it is loaded
abbrev pub head_kept : Option ℕ → List Fact → Option Head
head_kept None facts = None
head_kept (Some k) facts = Some (head_of facts)
