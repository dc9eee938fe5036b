-- What the lines of a script say, and what a request asks.
use Rattle.std.specs.Prelude.{◌≡◌, ◌⊎◌, ℕ, List, [], ◌∷◌, map, codes}
use Rattle.std.specs.Str.{IsUtf8}
use Rattle.jiff_core.specs.declared.civil.date.Date.{Date}
use Rattle.gi_day.specs.Day.{IsGasYear, day_text}
use Rattle.gi_pairs.specs.Code.{IsCode}
use Rattle.gi_pairs.specs.Direction.{direction_text}
use Rattle.gi_pairs.specs.Quantity.{most_quantity}
use Rattle.gi_pairs.specs.Side.{side_text}
use Rattle.gi_pairs.specs.declared.cycle_id.CycleId.{CycleId}
use Rattle.gi_pairs.specs.declared.direction.Direction.{Direction}
use Rattle.gi_pairs.specs.declared.side.Side.{Side}
use Rattle.gi_processing.specs.declared.contract.Contract.{Contract}
use Rattle.gi_processing.specs.declared.notice.Notice.{Notice}
use Rattle.gi_processing.specs.declared.rule.Rule.{Rule}
use Rattle.gi_processing.specs.declared.rule.Rule.TheVariants.{Two}
use Rattle.gi_desk.specs.declared.call.Call.{Call}
use Rattle.gi_desk.specs.declared.call.Call.TheVariants as calls
use Rattle.gi_carrier.specs.Carrier.{IsPlan}
use Rattle.gi_carrier.specs.Moves.{move_text}
use Rattle.gi_carrier.specs.declared.moves.Move.{Move}
use Rattle.gi_script.specs.Numbers.{IsNumber, IsCount, most_byte, most_permille, most_number}
use Rattle.gi_script.specs.RuleText.{rule_text}
use Rattle.gi_script.specs.Verb.{verb_text}
use Rattle.gi_script.specs.Words.{words_of}
use Rattle.gi_script.specs.declared.instruction.Instruction.{Instruction}
use Rattle.gi_script.specs.declared.instruction.Instruction.TheVariants as instructions
use Rattle.gi_script.specs.declared.verb.Verb.{Verb}
use Rattle.gi_script.specs.declared.verb.Verb.TheVariants as verbs

-- ---- one word

abbrev pub IsCodeWord : List ℕ → List ℕ → Type 0
IsCodeWord word code = (word ≡ code) × IsCode code

abbrev pub IsDayWord : List ℕ → Date → Type 0
IsDayWord word day = (word ≡ day_text day) × IsGasYear day.year

abbrev pub IsDirectionWord : List ℕ → Direction → Type 0
IsDirectionWord word direction = word ≡ direction_text direction

-- `1` or `2`, and nothing else
abbrev pub IsRuleWord : List ℕ → Rule → Type 0
IsRuleWord word rule = word ≡ rule_text rule

abbrev pub IsSideWord : List ℕ → Side → Type 0
IsSideWord word side = word ≡ side_text side

abbrev pub IsVerbWord : List ℕ → Verb → Type 0
IsVerbWord word verb = word ≡ verb_text verb

-- ---- what follows a verb

-- `PORTFOLIO DAY DIRECTION FIRM INTERRUPTIBLE`
pub record SaysContract (words : List (List ℕ)) (contract : Contract) : Type 0 where
  pub portfolio : List ℕ
  pub day : List ℕ
  pub direction : List ℕ
  pub firm : List ℕ
  pub interruptible : List ℕ
  pub are : words ≡ portfolio ∷ day ∷ direction ∷ firm ∷ interruptible ∷ []
  pub is_portfolio : IsCodeWord portfolio contract.portfolio
  pub is_day : IsDayWord day contract.day
  pub is_direction : IsDirectionWord direction contract.direction
  pub is_firm : IsNumber most_quantity firm contract.firm
  pub is_interruptible : IsNumber most_quantity interruptible contract.interruptible

-- `DAY DIRECTION FIRST LAST FIRM INTERRUPTIBLE`
pub record SaysNotice (words : List (List ℕ)) (notice : Notice) : Type 0 where
  pub day : List ℕ
  pub direction : List ℕ
  pub first : List ℕ
  pub last : List ℕ
  pub firm : List ℕ
  pub interruptible : List ℕ
  pub are : words ≡ day ∷ direction ∷ first ∷ last ∷ firm ∷ interruptible ∷ []
  pub is_day : IsDayWord day notice.day
  pub is_direction : IsDirectionWord direction notice.direction
  pub is_first : IsNumber most_byte first notice.first
  pub is_last : IsNumber most_byte last notice.last
  pub is_firm : IsNumber most_permille firm notice.firm
  pub is_interruptible : IsNumber most_permille interruptible notice.interruptible

-- `DAY CYCLE`
pub record SaysCycle (words : List (List ℕ)) (id : CycleId) : Type 0 where
  pub day : List ℕ
  pub cycle : List ℕ
  pub are : words ≡ day ∷ cycle ∷ []
  pub is_day : IsDayWord day id.day
  pub is_cycle : IsNumber most_byte cycle id.cycle

-- which rule is named behind a cycle: rule 2 where none is
abbrev pub IsRuleAfter : List (List ℕ) → Rule → Type 0
IsRuleAfter [] rule = rule ≡ Two
IsRuleAfter (word ∷ []) rule = IsRuleWord word rule
IsRuleAfter (word ∷ next ∷ others) rule = ⊥

-- `DAY CYCLE`, and `DAY CYCLE RULE`
pub record SaysClosing (words : List (List ℕ)) (id : CycleId) (rule : Rule) : Type 0 where
  pub day : List ℕ
  pub cycle : List ℕ
  pub others : List (List ℕ)
  pub are : words ≡ day ∷ cycle ∷ others
  pub is_day : IsDayWord day id.day
  pub is_cycle : IsNumber most_byte cycle id.cycle
  pub is_rule : IsRuleAfter others rule

-- `COUNT`
pub record SaysCount (words : List (List ℕ)) (count : ℕ) : Type 0 where
  pub word : List ℕ
  pub are : words ≡ word ∷ []
  pub is_count : IsCount word count

-- `NUMBER`, or `KEEP`
pub record SaysNumber (words : List (List ℕ)) (number : ℕ) : Type 0 where
  pub word : List ℕ
  pub are : words ≡ word ∷ []
  pub is_number : IsNumber most_number word number

-- `MOVES`
pub record SaysMoves (words : List (List ℕ)) (moves : List Move) : Type 0 where
  pub are : words ≡ map move_text moves
  pub plan : IsPlan moves

-- ---- lines

-- what `VERB` and these words ask of a desk, which is not asked to save, restart or carry; what follows `submit` or `deliver`
-- and a space is the body, spaces and all
abbrev pub SaysCall : Verb → List (List ℕ) → Call → Type 0
SaysCall verbs.Contract words call = (contract : Contract) × (call ≡ calls.Contract contract) × SaysContract words contract
SaysCall verbs.Notice words call = (notice : Notice) × (call ≡ calls.Notice notice) × SaysNotice words notice
SaysCall verbs.Submit words call = (body : List ℕ) × (call ≡ calls.Submit body) × (words ≡ words_of body)
SaysCall verbs.Close words call =
    (closing : CycleId × Rule) × (call ≡ calls.Close closing.0 closing.1) × SaysClosing words closing.0 closing.1
SaysCall verbs.Resend words call = (id : CycleId) × (call ≡ calls.Resend id) × SaysCycle words id
SaysCall verbs.Halt words call = (call ≡ calls.Halt) × (words ≡ [])
SaysCall verbs.Deliver words call = (body : List ℕ) × (call ≡ calls.Deliver body) × (words ≡ words_of body)
SaysCall verbs.Save words call = ⊥
SaysCall verbs.Restart words call = ⊥
SaysCall verbs.Carry words call = ⊥

-- what `SIDE VERB` and these words say: what they ask of that side's desk, or what a script alone says; its `deliver` has a
-- packet's number
abbrev pub Says : Verb → Side → List (List ℕ) → Instruction → Type 0
Says verbs.Save side words instruction =
    (count : ℕ) × (instruction ≡ instructions.Save side count) × SaysCount words count
Says verbs.Deliver side words instruction =
    (packet : ℕ) × (instruction ≡ instructions.Deliver side packet) × SaysNumber words packet
Says verbs.Restart side words instruction =
    (keep : ℕ) × (instruction ≡ instructions.Restart side keep) × SaysNumber words keep
Says verbs.Carry side words instruction = (instruction ≡ instructions.Carry side) × (words ≡ [])
Says verb side words instruction =
    (call : Call) × (instruction ≡ instructions.Call side call) × SaysCall verb words call

-- `SIDE VERB` and what the verb wants
pub record SaysCommand (words : List (List ℕ)) (instruction : Instruction) : Type 0 where
  pub side : Side
  pub verb : Verb
  pub rest : List (List ℕ)
  pub are : words ≡ side_text side ∷ verb_text verb ∷ rest
  pub says : Says verb side rest instruction

-- `plan SIDE MOVES`
pub record SaysPlan (words : List (List ℕ)) (instruction : Instruction) : Type 0 where
  pub side : Side
  pub moves : List Move
  pub rest : List (List ℕ)
  pub are : words ≡ codes "plan" ∷ side_text side ∷ rest
  pub is_moves : SaysMoves rest moves
  pub is : instruction ≡ instructions.Plan side moves

-- A line spells an instruction: it is UTF-8, and its words, parted by one space each, say it.
pub record Spells (line : List ℕ) (instruction : Instruction) : Type 0 where
  pub text : IsUtf8 line
  pub says : SaysPlan (words_of line) instruction ⊎ SaysCommand (words_of line) instruction

-- `point CODE`
pub record SpellsPoint (line : List ℕ) (point : List ℕ) : Type 0 where
  pub text : IsUtf8 line
  pub words : words_of line ≡ codes "point" ∷ point ∷ []
  pub code : IsCode point

-- A line asks an office that runs for a call: it is UTF-8, and its words, parted by one space each, are `VERB` and what the verb
-- wants of a desk. It names no side.
pub record Asks (line : List ℕ) (call : Call) : Type 0 where
  pub verb : Verb
  pub rest : List (List ℕ)
  pub text : IsUtf8 line
  pub are : words_of line ≡ verb_text verb ∷ rest
  pub says : SaysCall verb rest call
