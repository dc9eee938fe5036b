-- A line spells one instruction at most.
use Rattle.std.proofs.Common.{◌≡◌, ◌⊎◌, inl, inr, ℕ, List, [], ◌∷◌, map, Ok, Result, true, false, refl, sym, ap, ◌∙◌, subst, arith, codes}
use Rattle.std.specs.Str.Parse.{digits_value}
use Rattle.std.proofs.lemmas.Int.{ints}
use Rattle.std.proofs.lemmas.List.Splits.{join_with_byte-slice_split}
use Rattle.std.specs.List.{join_with_byte}
use Rattle.jiff_core.specs.declared.civil.date.Date.{Date}
use Rattle.std.proofs.lemmas.Slice.Eq.{bytes_eq-Decides}
use Rattle.gi_day.specs.Day.{IsDayText}
use Rattle.gi_day.specs.declared.gas_day.DayFault.{DayFault}
use Rattle.gi_day.proofs.DayLaws.{read-day_text}
use Rattle.gi_pairs.specs.Side.{side_text}
use Rattle.gi_pairs.specs.declared.cycle_id.CycleId.{CycleId}
use Rattle.gi_pairs.specs.declared.direction.Direction.{Direction}
use Rattle.gi_pairs.specs.declared.side.Side.{Side}
use Rattle.gi_processing.specs.declared.contract.Contract.{Contract}
use Rattle.gi_processing.specs.declared.notice.Notice.{Notice}
use Rattle.gi_processing.specs.declared.rule.Rule.{Rule}
use Rattle.gi_processing.specs.declared.rule.Rule.TheVariants.{One, Two}
use Rattle.gi_desk.specs.declared.call.Call.{Call}
use Rattle.gi_desk.specs.declared.call.Call.TheVariants as calls
use Rattle.gi_carrier.specs.declared.moves.Move.{Move}
use Rattle.gi_script.specs.Numbers.{IsNumber}
use Rattle.gi_carrier.specs.Moves.{move_text}
use Rattle.gi_script.specs.Verb.{verb_text}
use Rattle.gi_script.specs.Words.{space, words_of}
use Rattle.gi_script.specs.Grammar.{IsDayWord, IsDirectionWord, IsRuleAfter, IsRuleWord, Says, SaysCall, SaysClosing, SaysContract, SaysNotice, SaysCycle, SaysCount, SaysNumber, SaysMoves, SaysCommand, SaysPlan, SpellsPoint}
use Rattle.gi_script.specs.Laws.{IsOneInstruction}
use Rattle.gi_script.specs.declared.instruction.Instruction.{Instruction}
use Rattle.gi_script.specs.declared.instruction.Instruction.TheVariants as instructions
use Rattle.gi_script.specs.declared.verb.Verb.{Verb}
use Rattle.gi_script.specs.declared.verb.Verb.TheVariants as verbs
use Rattle.gi_script.proofs.NameLemmas.{direction-one, move-one, plan_no_side, side-one, verb-one}

-- ---- one word

number-one : (most : ℕ) (word other : List ℕ) (a b : ℕ) → word ≡ other → IsNumber most word a → IsNumber most other b → a ≡ b
number-one most word other a b same x y = x.value ∙ ap (digits_value 10) same ∙ sym y.value

same_ok : (a b : Date) (r : Result Date DayFault) → r ≡ Ok a → r ≡ Ok b → a ≡ b
same_ok a b r x y = cc

is_day : (word : List ℕ) (a : Date) → IsDayWord word a → IsDayText a word
is_day word a x = (let year = x.1 in grind (arith, ints, year.0), x.0)

day-one : (word other : List ℕ) (a b : Date) → word ≡ other → IsDayWord word a → IsDayWord other b → a ≡ b
day-one word other a b same x y = same_ok a b (Ok a) refl (read-day_text word (Ok a) (x.1, is_day word a x) b y.1 (same ∙ y.0))

way-one : (word other : List ℕ) (a b : Direction) → word ≡ other → IsDirectionWord word a → IsDirectionWord other b → a ≡ b
way-one word other a b same x y = direction-one a b (sym x ∙ same ∙ y)

-- ---- what follows a verb

contract-one : (words : List (List ℕ)) (a b : Contract) → SaysContract words a → SaysContract words b → a ≡ b
contract-one words a b x y =
    let same = sym x.are ∙ y.are in
    let portfolios : x.portfolio ≡ y.portfolio = cc in
    let days : x.day ≡ y.day = cc in
    let directions : x.direction ≡ y.direction = cc in
    let firms : x.firm ≡ y.firm = cc in
    let interruptibles : x.interruptible ≡ y.interruptible = cc in
    let portfolio = sym x.is_portfolio.0 ∙ portfolios ∙ y.is_portfolio.0 in
    let day = day-one x.day y.day a.day b.day days x.is_day y.is_day in
    let direction = way-one x.direction y.direction a.direction b.direction directions x.is_direction y.is_direction in
    let firm = number-one _ x.firm y.firm a.firm b.firm firms x.is_firm y.is_firm in
    let interruptible = number-one _ x.interruptible y.interruptible a.interruptible b.interruptible interruptibles x.is_interruptible y.is_interruptible in
    λ i. record { portfolio = portfolio i; day = day i; direction = direction i; firm = firm i; interruptible = interruptible i }

notice-one : (words : List (List ℕ)) (a b : Notice) → SaysNotice words a → SaysNotice words b → a ≡ b
notice-one words a b x y =
    let same = sym x.are ∙ y.are in
    let days : x.day ≡ y.day = cc in
    let directions : x.direction ≡ y.direction = cc in
    let firsts : x.first ≡ y.first = cc in
    let lasts : x.last ≡ y.last = cc in
    let firms : x.firm ≡ y.firm = cc in
    let interruptibles : x.interruptible ≡ y.interruptible = cc in
    let day = day-one x.day y.day a.day b.day days x.is_day y.is_day in
    let direction = way-one x.direction y.direction a.direction b.direction directions x.is_direction y.is_direction in
    let first = number-one _ x.first y.first a.first b.first firsts x.is_first y.is_first in
    let last = number-one _ x.last y.last a.last b.last lasts x.is_last y.is_last in
    let firm = number-one _ x.firm y.firm a.firm b.firm firms x.is_firm y.is_firm in
    let interruptible = number-one _ x.interruptible y.interruptible a.interruptible b.interruptible interruptibles x.is_interruptible y.is_interruptible in
    λ i. record { day = day i; direction = direction i; first = first i; last = last i; firm = firm i; interruptible = interruptible i }

cycle-one : (words : List (List ℕ)) (a b : CycleId) → SaysCycle words a → SaysCycle words b → a ≡ b
cycle-one words a b x y =
    let same = sym x.are ∙ y.are in
    let days : x.day ≡ y.day = cc in
    let cycles : x.cycle ≡ y.cycle = cc in
    let day = day-one x.day y.day a.day b.day days x.is_day y.is_day in
    let cycle = number-one _ x.cycle y.cycle a.cycle b.cycle cycles x.is_cycle y.is_cycle in
    λ i. record { day = day i; cycle = cycle i }

one_no_two : codes "1" ≡ codes "2" → ⊥
one_no_two e = let same : false ≡ true = (bytes_eq-Decides (codes "1") (codes "2")).1 e in absurd cc

rule-one : (word other : List ℕ) (a b : Rule) → word ≡ other → IsRuleWord word a → IsRuleWord other b → a ≡ b
rule-one word other One One same x y = refl
rule-one word other One Two same x y = absurd (one_no_two (sym x ∙ same ∙ y))
rule-one word other Two One same x y = absurd (one_no_two (sym (sym x ∙ same ∙ y)))
rule-one word other Two Two same x y = refl

rule_after-one : (words : List (List ℕ)) (a b : Rule) → IsRuleAfter words a → IsRuleAfter words b → a ≡ b
rule_after-one [] a b x y = x ∙ sym y
rule_after-one (word ∷ []) a b x y = rule-one word word a b refl x y
rule_after-one (word ∷ next ∷ others) a b x y = absurd x

closing-one : (words : List (List ℕ)) (a b : CycleId × Rule) → SaysClosing words a.0 a.1 → SaysClosing words b.0 b.1 → (a.0 ≡ b.0) × (a.1 ≡ b.1)
closing-one words a b x y =
    let same = sym x.are ∙ y.are in
    let days : x.day ≡ y.day = cc in
    let cycles : x.cycle ≡ y.cycle = cc in
    let others : x.others ≡ y.others = cc in
    let day = day-one x.day y.day a.0.day b.0.day days x.is_day y.is_day in
    let cycle = number-one _ x.cycle y.cycle a.0.cycle b.0.cycle cycles x.is_cycle y.is_cycle in
    let rule = rule_after-one y.others a.1 b.1 (subst (λ (ws : List (List ℕ)). IsRuleAfter ws a.1) others x.is_rule) y.is_rule in
    (λ i. record { day = day i; cycle = cycle i }, rule)

count-one : (words : List (List ℕ)) (a b : ℕ) → SaysCount words a → SaysCount words b → a ≡ b
count-one words a b x y =
    let same = sym x.are ∙ y.are in
    let word : x.word ≡ y.word = cc in
    number-one _ x.word y.word a b word x.is_count.number y.is_count.number

figure-one : (words : List (List ℕ)) (a b : ℕ) → SaysNumber words a → SaysNumber words b → a ≡ b
figure-one words a b x y =
    let same = sym x.are ∙ y.are in
    let word : x.word ≡ y.word = cc in
    number-one _ x.word y.word a b word x.is_number y.is_number

pub texts-one : (a b : List Move) → map move_text a ≡ map move_text b → a ≡ b
texts-one [] [] e = cc
texts-one [] (y ∷ ys) e = absurd cc
texts-one (x ∷ xs) [] e = absurd cc
texts-one (x ∷ xs) (y ∷ ys) e =
    let first : move_text x ≡ move_text y = cc in
    let rest : map move_text xs ≡ map move_text ys = cc in
    let same = move-one x y first in
    let others = texts-one xs ys rest in
    cc

moves-one : (words : List (List ℕ)) (a b : List Move) → SaysMoves words a → SaysMoves words b → a ≡ b
moves-one words a b x y = texts-one a b (sym x.are ∙ y.are)

-- a text is its words, joined
body-one : (a b : List ℕ) → words_of a ≡ words_of b → a ≡ b
body-one a b e =
    let joined = ap (join_with_byte space) e in
    sym (join_with_byte-slice_split space a) ∙ joined ∙ join_with_byte-slice_split space b

-- ---- lines

pub call-one : (verb : Verb) (words : List (List ℕ)) (a b : Call) → SaysCall verb words a → SaysCall verb words b → a ≡ b
call-one verbs.Contract words a b x y = x.1 ∙ ap calls.Contract (contract-one words x.0 y.0 x.2 y.2) ∙ sym y.1
call-one verbs.Notice words a b x y = x.1 ∙ ap calls.Notice (notice-one words x.0 y.0 x.2 y.2) ∙ sym y.1
call-one verbs.Submit words a b x y = x.1 ∙ ap calls.Submit (body-one x.0 y.0 (sym x.2 ∙ y.2)) ∙ sym y.1
call-one verbs.Close words a b x y =
    let same = closing-one words x.0 y.0 x.2 y.2 in x.1 ∙ (λ i. calls.Close (same.0 i) (same.1 i)) ∙ sym y.1
call-one verbs.Resend words a b x y = x.1 ∙ ap calls.Resend (cycle-one words x.0 y.0 x.2 y.2) ∙ sym y.1
call-one verbs.Halt words a b x y = x.0 ∙ sym y.0
call-one verbs.Deliver words a b x y = x.1 ∙ ap calls.Deliver (body-one x.0 y.0 (sym x.2 ∙ y.2)) ∙ sym y.1
call-one verbs.Save words a b x y = absurd x
call-one verbs.Restart words a b x y = absurd x
call-one verbs.Carry words a b x y = absurd x

says-one : (verb : Verb) (side : Side) (words : List (List ℕ)) (a b : Instruction) → Says verb side words a → Says verb side words b → a ≡ b
says-one verbs.Save side words a b x y = x.1 ∙ ap (instructions.Save side) (count-one words x.0 y.0 x.2 y.2) ∙ sym y.1
says-one verbs.Deliver side words a b x y = x.1 ∙ ap (instructions.Deliver side) (figure-one words x.0 y.0 x.2 y.2) ∙ sym y.1
says-one verbs.Restart side words a b x y = x.1 ∙ ap (instructions.Restart side) (figure-one words x.0 y.0 x.2 y.2) ∙ sym y.1
says-one verbs.Carry side words a b x y = x.0 ∙ sym y.0
says-one verb side words a b x y = x.1 ∙ ap (instructions.Call side) (call-one verb words x.0 y.0 x.2 y.2) ∙ sym y.1

command-one : (words : List (List ℕ)) (a b : Instruction) → SaysCommand words a → SaysCommand words b → a ≡ b
command-one words a b x y =
    let same = sym x.are ∙ y.are in
    let sides : side_text y.side ≡ side_text x.side = cc in
    let verbs : verb_text y.verb ≡ verb_text x.verb = cc in
    let rests : y.rest ≡ x.rest = cc in
    let side = side-one y.side x.side sides in
    let verb = verb-one y.verb x.verb verbs in
    let says : Says x.verb x.side x.rest b =
    subst (λ (v : Verb). Says v x.side x.rest b) verb (subst (λ (s : Side). Says y.verb s x.rest b) side (subst (λ (r : List (List ℕ)). Says y.verb y.side r b) rests y.says)) in
    says-one x.verb x.side x.rest a b x.says says

plan-one : (words : List (List ℕ)) (a b : Instruction) → SaysPlan words a → SaysPlan words b → a ≡ b
plan-one words a b x y =
    let same = sym x.are ∙ y.are in
    let sides : side_text x.side ≡ side_text y.side = cc in
    let rests : y.rest ≡ x.rest = cc in
    let side = side-one x.side y.side sides in
    let moves = moves-one x.rest x.moves y.moves x.is_moves (subst (λ (r : List (List ℕ)). SaysMoves r y.moves) rests y.is_moves) in
    x.is ∙ ap (λ s. instructions.Plan s x.moves) side ∙ ap (instructions.Plan y.side) moves ∙ sym y.is

-- a line that begins with `plan` does not begin with a side
pub plan_or_command : (words : List (List ℕ)) (a b : Instruction) → SaysPlan words a → SaysCommand words b → ⊥
plan_or_command words a b x y =
    let same = sym x.are ∙ y.are in
    let first : codes "plan" ≡ side_text y.side = cc in
    plan_no_side y.side first

words-one : (words : List (List ℕ)) (a b : Instruction) → SaysPlan words a ⊎ SaysCommand words a → SaysPlan words b ⊎ SaysCommand words b → a ≡ b
words-one words a b (inl x) (inl y) = plan-one words a b x y
words-one words a b (inl x) (inr y) = absurd (plan_or_command words a b x y)
words-one words a b (inr x) (inl y) = absurd (plan_or_command words b a y x)
words-one words a b (inr x) (inr y) = command-one words a b x y

pub instruction-one : IsOneInstruction
instruction-one line a b x y = words-one (words_of line) a b x.says y.says

pub point-one : (line a b : List ℕ) → SpellsPoint line a → SpellsPoint line b → a ≡ b
point-one line a b x y = let same = sym x.words ∙ y.words in cc
