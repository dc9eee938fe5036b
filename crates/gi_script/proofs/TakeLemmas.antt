-- What is read of a word is read of the words that it begins.
use Rattle.std.proofs.Common.{◌≡◌, ◌≢◌, ◌⊎◌, inl, inr, ℕ, List, ◌∷◌, Option, Some, None, Result, Ok, Err, refl, subst, sym, ◌∙◌, codes}
use Rattle.std.specs.Option.{ok_or}
use Rattle.std.specs.Str.{IsUtf8}
use Rattle.gi_pairs.specs.Side.{side_text}
use Rattle.gi_pairs.specs.declared.side.Side.{Side}
use Rattle.gi_desk.specs.declared.call.Call.{Call}
use Rattle.gi_script.specs.Grammar.{Says, SaysCall, SaysCommand, SaysPlan, Spells}
use Rattle.gi_script.specs.Reading.{Finds, Takes, Reads}
use Rattle.gi_script.specs.Verb.{verb_text}
use Rattle.gi_script.specs.Words.{words_of}
use Rattle.gi_script.specs.declared.fault.LineFault.{LineFault}
use Rattle.gi_script.specs.declared.fault.LineFault.TheVariants as faults
use Rattle.gi_script.specs.declared.instruction.Instruction.{Instruction}
use Rattle.gi_script.specs.declared.instruction.Instruction.TheVariants as instructions
use Rattle.gi_script.specs.declared.verb.Verb.{Verb}
use Rattle.gi_script.specs.declared.verb.Verb.TheVariants as verbs
use Rattle.gi_script.proofs.NameLemmas.{plan_no_side, side-one, verb-one}

pub takes_next : {X : Type 0} (R : List ℕ → X → Type 0) (words : List (List ℕ)) (word : List ℕ) (rest : List (List ℕ)) (r : Option X)
    → words ≡ word ∷ rest → Finds (R word) r → Takes R words r rest
takes_next R words word rest (Some x) first is = (word, first, is)
takes_next R words word rest None first none =
    λ w others x begins is. let same : w ≡ word = cc in none x (subst (λ (v : List ℕ). R v x) same is)

-- the same of all words that say so
says_again : (all rest : List (List ℕ)) (side : Side) (verb : Verb) (instruction : Instruction) → all ≡ side_text side ∷ verb_text verb ∷ rest → SaysCommand all instruction → Says verb side rest instruction
says_again all rest side verb instruction begins is =
    let same = sym is.are ∙ begins in
    let sides : side_text is.side ≡ side_text side = cc in
    let verbs : verb_text is.verb ≡ verb_text verb = cc in
    let rests : is.rest ≡ rest = cc in
    subst (λ (v : Verb). Says v side rest instruction) (verb-one is.verb verb verbs)
    (subst (λ (s : Side). Says is.verb s rest instruction) (side-one is.side side sides) (subst (λ (r : List (List ℕ)). Says is.verb is.side r instruction) rests is.says))

pub command_read : (all rest : List (List ℕ)) (side : Side) (verb : Verb) (r : Result Instruction LineFault) → all ≡ side_text side ∷ verb_text verb ∷ rest → Reads (Says verb side rest) r → Reads (SaysCommand all) r
command_read all rest side verb (Ok x) begins is = record { side = side; verb = verb; rest = rest; are = begins; says = is }
command_read all rest side verb (Err faults.Unreadable) begins none = λ x is. none x (says_again all rest side verb x begins is)
command_read all rest side verb (Err faults.OutOfMemory) begins none = tt

-- ---- what is found or unreadable

pub found_read : {X : Type 0} (R : X → Type 0) (found : Option X) (x : X) → Finds R found → Ok x ≡ ok_or found faults.Unreadable → R x
found_read R (Some y) x is e = let same : y ≡ x = cc in subst R same is
found_read R None x is e = absurd cc

-- what says so says what would be found
pub none_read : {X Y : Type 0} (R : X → Type 0) (S : Y → Type 0) (found : Option X) (why : LineFault) → Finds R found → ((y : Y) → S y → (x : X) × R x) → Err why ≡ ok_or found faults.Unreadable → Reads S (Err why)
none_read R S (Some x) why is says e = absurd cc
none_read R S None faults.Unreadable none says e = λ y so. let found = says y so in none found.0 found.1
none_read R S None faults.OutOfMemory none says e = tt

-- ---- verbs that a script shares with the requests

pub call_says : (verb : Verb) (side : Side) (words : List (List ℕ)) (call : Call) → verb ≢ verbs.Save → verb ≢ verbs.Deliver → verb ≢ verbs.Restart → verb ≢ verbs.Carry
    → SaysCall verb words call → Says verb side words (instructions.Call side call)
call_says verbs.Save side words call save deliver restart carry is = absurd (save refl)
call_says verbs.Deliver side words call save deliver restart carry is = absurd (deliver refl)
call_says verbs.Restart side words call save deliver restart carry is = absurd (restart refl)
call_says verbs.Carry side words call save deliver restart carry is = absurd (carry refl)
call_says verb side words call save deliver restart carry is = (call, refl, is)

says_call : (verb : Verb) (side : Side) (words : List (List ℕ)) (x : Instruction) → verb ≢ verbs.Save → verb ≢ verbs.Deliver → verb ≢ verbs.Restart → verb ≢ verbs.Carry
    → Says verb side words x → (call : Call) × SaysCall verb words call
says_call verbs.Save side words x save deliver restart carry is = absurd (save refl)
says_call verbs.Deliver side words x save deliver restart carry is = absurd (deliver refl)
says_call verbs.Restart side words x save deliver restart carry is = absurd (restart refl)
says_call verbs.Carry side words x save deliver restart carry is = absurd (carry refl)
says_call verb side words x save deliver restart carry is = (is.0, is.2)

pub no_call_says : (verb : Verb) (side : Side) (words : List (List ℕ)) (fault : LineFault) → verb ≢ verbs.Save → verb ≢ verbs.Deliver → verb ≢ verbs.Restart → verb ≢ verbs.Carry
    → Reads (SaysCall verb words) (Err fault) → Reads (Says verb side words) (Err fault)
no_call_says verb side words faults.Unreadable save deliver restart carry none = λ x says. let found = says_call verb side words x save deliver restart carry says in none found.0 found.1
no_call_says verb side words faults.OutOfMemory save deliver restart carry none = tt

-- ---- lines

plan_only : (line : List ℕ) (rest : List (List ℕ)) (x : Instruction) → words_of line ≡ codes "plan" ∷ rest → SaysPlan (words_of line) x ⊎ SaysCommand (words_of line) x → SaysPlan (codes "plan" ∷ rest) x
plan_only line rest x begins (inl is) = subst (λ (ws : List (List ℕ)). SaysPlan ws x) begins is
plan_only line rest x begins (inr is) =
    let same = sym is.are ∙ begins in
    let first : codes "plan" ≡ side_text is.side = cc in
    absurd (plan_no_side is.side first)

pub plan_spelled : (line : List ℕ) (rest : List (List ℕ)) (r : Result Instruction LineFault) → IsUtf8 line → words_of line ≡ codes "plan" ∷ rest → Reads (SaysPlan (codes "plan" ∷ rest)) r → Reads (Spells line) r
plan_spelled line rest (Ok x) text begins is = record { text = text; says = inl (subst (λ (ws : List (List ℕ)). SaysPlan ws x) (sym begins) is) }
plan_spelled line rest (Err faults.Unreadable) text begins none = λ x is. none x (plan_only line rest x begins is.says)
plan_spelled line rest (Err faults.OutOfMemory) text begins none = tt

command_only : (line first : List ℕ) (rest : List (List ℕ)) (x : Instruction) → words_of line ≡ first ∷ rest → first ≢ codes "plan" → SaysPlan (words_of line) x ⊎ SaysCommand (words_of line) x → SaysCommand (first ∷ rest) x
command_only line first rest x begins other (inl is) =
    let same = sym is.are ∙ begins in
    let plan : first ≡ codes "plan" = cc in
    absurd (other plan)
command_only line first rest x begins other (inr is) = subst (λ (ws : List (List ℕ)). SaysCommand ws x) begins is

pub command_spelled : (line first : List ℕ) (rest : List (List ℕ)) (r : Result Instruction LineFault) → IsUtf8 line → words_of line ≡ first ∷ rest → first ≢ codes "plan" → Reads (SaysCommand (first ∷ rest)) r → Reads (Spells line) r
command_spelled line first rest (Ok x) text begins other is = record { text = text; says = inr (subst (λ (ws : List (List ℕ)). SaysCommand ws x) (sym begins) is) }
command_spelled line first rest (Err faults.Unreadable) text begins other none = λ x is. none x (command_only line first rest x begins other is.says)
command_spelled line first rest (Err faults.OutOfMemory) text begins other none = tt
