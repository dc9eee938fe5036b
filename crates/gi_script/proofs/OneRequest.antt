-- A line asks for one call at most, and what is read of a verb's words is read of the line.
use Rattle.std.proofs.Common.{◌≡◌, ℕ, List, ◌∷◌, Result, Ok, Err, refl, sym, ◌∙◌, subst}
use Rattle.std.specs.Prelude.{MatchResult}
use Rattle.std.specs.Str.{IsUtf8}
use Rattle.gi_desk.specs.declared.call.Call.{Call}
use Rattle.gi_script.specs.Grammar.{Asks, SaysCall}
use Rattle.gi_script.specs.Laws.{IsOneRequest}
use Rattle.gi_script.specs.Reading.{Reads}
use Rattle.gi_script.specs.Verb.{verb_text}
use Rattle.gi_script.specs.Words.{words_of}
use Rattle.gi_script.specs.declared.fault.LineFault.{LineFault}
use Rattle.gi_script.specs.declared.fault.LineFault.TheVariants as faults
use Rattle.gi_script.specs.declared.verb.Verb.{Verb}
use Rattle.gi_script.proofs.NameLemmas.{verb-one}
use Rattle.gi_script.proofs.OneInstruction.{call-one}

-- the same of all words that ask for it
asks_again : (line : List ℕ) (verb : Verb) (rest : List (List ℕ)) (call : Call) → words_of line ≡ verb_text verb ∷ rest → Asks line call → SaysCall verb rest call
asks_again line verb rest call begins is =
    let same = sym is.are ∙ begins in
    let verbs : verb_text is.verb ≡ verb_text verb = cc in
    let rests : is.rest ≡ rest = cc in
    subst (λ (v : Verb). SaysCall v rest call) (verb-one is.verb verb verbs) (subst (λ (r : List (List ℕ)). SaysCall is.verb r call) rests is.says)

pub request-one : IsOneRequest
request-one line a b x y = call-one x.verb x.rest a b x.says (asks_again line x.verb x.rest b x.are y)

pub request_read : (line : List ℕ) (verb : Verb) (rest : List (List ℕ)) (r : Result Call LineFault) → IsUtf8 line → words_of line ≡ verb_text verb ∷ rest → Reads (SaysCall verb rest) r → Reads (Asks line) r
request_read line verb rest (Ok x) text begins is = record { verb = verb; rest = rest; text = text; are = begins; says = is }
request_read line verb rest (Err faults.Unreadable) text begins none = λ x is. none x (asks_again line verb rest x begins is)
request_read line verb rest (Err faults.OutOfMemory) text begins none = tt

-- what a line that asks for a call is answered
pub only-asked : (line : List ℕ) (r : Result Call LineFault) → Reads (Asks line) r → (call : Call) → Asks line call → MatchResult r (λ read. read ≡ call) (λ fault. fault ≡ faults.OutOfMemory)
only-asked line (Ok x) read call is = request-one line x call read is
only-asked line (Err faults.Unreadable) none call is = absurd (none call is)
only-asked line (Err faults.OutOfMemory) read call is = refl
