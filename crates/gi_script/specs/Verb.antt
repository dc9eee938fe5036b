-- The words that say what a line asks of a side.
use Rattle.std.specs.Prelude.{ℕ, List, [], ◌∷◌, codes, find, Option}
use Rattle.std.specs.Str.{bytes_eq}
use Rattle.gi_carrier.specs.Moves.{move_text}
use Rattle.gi_carrier.specs.declared.moves.Move.{Move}
use Rattle.gi_carrier.specs.declared.moves.Move.TheVariants as moves
use Rattle.gi_script.specs.declared.verb.Verb.{Verb}
use Rattle.gi_script.specs.declared.verb.Verb.TheVariants.{Contract, Notice, Submit, Close, Resend, Halt, Save, Deliver, Restart, Carry}

abbrev pub verb_text : Verb → List ℕ
verb_text Contract = codes "contract"
verb_text Notice = codes "notice"
verb_text Submit = codes "submit"
verb_text Close = codes "close"
verb_text Resend = codes "resend"
verb_text Halt = codes "halt"
verb_text Save = codes "save"
verb_text Deliver = codes "deliver"
verb_text Restart = codes "restart"
verb_text Carry = codes "carry"

abbrev pub verbs : List Verb
verbs = Contract ∷ Notice ∷ Submit ∷ Close ∷ Resend ∷ Halt ∷ Save ∷ Deliver ∷ Restart ∷ Carry ∷ []

-- the verb of that text
unfoldable pub verb_named : List ℕ → Option Verb
verb_named text = find (λ verb. bytes_eq text (verb_text verb)) verbs

-- the move of that text
unfoldable pub move_named : List ℕ → Option Move
move_named text =
    find (λ move. bytes_eq text (move_text move)) (moves.Pass ∷ moves.Drop ∷ moves.Repeat ∷ moves.Hold ∷ [])
