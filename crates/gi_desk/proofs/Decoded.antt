-- What is known of a message that was decoded, and of one that was not for want of memory.
use Rattle.std.proofs.Common.{arith, ◌≡◌, ◌<◌, ◌≤◌, ℕ, List, length, Bool, true, false, cond, nat_le, Option, Some, None, Result, Err, sym, ◌∙◌, refl}
use Rattle.std.specs.Str.{IsUtf8, is_utf8}
use Rattle.std.proofs.lemmas.Bool.{and_from, both_ways}
use Rattle.std.proofs.lemmas.Bool.Decides.{nat_tests}
use Rattle.std.proofs.lemmas.Str.{is_utf8-from_IsUtf8}
use Rattle.gi_messages.specs.declared.message.Message.{Message}
use Rattle.gi_messages.specs.declared.message.Message.TheVariants.{Nomint, Acknow, Nomres, Delord, Delres}
use Rattle.gi_messages.specs.declared.message_fault.MessageFault.{MessageFault}
use Rattle.gi_messages.specs.declared.message_fault.MessageFault.TheVariants as faults
use Rattle.gi_messages.specs.Grammar.{Fits, Spells}
use Rattle.gi_messages.specs.Json.{json_of}
use Rattle.gi_messages.specs.Limits.{elements_of, most_bytes, most_confirmed_elements}
use Rattle.gi_messages.proofs.WritingLemmas.{fits_from_writable}
use Rattle.gi_desk.specs.Deciding.{IsReceivable}
use Rattle.gi_desk.specs.Machine.{can_be_read}

-- no rows are few
few_none : (most parts : ℕ) → 0 ≤ elements_of most parts
few_none most parts = omega arith

-- an order and a response that fit can be read
pub fits_receivable : (message : Message) → Fits message → IsReceivable message
fits_receivable (Nomint message) fits = tt
fits_receivable (Acknow message) fits = tt
fits_receivable (Nomres message) fits = tt
fits_receivable (Delord message) fits = record {
  from = fits.part_from;
  to = fits.part_to;
  few_parts = fits.few_parts;
  few = fits.few;
  few_confirmed = few_none most_confirmed_elements message.parts;
  same_hours = tt;
}
fits_receivable (Delres message) fits = record {
  from = fits.part_from;
  to = fits.part_to;
  few_parts = fits.few_parts;
  few = fits.few;
  few_confirmed = fits.few_confirmed;
  same_hours = record { first = sym fits.begins; last = sym fits.ends };
}

-- and so what was decoded
pub spelled-receivable : (bytes : List ℕ) (message : Message) → Spells bytes message → IsReceivable message
spelled-receivable bytes message spells = fits_receivable message (fits_from_writable message (spells.value, spells.stands))

-- and its bytes can be read
json_text : {X : Type 0} (b : Bool) (found : Option X) (value : X) → cond b found None ≡ Some value → b ≡ true
json_text true found value is = refl
json_text false found value is = absurd cc

pub spelled-readable : (bytes : List ℕ) (message : Message) → Spells bytes message → can_be_read bytes ≡ true
unfolding json_of
spelled-readable bytes message spells =
    let short = spells.short in
    and_from (nat_le (length bytes) most_bytes) (is_utf8 bytes) (grind (arith, nat_tests, short)) (json_text (is_utf8 bytes) _ spells.value spells.json)

abbrev of_message : MessageFault → Result Message MessageFault
of_message fault = Err fault

-- so can bytes for which memory ran out
pub short-readable : (bytes : List ℕ) (r : Result Message MessageFault) → r ≡ Err faults.OutOfMemory → (most_bytes < length bytes → r ≡ Err faults.TooLarge)
    → (length bytes ≤ most_bytes → (IsUtf8 bytes → ⊥) → r ≡ Err faults.NotJson) → can_be_read bytes ≡ true
short-readable bytes r short large no_text =
    let fits = by_size (nat_le (length bytes) most_bytes) refl in and_from (nat_le (length bytes) most_bytes) (is_utf8 bytes) fits (by_text (is_utf8 bytes) refl (grind (arith, nat_tests, fits)))
  where
    large_no_more : of_message faults.OutOfMemory ≡ of_message faults.TooLarge → ⊥
    large_no_more e = cc

    json_no_more : of_message faults.OutOfMemory ≡ of_message faults.NotJson → ⊥
    json_no_more e = cc

    by_size : (b : Bool) → nat_le (length bytes) most_bytes ≡ b → b ≡ true
    by_size true is = refl
    by_size false is = absurd (large_no_more (sym short ∙ large (grind (arith, nat_tests, is))))

    by_text : (b : Bool) → is_utf8 bytes ≡ b → length bytes ≤ most_bytes → b ≡ true
    by_text true is within = refl
    by_text false is within = absurd (json_no_more (sym short ∙ no_text within (λ text. both_ways (is_utf8 bytes) is (is_utf8-from_IsUtf8 bytes text))))
