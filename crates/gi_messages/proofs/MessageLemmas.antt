-- A message is read exactly where it stands in the relation.
use Rattle.std.proofs.Common.{◌≡◌, ℕ, ◌≤◌, Bool, true, false, cond, List, [], ◌∷◌, length, find, nat_lt, Option, Some, None, option_and_then, Result, Ok, Err, refl, sym, ap, ◌∙◌, subst, le-ltb, ltb-false}
use Rattle.std.specs.Prelude.{IfOk}
use Rattle.std.specs.Str.{IsUtf8, bytes_eq}
use Rattle.std.proofs.lemmas.Option.{same_Some, option_and_then_some}
use Rattle.std.proofs.lemmas.Slice.Eq.{bytes_eq-Decides}
use Rattle.serde_json.specs.Data.{Data, string}
use Rattle.serde_json.specs.Find.{get, as_str}
use Rattle.gi_messages.specs.declared.key.Key.TheVariants as keys
use Rattle.gi_messages.specs.declared.kind.Kind.{Kind}
use Rattle.gi_messages.specs.declared.kind.Kind.TheVariants as kinds
use Rattle.gi_messages.specs.declared.message.Nomint.{Nomint}
use Rattle.gi_messages.specs.declared.message.Acknow.{Acknow}
use Rattle.gi_messages.specs.declared.message.Nomres.{Nomres}
use Rattle.gi_messages.specs.declared.message.Delord.{Delord}
use Rattle.gi_messages.specs.declared.message.Delres.{Delres}
use Rattle.gi_messages.specs.declared.message.Message.{Message}
use Rattle.gi_messages.specs.declared.message.Message.TheVariants as messages
use Rattle.gi_messages.specs.Limits.{most_bytes}
use Rattle.gi_messages.specs.declared.message_fault.MessageFault.{MessageFault}
use Rattle.gi_messages.specs.declared.message_fault.MessageFault.TheVariants as faults
use Rattle.gi_messages.specs.Key.{key_text}
use Rattle.gi_messages.specs.Kind.{kind_text, kinds as kinds_of_messages, kind_named}
use Rattle.gi_messages.specs.Grammar.{IsOfKind, IsMessage, Spells}
use Rattle.gi_messages.specs.Json.{json_of}
use Rattle.gi_messages.specs.Reading.{Read, ◌>>=◌}
use Rattle.gi_messages.specs.Decoding.{nomint, acknow, nomres, delord, delres, kind_of, of_kind, named, if_kind, if_json, decoded, Gives}
use Rattle.gi_messages.proofs.FieldLemmas.{bind_ok, as_text}
use Rattle.gi_messages.proofs.HoursLemmas.{ok_is}
use Rattle.gi_messages.proofs.JsonLemmas.{json_of-refused}
use Rattle.gi_messages.proofs.NominationLemmas.{nomint_takes, nomint_again, acknow_takes, acknow_again, nomres_takes, nomres_again}
use Rattle.gi_messages.proofs.OrderLemmas.{delord_takes, delord_again, delres_takes, delres_again}

-- ---- which kind

kind_again : (kind : Kind) → kind_named (kind_text kind) ≡ Some kind
unfolding kind_named
kind_again kinds.Nomint = refl
kind_again kinds.Acknow = refl
kind_again kinds.Nomres = refl
kind_again kinds.Delord = refl
kind_again kinds.Delres = refl

pub kind_of-again : (kind : Kind) (d : Data) → IsOfKind kind d → kind_of d ≡ Some kind
unfolding kind_of
kind_of-again kind d h = ap (λ o. option_and_then kind_named (option_and_then as_str o)) h ∙ kind_again kind

-- what is found passes
here_or_later : {X : Type 0} (p : X → Bool) (x y : X) (rest : Option X) (b : Bool) → p y ≡ b → (rest ≡ Some x → p x ≡ true) → cond b (Some y) rest ≡ Some x → p x ≡ true
here_or_later p x y rest true is later e = ap p (sym (same_Some y x e)) ∙ is
here_or_later p x y rest false is later e = later e

pub found_passes : {X : Type 0} (p : X → Bool) (xs : List X) (x : X) → find p xs ≡ Some x → p x ≡ true
found_passes p [] x e = absurd cc
found_passes p (y ∷ ys) x e = here_or_later p x y (find p ys) (p y) refl (found_passes p ys x) e

kind_takes : (text : List ℕ) (kind : Kind) → kind_named text ≡ Some kind → text ≡ kind_text kind
unfolding kind_named
kind_takes text kind e = (bytes_eq-Decides text (kind_text kind)).0 (found_passes (λ k. bytes_eq text (kind_text k)) kinds_of_messages kind e)

pub kind_of-takes : (kind : Kind) (d : Data) → kind_of d ≡ Some kind → IsOfKind kind d
unfolding kind_of
kind_of-takes kind d e =
    option_and_then_some kind_named (option_and_then as_str (get (key_text keys.Kind) d)) kind e (λ text named is.
    option_and_then_some as_str (get (key_text keys.Kind) d) text named (λ v found written.
    found ∙ ap Some (as_text v text written ∙ ap string (kind_takes text kind is))))

-- ---- messages

of_kind-takes : (kind : Kind) (d : Data) (m : Message) → IsOfKind kind d → of_kind kind d ≡ Ok m → IsMessage d m
of_kind-takes kinds.Nomint d m is e =
    let b = bind_ok (nomint d) (λ found. Ok (messages.Nomint found)) m e in
    subst (IsMessage d) (ok_is (messages.Nomint b.0) m b.2) (is, nomint_takes d b.0 b.1)
of_kind-takes kinds.Acknow d m is e =
    let b = bind_ok (acknow d) (λ found. Ok (messages.Acknow found)) m e in
    subst (IsMessage d) (ok_is (messages.Acknow b.0) m b.2) (is, acknow_takes d b.0 b.1)
of_kind-takes kinds.Nomres d m is e =
    let b = bind_ok (nomres d) (λ found. Ok (messages.Nomres found)) m e in
    subst (IsMessage d) (ok_is (messages.Nomres b.0) m b.2) (is, nomres_takes d b.0 b.1)
of_kind-takes kinds.Delord d m is e =
    let b = bind_ok (delord d) (λ found. Ok (messages.Delord found)) m e in
    subst (IsMessage d) (ok_is (messages.Delord b.0) m b.2) (is, delord_takes d b.0 b.1)
of_kind-takes kinds.Delres d m is e =
    let b = bind_ok (delres d) (λ found. Ok (messages.Delres found)) m e in
    subst (IsMessage d) (ok_is (messages.Delres b.0) m b.2) (is, delres_takes d b.0 b.1)

if_kind-again : (d : Data) (m : Message) → IsMessage d m → if_kind d (kind_of d) ≡ Ok m
if_kind-again d (messages.Nomint m) h = ap (if_kind d) (kind_of-again kinds.Nomint d h.0) ∙ ap (λ (s : Read Nomint). named (s >>= λ found. Ok (messages.Nomint found))) (nomint_again d m h.1)
if_kind-again d (messages.Acknow m) h = ap (if_kind d) (kind_of-again kinds.Acknow d h.0) ∙ ap (λ (s : Read Acknow). named (s >>= λ found. Ok (messages.Acknow found))) (acknow_again d m h.1)
if_kind-again d (messages.Nomres m) h = ap (if_kind d) (kind_of-again kinds.Nomres d h.0) ∙ ap (λ (s : Read Nomres). named (s >>= λ found. Ok (messages.Nomres found))) (nomres_again d m h.1)
if_kind-again d (messages.Delord m) h = ap (if_kind d) (kind_of-again kinds.Delord d h.0) ∙ ap (λ (s : Read Delord). named (s >>= λ found. Ok (messages.Delord found))) (delord_again d m h.1)
if_kind-again d (messages.Delres m) h = ap (if_kind d) (kind_of-again kinds.Delres d h.0) ∙ ap (λ (s : Read Delres). named (s >>= λ found. Ok (messages.Delres found))) (delres_again d m h.1)

named_ok : (r : Read Message) (m : Message) → named r ≡ Ok m → r ≡ Ok m
named_ok (Ok n) m e = let same : n ≡ m = cc in ap (λ (x : Message). Ok x) same
named_ok (Err key) m e = absurd cc

if_kind-takes : (d : Data) (o : Option Kind) (m : Message) → kind_of d ≡ o → if_kind d o ≡ Ok m → IsMessage d m
if_kind-takes d None m is e = absurd cc
if_kind-takes d (Some kind) m is e = of_kind-takes kind d m (kind_of-takes kind d is) (named_ok (of_kind kind d) m e)

if_json-takes : (bytes : List ℕ) (o : Option Data) (m : Message) → length bytes ≤ most_bytes → json_of bytes ≡ o → if_json o ≡ Ok m → Spells bytes m
if_json-takes bytes None m short is e = absurd cc
if_json-takes bytes (Some d) m short is e = record { short = short; value = d; json = is; stands = if_kind-takes d (kind_of d) m refl e }

large_ok : (b : Bool) (r : Result Message MessageFault) (m : Message) → cond b (Err faults.TooLarge) r ≡ Ok m → (b ≡ false) × (r ≡ Ok m)
large_ok true r m e = absurd cc
large_ok false r m e = (refl, e)

pub decoded_takes : (bytes : List ℕ) (m : Message) → decoded bytes ≡ Ok m → Spells bytes m
unfolding decoded
decoded_takes bytes m e =
    let g = large_ok (nat_lt most_bytes (length bytes)) (if_json (json_of bytes)) m e in
    if_json-takes bytes (json_of bytes) m (ltb-false most_bytes (length bytes) g.0) refl g.1

-- bytes that are no text are no JSON
pub decoded_no_text : (bytes : List ℕ) → length bytes ≤ most_bytes → (IsUtf8 bytes → ⊥) → decoded bytes ≡ Err faults.NotJson
unfolding decoded
decoded_no_text bytes short never =
    ap (λ b. cond b (Err faults.TooLarge) (if_json (json_of bytes))) (le-ltb most_bytes (length bytes) short) ∙ ap if_json (json_of-refused bytes (λ utf8. absurd (never utf8)))

pub not_read : (bytes : List ℕ) (m : Message) → length bytes ≤ most_bytes → (IsUtf8 bytes → ⊥) → decoded bytes ≡ Ok m → ⊥
not_read bytes m short never is =
    let same : ◌≡◌ {A = Result Message MessageFault} (Ok m) (Err faults.NotJson) = sym is ∙ decoded_no_text bytes short never in
    cc

pub decoded_again : (bytes : List ℕ) (m : Message) → Spells bytes m → decoded bytes ≡ Ok m
unfolding decoded
decoded_again bytes m h =
    ap (λ b. cond b (Err faults.TooLarge) (if_json (json_of bytes))) (le-ltb most_bytes (length bytes) h.short) ∙ ap if_json h.json ∙ if_kind-again h.value m h.stands

-- a value stands for one message at most
pub one_message : (d : Data) (m n : Message) → IsMessage d m → IsMessage d n → m ≡ n
one_message d m n is other =
    let same : ◌≡◌ {A = Result Message MessageFault} (Ok m) (Ok n) = sym (if_kind-again d m is) ∙ if_kind-again d n other in
    cc

-- what was decoded is spelled so
pub is_found : (bytes : List ℕ) (r : Result Message MessageFault) → Gives r (decoded bytes) → IfOk r (λ m. Spells bytes m)
is_found bytes (Ok m) given = decoded_takes bytes m given
is_found bytes (Err e) given = tt
