-- What holds of all that waits holds of what a call leaves and gives.
use Rattle.std.proofs.Common.{◌≡◌, ℕ, List, option_map, [], ◌∷◌, Bool, true, false, Option, Some, None, take, drop, arith, ap, sym, subst, ◌∙◌, if◌then◌else◌}
use Rattle.std.specs.Prelude.{All, Contains, IfSome, length, slice_get, unwrap_or, ◌==◌}
use Rattle.std.proofs.lemmas.List.Elements.{All-append, All-contains_itself, All-same, All-drop, All-head, All-push, All-take, Contains-append_left, Contains-append_right, Contains-push}
use Rattle.gi_carrier.specs.Calls.{CarrierCall, Sends, Takes, IsRefused, after_call, after_calls, sent_by, sent_in}
use Rattle.gi_carrier.specs.Carrier.{CarrierState, after_next, given_by, left_by, move_at, new_carrier, next_position}
use Rattle.std.specs.Global.{Vec}
use Rattle.gi_carrier.specs.Kept.{bytes_of}
use Rattle.gi_carrier.specs.Laws.{WhatComesOutWasSent, WhatWaitsWasSent}
use Rattle.gi_carrier.specs.declared.moves.Move.{Move}
use Rattle.gi_carrier.specs.declared.moves.Move.TheVariants.{Pass, Drop, Repeat, Hold}

first_is : (P : List ℕ → Type 0) (waiting : List (List ℕ)) (message : List ℕ) → All P waiting → slice_get waiting 0 ≡ Some message → P message
first_is P [] message all is = absurd cc
first_is P (first ∷ later) message all is = subst P (ap (λ (o : Option (List ℕ)). unwrap_or o message) is) (All-head P first later all)

none_is : (P : List ℕ → Type 0) (message : List ℕ) → None ≡ Some message → P message
none_is P message is = absurd cc

pub given_is : (P : List ℕ → Type 0) (made : Move) (waiting : List (List ℕ)) (message : List ℕ) → All P waiting → given_by made waiting ≡ Some message → P message
given_is P Pass waiting message all is = first_is P waiting message all is
given_is P Drop waiting message all is = none_is P message is
given_is P Repeat waiting message all is = first_is P waiting message all is
given_is P Hold waiting message all is = none_is P message is

pub left_are : (P : List ℕ → Type 0) (made : Move) (waiting : List (List ℕ)) → All P waiting → All P (left_by made waiting)
left_are P Pass waiting all = All-drop P 1 waiting all
left_are P Drop waiting all = All-drop P 1 waiting all
left_are P Repeat waiting all = all
left_are P Hold waiting all = All-append P (drop 1 waiting) (take 1 waiting) (All-drop P 1 waiting all) (All-take P 1 waiting all)

either_are : (P : List ℕ → Type 0) (test : Bool) (s t : CarrierState) → All P s.waiting → All P t.waiting → All P (if test then s else t).waiting
either_are P true s t first second = first
either_are P false s t first second = second

-- where what waits is seen as another list
pub waited_is : (waiting kept : List (List ℕ)) (made : Move) (out : Option (List ℕ)) → waiting ≡ kept → out ≡ given_by made kept → IfSome out (Contains waiting)
waited_is waiting kept made None same is = tt
waited_is waiting kept made (Some message) same is = given_is (Contains waiting) made waiting message (All-contains_itself waiting) (ap (given_by made) same ∙ sym is)

pub bytes_are : (P : List ℕ → Type 0) (out : Option (Vec ℕ)) → IfSome (option_map bytes_of out) P → IfSome out (λ message. P message.items)
bytes_are P None holds = tt
bytes_are P (Some message) holds = holds

pub waited_are : (waiting kept left : List (List ℕ)) (made : Move) → waiting ≡ kept → left ≡ left_by made kept → All (Contains waiting) left
waited_are waiting kept left made same is =
    All-same (Contains waiting) left (left_by made waiting) (is ∙ ap (left_by made) (sym same)) (left_are (Contains waiting) made waiting (All-contains_itself waiting))

pub next_are : (P : List ℕ → Type 0) (plan : List Move) (s : CarrierState) → All P s.waiting → All P (after_next plan s).waiting
next_are P plan s all =
    either_are P (length s.waiting == 0) s (record { waiting = left_by (move_at plan s.position) s.waiting; position = next_position s.position }) all
    (left_are P (move_at plan s.position) s.waiting all)

call_are : (P : List ℕ → Type 0) (s : CarrierState) (call : CarrierCall) → All P s.waiting → ((message : List ℕ) → Contains (sent_by call) message → P message) → All P (after_call s call).waiting
call_are P s (Sends message) all sent = All-push P s.waiting message all (sent message (Contains-push [] message))
call_are P s (Takes plan) all sent = next_are P plan s all
call_are P s IsRefused all sent = all

calls_are : (P : List ℕ → Type 0) (calls : List CarrierCall) (s : CarrierState) → All P s.waiting → ((message : List ℕ) → Contains (sent_in calls) message → P message)
    → All P (after_calls s calls).waiting
calls_are P [] s all sent = all
calls_are P (call ∷ calls) s all sent =
    calls_are P calls (after_call s call)
    (call_are P s call all (λ message within. sent message (Contains-append_left (sent_by call) (sent_in calls) message within)))
    (λ message within. sent message (Contains-append_right (sent_by call) (sent_in calls) message within))

pub what_waits : WhatWaitsWasSent
what_waits calls = calls_are (Contains (sent_in calls)) calls new_carrier (λ k d below. absurd (omega (arith, below))) (λ message within. within)

pub what_comes_out : WhatComesOutWasSent
what_comes_out calls plan message is =
    let s = after_calls new_carrier calls in
    given_is (Contains (sent_in calls)) (move_at plan s.position) s.waiting message (what_waits calls) is
