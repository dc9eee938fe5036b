-- What a side sent, among all that its saved facts let out.
use Rattle.std.proofs.Common.{arith, ◌≡◌, ◌≤◌, ◌<◌, ◌+◌, ◌-◌, inl, inr, ⊎_elim, ℕ, zero, suc, List, [], ◌∷◌, Bool, true, false, refl, sym, ap, ◌∙◌, subst}
use Rattle.std.specs.Prelude.{◌||◌}
use Rattle.std.specs.List.{flat_map, list_any, range_with_len}
use Rattle.std.specs.Str.{bytes_eq}
use Rattle.std.proofs.lemmas.Bool.{and_from, and_parts}
use Rattle.std.proofs.lemmas.Slice.Eq.{bytes_eq-Decides}
use Rattle.gi_pairs.specs.declared.side.Side.{Side}
use Rattle.gi_pairs.proofs.Building.{In, contains_from_in, in_from_contains}
use Rattle.gi_pairs.proofs.Members.{from_append, in_append_left, in_append_right}
use Rattle.gi_desk.specs.LetOut.{let_out}
use Rattle.gi_desk.specs.Machine.{DeskState, is_for_peer}
use Rattle.gi_desk.specs.Queries.{outgoing}
use Rattle.gi_desk.specs.declared.call.Call.{Call}
use Rattle.gi_desk.specs.declared.call.Call.TheVariants as calls
use Rattle.gi_desk.specs.declared.packet.Packet.{Packet}
use Rattle.gi_office.specs.Reconciling.{IsFrom, WasSent, carries, is_from}

-- ---- what numbers one after the other let out

from_range : (f : ℕ → List Packet) (packet : Packet) (from count : ℕ) → In packet (flat_map f (range_with_len from count))
    → (n : ℕ) × (from ≤ n) × (n < from + count) × In packet (f n)
from_range f packet from zero there = absurd there
from_range f packet from (suc count) there =
    ⊎_elim (λ here. (from, omega arith, omega arith, here))
    (λ rest.
    let found = from_range f packet (from + 1) count rest in
    let low = found.1 in
    let high = found.2 in
    (found.0, omega (arith, low), omega (arith, high), found.3)) (from_append packet (f from) (flat_map f (range_with_len (from + 1) count)) there)

in_range : (f : ℕ → List Packet) (packet : Packet) (from count i : ℕ) → i < count → In packet (f (from + i)) → In packet (flat_map f (range_with_len from count))
in_range f packet from zero i below there = absurd (omega (arith, below))
in_range f packet from (suc count) zero below there =
    let here : from + 0 ≡ from = omega arith in
    in_append_left packet (f from) (flat_map f (range_with_len (from + 1) count)) (subst (λ (n : ℕ). In packet (f n)) here there)
in_range f packet from (suc count) (suc i) below there =
    let next : from + suc i ≡ (from + 1) + i = omega arith in
    in_append_right packet (f from) (flat_map f (range_with_len (from + 1) count))
    (in_range f packet (from + 1) count i (omega (arith, below)) (subst (λ (n : ℕ). In packet (f n)) next there))

-- ---- one of a list that passes a test

any_by : {X : Type 0} (test : X → Bool) (b : Bool) (x : X) (xs : List X) → test x ≡ b → (list_any test xs ≡ true → (y : X) × In y xs × (test y ≡ true)) → (b || list_any test xs) ≡ true
    → (y : X) × In y (x ∷ xs) × (test y ≡ true)
any_by test true x xs here rest any = (x, inl refl, here)
any_by test false x xs here rest any = let found = rest any in (found.0, inr found.1, found.2)

any_from : {X : Type 0} (test : X → Bool) (xs : List X) → list_any test xs ≡ true → (y : X) × In y xs × (test y ≡ true)
any_from test [] any = absurd cc
any_from test (x ∷ xs) any = any_by test (test x) x xs refl (any_from test xs) any

or_right : (b c : Bool) → c ≡ true → (b || c) ≡ true
or_right true c e = refl
or_right false c e = e

any_in : {X : Type 0} (test : X → Bool) (xs : List X) (x : X) → In x xs → test x ≡ true → list_any test xs ≡ true
any_in test [] x there is = absurd there
any_in test (y ∷ ys) x (inl same) is = ap (λ b. b || list_any test ys) (ap test same ∙ is)
any_in test (y ∷ ys) x (inr later) is = or_right (test y) (list_any test ys) (any_in test ys x later is)

-- ---- what is sent

was_sent : (side : Side) (s : DeskState) (bytes : List ℕ) → list_any (carries bytes) (outgoing side s 1) ≡ true → WasSent side s bytes
unfolding outgoing
was_sent side s bytes any =
    let found = any_from (carries bytes) (outgoing side s 1) any in
    let packet = found.0 in
    let out = from_range (let_out side s.point s.facts) packet 1 (s.saved + 1 - 1) found.1 in
    let parts = and_parts (is_for_peer packet) (bytes_eq packet.body bytes) found.2 in
    let high = out.2 in (
      packet,
      record { n = out.0; from = out.1; to = omega (arith, high); let_out_by = contains_from_in packet (let_out side s.point s.facts out.0) out.3; passes = parts.0 },
      (bytes_eq-Decides packet.body bytes).0 parts.1,
    )

sent_is : (side : Side) (s : DeskState) (bytes : List ℕ) → WasSent side s bytes → list_any (carries bytes) (outgoing side s 1) ≡ true
unfolding outgoing
sent_is side s bytes (packet, sent, is) =
    let from = sent.from in
    let to = sent.to in
    let here : 1 + (sent.n - 1) ≡ sent.n = omega (arith, from) in
    let there =
    subst (λ (n : ℕ). In packet (let_out side s.point s.facts n)) (sym here) (in_from_contains packet (let_out side s.point s.facts sent.n) sent.let_out_by) in
    any_in (carries bytes) (outgoing side s 1) packet (in_range (let_out side s.point s.facts) packet 1 (s.saved + 1 - 1) (sent.n - 1) (omega (arith, from, to)) there)
    (and_from (is_for_peer packet) (bytes_eq packet.body bytes) sent.passes ((bytes_eq-Decides packet.body bytes).1 is))

pub from_test : (side : Side) (s : DeskState) (packets : List Packet) (call : Call) → packets ≡ outgoing side s 1 → is_from packets call ≡ true → IsFrom side s call
from_test side s packets (calls.Contract contract) all is = tt
from_test side s packets (calls.Notice notice) all is = tt
from_test side s packets (calls.Submit body) all is = tt
from_test side s packets (calls.Close id rule) all is = tt
from_test side s packets (calls.Deliver body) all is = was_sent side s body (ap (list_any (carries body)) (sym all) ∙ is)
from_test side s packets (calls.Resend id) all is = tt
from_test side s packets (calls.MarkSaved n fact) all is = tt
from_test side s packets calls.Halt all is = tt

pub test_from : (side : Side) (s : DeskState) (packets : List Packet) (call : Call) → packets ≡ outgoing side s 1 → IsFrom side s call → is_from packets call ≡ true
test_from side s packets (calls.Contract contract) all is = refl
test_from side s packets (calls.Notice notice) all is = refl
test_from side s packets (calls.Submit body) all is = refl
test_from side s packets (calls.Close id rule) all is = refl
test_from side s packets (calls.Deliver body) all is = ap (list_any (carries body)) all ∙ sent_is side s body is
test_from side s packets (calls.Resend id) all is = refl
test_from side s packets (calls.MarkSaved n fact) all is = refl
test_from side s packets calls.Halt all is = refl
