-- When a call may want memory: where its reply lets packets out.
use Rattle.std.proofs.Common.{◌≡◌, ◌<◌, ◌⊎◌, inl, inr, ℕ, zero, suc, List, [], ◌∷◌, filter, get_or, length, Bool, true, false, cond, arith, refl, sym, ap, ◌∙◌, subst}
use Rattle.std.specs.Prelude.{IsTrue}
use Rattle.gi_pairs.specs.declared.side.Side.{Side}
use Rattle.gi_desk.specs.Machine.{DeskState, may_want, out_of, outcome, reply, some_leave}
use Rattle.gi_desk.specs.declared.call.Call.{Call}
use Rattle.gi_desk.specs.declared.packet.Packet.{Packet}
use Rattle.gi_desk.specs.declared.reply.Reply.{Reply}
use Rattle.gi_desk.proofs.StepLaws.{leaving-wants, prepared-wants}

leave : (packets : List Packet) → 0 < length packets → some_leave packets ≡ true
leave [] some = absurd (omega (arith, some))
leave (packet ∷ packets) some = refl

pub lets_out_short : (side : Side) (s : DeskState) (call : Call) (r : Reply) → r ≡ reply side s call → 0 < length r.out → IsTrue (may_want side s call)
unfolding reply
lets_out_short side s call r is some =
    let o = outcome side s call in
    prepared-wants side s call (leaving-wants side s call o refl (leave (out_of side s o) (subst (λ (x : Reply). 0 < length x.out) is some)))

-- ---- a function's exits

-- what a test lets through are no more than there are
pub some_before : {X : Type 0} (test : X → Bool) (xs : List X) → 0 < length (filter test xs) → 0 < length xs
some_before test [] some = some
some_before test (x ∷ xs) some = omega arith

pub some_of_both : {X : Type 0} (test other : X → Bool) (xs : List X) → (0 < length (filter test xs)) ⊎ (0 < length (filter other xs)) → 0 < length xs
some_of_both test other xs some = elim some [ inl first ↦ some_before test xs first | inr second ↦ some_before other xs second ]

-- nor is there none where an element passes
pub some_passed : {X : Type 0} (test : X → Bool) (xs : List X) (n : ℕ) (x : X) → n < length xs → x ≡ get_or xs n x → test x ≡ true → 0 < length (filter test xs)
some_passed test [] n x below is passes = absurd (omega (arith, below))
some_passed test (y ∷ ys) zero x below is passes =
    subst (λ (b : Bool). 0 < length (cond b (y ∷ filter test ys) (filter test ys))) (sym (ap test (sym is) ∙ passes)) (omega arith)
some_passed test (y ∷ ys) (suc n) x below is passes = by_first (test y) (some_passed test ys n x (omega (arith, below)) is passes)
  where
    by_first : (b : Bool) → 0 < length (filter test ys) → 0 < length (cond b (y ∷ filter test ys) (filter test ys))
    by_first true rest = omega arith
    by_first false rest = rest
