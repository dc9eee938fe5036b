-- When a step may want memory: where packets leave, and where the desk grows.
use Rattle.std.proofs.Common.{◌≡◌, ◌||◌, Bool, true, false, not, cond, refl, sym, ap, ◌∙◌, subst}
use Rattle.std.specs.Prelude.{IsTrue}
use Rattle.std.proofs.lemmas.Bool.{and_from}
use Rattle.gi_pairs.specs.declared.side.Side.{Side}
use Rattle.gi_desk.specs.Machine.{DeskState, comes_to, grows, learns_with_memory, may_want, may_want_to_prepare, out_of, outcome, prepared, some_leave, unless_full}
use Rattle.gi_desk.specs.declared.call.Call.{Call}
use Rattle.gi_desk.specs.declared.outcome.Outcome.{Outcome}
use Rattle.gi_desk.specs.declared.outcome.Outcome.TheVariants.{Refuses}
use Rattle.gi_desk.specs.declared.prepared.Prepared.{Prepared}
use Rattle.gi_desk.specs.declared.refusal.Refusal.TheVariants as refusals

or_second : (p q : Bool) → q ≡ true → (p || q) ≡ true
or_second true q e = refl
or_second false q e = e

-- a halted desk lets nothing out
by_halted : (side : Side) (s : DeskState) (b : Bool) (o : Outcome) → some_leave (out_of side s (cond b (Refuses refusals.Halted) o)) ≡ true → not b ≡ true
by_halted side s true o e = absurd cc
by_halted side s false o e = refl

runs : (side : Side) (s : DeskState) (call : Call) → some_leave (out_of side s (outcome side s call)) ≡ true → not s.halted ≡ true
unfolding outcome
runs side s call e = by_halted side s s.halted (unless_full s.facts (comes_to side s call)) e

-- where packets leave, memory may be wanted beforehand
pub leaving-wants : (side : Side) (s : DeskState) (call : Call) (o : Outcome) → o ≡ outcome side s call → IsTrue (some_leave (out_of side s o)) → IsTrue (may_want_to_prepare side s call)
unfolding may_want_to_prepare
leaving-wants side s call o is some =
    let here : some_leave (out_of side s (outcome side s call)) ≡ true = subst (λ (o : Outcome). some_leave (out_of side s o) ≡ true) is some in
    and_from (not s.halted) (learns_with_memory call || some_leave (out_of side s (outcome side s call))) (runs side s call here)
    (or_second (learns_with_memory call) (some_leave (out_of side s (outcome side s call))) here)

-- a step wants what is wanted before it
pub prepared-wants : (side : Side) (s : DeskState) (call : Call) → IsTrue (may_want_to_prepare side s call) → IsTrue (may_want side s call)
unfolding may_want
prepared-wants side s call wants = ap (λ (b : Bool). b || grows (outcome side s call)) wants

-- and where the desk grows
pub made-wants : (side : Side) (s : DeskState) (call : Call) (p : Prepared) → p ≡ prepared side s call → IsTrue (grows p.outcome) → IsTrue (may_want side s call)
unfolding may_want
made-wants side s call p is records =
    or_second (may_want_to_prepare side s call) (grows (outcome side s call)) (sym (ap (λ (p : Prepared). grows p.outcome) is) ∙ records)
