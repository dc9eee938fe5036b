-- A desk's state comes later than another: through calls, and from the end of a life to the opening of the next.
use Rattle.std.proofs.Common.{append-nil, arith, ◌≡◌, ◌≤◌, ℕ, List, [], ◌∷◌, length, take, Bool, Contains, refl, sym, ap, ◌∙◌, subst}
use Rattle.std.proofs.lemmas.List.{length-append, length-take-le}
use Rattle.gi_pairs.specs.declared.side.Side.{Side}
use Rattle.gi_facts.specs.declared.fact.Fact.{Fact}
use Rattle.gi_desk.specs.LetOut.{let_out}
use Rattle.gi_desk.specs.Machine.{DeskState, after}
use Rattle.gi_desk.specs.declared.call.Call.{Call}
use Rattle.gi_desk.specs.declared.packet.Packet.{Packet}
use Rattle.gi_desk.proofs.StateLaws.{lets_out}
use Rattle.gi_desk.proofs.StepFacts.{stays-legal}
use Rattle.gi_world.specs.Agreement.{IsLetOut, saved_facts}
use Rattle.gi_world.proofs.Fronts.{IsFront, front-trans}
use Rattle.gi_world.proofs.Meetings.{call_moved, restart_moved}
use Rattle.gi_world.proofs.SentPackets.{kept_on_restart}
use Rattle.gi_parts.specs.declared.kept_parts.KeptPart.{KeptPart}
use Rattle.gi_office.specs.Lives.{IsLegal, IsRun, Life, opened, opened_keeping}
use Rattle.gi_office.specs.Settling.{AreLegal, GoOnTo, GoesOn}
use Rattle.gi_office.specs.declared.entry.Entry.{Entry}
use Rattle.gi_office.proofs.Points.{keeps_point}

-- the point is the same, no more is saved than there is, and what was saved stays so
pub record IsLater (s e : DeskState) : Type 0 where
  pub point : e.point ≡ s.point
  pub within : e.saved ≤ length e.facts
  pub front : IsFront (saved_facts s) (saved_facts e)

later_self : (s : DeskState) → s.saved ≤ length s.facts → IsLater s s
later_self s within = record { point = refl; within = within; front = ([], sym (append-nil (saved_facts s))) }

later_trans : (s t e : DeskState) → IsLater s t → IsLater t e → IsLater s e
later_trans s t e first then = record {
  point = then.point ∙ first.point;
  within = then.within;
  front = front-trans (saved_facts s) (saved_facts t) (saved_facts e) first.front then.front;
}

later_call : (side : Side) (s : DeskState) (call : Call) → s.saved ≤ length s.facts → IsLater s (after side s call)
later_call side s call within = record {
  point = keeps_point side s call;
  within = (stays-legal side s call).1 within;
  front = (call_moved side s call within).front;
}

pub run_later : (side : Side) (s : DeskState) (trail : List Entry) (e : DeskState) → s.saved ≤ length s.facts → IsRun side s trail e → IsLater s e
run_later side s [] e within run = subst (IsLater s) run (later_self s within)
run_later side s (entry ∷ trail) e within run =
    let step = later_call side s entry.call within in
    later_trans s (after side s entry.call) e step (run_later side (after side s entry.call) trail e step.within run.1)

pub opened_within : (life : Life) → (opened life.point life.opening).saved ≤ length (opened life.point life.opening).facts
opened_within life = omega arith

-- whatever it keeps
pub keeping_within : (kept : List KeptPart) (life : Life) → (opened_keeping kept life.point life.opening).saved ≤ length (opened_keeping kept life.point life.opening).facts
keeping_within kept life = omega arith

later_opened : (s : DeskState) (life : Life) → GoesOn s life.point life.opening → IsLater s (opened life.point life.opening)
later_opened s life goes = record {
  point = goes.point;
  within = opened_within life;
  front = subst (λ (facts : List Fact). IsFront (saved_facts s) (take (length life.opening) facts)) (sym goes.front) (restart_moved s (length life.opening) goes.saved).front;
}

pub life_later : (side : Side) (life : Life) (e : DeskState) → IsLegal side life e → IsLater (opened life.point life.opening) e
life_later side life e legal =
    let later = run_later side (opened_keeping legal.kept life.point life.opening) life.trail e (keeping_within legal.kept life) legal.run in
    record { point = later.point; within = later.within; front = later.front }

pub on_later : (side : Side) (s : DeskState) (later : List Life) (e : DeskState) → s.saved ≤ length s.facts → GoOnTo side s later e → IsLater s e
on_later side s [] e within on = subst (IsLater s) on (later_self s within)
on_later side s (life ∷ later) e within on =
    let goes = on.0 in
    let t = on.1.0 in
    let here = life_later side life t on.1.1 in
    later_trans s (opened life.point life.opening) e (later_opened s life goes)
    (later_trans (opened life.point life.opening) t e here (on_later side t later e here.within on.1.2))

pub lives_later : (side : Side) (life : Life) (later : List Life) (e : DeskState) → AreLegal side (life ∷ later) e → IsLater (opened life.point life.opening) e
lives_later side life later e legal =
    let t = legal.0 in
    let here = life_later side life t legal.1 in
    later_trans (opened life.point life.opening) t e here (on_later side t later e here.within legal.2)

-- ---- what a saved fact lets out stays so

saved_count : (s : DeskState) → s.saved ≤ length s.facts → length (saved_facts s) ≡ s.saved
saved_count s within = length-take-le s.saved s.facts within

pub saved_grows : (s e : DeskState) → s.saved ≤ length s.facts → IsLater s e → s.saved ≤ e.saved
saved_grows s e within later =
    let (more, is) = later.front in
    let ours = saved_count s within in
    let theirs = saved_count e later.within in
    let all = ap (λ (facts : List Fact). length facts) is ∙ length-append (saved_facts s) more in
    omega (arith, ours, theirs, all)

still_lets_out : (side : Side) (s e : DeskState) (n : ℕ) → s.saved ≤ length s.facts → IsLater s e → n ≤ s.saved → let_out side e.point e.facts n ≡ let_out side s.point s.facts n
still_lets_out side s e n within later below =
    let (more, is) = later.front in
    let grows = saved_grows s e within later in
    let ours = saved_count s within in
    ap (λ (point : List ℕ). let_out side point e.facts n) later.point
    ∙ sym (kept_on_restart side s.point e.facts n e.saved (omega (arith, below, grows)))
    ∙ ap (λ (facts : List Fact). let_out side s.point facts n) is
    ∙ lets_out side s.point (saved_facts s) more n (omega (arith, below, ours))
    ∙ kept_on_restart side s.point s.facts n s.saved below

pub still_let_out : (is_so : Packet → Bool) (side : Side) (s e : DeskState) (packet : Packet) → s.saved ≤ length s.facts → IsLater s e → IsLetOut is_so side s packet
    → IsLetOut is_so side e packet
still_let_out is_so side s e packet within later is =
    let to = is.to in
    let grows = saved_grows s e within later in
    record {
      n = is.n;
      from = is.from;
      to = omega (arith, to, grows);
      let_out_by = subst (λ (out : List Packet). Contains out packet) (sym (still_lets_out side s e is.n within later to)) is.let_out_by;
      passes = is.passes;
    }
