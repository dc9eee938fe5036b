-- A step more at the end of a life.
use Rattle.std.proofs.Common.{◌≡◌, ◌≤◌, inl, inr, ℕ, List, [], ◌∷◌, ◌++◌, length, take, Bool, false, refl, sym, ap, subst, ◌∙◌, arith}
use Rattle.std.proofs.Math.Seq.{take-length}
use Rattle.std.proofs.lemmas.List.{length-append, take-append-le}
use Rattle.gi_pairs.specs.declared.side.Side.{Side}
use Rattle.gi_facts.specs.declared.fact.Fact.{Fact}
use Rattle.gi_desk.specs.Laws.{HasOneMoreAtMost, OnlyAppends}
use Rattle.gi_desk.specs.Machine.{DeskState, after, reply}
use Rattle.gi_desk.specs.declared.call.Call.{Call}
use Rattle.gi_office.specs.Entering.{entered}
use Rattle.gi_office.specs.Keeping.{HeldState, HeldInvariant, SeatState}
use Rattle.gi_office.specs.Lives.{IsRun, opened_keeping}
use Rattle.gi_office.specs.Opening.{new_held}
use Rattle.gi_office.specs.declared.entry.Entry.{Entry}
use Rattle.gi_office.proofs.Points.{keeps_point}

run_more : (side : Side) (first : DeskState) (trail : List Entry) (last : DeskState) (entry : Entry) → IsRun side first trail last → entry.reply ≡ reply side last entry.call
    → IsRun side first (trail ++ entry ∷ []) (after side last entry.call)
run_more side first [] last entry run is = (is ∙ ap (λ s. reply side s entry.call) (sym run), ap (λ s. after side s entry.call) run)
run_more side first (e ∷ trail) last entry run is = (run.0, run_more side (after side first e.call) trail last entry run.1 is)

front : (n : ℕ) (old new : List Fact) → n ≤ length old → HasOneMoreAtMost old new → take n new ≡ take n old
front n old new within more = elim more [
  | inl same ↦ ap (λ l. take n l) same
  | inr added ↦ ap (λ l. take n l) added.1 ∙ take-append-le n old (added.0 ∷ []) within
]

longer : (old new : List Fact) → HasOneMoreAtMost old new → length old ≤ length new
longer old new more = elim more [
  | inl same ↦ let e = ap (λ (l : List Fact). length l) same in omega (arith, e)
  | inr added ↦ let e = ap (λ (l : List Fact). length l) added.1 in omega (arith, e, length-append old (added.0 ∷ []))
]

-- ---- an office that was asked nothing yet

new_desk : (desk : DeskState) → desk.saved ≡ length desk.facts → desk.halted ≡ false → opened_keeping desk.kept desk.point (take (length desk.facts) desk.facts) ≡ desk
new_desk desk saved runs =
    let with_saved : ℕ → DeskState = λ n. record { point = desk.point; facts = desk.facts; saved = n; halted = false; kept = desk.kept } in
    let with_halt : Bool → DeskState = λ b. record { point = desk.point; facts = desk.facts; saved = desk.saved; halted = b; kept = desk.kept } in
    ap (λ (facts : List Fact). opened_keeping desk.kept desk.point facts) (take-length desk.facts) ∙ (ap with_saved (sym saved) ∙ ap with_halt (sym runs))

pub new_kept : (side : Side) (desk : DeskState) (seats : ℕ) → desk.saved ≡ length desk.facts → desk.halted ≡ false → HeldInvariant side (new_held desk seats)
new_kept side desk seats saved runs = record {
  within = omega arith;
  life = record { kept = desk.kept; run = new_desk desk saved runs };
  counted = refl;
}

-- ---- a call more

pub entered_kept : OnlyAppends → (side : Side) (held : HeldState) (seat : SeatState) (call : Call) → HeldInvariant side held → HeldInvariant side (entered side held seat call)
entered_kept appends side held seat call kept =
    let more = (appends side held.desk call).0 in
    let entry : Entry = record { seat = seat.number; call = call; reply = reply side held.desk call } in
    let parts = kept.life.kept in
    let start : opened_keeping parts held.desk.point (take held.opening held.desk.facts)
    ≡ opened_keeping parts (after side held.desk call).point (take held.opening (after side held.desk call).facts) =
    (λ i. opened_keeping parts (sym (keeps_point side held.desk call) i) (sym (front held.opening held.desk.facts (after side held.desk call).facts kept.within more) i)) in
    record {
      within = let e = longer held.desk.facts (after side held.desk call).facts more in let w = kept.within in omega (arith, e, w);
      life = record {
        kept = parts;
        run = subst (λ s. IsRun side s (held.trail ++ entry ∷ []) (after side held.desk call)) start
            (run_more side (opened_keeping parts held.desk.point (take held.opening held.desk.facts)) held.trail held.desk entry kept.life.run refl);
      };
      counted = let c = kept.counted in omega (arith, c, length-append held.trail (entry ∷ []));
    }
