-- The notes of the one seat of an office that settled.
use Rattle.std.proofs.Common.{◌≡◌, ℕ, List, [], ◌∷◌, ap, subst, ◌∙◌, Ok}
use Rattle.gi_desk.specs.Machine.{DeskState}
use Rattle.gi_pairs.specs.declared.side.Side.{Side}
use Rattle.gi_office.specs.Keeping.{HeldInvariant, HeldState, SeatState}
use Rattle.gi_office.specs.Settling.{AreSettled, SettledState, Settles}
use Rattle.gi_live.specs.Stretches.{EndsLife}

pub one_life : (side : Side) (held : HeldState) (seats : ℕ) (handed : List SeatState) (seat : SeatState) (settled : SettledState) (desk : DeskState)
    → HeldInvariant side held → Settles seats held handed (Ok settled) → seats ≡ 1 → handed ≡ seat ∷ [] → desk ≡ settled.desk → EndsLife side seat desk
one_life side held seats handed seat settled desk kept settles one same is = record {
  held = held;
  kept = kept;
  settled = subst (λ list. AreSettled 1 held.trail list) same (subst (λ n. AreSettled n held.trail handed) one settles.1);
  is = is ∙ ap (λ (s : SettledState). s.desk) settles.0;
}
