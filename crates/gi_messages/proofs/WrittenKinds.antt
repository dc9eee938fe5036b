-- What is written for a message of each kind stands for it, and is plain.
use Rattle.std.proofs.Common.{◌≡◌, ℕ, ◌≤◌, Bool, true, false, cond, ◌==◌, refl, arith}
use Rattle.json.proofs.Printed.Utf8.{IsUtf8-are_ascii}
use Rattle.jiff_core.specs.declared.civil.date.Date.{Date}
use Rattle.serde_json.specs.Data.{string, object, Members, no_members, member, depth}
use Rattle.gi_day.specs.Day.{day_text}
use Rattle.gi_pairs.specs.Limits.{last_hour}
use Rattle.gi_pairs.specs.Table.{covered}
use Rattle.gi_messages.specs.Limits.{elements_of, last_cycle, last_version, most_confirmed_elements, most_processed_elements}
use Rattle.gi_messages.specs.declared.key.Key.TheVariants as keys
use Rattle.gi_messages.specs.declared.kind.Kind.{Kind}
use Rattle.gi_messages.specs.declared.kind.Kind.TheVariants as kinds
use Rattle.gi_messages.specs.declared.message.Nomint.{Nomint}
use Rattle.gi_messages.specs.declared.message.Acknow.{Acknow}
use Rattle.gi_messages.specs.declared.message.Nomres.{Nomres}
use Rattle.gi_messages.specs.declared.message.Delord.{Delord}
use Rattle.gi_messages.specs.declared.message.Delres.{Delres}
use Rattle.gi_messages.specs.Grammar.{IsNomint, IsAcknow, IsNomres, IsDelord, IsDelres, IsOfKind, FitsNomint, FitsAcknow, FitsNomres, FitsDelord, FitsDelres}
use Rattle.gi_messages.specs.Key.{key_text}
use Rattle.gi_messages.specs.Kind.{kind_text}
use Rattle.gi_messages.specs.Writing.{whole, rows_data, nomint_data, acknow_data, nomres_data, delord_data, delres_data}
use Rattle.gi_messages.proofs.Plain.{IsPlain, put_all}
use Rattle.gi_messages.proofs.WrittenParts.{depth-rows, stands_code, stands_day, stands_number, stands_nomination_lines, stands_lines_for, stands_parts, stands_part, stands_table, point_past, processed_past, code_utf8, plain_day, plain_lines, plain_nomination_lines, plain_part, plain_table}

-- ---- a message that fits stands in the value that is written for it

pub nomint_stands : (m : Nomint) → FitsNomint m → IsNomint (nomint_data m) m
unfolding nomint_data
nomint_stands m h = record {
  point = stands_code keys.Point _ m.point h.point refl;
  portfolio = stands_code keys.Portfolio _ m.portfolio h.portfolio refl;
  day = stands_day keys.Day _ m.day h.day refl;
  version = stands_number keys.Version _ 1 last_version m.version h.from h.to refl;
  lines = stands_nomination_lines _ m.lines h.lines refl;
}

pub acknow_stands : (m : Acknow) → FitsAcknow m → IsAcknow (acknow_data m) m
unfolding acknow_data
acknow_stands m h = record {
  point = stands_code keys.Point _ m.point h.point refl;
  portfolio = stands_code keys.Portfolio _ m.portfolio h.portfolio refl;
  day = stands_day keys.Day _ m.day h.day refl;
  version = stands_number keys.Version _ 1 last_version m.version h.from h.to refl;
}

pub nomres_stands : (m : Nomres) → FitsNomres m → IsNomres (nomres_data m) m
unfolding nomres_data
nomres_stands m h = record {
  point = stands_code keys.Point _ m.point h.point refl;
  portfolio = stands_code keys.Portfolio _ m.portfolio h.portfolio refl;
  day = stands_day keys.Day _ m.day h.day refl;
  cycle = stands_number keys.Cycle _ 0 last_cycle m.cycle (omega arith) h.cycle refl;
  first = stands_number keys.First _ 1 last_hour m.first h.begins (omega (arith, h.ordered, h.ends)) refl;
  last = stands_number keys.Last _ m.first last_hour m.last h.ordered h.ends refl;
  lines = stands_lines_for _ (covered m.first m.last) m.lines h.lines h.whole refl;
}

pub delord_stands : (m : Delord) → FitsDelord m → IsDelord (delord_data m) m
unfolding delord_data
delord_stands m h = record {
  point = stands_code keys.Point _ m.point h.point (point_past m.parts m.part _);
  day = stands_day keys.Day _ m.day h.day refl;
  cycle = stands_number keys.Cycle _ 0 last_cycle m.cycle (omega arith) h.cycle refl;
  first = stands_number keys.First _ 1 last_hour m.processed.first h.processed.begins (omega (arith, h.processed.ordered, h.processed.ends)) refl;
  last = stands_number keys.Last _ m.processed.first last_hour m.processed.last h.processed.ordered h.processed.ends refl;
  parts = stands_parts _ m.parts m.part _ h.few_parts h.part_from h.part_to refl refl;
  part = stands_part _ m.parts m.part _ h.few_parts h.part_from h.part_to refl refl;
  processed = stands_table keys.Processed _ (elements_of most_processed_elements m.parts) m.processed.first m.processed.last m.processed h.processed refl refl h.few (processed_past m.parts m.part _);
}

pub delres_stands : (m : Delres) → FitsDelres m → IsDelres (delres_data m) m
unfolding delres_data
delres_stands m h = record {
  point = stands_code keys.Point _ m.point h.point (point_past m.parts m.part _);
  day = stands_day keys.Day _ m.day h.day refl;
  cycle = stands_number keys.Cycle _ 0 last_cycle m.cycle (omega arith) h.cycle refl;
  first = stands_number keys.First _ 1 last_hour m.processed.first h.processed.begins (omega (arith, h.processed.ordered, h.processed.ends)) refl;
  last = stands_number keys.Last _ m.processed.first last_hour m.processed.last h.processed.ordered h.processed.ends refl;
  parts = stands_parts _ m.parts m.part _ h.few_parts h.part_from h.part_to refl refl;
  part = stands_part _ m.parts m.part _ h.few_parts h.part_from h.part_to refl refl;
  processed = stands_table keys.Processed _ (elements_of most_processed_elements m.parts) m.processed.first m.processed.last m.processed h.processed refl refl h.few (processed_past m.parts m.part _);
  confirmed = stands_table keys.Confirmed _ (elements_of most_confirmed_elements m.parts) m.processed.first m.processed.last m.confirmed h.confirmed h.begins h.ends h.few_confirmed refl;
}

pub of_kind-delord : (m : Delord) → IsOfKind kinds.Delord (delord_data m)
unfolding delord_data
of_kind-delord m = refl

pub of_kind-delres : (m : Delres) → IsOfKind kinds.Delres (delres_data m)
unfolding delres_data
of_kind-delres m = refl

pub of_kind-nomint : (m : Nomint) → IsOfKind kinds.Nomint (nomint_data m)
unfolding nomint_data
of_kind-nomint m = refl

pub of_kind-acknow : (m : Acknow) → IsOfKind kinds.Acknow (acknow_data m)
unfolding acknow_data
of_kind-acknow m = refl

pub of_kind-nomres : (m : Nomres) → IsOfKind kinds.Nomres (nomres_data m)
unfolding nomres_data
of_kind-nomres m = refl

-- ---- what is written is plain

pub nomint_plain : (m : Nomint) → FitsNomint m → IsPlain (nomint_data m)
unfolding nomint_data
nomint_plain m h = (
  (
    IsUtf8-are_ascii _ refl,
    plain_day m.day h.day,
    (
      IsUtf8-are_ascii _ refl,
      IsUtf8-are_ascii _ refl,
      (
        IsUtf8-are_ascii _ refl,
        plain_nomination_lines m.lines h.lines,
        (
          IsUtf8-are_ascii _ refl,
          code_utf8 m.point h.point,
          (
            IsUtf8-are_ascii _ refl,
            code_utf8 m.portfolio h.portfolio,
            (IsUtf8-are_ascii _ refl, omega (arith, h.to), tt),
          ),
        ),
      ),
    ),
  ),
  refl,
)

pub acknow_plain : (m : Acknow) → FitsAcknow m → IsPlain (acknow_data m)
unfolding acknow_data
acknow_plain m h = (
  (
    IsUtf8-are_ascii _ refl,
    plain_day m.day h.day,
    (
      IsUtf8-are_ascii _ refl,
      IsUtf8-are_ascii _ refl,
      (
        IsUtf8-are_ascii _ refl,
        code_utf8 m.point h.point,
        (
          IsUtf8-are_ascii _ refl,
          code_utf8 m.portfolio h.portfolio,
          (IsUtf8-are_ascii _ refl, omega (arith, h.to), tt),
        ),
      ),
    ),
  ),
  refl,
)

pub nomres_plain : (m : Nomres) → FitsNomres m → IsPlain (nomres_data m)
unfolding nomres_data
nomres_plain m h = (
  (
    IsUtf8-are_ascii _ refl,
    omega (arith, h.cycle),
    (
      IsUtf8-are_ascii _ refl,
      plain_day m.day h.day,
      (
        IsUtf8-are_ascii _ refl,
        omega (arith, h.ordered, h.ends),
        (
          IsUtf8-are_ascii _ refl,
          IsUtf8-are_ascii _ refl,
          (
            IsUtf8-are_ascii _ refl,
            omega (arith, h.ends),
            (
              IsUtf8-are_ascii _ refl,
              plain_lines m.lines h.lines,
              (
                IsUtf8-are_ascii _ refl,
                code_utf8 m.point h.point,
                (IsUtf8-are_ascii _ refl, code_utf8 m.portfolio h.portfolio, tt),
              ),
            ),
          ),
        ),
      ),
    ),
  ),
  refl,
)

-- what the messages of a cycle have from it on to the last hour, and what follows
abbrev head_members : Kind → ℕ → Date → ℕ → ℕ → Members → Members
head_members kind cycle day first last rest =
    member (key_text keys.Cycle) (whole cycle) (member (key_text keys.Day) (string (day_text day)) (member (key_text keys.First) (whole first) (member (key_text keys.Kind) (string (kind_text kind))
    (member (key_text keys.Last) (whole last) rest))))

abbrev delord_with : Delord → Members → Members
delord_with m rest = head_members kinds.Delord m.cycle m.day m.processed.first m.processed.last rest

abbrev delres_with : Delres → Members → Members
delres_with m rest = member (key_text keys.Confirmed) (rows_data m.confirmed.rows) (head_members kinds.Delres m.cycle m.day m.processed.first m.processed.last rest)

-- what holds of both holds of the one that is written
either : (P : Members → Type 0) (these those : Members) → P these → P those → (b : Bool) → P (cond b these those)
either P these those h k true = h
either P these those h k false = k

pub delord_plain : (m : Delord) → FitsDelord m → IsPlain (delord_data m)
unfolding delord_data
delord_plain m h = (
  (
    IsUtf8-are_ascii _ refl,
    omega (arith, h.cycle),
    (
      IsUtf8-are_ascii _ refl,
      plain_day m.day h.day,
      (
        IsUtf8-are_ascii _ refl,
        omega (arith, h.processed.ordered, h.processed.ends),
        (
          IsUtf8-are_ascii _ refl,
          IsUtf8-are_ascii _ refl,
          (
            IsUtf8-are_ascii _ refl,
            omega (arith, h.processed.ends),
            plain_part m.parts m.part _ h.few_parts h.part_to (
              IsUtf8-are_ascii _ refl,
              code_utf8 m.point h.point,
              (IsUtf8-are_ascii _ refl, plain_table m.processed h.processed, tt),
            ),
          ),
        ),
      ),
    ),
  ),
  either (λ (rest : Members). put_all (delord_with m rest) no_members ≡ delord_with m rest) _ _ refl refl (m.parts == 1),
)

pub delres_plain : (m : Delres) → FitsDelres m → IsPlain (delres_data m)
unfolding delres_data
delres_plain m h = (
  (
    IsUtf8-are_ascii _ refl,
    plain_table m.confirmed h.confirmed,
    (
      IsUtf8-are_ascii _ refl,
      omega (arith, h.cycle),
      (
        IsUtf8-are_ascii _ refl,
        plain_day m.day h.day,
        (
          IsUtf8-are_ascii _ refl,
          omega (arith, h.processed.ordered, h.processed.ends),
          (
            IsUtf8-are_ascii _ refl,
            IsUtf8-are_ascii _ refl,
            (
              IsUtf8-are_ascii _ refl,
              omega (arith, h.processed.ends),
              plain_part m.parts m.part _ h.few_parts h.part_to (
                IsUtf8-are_ascii _ refl,
                code_utf8 m.point h.point,
                (IsUtf8-are_ascii _ refl, plain_table m.processed h.processed, tt),
              ),
            ),
          ),
        ),
      ),
    ),
  ),
  either (λ (rest : Members). put_all (delres_with m rest) no_members ≡ delres_with m rest) _ _ refl refl (m.parts == 1),
)

-- ---- orders and responses nest four deep

pub depth-delord : (m : Delord) → depth (delord_data m) ≤ 127
unfolding delord_data
depth-delord m =
    either (λ (rest : Members). depth (object (delord_with m rest)) ≤ 127) _ _ (omega (arith, depth-rows m.processed.rows)) (omega (arith, depth-rows m.processed.rows)) (m.parts == 1)

pub depth-delres : (m : Delres) → depth (delres_data m) ≤ 127
unfolding delres_data
depth-delres m =
    let rows = depth-rows m.processed.rows in
    let confirmed = depth-rows m.confirmed.rows in
    either (λ (rest : Members). depth (object (delres_with m rest)) ≤ 127) _ _ (omega (arith, rows, confirmed)) (omega (arith, rows, confirmed)) (m.parts == 1)
