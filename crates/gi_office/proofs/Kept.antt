-- Lives that are kept together: their entries are the whole trail, and those of a later office come to their end.
use Rattle.std.proofs.Common.{append-nil, arith, ◌≡◌, ◌≤◌, ◌+◌, ◌-◌, ℕ, List, [], ◌∷◌, ◌++◌, length, take, drop, All, refl, sym, ap, ◌∙◌, subst}
use Rattle.std.specs.List.{sum_by}
use Rattle.std.proofs.lemmas.List.Sums.{sum_by-append, sum_by-cons}
use Rattle.std.proofs.lemmas.List.{drop-append-le, length-append, length-drop, length-take-le, take-append-drop, take-append-le, take-take}
use Rattle.std.proofs.lemmas.List.Elements.{All-append, All-head, All-nil, All-push, All-tail, All-weaker}
use Rattle.std.proofs.Math.Seq.{drop-append_seam, take-append_seam}
use Rattle.gi_pairs.specs.declared.side.Side.{Side}
use Rattle.gi_facts.specs.declared.fact.Fact.{Fact}
use Rattle.gi_desk.specs.Machine.{DeskState}
use Rattle.gi_office.specs.Joining.{AreKept, life_from, lives_of, opening_of}
use Rattle.gi_office.specs.Lives.{Life, opened}
use Rattle.gi_office.specs.Reconciling.{entries_of}
use Rattle.gi_office.specs.Settling.{AreLegal, GoOnTo, GoesOn}
use Rattle.gi_office.specs.declared.entry.Entry.{Entry}
use Rattle.gi_office.specs.declared.stretch.Stretch.{Stretch}
use Rattle.gi_office.proofs.Later.{lives_later, opened_within, saved_grows}

pub entries-kept : (desk : DeskState) (earlier : List Stretch) (opening : ℕ) (trail : List Entry) → entries_of (lives_of desk earlier opening trail) ≡ trail
entries-kept desk [] opening trail = append-nil trail
entries-kept desk (stretch ∷ later) opening trail =
    ap (λ (rest : List Entry). take stretch.calls trail ++ rest) (entries-kept desk later opening (drop stretch.calls trail)) ∙ take-append-drop stretch.calls trail

-- ---- what each life was opened with was saved at the end

abbrev IsWithin : ℕ → Stretch → Type 0
IsWithin n stretch = stretch.opening ≤ n

all_more : {X : Type 0} (P : X → Type 0) (x : X) (xs : List X) → P x → All P xs → All P (x ∷ xs)
all_more P x xs here rest = All-append P (x ∷ []) xs (All-push P [] x (All-nil P) here) rest

-- lives that go on are legal, since there is one at least
go_on-legal : (side : Side) (s : DeskState) (desk : DeskState) (earlier : List Stretch) (opening : ℕ) (trail : List Entry) (e : DeskState)
    → GoOnTo side s (lives_of desk earlier opening trail) e → AreLegal side (lives_of desk earlier opening trail) e
go_on-legal side s desk [] opening trail e on = on.1
go_on-legal side s desk (stretch ∷ later) opening trail e on = on.1

life_saved : (side : Side) (desk : DeskState) (opening : ℕ) (trail : List Entry) (later : List Life) (e : DeskState) → opening ≤ length desk.facts
    → AreLegal side (life_from desk opening trail ∷ later) e → opening ≤ e.saved
life_saved side desk opening trail later e within legal =
    let life = life_from desk opening trail in
    let grows = saved_grows (opened life.point life.opening) e (opened_within life) (lives_later side life later e legal) in
    let count = length-take-le opening desk.facts within in
    omega (arith, grows, count)

all_saved : (side : Side) (desk : DeskState) (earlier : List Stretch) (opening : ℕ) (trail : List Entry) (e : DeskState) → opening ≤ length desk.facts
    → All (IsWithin (length desk.facts)) earlier → AreLegal side (lives_of desk earlier opening trail) e → (opening ≤ e.saved) × All (IsWithin e.saved) earlier
all_saved side desk [] opening trail e within fronts legal = (life_saved side desk opening trail [] e within legal, All-nil (IsWithin e.saved))
all_saved side desk (stretch ∷ later) opening trail e within fronts legal =
    let rest = lives_of desk later opening (drop stretch.calls trail) in
    let here = life_saved side desk stretch.opening (take stretch.calls trail) rest e (All-head (IsWithin (length desk.facts)) stretch later fronts) legal in
    let more =
    all_saved side desk later opening (drop stretch.calls trail) e within (All-tail (IsWithin (length desk.facts)) stretch later fronts)
    (go_on-legal side legal.0 desk later opening (drop stretch.calls trail) e legal.2) in
    (more.0, all_more (IsWithin e.saved) stretch later here more.1)

-- ---- lives one after the other

abbrev AreSame : DeskState → DeskState → ℕ → Type 0
AreSame old new n = take n new.facts ≡ take n old.facts

fewer_same : (old new : DeskState) (n j : ℕ) → n ≤ j → AreSame old new j → AreSame old new n
fewer_same old new n j below same =
    sym (take-take n j new.facts below) ∙ ap (λ (facts : List Fact). take n facts) same ∙ take-take n j old.facts below

life_same : (old new : DeskState) (n : ℕ) (old_trail new_trail : List Entry) → new.point ≡ old.point → AreSame old new n → new_trail ≡ old_trail
    → life_from new n new_trail ≡ life_from old n old_trail
life_same old new n old_trail new_trail point same trail = λ i. record { point = point i; opening = same i; trail = trail i }

abbrev calls_in : List Stretch → ℕ
calls_in earlier = sum_by (λ (stretch : Stretch). stretch.calls) earlier

lives-append : (old new : DeskState) (former : List Stretch) (opening calls : ℕ) (trail : List Entry) (later : List Stretch) (last : ℕ) (more : List Entry) (j : ℕ)
    → new.point ≡ old.point → AreSame old new j → opening ≤ j → All (IsWithin j) former → calls + calls_in former ≡ length trail
    → lives_of new (former ++ record { opening = opening; calls = calls } ∷ later) last (trail ++ more) ≡ lives_of old former opening trail ++ lives_of new later last more
lives-append old new [] opening calls trail later last more j point same below fronts count =
    let all : calls ≡ length trail = omega (arith, count) in
    let head =
    life_same old new opening trail (take calls (trail ++ more)) point (fewer_same old new opening j below same) (ap (λ n. take n (trail ++ more)) all ∙ take-append_seam trail more) in
    let tail = ap (λ (rest : List Entry). lives_of new later last rest) (ap (λ n. drop n (trail ++ more)) all ∙ drop-append_seam trail more) in
    (λ i. head i ∷ tail i)
lives-append old new (stretch ∷ former) opening calls trail later last more j point same below fronts count =
    let split : calls_in (stretch ∷ former) ≡ stretch.calls + calls_in former = sum_by-cons (λ (s : Stretch). s.calls) stretch former in
    let within : stretch.calls ≤ length trail = omega (arith, count, split) in
    let left : calls + calls_in former ≡ length (drop stretch.calls trail) = omega (arith, count, split, length-drop stretch.calls trail) in
    let here = All-head (IsWithin j) stretch former fronts in
    let head =
    life_same old new stretch.opening (take stretch.calls trail) (take stretch.calls (trail ++ more)) point (fewer_same old new stretch.opening j here same)
    (take-append-le stretch.calls trail more within) in
    let all = former ++ record { opening = opening; calls = calls } ∷ later in
    let tail =
    ap (λ (rest : List Entry). lives_of new all last rest) (drop-append-le stretch.calls trail more within)
    ∙ lives-append old new former opening calls (drop stretch.calls trail) later last more j point same below (All-tail (IsWithin j) stretch former fronts) left in
    (λ i. head i ∷ tail i)

on-append : (side : Side) (s : DeskState) (former : List Life) (m : DeskState) (later : List Life) (e : DeskState) → GoOnTo side s former m → GoOnTo side m later e
    → GoOnTo side s (former ++ later) e
on-append side s [] m later e on then = subst (λ (t : DeskState). GoOnTo side t later e) (sym on) then
on-append side s (life ∷ former) m later e on then = (on.0, (on.1.0, on.1.1, on-append side on.1.0 former m later e on.1.2 then))

legal-append : (side : Side) (former : List Life) (m : DeskState) (later : List Life) (e : DeskState) → AreLegal side former m → GoOnTo side m later e → AreLegal side (former ++ later) e
legal-append side [] m later e legal then = absurd legal
legal-append side (life ∷ former) m later e legal then = (legal.0, legal.1, on-append side legal.0 former m later e legal.2 then)

goes-on : (side : Side) (old new : DeskState) (later : List Stretch) (last : ℕ) (more : List Entry) → GoesOn old new.point (opening_of (lives_of new later last more))
    → AreLegal side (lives_of new later last more) new → GoOnTo side old (lives_of new later last more) new
goes-on side old new [] last more goes legal = (goes, legal)
goes-on side old new (stretch ∷ later) last more goes legal = (goes, legal)

-- ---- two offices

abbrev pub first_opening : List Stretch → ℕ → ℕ
first_opening [] opening = opening
first_opening (stretch ∷ later) opening = stretch.opening

first_within : (desk : DeskState) (earlier : List Stretch) (opening : ℕ) → opening ≤ length desk.facts → All (IsWithin (length desk.facts)) earlier
    → first_opening earlier opening ≤ length desk.facts
first_within desk [] opening within fronts = within
first_within desk (stretch ∷ later) opening within fronts = All-head (IsWithin (length desk.facts)) stretch later fronts

opening_is : (desk : DeskState) (earlier : List Stretch) (opening : ℕ) (trail : List Entry) → opening_of (lives_of desk earlier opening trail) ≡ take (first_opening earlier opening) desk.facts
opening_is desk [] opening trail = refl
opening_is desk (stretch ∷ later) opening trail = refl

-- what a later office was opened with
record IsBridge (old new : DeskState) (j : ℕ) : Type 0 where
  point : new.point ≡ old.point
  same : AreSame old new j
  saved : old.saved ≤ j
  within : j ≤ length new.facts

bridge : (old new : DeskState) (later : List Stretch) (last : ℕ) (more : List Entry) → last ≤ length new.facts → All (IsWithin (length new.facts)) later
    → GoesOn old new.point (opening_of (lives_of new later last more)) → IsBridge old new (first_opening later last)
bridge old new later last more within fronts goes =
    let j = first_opening later last in
    let there = first_within new later last within fronts in
    let is = opening_is new later last more in
    let count : length (opening_of (lives_of new later last more)) ≡ j = ap (λ (facts : List Fact). length facts) is ∙ length-take-le j new.facts there in
    let saved = goes.saved in
    record {
      point = goes.point;
      same = sym is ∙ goes.front ∙ ap (λ n. take n old.facts) count;
      saved = omega (arith, saved, count);
      within = there;
    }

within_more : (m n : ℕ) (earlier : List Stretch) → m ≤ n → All (IsWithin m) earlier → All (IsWithin n) earlier
within_more m n earlier below all = All-weaker (IsWithin m) (IsWithin n) (λ stretch within. omega (arith, within, below)) earlier all

calls-append : (former later : List Stretch) (stretch : Stretch) → calls_in (former ++ stretch ∷ later) ≡ calls_in former + (stretch.calls + calls_in later)
calls-append former later stretch =
    sum_by-append (λ (s : Stretch). s.calls) former (stretch ∷ later) ∙ ap (λ n. calls_in former + n) (sum_by-cons (λ (s : Stretch). s.calls) stretch later)

pub joined-lives : (side : Side) (old new : DeskState) (former later : List Stretch) (before opening last further : ℕ) (trail more : List Entry) (calls : ℕ)
    → AreKept side old former before opening trail → AreKept side new later further last more → calls ≡ length trail - before
    → GoesOn old new.point (opening_of (lives_of new later last more))
    → lives_of new (former ++ record { opening = opening; calls = calls } ∷ later) last (trail ++ more) ≡ lives_of old former opening trail ++ lives_of new later last more
joined-lives side old new former later before opening last further trail more calls ours theirs count goes =
    let j = first_opening later last in
    let over = bridge old new later last more theirs.within theirs.fronts goes in
    let saved = all_saved side old former opening trail old ours.within ours.fronts ours.legal in
    let first = saved.0 in
    let enough = over.saved in
    let all : before ≡ calls_in former = ours.counted in
    let room = ours.room in
    lives-append old new former opening calls trail later last more j over.point over.same (omega (arith, first, enough)) (within_more old.saved j former enough saved.1)
    (omega (arith, count, all, room))

pub joined-kept : (side : Side) (old new : DeskState) (former later : List Stretch) (before opening last further : ℕ) (trail more : List Entry) (calls : ℕ)
    → AreKept side old former before opening trail → AreKept side new later further last more → calls ≡ length trail - before
    → GoesOn old new.point (opening_of (lives_of new later last more))
    → AreKept side new (former ++ record { opening = opening; calls = calls } ∷ later) (length trail + further) last (trail ++ more)
joined-kept side old new former later before opening last further trail more calls ours theirs count goes =
    let j = first_opening later last in
    let stretch : Stretch = record { opening = opening; calls = calls } in
    let over = bridge old new later last more theirs.within theirs.fronts goes in
    let saved = all_saved side old former opening trail old ours.within ours.fronts ours.legal in
    let first = saved.0 in
    let enough = over.saved in
    let there = over.within in
    let all : before ≡ calls_in former = ours.counted in
    let room = ours.room in
    let rest : further ≡ calls_in later = theirs.counted in
    let sums : calls_in (former ++ stretch ∷ later) ≡ calls_in former + (calls + calls_in later) = calls-append former later stretch in
    let counted : length trail + further ≡ calls_in (former ++ stretch ∷ later) = omega (arith, sums, count, all, room, rest) in
    let fits = theirs.room in
    let lives = joined-lives side old new former later before opening last further trail more calls ours theirs count goes in
    let n = length new.facts in
    record {
      legal = subst (λ (lives : List Life). AreLegal side lives new) (sym lives)
          (legal-append side (lives_of old former opening trail) old (lives_of new later last more) new ours.legal (goes-on side old new later last more goes theirs.legal));
      within = theirs.within;
      fronts = All-append (IsWithin n) former (stretch ∷ later) (within_more old.saved n former (omega (arith, enough, there)) saved.1)
          (all_more (IsWithin n) stretch later (omega (arith, first, enough, there)) theirs.fronts);
      counted = counted;
      room = omega (arith, fits, length-append trail more);
    }
