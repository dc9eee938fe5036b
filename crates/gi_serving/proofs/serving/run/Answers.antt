use Rattle.std.proofs.Common.{arith, rules, ◌≡◌, ◌≤◌, ◌+◌, ◌-◌, max, length, take, drop, ℕ, ap, refl, ◌∙◌, sym, subst}
use Rattle.std.proofs.lemmas.List.{take_rest}
use Rattle.gi_serving.specs.Making.{WritesFirst, offices_of}
use Rattle.gi_pairs.specs.declared.side.Side.TheVariants.{I, M}
use Rattle.gi_serving.proofs.Faulting.{both_kept, both_then, tells_then}
use Rattle.gi_serving.proofs.Places.{same_again, same_length}
use Rattle.gi_serving.proofs.Walking.{all_made, begun, next_made, so_far}
use Rattle.gi_serving.proofs.serving.run.Goals as goal

pub loop-at-init : goal.loop-at-init
loop-at-init g c =
    let start = offices_of c.args.both.now.initiating c.args.both.now.matching in
    record {
      within = omega arith;
      sessions = refl;
      ours = refl;
      theirs = refl;
      well =
          both_kept (g.B.Turns.takes I) (g.C.Turns.takes M) c.args.both.now.initiating.book c.args.both.now.initiating.book
          c.args.both.now.matching.book c.args.both.now.matching.book refl refl;
      watched = c.requires.begun;
      counted = c.requires.counted;
      written = begun c.args.both.now.sessions c.args.lines.now start (g.O.Write.contents c.args.output.now);
    }

pub step-requires-clause-batch : goal.step-requires-clause-batch
step-requires-clause-batch g c κs within = c.batch_length-batch.ensures.counted

pub step-requires-clause-within : goal.step-requires-clause-within
step-requires-clause-within g c κs within = c.batch_length-batch.ensures.within

pub step-requires-clause-ours : goal.step-requires-clause-ours
step-requires-clause-ours g c κs within =
    same_length c.args.both.now.initiating.seats.items c.loop-at.both.initiating.seats.items c.loop-at.invariant.ours
    ∙ c.requires.ours
    ∙ ap (λ (n : ℕ). n + 1) (sym c.loop-at.invariant.sessions)

pub step-requires-clause-theirs : goal.step-requires-clause-theirs
step-requires-clause-theirs g c κs within =
    same_length c.args.both.now.matching.seats.items c.loop-at.both.matching.seats.items c.loop-at.invariant.theirs
    ∙ c.requires.theirs
    ∙ ap (λ (n : ℕ). n + 1) (sym c.loop-at.invariant.sessions)

pub returns-in-Err-clause-leaves : goal.returns-in-Err-clause-leaves
returns-in-Err-clause-leaves g c =
    let start = offices_of c.args.both.now.initiating c.args.both.now.matching in
    let reached = offices_of c.loop-at.both.initiating c.loop-at.both.matching in
    so_far c.args.both.now.sessions c.args.lines.now c.loop-at.at (g.V.Watch.told c.loop-at.watch) start reached
    (g.O.Write.contents c.args.output.now) (g.O.Write.contents c.loop-at.output) (g.O.Write.contents c.step.new.output) c.in-Err.fault
    c.loop-at.invariant.watched c.loop-at.invariant.written c.in-Err.ensures.leaves

pub returns-in-Err-clause-tells : goal.returns-in-Err-clause-tells
returns-in-Err-clause-tells g c =
    tells_then (g.B.Turns.takes I) (g.C.Turns.takes M) c.args.both.now.initiating.book c.loop-at.both.initiating.book c.step.new.both.initiating.book
    c.args.both.now.matching.book c.loop-at.both.matching.book c.step.new.both.matching.book c.in-Err.fault c.loop-at.invariant.well c.in-Err.ensures.tells

pub loop-at-preserved : goal.loop-at-preserved
loop-at-preserved g c =
    let sessions = c.args.both.now.sessions in
    let before = g.O.Write.contents c.args.output.now in
    let between = g.O.Write.contents c.loop-at.output in
    let after = g.O.Write.contents c.step.new.output in
    let lines = c.args.lines.now in
    let at = c.loop-at.at in
    let left = take (length lines - at) (drop at lines) in
    let start = offices_of c.args.both.now.initiating c.args.both.now.matching in
    let now = offices_of c.loop-at.both.initiating c.loop-at.both.matching in
    let next = offices_of c.step.new.both.initiating c.step.new.both.matching in
    let same : left ≡ drop at lines = take_rest lines at in
    let count : c.max-at.result ≡ max c.batch_length-batch.result 1 = search rules in
    let first : WritesFirst c.loop-at.both.sessions left (max c.batch_length-batch.result 1) now between after next = c.in_default.ensures.made in
    let within : c.loop-at.at + c.max-at.result ≤ length c.args.lines.now = search rules in
    let whole : g.V.Watch.whole c.made.new.self ≡ length c.args.lines.now = search rules in
    record {
      within = within;
      sessions = c.in_default.ensures.sessions ∙ c.loop-at.invariant.sessions;
      ours = same_again _ _ _ c.loop-at.invariant.ours c.in_default.ensures.ours;
      theirs = same_again _ _ _ c.loop-at.invariant.theirs c.in_default.ensures.theirs;
      well =
          both_then (g.B.Turns.takes I) (g.C.Turns.takes M) c.args.both.now.initiating.book c.loop-at.both.initiating.book c.step.new.both.initiating.book
          c.args.both.now.matching.book c.loop-at.both.matching.book c.step.new.both.matching.book c.loop-at.invariant.well c.in_default.ensures.well;
      watched = c.made.ensures.lines;
      counted = whole;
      written =
          next_made sessions lines left at c.max-at.result start now next before between after same c.loop-at.invariant.written
          (subst (λ (n : ℕ). WritesFirst sessions left n now between after next) (sym count)
          (subst (λ (n : ℕ). WritesFirst n left (max c.batch_length-batch.result 1) now between after next) c.loop-at.invariant.sessions first));
    }

pub returns-clause-whole : goal.returns-clause-whole
returns-clause-whole g c =
    let start = offices_of c.args.both.now.initiating c.args.both.now.matching in
    let reached = offices_of c.loop-at.both.initiating c.loop-at.both.matching in
    let all : c.loop-at.at ≡ length c.args.lines.now = omega (arith, c.loop-at-test.false, c.loop-at.invariant.within) in
    all_made c.args.both.now.sessions c.args.lines.now c.loop-at.at start reached (g.O.Write.contents c.args.output.now) (g.O.Write.contents c.loop-at.output) all c.loop-at.invariant.written

pub returns-clause-over : goal.returns-clause-over
returns-clause-over g c = omega (arith, c.loop-at-test.false, c.loop-at.invariant.within, c.loop-at.invariant.watched)
