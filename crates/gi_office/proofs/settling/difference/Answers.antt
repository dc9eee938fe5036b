use Rattle.std.proofs.Common.{◌≡◌, ◌≢◌, ◌+◌, Some, slice_get, arith}
use Rattle.std.proofs.lemmas.Option.{slice_get_within}
use Rattle.gi_office.specs.Settling.{note_of}
use Rattle.gi_office.proofs.Noting.{differs, longer, matched, passed}
use Rattle.gi_office.proofs.settling.difference.Goals as goal

pub loop-i-preserved-then-entry-number : goal.loop-i-preserved-then-entry-number
loop-i-preserved-then-entry-number c = record {
  within = c.loop-i.invariant.within;
  same = passed c.args.number c.loop-i.i c.loop-i.next c.args.notes.now c.args.trail.now c.index-trail-i.result c.loop-i-test.true c.index-trail-i.is c.if-entry-number.true c.loop-i.invariant.same;
}

pub returns-then-not-is_noted : goal.returns-then-not-is_noted
returns-then-not-is_noted c =
    let missed : slice_get c.args.notes.now c.loop-i.next ≢ Some (note_of (c.loop-i.i + 1) c.index-trail-i.result) = λ e. let is = c.is_noted.ensures.1 e in let not = c.if-not-is_noted.true in cc in
    differs c.args.number c.loop-i.i c.loop-i.next c.args.notes.now c.args.trail.now c.index-trail-i.result c.loop-i-test.true c.index-trail-i.is c.if-entry-number.false
    c.loop-i.invariant.within missed c.loop-i.invariant.same

pub loop-i-preserved : goal.loop-i-preserved
loop-i-preserved c =
    let noted : slice_get c.args.notes.now c.loop-i.next ≡ Some (note_of (c.loop-i.i + 1) c.index-trail-i.result) = c.is_noted.ensures.0 c.if-not-is_noted.false in
    record {
      within = let w = slice_get_within c.args.notes.now c.loop-i.next (note_of (c.loop-i.i + 1) c.index-trail-i.result) noted in omega (arith, w);
      same = matched c.args.number c.loop-i.i c.loop-i.next c.args.notes.now c.args.trail.now c.index-trail-i.result c.loop-i-test.true c.index-trail-i.is c.if-entry-number.false
          noted c.loop-i.invariant.same;
    }

pub returns-then-next-notes : goal.returns-then-next-notes
returns-then-next-notes c = longer c.args.number c.loop-i.i c.loop-i.next c.args.notes.now c.args.trail.now (omega arith) c.if-next-notes.true c.loop-i.invariant.same
