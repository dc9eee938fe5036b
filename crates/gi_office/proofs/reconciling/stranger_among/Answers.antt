use Rattle.std.proofs.Common.{◌≡◌, ◌+◌, ◌-◌, ℕ, List, length, take, true, slice_get, refl, sym, ap, ◌∙◌, subst, arith}
use Rattle.std.proofs.lemmas.List.{take_all}
use Rattle.std.proofs.lemmas.List.Elements.{All-more}
use Rattle.std.proofs.lemmas.Option.{slice_get_read}
use Rattle.gi_office.specs.Reconciling.{AreFrom, IsFrom}
use Rattle.gi_office.specs.declared.entry.Entry.{Entry}
use Rattle.gi_office.proofs.Sent.{from_test, test_from}
use Rattle.gi_office.proofs.reconciling.stranger_among.Goals as goal

pub returns-then-not-is_among : goal.returns-then-not-is_among
returns-then-not-is_among g c =
    let side = g.R.Role.SIDE in
    let s = c.args.sender.now.desk in
    let entries = c.args.entries.now in
    let i = c.loop-i.i in
    let entry = c.index-entries-i.result in
    let by_one : (i + 1) - 1 ≡ i = omega arith in
    record {
      some = omega arith;
      entry = entry;
      there = ap (λ (n : ℕ). slice_get entries n) by_one ∙ slice_get_read entries (length entries) i entry refl c.loop-i-test.true c.index-entries-i.is;
      strange =
          λ from.
          let is : c.is_among.result ≡ true = c.is_among.ensures ∙ test_from side s c.args.packets.now entry.call c.requires from in
          let not = c.if-not-is_among.true in cc;
      before = subst (λ (n : ℕ). AreFrom side s (take n entries)) (sym by_one) c.loop-i.invariant;
    }

pub loop-i-preserved : goal.loop-i-preserved
loop-i-preserved g c =
    let side = g.R.Role.SIDE in
    let s = c.args.sender.now.desk in
    let entry = c.index-entries-i.result in
    let from = from_test side s c.args.packets.now entry.call c.requires (sym c.is_among.ensures ∙ c.if-not-is_among.false) in
    All-more (λ (e : Entry). IsFrom side s e.call) c.args.entries.now c.loop-i.i entry c.loop-i-test.true c.loop-i.invariant
    (subst (λ (e : Entry). IsFrom side s e.call) c.index-entries-i.is from)

pub returns : goal.returns
returns g c =
    let entries = c.args.entries.now in
    subst (λ (l : List Entry). AreFrom g.R.Role.SIDE c.args.sender.now.desk l) (take_all c.loop-i.i entries (omega arith)) c.loop-i.invariant
