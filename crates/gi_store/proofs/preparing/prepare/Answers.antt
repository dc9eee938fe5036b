use Rattle.std.proofs.Common.{◌≡◌, ◌⊎◌, subst, sym, rules}
use Rattle.sqlite.specs.Effect.{Database}
use Rattle.sqlite.specs.Held.{state}
use Rattle.gi_store.specs.Failing.{IsCausedAtAll}
use Rattle.gi_store.specs.Keeping.{IsVersion}
use Rattle.gi_store.specs.Rows.{IsOwned}
use Rattle.gi_store.specs.Tables.{IsFree, TakesOwner}
use Rattle.gi_store.specs.declared.version.BookVersion.TheVariants.{Two}
use Rattle.gi_store.proofs.Causes.{at_all, caused_later}
use Rattle.gi_store.proofs.Whose.{book_of, free_not_book, second, told_later}
use Rattle.gi_store.proofs.preparing.prepare.Goals as goal

pub returns-then-is_free-clause-owned : goal.returns-then-is_free-clause-owned
returns-then-is_free-clause-owned g c clean idle theirs code is other =
    let free : IsFree (state g.S.Store c.args.connection.now).now.schema = search rules in
    free_not_book theirs (state g.S.Store c.args.connection.now).now free is

pub returns-clause-owned : goal.returns-clause-owned
returns-clause-owned g c clean idle theirs code is other =
    let old = state g.S.Store c.args.connection.now in
    let mid = state g.S.Store c.read_version.new.connection in
    let new = state g.S.Store c.own.new.connection in
    let early = c.own.ensures.early clean in
    let version = c.in_ok-version.ensures.version early in
    let kept = c.read_version.ensures.kept early in
    let free : ¬ IsFree old.now.schema = search rules in
    told_later c.args.owner theirs old mid new c.own.result free (kept.same version.0) (book_of c.in_ok-version.version mid.now version.1) (c.own.ensures.ready clean) (c.own.ensures.kept clean) c.own.ensures.takes (c.own.ensures.refused clean) code is other

pub returns-in_err-version-clause-failed : goal.returns-in_err-version-clause-failed
returns-in_err-version-clause-failed g c clean idle free takes other =
    let old = state g.S.Store c.args.connection.now in
    let new = state g.S.Store c.read_version.new.connection in
    let caused : IsCausedAtAll old new c.in_err-version.field-0.0 = at_all old new c.in_err-version.field-0.0 (c.in_err-version.ensures.failed clean) in
    search rules

pub returns-clause-failed : goal.returns-clause-failed
returns-clause-failed g c clean idle free takes other =
    let old = state g.S.Store c.args.connection.now in
    let mid = state g.S.Store c.read_version.new.connection in
    let new = state g.S.Store c.own.new.connection in
    let early = c.own.ensures.early clean in
    let version = c.in_ok-version.ensures.version early in
    let same : mid.now ≡ old.now = (c.read_version.ensures.kept early).same version.0 in
    let not_raised : (c.in_ok-version.version ≡ Two) ⊎ ¬ IsOwned c.args.owner mid.now =
    second c.args.owner c.in_ok-version.version mid.now (subst (λ (d : Database). ¬ (IsVersion 1 d × IsOwned c.args.owner d)) (sym same) other) version.1 in
    let none : ¬ TakesOwner mid.now.schema = subst (λ (d : Database). ¬ TakesOwner d.schema) (sym same) takes in
    caused_later old mid new c.own.result (c.read_version.ensures.endures early) version.0 same (c.own.ensures.failed clean none not_raised)
