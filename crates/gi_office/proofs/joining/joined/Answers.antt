use Rattle.std.proofs.Common.{rules, ◌≡◌, ◌-◌, ℕ, ◌∷◌, ◌++◌, length, sym, ap, ◌∙◌, subst}
use Rattle.gi_office.specs.Joining.{joined_of, lives_of, opening_of}
use Rattle.gi_office.specs.Settling.{GoesOn, SettledState}
use Rattle.gi_office.specs.declared.stretch.Stretch.{Stretch}
use Rattle.gi_office.proofs.Kept.{joined-kept, joined-lives}
use Rattle.gi_office.proofs.joining.joined.Goals as goal

pub invariant_of-result : goal.invariant_of-result
invariant_of-result g c =
    let side = g.R.Role.SIDE in
    let former = c.former.inside in
    let later = c.later.inside in
    let calls = c.len.result - former.before in
    let stretch : Stretch = record { opening = former.opening; calls = calls } in
    let goes =
    subst (λ (x : SettledState). GoesOn x.desk later.desk.point (opening_of (lives_of later.desk later.earlier.items later.opening later.trail.items))) (sym c.former.view_is)
    (subst (λ (x : SettledState). GoesOn c.args.former.desk x.desk.point (opening_of x.lives)) (sym c.later.view_is) c.requires) in
    let earlier : c.append-appended.new.earlier.items ≡ former.earlier.items ++ stretch ∷ later.earlier.items = c.in-Ok.ensures.earlier in
    let trail : c.append-appended.new.trail.items ≡ former.trail.items ++ later.trail.items = c.in-Ok.ensures.trail in
    let count : c.len-2.result ≡ length former.trail.items = search rules in
    let had : c.len.result ≡ length former.trail.items = search rules in
    let number : calls ≡ length former.trail.items - former.before = ap (λ (n : ℕ). n - former.before) had in
    rw (earlier, count, trail)
    (joined-kept side former.desk later.desk former.earlier.items later.earlier.items former.before former.opening later.opening later.before former.trail.items later.trail.items
    calls c.former.invariant c.later.invariant number goes)

pub returns-clause-value : goal.returns-clause-value
returns-clause-value g c =
    let side = g.R.Role.SIDE in
    let former = c.former.inside in
    let later = c.later.inside in
    let calls = c.len.result - former.before in
    let stretch : Stretch = record { opening = former.opening; calls = calls } in
    let goes =
    subst (λ (x : SettledState). GoesOn x.desk later.desk.point (opening_of (lives_of later.desk later.earlier.items later.opening later.trail.items))) (sym c.former.view_is)
    (subst (λ (x : SettledState). GoesOn c.args.former.desk x.desk.point (opening_of x.lives)) (sym c.later.view_is) c.requires) in
    let earlier : c.append-appended.new.earlier.items ≡ former.earlier.items ++ stretch ∷ later.earlier.items = c.in-Ok.ensures.earlier in
    let trail : c.append-appended.new.trail.items ≡ former.trail.items ++ later.trail.items = c.in-Ok.ensures.trail in
    let had : c.len.result ≡ length former.trail.items = search rules in
    let number : calls ≡ length former.trail.items - former.before = ap (λ (n : ℕ). n - former.before) had in
    let lives =
    (λ i. lives_of later.desk (earlier i) later.opening (trail i))
    ∙ joined-lives side former.desk later.desk former.earlier.items later.earlier.items former.before former.opening later.opening later.before former.trail.items
    later.trail.items calls c.former.invariant c.later.invariant number goes in
    let both : SettledState = record { lives = lives_of later.desk c.append-appended.new.earlier.items later.opening c.append-appended.new.trail.items; desk = later.desk } in
    let first : both ≡ joined_of (record { lives = lives_of former.desk former.earlier.items former.opening former.trail.items; desk = former.desk }) (record { lives = lives_of later.desk later.earlier.items later.opening later.trail.items; desk = later.desk }) =
    (λ i. record { lives = lives i; desk = later.desk }) in
    first ∙ (λ i. joined_of (c.former.view_is i) (c.later.view_is i))
