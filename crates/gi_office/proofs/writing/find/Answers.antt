use Rattle.std.proofs.Common.{rules, ◌≡◌, inr, length, refl, subst, sym}
use Rattle.gi_store.specs.Book.{counted}
use Rattle.gi_office.specs.Saving.{GoesOnBy, next_after}
use Rattle.gi_office.proofs.Standing.{tells_next}
use Rattle.gi_office.proofs.writing.find.Goals as goal

pub returns-clause-read : goal.returns-clause-read
returns-clause-read g c =
    let all = c.in_ok-all.all.items in
    let told : c.next_after.result ≡ next_after (counted (length all)) = search rules in
    tells_next _ _ _ c.in_ok-all.ensures.loaded told

pub returns-clause-refused : goal.returns-clause-refused
returns-clause-refused g c clean =
    let all = c.in_ok-all.all.items in
    let told : c.next_after.result ≡ next_after (counted (length all)) = search rules in
    inr (record {
      all = all;
      read = c.in_ok-all.ensures.facts clean;
      others = λ count goes. c.in-None.ensures.others refl count (subst (λ facts. GoesOnBy c.args.n c.args.facts.now facts count) (sym c.deref.ensures.value) goes);
      told = told;
    })
