use Rattle.std.proofs.Common.{◌≡◌, Ok, Err, Result}
use Rattle.gi_store.specs.declared.store_fault.StoreFault.{StoreFault}
use Rattle.gi_store.specs.declared.store_fault.StoreFault.TheVariants.{Version}
use Rattle.gi_store.proofs.book_store.BookStore.open.Goals as goal

pub returns-in-Err-clause-other : goal.returns-in-Err-clause-other
returns-in-Err-clause-other g c idle free tables =
    let is : ◌≡◌ {A = Result (Unit {0}) StoreFault} (Err c.in-Err.fault) (Err Version) = c.in-Err.ensures.other idle free tables in
    cc

pub returns-in-Err-clause-failed : goal.returns-in-Err-clause-failed
returns-in-Err-clause-failed g c idle free takes other clean = c.in-Err.ensures.failed clean idle free takes other

pub returns-in-Err-clause-owned : goal.returns-in-Err-clause-owned
returns-in-Err-clause-owned g c idle theirs code is other clean = c.in-Err.ensures.owned clean idle theirs code is other

pub returns-in-Ok-clause-other : goal.returns-in-Ok-clause-other
returns-in-Ok-clause-other g c idle free tables =
    let no : ◌≡◌ {A = Result (Unit {0}) StoreFault} (Ok c.in-Ok.field-0) (Err Version) = c.in-Ok.ensures.other idle free tables in
    cc
