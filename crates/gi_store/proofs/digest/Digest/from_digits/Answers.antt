use Rattle.std.proofs.Common.{Option, Some, List, ℕ, ap}
use Rattle.gi_store.specs.declared.digest.Digest.{Digest}
use Rattle.gi_store.proofs.Heads.{not_refused, read_back}
use Rattle.gi_store.proofs.digest.Digest.from_digits.Goals as goal

pub returns-in-Ok : goal.returns-in-Ok
returns-in-Ok c digest long bytes is =
    let digest_with : List ℕ → Option Digest = λ read. Some (record { bytes = read }) in
    ap digest_with (read_back _ c.in-Ok.bytes digest.bytes long bytes is c.in-Ok.ensures)

pub returns-in-Err : goal.returns-in-Err
returns-in-Err c digest long bytes is = absurd (not_refused _ digest.bytes c.in-Err.field-0 long bytes is c.in-Err.ensures)
