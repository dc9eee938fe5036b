use Rattle.std.proofs.Common.{◌≡◌, length, rules}
use Rattle.gi_store.proofs.Heads.{line_written}
use Rattle.gi_store.proofs.head.line_of.Goals as goal

pub returns : goal.returns
returns c =
    let ten : length c.args.digits ≡ 10 = search rules in
    let sixty : length c.args.digest ≡ 64 = search rules in
    line_written c.args.digits c.args.digest c.put.new.text c.put-2.new.text ten sixty c.put.ensures c.put-2.ensures
