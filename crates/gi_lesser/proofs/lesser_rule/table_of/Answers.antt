use Rattle.gi_lesser.specs.Lesser.{lesser_of}
use Rattle.gi_lesser.proofs.WalkAnswers.{lesser_is, made, matched, ok_is, same_ok}
use Rattle.gi_lesser.proofs.lesser_rule.table_of.Goals as goal

pub unwrap-requires : goal.unwrap-requires
unwrap-requires c =
    let m = matched c.args.own.now c.args.peer.now c.requires.own_table c.requires.peer_table c.requires.shape c.requires.own c.requires.peer in
    ok_is c.build.result (lesser_of c.args.own.now c.args.peer.now)
    (made c.args.own.now c.args.peer.now c.first.result c.last.result c.args.rows.items c.build.result m c.first.ensures c.last.ensures.value c.requires.rows c.build.ensures.exact)

pub returns-clause-value : goal.returns-clause-value
returns-clause-value c =
    let m = matched c.args.own.now c.args.peer.now c.requires.own_table c.requires.peer_table c.requires.shape c.requires.own c.requires.peer in
    same_ok c.unwrap.result (lesser_of c.args.own.now c.args.peer.now) c.build.result c.unwrap.ensures
    (made c.args.own.now c.args.peer.now c.first.result c.last.result c.args.rows.items c.build.result m c.first.ensures c.last.ensures.value c.requires.rows c.build.ensures.exact)

pub returns-clause-law : goal.returns-clause-law
returns-clause-law c =
    let m = matched c.args.own.now c.args.peer.now c.requires.own_table c.requires.peer_table c.requires.shape c.requires.own c.requires.peer in
    lesser_is c.args.own.now c.args.peer.now c.unwrap.result m (returns-clause-value c)
