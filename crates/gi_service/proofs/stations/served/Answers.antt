use Rattle.std.proofs.Common.{inr, ◌∙◌, ℕ, subst}
use Rattle.gi_serving.specs.Ending.{Ends}
use Rattle.gi_service.proofs.Agreed.{IsWhole, fault_of_facts, facts_agree}
use Rattle.gi_service.proofs.stations.served.Goals as goal

pub returns-in-Err-clause-fault : goal.returns-in-Err-clause-fault
returns-in-Err-clause-fault g c =
    let e = c.in_ok-initiating.ensures in
    let ours : IsWhole c.args.script.now.point c.in_ok-initiating.initiating.0 = record { at = e.point ∙ c.point.ensures; saved = e.saved; runs = e.runs; none = e.none } in
    let theirs : IsWhole c.args.script.now.point c.in_ok-initiating.matching.0 = record { at = e.peer_point ∙ c.point.ensures; saved = e.peer_saved; runs = e.peer_runs; none = e.peer_none } in
    inr (fault_of_facts c.args.script.now.point c.in_ok-initiating.initiating.0 c.in_ok-initiating.matching.0 c.in-Err.fault ours theirs c.in-Err.ensures.fault)

pub returns-in-Err-clause-first : goal.returns-in-Err-clause-first
returns-in-Err-clause-first g c =
    let e = c.in_ok-initiating.ensures in
    let ours : IsWhole c.args.script.now.point c.in_ok-initiating.initiating.0 = record { at = e.point ∙ c.point.ensures; saved = e.saved; runs = e.runs; none = e.none } in
    let theirs : IsWhole c.args.script.now.point c.in_ok-initiating.matching.0 = record { at = e.peer_point ∙ c.point.ensures; saved = e.peer_saved; runs = e.peer_runs; none = e.peer_none } in
    inr (
      (e.opened.before, e.opened.opened),
      inr (
        (e.peer_opened.before, e.peer_opened.opened),
        fault_of_facts c.args.script.now.point c.in_ok-initiating.initiating.0 c.in_ok-initiating.matching.0 c.in-Err.fault ours theirs c.in-Err.ensures.fault,
      ),
    )

pub returns-clause-agreed : goal.returns-clause-agreed
returns-clause-agreed g c =
    let e = c.in_ok-initiating.ensures in
    let ours : IsWhole c.args.script.now.point c.in_ok-initiating.initiating.0 = record { at = e.point ∙ c.point.ensures; saved = e.saved; runs = e.runs; none = e.none } in
    let theirs : IsWhole c.args.script.now.point c.in_ok-initiating.matching.0 = record { at = e.peer_point ∙ c.point.ensures; saved = e.peer_saved; runs = e.peer_runs; none = e.peer_none } in
    record {
      initiating = c.in_ok-initiating.initiating.0.facts;
      matching = c.in_ok-initiating.matching.0.facts;
      ours = record { book = c.in_ok-initiating.initiating.1; opened = e.opened; read = e.facts };
      theirs = record { book = c.in_ok-initiating.matching.1; opened = e.peer_opened; read = e.peer_facts };
      agree = facts_agree c.args.script.now.point c.in_ok-initiating.initiating.0 c.in_ok-initiating.matching.0 ours theirs c.in_default.ensures.agreed;
    }

pub returns-clause-served : goal.returns-clause-served
returns-clause-served g c =
    let told = g.V.Watch.told c.serve.new.watch in
    let from = g.O.Write.contents c.args.output.now in
    let to = g.O.Write.contents c.serve.new.output in
    (told, subst (λ (count : ℕ). Ends count c.args.script.now.lines told from to c.serve.result) c.count.ensures.value c.serve.ensures.ends)
