-- When two facts are the same.
use Rattle.std.specs.Prelude.{Bool, false, ◌&&◌, nat_eq}
use Rattle.gi_day.specs.SameDay.{same_day}
use Rattle.gi_pairs.specs.Table.{table_eq}
use Rattle.gi_pairs.specs.declared.cycle_id.CycleId.{CycleId}
use Rattle.gi_messages.specs.Lines.{nomint_eq}
use Rattle.gi_processing.specs.Capacity.{contract_eq, notice_eq}
use Rattle.gi_processing.specs.Rule.{rule_number}
use Rattle.gi_processing.specs.declared.rule.Rule.{Rule}
use Rattle.gi_facts.specs.declared.fact.Fact.{Fact}
use Rattle.gi_facts.specs.declared.fact.Fact.TheVariants.{Contracted, Noticed, Nominated, Closed, Met}

abbrev pub same_cycle : CycleId → CycleId → Bool
same_cycle a b = same_day a.day b.day && nat_eq a.cycle b.cycle

abbrev pub same_rule : Rule → Rule → Bool
same_rule a b = nat_eq (rule_number a) (rule_number b)

abbrev pub same_fact : Fact → Fact → Bool
same_fact (Contracted a) (Contracted b) = contract_eq a b
same_fact (Noticed a) (Noticed b) = notice_eq a b
same_fact (Nominated a) (Nominated b) = nomint_eq a b
same_fact (Closed a rule) (Closed b other) = same_cycle a b && same_rule rule other
same_fact (Met a peer) (Met b other) = same_cycle a b && table_eq peer other
same_fact a b = false
