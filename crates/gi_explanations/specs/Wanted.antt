-- Which facts are looked for.
use Rattle.std.specs.Prelude.{Bool}
use Rattle.gi_facts.specs.declared.fact.Fact.{Fact}
use Rattle.gi_desk.specs.History.{is_closing, is_meeting}
use Rattle.gi_explanations.specs.Numbers.{is_contract, is_nomination, is_notice}
use Rattle.gi_explanations.specs.declared.wanted.Wanted.{Wanted}
use Rattle.gi_explanations.specs.declared.wanted.Wanted.TheVariants.{Nomination, Contract, Notice, Closing, Meeting}

abbrev pub is_wanted : Wanted → Fact → Bool
is_wanted (Nomination portfolio day) = is_nomination portfolio day
is_wanted (Contract portfolio day direction) = is_contract portfolio day direction
is_wanted (Notice day direction hour) = is_notice day direction hour
is_wanted (Closing id) = is_closing id
is_wanted (Meeting id) = is_meeting id
