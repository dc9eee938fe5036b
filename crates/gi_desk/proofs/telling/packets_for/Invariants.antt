use Rattle.std.proofs.Common.{◌≡◌, map, take}
use Rattle.gi_messages.specs.declared.message.Message.TheVariants as messages
use Rattle.gi_desk.specs.Messages.{to_user, told_of}
use Rattle.gi_desk.proofs.telling.packets_for.Given as goal

abbrev pub invariant-loop-portfolio : goal.invariant-loop-portfolio
invariant-loop-portfolio l = l.packets.items ≡ map (λ portfolio. to_user portfolio (messages.Nomres (told_of l.side l.point l.cycle portfolio))) (take l.portfolio-index l.portfolios)
