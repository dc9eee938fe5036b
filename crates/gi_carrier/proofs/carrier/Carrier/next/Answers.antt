use Rattle.std.proofs.Common.{Contains, map, sym, ap, ◌∙◌, option_map}
use Rattle.std.proofs.lemmas.List.Elements.{All-contains_itself, All-same}
use Rattle.gi_carrier.specs.Kept.{bytes_of, messages_of}
use Rattle.gi_carrier.proofs.CarrierLaws.{bytes_are, waited_are, waited_is}
use Rattle.gi_carrier.proofs.carrier.Carrier.next.Goals as goal

pub returns-in_err-given-clause-wait : goal.returns-in_err-given-clause-wait
returns-in_err-given-clause-wait c =
    let waiting = c.args.self.now.waiting in
    All-same (Contains waiting) (messages_of c.make.new.waiting) waiting (ap (map bytes_of) c.in_err-given.ensures.unchanged ∙ ap (λ s. s.waiting) c.self.view_is) (All-contains_itself waiting)

pub returns-clause-waited : goal.returns-clause-waited
returns-clause-waited c =
    let waiting = c.args.self.now.waiting in
    let same = sym (ap (λ s. s.waiting) c.self.view_is) in
    bytes_are (Contains waiting) c.in_ok-given.given (waited_is waiting (messages_of c.self.inside.waiting) c.move_at.result (option_map bytes_of c.in_ok-given.given) same c.in_ok-given.ensures.given)

pub returns-clause-wait : goal.returns-clause-wait
returns-clause-wait c =
    let same = sym (ap (λ s. s.waiting) c.self.view_is) in
    waited_are c.args.self.now.waiting (messages_of c.self.inside.waiting) (messages_of c.make.new.waiting) c.move_at.result same c.in_ok-given.ensures.left
