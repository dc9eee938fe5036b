use Rattle.std.proofs.Common.{◌≡◌, arith, lit<, ◌∙◌, rules}
use Rattle.std.proofs.lemmas.Str.Pattern.{split_once_first}
use Rattle.gi_script.specs.Words.{space, words_of}
use Rattle.gi_script.proofs.WordLemmas.{words-found, words-none}
use Rattle.gi_script.proofs.words.Words.next.Goals as goal

pub returns-in-Some : goal.returns-in-Some
returns-in-Some c =
    let rest = c.in_ok-rest.rest.now in
    let cut = split_once_first space rest c.split_once.result c.split_once.ensures.cases (lit< tt) in
    let parts = rw c.in-Some.is at cut in
    let was : c.args.self.now ≡ words_of rest = search rules in
    rw (was, parts.1, parts.2) (words-found rest parts.0)

pub returns-in-None : goal.returns-in-None
returns-in-None c =
    let rest = c.in_ok-rest.rest.now in
    let cut = split_once_first space rest c.split_once.result c.split_once.ensures.cases (lit< tt) in
    let all = rw c.in-None.is at cut in
    let was : c.args.self.now ≡ words_of rest = search rules in
    was ∙ words-none rest (omega arith)
