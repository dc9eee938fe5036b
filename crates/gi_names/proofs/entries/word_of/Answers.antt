use Rattle.std.proofs.Common.{rules, ◌≡◌, option_map, ℕ, ◌<◌, length, Bool, true, false, List, Bor}
use Rattle.std.specs.Str.{bytes_eq}
use Rattle.std.proofs.lemmas.Iterator.Splits.{YieldsList-from_str_split}
use Rattle.std.proofs.lemmas.Iterator.Search.{find_from_yields_List}
use Rattle.gi_names.specs.Entries.{has_entry, key_of, told_of}
use Rattle.gi_names.proofs.entries.word_of.Goals as goal

pub returns : goal.returns
returns c =
    find_from_yields_List (λ word. has_entry c.args.text.now word) _ _ c.find.result c.find.ensures.ran
    (YieldsList-from_str_split 32 c.args.said.now (search rules) c.split.ensures.text c.split.ensures.has_more c.split.ensures.pattern)
    (λ x b q called. search rules)
