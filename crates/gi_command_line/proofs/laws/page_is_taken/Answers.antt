use Rattle.std.proofs.Common.{◌≡◌, codes, List, [], ◌∷◌, ℕ, Option, Some, None, refl}
use Rattle.clap.proofs.OnLiterals.{clap_on_literals}
use Rattle.clap.specs.declared.error.kind.ErrorKind.TheVariants.{MissingRequiredArgument}
use Rattle.gi_pairs.specs.Side.{side_named, side_text}
use Rattle.gi_pairs.specs.declared.side.Side.{Side}
use Rattle.gi_pairs.specs.declared.side.Side.TheVariants.{I, M}
use Rattle.gi_command_line.specs.Asked.{at_once, mistaken, page}
use Rattle.gi_command_line.specs.CommandLine.{asked, objections}
use Rattle.gi_command_line.specs.Laws.{AreTaken, PageIsTaken, PageNeedsADay, PageNeedsItsPoint, PageOfABookIsTaken, book_words, page_words, with_value}
use Rattle.gi_command_line.proofs.laws.page_is_taken.Goals as goal

plain : PageIsTaken
unfolding clap_on_literals side_named
plain program day I = (refl, refl)
plain program day M = (refl, refl)

of_book : PageOfABookIsTaken
unfolding clap_on_literals side_named
of_book program day file point I = (refl, refl)
of_book program day file point M = (refl, refl)

missing : PageNeedsADay
unfolding clap_on_literals side_named
missing program I = refl
missing program M = refl

unpaired : PageNeedsItsPoint
unfolding clap_on_literals side_named
unpaired program day file I = (refl, refl)
unpaired program day file M = (refl, refl)

pub returns : goal.returns
returns c = record { plain = plain; of_book = of_book; needs_a_day = missing; needs_its_point = unpaired }
