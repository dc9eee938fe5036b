-- Which document is in force of a list, and what one more does to it.
use Rattle.std.proofs.Common.{◌≡◌, ℕ, List, [], ◌∷◌, ◌++◌, find, reverse, Bool, true, false, cond, Option, Some, None, refl, sym, ap, ◌∙◌}
use Rattle.std.specs.Option.{option_or}
use Rattle.std.specs.Str.{bytes_eq}
use Rattle.std.proofs.lemmas.Bool.{and_parts, and_from}
use Rattle.std.proofs.lemmas.List.{reverse-append}
use Rattle.std.proofs.lemmas.List.Folds.{find-append}
use Rattle.std.proofs.lemmas.Slice.Eq.{bytes_eq-Decides}
use Rattle.jiff_core.specs.declared.civil.date.Date.{Date}
use Rattle.gi_day.specs.SameDay.{same_day}
use Rattle.gi_day.proofs.DayLaws.{same_day-Decides}
use Rattle.gi_messages.specs.declared.message.Nomint.{Nomint}
use Rattle.gi_nominations.specs.Book.{DocumentStands, is_of, in_force}

-- a document is of its portfolio and gas day
pub is_of-takes : (portfolio : List ℕ) (day : Date) (document : Nomint) → is_of portfolio day document ≡ true → (document.portfolio ≡ portfolio) × (document.day ≡ day)
is_of-takes portfolio day document is =
    let both = and_parts (bytes_eq document.portfolio portfolio) (same_day document.day day) is in (
      (bytes_eq-Decides document.portfolio portfolio).0 both.0,
      (same_day-Decides document.day day).0 both.1,
    )

-- and of no other
pub is_of-again : (portfolio : List ℕ) (day : Date) (document : Nomint) → document.portfolio ≡ portfolio → document.day ≡ day → is_of portfolio day document ≡ true
is_of-again portfolio day document portfolio_is day_is =
    and_from (bytes_eq document.portfolio portfolio) (same_day document.day day)
    ((bytes_eq-Decides document.portfolio portfolio).1 portfolio_is) ((same_day-Decides document.day day).1 day_is)

-- ---- one document more at the end

in_force-more : (portfolio : List ℕ) (day : Date) (documents : List Nomint) (document : Nomint)
    → in_force portfolio day (documents ++ document ∷ []) ≡ option_or (find (is_of portfolio day) (document ∷ [])) (in_force portfolio day documents)
unfolding in_force
in_force-more portfolio day documents document =
    ap (find (is_of portfolio day)) (reverse-append documents (document ∷ [])) ∙ find-append (is_of portfolio day) (document ∷ []) (reverse documents)

last_found : (portfolio : List ℕ) (day : Date) (document : Nomint) (documents : List Nomint) (b : Bool) → is_of portfolio day document ≡ b
    → option_or (find (is_of portfolio day) (document ∷ [])) (in_force portfolio day documents) ≡ cond b (Some document) (in_force portfolio day documents)
last_found portfolio day document documents true is = rw is refl
last_found portfolio day document documents false is = rw is refl

-- The last document of a list is in force for its portfolio and gas day, and for all others the one that was before it.
pub in_force-appended : (documents : List Nomint) (document : Nomint) → DocumentStands documents (documents ++ document ∷ []) document
in_force-appended documents document portfolio day =
    in_force-more portfolio day documents document ∙ last_found portfolio day document documents (is_of portfolio day document) refl

-- ---- one document more in front

pub nothing_in_force : (portfolio : List ℕ) (day : Date) → in_force portfolio day [] ≡ None
unfolding in_force
nothing_in_force portfolio day = refl

-- the document in force is found behind the first, or is the first
in_force-front : (portfolio : List ℕ) (day : Date) (document : Nomint) (documents : List Nomint)
    → in_force portfolio day (document ∷ documents) ≡ option_or (in_force portfolio day documents) (find (is_of portfolio day) (document ∷ []))
unfolding in_force
in_force-front portfolio day document documents =
    ap (find (is_of portfolio day)) (reverse-append (document ∷ []) documents) ∙ find-append (is_of portfolio day) (reverse documents) (document ∷ [])

-- behind the first there is none
pub in_force-first : (portfolio : List ℕ) (day : Date) (document : Nomint) (documents : List Nomint) → in_force portfolio day documents ≡ None → is_of portfolio day document ≡ true
    → in_force portfolio day (document ∷ documents) ≡ Some document
in_force-first portfolio day document documents none of =
    in_force-front portfolio day document documents ∙ rw (none, of) refl

or_nothing : {X : Type 0} (o : Option X) → option_or o None ≡ o
or_nothing None = refl
or_nothing (Some x) = refl

-- the first is of another portfolio or gas day
pub in_force-passed : (portfolio : List ℕ) (day : Date) (document : Nomint) (documents : List Nomint) → is_of portfolio day document ≡ false
    → in_force portfolio day (document ∷ documents) ≡ in_force portfolio day documents
in_force-passed portfolio day document documents other =
    in_force-front portfolio day document documents ∙ rw other (or_nothing (in_force portfolio day documents))

-- ---- a document that stands

pub stands-held : (old new : List Nomint) (document : Nomint) → DocumentStands old new document → in_force document.portfolio document.day new ≡ Some document
stands-held old new document stands =
    stands document.portfolio document.day
    ∙ ap (λ b. cond b (Some document) (in_force document.portfolio document.day old)) (is_of-again document.portfolio document.day document refl refl)

pub stands-others : (old new : List Nomint) (document : Nomint) → DocumentStands old new document → (portfolio : List ℕ) (day : Date) → is_of portfolio day document ≡ false
    → in_force portfolio day new ≡ in_force portfolio day old
stands-others old new document stands portfolio day other = stands portfolio day ∙ ap (λ b. cond b (Some document) (in_force portfolio day old)) other

-- ---- the same of a list with one more at its end

pub in_force-taken : (documents : List Nomint) (document : Nomint) → in_force document.portfolio document.day (documents ++ document ∷ []) ≡ Some document
in_force-taken documents document = stands-held documents (documents ++ document ∷ []) document (in_force-appended documents document)

pub in_force-others : (portfolio : List ℕ) (day : Date) (documents : List Nomint) (document : Nomint) → is_of portfolio day document ≡ false
    → in_force portfolio day (documents ++ document ∷ []) ≡ in_force portfolio day documents
in_force-others portfolio day documents document = stands-others documents (documents ++ document ∷ []) document (in_force-appended documents document) portfolio day

-- What has the same documents in force as a list has them still when both take one document more.
pub in_force-agrees : (documents old new : List Nomint) (document : Nomint) → ((portfolio : List ℕ) (day : Date) → in_force portfolio day old ≡ in_force portfolio day documents)
    → DocumentStands old new document → (portfolio : List ℕ) (day : Date) → in_force portfolio day new ≡ in_force portfolio day (documents ++ document ∷ [])
in_force-agrees documents old new document agree stands portfolio day =
    stands portfolio day
    ∙ ap (cond (is_of portfolio day document) (Some document)) (agree portfolio day)
    ∙ sym (in_force-appended documents document portfolio day)
