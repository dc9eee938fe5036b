-- The tables of an input as a function of its lines, for the laws.
use Rattle.std.proofs.Common.{◌≡◌, ◌≢◌, ◌==◌, ℕ, List, [], ◌∷◌, ◌++◌, ◌⊎◌, inl, inr, cond, Result, Ok, Err, refl, sym, ap, ap₂, ◌∙◌}
use Rattle.std.proofs.lemmas.Bool.Decides.{eqb_tells}
use Rattle.gi_pairs.specs.Table.{TableContents}
use Rattle.gi_lesser.specs.Lesser.{lesser_of}
use Rattle.gi_messages.specs.Decoding.{decoded}
use Rattle.gi_messages.specs.Laws.{ReadsSpelling}
use Rattle.gi_messages.specs.Writing.{text_of}
use Rattle.gi_messages.specs.declared.message.Delord.{Delord}
use Rattle.gi_messages.specs.declared.message.Message.{Message}
use Rattle.gi_messages.specs.declared.message.Message.TheVariants as message
use Rattle.gi_messages.specs.declared.message_fault.MessageFault.{MessageFault}
use Rattle.gi_table_commands.specs.Laws.{HasNoAnswer, HasOneAnswer, HasOneFault}
use Rattle.gi_text.specs.Lines.{lines, line_feed}
use Rattle.gi_table_commands.specs.Match.{IsRefused, HasTwoShapes, SpellsPart, SpellsTables, SpellsWhole, response}
use Rattle.gi_table_commands.specs.declared.fault.Fault.{Fault}
use Rattle.gi_table_commands.specs.declared.fault.Fault.TheVariants as fault
use Rattle.gi_table_commands.specs.declared.fault.Line.{Line}
use Rattle.gi_table_commands.specs.declared.fault.Line.TheVariants.{Order, Own}

-- the table of a line
abbrev table_of : Line → Result Message MessageFault → Result Delord Fault
table_of line (Ok (message.Delord table)) = cond (table.parts == 1) (Ok table) (Err (fault.Parts line))
table_of line (Ok (message.Nomint other)) = Err (fault.WrongKind line)
table_of line (Ok (message.Acknow other)) = Err (fault.WrongKind line)
table_of line (Ok (message.Nomres other)) = Err (fault.WrongKind line)
table_of line (Ok (message.Delres other)) = Err (fault.WrongKind line)
table_of line (Err why) = Err (fault.Message line why)

abbrev with_own : Delord → Result Delord Fault → Result (Delord × Delord) Fault
with_own order (Ok own) = Ok (order, own)
with_own order (Err why) = Err why

abbrev with_order : Result Delord Fault → Result Delord Fault → Result (Delord × Delord) Fault
with_order (Ok order) own = with_own order own
with_order (Err why) own = Err why

abbrev tables_of : List (List ℕ) → Result (Delord × Delord) Fault
tables_of (first ∷ second ∷ []) = with_order (table_of Order (decoded first)) (table_of Own (decoded second))
tables_of _ = Err fault.Lines

not_two : (all : List (List ℕ)) → ((first second : List ℕ) → all ≡ first ∷ second ∷ [] → ⊥) → tables_of all ≡ Err fault.Lines
not_two [] none = refl
not_two (a ∷ []) none = refl
not_two (a ∷ b ∷ []) none = absurd (none a b refl)
not_two (a ∷ b ∷ c ∷ more) none = refl

other_kind : (line : Line) (m : Message) → ((table : Delord) → m ≡ message.Delord table → ⊥)
    → table_of line (Ok m) ≡ Err (fault.WrongKind line)
other_kind line (message.Delord table) other = absurd (other table refl)
other_kind line (message.Nomint found) other = refl
other_kind line (message.Acknow found) other = refl
other_kind line (message.Nomres found) other = refl
other_kind line (message.Delres found) other = refl

-- a table that is whole, and one part of several
taken : (line : Line) (table : Delord) → table.parts ≡ 1 → table_of line (Ok (message.Delord table)) ≡ Ok table
taken line table whole = rw whole refl

one_part : (line : Line) (table : Delord) → table.parts ≢ 1 → table_of line (Ok (message.Delord table)) ≡ Err (fault.Parts line)
one_part line table several =
    elim (eqb_tells table.parts 1) [
      | inl one ↦ absurd (several one.1)
      | inr other ↦ rw other.0 refl
    ]

same_pair : (order own order' own' : Delord) → ◌≡◌ {A = Result (Delord × Delord) Fault} (Ok (order, own)) (Ok (order', own')) → (order ≡ order') × (own ≡ own')
same_pair order own order' own' e =
    let pair : ◌≡◌ {A = Delord × Delord} (order, own) (order', own') = cc in
    (ap (λ (p : Delord × Delord). p.0) pair, ap (λ (p : Delord × Delord). p.1) pair)

module _ (reads : ReadsSpelling) where
  table_is : (line : Line) (bytes : List ℕ) (table : Delord) → SpellsWhole bytes table → table_of line (decoded bytes) ≡ Ok table
  table_is line bytes table is = ap (table_of line) ((reads bytes (message.Delord table)).1 is.spelled) ∙ taken line table is.whole

  tables_are : (input : List ℕ) (order own : Delord) → SpellsTables input order own → tables_of (lines input) ≡ Ok (order, own)
  tables_are input order own is = rw (is.lines, table_is Order is.first order is.is_order, table_is Own is.second own is.is_own) refl

  -- what one part of several comes to
  part_is : (line : Line) (bytes : List ℕ) → SpellsPart bytes → table_of line (decoded bytes) ≡ Err (fault.Parts line)
  part_is line bytes is = ap (table_of line) ((reads bytes (message.Delord is.found)).1 is.spelled) ∙ one_part line is.found is.several

  -- a fault is what the lines say first, but for the shapes, of which the tables say it
  fault_is : (input : List ℕ) (why : Fault) → why ≢ fault.OutOfMemory → IsRefused input why
      → (tables_of (lines input) ≡ Err why) ⊎ (HasTwoShapes input × (why ≡ fault.ShapeDiffers))
  fault_is input fault.Lines memory none = inl (not_two (lines input) none)
  fault_is input (fault.Message Order why) memory (first, second, is, (same, told)) = inl (rw (is, told) refl)
  fault_is input (fault.Message Own why) memory (first, second, is, (order, spelled), (same, told)) =
      inl (rw (is, table_is Order first order spelled, told) refl)
  fault_is input (fault.WrongKind Order) memory (first, second, is, (same, other)) =
      inl (rw (is, (reads first other.found).1 other.spelled, other_kind Order other.found other.other) refl)
  fault_is input (fault.WrongKind Own) memory (first, second, is, (order, spelled), (same, other)) =
      inl (rw (is, table_is Order first order spelled, (reads second other.found).1 other.spelled, other_kind Own other.found other.other) refl)
  fault_is input (fault.Parts Order) memory (first, second, is, (same, part)) = inl (rw (is, part_is Order first part) refl)
  fault_is input (fault.Parts Own) memory (first, second, is, (order, spelled), (same, part)) =
      inl (rw (is, table_is Order first order spelled, part_is Own second part) refl)
  fault_is input fault.ShapeDiffers memory two = inr (two, refl)
  fault_is input fault.OutOfMemory memory refused = absurd (memory refl)
  fault_is input fault.CommandLine memory refused = absurd refused
  fault_is input fault.Read memory refused = absurd refused
  fault_is input fault.TooLarge memory refused = absurd refused
  fault_is input fault.Write memory refused = absurd refused
  fault_is input (fault.Day why) memory refused = absurd refused
  fault_is input (fault.Calendar why) memory refused = absurd refused

  -- two readings of one input are one
  same_tables : (input : List ℕ) (order own order' own' : Delord) → SpellsTables input order own
      → SpellsTables input order' own' → (order ≡ order') × (own ≡ own')
  same_tables input order own order' own' here there =
      same_pair order own order' own' (sym (tables_are input order own here) ∙ tables_are input order' own' there)

  pub one_answer : HasOneAnswer
  one_answer input text other a b =
      let same = same_tables input a.order a.own b.order b.own a.tables b.tables in
      let confirmed : a.confirmed ≡ b.confirmed = a.only ∙ ap₂ lesser_of (ap (λ (d : Delord). d.processed) same.1) (ap (λ (d : Delord). d.processed) same.0) ∙ sym b.only in
      a.written
      ∙ ap₂ (λ (own : Delord) (t : TableContents). text_of (message.Delres (response own t)) ++ line_feed ∷ []) same.1 confirmed
      ∙ sym b.written

  pub no_answer : HasNoAnswer
  no_answer input text why memory refused a =
      elim (fault_is input why memory refused) [
        | inl e ↦ let is = tables_are input a.order a.own a.tables in cc
        | inr (two, same) ↦ let tables = same_tables input a.order a.own two.order two.own a.tables two.tables in
            two.different (rw (← tables.0, ← tables.1) a.shape)
      ]

  pub one_fault : HasOneFault
  one_fault input why other memory memory' refused refused' =
      elim (fault_is input why memory refused) [
        | inl e ↦ elim (fault_is input other memory' refused') [
          | inl e' ↦ let same = sym e ∙ e' in cc
          | inr (two, is) ↦ let found = tables_are input two.order two.own two.tables in cc
        ]
        | inr (two, is) ↦ elim (fault_is input other memory' refused') [
          | inl e' ↦ let found = tables_are input two.order two.own two.tables in cc
          | inr (two', is') ↦ is ∙ sym is'
        ]
      ]
