-- The parts of what is written for a message: its rows, lines and fields.
use Rattle.std.proofs.Common.{◌≡◌, ℕ, ◌≤◌, inl, inr, Bool, true, false, cond, ◌==◌, eqb-true, List, [], ◌∷◌, length, map, All, Some, None, IsUtf8, refl, sym, ap, ◌∙◌, subst, arith}
use Rattle.std.specs.List.{AllByRecursion}
use Rattle.std.proofs.lemmas.List.Elements.{All-from_recursion, recursion_from_All}
use Rattle.std.proofs.lemmas.List.Sorted.{IsPermutation-refl, length_permutation}
use Rattle.std.proofs.lemmas.Str.{IsUtf8-from_ascii}
use Rattle.json.proofs.Printed.Utf8.{IsUtf8-are_ascii}
use Rattle.jiff_core.specs.declared.civil.date.Date.{Date}
use Rattle.serde_json.specs.Find.{get, get_member}
use Rattle.serde_json.specs.Data.{Data, string, object, Members, no_members, member, depth, items_depth, members_depth}
use Rattle.serde_json.specs.View.{items_of}
use Rattle.gi_day.specs.Day.{IsGasYear, day_text}
use Rattle.gi_day.proofs.DayLaws.{is_text, day_text-ascii}
use Rattle.gi_pairs.specs.Code.{IsCode}
use Rattle.gi_pairs.specs.Direction.{direction_text}
use Rattle.gi_pairs.specs.Quantity.{IsQuantity, most_quantity}
use Rattle.gi_pairs.specs.Row.{IsRow}
use Rattle.gi_pairs.specs.Table.{TableContents, IsTable, covered}
use Rattle.gi_pairs.specs.declared.direction.Direction.{Direction}
use Rattle.gi_pairs.specs.declared.direction.Direction.TheVariants.{IM, MI}
use Rattle.gi_pairs.specs.declared.row.Row.{Row}
use Rattle.gi_pairs.proofs.CodeLaws.{code-ascii}
use Rattle.gi_messages.specs.declared.key.Key.{Key}
use Rattle.gi_messages.specs.declared.key.Key.TheVariants as keys
use Rattle.gi_messages.specs.declared.line.Line.{Line}
use Rattle.gi_messages.specs.declared.nomination_line.NominationLine.{NominationLine}
use Rattle.gi_messages.specs.Grammar.{Has, HasOr, IsText, NamesCode, NamesDay, NamesDirection, IsWhole, Each, AreElements, IsRowFor, HasTable, IsLine, IsLineFor, IsNominationLine, FitsLine, FitsNominationLine}
use Rattle.gi_messages.specs.Key.{key_text}
use Rattle.gi_messages.specs.Limits.{last_priority, most_parts, usual_priority}
use Rattle.gi_messages.specs.Writing.{whole, whole_numbers, row_data, rows_data, line_data, nomination_line_data, lines_data, part_members}
use Rattle.gi_messages.proofs.FieldLemmas.{all_of_each}
use Rattle.gi_messages.proofs.Plain.{IsPlain, ArePlainItems, ArePlainMembers}
use Rattle.gi_messages.proofs.TableLemmas.{is_code, are_quantities}

-- ---- rows and lines nest two deep

items_depth-whole : (ns : List ℕ) → items_depth (items_of (map whole ns)) ≡ 0
items_depth-whole [] = refl
items_depth-whole (n ∷ ns) = rw (items_depth-whole ns) refl

depth-row : (r : Row) → depth (row_data r) ≡ 2
unfolding row_data
depth-row r = rw (items_depth-whole r.hours) refl

depth-line : (l : Line) → depth (line_data l) ≡ 2
unfolding line_data
depth-line l = rw (items_depth-whole l.hours) refl

priority_depth : (priority : ℕ) (b : Bool) → members_depth (cond b no_members (member (key_text keys.Priority) (whole priority) no_members)) ≡ 0
priority_depth priority true = refl
priority_depth priority false = refl

depth-nomination_line : (l : NominationLine) → depth (nomination_line_data l) ≡ 2
unfolding nomination_line_data
depth-nomination_line l = rw (items_depth-whole l.hours, priority_depth l.priority (l.priority == usual_priority)) refl

each_two_deep : {X : Type 0} (f : X → Data) → ((x : X) → depth (f x) ≡ 2) → (xs : List X) → items_depth (items_of (map f xs)) ≤ 2
each_two_deep f h [] = omega arith
each_two_deep f h (x ∷ xs) = omega (arith, h x, each_two_deep f h xs)

pub depth-rows : (rs : List Row) → items_depth (items_of (map row_data rs)) ≤ 2
depth-rows rs = each_two_deep row_data depth-row rs

pub depth-lines : (ls : List Line) → items_depth (items_of (map line_data ls)) ≤ 2
depth-lines ls = each_two_deep line_data depth-line ls

pub depth-nomination_lines : (ls : List NominationLine) → items_depth (items_of (map nomination_line_data ls)) ≤ 2
depth-nomination_lines ls = each_two_deep nomination_line_data depth-nomination_line ls

-- ---- rows

pub direction_utf8 : (d : Direction) → IsUtf8 (direction_text d)
direction_utf8 IM = IsUtf8-are_ascii (direction_text IM) refl
direction_utf8 MI = IsUtf8-are_ascii (direction_text MI) refl

pub code_utf8 : (code : List ℕ) → IsCode code → IsUtf8 code
code_utf8 code is = IsUtf8-from_ascii code (code-ascii code is)

plain_wholes : (ns : List ℕ) → AllByRecursion IsQuantity ns → ArePlainItems (items_of (map whole ns))
plain_wholes [] h = tt
plain_wholes (n ∷ ns) h = (omega (arith, h.0), plain_wholes ns h.1)

whole_elements : (ns : List ℕ) → AllByRecursion IsQuantity ns → Each (IsWhole 0 most_quantity) (items_of (map whole ns)) ns
whole_elements [] h = tt
whole_elements (n ∷ ns) h = (record { written = refl; from = omega arith; to = h.0 }, whole_elements ns h.1)

plain_row : (r : Row) → IsRow r → IsPlain (row_data r)
unfolding row_data
plain_row r h = (
  (
    IsUtf8-are_ascii _ refl,
    direction_utf8 r.direction,
    (
      IsUtf8-are_ascii _ refl,
      plain_wholes r.hours (recursion_from_All IsQuantity r.hours h.quantities),
      (IsUtf8-are_ascii _ refl, code_utf8 r.pair.initiating h.key.initiating, (IsUtf8-are_ascii _ refl, code_utf8 r.pair.matching h.key.matching, tt)),
    ),
  ),
  refl,
)

row_stands : (n : ℕ) (r : Row) → IsRow r → length r.hours ≡ n → IsRowFor n (row_data r) r
unfolding row_data
row_stands n r h as_many = record {
  initiating = record { value = _; found = refl; stands = record { text = r.pair.initiating; written = refl; names = (h.key.initiating, refl) } };
  matching = record { value = _; found = refl; stands = record { text = r.pair.matching; written = refl; names = (h.key.matching, refl) } };
  direction = record { value = _; found = refl; stands = record { text = direction_text r.direction; written = refl; names = refl } };
  quantities = record { value = _; found = refl; stands = record { elements = items_of (map whole r.hours); written = refl; each = whole_elements r.hours (recursion_from_All IsQuantity r.hours h.quantities) } };
  whole = as_many;
}

plain_rows : (rs : List Row) → AllByRecursion IsRow rs → ArePlainItems (items_of (map row_data rs))
plain_rows [] h = tt
plain_rows (r ∷ rs) h = (plain_row r h.0, plain_rows rs h.1)

rows_stand : (n : ℕ) (rs : List Row) → AllByRecursion IsRow rs → AllByRecursion (λ r. length r.hours ≡ n) rs → Each (IsRowFor n) (items_of (map row_data rs)) rs
rows_stand n [] rows whole = tt
rows_stand n (r ∷ rs) rows whole = (row_stands n r rows.0 whole.0, rows_stand n rs rows.1 whole.1)

-- ---- lines

line_plain : (l : Line) → FitsLine l → IsPlain (line_data l)
unfolding line_data
line_plain l h = (
  (
    IsUtf8-are_ascii _ refl,
    code_utf8 l.counterparty h.counterparty,
    (
      IsUtf8-are_ascii _ refl,
      direction_utf8 l.direction,
      (IsUtf8-are_ascii _ refl, plain_wholes l.hours (recursion_from_All IsQuantity l.hours h.quantities), tt),
    ),
  ),
  refl,
)

line_stands : (l : Line) → FitsLine l → IsLine (line_data l) l
unfolding line_data
line_stands l h = record {
  counterparty = record { value = _; found = refl; stands = record { text = l.counterparty; written = refl; names = (h.counterparty, refl) } };
  direction = record { value = _; found = refl; stands = record { text = direction_text l.direction; written = refl; names = refl } };
  quantities = record { value = _; found = refl; stands = record { elements = items_of (map whole l.hours); written = refl; each = whole_elements l.hours (recursion_from_All IsQuantity l.hours h.quantities) } };
}

plain_lines_by : (ls : List Line) → AllByRecursion FitsLine ls → ArePlainItems (items_of (map line_data ls))
plain_lines_by [] h = tt
plain_lines_by (l ∷ ls) h = (line_plain l h.0, plain_lines_by ls h.1)

each_line_for : (n : ℕ) (ls : List Line) → AllByRecursion FitsLine ls → AllByRecursion (λ l. length l.hours ≡ n) ls → Each (IsLineFor n) (items_of (map line_data ls)) ls
each_line_for n [] fits whole = tt
each_line_for n (l ∷ ls) fits whole = (record { stands = line_stands l fits.0; whole = whole.0 }, each_line_for n ls fits.1 whole.1)

-- ---- lines of nominations, whose last member may be missing

abbrev line_with : NominationLine → Members → Data
line_with l last =
    object (member (key_text keys.Counterparty) (string l.counterparty) (member (key_text keys.Direction) (string (direction_text l.direction)) (member (key_text keys.Hours) (whole_numbers l.hours) last)))

abbrev last_member : ℕ → Bool → Members
last_member priority b = cond b no_members (member (key_text keys.Priority) (whole priority) no_members)

nomination_plain_by : (l : NominationLine) → FitsNominationLine l → (b : Bool) → IsPlain (line_with l (last_member l.priority b))
nomination_plain_by l h true = (
  (
    IsUtf8-are_ascii _ refl,
    code_utf8 l.counterparty h.counterparty,
    (
      IsUtf8-are_ascii _ refl,
      direction_utf8 l.direction,
      (IsUtf8-are_ascii _ refl, plain_wholes l.hours (recursion_from_All IsQuantity l.hours h.quantities), tt),
    ),
  ),
  refl,
)
nomination_plain_by l h false = (
  (
    IsUtf8-are_ascii _ refl,
    code_utf8 l.counterparty h.counterparty,
    (
      IsUtf8-are_ascii _ refl,
      direction_utf8 l.direction,
      (
        IsUtf8-are_ascii _ refl,
        plain_wholes l.hours (recursion_from_All IsQuantity l.hours h.quantities),
        (IsUtf8-are_ascii _ refl, omega (arith, h.to), tt),
      ),
    ),
  ),
  refl,
)

nomination_line_plain : (l : NominationLine) → FitsNominationLine l → IsPlain (nomination_line_data l)
unfolding nomination_line_data
nomination_line_plain l h = nomination_plain_by l h (l.priority == usual_priority)

nomination_stands_by : (l : NominationLine) → FitsNominationLine l → (b : Bool) → (l.priority == usual_priority) ≡ b → IsNominationLine (line_with l (last_member l.priority b)) l
nomination_stands_by l h true usual = record {
  counterparty = record { value = _; found = refl; stands = record { text = l.counterparty; written = refl; names = (h.counterparty, refl) } };
  direction = record { value = _; found = refl; stands = record { text = direction_text l.direction; written = refl; names = refl } };
  quantities = record { value = _; found = refl; stands = record { elements = items_of (map whole l.hours); written = refl; each = whole_elements l.hours (recursion_from_All IsQuantity l.hours h.quantities) } };
  priority = inl (refl, eqb-true l.priority usual_priority usual);
}
nomination_stands_by l h false other = record {
  counterparty = record { value = _; found = refl; stands = record { text = l.counterparty; written = refl; names = (h.counterparty, refl) } };
  direction = record { value = _; found = refl; stands = record { text = direction_text l.direction; written = refl; names = refl } };
  quantities = record { value = _; found = refl; stands = record { elements = items_of (map whole l.hours); written = refl; each = whole_elements l.hours (recursion_from_All IsQuantity l.hours h.quantities) } };
  priority = inr (record { value = _; found = refl; stands = record { written = refl; from = h.from; to = h.to } });
}

nomination_line_stands : (l : NominationLine) → FitsNominationLine l → IsNominationLine (nomination_line_data l) l
unfolding nomination_line_data
nomination_line_stands l h = nomination_stands_by l h (l.priority == usual_priority) refl

plain_nominations_by : (ls : List NominationLine) → AllByRecursion FitsNominationLine ls → ArePlainItems (items_of (map nomination_line_data ls))
plain_nominations_by [] h = tt
plain_nominations_by (l ∷ ls) h = (nomination_line_plain l h.0, plain_nominations_by ls h.1)

each_nomination_line : (ls : List NominationLine) → AllByRecursion FitsNominationLine ls → Each IsNominationLine (items_of (map nomination_line_data ls)) ls
each_nomination_line [] h = tt
each_nomination_line (l ∷ ls) h = (nomination_line_stands l h.0, each_nomination_line ls h.1)

-- ---- fields

pub stands_code : (key : Key) (d : Data) (c : List ℕ) → IsCode c → get (key_text key) d ≡ Some (string c) → Has (IsText NamesCode) key d c
stands_code key d c code found = record { value = string c; found = found; stands = record { text = c; written = refl; names = (code, refl) } }

pub stands_day : (key : Key) (d : Data) (day : Date) → IsGasYear day.year → get (key_text key) d ≡ Some (string (day_text day)) → Has (IsText NamesDay) key d day
stands_day key d day range found = record { value = string (day_text day); found = found; stands = record { text = day_text day; written = refl; names = (range, is_text day range) } }

pub stands_direction : (key : Key) (d : Data) (direction : Direction) → get (key_text key) d ≡ Some (string (direction_text direction)) → Has (IsText NamesDirection) key d direction
stands_direction key d direction found = record { value = string (direction_text direction); found = found; stands = record { text = direction_text direction; written = refl; names = refl } }

pub stands_number : (key : Key) (d : Data) (low high n : ℕ) → low ≤ n → n ≤ high → get (key_text key) d ≡ Some (whole n) → Has (IsWhole low high) key d n
stands_number key d low high n from to found = record { value = whole n; found = found; stands = record { written = refl; from = from; to = to } }

pub stands_table : (key : Key) (d : Data) (most first last : ℕ) (t : TableContents) → IsTable t → t.first ≡ first → t.last ≡ last → length t.rows ≤ most → get (key_text key) d ≡ Some (rows_data t.rows) → HasTable most first last key d t
stands_table key d most first last t table begins ends few found =
    let hours : covered t.first t.last ≡ covered first last = ap (λ n. covered n t.last) begins ∙ ap (λ n. covered first n) ends in
    let long = subst (λ n. All (λ (r : Row). length r.hours ≡ n) t.rows) hours table.whole in
    record {
      rows = t.rows;
      array = record {
        value = rows_data t.rows;
        found = found;
        stands = record {
          elements = items_of (map row_data t.rows);
          written = refl;
          each = rows_stand (covered first last) t.rows (recursion_from_All IsRow t.rows table.all) (recursion_from_All (λ r. length r.hours ≡ covered first last) t.rows long);
        };
      };
      few = few;
      makes = record { begins = begins; ends = ends; same = IsPermutation-refl t.rows; table = table };
    }

pub stands_nomination_lines : (d : Data) (ls : List NominationLine) → All FitsNominationLine ls → get (key_text keys.Lines) d ≡ Some (lines_data nomination_line_data ls)
    → Has (AreElements IsNominationLine) keys.Lines d ls
stands_nomination_lines d ls fits found = record {
  value = lines_data nomination_line_data ls;
  found = found;
  stands = record { elements = items_of (map nomination_line_data ls); written = refl; each = each_nomination_line ls (recursion_from_All FitsNominationLine ls fits) };
}

pub stands_lines_for : (d : Data) (n : ℕ) (ls : List Line) → All FitsLine ls → All (λ (l : Line). length l.hours ≡ n) ls → get (key_text keys.Lines) d ≡ Some (lines_data line_data ls)
    → Has (AreElements (IsLineFor n)) keys.Lines d ls
stands_lines_for d n ls fits whole found = record {
  value = lines_data line_data ls;
  found = found;
  stands = record { elements = items_of (map line_data ls); written = refl; each = each_line_for n ls (recursion_from_All FitsLine ls fits) (recursion_from_All (λ l. length l.hours ≡ n) ls whole) };
}

-- ---- which part it is and of how many, which may be missing

abbrev written_part : Bool → ℕ → ℕ → Members → Members
written_part b parts part rest = cond b rest (member (key_text keys.Part) (whole part) (member (key_text keys.Parts) (whole parts) rest))

-- other members are found past them
point_by : (b : Bool) (parts part : ℕ) (rest : Members) → get_member (key_text keys.Point) (written_part b parts part rest) ≡ get_member (key_text keys.Point) rest
point_by true parts part rest = refl
point_by false parts part rest = refl

pub point_past : (parts part : ℕ) (rest : Members) → get_member (key_text keys.Point) (part_members parts part rest) ≡ get_member (key_text keys.Point) rest
point_past parts part rest = point_by (parts == 1) parts part rest

processed_by : (b : Bool) (parts part : ℕ) (rest : Members) → get_member (key_text keys.Processed) (written_part b parts part rest) ≡ get_member (key_text keys.Processed) rest
processed_by true parts part rest = refl
processed_by false parts part rest = refl

pub processed_past : (parts part : ℕ) (rest : Members) → get_member (key_text keys.Processed) (part_members parts part rest) ≡ get_member (key_text keys.Processed) rest
processed_past parts part rest = processed_by (parts == 1) parts part rest

module _ (d : Data) (parts part : ℕ) (rest : Members) (few : parts ≤ most_parts) (from : 1 ≤ part) (to : part ≤ parts) where
  parts_by : (b : Bool) → (parts == 1) ≡ b → get (key_text keys.Parts) d ≡ get_member (key_text keys.Parts) (written_part b parts part rest) → get_member (key_text keys.Parts) rest ≡ None
      → HasOr 1 (IsWhole 1 most_parts) keys.Parts d parts
  parts_by true one found none = inl (found ∙ none, eqb-true parts 1 one)
  parts_by false many found none = inr (stands_number keys.Parts d 1 most_parts parts (omega (arith, from, to)) few found)

  pub stands_parts : get (key_text keys.Parts) d ≡ get_member (key_text keys.Parts) (part_members parts part rest) → get_member (key_text keys.Parts) rest ≡ None → HasOr 1 (IsWhole 1 most_parts) keys.Parts d parts
  stands_parts found none = parts_by (parts == 1) refl found none

  part_by : (b : Bool) → (parts == 1) ≡ b → get (key_text keys.Part) d ≡ get_member (key_text keys.Part) (written_part b parts part rest) → get_member (key_text keys.Part) rest ≡ None
      → HasOr 1 (IsWhole 1 parts) keys.Part d part
  part_by true one found none = inl (found ∙ none, omega (arith, eqb-true parts 1 one, from, to))
  part_by false many found none = inr (stands_number keys.Part d 1 parts part from to found)

  pub stands_part : get (key_text keys.Part) d ≡ get_member (key_text keys.Part) (part_members parts part rest) → get_member (key_text keys.Part) rest ≡ None → HasOr 1 (IsWhole 1 parts) keys.Part d part
  stands_part found none = part_by (parts == 1) refl found none

-- ---- fields of which some value stands fit

pub few_rows : (most first last : ℕ) (key : Key) (d : Data) (t : TableContents) → HasTable most first last key d t → length t.rows ≤ most
few_rows most first last key d t h = subst (λ n. n ≤ most) (sym (length_permutation h.rows t.rows h.makes.same)) h.few

line_fits : (d : Data) (l : Line) → IsLine d l → FitsLine l
line_fits d l h = record { counterparty = is_code _ d l.counterparty h.counterparty; quantities = are_quantities d l.hours h.quantities }

-- a number that is missing is the usual one
pub usual_fits : (usual low high : ℕ) (key : Key) (d : Data) (n : ℕ) → low ≤ usual → usual ≤ high → HasOr usual (IsWhole low high) key d n → (low ≤ n) × (n ≤ high)
usual_fits usual low high key d n from to (inl h) = (omega (arith, h.1, from), omega (arith, h.1, to))
usual_fits usual low high key d n from to (inr h) = (h.stands.from, h.stands.to)

nomination_line_fits : (d : Data) (l : NominationLine) → IsNominationLine d l → FitsNominationLine l
nomination_line_fits d l h =
    let priority = usual_fits usual_priority 1 last_priority keys.Priority d l.priority (omega arith) (omega arith) h.priority in
    record { counterparty = is_code _ d l.counterparty h.counterparty; quantities = are_quantities d l.hours h.quantities; from = priority.0; to = priority.1 }

pub nomination_lines_fit : (d : Data) (ls : List NominationLine) → Has (AreElements IsNominationLine) keys.Lines d ls → All FitsNominationLine ls
nomination_lines_fit d ls h =
    All-from_recursion FitsNominationLine ls (all_of_each IsNominationLine FitsNominationLine nomination_line_fits h.stands.elements ls h.stands.each)

pub lines_fit_for : (d : Data) (n : ℕ) (ls : List Line) → Has (AreElements (IsLineFor n)) keys.Lines d ls → All FitsLine ls × All (λ (l : Line). length l.hours ≡ n) ls
lines_fit_for d n ls h = (
  All-from_recursion FitsLine ls (all_of_each (IsLineFor n) FitsLine (λ e l is. line_fits e l is.stands) h.stands.elements ls h.stands.each),
  All-from_recursion (λ (l : Line). length l.hours ≡ n) ls (all_of_each (IsLineFor n) (λ (l : Line). length l.hours ≡ n) (λ e l is. is.whole) h.stands.elements ls h.stands.each),
)

-- ---- parts that are written are plain

pub plain_table : (t : TableContents) → IsTable t → ArePlainItems (items_of (map row_data t.rows))
plain_table t table = plain_rows t.rows (recursion_from_All IsRow t.rows table.all)

plain_part_by : (b : Bool) (parts part : ℕ) (rest : Members) → parts ≤ most_parts → part ≤ parts → ArePlainMembers rest → ArePlainMembers (written_part b parts part rest)
plain_part_by true parts part rest few to h = h
plain_part_by false parts part rest few to h = (IsUtf8-are_ascii _ refl, omega (arith, few, to), (IsUtf8-are_ascii _ refl, omega (arith, few), h))

pub plain_part : (parts part : ℕ) (rest : Members) → parts ≤ most_parts → part ≤ parts → ArePlainMembers rest → ArePlainMembers (part_members parts part rest)
plain_part parts part rest few to h = plain_part_by (parts == 1) parts part rest few to h

pub plain_day : (day : Date) → IsGasYear day.year → IsUtf8 (day_text day)
plain_day day range = IsUtf8-from_ascii (day_text day) (day_text-ascii day range)

pub plain_lines : (ls : List Line) → All FitsLine ls → ArePlainItems (items_of (map line_data ls))
plain_lines ls fits = plain_lines_by ls (recursion_from_All FitsLine ls fits)

pub plain_nomination_lines : (ls : List NominationLine) → All FitsNominationLine ls → ArePlainItems (items_of (map nomination_line_data ls))
plain_nomination_lines ls fits = plain_nominations_by ls (recursion_from_All FitsNominationLine ls fits)
