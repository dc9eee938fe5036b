-- Reading the elements of an array in a loop.
use Rattle.std.proofs.Common.{◌≡◌, ℕ, List, [], ◌∷◌, ◌++◌, Ok, Err, refl, sym, ap, ◌∙◌, append_assoc, append-nil}
use Rattle.serde_json.specs.Data.{Data, Items, no_items, item}
use Rattle.gi_messages.specs.declared.fault.FieldFault.{FieldFault}
use Rattle.gi_messages.specs.declared.fault.FieldFault.TheVariants as fault
use Rattle.std.specs.Result.{result_ok}
use Rattle.gi_pairs.specs.Table.{covered, built}
use Rattle.gi_messages.specs.declared.key.Key.{Key}
use Rattle.gi_messages.specs.Reading.{Read, ◌>>=◌, Fails, wanted, each, items, rows_of, rows_at, table}

-- what was read before, and what is still read
abbrev pub with_front : {X : Type 0} → List X → Read (List X) → Read (List X)
with_front front read = read >>= λ rest. Ok (front ++ rest)

regroup : {X : Type 0} (front : List X) (x : X) (read : Read (List X)) → with_front front (read >>= λ rest. Ok (x ∷ rest)) ≡ with_front (front ++ x ∷ []) read
regroup front x (Ok rest) = ap (λ xs. Ok xs) (simp append_assoc)
regroup front x (Err key) = refl

module _ {X : Type 0} (f : Data → Read X) (front : List X) (ds : Items) (total : Read (List X)) (so_far : with_front front (each f ds) ≡ total) where
  pub goes_on : (d : Data) (rest : Items) (x : X) → ds ≡ item d rest → f d ≡ Ok x → with_front (front ++ x ∷ []) (each f rest) ≡ total
  unfolding each
  goes_on d rest x is read =
      let here = ap (λ es. with_front front (each f es)) is in
      let next = ap (λ (r : Read X). with_front front (r >>= λ y. each f rest >>= λ ys. Ok (y ∷ ys))) read in
      sym (regroup front x (each f rest)) ∙ sym next ∙ sym here ∙ so_far

  pub ends : (d : Data) (rest : Items) (e : FieldFault) → ds ≡ item d rest → Fails e (f d) → Fails e total
  unfolding each
  ends d rest fault.OutOfMemory is fails = tt
  ends d rest (fault.Wrong key) is fails =
      let here = ap (λ es. with_front front (each f es)) is in
      let next = ap (λ (r : Read X). with_front front (r >>= λ y. each f rest >>= λ ys. Ok (y ∷ ys))) fails in
      sym so_far ∙ here ∙ next

  pub is_done : ds ≡ no_items → total ≡ Ok front
  unfolding each
  is_done none = sym so_far ∙ ap (λ es. with_front front (each f es)) none ∙ ap (λ xs. Ok xs) (append-nil front)

-- ---- a table of rows

bind_again : {X Y Z : Type 0} (r : Read X) (f : X → Read Y) (g : Y → Read Z) → ((r >>= f) >>= g) ≡ (r >>= λ x. f x >>= g)
bind_again (Ok x) f g = refl
bind_again (Err key) f g = refl

pub table_from_rows : (key : Key) (limit first last : ℕ) (d : Data) → table key limit first last d ≡ (rows_at key limit (covered first last) d >>= λ rows. wanted key (result_ok (built first last rows)))
unfolding table
table_from_rows key limit first last d = sym (bind_again (items key d) (rows_of key limit (covered first last)) (λ rows. wanted key (result_ok (built first last rows))))
