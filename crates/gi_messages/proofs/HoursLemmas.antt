-- The quantities of a row or a line are read exactly where they stand in the relation.
use Rattle.std.proofs.Common.{◌≡◌, ℕ, Bool, true, false, cond, List, length, Option, Some, None, Ok, Err, refl, sym, ap, ◌∙◌, eqb, eqb-true, eq-eqb}
use Rattle.std.specs.Prelude.{⊤, is_some}
use Rattle.serde_json.specs.Data.{Data, null, boolean, number, string, array, object, Items}
use Rattle.serde_json.specs.Events.{items_len}
use Rattle.serde_json.specs.Find.{get, as_object}
use Rattle.gi_pairs.specs.Quantity.{most_quantity}
use Rattle.gi_messages.specs.declared.key.Key.{Key}
use Rattle.gi_messages.specs.declared.key.Key.TheVariants as keys
use Rattle.gi_messages.specs.Grammar.{Has, IsWhole, Each, AreElements}
use Rattle.gi_messages.specs.Reading.{Read, ◌>>=◌, whole, each, items, quantities, hours}
use Rattle.gi_messages.proofs.FieldLemmas.{bind_ok, Reads-whole, each_takes, each_again, items_len-Each, items_takes, items_again}

-- a test that did not fail
pub guard_ok : {X : Type 0} (b : Bool) (r : Read X) (key : Key) (x : X) → cond b r (Err key) ≡ Ok x → (b ≡ true) × (r ≡ Ok x)
guard_ok true r key x e = (refl, e)
guard_ok false r key x e = absurd cc

abbrev done : {X : Type 0} → X → Read X
done x = Ok x

pub ok_is : {X : Type 0} (x y : X) → done x ≡ done y → x ≡ y
ok_is x y e = cc

-- a value with a member is an object
pub has_members : (k : List ℕ) (d v : Data) → get k d ≡ Some v → is_some (as_object d) ≡ true
has_members k null v e = absurd cc
has_members k (boolean b) v e = absurd cc
has_members k (number n) v e = absurd cc
has_members k (string s) v e = absurd cc
has_members k (array ds) v e = absurd cc
has_members k (object ms) v e = refl

-- there are as many as are asked for
abbrev pub AsMany : Option ℕ → List ℕ → Type 0
AsMany None hs = ⊤
AsMany (Some count) hs = length hs ≡ count

abbrev whole_quantity : Data → Read ℕ
whole_quantity = whole 0 most_quantity keys.Hours

abbrev IsQuantityIn : Data → ℕ → Type 0
IsQuantityIn = IsWhole 0 most_quantity

quantities_take : (count : Option ℕ) (ds : Items) (hs : List ℕ) → quantities count ds ≡ Ok hs → Each IsQuantityIn ds hs × AsMany count hs
quantities_take None ds hs e = (each_takes whole_quantity IsQuantityIn (Reads-whole 0 most_quantity keys.Hours) ds hs e, tt)
quantities_take (Some count) ds hs e =
    let g = guard_ok (eqb (items_len ds) count) (each whole_quantity ds) keys.Hours hs e in
    let all = each_takes whole_quantity IsQuantityIn (Reads-whole 0 most_quantity keys.Hours) ds hs g.1 in
    (all, sym (items_len-Each IsQuantityIn ds hs all) ∙ eqb-true (items_len ds) count g.0)

quantities_again : (count : Option ℕ) (ds : Items) (hs : List ℕ) → Each IsQuantityIn ds hs → AsMany count hs → quantities count ds ≡ Ok hs
quantities_again None ds hs h many = each_again whole_quantity IsQuantityIn (Reads-whole 0 most_quantity keys.Hours) ds hs h
quantities_again (Some count) ds hs h many =
    ap (λ b. cond b (each whole_quantity ds) (Err keys.Hours)) (eq-eqb (items_len ds) count (items_len-Each IsQuantityIn ds hs h ∙ many)) ∙ each_again whole_quantity IsQuantityIn (Reads-whole 0 most_quantity keys.Hours) ds hs h

pub hours_take : (count : Option ℕ) (d : Data) (hs : List ℕ) → hours count d ≡ Ok hs → Has (AreElements (IsWhole 0 most_quantity)) keys.Hours d hs × AsMany count hs
unfolding hours
hours_take count d hs e =
    let a = bind_ok (items keys.Hours d) (quantities count) hs e in
    let q = quantities_take count a.0 hs a.2 in
    (record { value = array a.0; found = items_takes keys.Hours d a.0 a.1; stands = record { elements = a.0; written = refl; each = q.0 } }, q.1)

pub hours_again : (count : Option ℕ) (d : Data) (hs : List ℕ) → Has (AreElements (IsWhole 0 most_quantity)) keys.Hours d hs → AsMany count hs → hours count d ≡ Ok hs
unfolding hours
hours_again count d hs h many = ap (λ (s : Read Items). s >>= quantities count) (items_again IsQuantityIn keys.Hours d hs h) ∙ quantities_again count h.stands.elements hs h.stands.each many
