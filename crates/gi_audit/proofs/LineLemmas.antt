-- One more line, and one more cycle.
use Rattle.std.proofs.Common.{◌≡◌, ◌<◌, ◌+◌, ℕ, List, [], ◌∷◌, ◌++◌, length, take, find, get_or, append-nil, Bool, ◌||◌, cond, Option, Some, None, sym, ap, ◌∙◌}
use Rattle.std.specs.List.{flat_map, list_any}
use Rattle.std.specs.Option.{option_or}
use Rattle.std.proofs.lemmas.List.Concat.{flat_map-append}
use Rattle.std.proofs.lemmas.List.Folds.{find-append, list_any_more}
use Rattle.gi_pairs.specs.declared.cycle_id.CycleId.{CycleId}
use Rattle.gi_desk.specs.Machine.{DeskState}
use Rattle.gi_desk.proofs.HistoryLaws.{one_more}
use Rattle.gi_exports.specs.Json.{line_of as line_with}
use Rattle.gi_audit.specs.Audit.{cycle_line, cycle_lines, line_of}
use Rattle.gi_audit.specs.Finding.{agrees, differs, finding, is_agreed, is_difference}
use Rattle.gi_audit.specs.JsonAudit.{cycle_object, cycle_objects}
use Rattle.gi_audit.specs.JsonLines.{cycle_data}
use Rattle.gi_audit.specs.Place.{place_found}
use Rattle.gi_audit.specs.Verdict.{any_agrees, first_difference}
use Rattle.gi_audit.specs.declared.finding.Finding.{Finding}
use Rattle.gi_audit.specs.declared.place.Place.{Place}

pub lines_more : (s t : DeskState) (ids : List CycleId) (i : ℕ) (id : CycleId) (found : Finding) (place : Option Place) (text line next : List ℕ) → i < length ids → id ≡ get_or ids i id
    → text ≡ cycle_lines s t (take i ids) → found ≡ finding s t id → place ≡ place_found found s t id → line ≡ line_of id found place → next ≡ text ++ line → next ≡ cycle_lines s t (take (i + 1) ids)
lines_more s t ids i id found place text line next below is text_is found_is place_is line_is next_is =
    let of : CycleId → List ℕ = cycle_line s t in
    next_is ∙ (λ k. text_is k ++ line_is k) ∙ ap (λ (p : Option Place). flat_map of (take i ids) ++ line_of id found p) place_is
    ∙ ap (λ (f : Finding). flat_map of (take i ids) ++ line_of id f (place_found f s t id)) found_is
    ∙ ap (λ (l : List ℕ). flat_map of (take i ids) ++ l) (sym (append-nil (of id)))
    ∙ sym (flat_map-append of (take i ids) (id ∷ []))
    ∙ ap (flat_map of) (sym (one_more ids i id below is))

pub objects_more : (s t : DeskState) (ids : List CycleId) (i : ℕ) (id : CycleId) (found : Finding) (place : Option Place) (text next : List ℕ) → i < length ids → id ≡ get_or ids i id
    → text ≡ cycle_objects s t (take i ids) → found ≡ finding s t id → place ≡ place_found found s t id → next ≡ text ++ line_with (cycle_data id found place)
    → next ≡ cycle_objects s t (take (i + 1) ids)
objects_more s t ids i id found place text next below is text_is found_is place_is next_is =
    let of : CycleId → List ℕ = λ other. line_with (cycle_object s t other) in
    next_is ∙ ap (λ (l : List ℕ). l ++ line_with (cycle_data id found place)) text_is
    ∙ ap (λ (p : Option Place). flat_map of (take i ids) ++ line_with (cycle_data id found p)) place_is
    ∙ ap (λ (f : Finding). flat_map of (take i ids) ++ line_with (cycle_data id f (place_found f s t id))) found_is
    ∙ ap (λ (l : List ℕ). flat_map of (take i ids) ++ l) (sym (append-nil (of id)))
    ∙ sym (flat_map-append of (take i ids) (id ∷ []))
    ∙ ap (flat_map of) (sym (one_more ids i id below is))

pub first_more : (s t : DeskState) (ids : List CycleId) (i : ℕ) (id : CycleId) (found : Finding) (first now next : Option CycleId) → i < length ids → id ≡ get_or ids i id
    → first ≡ first_difference s t (take i ids) → found ≡ finding s t id → now ≡ cond (is_difference found) (Some id) None → next ≡ option_or first now
    → next ≡ first_difference s t (take (i + 1) ids)
unfolding differs
first_more s t ids i id found first now next below is first_is found_is now_is next_is =
    let test : CycleId → Bool = differs s t in
    next_is ∙ (λ k. option_or (first_is k) (now_is k))
    ∙ ap (λ (f : Finding). option_or (find test (take i ids)) (cond (is_difference f) (Some id) None)) found_is
    ∙ sym (find-append test (take i ids) (id ∷ []))
    ∙ ap (find test) (sym (one_more ids i id below is))

pub agreed_more : (s t : DeskState) (ids : List CycleId) (i : ℕ) (id : CycleId) (found : Finding) (agreed next : Bool) → i < length ids → id ≡ get_or ids i id
    → agreed ≡ any_agrees s t (take i ids) → found ≡ finding s t id → next ≡ (agreed || is_agreed found) → next ≡ any_agrees s t (take (i + 1) ids)
unfolding agrees
agreed_more s t ids i id found agreed next below is agreed_is found_is next_is =
    let test : CycleId → Bool = agrees s t in
    let before : Bool = list_any test (take i ids) in
    next_is ∙ (λ k. agreed_is k || is_agreed (found_is k))
    ∙ ap (λ (other : CycleId). before || test other) is
    ∙ sym (list_any_more test ids i id below)
