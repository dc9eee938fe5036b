use Rattle.std.proofs.Common.{◌≡◌, ◌++◌, ◌∷◌, [], ◌∙◌, List, Bool, false, cond, ap, sym, subst}
use Rattle.gi_parts.specs.Gathering.{CanKeep}
use Rattle.gi_parts.specs.Parts.{AreKept, is_there, parts_of, with_kept}
use Rattle.gi_parts.specs.declared.kept_parts.KeptPart.{KeptPart}
use Rattle.gi_parts.proofs.Keeping.{kept-more}
use Rattle.gi_parts.proofs.kept_parts.KeptParts.keep.Goals as goal

pub invariant_of-self-2 : goal.invariant_of-self-2
invariant_of-self-2 c =
    let items = c.self.inside.parts.items in
    let id = c.args.id in
    let part = c.args.part in
    let can : CanKeep id items part = subst (λ (kept : List KeptPart). CanKeep id kept part) (sym c.self.view_is) c.requires in
    let none : is_there part (parts_of id items) ≡ false = sym (c.if-is_there.ensures ∙ ap (λ (kept : List KeptPart). is_there part (parts_of id kept)) c.deref.ensures.value) in
    let added : c.push_reserved.new.self.items ≡ items ++ record { id = id; part = part } ∷ [] =
    c.push_reserved.ensures.items ∙ ap (λ (kept : List KeptPart). kept ++ record { id = id; part = part } ∷ []) c.in-Ok.ensures.items in
    subst AreKept (sym added) (kept-more id part items c.self.invariant can none)

pub returns-clause-next : goal.returns-clause-next
returns-clause-next c =
    let items = c.self.inside.parts.items in
    let id = c.args.id in
    let part = c.args.part in
    let none : is_there part (parts_of id items) ≡ false = sym (c.if-is_there.ensures ∙ ap (λ (kept : List KeptPart). is_there part (parts_of id kept)) c.deref.ensures.value) in
    let added : c.push_reserved.new.self.items ≡ with_kept id part items =
    c.push_reserved.ensures.items ∙ ap (λ (kept : List KeptPart). kept ++ record { id = id; part = part } ∷ []) c.in-Ok.ensures.items
    ∙ sym (ap (λ (b : Bool). cond b items (items ++ record { id = id; part = part } ∷ [])) none) in
    added ∙ ap (λ (kept : List KeptPart). with_kept id part kept) c.self.view_is
