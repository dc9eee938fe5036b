-- What a line asks for is a call that is made.
use Rattle.std.proofs.Common.{◌≡◌, ◌≤◌, ℕ, List, [], ◌∷◌, ◌++◌, length, refl, sym, ap, subst, ◌∙◌, Err}
use Rattle.gi_desk.specs.declared.call.Call.{Call}
use Rattle.gi_script.specs.Grammar.{Asks}
use Rattle.gi_script.specs.Reading.{Reads}
use Rattle.gi_script.specs.declared.fault.LineFault.{LineFault}
use Rattle.gi_script.specs.declared.fault.LineFault.TheVariants.{Unreadable}
use Rattle.gi_office.specs.Keeping.{SeatState}
use Rattle.gi_pairs.specs.declared.side.Side.{Side}
use Rattle.gi_live.specs.Coming.{IsCome, IsNoCall}
use Rattle.gi_live.specs.Lines.{IsEnded}
use Rattle.gi_live.specs.Queries.{AsksQuery}
use Rattle.gi_live.specs.declared.came.Came.TheVariants.{Unread}
use Rattle.gi_live.specs.declared.came.UnreadLine.{UnreadLine}
use Rattle.gi_live.specs.declared.came.UnreadLine.TheVariants as unread_lines

none_end : (xs : List ℕ) → [] ≡ xs ++ 10 ∷ [] → ⊥
none_end [] e = cc
none_end (x ∷ xs) e = cc

tail_is : (x y : ℕ) (xs ys : List ℕ) → x ∷ xs ≡ y ∷ ys → xs ≡ ys
tail_is x y xs ys e = cc

head_is : (x y : ℕ) (xs ys : List ℕ) → x ∷ xs ≡ y ∷ ys → x ≡ y
head_is x y xs ys e = cc

-- a line has one text
pub end_is : (xs ys : List ℕ) → xs ++ 10 ∷ [] ≡ ys ++ 10 ∷ [] → xs ≡ ys
end_is [] [] e = refl
end_is [] (y ∷ ys) e = absurd (none_end ys (tail_is 10 y [] (ys ++ 10 ∷ []) e))
end_is (x ∷ xs) [] e = absurd (none_end xs (sym (tail_is x 10 (xs ++ 10 ∷ []) [] e)))
end_is (x ∷ xs) (y ∷ ys) e =
    ap (λ l. x ∷ l) (end_is xs ys (tail_is x y (xs ++ 10 ∷ []) (ys ++ 10 ∷ []) e)) ∙ ap (λ z. z ∷ ys) (head_is x y (xs ++ 10 ∷ []) (ys ++ 10 ∷ []) e)

-- a line whose text is no request asks for none
pub unread : (given bytes text : List ℕ) (fault : LineFault) → bytes ≡ given → IsEnded bytes text → fault ≡ Unreadable → Reads (Asks text) (Err fault)
    → (line : List ℕ) (call : Call) → IsEnded given line → ¬ Asks line call
unread given bytes text fault same ended is reads line call other =
    let one : text ≡ line = end_is text line (sym ended ∙ same ∙ other) in
    subst (λ l. ¬ Asks l call) one (subst (λ why. Reads (Asks text) (Err why)) is reads call)

-- why it is not read
pub unread_is : (side : Side) (old : SeatState) (given bytes text : List ℕ) (fault : LineFault) (why : UnreadLine) → length given ≤ 16_777_472 → bytes ≡ given → IsEnded bytes text
    → fault ≡ Unreadable → Reads (Asks text) (Err fault) → IsNoCall text why → IsCome side old given (Unread why) old
unread_is side old given bytes text fault unread_lines.Halted few same ended is reads (query, asks) = (few, (text, query, subst (λ l. IsEnded l text) same ended, asks), refl)
unread_is side old given bytes text fault unread_lines.Unreadable few same ended is reads none = (
  few,
  unread given bytes text fault same ended is reads,
  (λ line query other. let one : text ≡ line = end_is text line (sym ended ∙ same ∙ other) in subst (λ l. ¬ AsksQuery l query) one (none query)),
  refl,
)
unread_is side old given bytes text fault unread_lines.TooLarge few same ended is reads none = absurd none
