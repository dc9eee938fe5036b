-- How a command grows by its words and options.
use Rattle.std.proofs.Common.{◌≡◌, ◌&&◌, Bool, IfOk, Result, false, not, refl, subst, sym, true, true≢false}
use Rattle.clap.specs.Words.{App, Rule, with_rule}

module _ {T E : Type 0} (read : T → App) where
  -- one word or option more, whose rule is known
  pub one_more : (before after : Result T E) (app : App) (rule known : Rule)
      → ((old : App) → IfOk before (λ it. read it ≡ old) → IfOk after (λ it. read it ≡ with_rule old rule))
      → rule ≡ known → IfOk before (λ it. read it ≡ app) → IfOk after (λ it. read it ≡ with_rule app known)
  one_more before after app rule known adds is_known is = subst (λ (r : Rule). IfOk after (λ it. read it ≡ with_rule app r)) is_known (adds app is)

-- the third of what holds together, which is not
pub third_is_not : (a b c d : Bool) → (a && (b && (not c && d))) ≡ true → c ≡ false
third_is_not true true false d all = refl
third_is_not true true true d all = absurd (true≢false (sym all))
third_is_not true false c d all = absurd (true≢false (sym all))
third_is_not false b c d all = absurd (true≢false (sym all))
