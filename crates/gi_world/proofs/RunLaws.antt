-- Runs with one step more.
use Rattle.std.proofs.Common.{◌≡◌, ◌≤◌, ℕ, suc, List, [], ◌∷◌, ◌++◌, length, pred, take, drop, get_or, Some, Result, true, arith, refl, sym, ap, subst, ◌∙◌}
use Rattle.std.specs.Prelude.{slice_get}
use Rattle.std.proofs.lemmas.Option.{get_or_from_slice_get, slice_get_within}
use Rattle.std.proofs.lemmas.List.{length-take-le, take-append-drop, take_all}
use Rattle.gi_world.specs.Agreement.{Agrees, AllAgree}
use Rattle.gi_world.specs.Runs.{IsRun, answers, run}
use Rattle.gi_world.specs.World.{WorldState, after, may_want, outcome}
use Rattle.gi_world.specs.declared.step.Step.{Step}
use Rattle.gi_world.specs.declared.world_fault.WorldFault.{WorldFault}
use Rattle.gi_world.specs.declared.world_reply.WorldReply.{WorldReply}

pub run-last : (w : WorldState) (steps : List Step) (step : Step) → run w (steps ++ step ∷ []) ≡ after (run w steps) step
run-last w [] step = refl
run-last w (first ∷ steps) step = run-last (after w first) steps step

pub answers-last : (w : WorldState) (steps : List Step) (step : Step) → answers w (steps ++ step ∷ []) ≡ answers w steps ++ outcome (run w steps) step ∷ []
answers-last w [] step = refl
answers-last w (first ∷ steps) step = ap (λ (later : List (Result WorldReply WorldFault)). outcome w first ∷ later) (answers-last (after w first) steps step)

pub answers-length : (w : WorldState) (steps : List Step) → length (answers w steps) ≡ length steps
answers-length w [] = refl
answers-length w (step ∷ steps) = ap suc (answers-length (after w step) steps)

-- ---- the steps made so far

-- what a loop over the steps has: what came of those made so far, none of which disagrees, and the world after them
pub record IsSoFar (start : WorldState) (made : List Step) (got : List (Result WorldReply WorldFault)) (end : WorldState) : Type 0 where
  pub outcomes : got ≡ answers start made
  pub world : end ≡ run start made
  pub agree : AllAgree made got

agree_last : (made : List Step) (got : List (Result WorldReply WorldFault)) (step : Step) (outcome : Result WorldReply WorldFault) → length got ≡ length made → AllAgree made got
    → Agrees step outcome → AllAgree (made ++ step ∷ []) (got ++ outcome ∷ [])
agree_last [] [] step outcome long all last = (last, tt)
agree_last [] (other ∷ got) step outcome long all last = absurd cc
agree_last (first ∷ made) [] step outcome long all last = absurd cc
agree_last (first ∷ made) (other ∷ got) step outcome long all last = (all.0, agree_last made got step outcome (ap pred long) all.1 last)

agree_all : (made later : List Step) (got : List (Result WorldReply WorldFault)) → length got ≡ length made → AllAgree made got → AllAgree (made ++ later) got
agree_all [] [] [] long all = tt
agree_all [] (step ∷ later) [] long all = tt
agree_all [] later (other ∷ got) long all = absurd cc
agree_all (first ∷ made) later [] long all = absurd cc
agree_all (first ∷ made) later (other ∷ got) long all = (all.0, agree_all made later got (ap pred long) all.1)

-- as many outcomes as steps
as_many : (start : WorldState) (made : List Step) (got : List (Result WorldReply WorldFault)) (end : WorldState) → IsSoFar start made got end → length got ≡ length made
as_many start made got end is = ap length is.outcomes ∙ answers-length start made

pub so_far-more : (start : WorldState) (made : List Step) (step : Step) (got more : List (Result WorldReply WorldFault)) (old new : WorldState)
    → IsSoFar start made got old → more ≡ got ++ outcome old step ∷ [] → new ≡ after old step → Agrees step (outcome old step) → IsSoFar start (made ++ step ∷ []) more new
so_far-more start made step got more old new is longer next agrees = record {
  outcomes = longer ∙ (λ t. is.outcomes t ++ outcome (is.world t) step ∷ []) ∙ sym (answers-last start made step);
  world = next ∙ ap (λ (w : WorldState). after w step) is.world ∙ sym (run-last start made step);
  agree =
      subst (λ (outcomes : List (Result WorldReply WorldFault)). AllAgree (made ++ step ∷ []) outcomes) (sym longer)
      (agree_last made got step (outcome old step) (as_many start made got old is) is.agree agrees);
}

-- the first steps of all
first_many : (start : WorldState) (steps : List Step) (n : ℕ) (got : List (Result WorldReply WorldFault)) (end : WorldState) → n ≤ length steps → IsSoFar start (take n steps) got end → length got ≡ n
first_many start steps n got end within is = as_many start (take n steps) got end is ∙ length-take-le n steps within

pub so_far-run : (start : WorldState) (steps : List Step) (n : ℕ) (got : List (Result WorldReply WorldFault)) (end : WorldState) → n ≤ length steps → IsSoFar start (take n steps) got end
    → ((next : Step) → slice_get steps n ≡ Some next → may_want end next ≡ true) → IsRun start steps (length got) got end
so_far-run start steps n got end within is ends =
    let long = first_many start steps n got end within is in
    record {
      within = omega (arith, long, within);
      outcomes = is.outcomes ∙ ap (λ m. answers start (take m steps)) (sym long);
      world = is.world ∙ ap (λ m. run start (take m steps)) (sym long);
      ends = λ next found. ends next (ap (slice_get steps) (sym long) ∙ found);
    }

-- the step in which memory ran out is the next one; after all steps there is none
pub ends_before : (steps : List Step) (n : ℕ) (step : Step) (old new : WorldState) → step ≡ get_or steps n step → new ≡ old → may_want old step ≡ true
    → (next : Step) → slice_get steps n ≡ Some next → may_want new next ≡ true
ends_before steps n step old new is same short next found =
    let step_is : next ≡ step = sym (get_or_from_slice_get steps n next step found) ∙ sym is in
    (λ t. may_want (same t) (step_is t)) ∙ short

pub ends_after : (steps : List Step) (end : WorldState) (next : Step) → slice_get steps (length steps) ≡ Some next → may_want end next ≡ true
ends_after steps end next found = let within = slice_get_within steps (length steps) next found in absurd (omega (arith, within))

pub so_far-agree : (start : WorldState) (steps : List Step) (n : ℕ) (got : List (Result WorldReply WorldFault)) (end : WorldState) → IsSoFar start (take n steps) got end → AllAgree steps got
so_far-agree start steps n got end is =
    subst (λ (all : List Step). AllAgree all got) (take-append-drop n steps) (agree_all (take n steps) (drop n steps) got (as_many start (take n steps) got end is) is.agree)

-- the steps made so far are the same where the loop is left for want of memory, and all where it ends
pub so_far-kept : (start : WorldState) (made : List Step) (got kept : List (Result WorldReply WorldFault)) (old new : WorldState) → IsSoFar start made got old → kept ≡ got → new ≡ old
    → IsSoFar start made kept new
so_far-kept start made got kept old new is same_outcomes same_world = record {
  outcomes = same_outcomes ∙ is.outcomes;
  world = same_world ∙ is.world;
  agree = subst (AllAgree made) (sym same_outcomes) is.agree;
}

pub so_far-all : (start : WorldState) (steps : List Step) (n : ℕ) (got : List (Result WorldReply WorldFault)) (end : WorldState) → length steps ≤ n → IsSoFar start (take n steps) got end
    → IsSoFar start (take (length steps) steps) got end
so_far-all start steps n got end beyond is =
    subst (λ (made : List Step). IsSoFar start made got end) (take_all n steps beyond ∙ sym (take_all (length steps) steps (omega arith))) is

pub so_far-many : (start : WorldState) (steps : List Step) (n : ℕ) (got : List (Result WorldReply WorldFault)) (end : WorldState) → length steps ≤ n → IsSoFar start (take n steps) got end
    → length got ≡ length steps
so_far-many start steps n got end beyond is = as_many start (take n steps) got end is ∙ ap length (take_all n steps beyond)
