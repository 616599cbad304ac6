-- What every run of a script promises.
use Rattle.std.specs.Prelude.{◌≡◌, ℕ, ◌≤◌, true, List, Option, Some, None, slice_get, IfSome}
use Rattle.std.proofs.Common.{refl}
use Rattle.file_model.specs.Lists.{BodyLists}
use Rattle.mesh_model.specs.Accepted.{IsAccepted}
use Rattle.script_model.specs.declared.orders.Order.{Order}
use Rattle.session_model.specs.Sessions.{SessionState, locks}
use Rattle.tier_model.specs.Tiers.{TierState, load}
use Rattle.run_model.specs.Worlds.{World, IsWorld, HoldsBase}
use Rattle.run_model.specs.States.{State}
use Rattle.run_model.specs.Events.{Reaches}
use Rattle.run_model.specs.Safe.{IsSafe, IsHeldAtTop}
use Rattle.run_laws.specs.SafeLaws.{events_keep_safe}
use Rattle.run_model.specs.Lines.{Did, Runs}
use Rattle.run_model.specs.RunTexts.{IsOpening}
use Rattle.run_laws.specs.PrintedFrames.{IsTold, told_file, PrintsAlong, prints_along}
use Rattle.bench_laws.specs.DetailAlong.{DetailAlong, detail_along}

-- whatever events lead to from the opening on, each patch that a session has locked is held in the top tier with its
-- file's body, and what a tier holds and what comes to it is within its budget. And where the bodies are told, each frame
-- that the lines printed is the greedy refinement of its session's view, as it stands where the frame's line begins, over
-- the answers of the session's own tries: it shows a cut of the file, which has each node's parents, and has the base's
-- oriented boundary. Right behind a settling that had room for all and a store that never failed, it shows all that the
-- view wants
pub record KeepsPromises (w : World) {first last : State} {orders : List Order} {dids : List Did} (runs : Runs w first orders dids last) : Type 0 where
  pub locked : (a : State) → Reaches w first a → (i : ℕ) (s : SessionState) (p : ℕ) → a.sessions i ≡ Some s → locks s p ≡ true → IsHeldAtTop w a p
  pub loads : (a : State) → Reaches w first a → (k : ℕ) (t : TierState) (budget : ℕ) → slice_get a.chain.tiers k ≡ Some t → slice_get w.budgets k ≡ Some budget → load t ≤ budget
  pub frames : IfSome w.bodies (λ bodies. PrintsAlong w bodies first last orders dids runs)
  pub detail : IfSome w.bodies (λ bodies. DetailAlong w bodies first last orders dids runs)

-- a run opens in a safe state of its world, in which the base fits, and what is told of the file is accepted
pub record OpensSafely (w : World) (first : State) : Type 0 where
  pub world : IsWorld w
  pub holds : HoldsBase w
  pub opens : IsOpening w first
  pub safe : IsSafe w first
  pub accepted : IfSome w.bodies (λ bodies. IsAccepted (told_file w bodies) w.mesh.root)

-- what follows for told and accepted bodies, follows where they are told
where_told : (w : World) (Holds : List BodyLists → Type 0)
    → IfSome w.bodies (λ (bodies : List BodyLists). IsAccepted (told_file w bodies) w.mesh.root)
    → ((bodies : List BodyLists) → IsTold w bodies → Holds bodies) → IfSome w.bodies Holds
where_told w Holds accepted shows = by_bodies w.bodies refl accepted
  where
    by_bodies : (told : Option (List BodyLists)) → w.bodies ≡ told
        → IfSome told (λ (bodies : List BodyLists). IsAccepted (told_file w bodies) w.mesh.root) → IfSome told Holds
    by_bodies None is accepted = tt
    by_bodies (Some bodies) is accepted = shows bodies (record { told = is; accepted = accepted })

pub promises_kept : (w : World) (first last : State) (orders : List Order) (dids : List Did) → OpensSafely w first
    → (runs : Runs w first orders dids last) → KeepsPromises w runs
promises_kept w first last orders dids opens runs = record {
  locked = λ a reaches. (events_keep_safe w first a opens.world opens.safe reaches).locked_are_held;
  loads = λ a reaches. (events_keep_safe w first a opens.world opens.safe reaches).loads;
  frames = where_told w (λ (bodies : List BodyLists). PrintsAlong w bodies first last orders dids runs) opens.accepted
      (λ bodies is_told. prints_along w bodies first last orders dids is_told opens.world opens.safe runs);
  detail = where_told w (λ (bodies : List BodyLists). DetailAlong w bodies first last orders dids runs) opens.accepted
      (λ bodies is_told. detail_along w bodies is_told opens.world opens.holds first last orders dids opens.opens runs);
}
