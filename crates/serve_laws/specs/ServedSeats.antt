-- Lines of a served session lead from sessions over the mesh to sessions over the mesh.
use Rattle.std.proofs.Common.{ℕ, false, Option, Some, None}
use Rattle.mesh_model.specs.Meshes.{MeshLists, IsMesh}
use Rattle.script_model.specs.declared.orders.Order.{Order}
use Rattle.session_model.specs.Sessions.{SessionState}
use Rattle.session_model.specs.Steps.{free_step}
use Rattle.session_model.specs.SessionStates.{IsSessionState}
use Rattle.session_model.specs.Freeing.{FreesAll, NoUse, MoreUse}
use Rattle.session_laws.specs.StateLaws.{opened_is, viewed_is, printed_is}
use Rattle.session_laws.specs.FreeLaws.{free_step_is}
use Rattle.session_laws.specs.FinishLaws.{finished}
use Rattle.run_model.specs.Worlds.{World}
use Rattle.run_model.specs.Lines.{Did}
use Rattle.serve_model.specs.ServedLines.{no_epochs, Serves, ServesOpen, ServesView, ServesFrame, ServesFree, ServesClose}

-- the session, if it is open, is one over the mesh
abbrev pub IsSeat : MeshLists → Option SessionState → Type 0
IsSeat mesh None = Unit {0}
IsSeat mesh (Some s) = IsSessionState mesh s

frees_keep : (mesh : MeshLists) → IsMesh mesh → (s t : SessionState) (unlocks : ℕ) → IsSessionState mesh s
    → FreesAll s unlocks t → IsSessionState mesh t
frees_keep mesh accepted s _ _ is (NoUse none) = (free_step_is mesh accepted s is).keeps
frees_keep mesh accepted s t _ is (MoreUse {n = n} did same rest) = frees_keep mesh accepted (free_step s).state t n
    (free_step_is mesh accepted s is).keeps rest

pub serves_keep : (w : World) (a b : Option SessionState) (order : Order) (did : Did) → IsMesh w.mesh → IsSeat w.mesh a
    → Serves w a order did b → IsSeat w.mesh b
serves_keep w _ _ _ _ accepted is (ServesOpen i) = opened_is w.mesh
serves_keep w _ _ _ _ accepted is (ServesView i s view) = viewed_is w.mesh s view is
serves_keep w _ _ _ _ accepted is (ServesFrame i s t view frame done viewed finishes served) =
    printed_is w.mesh t (finished w.mesh accepted false no_epochs s is view viewed _ t finishes).is
serves_keep w _ _ _ _ accepted is (ServesFree i unlocks s t frees) = frees_keep w.mesh accepted s t unlocks is frees
serves_keep w _ _ _ _ accepted is (ServesClose i unlocks s t frees) = tt
