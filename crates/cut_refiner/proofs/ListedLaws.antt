-- The cut and its frame once the round is through.
use Rattle.std.proofs.Common.{◌≡◌, ℕ, ◌≤◌, Bool, List, length, Option, sym, ap, subst, ◌∙◌, arith}
use Rattle.file_model.specs.declared.fields.Try.{Try}
use Rattle.file_model.specs.Lists.{FileLists}
use Rattle.mesh_model.specs.Graph.{nodes_where}
use Rattle.mesh_model.specs.Nets.{HaveOneNet}
use Rattle.mesh_model.specs.Frames.{leads_out, frame_patches, IsCut}
use Rattle.mesh_model.specs.Accepted.{IsAccepted, triangles_out_of}
use Rattle.round_model.specs.declared.asks.Ask.TheVariants.{Done}
use Rattle.round_model.specs.Order.{Rules}
use Rattle.round_model.specs.Rounds.{has, epochs_of}
use Rattle.round_model.specs.Refiners.{Refining, round_state, pending_ask, cut_of, cut_patches}
use Rattle.mesh_laws.specs.Frames.{frame_of_set}
use Rattle.round_laws.specs.Cuts.{round_is_cut, round_boundary}
use Rattle.cut_refiner.specs.declared.refinement_states.RefinementState.{RefinementState}
use Rattle.cut_refiner.specs.declared.cut_lists.CutLists.{CutLists}
use Rattle.cut_refiner.specs.RoundRules.{AreRules}
use Rattle.cut_refiner.specs.Hands.{AreLists, AreListsOf}
use Rattle.cut_refiner.specs.Refiners.{IsAt}
use Rattle.mesh_model.specs.Chosen.{chosen_few}
use Rattle.cut_refiner.proofs.GrowingCutLaws.{few_nodes, few_fields}
use Rattle.cut_refiner.proofs.ListingLaws.{few_numbers}
use Rattle.cut_refiner.proofs.AskLaws.{seen_as, done, none_in_hand, set_at}

module _ (rules : Rules) (tries : List Try) (owed : List ℕ) (refinement : RefinementState) (lists : CutLists) (granted : ℕ) (hand : Option ℕ) (seen : Refining) (same : seen_as rules tries owed ≡ seen) (are : AreRules rules) (at : IsAt rules tries refinement granted hand) (listed : AreLists rules refinement.growing.in_cut.items lists hand) (is_done : pending_ask seen ≡ Done) where
  abbrev mine : Refining
  mine = seen_as rules tries owed

  lists_are : AreListsOf rules refinement.growing.in_cut.items lists
  lists_are =
      let through = (done mine (ap pending_ask same ∙ is_done)).at in
      subst (AreLists rules refinement.growing.in_cut.items lists) (none_in_hand rules tries refinement granted hand at through) listed

  set_is : (round_state mine).set ≡ refinement.growing.in_cut.items
  set_is = set_at rules tries refinement granted hand at

  nodes_mine : lists.nodes.items ≡ cut_of mine
  unfolding cut_of
  nodes_mine = lists_are.nodes_are ∙ ap (λ (s : List Bool). nodes_where (length rules.mesh.index.nodes) (has s)) (sym set_is)

  patches_mine : lists.patches.items ≡ cut_patches mine
  unfolding cut_patches
  patches_mine = lists_are.patches_are ∙ ap (λ (s : List Bool). frame_patches (has s) rules.mesh.index.fields) (sym set_is)

  pub nodes_listed : lists.nodes.items ≡ cut_of seen
  nodes_listed = nodes_mine ∙ ap cut_of same

  pub patches_listed : lists.patches.items ≡ cut_patches seen
  patches_listed = patches_mine ∙ ap cut_patches same

  pub nodes_few : length lists.nodes.items ≤ 65536
  nodes_few = omega (arith, ap length lists_are.nodes_are, few_numbers (has refinement.growing.in_cut.items) (length rules.mesh.index.nodes) 0, few_nodes rules.mesh are.mesh)

  pub patches_few : length lists.patches.items ≤ 65536
  patches_few = omega (arith, ap length lists_are.patches_are, chosen_few (leads_out (has refinement.growing.in_cut.items)) rules.mesh.index.fields, few_fields rules.mesh are.mesh)

-- whatever the tries were
module _ (rules : Rules) (tries : List Try) (owed : List ℕ) (seen : Refining) (same : seen_as rules tries owed ≡ seen) (are : AreRules rules) where
  pub seen_is_cut : IsCut seen.rules.mesh.index.fields seen.rules.mesh.root (has (round_state seen).set)
  seen_is_cut = subst (λ (r : Refining). IsCut r.rules.mesh.index.fields r.rules.mesh.root (has (round_state r).set)) same (round_is_cut rules are.mesh (epochs_of tries))

  pub seen_boundary : (file : FileLists) → IsAccepted file seen.rules.mesh.root → file.index ≡ seen.rules.mesh.index → HaveOneNet (frame_of_set file (has (round_state seen).set)) (triangles_out_of file seen.rules.mesh.root)
  seen_boundary =
      subst (λ (r : Refining). (file : FileLists) → IsAccepted file r.rules.mesh.root → file.index ≡ r.rules.mesh.index → HaveOneNet (frame_of_set file (has (round_state r).set)) (triangles_out_of file r.rules.mesh.root)) same
      (λ file accepted index. round_boundary rules file (epochs_of tries) are.mesh accepted index)
