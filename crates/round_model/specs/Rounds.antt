-- A round: the nodes are gone through in their order, and a node joins the cut where each of its patches
-- was granted.
use Rattle.std.specs.Prelude.{◌≡◌, ℕ, Bool, true, false, not, ◌&&◌, ◌||◌, List, [], ◌∷◌, ◌++◌, length, map, nat_lt, nat_le, Option, Some, None, unwrap_or, slice_get, slice_set, replicate, if◌then◌else◌}
use Rattle.std.specs.List.{list_all, sum_by}
use Rattle.file_model.specs.declared.fields.PatchField.{PatchField}
use Rattle.file_model.specs.declared.fields.Try.{Try}
use Rattle.mesh_model.specs.Graph.{leads_to, outgoing}
use Rattle.mesh_model.specs.Frames.{leads_out}
use Rattle.round_model.specs.Order.{Rules, score, node_order}
use Rattle.round_model.specs.Tries.{Verdict, Granted, Refused, OpenAt, Tried, tried_patches}

-- the node is in the set, which has a flag for each node
abbrev pub has : List Bool → ℕ → Bool
has set v = unwrap_or (slice_get set v) false

-- the set with the node
abbrev pub with_member : List Bool → ℕ → List Bool
with_member set v = slice_set set v true

-- how many triangles lead out of the set
unfoldable pub frame_size : (ℕ → Bool) → List PatchField → ℕ
frame_size in_set fields = sum_by (λ (f : PatchField). if leads_out in_set f then f.triangles else 0) fields

abbrev pub is_wanted : Rules → ℕ → Bool
is_wanted rules v = nat_lt rules.threshold (score rules v)

-- the tails of all patches that lead to the node are in the set
abbrev pub has_parents : List PatchField → List Bool → ℕ → Bool
has_parents fields set v = list_all (λ (f : PatchField). not (leads_to v f) || has set f.tail) fields

-- the frame with the node has at most `limit` triangles
abbrev pub is_within_limit : Rules → List Bool → ℕ → Bool
is_within_limit rules set v = nat_le (frame_size (has (with_member set v)) rules.mesh.index.fields) rules.limit

-- the node's patches are to be tried
abbrev pub is_tried : Rules → List Bool → ℕ → Bool
is_tried rules set v = is_wanted rules v && has_parents rules.mesh.index.fields set v && is_within_limit rules set v

-- the node whose patches are being tried, the tries of its patches that were granted so far, and the
-- patch that is to be tried
pub record NodeInProgress : Type 0 where
  pub node : ℕ
  pub granted : List Try
  pub patch : ℕ

-- where a round stands once its epochs are used up, or it is through
pub record RoundState : Type 0 where
  pub set : List Bool
  pub tries : List Try
  pub at : Option NodeInProgress
  pub unused : List ℕ

-- what follows the tries of a node's patches: the rest of the round, with the node in the set where all
-- were granted, or the round stands there
abbrev pub after_verdict : List Bool → List Try → ℕ → Tried → (List Bool → List Try → List ℕ → RoundState) → Verdict → RoundState
after_verdict set tries v tried rest Granted = rest (with_member set v) (tries ++ tried.tries) tried.unused
after_verdict set tries v tried rest Refused = rest set (tries ++ tried.tries) tried.unused
after_verdict set tries v tried rest (OpenAt p) = record { set = set; tries = tries ++ tried.tries; at = Some (record { node = v; granted = tried.tries; patch = p }); unused = [] }

abbrev pub after_tries : List Bool → List Try → ℕ → Tried → (List Bool → List Try → List ℕ → RoundState) → RoundState
after_tries set tries v tried rest = after_verdict set tries v tried rest tried.verdict

-- the round goes on from a set and the tries so far through these nodes, answered by the epochs
unfoldable pub round_from : Rules → List ℕ → List Bool → List Try → List ℕ → RoundState
round_from rules [] set tries epochs = record { set = set; tries = tries; at = None; unused = epochs }
round_from rules (v ∷ vs) set tries epochs =
    if is_tried rules set v then after_tries set tries v (tried_patches (outgoing rules.mesh.index.fields v) epochs) (λ s t e. round_from rules vs s t e)
    else round_from rules vs set tries epochs

-- the set with the root alone
unfoldable pub root_set : Rules → List Bool
root_set rules = with_member (replicate (length rules.mesh.index.nodes) false) rules.mesh.root

-- the round whose tries these epochs answer
unfoldable pub round_of : Rules → List ℕ → RoundState
round_of rules epochs = round_from rules (node_order rules) (root_set rules) [] epochs

-- the round is through, and all epochs were used
pub record IsWhole (stand : RoundState) : Type 0 where
  pub through : stand.at ≡ None
  pub used : stand.unused ≡ []

abbrev pub epochs_of : List Try → List ℕ
epochs_of tries = map (λ (t : Try). t.epoch) tries

abbrev pub patches_of : List Try → List ℕ
patches_of tries = map (λ (t : Try). t.patch) tries
