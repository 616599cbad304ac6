-- A view whose wanted nodes are wished and fit, and a round that is answered by the epochs of a chain.
use Rattle.std.specs.Prelude.{◌≡◌, ℕ, ◌≤◌, Bool, true, List, [], ◌∷◌, ◌++◌, length, Option, Some, None, slice_get}
use Rattle.std.specs.List.{AllByRecursion}
use Rattle.file_model.specs.declared.fields.PatchField.{PatchField}
use Rattle.file_model.specs.declared.fields.Try.{Try}
use Rattle.file_model.specs.Tries.{is_odd}
use Rattle.mesh_model.specs.Meshes.{IsMesh}
use Rattle.round_model.specs.Order.{Rules, node_order}
use Rattle.round_model.specs.Rounds.{has, with_member, frame_size, is_wanted, root_set, round_of}
use Rattle.round_laws.specs.Ascending.{IsInnerNode}
use Rattle.round_laws.specs.Parents.{FallsAlong}
use Rattle.tier_model.specs.declared.turns.Turn.{Turn}
use Rattle.tier_model.specs.Tiers.{base_marks}
use Rattle.tier_model.specs.Ranks.{Posted, wish_of}
use Rattle.tier_model.specs.Turns.{Board}
use Rattle.tier_model.specs.Chains.{Chain}
use Rattle.tier_laws.specs.ChainLaws.{IsTopTied}
use Rattle.tier_model.specs.Settling.{Settles}
use Rattle.detail_laws.specs.Needs.{GoWell, AreReady}
use Rattle.round_laws.specs.Wanted.{FitsWanted}

-- ---- the view

-- the board's wishes are those of posted views, and the view is among them
pub record IsPosted (rules : Rules) (board : Board) : Type 0 where
  pub views : List (Option Posted)
  pub wishes : (p : ℕ) → board.wish p ≡ wish_of rules.mesh.index.fields views p
  pub place : ℕ
  pub posted : slice_get views place ≡ Some (Some (record { scores = rules.scores; threshold = rules.threshold }))

-- ---- the round

-- each try was answered by its patch's epoch
abbrev pub AreAnsweredBy : (ℕ → ℕ) → List Try → Type 0
AreAnsweredBy epochs tries = AllByRecursion (λ (t : Try). t.epoch ≡ epochs t.patch) tries

-- ---- a settling, and a round of the view behind it

-- all tiers settle; they had room for all that is wished, passed over or in use, nothing was aside, epochs were
-- low, no fetch faulted, and the epochs told which patches the top tier held
pub record SettlesWell (rules : Rules) (board : Board) (used : ℕ → ℕ → Bool) (a c : Chain) (log : List (ℕ × Turn)) : Type 0 where
  pub some_tier : 1 ≤ length a.tiers
  pub settles : Settles board (length a.tiers) a log c
  pub ready : AreReady board used (base_marks rules.mesh.index.fields) (length a.tiers) a
  pub well : GoWell used log
  pub pinned : ℕ → Bool
  pub tied : IsTopTied a pinned

-- over an accepted mesh, a round of a posted view whose wanted nodes fit is through, answered by these epochs
pub record IsRoundOf (rules : Rules) (board : Board) (epochs : ℕ → ℕ) (answers : List ℕ) : Type 0 where
  pub mesh : IsMesh rules.mesh
  pub falls : FallsAlong rules
  pub posted : IsPosted rules board
  pub fits : FitsWanted rules
  pub through : (round_of rules answers).at ≡ None
  pub answered : AreAnsweredBy epochs (round_of rules answers).tries
