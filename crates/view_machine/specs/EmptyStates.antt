-- Over seats where no session is open and a board without views, the run is in a state where nobody is.
use Rattle.std.proofs.Common.{◌≡◌, ℕ, zero, suc, Bool, false, List, replicate, Option, None, refl, ap, ap₂, ◌∙◌}
use Rattle.std.specs.Prelude.{slice_index_or}
use Rattle.std.proofs.Math.Path.{fun_ext}
use Rattle.std.proofs.lemmas.List.{length-replicate}
use Rattle.mesh_model.specs.Meshes.{MeshLists}
use Rattle.session_model.specs.Sessions.{SessionState}
use Rattle.token_words.specs.PlainTokens.{words_seen, epoch_of, IsUnused}
use Rattle.token_words.specs.declared.plain_words.PlainTokens.{PlainTokens}
use Rattle.token_words.specs.declared.session_sets.TheConstants.{SESSIONS}
use Rattle.tier_model.specs.Tiers.{TierState}
use Rattle.tier_model.specs.Ranks.{Posted}
use Rattle.wish_board.specs.Boards.{empty_board}
use Rattle.wish_board.specs.BoardLaws.{fits_empty}
use Rattle.run_model.specs.States.{State}
use Rattle.resumed_model.specs.Resting.{resting}
use Rattle.session_seats.specs.Boards.{IsBoardFor}
use Rattle.session_seats.specs.Seats.{at_seat, empty_seats, state_of}
use Rattle.view_machine.specs.Machines.{state_in}

nothing_in : (X : Type 0) (n i : ℕ) → slice_index_or (replicate {A = Option X} n None) i None ≡ None
nothing_in X zero i = refl
nothing_in X (suc n) zero = refl
nothing_in X (suc n) (suc i) = nothing_in X n i

nothing_at : (X : Type 0) (n i : ℕ) → at_seat (replicate {A = Option X} n None) i ≡ None
nothing_at X n zero = refl
nothing_at X n (suc i) = nothing_in X n i

-- the board without views is the mesh's
pub board_for : (mesh : MeshLists) → IsBoardFor mesh (empty_board mesh)
unfolding empty_board
board_for mesh = record { fits = fits_empty mesh; many = length-replicate {A = Option Posted} SESSIONS None }

-- where no session uses a patch, the state is that of the tiers and the epochs alone
pub empty_state : (mesh : MeshLists) (tiers : List TierState) (tokens : PlainTokens) → IsUnused tokens
    → state_in tiers (words_seen tokens) (empty_seats mesh) (empty_board mesh) ≡ resting tiers (epoch_of tokens)
unfolding state_of empty_board resting
empty_state mesh tiers tokens unused =
    let make : (ℕ → ℕ → Bool) → (ℕ → Option SessionState) → (ℕ → Option Posted) → State = λ users sessions posted.
    record {
      chain = record { tiers = tiers; epochs = epoch_of tokens };
      users = users;
      sessions = sessions;
      posted = posted;
      version = 0;
    } in
    ap (λ (users : ℕ → ℕ → Bool). make users (at_seat (empty_seats mesh).sessions) (at_seat (empty_board mesh).views))
    (fun_ext (λ (i : ℕ). fun_ext (λ (p : ℕ). unused.users i p)))
    ∙ ap₂ (make (λ i p. false)) (fun_ext (λ (i : ℕ). nothing_at SessionState SESSIONS i))
    (fun_ext (λ (i : ℕ). nothing_at Posted SESSIONS i))
