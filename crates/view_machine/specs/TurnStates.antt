-- What the turns of a chain do to the state of a run.
use Rattle.std.proofs.Common.{◌≡◌, ℕ, suc, Bool, true, List, Option, Some, None, sym, ap, subst, ◌∙◌}
use Rattle.std.specs.Prelude.{slice_get, slice_set, MatchOption}
use Rattle.std.proofs.Math.Path.{fun_ext}
use Rattle.std.proofs.lemmas.Option.{slice_get_within}
use Rattle.mesh_graph.specs.ListReads.{slice_get-set_same}
use Rattle.file_model.specs.declared.faults.FileFault.{FileFault}
use Rattle.file_model.specs.Lists.{SeenBody}
use Rattle.view_outside.specs.Faults.{Rose}
use Rattle.session_model.specs.Sessions.{SessionState}
use Rattle.token_words.specs.Sessions.{session_count}
use Rattle.tier_model.specs.declared.turns.Turn.{Turn}
use Rattle.tier_model.specs.declared.turns.Turn.TheVariants.{Reserve, Evict, Kept, Got, Lost, Fault, Changed, Commit, Idle}
use Rattle.tier_model.specs.Tiers.{TierState, body_at, is_held, IsBodyFor, IsMadeOf, sizes_of}
use Rattle.tier_model.specs.Answers.{IfGot, IfFault, IfChanged, IfKept}
use Rattle.tier_model.specs.Ranks.{Posted}
use Rattle.tier_model.specs.Turns.{Board, Came, IsTurn, BringsBody}
use Rattle.tier_model.specs.Chains.{told_at, epochs_then}
use Rattle.cache_chain.specs.ChainStates.{IsFileBody, FindsChanged}
use Rattle.cache_chain.specs.Turning.{chain_of, AtLowest}
use Rattle.cache_chain.specs.Turning.{GivesBelow as ChainGives}
use Rattle.cache_chain.specs.AnswerMaps.{got_more}
use Rattle.cache_chain.specs.TurnRuns.{Setting, Moment, chain_at, MakesTurn}
use Rattle.run_model.specs.Worlds.{World}
use Rattle.run_model.specs.States.{State, board_of, moved}
use Rattle.run_model.specs.Turning.{GivesStored, GivesBelow, TurnsTo}
use Rattle.run_laws.specs.AnswerLaws.{IsAnswer, turns_to}
use Rattle.body_loads.specs.ToldBodies.{told_bodies}
use Rattle.view_machine.specs.WorldBodies.{world_body}

-- the state of a run at a moment of its chain, beside these sessions and posted views
abbrev pub state_at : (ℕ → Option SessionState) → (ℕ → Option Posted) → ℕ → Moment → State
state_at sessions posted version m = record { chain = chain_at m; users = m.words.users; sessions = sessions; posted = posted; version = version }

-- the chain turns in the world: over its index and its file, with the wishes of the posted views, and with sets of sessions
pub record IsSettingOf (w : World) (a : State) (u : Setting) : Type 0 where
  pub board : u.board ≡ board_of w a
  pub sets : u.tells_sets ≡ true
  pub index : u.index ≡ w.mesh.index
  pub bodies : w.bodies ≡ told_bodies w.mesh.index u.bytes

-- ---- what lies below a tier

gives_below : (w : World) (bytes : Option (List ℕ)) (tiers : List TierState) (k p : ℕ) (body : SeenBody) → w.bodies ≡ told_bodies w.mesh.index bytes → IsBodyFor (sizes_of w.mesh.index) p body
    → ChainGives (IsFileBody w.mesh.index bytes) tiers k p body → GivesBelow w tiers k p (Came body)
gives_below w bytes tiers k p body same right gives = by_below (slice_get tiers (suc k)) gives
  where
    by_below : (below : Option TierState) → MatchOption below (IsFileBody w.mesh.index bytes p body) (λ (t : TierState). slice_get t.held p ≡ Some (Some body))
        → MatchOption below (GivesStored w p (Came body)) (λ (t : TierState). is_held t p ≡ true → slice_get t.held p ≡ Some (Some body))
    by_below None given = world_body w bytes p body same right given
    by_below (Some t) given = λ held. given

got_below : (w : World) (bytes : Option (List ℕ)) (tiers : List TierState) (k : ℕ) (answer : Turn) (after : TierState) → w.bodies ≡ told_bodies w.mesh.index bytes → BringsBody (sizes_of w.mesh.index) answer after
    → IfGot answer (λ p. ChainGives (IsFileBody w.mesh.index bytes) tiers k p (body_at after p)) → IfGot answer (λ p. GivesBelow w tiers k p (Came (body_at after p)))
got_below w bytes tiers k (Got p) after same brings gives = gives_below w bytes tiers k p (body_at after p) same brings gives
got_below w bytes tiers k (Reserve p) after same brings gives = tt
got_below w bytes tiers k (Evict p) after same brings gives = tt
got_below w bytes tiers k (Kept p uses) after same brings gives = tt
got_below w bytes tiers k (Lost p) after same brings gives = tt
got_below w bytes tiers k (Fault p) after same brings gives = tt
got_below w bytes tiers k (Changed p fault) after same brings gives = tt
got_below w bytes tiers k (Commit p) after same brings gives = tt
got_below w bytes tiers k Idle after same brings gives = tt

used_sym : (users : ℕ → ℕ → Bool) (answer : Turn) → IfKept answer (λ v uses. uses ≡ session_count (λ i. users i v)) → IfKept answer (λ v uses. session_count (λ i. users i v) ≡ uses)
used_sym users (Kept v uses) used = sym used
used_sym users (Reserve p) used = tt
used_sym users (Evict p) used = tt
used_sym users (Got p) used = tt
used_sym users (Lost p) used = tt
used_sym users (Fault p) used = tt
used_sym users (Changed p fault) used = tt
used_sym users (Commit p) used = tt
used_sym users Idle used = tt

fault_lowest : (tiers : List TierState) (k : ℕ) (P : Type 0) (answer : Turn) → IfFault answer (λ p. AtLowest tiers k P) → IfFault answer (λ p. slice_get tiers (suc k) ≡ None)
fault_lowest tiers k P (Fault p) is = is.0
fault_lowest tiers k P (Reserve p) is = tt
fault_lowest tiers k P (Evict p) is = tt
fault_lowest tiers k P (Kept p uses) is = tt
fault_lowest tiers k P (Got p) is = tt
fault_lowest tiers k P (Lost p) is = tt
fault_lowest tiers k P (Changed p fault) is = tt
fault_lowest tiers k P (Commit p) is = tt
fault_lowest tiers k P Idle is = tt

changed_lowest : (tiers : List TierState) (k : ℕ) (P : ℕ → FileFault → Type 0) (answer : Turn) → IfChanged answer (λ p fault. AtLowest tiers k (P p fault)) → IfChanged answer (λ p fault. slice_get tiers (suc k) ≡ None)
changed_lowest tiers k P (Changed p fault) is = is.0
changed_lowest tiers k P (Reserve p) is = tt
changed_lowest tiers k P (Evict p) is = tt
changed_lowest tiers k P (Kept p uses) is = tt
changed_lowest tiers k P (Got p) is = tt
changed_lowest tiers k P (Lost p) is = tt
changed_lowest tiers k P (Fault p) is = tt
changed_lowest tiers k P (Commit p) is = tt
changed_lowest tiers k P Idle is = tt

-- ---- a turn

module _ (w : World) (sessions : ℕ → Option SessionState) (posted : ℕ → Option Posted) (version : ℕ) (u : Setting) (k : ℕ) (answer : Turn) (m n : Moment)
    (setting : IsSettingOf w (state_at sessions posted version m) u) (made : (t : TierState) → slice_get m.tiers k ≡ Some t → IsMadeOf w.mesh.index t) (turn : MakesTurn u k answer m n) where
  abbrev before : TierState
  before = turn.turn.before

  abbrev after : TierState
  after = turn.turn.after

  stands : slice_get n.tiers k ≡ Some after
  stands = ap (λ (ts : List TierState). slice_get ts k) turn.turn.is ∙ slice_get-set_same m.tiers k after (slice_get_within m.tiers k before turn.turn.was)

  body_below : IfGot answer (λ p. GivesBelow w m.tiers k p (Came (body_at after p)))
  body_below =
      let Q : ℕ → Type 0 = λ p. ChainGives (IsFileBody w.mesh.index u.bytes) m.tiers k p (body_at after p) in
      got_below w u.bytes m.tiers k answer after setting.bodies (subst (λ (sizes : List ℕ). BringsBody sizes answer after) (made before turn.turn.was).sizes turn.turn.body)
      (subst (λ index. IfGot answer (λ p. ChainGives (IsFileBody index u.bytes) m.tiers k p (body_at after p))) setting.index
      (got_more (λ p. (s : TierState) → slice_get n.tiers k ≡ Some s → ChainGives (IsFileBody u.index u.bytes) m.tiers k p (body_at s p)) (λ p. ChainGives (IsFileBody u.index u.bytes) m.tiers k p (body_at after p))
      (λ p gives. gives after stands) answer turn.got))

  answers : IsAnswer w (state_at sessions posted version m) k answer after
  answers = record {
    body = body_below;
    free = λ top. turn.free top setting.sets;
    used = λ top. used_sym m.words.users answer (turn.found setting.sets);
    fault = fault_lowest m.tiers k (Rose m.faults n.faults) answer turn.fault;
    changed = changed_lowest m.tiers k (FindsChanged u.index u.bytes) answer turn.changed;
  }

  moved_is : state_at sessions posted version n ≡ moved (state_at sessions posted version m) k answer after
  unfolding moved
  moved_is =
      let with_words : (ℕ → ℕ) → (ℕ → ℕ → Bool) → List TierState → State = λ epochs users tiers. record { chain = chain_of tiers epochs; users = users; sessions = sessions; posted = posted; version = version } in
      ap (λ (tiers : List TierState). with_words n.words.epochs n.words.users tiers) turn.turn.is
      ∙ ap (λ (epochs : ℕ → ℕ). with_words epochs n.words.users (slice_set m.tiers k after)) (fun_ext turn.turn.epochs)
      ∙ ap (λ (users : ℕ → ℕ → Bool). with_words (epochs_then k answer m.words.epochs) users (slice_set m.tiers k after)) (fun_ext (λ (s : ℕ). fun_ext (turn.sets.users setting.sets s)))

  -- the tier makes the turn in the state
  pub turn_tells : TurnsTo w k (state_at sessions posted version m) answer (state_at sessions posted version n)
  turn_tells =
      turns_to w (state_at sessions posted version m) (state_at sessions posted version n) k before answer after turn.turn.was
      (subst (λ (board : Board). IsTurn board (told_at (chain_at m) k) before answer after) setting.board turn.turn.turns)
      answers moved_is
