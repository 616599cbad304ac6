-- What the lines of a script do.
use Rattle.std.specs.Prelude.{◌≡◌, ◌≢◌, ℕ, zero, suc, ◌+◌, true, List, [], ◌∷◌, ◌++◌, length, map, Some, None, is_some, slice_get, slice_index_or, if◌then◌else◌}
use Rattle.std.specs.List.{count_by, flat_map}
use Rattle.std.specs.Option.{option_map_or, unwrap_or}
use Rattle.file_model.specs.Lists.{SeenBody, no_body, triangles_of}
use Rattle.round_model.specs.Refiners.{Refining, cut_of, cut_patches}
use Rattle.round_model.specs.Views.{ViewSeen}
use Rattle.script_model.specs.declared.orders.Order.{Order}
use Rattle.script_model.specs.declared.orders.Order.TheVariants as orders
use Rattle.session_model.specs.declared.steps.Stepped.{Stepped}
use Rattle.session_model.specs.Sessions.{SessionState, opened, with_view, printed_once}
use Rattle.session_model.specs.Steps.{step_by}
use Rattle.session_model.specs.DoneRounds.{HasDone}
use Rattle.session_model.specs.Finishes.{Finishes}
use Rattle.text_model.specs.FrameText.{Frame}
use Rattle.tier_model.specs.declared.turns.Coming.{Coming}
use Rattle.tier_model.specs.declared.turns.Turn.{Turn}
use Rattle.tier_model.specs.declared.turns.Turn.TheVariants.{Idle}
use Rattle.tier_model.specs.Tiers.{TierState, load}
use Rattle.token_words.specs.Sessions.{IsSession}
use Rattle.run_model.specs.Worlds.{World, patch_count}
use Rattle.run_model.specs.States.{State, posted_by, seated, posting}
use Rattle.run_model.specs.Turning.{TurnsTo}
use Rattle.session_model.specs.Freeing.{FreesAll}

-- ---- what a line did

-- what is told of a tier: its budget, its load, how many patches it holds, and those that come
pub record TierStatus : Type 0 where
  pub budget : ℕ
  pub load : ℕ
  pub held : ℕ
  pub coming : List ℕ

abbrev pub tier_status : TierState → TierStatus
tier_status t = record { budget = t.budget; load = load t; held = count_by (λ o. is_some o) t.held; coming = map (λ (c : Coming). c.patch) t.coming }

-- what a line did, by the number of the session that it ordered
pub data Did : Type 0 where
  DidOpen : ℕ → Did
  DidView : ℕ → Did
  DidStep : ℕ → Stepped → Did
  DidFrame : Frame → Did
  DidFree : ℕ → ℕ → Did
  DidClose : ℕ → ℕ → Did
  DidTurns : List (ℕ × Turn) → Did
  DidTell : List TierStatus → Did

-- ---- frames

-- the patch's body in the top tier
abbrev pub top_body : List TierState → ℕ → SeenBody
top_body tiers p = option_map_or (λ (top : TierState). unwrap_or (slice_index_or top.held p None) no_body) (slice_get tiers 0) no_body

-- the session's next frame: its round's cut, answers and patches, and the triangles of these bodies
unfoldable pub frame_with : List SeenBody → ℕ → SessionState → Refining → Frame
frame_with bodies i s round = record {
  session = i;
  number = s.frames + 1;
  cut = cut_of round;
  tries = round.tries;
  patches = cut_patches round;
  triangles = flat_map (λ (body : SeenBody). triangles_of body.lists) bodies;
}

-- the session's next frame, of its patches' bodies in the top tier
unfoldable pub frame_of : List TierState → ℕ → SessionState → Refining → Frame
frame_of tiers i s round = frame_with (map (top_body tiers) (cut_patches round)) i s round

-- ---- turns

-- turns of tier k until one is idle, each with the tier's number
pub data IdlesTo (w : World) (k : ℕ) : State → List (ℕ × Turn) → State → Type 0 where
  LastTurn : {a b : State} → TurnsTo w k a Idle b → IdlesTo w k a ((k, Idle) ∷ []) b
  MoreTurns : {a b c : State} {log : List (ℕ × Turn)} (answer : Turn) → answer ≢ Idle → TurnsTo w k a answer b → IdlesTo w k b log c → IdlesTo w k a ((k, answer) ∷ log) c

-- the first n tiers settle, from the lowest of them to the top
pub data SettlesTo (w : World) : ℕ → State → List (ℕ × Turn) → State → Type 0 where
  AllSettled : {a : State} → SettlesTo w zero a [] a
  TierSettles : {n : ℕ} {a b c : State} {log rest : List (ℕ × Turn)} → IdlesTo w n a log b → SettlesTo w n b rest c → SettlesTo w (suc n) a (log ++ rest) c

-- ---- lines

-- the session's view is taken off, if it posted one
abbrev pub taken_off : State → ℕ → State
taken_off a i = if is_some (a.posted i) then posting a i None else a

-- a line does this in a state, and leads to another
pub data Does (w : World) : State → Order → Did → State → Type 0 where
  -- a session opens
  DoesOpen : {a : State} (i : ℕ) → IsSession i → a.sessions i ≡ None → Does w a (orders.Open i) (DidOpen i) (seated a i (Some (opened (patch_count w))))
  -- its view is set and posted
  DoesView : {a : State} (i : ℕ) (s : SessionState) (view : ViewSeen) → a.sessions i ≡ Some s → Does w a (orders.View i view) (DidView i) (posting (seated a i (Some (with_view view s))) i (Some (posted_by w view)))
  -- it makes one step
  DoesStep : {a : State} (i : ℕ) (s : SessionState) (view : ViewSeen) → a.sessions i ≡ Some s → s.view ≡ Some view → Does w a (orders.Step i) (DidStep i (step_by w.mesh a.chain.epochs s).did) (seated a i (Some (step_by w.mesh a.chain.epochs s).state))
  -- it makes steps until its round is done, which is printed
  DoesFrame : {a : State} (i : ℕ) (s t : SessionState) (view : ViewSeen) (tries : List (ℕ × ℕ)) (done : HasDone t) → a.sessions i ≡ Some s → s.view ≡ Some view → Finishes w.mesh true a.chain.epochs s tries t
      → Does w a (orders.Frame i) (DidFrame (frame_of a.chain.tiers i t done.round)) (seated a i (Some (printed_once t)))
  -- it gives back all that it uses
  DoesFree : {a : State} (i unlocks : ℕ) (s t : SessionState) → a.sessions i ≡ Some s → FreesAll s unlocks t → Does w a (orders.Free i) (DidFree i unlocks) (seated a i (Some t))
  -- it does so, its view is taken off, and it ends
  DoesClose : {a : State} (i unlocks : ℕ) (s t : SessionState) → a.sessions i ≡ Some s → FreesAll s unlocks t → Does w a (orders.Close i) (DidClose i unlocks) (seated (taken_off a i) i None)
  -- a tier makes one turn
  DoesTurn : {a b : State} (k : ℕ) (answer : Turn) → TurnsTo w k a answer b → Does w a (orders.Turn k) (DidTurns ((k, answer) ∷ [])) b
  -- all tiers settle
  DoesSettle : {a b : State} {log : List (ℕ × Turn)} → SettlesTo w (length w.budgets) a log b → Does w a orders.Settle (DidTurns log) b
  -- what the tiers hold is told
  DoesStatus : {a : State} → Does w a orders.Status (DidTell (map tier_status a.chain.tiers)) a

-- lines do this, one after another
pub data Runs (w : World) : State → List Order → List Did → State → Type 0 where
  NoLine : {a : State} → Runs w a [] [] a
  OneLine : {a b c : State} {order : Order} {orders : List Order} {did : Did} {dids : List Did} → Does w a order did b → Runs w b orders dids c → Runs w a (order ∷ orders) (did ∷ dids) c
