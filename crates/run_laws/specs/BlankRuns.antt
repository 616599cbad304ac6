-- What lines do doesn't depend on the bytes of bodies.
use Rattle.std.proofs.Common.{◌≡◌, ℕ, zero, suc, Bool, true, false, cond, is_some, List, [], ◌∷◌, ◌++◌, length, map, Option, Some, None, refl, sym, ap, ap₂, subst, ◌∙◌}
use Rattle.std.proofs.Math.Path.{fun_ext}
use Rattle.std.specs.Prelude.{slice_get, slice_index_or, MatchOption}
use Rattle.std.specs.List.{flat_map}
use Rattle.std.specs.Option.{option_map, option_map_or, unwrap_or}
use Rattle.std.proofs.lemmas.List.{map-set, length-replicate}
use Rattle.std.proofs.lemmas.Option.{slice_get-map}
use Rattle.grid_vertex.specs.declared.triangles.Triangle.{Triangle}
use Rattle.file_model.specs.Lists.{SeenBody, no_body, triangles_of}
use Rattle.round_model.specs.Refiners.{Refining, cut_patches}
use Rattle.script_model.specs.declared.orders.Order.{Order}
use Rattle.session_model.specs.Sessions.{SessionState}
use Rattle.text_model.specs.FrameText.{Frame}
use Rattle.tier_model.specs.declared.turns.Turn.{Turn}
use Rattle.tier_model.specs.declared.turns.Turn.TheVariants.{Reserve, Evict, Kept, Got, Lost, Fault, Changed, Commit, Idle}
use Rattle.tier_model.specs.Tiers.{TierState, is_held}
use Rattle.tier_model.specs.Choices.{Told}
use Rattle.tier_model.specs.Turns.{Fetched, Came, Failed, Broken, Outcome, paired, leaving, begun, turn_of}
use Rattle.tier_model.specs.Chains.{Chain, has_below, is_top, told_at, epochs_then}
use Rattle.run_model.specs.Worlds.{World, IsFileBody}
use Rattle.run_model.specs.States.{State, board_of, seated, posting, moved}
use Rattle.run_model.specs.Turning.{GivesHeld, GivesStored, GivesBelow, IfFetched, uses_of, found_by, turn_at, TurnsTo}
use Rattle.run_model.specs.Lines.{TierStatus, tier_status, Did, DidFrame, DidTell, top_body, frame_of, frame_with, IdlesTo, LastTurn, MoreTurns, SettlesTo, AllSettled, TierSettles, Does, DoesOpen, DoesView, DoesStep, DoesFrame, DoesFree, DoesClose, DoesTurn, DoesSettle, DoesStatus}
use Rattle.run_laws.specs.BlankTiers.{blank_body, blank, blank_fetched, blank_at, blank_held, blank_load, blank_count, blank_leaving, blank_begun, blank_turns, blank_tiers_twice}

-- the state with bodies without their bytes
unfoldable pub blank_state : State → State
blank_state a = record a { chain = record { tiers = map blank a.chain.tiers; epochs = a.chain.epochs } }

abbrev pub chain_with : (ℕ → ℕ) → List TierState → Chain
chain_with epochs tiers = record { tiers = tiers; epochs = epochs }

pub blank_state_twice : (a : State) → blank_state (blank_state a) ≡ blank_state a
unfolding blank_state
blank_state_twice a = ap (λ (tiers : List TierState). record a { chain = chain_with a.chain.epochs tiers }) (blank_tiers_twice a.chain.tiers)

pub blank_many : (a : State) → length (blank_state a).chain.tiers ≡ length a.chain.tiers
unfolding blank_state
blank_many a = many a.chain.tiers
  where
    many : (tiers : List TierState) → length (map blank tiers) ≡ length tiers
    many [] = refl
    many (t ∷ ts) = ap suc (many ts)

pub blank_moved : (a : State) (k : ℕ) (answer : Turn) (after : TierState) → blank_state (moved a k answer after) ≡ moved (blank_state a) k answer (blank after)
unfolding blank_state moved
blank_moved a k answer after = ap (λ (tiers : List TierState). record a { chain = chain_with (epochs_then k answer a.chain.epochs) tiers }) (map-set blank a.chain.tiers k after)

-- ---- what lies outside a tier

blank_tier : (tiers : List TierState) (k : ℕ) (t : TierState) → slice_get tiers k ≡ Some t → slice_get (map blank tiers) k ≡ Some (blank t)
blank_tier tiers k t at = slice_get-map blank tiers k ∙ ap (option_map blank) at

blank_below : (tiers : List TierState) (k p : ℕ) → has_below (map blank tiers) k p ≡ has_below tiers k p
unfolding has_below
blank_below tiers k p = ap (λ (o : Option TierState). option_map_or (λ (t : TierState). is_held t p) o true) (slice_get-map blank tiers (suc k)) ∙ by_tier (slice_get tiers (suc k))
  where
    by_tier : (o : Option TierState) → option_map_or (λ (t : TierState). is_held t p) (option_map blank o) true ≡ option_map_or (λ (t : TierState). is_held t p) o true
    by_tier None = refl
    by_tier (Some t) = blank_held t p

abbrev told_with : Bool → (ℕ → ℕ) → (ℕ → Bool) → Told
told_with top epochs has = record { has = has; top = top; epochs = epochs }

blank_told : (a : State) (k : ℕ) → told_at (blank_state a).chain k ≡ told_at a.chain k
unfolding blank_state
blank_told a k = ap (told_with (is_top k) a.chain.epochs) (fun_ext (blank_below a.chain.tiers k))

file_blank : (w : World) (p : ℕ) (body : SeenBody) → IsFileBody w p body → IsFileBody w p (blank_body body)
file_blank w p body is = record {
  of_patch = record { patch = is.of_patch.patch; size = length-replicate (length body.bytes) 0 ∙ is.of_patch.size };
  version = is.version;
  told = is.told;
}

stored_blank : (w : World) (p : ℕ) (fetched : Fetched) → GivesStored w p fetched → GivesStored w p (blank_fetched fetched)
stored_blank w p (Came body) given = file_blank w p body given
stored_blank w p Failed given = tt
stored_blank w p (Broken fault) given = tt

held_blank : (t : TierState) (p : ℕ) (fetched : Fetched) → GivesHeld t p fetched → GivesHeld (blank t) p (blank_fetched fetched)
unfolding blank
held_blank t p (Came body) given = slice_get-map (λ (o : Option SeenBody). option_map blank_body o) t.held p ∙ ap (option_map (λ (o : Option SeenBody). option_map blank_body o)) given
held_blank t p Failed given = absurd given
held_blank t p (Broken fault) given = absurd given

gives_blank : (w : World) (tiers : List TierState) (k p : ℕ) (fetched : Fetched) → GivesBelow w tiers k p fetched → GivesBelow w (map blank tiers) k p (blank_fetched fetched)
gives_blank w tiers k p fetched given =
    subst (λ (o : Option TierState). MatchOption o (GivesStored w p (blank_fetched fetched)) (λ (t : TierState). is_held t p ≡ true → GivesHeld t p (blank_fetched fetched))) (sym (slice_get-map blank tiers (suc k)))
    (by (slice_get tiers (suc k)) given)
  where
    by : (o : Option TierState) → MatchOption o (GivesStored w p fetched) (λ (t : TierState). is_held t p ≡ true → GivesHeld t p fetched)
        → MatchOption (option_map blank o) (GivesStored w p (blank_fetched fetched)) (λ (t : TierState). is_held t p ≡ true → GivesHeld t p (blank_fetched fetched))
    by None given = stored_blank w p fetched given
    by (Some t) given = λ held. held_blank t p fetched (given (sym (blank_held t p) ∙ held))

if_fetched_then : (P Q : ℕ → Type 0) (answer : Turn) → ((p : ℕ) → P p → Q p) → IfFetched answer P → IfFetched answer Q
if_fetched_then P Q (Got p) then is = then p is
if_fetched_then P Q (Fault p) then is = then p is
if_fetched_then P Q (Changed p fault) then is = then p is
if_fetched_then P Q (Reserve p) then is = tt
if_fetched_then P Q (Evict p) then is = tt
if_fetched_then P Q (Kept p uses) then is = tt
if_fetched_then P Q (Lost p) then is = tt
if_fetched_then P Q (Commit p) then is = tt
if_fetched_then P Q Idle then is = tt

-- ---- turns

abbrev found_with : Fetched → ℕ → Outcome
found_with fetched uses = record { fetched = fetched; uses = uses }

blank_turn_at : (w : World) (a : State) (k : ℕ) (t : TierState) (fetched : Fetched) (answer : Turn) (after : TierState) → paired answer after ≡ turn_at w a k t fetched → paired answer (blank after) ≡ turn_at w (blank_state a) k (blank t) (blank_fetched fetched)
unfolding found_by board_of blank_state
blank_turn_at w a k t fetched answer after is =
    let board = board_of w a in
    let told = told_at a.chain k in
    let uses : Told → ℕ = λ told. uses_of a.users (leaving told (begun board (blank t))) in
    let same : uses told ≡ uses_of a.users (leaving told (begun board t)) = ap (uses_of a.users) (ap (leaving told) (blank_begun board t) ∙ blank_leaving told (begun board t)) in
    blank_turns board told t fetched (uses_of a.users (leaving told (begun board t))) answer after is
    ∙ ap (λ (n : ℕ). turn_of board told (blank t) (found_with (blank_fetched fetched) n)) (sym same)
    ∙ ap (λ (x : Told). turn_of board x (blank t) (found_with (blank_fetched fetched) (uses x))) (sym (blank_told a k))

tiers_of_blank : (a : State) → (blank_state a).chain.tiers ≡ map blank a.chain.tiers
unfolding blank_state
tiers_of_blank a = refl

pub blank_turns_to : (w : World) (k : ℕ) (a b : State) (answer : Turn) → TurnsTo w k a answer b → TurnsTo w k (blank_state a) answer (blank_state b)
blank_turns_to w k a b answer turn = record {
  before = blank turn.before;
  was = ap (λ (tiers : List TierState). slice_get tiers k) (tiers_of_blank a) ∙ blank_tier a.chain.tiers k turn.before turn.was;
  fetched = blank_fetched turn.fetched;
  gives = if_fetched_then (λ p. GivesBelow w a.chain.tiers k p turn.fetched) (λ p. GivesBelow w (blank_state a).chain.tiers k p (blank_fetched turn.fetched)) answer
      (λ p given. subst (λ (tiers : List TierState). GivesBelow w tiers k p (blank_fetched turn.fetched)) (sym (tiers_of_blank a)) (gives_blank w a.chain.tiers k p turn.fetched given)) turn.gives;
  after = blank turn.after;
  turns = blank_turn_at w a k turn.before turn.fetched answer turn.after turn.turns;
  is = ap blank_state turn.is ∙ blank_moved a k answer turn.after;
}

blank_idles : (w : World) (k : ℕ) (a b : State) (log : List (ℕ × Turn)) → IdlesTo w k a log b → IdlesTo w k (blank_state a) log (blank_state b)
blank_idles w k a b _ (LastTurn turn) = LastTurn (blank_turns_to w k a b Idle turn)
blank_idles w k a c _ (MoreTurns {b = b} {log = log} answer on turn rest) = MoreTurns answer on (blank_turns_to w k a b answer turn) (blank_idles w k b c log rest)

pub blank_settles : (w : World) (n : ℕ) (a b : State) (log : List (ℕ × Turn)) → SettlesTo w n a log b → SettlesTo w n (blank_state a) log (blank_state b)
blank_settles w zero a b _ AllSettled = AllSettled
blank_settles w (suc n) a c _ (TierSettles {b = b} {log = log} {rest = rest} first later) = TierSettles (blank_idles w n a b log first) (blank_settles w n b c rest later)

-- ---- what is printed

blank_lists : (o : Option SeenBody) → (unwrap_or (option_map blank_body o) no_body).lists ≡ (unwrap_or o no_body).lists
blank_lists None = refl
blank_lists (Some body) = refl

blank_top : (tiers : List TierState) (p : ℕ) → (top_body (map blank tiers) p).lists ≡ (top_body tiers p).lists
unfolding blank
blank_top [] p = refl
blank_top (t ∷ ts) p = ap (λ (o : Option SeenBody). (unwrap_or o no_body).lists) (blank_at t.held p) ∙ blank_lists (slice_index_or t.held p None)

blank_triangles : (tiers : List TierState) (patches : List ℕ) → flat_map (λ (body : SeenBody). triangles_of body.lists) (map (top_body (map blank tiers)) patches) ≡ flat_map (λ (body : SeenBody). triangles_of body.lists) (map (top_body tiers) patches)
blank_triangles tiers [] = refl
blank_triangles tiers (p ∷ ps) = ap₂ (λ (xs ys : List Triangle). xs ++ ys) (ap triangles_of (blank_top tiers p)) (blank_triangles tiers ps)

blank_frame : (tiers : List TierState) (i : ℕ) (s : SessionState) (round : Refining) → frame_of (map blank tiers) i s round ≡ frame_of tiers i s round
unfolding frame_of frame_with
blank_frame tiers i s round = ap (λ (triangles : List Triangle). record (frame_of tiers i s round) { triangles = triangles }) (blank_triangles tiers (cut_patches round))

blank_tier_status : (t : TierState) → tier_status (blank t) ≡ tier_status t
unfolding blank
blank_tier_status t = ap₂ (λ (load held : ℕ). record (tier_status t) { load = load; held = held }) (blank_load t) (blank_count t.held)

blank_tell : (tiers : List TierState) → map tier_status (map blank tiers) ≡ map tier_status tiers
blank_tell [] = refl
blank_tell (t ∷ ts) = ap₂ (λ (u : TierStatus) (us : List TierStatus). u ∷ us) (blank_tier_status t) (blank_tell ts)

-- ---- lines

blank_closed : (a : State) (i : ℕ) (off : Bool) → blank_state (seated (cond off (posting a i None) a) i None) ≡ seated (cond off (posting (blank_state a) i None) (blank_state a)) i None
unfolding blank_state seated posting
blank_closed a i true = refl
blank_closed a i false = refl

pub blank_does : (w : World) (a b : State) (order : Order) (did : Did) → Does w a order did b → Does w (blank_state a) order did (blank_state b)
unfolding blank_state seated posting
blank_does w a b order did (DoesOpen i number closed) = DoesOpen i number closed
blank_does w a b order did (DoesView i s view at) = DoesView i s view at
blank_does w a b order did (DoesStep i s view at viewed) = DoesStep i s view at viewed
blank_does w a b order did (DoesFrame i s t view tries done at viewed finishes) =
    subst (λ (frame : Frame). Does w (blank_state a) order (DidFrame frame) (blank_state b)) (blank_frame a.chain.tiers i t done.round)
    (DoesFrame i s t view tries done at viewed finishes)
blank_does w a b order did (DoesFree i unlocks s t at frees) = DoesFree i unlocks s t at frees
blank_does w a b order did (DoesClose i unlocks s t at frees) =
    subst (Does w (blank_state a) order did) (sym (blank_closed a i (is_some (a.posted i)))) (DoesClose i unlocks s t at frees)
blank_does w a b order did (DoesTurn k answer turn) = DoesTurn k answer (blank_turns_to w k a b answer turn)
blank_does w a b order did (DoesSettle {log = log} settles) = DoesSettle (blank_settles w (length w.budgets) a b log settles)
blank_does w a b order did DoesStatus = subst (λ (tiers : List TierStatus). Does w (blank_state a) order (DidTell tiers) (blank_state a)) (blank_tell a.chain.tiers) DoesStatus
