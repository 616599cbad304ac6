-- Frames of rounds that are done: the top tier holds their patches, and their texts are those of lines.
use Rattle.std.proofs.Common.{◌≡◌, ℕ, ◌+◌, ◌-◌, ◌<◌, true, List, [], ◌∷◌, ◌++◌, length, map, get_or, take, Option, Some, None, refl, sym, ap, subst, ◌∙◌, arith}
use Rattle.std.specs.Prelude.{slice_get, slice_index_or, IfSome, MatchOption, All}
use Rattle.std.specs.Option.{option_map_or, unwrap_or}
use Rattle.std.proofs.lemmas.List.{length-map, length-set, map-append, take_more}
use Rattle.std.proofs.lemmas.List.Elements.{All-head, All-tail}
use Rattle.std.proofs.lemmas.Option.{slice_get-get_or, slice_get_within}
use Rattle.file_model.specs.declared.fields.PatchField.{PatchField}
use Rattle.file_model.specs.declared.fields.Try.{Try}
use Rattle.file_model.specs.Lists.{SeenBody, body_size, no_body}
use Rattle.round_model.specs.Refiners.{Refining, cut_of, cut_patches}
use Rattle.round_laws.specs.Among.{is_among, among_at}
use Rattle.script_model.specs.declared.orders.Order.TheVariants as orders
use Rattle.session_model.specs.Sessions.{SessionState}
use Rattle.text_model.specs.FrameText.{Frame, IsFrameText}
use Rattle.tier_model.specs.Tiers.{TierState}
use Rattle.tier_laws.specs.BodyLaws.{body_is_there}
use Rattle.token_words.specs.Changes.{SetAt, Stays}
use Rattle.token_words.specs.declared.entries.Entry.{Entry}
use Rattle.token_words.specs.declared.session_sets.TheConstants.{SESSIONS}
use Rattle.wish_board.specs.Boards.{BoardSeen}
use Rattle.cache_chain.specs.ChainStates.{ChainSeen}
use Rattle.frame_writer.specs.Frames.{AreBodiesOf, AddsFrame}
use Rattle.frame_writer.specs.Frames.{frame_of as text_frame}
use Rattle.run_model.specs.Worlds.{World, patch_count}
use Rattle.run_model.specs.States.{State}
use Rattle.run_model.specs.Safe.{IsSafe}
use Rattle.run_model.specs.Lines.{DidFrame, Does, top_body, frame_of, frame_with}
use Rattle.run_laws.specs.PrintedFrames.{frame_held}
use Rattle.session_seats.specs.Orders.{FinishesRound}
use Rattle.session_seats.specs.Seats.{SeatsSeen, IsDoneAt, seat_told}
use Rattle.session_model.specs.Told.{SessionTold, one_frame_more}
use Rattle.view_machine.specs.Machines.{MachineSeen, world_of, run_state, state_in, KeepsPlace}
use Rattle.view_machine.specs.LineTells.{DoesLine}

-- ---- what the top tier holds

-- the top tier holds the patch, which is one of the fields', with a body of it
pub record IsAtTop (fields : List PatchField) (tiers : List TierState) (p : ℕ) : Type 0 where
  pub within : p < length fields
  pub top : TierState
  pub is_top : slice_get tiers 0 ≡ Some top
  pub body : SeenBody
  pub holds : slice_get top.held p ≡ Some (Some body)
  pub of_patch : body.patch ≡ p

module _ (fields : List PatchField) (tiers : List TierState) (p : ℕ) (is : IsAtTop fields tiers p) where
  top_is : top_body tiers p ≡ is.body
  top_is =
      ap (λ (o : Option TierState). option_map_or (λ (top : TierState). unwrap_or (slice_index_or top.held p None) no_body) o no_body) is.is_top
      ∙ ap (λ (o : Option SeenBody). unwrap_or o no_body) (body_is_there is.top.held p is.body is.holds)

  pub top_patch : (top_body tiers p).patch ≡ p
  top_patch = ap (λ (body : SeenBody). body.patch) top_is ∙ is.of_patch

  module _ {X : Type 0} (value : X → SeenBody) (result : Option X) (gives : IfSome (slice_get tiers 0) (λ (top : TierState). MatchOption result (slice_get top.held p ≡ Some None) (λ (x : X). slice_get top.held p ≡ Some (Some (value x))))) where
    here : MatchOption result (slice_get is.top.held p ≡ Some None) (λ (x : X). slice_get is.top.held p ≡ Some (Some (value x)))
    here = subst (λ (o : Option TierState). IfSome o (λ (top : TierState). MatchOption result (slice_get top.held p ≡ Some None) (λ (x : X). slice_get top.held p ≡ Some (Some (value x))))) is.is_top gives

    pub body_not_missing : result ≡ None → ⊥
    body_not_missing missing =
        let none : slice_get is.top.held p ≡ Some None = subst (λ (o : Option X). MatchOption o (slice_get is.top.held p ≡ Some None) (λ (x : X). slice_get is.top.held p ≡ Some (Some (value x)))) missing here in
        let holds = is.holds in
        cc

    pub body_found : (x : X) → result ≡ Some x → value x ≡ top_body tiers p
    body_found x found =
        let some : slice_get is.top.held p ≡ Some (Some (value x)) = subst (λ (o : Option X). MatchOption o (slice_get is.top.held p ≡ Some None) (λ (y : X). slice_get is.top.held p ≡ Some (Some (value y)))) found here in
        let holds = is.holds in
        let same : value x ≡ is.body = cc in
        same ∙ sym top_is

-- the bodies are of the patches
pub bodies_of_patches : (fields : List PatchField) (tiers : List TierState) (patches : List ℕ) → All (IsAtTop fields tiers) patches → AreBodiesOf patches (map (top_body tiers) patches)
bodies_of_patches fields tiers [] are = refl
bodies_of_patches fields tiers (p ∷ ps) are =
    ap (λ (q : ℕ). q ∷ map (λ (body : SeenBody). body.patch) (map (top_body tiers) ps)) (top_patch fields tiers p (All-head (IsAtTop fields tiers) p ps are))
    ∙ ap (λ (qs : List ℕ). p ∷ qs) (bodies_of_patches fields tiers ps (All-tail (IsAtTop fields tiers) p ps are))

-- one body more
pub one_body_more : {X : Type 0} (value : X → SeenBody) (tiers : List TierState) (patches : List ℕ) (i d : ℕ) (bodies now : List X) (body : X) → i < length patches → map value bodies ≡ map (top_body tiers) (take i patches) → value body ≡ top_body tiers (get_or patches i d)
    → now ≡ bodies ++ body ∷ [] → map value now ≡ map (top_body tiers) (take (i + 1) patches)
one_body_more value tiers patches i d bodies now body within before is more =
    ap (map value) more ∙ map-append value bodies (body ∷ [])
    ∙ ap (λ (xs : List SeenBody). xs ++ value body ∷ []) before ∙ ap (λ (x : SeenBody). map (top_body tiers) (take i patches) ++ x ∷ []) is
    ∙ sym (ap (map (top_body tiers)) (take_more patches i d within) ∙ map-append (top_body tiers) (take i patches) (get_or patches i d ∷ []))

-- ---- in a safe state the top tier holds each patch of a round's frame

module _ (w : World) (a : State) (safe : IsSafe w a) (i : ℕ) (s : SessionState) (at : a.sessions i ≡ Some s) (r : Refining) (there : s.round ≡ Some r) where
  patch_at_top : (p : ℕ) → is_among (cut_patches r) p ≡ true → IsAtTop w.mesh.index.fields a.chain.tiers p
  patch_at_top p among =
      let held = frame_held w a safe i s at r there p among in
      let tier = safe.tiers 0 held.top held.is_top in
      let made = (safe.set_up 0 held.top held.is_top).made in
      let below : p < length held.top.held = slice_get_within held.top.held p (Some held.body) held.holds in
      let many : length held.top.held ≡ patch_count w = tier.sized.held ∙ ap length made.sizes ∙ length-map w.mesh.index.fields (body_size w.mesh.index.version) in
      record {
        within = omega (arith, below, many);
        top = held.top;
        is_top = held.is_top;
        body = held.body;
        holds = held.holds;
        of_patch = held.of_file.of_patch.patch;
      }

  pub patches_at_top : All (IsAtTop w.mesh.index.fields a.chain.tiers) (cut_patches r)
  patches_at_top k d within = patch_at_top (slice_index_or (cut_patches r) k d) (among_at (cut_patches r) k (slice_index_or (cut_patches r) k d) (slice_get-get_or (cut_patches r) k d within))

-- ---- the text

pub round_frame : (tiers : List TierState) (i : ℕ) (s : SessionState) (r : Refining) (number : ℕ) (cut : List ℕ) (tries : List Try) (patches : List ℕ) (bodies : List SeenBody) → number ≡ s.frames + 1 → cut ≡ cut_of r → tries ≡ r.tries → patches ≡ cut_patches r → bodies ≡ map (top_body tiers) (cut_patches r)
    → text_frame i number cut tries patches bodies ≡ frame_of tiers i s r
unfolding frame_of frame_with
round_frame tiers i s r number cut tries patches bodies number_is cut_is tries_are patches_are bodies_are = rw (number_is, cut_is, tries_are, patches_are, bodies_are) refl

-- a frame's text that was appended to nothing
pub first_frame : (before after : List ℕ) (frame shown : Frame) → before ≡ [] → frame ≡ shown → AddsFrame before after frame → IsFrameText shown after
first_frame before after frame shown none same adds =
    subst (λ (f : Frame). IsFrameText f after) same
    (subst (IsFrameText frame) (sym (adds.adds.is ∙ ap (λ (text : List ℕ). text ++ adds.text) none)) adds.is_text)

-- ---- the line

-- the machine runs in the same place after two calls
pub place_then : {S : Type 0} (old mid new : MachineSeen S) → KeepsPlace old mid → KeepsPlace mid new → KeepsPlace old new
place_then old mid new first then = record {
  world = then.world ∙ first.world;
  mesh = then.mesh ∙ first.mesh;
  file = then.file ∙ first.file;
  bytes = then.bytes ∙ first.bytes;
  lender = then.lender ∙ first.lender;
}

-- a finished round is done, and wasn't printed yet
pub finished_done : (i : ℕ) (words : List Entry) (old : SeatsSeen) (words_now : List Entry) (now : SeatsSeen) → FinishesRound i words old words_now now → IsDoneAt now.sessions i
finished_done i words old words_now now round = record { session = round.last; at = round.is; done = round.done }

pub finished_many : (i : ℕ) (words : List Entry) (old : SeatsSeen) (words_now : List Entry) (now : SeatsSeen) → FinishesRound i words old words_now now → length now.sessions ≡ SESSIONS
finished_many i words old words_now now round = ap length round.changes.seats ∙ length-set old.sessions (i - 1) (Some round.last) ∙ round.seats

-- what is told of a session after its round was finished and printed
pub told_then : (old mid new : List (Option SessionState)) (i : ℕ) → Stays (seat_told old) (seat_told mid) → ((told : SessionTold) → seat_told mid i ≡ Some told → SetAt (seat_told mid) i (Some (one_frame_more told)) (seat_told new))
    → (told : SessionTold) → seat_told old i ≡ Some told → SetAt (seat_told old) i (Some (one_frame_more told)) (seat_told new)
told_then old mid new i stays prints told tells =
    let sets = prints told (stays i ∙ tells) in
    record { here = sets.here; others = λ j ne. sets.others j ne ∙ stays j }

-- the round was finished, its text was made, and it was printed
pub frame_line : {S : Type 0} (old mid new : MachineSeen S) (i : ℕ) (text : List ℕ) → KeepsPlace old mid → mid.board ≡ old.board → mid.chain ≡ old.chain → (round : FinishesRound i old.words old.seats mid.words mid.seats)
    → Does (world_of mid) (state_in mid.chain.tiers old.words old.seats mid.board) (orders.Frame i) (DidFrame (frame_of mid.chain.tiers i round.last round.done.round)) (run_state new)
    → IsFrameText (frame_of mid.chain.tiers i round.last round.done.round) text
    → DoesLine (world_of old) (orders.Frame i) (run_state old) (run_state new) text
frame_line {S = S} old mid new i text place board chain round does is = record {
  did = DidFrame (frame_of mid.chain.tiers i round.last round.done.round);
  does =
      subst (λ (w : World). Does w (run_state old) (orders.Frame i) (DidFrame (frame_of mid.chain.tiers i round.last round.done.round)) (run_state new)) place.world
      (subst (λ (a : State). Does (world_of mid) a (orders.Frame i) (DidFrame (frame_of mid.chain.tiers i round.last round.done.round)) (run_state new)) start does);
  is = is;
}
  where
    start : state_in mid.chain.tiers old.words old.seats mid.board ≡ run_state old
    start = ap (λ (b : BoardSeen). state_in mid.chain.tiers old.words old.seats b) board ∙ ap (λ (tiers : List TierState). state_in tiers old.words old.seats old.board) (ap (λ (c : ChainSeen S). c.tiers) chain)
