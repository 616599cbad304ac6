-- Each frame that a served session prints shows a whole round of its view.
use Rattle.std.proofs.Common.{◌≡◌, ℕ, suc, ◌+◌, Bool, true, false, cond, List, [], ◌∷◌, ◌++◌, Option, Some, None, refl, sym, ap, subst, ◌∙◌, arith}
use Rattle.std.specs.Prelude.{slice_get, IfSome}
use Rattle.std.specs.List.{AllZip, flat_map}
use Rattle.std.proofs.lemmas.Option.{same_Some}
use Rattle.grid_vertex.specs.declared.triangles.Triangle.{Triangle}
use Rattle.file_model.specs.declared.fields.PatchField.{PatchField}
use Rattle.file_model.specs.declared.fields.Try.{Try}
use Rattle.file_model.specs.Lists.{BodyLists, SeenBody, triangles_of}
use Rattle.mesh_model.specs.Graph.{patches_from}
use Rattle.mesh_model.specs.Frames.{triangles_where, leads_out}
use Rattle.mesh_model.specs.Meshes.{IsMesh}
use Rattle.mesh_model.specs.Nets.{net}
use Rattle.round_model.specs.declared.asks.Ask.TheVariants.{Done as NothingAsked}
use Rattle.round_model.specs.Order.{Rules}
use Rattle.round_model.specs.Rounds.{has, epochs_of}
use Rattle.round_model.specs.Refiners.{Refining, round_state, pending_ask, cut_of, cut_patches}
use Rattle.round_model.specs.Views.{ViewSeen, rules_of, view_rules}
use Rattle.round_laws.specs.Cuts.{round_is_cut, round_boundary}
use Rattle.script_model.specs.declared.orders.Order.{Order}
use Rattle.session_model.specs.GoingRounds.{IsRefining}
use Rattle.session_model.specs.Sessions.{SessionState}
use Rattle.session_model.specs.SessionStates.{IsSessionState}
use Rattle.session_model.specs.DoneRounds.{HasDone}
use Rattle.session_laws.specs.WholeLaws.{round_is_whole}
use Rattle.session_laws.specs.FinishLaws.{finished}
use Rattle.session_laws.specs.ToldLaws.{told_finishes}
use Rattle.text_model.specs.FrameText.{Frame}
use Rattle.run_model.specs.Worlds.{World, IsFileBody}
use Rattle.run_model.specs.Lines.{Did, frame_with}
use Rattle.run_laws.specs.PrintedFrames.{told_file, IsTold, ShowsRound, IfFrame, none_left}
use Rattle.serve_model.specs.ServedFrames.{IsServedFrame}
use Rattle.serve_model.specs.ServedLines.{no_epochs, Serves, ServesOpen, ServesView, ServesFrame, ServesFree, ServesClose, ServesAll, NoOrder, OneOrder}
use Rattle.serve_laws.specs.ServedSeats.{IsSeat, serves_keep}

-- ---- the triangles of bodies that are told

-- what is told of each patch from `first` on are the bodies of the list
abbrev TellsFrom : ℕ → (ℕ → Option BodyLists) → List BodyLists → Type 0
TellsFrom first told bodies = (k : ℕ) → told (first + k) ≡ slice_get bodies k

later_told : (first : ℕ) (told : ℕ → Option BodyLists) (b : BodyLists) (bodies : List BodyLists)
    → TellsFrom first told (b ∷ bodies) → TellsFrom (first + 1) told bodies
later_told first told b bodies are k = let number : first + 1 + k ≡ first + suc k = omega arith in ap told number
    ∙ are (suc k)

none_told : (first : ℕ) (told : ℕ → Option BodyLists) → TellsFrom first told [] → TellsFrom (first + 1) told []
none_told first told are k = let number : first + 1 + k ≡ first + suc k = omega arith in ap told number ∙ are (suc k)

first_told : (first : ℕ) (told : ℕ → Option BodyLists) (bodies : List BodyLists) → TellsFrom first told bodies
    → told first ≡ slice_get bodies 0
first_told first told bodies are = let number : first ≡ first + 0 = omega arith in ap told number ∙ are 0

-- the body is what is told of its patch
abbrev IsToldBody : (ℕ → Option BodyLists) → ℕ → SeenBody → Type 0
IsToldBody told p body = told p ≡ Some body.lists

module _ (told : ℕ → Option BodyLists) (test : PatchField → Bool) where
  abbrev Shows : ℕ → List PatchField → List BodyLists → List SeenBody → Type 0
  Shows first fields bodies seen = flat_map
      (λ (body : SeenBody). triangles_of body.lists) seen ≡ triangles_where test fields bodies

  -- the body of a patch that passes, before the others
  one_shown : (first : ℕ) (patches : List ℕ) (fields : List PatchField) (bodies : List BodyLists) (b : BodyLists)
      (seen : List SeenBody) → told first ≡ Some b → AllZip (IsToldBody told) (first ∷ patches) seen
      → ((others : List SeenBody) → AllZip (IsToldBody told) patches others
      → flat_map (λ (body : SeenBody). triangles_of body.lists) others ≡ triangles_where test fields bodies)
      → flat_map (λ (body : SeenBody). triangles_of body.lists) seen ≡ triangles_of b
      ++ triangles_where test fields bodies
  one_shown first patches fields bodies b [] is are rest = absurd are
  one_shown first patches fields bodies b (body ∷ seen) is are rest =
      let same : body.lists ≡ b = same_Some body.lists b (sym are.0 ∙ is) in
      ap (λ (lists : BodyLists). triangles_of lists ++ flat_map (λ (s : SeenBody). triangles_of s.lists) seen) same
      ∙ ap (λ (ts : List Triangle). triangles_of b ++ ts) (rest seen are.1)

  -- no patch that passes is told
  none_passes : (first : ℕ) (patches : List ℕ) (seen : List SeenBody) {A : Type 0} → told first ≡ None
      → AllZip (IsToldBody told) (first ∷ patches) seen → A
  none_passes first patches [] is are = absurd are
  none_passes first patches (body ∷ seen) is are = absurd (let never : None ≡ Some body.lists = sym is ∙ are.0 in cc)

  told_triangles : (first : ℕ) (fields : List PatchField) (bodies : List BodyLists) (seen : List SeenBody)
      → TellsFrom first told bodies → AllZip (IsToldBody told) (patches_from first test fields) seen
      → Shows first fields bodies seen
  unfolding patches_from triangles_where
  told_triangles first [] bodies [] tells are = refl
  told_triangles first [] bodies (body ∷ seen) tells are = absurd are
  told_triangles first (f ∷ fs) [] seen tells are =
      by_test (test f) (λ zipped. told_triangles (first + 1) fs [] seen (none_told first told tells) zipped
      ∙ none_left test fs) are
    where
      by_test : (passes : Bool) → (AllZip (IsToldBody told) (patches_from (first + 1) test fs) seen
          → flat_map (λ (body : SeenBody). triangles_of body.lists) seen ≡ [])
          → AllZip (IsToldBody told) (cond passes (first ∷ patches_from (first + 1) test fs)
          (patches_from (first + 1) test fs)) seen → flat_map (λ
          (body : SeenBody). triangles_of body.lists) seen ≡ []
      by_test true rest zipped = none_passes first (patches_from (first + 1) test fs) seen
          (first_told first told [] tells) zipped
      by_test false rest zipped = rest zipped
  told_triangles first (f ∷ fs) (b ∷ bs) seen tells are =
      by_test (test f) (λ others zipped. told_triangles (first + 1) fs bs others
      (later_told first told b bs tells) zipped) are
    where
      by_test : (passes : Bool) → ((others : List SeenBody)
          → AllZip (IsToldBody told) (patches_from (first + 1) test fs) others
          → flat_map (λ (body : SeenBody). triangles_of body.lists) others ≡ triangles_where test fs bs)
          → AllZip (IsToldBody told) (cond passes (first ∷ patches_from (first + 1) test fs)
          (patches_from (first + 1) test fs)) seen
          → flat_map (λ (body : SeenBody). triangles_of body.lists) seen ≡ cond passes (triangles_of b
          ++ triangles_where test fs bs) (triangles_where test fs bs)
      by_test true rest zipped = one_shown first (patches_from (first + 1) test fs) fs bs b seen
          (first_told first told (b ∷ bs) tells) zipped rest
      by_test false rest zipped = rest seen zipped

-- ---- a round that is done

zip_by : (R S : ℕ → SeenBody → Type 0) → ((p : ℕ) (body : SeenBody) → R p body → S p body)
    → (ps : List ℕ) (bodies : List SeenBody) → AllZip R ps bodies → AllZip S ps bodies
zip_by R S leads [] [] are = tt
zip_by R S leads [] (b ∷ bs) are = absurd are
zip_by R S leads (p ∷ ps) [] are = absurd are
zip_by R S leads (p ∷ ps) (b ∷ bs) are = (leads p b are.0, zip_by R S leads ps bs are.1)

module _ (w : World) (bodies : List BodyLists) (is_told : IsTold w bodies) where
  file_lists : (p : ℕ) (body : SeenBody) → IsFileBody w p body → slice_get bodies p ≡ Some body.lists
  file_lists p body is = subst (λ (o : Option (List BodyLists)). IfSome o
      (λ bs. slice_get bs p ≡ Some body.lists)) is_told.told is.told

  module _ (view : ViewSeen) (tries : List Try) (owed : List ℕ) where
    abbrev round : Refining
    round = record { rules = view_rules view w.mesh; tries = tries; owed = owed }

    abbrev in_cut : ℕ → Bool
    in_cut = has (round_state round).set

    shows_round : (i : ℕ) (t : SessionState) → IsRefining round → pending_ask round ≡ NothingAsked
        → (seen : List SeenBody) → AllZip (IsFileBody w) (cut_patches round) seen
        → ShowsRound (told_file w bodies) (view_rules view w.mesh) (frame_with seen i t round)
    unfolding rules_of frame_with cut_of cut_patches
    shows_round i t refining done seen are =
        let told : ℕ → Option BodyLists = λ p. slice_get bodies p in
        let zipped = zip_by (IsFileBody w) (IsToldBody told) file_lists (cut_patches round) seen are in
        let triangles = told_triangles told (leads_out in_cut) 0 w.mesh.index.fields bodies seen
        (λ k. let number : 0 + k ≡ k = omega arith in ap told number) zipped in
        record {
          epochs = epochs_of tries;
          whole = round_is_whole round refining done;
          tries = sym refining.tries;
          shows = record {
            cut = round_is_cut (view_rules view w.mesh) refining.mesh (epochs_of tries);
            nodes = refl;
            patches = refl;
            triangles = triangles;
            boundary = λ a b. ap (λ (ts : List Triangle). net ts a b) triangles
                ∙ round_boundary (view_rules view w.mesh) (told_file w bodies)
                (epochs_of tries) refining.mesh is_told.accepted refl a b;
          };
        }

  shows_done : (i : ℕ) (t : SessionState) (view : ViewSeen) → IsSessionState w.mesh t → t.view ≡ Some view
      → (done : HasDone t) (frame : Frame) → IsServedFrame w i t done.round frame
      → ShowsRound (told_file w bodies) (view_rules view w.mesh) frame
  shows_done i t view is viewed done frame served =
      let r = done.round in
      let running = is.running r done.there in
      let same : running.view ≡ view = same_Some running.view view (sym running.viewed ∙ viewed) in
      let rules : r.rules ≡ view_rules view w.mesh = running.rules ∙ ap (λ (v : ViewSeen). view_rules v w.mesh) same in
      let is_round : r ≡ round view r.tries r.owed = ap (λ (rs : Rules). record r { rules = rs }) rules in
      subst (ShowsRound (told_file w bodies) (view_rules view w.mesh)) (sym (served.is
      ∙ ap (frame_with served.bodies i t) is_round))
      (shows_round view r.tries r.owed i t (subst IsRefining is_round running.refining)
      (subst (λ (q : Refining). pending_ask q ≡ NothingAsked) is_round done.done) served.bodies
      (subst (λ (q : Refining). AllZip (IsFileBody w) (cut_patches q) served.bodies) is_round served.of_file))

-- ---- along lines

-- the frame is of a whole round of the view that the session has here: it shows the round's cut of the file
pub record IsShown (w : World) (bodies : List BodyLists) (a : Option SessionState) (frame : Frame) : Type 0 where
  pub s : SessionState
  pub at : a ≡ Some s
  pub view : ViewSeen
  pub viewed : s.view ≡ Some view
  pub shows : ShowsRound (told_file w bodies) (view_rules view w.mesh) frame

pub serves_shows : (w : World) (bodies : List BodyLists) (a b : Option SessionState) (order : Order) (did : Did)
    → IsTold w bodies → IsMesh w.mesh → IsSeat w.mesh a → Serves w a order did b → IfFrame did (IsShown w bodies a)
serves_shows w bodies _ _ _ _ is_told accepted is (ServesFrame i s t view frame done viewed finishes served) =
    let has = finished w.mesh accepted false no_epochs s is view viewed _ t finishes in
    let kept : t.view ≡ Some view = ap (λ told. told.view) (told_finishes w.mesh false no_epochs s _ t finishes)
    ∙ viewed in
    record {
      s = s;
      at = refl;
      view = view;
      viewed = viewed;
      shows =
          shows_done w bodies is_told i t view has.is kept done frame served;
    }
serves_shows w bodies _ _ _ _ is_told accepted is (ServesOpen i) = tt
serves_shows w bodies _ _ _ _ is_told accepted is (ServesView i s view) = tt
serves_shows w bodies _ _ _ _ is_told accepted is (ServesFree i unlocks s t frees) = tt
serves_shows w bodies _ _ _ _ is_told accepted is (ServesClose i unlocks s t frees) = tt

-- each frame that orders print is shown so where its order begins
abbrev pub ShowsAlong : (w : World) (bodies : List BodyLists) (a b : Option SessionState) (orders : List Order)
    (dids : List Did) → ServesAll w a orders dids b → Type 0
ShowsAlong w bodies a b _ _ NoOrder = Unit {0}
ShowsAlong w bodies a c _ _ (OneOrder {b = b} {orders = orders} {did = did} {dids = dids} serves rest) = IfFrame did
    (IsShown w bodies a) × ShowsAlong w bodies b c orders dids rest

pub shows_along : (w : World) (bodies : List BodyLists) (a b : Option SessionState) (orders : List Order)
    (dids : List Did) → IsTold w bodies → IsMesh w.mesh → IsSeat w.mesh a → (serves : ServesAll w a orders dids b)
    → ShowsAlong w bodies a b orders dids serves
shows_along w bodies a b _ _ is_told accepted is NoOrder = tt
shows_along w bodies a c _ _ is_told accepted is
    (OneOrder {b = b} {order = order} {orders = orders} {did = did} {dids = dids} serves rest) = (
      serves_shows w bodies a b order did is_told accepted is serves,
      shows_along w bodies b c orders dids is_told
          accepted (serves_keep w a b order did accepted is serves) rest,
    )
