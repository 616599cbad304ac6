-- The orders of a served session, with one list of tries, do one thing.
use Rattle.std.proofs.Common.{◌≡◌, ◌≢◌, ℕ, false, List, [], ◌∷◌, ◌++◌, Option, Some, refl, sym, ap, subst, ◌∙◌}
use Rattle.std.specs.Prelude.{slice_get, IfSome}
use Rattle.std.specs.List.{AllZip, flat_map}
use Rattle.std.proofs.lemmas.List.{append_assoc, append-nil, append_cancel_left}
use Rattle.std.proofs.lemmas.Option.{same_Some}
use Rattle.grid_vertex.specs.declared.triangles.Triangle.{Triangle}
use Rattle.file_model.specs.Lists.{BodyLists, SeenBody, triangles_of}
use Rattle.mesh_model.specs.Meshes.{MeshLists}
use Rattle.round_model.specs.Refiners.{Refining, cut_patches}
use Rattle.script_model.specs.declared.orders.Order.{Order}
use Rattle.session_model.specs.declared.steps.Stepped.{Stepped}
use Rattle.session_model.specs.declared.steps.Stepped.TheVariants.{Unlocked, Tried, Withdrew, GaveBack, Done}
use Rattle.session_model.specs.Sessions.{SessionState, printed_once}
use Rattle.session_model.specs.Steps.{SessionStep, stepped, step, try_pairs, IsOfEpochs}
use Rattle.session_model.specs.DoneRounds.{HasDone}
use Rattle.session_model.specs.Finishes.{Steps, NoStep, OneMore, Finishes, pairs_of}
use Rattle.text_model.specs.FrameText.{Frame}
use Rattle.run_model.specs.Worlds.{World, IsFileBody}
use Rattle.run_model.specs.Lines.{Did, DidFrame, DidFree, DidClose, frame_with}
use Rattle.run_laws.specs.SessionReach.{made_by}
use Rattle.run_laws.specs.OneSession.{frees_one}
use Rattle.serve_model.specs.ServedFrames.{IsServedFrame}
use Rattle.serve_model.specs.ServedLines.{no_epochs, Serves, ServesOpen, ServesView, ServesFrame, ServesFree, ServesClose, ServesAll, NoOrder, OneOrder, printed_tries, all_tries}

-- ---- steps, the first of them first

-- steps until one is done, with the tries among them
data Goes (mesh : MeshLists) : SessionState → List (ℕ × ℕ) → SessionState → Type 0 where
  Ends : (s t : SessionState) (epoch : ℕ) → stepped Done t ≡ step mesh s epoch → Goes mesh s [] t
  Ahead : (s u t : SessionState) (did : Stepped) (epoch : ℕ) (tries : List (ℕ × ℕ)) → stepped did u ≡ step mesh s epoch
      → did ≢ Done → Goes mesh u tries t → Goes mesh s (try_pairs did ++ tries) t

steps_go : (mesh : MeshLists) (s t end : SessionState) (tries more : List (ℕ × ℕ))
    → Steps mesh false no_epochs s tries t → Goes mesh t more end → Goes mesh s (tries ++ more) end
steps_go mesh s _ end _ more NoStep goes = goes
steps_go mesh s _ end _ more (OneMore tries t did epoch u steps same going answered) goes =
    subst (λ (l : List (ℕ × ℕ)). Goes mesh s l end) (sym (append_assoc tries (try_pairs did) more))
    (steps_go mesh s t end tries (try_pairs did ++ more) steps (Ahead t u end did epoch more same going goes))

finishes_goes : (mesh : MeshLists) (s t : SessionState) (tries : List (ℕ × ℕ)) → Finishes mesh false no_epochs s tries t
    → Goes mesh s tries t
finishes_goes mesh s t tries finishes =
    subst (λ (l : List (ℕ × ℕ)). Goes mesh s l t) (append-nil tries)
    (steps_go mesh s finishes.last t tries [] finishes.steps (Ends finishes.last t finishes.epoch finishes.done))

-- ---- two first steps

-- they were answered by one epoch, where both are tries
data AreAnswered : Stepped → Stepped → Type 0 where
  Answered : {did other : Stepped} (epoch : ℕ) → IsOfEpochs (λ p. epoch) did → IsOfEpochs (λ p. epoch) other
      → AreAnswered did other

answered : (did other : Stepped) (rest more : List (ℕ × ℕ)) → try_pairs did ++ rest ≡ try_pairs other ++ more
    → AreAnswered did other
answered (Tried p epoch) (Tried q other) rest more same = Answered epoch refl
    (let pair : (p, epoch) ∷ rest ≡ (q, other) ∷ more = same in let first : (p, epoch) ≡ (q, other) = cc in sym
    (ap (λ (x : ℕ × ℕ). x.1) first))
answered (Tried p epoch) (Unlocked q) rest more same = Answered epoch refl tt
answered (Tried p epoch) (Withdrew q) rest more same = Answered epoch refl tt
answered (Tried p epoch) (GaveBack q) rest more same = Answered epoch refl tt
answered (Tried p epoch) Done rest more same = Answered epoch refl tt
answered (Unlocked p) (Tried q other) rest more same = Answered other tt refl
answered (Withdrew p) (Tried q other) rest more same = Answered other tt refl
answered (GaveBack p) (Tried q other) rest more same = Answered other tt refl
answered Done (Tried q other) rest more same = Answered other tt refl
answered (Unlocked p) (Unlocked q) rest more same = Answered 0 tt tt
answered (Unlocked p) (Withdrew q) rest more same = Answered 0 tt tt
answered (Unlocked p) (GaveBack q) rest more same = Answered 0 tt tt
answered (Unlocked p) Done rest more same = Answered 0 tt tt
answered (Withdrew p) (Unlocked q) rest more same = Answered 0 tt tt
answered (Withdrew p) (Withdrew q) rest more same = Answered 0 tt tt
answered (Withdrew p) (GaveBack q) rest more same = Answered 0 tt tt
answered (Withdrew p) Done rest more same = Answered 0 tt tt
answered (GaveBack p) (Unlocked q) rest more same = Answered 0 tt tt
answered (GaveBack p) (Withdrew q) rest more same = Answered 0 tt tt
answered (GaveBack p) (GaveBack q) rest more same = Answered 0 tt tt
answered (GaveBack p) Done rest more same = Answered 0 tt tt
answered Done (Unlocked q) rest more same = Answered 0 tt tt
answered Done (Withdrew q) rest more same = Answered 0 tt tt
answered Done (GaveBack q) rest more same = Answered 0 tt tt
answered Done Done rest more same = Answered 0 tt tt

same_step : (mesh : MeshLists) (s u v : SessionState) (did other : Stepped) (epoch again : ℕ) → AreAnswered did other
    → stepped did u ≡ step mesh s epoch → stepped other v ≡ step mesh s again → stepped did u ≡ stepped other v
same_step mesh s u v did other epoch again (Answered e is also) first second = made_by mesh
    (λ p. e) s u did epoch first is ∙ sym (made_by mesh (λ p. e) s v other again second also)

-- two ends of one beginning, with what is left of their tries
record AreOne (tries more rest left : List (ℕ × ℕ)) (t u : SessionState) : Type 0 where
  made : tries ≡ more
  behind : rest ≡ left
  state : t ≡ u

goes_one : (mesh : MeshLists) (s t u : SessionState) (tries more rest left : List (ℕ × ℕ)) → Goes mesh s tries t
    → Goes mesh s more u → tries ++ rest ≡ more ++ left → AreOne tries more rest left t u
goes_one mesh s t u _ _ rest left (Ends _ _ epoch is) (Ends _ _ again also) same =
    let one = same_step mesh s t u Done Done epoch again (Answered 0 tt tt) is also in
    record { made = refl; behind = same; state = ap (λ (x : SessionStep). x.state) one }
goes_one mesh s t u _ _ rest left (Ends _ _ epoch is) (Ahead _ v _ other again more also going later) same =
    let one = same_step mesh s t v Done other epoch again (answered Done other rest (more ++ left) (same
    ∙ append_assoc (try_pairs other) more left)) is also in
    absurd (going (sym (ap (λ (x : SessionStep). x.did) one)))
goes_one mesh s t u _ _ rest left (Ahead _ v _ did epoch tries is going later) (Ends _ _ again also) same =
    let one = same_step mesh s v u did Done epoch again (answered did Done (tries
    ++ rest) left (sym (append_assoc (try_pairs did) tries rest) ∙ same)) is also in
    absurd (going (ap (λ (x : SessionStep). x.did) one))
goes_one mesh s t u _ _ rest left (Ahead _ v _ did epoch tries is going later)
    (Ahead _ x _ other again more also further behind) same =
    let whole : try_pairs did ++ (tries ++ rest) ≡ try_pairs other
    ++ (more ++ left) = sym (append_assoc (try_pairs did) tries rest) ∙ same
    ∙ append_assoc (try_pairs other) more left in
    let one = same_step mesh s v x did other epoch again (answered did other (tries ++ rest) (more
    ++ left) whole) is also in
    let answer : did ≡ other = ap (λ (y : SessionStep). y.did) one in
    let state : v ≡ x = ap (λ (y : SessionStep). y.state) one in
    let pairs = ap try_pairs answer in
    let cut : tries ++ rest ≡ more ++ left = append_cancel_left (try_pairs other) (tries ++ rest) (more
    ++ left) (sym (ap (λ (l : List (ℕ × ℕ)). l ++ (tries ++ rest)) pairs) ∙ whole) in
    let end = goes_one mesh x t u tries more rest left
    (subst (λ (y : SessionState). Goes mesh y tries t) state later) behind cut in
    record {
      made = ap (λ (l : List (ℕ × ℕ)). l ++ tries) pairs ∙ ap (λ (l : List (ℕ × ℕ)). try_pairs other ++ l) end.made;
      behind = end.behind;
      state = end.state;
    }

-- both lists are one, and so are the states behind them
pub record AllDoOne (dids others : List Did) (b c : Option SessionState) : Type 0 where
  pub dids_are : dids ≡ others
  pub state : b ≡ c

-- ---- frames of one round

module _ (w : World) (bodies : List BodyLists) (told : w.bodies ≡ Some bodies) where
  lists_of : (p : ℕ) (body : SeenBody) → IsFileBody w p body → slice_get bodies p ≡ Some body.lists
  lists_of p body is = subst (λ (o : Option (List BodyLists)). IfSome o
      (λ bs. slice_get bs p ≡ Some body.lists)) told is.told

  one_triangles : (patches : List ℕ) (seen also : List SeenBody) → AllZip (IsFileBody w) patches seen
      → AllZip (IsFileBody w) patches also
      → flat_map (λ (body : SeenBody). triangles_of body.lists) seen ≡ flat_map
      (λ (body : SeenBody). triangles_of body.lists) also
  one_triangles [] [] [] are too = refl
  one_triangles [] [] (c ∷ also) are too = absurd too
  one_triangles [] (b ∷ seen) also are too = absurd are
  one_triangles (p ∷ patches) [] also are too = absurd are
  one_triangles (p ∷ patches) (b ∷ seen) [] are too = absurd too
  one_triangles (p ∷ patches) (b ∷ seen) (c ∷ also) are too =
      let same : b.lists ≡ c.lists = same_Some b.lists c.lists (sym (lists_of p b are.0) ∙ lists_of p c too.0) in
      ap (λ (lists : BodyLists). triangles_of lists
      ++ flat_map (λ (body : SeenBody). triangles_of body.lists) seen) same
      ∙ ap (λ (ts : List Triangle). triangles_of c.lists ++ ts) (one_triangles patches seen also are.1 too.1)

  one_frame : (i : ℕ) (t : SessionState) (round : Refining) (frame other : Frame) → IsServedFrame w i t round frame
      → IsServedFrame w i t round other → frame ≡ other
  unfolding frame_with
  one_frame i t round frame other is also =
      is.is ∙ ap (λ (ts : List Triangle). record (frame_with [] i t round) { triangles = ts })
      (one_triangles (cut_patches round) is.bodies also.bodies is.of_file also.of_file) ∙ sym also.is

  one_round : (t : SessionState) (done also : HasDone t) → done.round ≡ also.round
  one_round t done also = same_Some done.round also.round (sym done.there ∙ also.there)

  -- ---- lines

  record DoOne (did other : Did) (rest left : List (ℕ × ℕ)) (b c : Option SessionState) : Type 0 where
    does : did ≡ other
    behind : rest ≡ left
    state : b ≡ c

  serves_one : (a b c : Option SessionState) (order : Order) (did other : Did) (rest left : List (ℕ × ℕ))
      → Serves w a order did b → Serves w a order other c → printed_tries did ++ rest ≡ printed_tries other ++ left
      → DoOne did other rest left b c
  serves_one _ _ _ _ _ _ rest left (ServesOpen i) (ServesOpen _) same =
      record { does = refl; behind = same; state = refl }
  serves_one _ _ _ _ _ _ rest left (ServesView i s view) (ServesView _ _ _) same =
      record { does = refl; behind = same; state = refl }
  serves_one _ _ _ _ _ _ rest left (ServesFrame i s t view frame done viewed finishes served)
      (ServesFrame _ _ u _ other also seen ends shown) same =
      let end = goes_one w.mesh s t u (pairs_of frame.tries) (pairs_of other.tries) rest left
      (finishes_goes w.mesh s t (pairs_of frame.tries) finishes)
      (finishes_goes w.mesh s u (pairs_of other.tries) ends) same in
      let frames = framed t u end.state done also served shown in
      record {
        does = ap (λ (f : Frame). DidFrame f) frames;
        behind = end.behind;
        state = ap
            (λ (x : SessionState). Some (printed_once x)) end.state;
      }
    where
      framed : (t u : SessionState) → t ≡ u → (done : HasDone t) (also : HasDone u)
          → IsServedFrame w i t done.round frame → IsServedFrame w i u also.round other → frame ≡ other
      framed t u state =
          subst (λ (x : SessionState). (done : HasDone t) (also : HasDone x) → IsServedFrame w i t done.round frame
          → IsServedFrame w i x also.round other → frame ≡ other) state
          (λ done also is too. one_frame i t done.round frame other is
          (subst (λ (r : Refining). IsServedFrame w i t r other) (sym (one_round t done also)) too))
  serves_one _ _ _ _ _ _ rest left (ServesFree i unlocks s t frees) (ServesFree _ more _ u ends) same =
      let end = frees_one s t u unlocks more frees ends in
      record {
        does = ap (λ (n : ℕ). DidFree i n) end.unlocks;
        behind = same;
        state = ap
            (λ (x : SessionState). Some x) end.state;
      }
  serves_one _ _ _ _ _ _ rest left (ServesClose i unlocks s t frees) (ServesClose _ more _ u ends) same =
      let end = frees_one s t u unlocks more frees ends in
      record { does = ap (λ (n : ℕ). DidClose i n) end.unlocks; behind = same; state = refl }

  pub serve_one : (a b c : Option SessionState) (orders : List Order) (dids others : List Did)
      → ServesAll w a orders dids b → ServesAll w a orders others c → all_tries dids ≡ all_tries others
      → AllDoOne dids others b c
  unfolding all_tries
  serve_one a _ _ _ _ _ NoOrder NoOrder same = record { dids_are = refl; state = refl }
  serve_one a b c _ _ _ (OneOrder {b = x} {order = order} {orders = orders} {did = did} {dids = dids} first rest)
      (OneOrder {b = y} {did = other} {dids = others} second more) same =
      let one = serves_one a x y order did other (all_tries dids) (all_tries others) first second same in
      let behind = serve_one x b c orders dids others rest
      (subst (λ (z : Option SessionState). ServesAll w z orders others c) (sym one.state) more) one.behind in
      record {
        dids_are = ap (λ (d : Did). d ∷ dids) one.does
            ∙ ap (λ (ds : List Did). other ∷ ds) behind.dids_are;
        state = behind.state;
      }
