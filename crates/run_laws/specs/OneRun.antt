-- A run of lines is one, and so is its text, where what the store gave is one.
use Rattle.std.proofs.Common.{◌≡◌, ℕ, suc, ◌+◌, Bool, true, false, cond, List, [], ◌∷◌, ◌++◌, length, map, Option, Some, None, refl, sym, ap, ap₂, subst, ◌∙◌, arith, append_assoc}
use Rattle.std.specs.Option.{option_map}
use Rattle.std.proofs.lemmas.Option.{same_Some}
use Rattle.file_model.specs.Lists.{BodyLists, SeenBody}
use Rattle.mesh_laws.specs.OpenEdges.{open_is_one}
use Rattle.round_model.specs.Refiners.{Refining}
use Rattle.script_model.specs.declared.orders.Line.{Line}
use Rattle.script_model.specs.declared.orders.Order.{Order}
use Rattle.session_model.specs.Sessions.{SessionState, with_view, printed_once}
use Rattle.session_model.specs.Steps.{step_by}
use Rattle.session_model.specs.Finishes.{Finishes}
use Rattle.text_model.specs.FrameText.{Frame, frame_text, IsFrameText}
use Rattle.tier_model.specs.declared.turns.Turn.{Turn}
use Rattle.tier_model.specs.Places.{is_marked}
use Rattle.tier_model.specs.Tiers.{TierState, base_marks}
use Rattle.tier_model.specs.Changes.{fresh}
use Rattle.tier_model.specs.Chains.{bodies_at, opened_top, opened_tiers, opened}
use Rattle.run_model.specs.Worlds.{World, IsWorld, AreBaseBodies}
use Rattle.run_model.specs.States.{State, posted_by, seated, posting, opening}
use Rattle.run_laws.specs.OpeningLaws.{base_is_marked, opened_count}
use Rattle.run_model.specs.Lines.{Did, DidOpen, DidView, DidStep, DidFrame, DidFree, DidClose, DidTurns, DidTell, frame_of, Does, DoesOpen, DoesView, DoesStep, DoesFrame, DoesFree, DoesClose, DoesTurn, DoesSettle, DoesStatus, Runs, NoLine, OneLine}
use Rattle.run_model.specs.LineTexts.{IsTextOf, AreTextsOf, NoText, OneText}
use Rattle.run_model.specs.RunTexts.{StoreOutcome, turn_outcomes, outcomes_of, store_outcomes, orders_of, IsRunText}
use Rattle.run_laws.specs.BlankTiers.{blank_body, blank_bodies, blank}
use Rattle.session_model.specs.Freeing.{FreesAll}
use Rattle.run_laws.specs.BlankRuns.{blank_state, chain_with, blank_state_twice, blank_many, blank_does}
use Rattle.run_laws.specs.OneSession.{finishes_one, frees_one}
use Rattle.run_laws.specs.OneTurn.{same_blank, turn_one}
use Rattle.run_laws.specs.OneSettling.{cancel_turn, first_outcome, does_many, settles_like}

-- ---- a line

-- two lines did one thing, and lead to one state but for bytes of bodies
pub record IsOneLine (x y : Did) (b c : State) (rest more : List StoreOutcome) : Type 0 where
  pub did : x ≡ y
  pub state : blank_state b ≡ blank_state c
  pub rest_is : rest ≡ more

module _ (w : World) (bodies : List BodyLists) (told : w.bodies ≡ Some bodies) where
  does_one : (order : Order) (a b c : State) (x y : Did) (rest more : List StoreOutcome) → length a.chain.tiers ≡ length w.budgets → Does w a order x b → Does w a order y c → outcomes_of w x ++ rest ≡ outcomes_of w y ++ more → IsOneLine x y b c rest more
  unfolding turn_outcomes
  does_one order a b c x y rest more many (DoesOpen i number closed) (DoesOpen j other also) same = record { did = refl; state = refl; rest_is = same }
  does_one order a b c x y rest more many (DoesView i s view at) (DoesView j t sight also) same =
      let seat = same_Some s t (sym at ∙ also) in
      record { did = refl; state = ap (λ (u : SessionState). blank_state (posting (seated a i (Some (with_view view u))) i (Some (posted_by w view)))) seat; rest_is = same }
  does_one order a b c x y rest more many (DoesStep i s view at viewed) (DoesStep j t sight also sees) same =
      let seat = same_Some s t (sym at ∙ also) in
      record {
        did = ap (λ (u : SessionState). DidStep i (step_by w.mesh a.chain.epochs u).did) seat;
        state = ap (λ (u : SessionState). blank_state (seated a i (Some (step_by w.mesh a.chain.epochs u).state))) seat;
        rest_is = same;
      }
  does_one order a b c x y rest more many (DoesFrame i s t view tries done at viewed finishes) (DoesFrame j r u sight tried whole also sees ends) same =
      let seat = same_Some s r (sym at ∙ also) in
      let one = finishes_one w.mesh a.chain.epochs s tries tried t u finishes (subst (λ (q : SessionState). Finishes w.mesh true a.chain.epochs q tried u) (sym seat) ends) in
      let round = same_Some done.round whole.round (sym done.there ∙ ap (λ (q : SessionState). q.round) one ∙ whole.there) in
      record {
        did = ap₂ (λ (q : SessionState) (round : Refining). DidFrame (frame_of a.chain.tiers i q round)) one round;
        state = ap (λ (q : SessionState). blank_state (seated a i (Some (printed_once q)))) one;
        rest_is = same;
      }
  does_one order a b c x y rest more many (DoesFree i unlocks s t at frees) (DoesFree j more_unlocks r u also ends) same =
      let seat = same_Some s r (sym at ∙ also) in
      let one = frees_one s t u unlocks more_unlocks frees (subst (λ (q : SessionState). FreesAll q more_unlocks u) (sym seat) ends) in
      record { did = ap (DidFree i) one.unlocks; state = ap (λ (q : SessionState). blank_state (seated a i (Some q))) one.state; rest_is = same }
  does_one order a b c x y rest more many (DoesClose i unlocks s t at frees) (DoesClose j more_unlocks r u also ends) same =
      let seat = same_Some s r (sym at ∙ also) in
      let one = frees_one s t u unlocks more_unlocks frees (subst (λ (q : SessionState). FreesAll q more_unlocks u) (sym seat) ends) in
      record { did = ap (DidClose i) one.unlocks; state = refl; rest_is = same }
  does_one order a b c x y rest more many (DoesTurn k answer turn) (DoesTurn l other also) same =
      let parts = sym (first_outcome w (k, answer) [] rest) ∙ same ∙ first_outcome w (k, other) [] more in
      let one = turn_one w bodies told a b c k answer other rest more many turn also parts in
      record {
        did = ap (λ (t : Turn). DidTurns ((k, t) ∷ [])) one.answer;
        state = one.state;
        rest_is = cancel_turn w k answer other rest more one.answer parts;
      }
  does_one order a b c x y rest more many (DoesSettle {log = log} settles) (DoesSettle {log = other} also) same =
      let one = settles_like w bodies told (length w.budgets) a a b c log other rest more many refl settles also same in
      record { did = ap DidTurns one.turns; state = one.state; rest_is = one.rest_is }
  does_one order a b c x y rest more many DoesStatus DoesStatus same = record { did = refl; state = refl; rest_is = same }

  pub does_like : (order : Order) (a d b c : State) (x y : Did) (rest more : List StoreOutcome) → length a.chain.tiers ≡ length w.budgets → blank_state a ≡ blank_state d → Does w a order x b → Does w d order y c → outcomes_of w x ++ rest ≡ outcomes_of w y ++ more → IsOneLine x y b c rest more
  does_like order a d b c x y rest more many like first second same =
      let one = does_one order (blank_state a) (blank_state b) (blank_state c) x y rest more (blank_many a ∙ many) (blank_does w a b order x first)
      (subst (λ (s : State). Does w s order y (blank_state c)) (sym like) (blank_does w d c order y second)) same in
      record { did = one.did; state = sym (blank_state_twice b) ∙ one.state ∙ blank_state_twice c; rest_is = one.rest_is }

  -- ---- lines

  pub first_line : (did : Did) (dids : List Did) (rest : List StoreOutcome) → store_outcomes w (did ∷ dids) ++ rest ≡ outcomes_of w did ++ (store_outcomes w dids ++ rest)
  unfolding store_outcomes
  first_line did dids rest = append_assoc (outcomes_of w did) (store_outcomes w dids) rest

  runs_like : (orders : List Order) (a d b c : State) (dids others : List Did) (rest more : List StoreOutcome) → length a.chain.tiers ≡ length w.budgets → blank_state a ≡ blank_state d → Runs w a orders dids b → Runs w d orders others c
      → store_outcomes w dids ++ rest ≡ store_outcomes w others ++ more → dids ≡ others
  runs_like _ a d b c _ _ rest more many like NoLine NoLine same = refl
  runs_like _ a d b c _ _ rest more many like (OneLine {b = e} {order = order} {orders = orders} {did = did} {dids = dids} does later) (OneLine {b = f} {did = other} {dids = others} also further) same =
      let parts = sym (first_line did dids rest) ∙ same ∙ first_line other others more in
      let one = does_like order a d e f did other (store_outcomes w dids ++ rest) (store_outcomes w others ++ more) many like does also parts in
      ap₂ (λ (x : Did) (xs : List Did). x ∷ xs) one.did (runs_like orders e f b c dids others rest more (does_many w a e order did does ∙ many) one.state later further one.rest_is)

-- ---- the opening

blank_base : (body other : ℕ → SeenBody) (k : ℕ) (marks : List Bool) → ((p : ℕ) → is_marked marks p ≡ true → blank_body (body (k + p)) ≡ blank_body (other (k + p))) → blank_bodies (bodies_at body k marks) ≡ blank_bodies (bodies_at other k marks)
unfolding bodies_at
blank_base body other k [] same = refl
blank_base body other k (mark ∷ marks) same =
    ap₂ (λ (o : Option SeenBody) (os : List (Option SeenBody)). o ∷ os) (here mark (λ marked. same 0 marked))
    (blank_base body other (k + 1) marks (λ p marked. let number : k + suc p ≡ k + 1 + p = omega arith in subst (λ (n : ℕ). blank_body (body n) ≡ blank_body (other n)) number (same (suc p) marked)))
  where
    here : (m : Bool) → (m ≡ true → blank_body (body (k + 0)) ≡ blank_body (other (k + 0))) → option_map blank_body (cond m (Some (body k)) None) ≡ option_map blank_body (cond m (Some (other k)) None)
    here false is = refl
    here true is = let number : k + 0 ≡ k = omega arith in ap (λ (b : SeenBody). Some b) (subst (λ (n : ℕ). blank_body (body n) ≡ blank_body (other n)) number (is refl))

module _ (w : World) (bodies : List BodyLists) (told : w.bodies ≡ Some bodies) (world : IsWorld w) (body other : ℕ → SeenBody) (are : AreBaseBodies w body) (also : AreBaseBodies w other) where
  abbrev marks : List Bool
  marks = base_marks w.mesh.index.fields

  one_body : (p : ℕ) → is_marked marks p ≡ true → blank_body (body p) ≡ blank_body (other p)
  one_body p marked = let base = base_is_marked w.mesh world.mesh p ∙ marked in same_blank w bodies told p (body p) (other p) (are.each p base) (also.each p base)

  one_top : (budget : ℕ) → blank (opened_top w.mesh.index body budget w.width) ≡ blank (opened_top w.mesh.index other budget w.width)
  unfolding blank opened_top
  one_top budget =
      ap (λ (held : List (Option SeenBody)). record (blank (opened_top w.mesh.index other budget w.width)) { held = held })
      (blank_base body other 0 marks (λ p marked. let number : p ≡ 0 + p = omega arith in subst (λ (n : ℕ). blank_body (body n) ≡ blank_body (other n)) number (one_body p marked)))

  one_chain : (budgets : List ℕ) → map blank (opened_tiers w.mesh.index body budgets w.width) ≡ map blank (opened_tiers w.mesh.index other budgets w.width)
  unfolding opened_tiers
  one_chain [] = refl
  one_chain (budget ∷ budgets) = ap (λ (top : TierState). top ∷ map blank (map (λ b. fresh w.mesh.index b w.width) budgets)) (one_top budget)

  pub one_opening : blank_state (opening w body) ≡ blank_state (opening w other)
  unfolding blank_state opening opened
  one_opening = ap (λ (tiers : List TierState). record (opening w other) { chain = chain_with (opened w.mesh.index other w.budgets w.width).epochs tiers }) (one_chain w.budgets)

pub opening_many : (w : World) (body : ℕ → SeenBody) → length (opening w body).chain.tiers ≡ length w.budgets
unfolding opening opened
opening_many w body = opened_count w.mesh.index body w.budgets w.width

-- ---- texts

frame_text_one : (frame : Frame) (t u : List ℕ) → IsFrameText frame t → IsFrameText frame u → t ≡ u
frame_text_one frame t u first second =
    let pairs = open_is_one frame.triangles first.counted.pairs second.counted.pairs first.counted.are_open second.counted.are_open in
    first.is ∙ ap (λ (n : ℕ). frame_text n frame) (sym first.counted.number ∙ ap length pairs ∙ second.counted.number) ∙ sym second.is

pub text_one : (did : Did) (t u : List ℕ) → IsTextOf did t → IsTextOf did u → t ≡ u
text_one (DidFrame frame) t u first second = frame_text_one frame t u first second
text_one (DidOpen i) t u first second = first ∙ sym second
text_one (DidView i) t u first second = first ∙ sym second
text_one (DidStep i did) t u first second = first ∙ sym second
text_one (DidFree i unlocks) t u first second = first ∙ sym second
text_one (DidClose i unlocks) t u first second = first ∙ sym second
text_one (DidTurns log) t u first second = first ∙ sym second
text_one (DidTell tiers) t u first second = first ∙ sym second

pub texts_one : (dids : List Did) (t u : List ℕ) → AreTextsOf dids t → AreTextsOf dids u → t ≡ u
texts_one _ _ _ NoText NoText = refl
texts_one _ _ _ (OneText {did = did} {dids = dids} text rest is others) (OneText other more also further) = ap₂ (λ (x y : List ℕ). x ++ y) (text_one did text other is also) (texts_one dids rest more others further)

-- a run of these lines in which the store gave this has one text
pub run_text_is_one : (w : World) (bodies : List BodyLists) → w.bodies ≡ Some bodies → IsWorld w → (lines : List Line) (outcomes : List StoreOutcome) (t u : List ℕ) → IsRunText w lines outcomes t → IsRunText w lines outcomes u → t ≡ u
run_text_is_one w bodies told world lines outcomes t u first second =
    let like : blank_state first.first ≡ blank_state second.first =
    ap blank_state first.opens.is ∙ one_opening w bodies told world first.opens.body second.opens.body first.opens.bodies second.opens.bodies ∙ sym (ap blank_state second.opens.is) in
    let many = ap (λ (s : State). length s.chain.tiers) first.opens.is ∙ opening_many w first.opens.body in
    let dids = runs_like w bodies told (orders_of lines) first.first second.first first.last second.last first.dids second.dids [] [] many like first.runs second.runs
    (ap (λ (os : List StoreOutcome). os ++ []) (first.fetched ∙ sym second.fetched)) in
    texts_one second.dids t u (subst (λ (ds : List Did). AreTextsOf ds t) dids first.is) second.is
