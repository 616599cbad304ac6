-- To pin the base patches in their order opens a tier.
use Rattle.std.proofs.Common.{◌≡◌, ℕ, zero, suc, ◌+◌, ◌≤◌, Bool, true, false, List, [], ◌∷◌, ◌++◌, length, map, replicate, Option, Some, None, is_some, refl, sym, ap, ap₂, subst, ◌∙◌, inl, inr, arith, append_assoc, append-nil}
use Rattle.std.specs.Prelude.{slice_get, slice_set, slice_index, slice_index_or}
use Rattle.std.specs.Option.{unwrap_or}
use Rattle.std.specs.List.{AllByRecursion, sum_by}
use Rattle.std.proofs.lemmas.Bool.{cases_Bool}
use Rattle.std.proofs.lemmas.List.{length_push, map-set, map-append}
use Rattle.std.proofs.lemmas.List.Sums.{sum_by-cons}
use Rattle.std.proofs.lemmas.Option.{same_Some}
use Rattle.file_model.specs.declared.fields.PatchField.{PatchField}
use Rattle.file_model.specs.Lists.{IndexLists, SeenBody, no_body}
use Rattle.mesh_model.specs.Graph.{patches_from, patches_where}
use Rattle.tier_model.specs.Places.{is_marked, marked_bytes}
use Rattle.tier_model.specs.Tiers.{TierState, load, IsBodyFor, sizes_of, base_marks}
use Rattle.tier_model.specs.Changes.{fresh, with_pin}
use Rattle.tier_model.specs.Chains.{bodies_at, opened_top}
use Rattle.tier_laws.specs.LoadLaws.{marked_more, marked_none}
use Rattle.tier_laws.specs.BodyLaws.{marks_of, none_there, each-set, away_is_unmarked, body_is_there, marks_of_nothing}
use Rattle.tier_laws.specs.OpeningLaws.{load_of_held}
use Rattle.body_loads.specs.Loads.{patches_of}
use Rattle.cache_chain.specs.Opening.{with_pins, MayPinAll}

-- ---- lists

-- the item behind a front
get_behind : {X : Type 0} (front rest : List X) (x : X) → slice_get (front ++ x ∷ rest) (length front) ≡ Some x
get_behind [] rest x = refl
get_behind (y ∷ front) rest x = get_behind front rest x

set_behind : {X : Type 0} (front rest : List X) (x y : X) → slice_set (front ++ x ∷ rest) (length front) y ≡ (front ++ y ∷ []) ++ rest
set_behind [] rest x y = refl
set_behind (z ∷ front) rest x y = ap (λ (xs : List _). z ∷ xs) (set_behind front rest x y)

-- ---- a tier of which nothing is known but what it holds, pinned

abbrev nothing : List PatchField → List (Option SeenBody)
nothing fs = replicate (length fs) None

abbrev pub holding : IndexLists → ℕ → ℕ → List (Option SeenBody) → TierState
holding index budget width held = record (fresh index budget width) { pinned = marks_of held; held = held }

load_holding : (index : IndexLists) (budget width : ℕ) (held : List (Option SeenBody)) → load (holding index budget width held) ≡ marked_bytes (sizes_of index) (marks_of held)
unfolding fresh
load_holding index budget width held = load_of_held (sizes_of index) (marks_of held)

pin_holding : (index : IndexLists) (budget width : ℕ) (held : List (Option SeenBody)) (b : SeenBody) → with_pin (holding index budget width held) b ≡ holding index budget width (slice_set held b.patch (Some b))
unfolding with_pin fresh
pin_holding index budget width held b =
    ap (λ (pins : List Bool). record (fresh index budget width) { pinned = pins; held = slice_set held b.patch (Some b) }) (sym (map-set (λ (o : Option SeenBody). is_some o) held b.patch (Some b)))

-- ---- all pins

-- how many bytes these bodies have
abbrev pub bytes_in : List SeenBody → ℕ
bytes_in bodies = sum_by (λ (b : SeenBody). length b.bytes) bodies

-- what the pins come to: these bodies are held, of exactly the patches that pass, and each has what the bodies have
pub record PinsAll (index : IndexLists) (budget width : ℕ) (P : ℕ → SeenBody → Type 0) (start : List (Option SeenBody)) (marks : List Bool) (bodies : List SeenBody) : Type 0 where
  pub held : List (Option SeenBody)
  pub may : MayPinAll (holding index budget width start) bodies
  pub is : with_pins (holding index budget width start) bodies ≡ holding index budget width held
  pub marked : marks_of held ≡ marks
  pub each : (q : ℕ) (b : SeenBody) → slice_get held q ≡ Some (Some b) → P q b
  pub fits : marked_bytes (sizes_of index) (marks_of held) ≤ budget

module _ (index : IndexLists) (budget width : ℕ) (P : ℕ → SeenBody → Type 0) (test : PatchField → Bool) where
  abbrev Pins : List (Option SeenBody) → List PatchField → List SeenBody → Type 0
  Pins front fs bodies = PinsAll index budget width P (front ++ nothing fs) (marks_of front ++ map test fs) bodies

  -- what is known before
  record Begun (front : List (Option SeenBody)) (fs : List PatchField) (bodies : List SeenBody) : Type 0 where
    patches : patches_of bodies ≡ patches_from (length front) test fs
    right : AllByRecursion (λ b. IsBodyFor (sizes_of index) b.patch b) bodies
    have : AllByRecursion (λ b. P b.patch b) bodies
    each : (q : ℕ) (b : SeenBody) → slice_get (front ++ nothing fs) q ≡ Some (Some b) → P q b
    room : marked_bytes (sizes_of index) (marks_of (front ++ nothing fs)) + bytes_in bodies ≤ budget

  marks_next : (front : List (Option SeenBody)) (o : Option SeenBody) (t : Bool) (rest : List Bool) → is_some o ≡ t → marks_of (front ++ o ∷ []) ++ rest ≡ marks_of front ++ t ∷ rest
  marks_next front o t rest same =
      ap (λ (ms : List Bool). ms ++ rest) (map-append (λ (p : Option SeenBody). is_some p) front (o ∷ []))
      ∙ append_assoc (marks_of front) (is_some o ∷ []) rest
      ∙ ap (λ (m : Bool). marks_of front ++ m ∷ rest) same

  -- a patch that doesn't pass is passed by
  skipped : (f : PatchField) (fs : List PatchField) (front : List (Option SeenBody)) (bodies : List SeenBody) → test f ≡ false → Begun front (f ∷ fs) bodies → (Begun (front ++ None ∷ []) fs bodies → Pins (front ++ None ∷ []) fs bodies) → Pins front (f ∷ fs) bodies
  unfolding patches_from
  skipped f fs front bodies fails begun later =
      let same : (front ++ None ∷ []) ++ nothing fs ≡ front ++ nothing (f ∷ fs) = append_assoc front (None ∷ []) (nothing fs) in
      let next : Begun (front ++ None ∷ []) fs bodies = record {
        patches = subst (λ (n : ℕ). patches_of bodies ≡ patches_from n test fs) (sym (length_push front None)) (rw fails at begun.patches);
        right = begun.right;
        have = begun.have;
        each = subst (λ (start : List (Option SeenBody)). (q : ℕ) (b : SeenBody) → slice_get start q ≡ Some (Some b) → P q b) (sym same) begun.each;
        room = subst (λ (start : List (Option SeenBody)). marked_bytes (sizes_of index) (marks_of start) + bytes_in bodies ≤ budget) (sym same) begun.room;
      } in
      subst (λ (start : List (Option SeenBody)). PinsAll index budget width P start (marks_of front ++ map test (f ∷ fs)) bodies) same
      (subst (λ (marks : List Bool). PinsAll index budget width P ((front ++ None ∷ []) ++ nothing fs) marks bodies) (marks_next front None (test f) (map test fs) (sym fails)) (later next))

  -- a patch that passes is pinned
  pinned : (f : PatchField) (fs : List PatchField) (front : List (Option SeenBody)) (b : SeenBody) (bs : List SeenBody) → test f ≡ true → Begun front (f ∷ fs) (b ∷ bs) → (Begun (front ++ Some b ∷ []) fs bs → Pins (front ++ Some b ∷ []) fs bs) → Pins front (f ∷ fs) (b ∷ bs)
  unfolding patches_from with_pins MayPinAll fresh
  pinned f fs front b bs passes begun later =
      let start = front ++ nothing (f ∷ fs) in
      let front_now = front ++ Some b ∷ [] in
      let patches : b.patch ∷ patches_of bs ≡ length front ∷ patches_from (length front + 1) test fs = rw passes at begun.patches in
      let here : b.patch ≡ length front = cc in
      let others : patches_of bs ≡ patches_from (length front + 1) test fs = cc in
      let away : slice_get start (length front) ≡ Some None = get_behind front (nothing fs) None in
      let set : slice_set start (length front) (Some b) ≡ front_now ++ nothing fs = set_behind front (nothing fs) None (Some b) in
      let step : with_pin (holding index budget width start) b ≡ holding index budget width (front_now ++ nothing fs) =
      pin_holding index budget width start b ∙ ap (λ (p : ℕ). holding index budget width (slice_set start p (Some b))) here ∙ ap (holding index budget width) set in
      let size : length b.bytes ≡ slice_index (sizes_of index) (length front) = begun.right.0.size ∙ ap (slice_index (sizes_of index)) here in
      let sum = sum_by-cons (λ (c : SeenBody). length c.bytes) b bs in
      let marks : marks_of (front_now ++ nothing fs) ≡ slice_set (marks_of start) (length front) true =
      ap marks_of (sym set) ∙ map-set (λ (o : Option SeenBody). is_some o) start (length front) (Some b) in
      let more = marked_more (sizes_of index) (marks_of start) (length front) (away_is_unmarked start (length front) away) in
      let bytes = ap (marked_bytes (sizes_of index)) marks in
      let room = begun.room in
      let rest = later (record {
        patches = subst (λ (n : ℕ). patches_of bs ≡ patches_from n test fs) (sym (length_push front (Some b))) others;
        right = begun.right.1;
        have = begun.have.1;
        each = subst (λ (held : List (Option SeenBody)). (q : ℕ) (c : SeenBody) → slice_get held q ≡ Some (Some c) → P q c) set
            (each-set P start (length front) (Some b) begun.each (λ c is. subst (P (length front)) (same_Some b c is) (subst (λ (p : ℕ). P p b) here begun.have.0)));
        room = omega arith;
      }) in
      let load = load_holding index budget width start in
      record {
        held = rest.held;
        may = (record { away = ap (slice_get start) here ∙ away; begins = refl; body = begun.right.0; room = omega arith }, subst (λ (s : TierState). MayPinAll s bs) (sym step) rest.may);
        is = ap (λ (s : TierState). with_pins s bs) step ∙ rest.is;
        marked = rest.marked ∙ marks_next front (Some b) (test f) (map test fs) (sym passes);
        each = rest.each;
        fits = rest.fits;
      }

  pinned_or_not : (f : PatchField) (fs : List PatchField) (front : List (Option SeenBody)) (bodies : List SeenBody) → test f ≡ true → Begun front (f ∷ fs) bodies → ((next : List (Option SeenBody)) (bs : List SeenBody) → Begun next fs bs → Pins next fs bs) → Pins front (f ∷ fs) bodies
  unfolding patches_from
  pinned_or_not f fs front [] passes begun later = let none : [] ≡ length front ∷ patches_from (length front + 1) test fs = rw passes at begun.patches in absurd (cc)
  pinned_or_not f fs front (b ∷ bs) passes begun later = pinned f fs front b bs passes begun (later (front ++ Some b ∷ []) bs)

  pins : (fs : List PatchField) (front : List (Option SeenBody)) (bodies : List SeenBody) → Begun front fs bodies → Pins front fs bodies
  unfolding patches_from with_pins MayPinAll
  pins [] front [] begun = record {
    held = front ++ [];
    may = tt;
    is = refl;
    marked = ap marks_of (append-nil front) ∙ sym (append-nil (marks_of front));
    each = begun.each;
    fits = let room = begun.room in omega arith;
  }
  pins [] front (b ∷ bs) begun = let none : b.patch ∷ patches_of bs ≡ [] = begun.patches in absurd (cc)
  pins (f ∷ fs) front bodies begun = elim (cases_Bool (test f)) [
    | inl passes ↦ pinned_or_not f fs front bodies passes begun (pins fs)
    | inr fails ↦ skipped f fs front bodies fails begun (pins fs (front ++ None ∷ []) bodies)
  ]

-- ---- the top tier opens

-- a list of bodies is the bodies of its marks
held_told : (body : ℕ → SeenBody) (k : ℕ) (held : List (Option SeenBody)) → ((p : ℕ) (b : SeenBody) → slice_get held p ≡ Some (Some b) → body (k + p) ≡ b) → held ≡ bodies_at body k (marks_of held)
unfolding bodies_at
held_told body k [] told = refl
held_told body k (None ∷ os) told = ap (λ (bs : List (Option SeenBody)). None ∷ bs) (held_told body (k + 1) os (λ p b at. ap body (omega arith) ∙ told (suc p) b at))
held_told body k (Some c ∷ os) told =
    ap₂ (λ (d : SeenBody) (bs : List (Option SeenBody)). Some d ∷ bs) (sym (ap body (omega arith) ∙ told 0 c refl)) (held_told body (k + 1) os (λ p b at. ap body (omega arith) ∙ told (suc p) b at))

-- the body that is held of a patch
abbrev pub held_body : List (Option SeenBody) → ℕ → SeenBody
held_body held p = unwrap_or (slice_index_or held p None) no_body

held_is_there : (held : List (Option SeenBody)) (p : ℕ) (b : SeenBody) → slice_get held p ≡ Some (Some b) → held_body held p ≡ b
held_is_there held p b at = ap (λ (o : Option SeenBody). unwrap_or o no_body) (body_is_there held p b at)

marked_is_held : (held : List (Option SeenBody)) (p : ℕ) → is_marked (marks_of held) p ≡ true → slice_get held p ≡ Some (Some (held_body held p))
marked_is_held [] p marked = absurd (cc)
marked_is_held (Some b ∷ os) zero marked = refl
marked_is_held (None ∷ os) zero marked = absurd (cc)
marked_is_held (o ∷ os) (suc p) marked = marked_is_held os p marked

-- a tier may pin these bodies and is then the top of a chain that opens, with bodies of which this holds
pub record OpensTop (index : IndexLists) (budget width : ℕ) (P : ℕ → SeenBody → Type 0) (bodies : List SeenBody) : Type 0 where
  pub may : MayPinAll (fresh index budget width) bodies
  pub body : ℕ → SeenBody
  pub right : (p : ℕ) → is_marked (base_marks index.fields) p ≡ true → P p (body p)
  pub each : (p : ℕ) (b : SeenBody) → slice_get (opened_top index body budget width).held p ≡ Some (Some b) → P p b
  pub fits : marked_bytes (sizes_of index) (base_marks index.fields) ≤ budget
  pub is : with_pins (fresh index budget width) bodies ≡ opened_top index body budget width

empty_holding : (index : IndexLists) (budget width : ℕ) → holding index budget width (nothing index.fields) ≡ fresh index budget width
unfolding fresh
empty_holding index budget width = ap (λ (pins : List Bool). record (fresh index budget width) { pinned = pins }) (marks_of_nothing SeenBody (length index.fields))

full_holding : (index : IndexLists) (budget width : ℕ) (held : List (Option SeenBody)) → marks_of held ≡ base_marks index.fields → holding index budget width held ≡ opened_top index (held_body held) budget width
unfolding opened_top fresh
full_holding index budget width held marked =
    ap₂ (λ (pins : List Bool) (bodies : List (Option SeenBody)). record (fresh index budget width) { pinned = pins; held = bodies }) marked
    (held_told (held_body held) 0 held (λ p b at. ap (held_body held) (omega arith) ∙ held_is_there held p b at) ∙ ap (bodies_at (held_body held) 0) marked)

pub opens_top : (index : IndexLists) (budget width : ℕ) (P : ℕ → SeenBody → Type 0) (test : PatchField → Bool) (bodies : List SeenBody) → map test index.fields ≡ base_marks index.fields → patches_of bodies ≡ patches_where test index.fields → AllByRecursion (λ b. IsBodyFor (sizes_of index) b.patch b) bodies → AllByRecursion (λ b. P b.patch b) bodies → bytes_in bodies ≤ budget → OpensTop index budget width P bodies
opens_top index budget width P test bodies base patches right have few =
    let fields = index.fields in
    let none : marks_of {X = SeenBody} (nothing fields) ≡ replicate (length fields) false = marks_of_nothing SeenBody (length fields) in
    let empty : marked_bytes (sizes_of index) (marks_of {X = SeenBody} (nothing fields)) ≡ 0 = ap (marked_bytes (sizes_of index)) none ∙ marked_none (sizes_of index) (length fields) in
    let done = pins index budget width P test fields [] bodies (record { patches = patches; right = right; have = have; each = λ q b at. absurd (none_there (length fields) q b at); room = omega arith }) in
    let marked = done.marked ∙ base in
    record {
      may = subst (λ (s : TierState). MayPinAll s bodies) (empty_holding index budget width) done.may;
      body = held_body done.held;
      right = λ p marks. done.each p (held_body done.held p) (marked_is_held done.held p (subst (λ (ms : List Bool). is_marked ms p ≡ true) (sym marked) marks));
      each = λ p b at. done.each p b (ap (λ (s : TierState). slice_get s.held p) (full_holding index budget width done.held marked) ∙ at);
      fits = subst (λ (ms : List Bool). marked_bytes (sizes_of index) ms ≤ budget) marked done.fits;
      is = sym (ap (λ (s : TierState). with_pins s bodies) (empty_holding index budget width)) ∙ done.is ∙ full_holding index budget width done.held marked;
    }
