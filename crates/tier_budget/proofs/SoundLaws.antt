-- Each change of a tier keeps its sums.
use Rattle.std.proofs.Common.{◌≡◌, ℕ, zero, suc, ◌∷◌, replicate, ◌+◌, ◌-◌, ◌<◌, ◌≤◌, Bool, true, false, List, [], length, Option, Some, None, is_some, refl, sym, ap, subst, ◌∙◌, arith}
use Rattle.std.specs.Prelude.{cond, slice_get, slice_index_or, slice_set}
use Rattle.std.specs.List.{count_by}
use Rattle.std.proofs.lemmas.List.{length-map, map-set}
use Rattle.std.proofs.lemmas.List.Sums.{sum_by-cons}
use Rattle.file_model.specs.Lists.{IndexLists, SeenBody, body_size}
use Rattle.tier_model.specs.declared.turns.Abort.{Abort}
use Rattle.tier_model.specs.declared.turns.Turn.TheVariants.{Reserve, Evict, Got, Lost, Commit}
use Rattle.tier_model.specs.Places.{after, load_of, first_bare, without}
use Rattle.tier_model.specs.Tiers.{TierState, count, size, places, load, IsWidth, IsBodyFor, IsTier, sizes_of}
use Rattle.tier_model.specs.Changes.{fresh, reserved, arrived, aborted, committed, dropped, passed_over, calmed, renewed, ranked, with_pin}
use Rattle.tier_laws.specs.ComingLaws.{first_comes, bare_comes, all_are_full}
use Rattle.tier_laws.specs.LoadLaws.{load-reserve, load-got, load-lost, load-commit, load-evict, marked_more, marked_none}
use Rattle.tier_laws.specs.BodyLaws.{marks_of, away_is_unmarked}
use Rattle.tier_laws.specs.TierLaws.{IsTier-reserved, IsTier-arrived, IsTier-aborted, IsTier-committed, IsTier-dropped, IsTier-passed_over, IsTier-calmed, IsTier-renewed, IsTier-ranked, comes_within}
use Rattle.tier_budget.specs.TierView.{TierSeen, Allows, IsSoundTier}
use Rattle.tier_budget.proofs.SumLaws.{count_more, count_fewer, marked_within}
use Rattle.tier_budget.proofs.StartLaws.{IsTier-fresh, fresh_load, IsTier-with_pin, pinned_load, stands, load_is_pinned, marks_of_bodies}

pub sound_of_view : (v w : TierSeen) (b n h k : ℕ) → v ≡ w → IsSoundTier v.state b n h k → IsSoundTier w.state b n h k
sound_of_view v w b n h k same sound = subst (λ (u : TierSeen). IsSoundTier u.state b n h k) same sound

pub sound_moved : (s u : TierState) (b n h k a m g l : ℕ) → u ≡ s → a ≡ b → m ≡ n → g ≡ h → l ≡ k → IsSoundTier s b n h k → IsSoundTier u a m g l
sound_moved s u b n h k a m g l same bytes pinned held room sound = rw (same, bytes, pinned, held, room) sound

-- ---- with an entry

pub sound-reserved : (s : TierState) (p b n h k : ℕ) → IsSoundTier s b n h k → Allows s (Reserve p) → load s + size s p ≤ s.budget → IsSoundTier (reserved s p) (b + size s p) n h k
unfolding reserved after
sound-reserved s p b n h k sound needs room =
    let more = load-reserve s.sizes (places s) p in
    let bytes = sound.bytes_are in
    let is : b + size s p ≡ load_of s.sizes (after (places s) (Reserve p)) = omega arith in
    record { tier = IsTier-reserved s p sound.tier needs room; bytes_are = is; pinned_are = sound.pinned_are; held_are = sound.held_are; room = sound.room; few = sound.few }

pub sound-arrived : (s : TierState) (p : ℕ) (body : SeenBody) (b n h k : ℕ) → IsSoundTier s b n h k → Allows s (Got p) → IsBodyFor s.sizes p body → IsSoundTier (arrived s p body) b n h k
unfolding arrived after
sound-arrived s p body b n h k sound needs right =
    let same = load-got s.sizes (places s) p in
    let bytes = sound.bytes_are in
    let is : b ≡ load_of s.sizes (after (places s) (Got p)) = omega arith in
    record { tier = IsTier-arrived s p body sound.tier needs right; bytes_are = is; pinned_are = sound.pinned_are; held_are = sound.held_are; room = sound.room; few = sound.few }

-- the size of a patch that comes is within the load
pub size_of_coming : (s : TierState) (p b n h k : ℕ) → IsSoundTier s b n h k → first_bare s.coming ≡ Some p → size s p ≤ b
size_of_coming s p b n h k sound bare =
    let less = load-lost s.sizes (places s) p sound.tier.coming.apart (bare_comes s.coming p bare) in
    let bytes = sound.bytes_are in
    omega arith

pub sound-aborted : (s : TierState) (p : ℕ) (why : Abort) (b n h k : ℕ) → IsSoundTier s b n h k → first_bare s.coming ≡ Some p → IsSoundTier (aborted s p why) (b - size s p) n h k
unfolding aborted after
sound-aborted s p why b n h k sound bare =
    let less = load-lost s.sizes (places s) p sound.tier.coming.apart (bare_comes s.coming p bare) in
    let bytes = sound.bytes_are in
    let is : b - size s p ≡ load_of s.sizes (after (places s) (Lost p)) = omega arith in
    record { tier = IsTier-aborted s p why sound.tier bare; bytes_are = is; pinned_are = sound.pinned_are; held_are = sound.held_are; room = sound.room; few = sound.few }

-- the first patch that comes has its body, and isn't held
pub record IsReady (s : TierState) (p : ℕ) : Type 0 where
  pub within : p < count s
  pub away : slice_get s.held p ≡ Some None
  pub there : is_some (slice_index_or s.came p None) ≡ true

pub ready : (s : TierState) (p : ℕ) → IsTier s → Allows s (Commit p) → IsReady s p
ready s p tier needs =
    let comes = first_comes s.coming p needs.0 in
    record { within = comes_within s p tier comes; away = tier.coming.away p comes; there = sym (tier.coming.arrived p) ∙ all_are_full s.coming p needs.1 comes }

pub sound-committed : (s : TierState) (p b n h k : ℕ) → IsSoundTier s b n h k → Allows s (Commit p) → IsSoundTier (committed s p) b n (h + 1) k
unfolding committed after
sound-committed s p b n h k sound needs =
    let body = slice_index_or s.came p None in
    let is_ready = ready s p sound.tier needs in
    let marks = map-set (λ (o : Option SeenBody). is_some o) s.held p body ∙ ap (slice_set (marks_of_bodies s.held) p) is_ready.there in
    let same : places (committed s p) ≡ after (places s) (Commit p) = ap (λ (ms : List Bool). record { held = ms; coming = without p s.coming }) marks in
    let loads : load (committed s p) ≡ load_of s.sizes (after (places s) (Commit p)) = ap (load_of s.sizes) same in
    let load_stays = load-commit s.sizes (places s) p sound.tier.coming.apart (first_comes s.coming p needs.0) (away_is_unmarked s.held p is_ready.away) in
    let more = count_more s.held p body is_ready.away is_ready.there in
    let bytes = sound.bytes_are in
    let held = sound.held_are in
    record { tier = IsTier-committed s p sound.tier needs; bytes_are = bytes ∙ sym load_stays ∙ sym loads; pinned_are = sound.pinned_are; held_are = ap (λ (m : ℕ). m + 1) held ∙ sym more; room = sound.room; few = sound.few }

-- the patch is held
pub record IsThere (s : TierState) (p : ℕ) : Type 0 where
  pub within : p < count s
  pub there : is_some (slice_index_or s.held p None) ≡ true

marked_is_there : {X : Type 0} (bodies : List (Option X)) (p : ℕ) → slice_get (marks_of bodies) p ≡ Some true → is_some (slice_index_or bodies p None) ≡ true
marked_is_there [] p is = absurd (cc)
marked_is_there (Some b ∷ bodies) zero is = refl
marked_is_there (None ∷ bodies) zero is = absurd (cc)
marked_is_there (o ∷ bodies) (suc p) is = marked_is_there bodies p is

pub there_held : (s : TierState) (p : ℕ) → IsTier s → Allows s (Evict p) → IsThere s p
there_held s p tier needs =
    record { within = marked_within s p true tier needs.1; there = marked_is_there s.held p needs.1 }

-- a held patch is counted, and its size is within the load
pub record IsCounted (s : TierState) (p b h : ℕ) : Type 0 where
  pub one : 1 ≤ h
  pub bytes : size s p ≤ b

pub counted : (s : TierState) (p b n h k : ℕ) → IsSoundTier s b n h k → Allows s (Evict p) → IsCounted s p b h
counted s p b n h k sound needs =
    let is_there = there_held s p sound.tier needs in
    let within : p < length s.held = (let sized = sound.tier.sized.held in let is = is_there.within in omega arith) in
    let fewer = count_fewer s.held p within is_there.there in
    let less = load-evict s.sizes (places s) p needs.1 in
    let bytes = sound.bytes_are in
    let held = sound.held_are in
    record { one = omega arith; bytes = omega arith }

pub sound-dropped : (s : TierState) (p b n h k : ℕ) → IsSoundTier s b n h k → Allows s (Evict p) → IsSoundTier (dropped s p) (b - size s p) n (h - 1) k
unfolding dropped after
sound-dropped s p b n h k sound needs =
    let is_there = there_held s p sound.tier needs in
    let within : p < length s.held = (let sized = sound.tier.sized.held in let is = is_there.within in omega arith) in
    let marks = map-set (λ (o : Option SeenBody). is_some o) s.held p None in
    let same : places (dropped s p) ≡ after (places s) (Evict p) = ap (λ (ms : List Bool). record { held = ms; coming = s.coming }) marks in
    let loads : load (dropped s p) ≡ load_of s.sizes (after (places s) (Evict p)) = ap (load_of s.sizes) same in
    let less = load-evict s.sizes (places s) p needs.1 in
    let fewer = count_fewer s.held p within is_there.there in
    let bytes = sound.bytes_are in
    let held = sound.held_are in
    let fewer_bytes : b - size s p ≡ load_of s.sizes (after (places s) (Evict p)) = omega arith in
    record { tier = IsTier-dropped s p sound.tier needs; bytes_are = fewer_bytes ∙ sym loads; pinned_are = sound.pinned_are; held_are = omega arith; room = sound.room; few = sound.few }

-- ---- before the first entry

none_held : (n : ℕ) → count_by (λ (o : Option SeenBody). is_some o) (replicate n None) ≡ 0
none_held zero = refl
none_held (suc n) = let rest = none_held n in let first = sum_by-cons (λ (o : Option SeenBody). cond (is_some o) 1 0) None (replicate n None) in omega arith

pub sound-fresh : (index : IndexLists) (budget width k : ℕ) → IsWidth width → length index.fields ≤ 65536 → (0 < length index.fields → width ≤ k) → IsSoundTier (fresh index budget width) 0 0 0 k
unfolding fresh
sound-fresh index budget width k wide few room =
    let sizes = length-map index.fields (body_size index.version) in
    record {
      tier = IsTier-fresh index budget width wide;
      bytes_are = sym (fresh_load index budget width);
      pinned_are = sym (marked_none (sizes_of index) (length index.fields));
      held_are = sym (none_held (length index.fields));
      room = λ some. room (omega arith);
      few = omega arith;
    }

-- the pinned bytes are within the load before the first entry
pub pinned_within : (s : TierState) (b n h k : ℕ) → IsSoundTier s b n h k → s.journal ≡ [] → n ≡ b
pinned_within s b n h k sound begins = sound.pinned_are ∙ sym (load_is_pinned s (stands s sound.tier begins)) ∙ sym sound.bytes_are

pub sound-with_pin : (s : TierState) (body : SeenBody) (b n h k : ℕ) → IsSoundTier s b n h k → s.journal ≡ [] → slice_get s.held body.patch ≡ Some None → IsBodyFor s.sizes body.patch body → load s + length body.bytes ≤ s.budget → IsSoundTier (with_pin s body) (b + length body.bytes) (n + length body.bytes) (h + 1) k
unfolding with_pin
sound-with_pin s body b n h k sound begins away right room =
    let stand = stands s sound.tier begins in
    let more = pinned_load s body away in
    let size = right.size in
    let unmarked : slice_get s.pinned body.patch ≡ Some false = subst (λ (ms : List Bool). slice_get ms body.patch ≡ Some false) stand.held (away_is_unmarked s.held body.patch away) in
    let pins = marked_more s.sizes s.pinned body.patch unmarked in
    let bytes = sound.bytes_are in
    let pinned = sound.pinned_are in
    let one = count_more s.held body.patch (Some body) away refl in
    record {
      tier = IsTier-with_pin s body sound.tier begins away right (omega arith);
      bytes_are = omega arith;
      pinned_are = omega arith;
      held_are = ap (λ (m : ℕ). m + 1) sound.held_are ∙ sym one;
      room = sound.room;
      few = sound.few;
    }

-- ---- without an entry

pub sound-passed_over : (s : TierState) (p b n h k : ℕ) → IsSoundTier s b n h k → IsSoundTier (passed_over s p) b n h k
unfolding passed_over
sound-passed_over s p b n h k sound = record { tier = IsTier-passed_over s p sound.tier; bytes_are = sound.bytes_are; pinned_are = sound.pinned_are; held_are = sound.held_are; room = sound.room; few = sound.few }

pub sound-calmed : (s : TierState) (b n h k : ℕ) → IsSoundTier s b n h k → IsSoundTier (calmed s) b n h k
unfolding calmed
sound-calmed s b n h k sound = record { tier = IsTier-calmed s sound.tier; bytes_are = sound.bytes_are; pinned_are = sound.pinned_are; held_are = sound.held_are; room = sound.room; few = sound.few }

pub sound-renewed : (s : TierState) (version b n h k : ℕ) → IsSoundTier (calmed s) b n h k → IsSoundTier (renewed s version) b n h k
unfolding calmed renewed
sound-renewed s version b n h k sound = record { tier = IsTier-renewed (calmed s) version sound.tier; bytes_are = sound.bytes_are; pinned_are = sound.pinned_are; held_are = sound.held_are; room = sound.room; few = sound.few }

pub sound-ranked : (s : TierState) (wish : ℕ → ℕ) (b n h k : ℕ) → IsSoundTier s b n h k → IsSoundTier (ranked s wish) b n h k
unfolding ranked
sound-ranked s wish b n h k sound = record { tier = IsTier-ranked s wish sound.tier; bytes_are = sound.bytes_are; pinned_are = sound.pinned_are; held_are = sound.held_are; room = sound.room; few = sound.few }
