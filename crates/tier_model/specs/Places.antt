-- What a tier holds and what comes to it, and the rule of each entry of its journal.
use Rattle.std.specs.Prelude.{◌≡◌, ℕ, ◌+◌, ◌<◌, ◌≤◌, ◌==◌, Bool, true, false, ◌&&◌, ◌||◌, List, [], ◌∷◌, ◌++◌, length, Option, Some, None, slice_get, slice_index, slice_index_or, slice_set, if◌then◌else◌}
use Rattle.tier_model.specs.declared.turns.Turn.{Turn}
use Rattle.tier_model.specs.declared.turns.Turn.TheVariants.{Reserve, Evict, Kept, Got, Lost, Fault, Changed, Commit, Idle}
use Rattle.tier_model.specs.declared.turns.Coming.{Coming}

-- which patches are held, and the patches that come, in their order
pub record Places : Type 0 where
  pub held : List Bool
  pub coming : List Coming

-- whether a patch is marked
abbrev pub is_marked : List Bool → ℕ → Bool
is_marked marks p = slice_index_or marks p false

-- ---- the patches that come

-- a patch that comes without a body
abbrev pub bare : ℕ → Coming
bare p = record { patch = p; has_body = false }

-- a patch that comes with its body
abbrev pub full : ℕ → Coming
full p = record { patch = p; has_body = true }

-- whether the patch comes
unfoldable pub is_coming : List Coming → ℕ → Bool
is_coming [] p = false
is_coming (c ∷ cs) p = c.patch == p || is_coming cs p

-- whether the patch comes and has its body
unfoldable pub is_full : List Coming → ℕ → Bool
is_full [] p = false
is_full (c ∷ cs) p = (c.patch == p && c.has_body) || is_full cs p

-- the first patch that comes
unfoldable pub first_coming : List Coming → Option ℕ
first_coming [] = None
first_coming (c ∷ cs) = Some c.patch

-- the first patch that comes without a body
unfoldable pub first_bare : List Coming → Option ℕ
first_bare [] = None
first_bare (c ∷ cs) = if c.has_body then first_bare cs else Some c.patch

-- no patch comes twice
unfoldable pub AreApart : List Coming → Type 0
AreApart [] = Unit {0}
AreApart (c ∷ cs) = (is_coming cs c.patch ≡ false) × AreApart cs

-- the patch has its body
unfoldable pub with_body : ℕ → List Coming → List Coming
with_body p [] = []
with_body p (c ∷ cs) = (if c.patch == p then full p else c) ∷ with_body p cs

-- the patch comes no more
unfoldable pub without : ℕ → List Coming → List Coming
without p [] = []
without p (c ∷ cs) = if c.patch == p then without p cs else c ∷ without p cs

-- ---- load

-- how many bytes the marked patches have
unfoldable pub marked_bytes : List ℕ → List Bool → ℕ
marked_bytes [] marks = 0
marked_bytes (n ∷ ns) [] = 0
marked_bytes (n ∷ ns) (m ∷ ms) = (if m then n else 0) + marked_bytes ns ms

-- how many bytes the patches that come have, with or without a body
unfoldable pub coming_bytes : List ℕ → List Coming → ℕ
coming_bytes sizes [] = 0
coming_bytes sizes (c ∷ cs) = slice_index sizes c.patch + coming_bytes sizes cs

-- how many bytes the held patches and those that come have
unfoldable pub load_of : List ℕ → Places → ℕ
load_of sizes a = marked_bytes sizes a.held + coming_bytes sizes a.coming

-- ---- the journal

-- what an entry needs: at most `width` patches come at once, and a pinned patch doesn't leave
abbrev pub Needs : ℕ → List Bool → Places → Turn → Type 0
Needs width pinned a (Reserve p) = (length a.coming < width) × (slice_get a.held p ≡ Some false) × (is_coming a.coming p ≡ false)
Needs width pinned a (Got p) = first_bare a.coming ≡ Some p
Needs width pinned a (Lost p) = first_bare a.coming ≡ Some p
Needs width pinned a (Fault p) = first_bare a.coming ≡ Some p
Needs width pinned a (Changed p fault) = first_bare a.coming ≡ Some p
Needs width pinned a (Commit p) = (first_coming a.coming ≡ Some p) × (first_bare a.coming ≡ None)
Needs width pinned a (Evict p) = (a.coming ≡ []) × (slice_get a.held p ≡ Some true) × (is_marked pinned p ≡ false)
Needs width pinned a (Kept p uses) = ⊥
Needs width pinned a Idle = ⊥

-- what an entry leaves
unfoldable pub after : Places → Turn → Places
after a (Reserve p) = record { held = a.held; coming = a.coming ++ bare p ∷ [] }
after a (Got p) = record { held = a.held; coming = with_body p a.coming }
after a (Lost p) = record { held = a.held; coming = without p a.coming }
after a (Fault p) = record { held = a.held; coming = without p a.coming }
after a (Changed p fault) = record { held = a.held; coming = without p a.coming }
after a (Commit p) = record { held = slice_set a.held p true; coming = without p a.coming }
after a (Evict p) = record { held = slice_set a.held p false; coming = a.coming }
after a (Kept p uses) = a
after a Idle = a

-- the journal leads from the pinned patches to these places: each entry's need is met in turn, and the load
-- is at most the budget after each
pub data Replays (budget width : ℕ) (sizes : List ℕ) (pinned : List Bool) : List Turn → Places → Type 0 where
  Begins : Replays budget width sizes pinned [] (record { held = pinned; coming = [] })
  Goes : {journal : List Turn} {a : Places} (entry : Turn) → Replays budget width sizes pinned journal a → Needs width pinned a entry → load_of sizes (after a entry) ≤ budget → Replays budget width sizes pinned (journal ++ entry ∷ []) (after a entry)
