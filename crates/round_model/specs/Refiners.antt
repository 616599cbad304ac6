-- A refiner goes through a round step by step: it asks for tries, and for the locks of a node that missed
-- to be given back.
use Rattle.std.specs.Prelude.{ℕ, List, [], ◌∷◌, ◌++◌, length, Option, Some, None, if◌then◌else◌}
use Rattle.file_model.specs.declared.fields.Try.{Try}
use Rattle.mesh_model.specs.Graph.{nodes_where}
use Rattle.mesh_model.specs.Frames.{frame_patches}
use Rattle.round_model.specs.declared.asks.Ask.{Ask}
use Rattle.round_model.specs.declared.asks.Ask.TheVariants.{Lock, GiveBack, Done}
use Rattle.round_model.specs.Order.{Rules}
use Rattle.file_model.specs.Tries.{is_odd}
use Rattle.round_model.specs.Rounds.{NodeInProgress, RoundState, has, round_of, epochs_of, patches_of}

-- the rules of the round, the answers so far, and the patches that are still to be given back
pub record Refining : Type 0 where
  pub rules : Rules
  pub tries : List Try
  pub owed : List ℕ

-- where the round stands after the answers so far
abbrev pub round_state : Refining → RoundState
round_state r = round_of r.rules (epochs_of r.tries)

abbrev pub next_try : Option NodeInProgress → Ask
next_try None = Done
next_try (Some hand) = Lock hand.patch

abbrev pub next_ask : List ℕ → Option NodeInProgress → Ask
next_ask [] at = next_try at
next_ask (p ∷ ps) at = GiveBack p

-- what is asked for: first the patches that are owed, then the round's next try
unfoldable pub pending_ask : Refining → Ask
pending_ask r = next_ask r.owed (round_state r).at

-- the patches that were granted to the node in hand
abbrev pub held_at : Option NodeInProgress → List ℕ
held_at None = []
held_at (Some hand) = patches_of hand.granted

-- after an answer for a patch: where it is even the node missed, and its patches are owed
unfoldable pub after_answer : Refining → ℕ → ℕ → Refining
after_answer r patch epoch = record {
  rules = r.rules;
  tries = r.tries ++ (record { patch = patch; epoch = epoch } ∷ []);
  owed = if is_odd epoch then [] else held_at (round_state r).at;
}

abbrev pub all_but_first : List ℕ → List ℕ
all_but_first [] = []
all_but_first (p ∷ ps) = ps

-- after the first patch that is owed was given back
unfoldable pub after_release : Refining → Refining
after_release r = record { rules = r.rules; tries = r.tries; owed = all_but_first r.owed }

-- the cut that the round has reached: its nodes, ascending
unfoldable pub cut_of : Refining → List ℕ
cut_of r = nodes_where (length r.rules.mesh.index.nodes) (has (round_state r).set)

-- the frame of that cut
unfoldable pub cut_patches : Refining → List ℕ
cut_patches r = frame_patches (has (round_state r).set) r.rules.mesh.index.fields
