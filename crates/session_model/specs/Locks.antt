-- Which patches a round has tried, which of them were granted, and which it has locked.
use Rattle.std.specs.Prelude.{ℕ, ◌==◌, Bool, false, ◌&&◌, ◌||◌, List, Option, slice_get}
use Rattle.std.specs.List.{list_any}
use Rattle.std.specs.Option.{option_map_or}
use Rattle.file_model.specs.declared.fields.PatchField.{PatchField}
use Rattle.file_model.specs.declared.fields.Try.{Try}
use Rattle.file_model.specs.Tries.{is_odd}
use Rattle.round_model.specs.Rounds.{NodeInProgress, RoundState, has}
use Rattle.round_model.specs.Refiners.{Refining, round_state}
use Rattle.round_laws.specs.Among.{is_among}

-- the patch was tried
abbrev pub was_tried : List Try → ℕ → Bool
was_tried tries p = list_any (λ (t : Try). t.patch == p) tries

-- the patch was tried and granted
abbrev pub was_granted : List Try → ℕ → Bool
was_granted tries p = list_any (λ (t : Try). (t.patch == p) && is_odd t.epoch) tries

-- the node's patches are being tried
abbrev pub is_in_progress : Option NodeInProgress → ℕ → Bool
is_in_progress at v = option_map_or (λ (hand : NodeInProgress). hand.node == v) at false

-- the node is in the set, or its patches are being tried
abbrev pub is_held : RoundState → ℕ → Bool
is_held stand v = has stand.set v || is_in_progress stand.at v

-- the patch leads from a node that is in the set or whose patches are being tried
abbrev pub leads_from_held : List PatchField → RoundState → ℕ → Bool
leads_from_held fields stand p = option_map_or (λ (f : PatchField). is_held stand f.tail) (slice_get fields p) false

-- the patches that were granted, but for those of nodes that missed, which are locked while they are owed
unfoldable pub locked_by : List PatchField → List Try → List ℕ → RoundState → ℕ → Bool
locked_by fields tries owed stand p = was_granted tries p && (is_among owed p || leads_from_held fields stand p)

-- the patches that a round has locked: those that were granted and weren't given back
abbrev pub round_locks : Refining → ℕ → Bool
round_locks r p = locked_by r.rules.mesh.index.fields r.tries r.owed (round_state r) p
