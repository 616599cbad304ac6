-- The triangles before this one were tried.
use Rattle.std.proofs.Common.{◌≡◌, ℕ, ◌+◌, List}
use Rattle.file_model.specs.Lists.{SeenBody}
use Rattle.ray_pick.specs.Picks.{IsPickOf}
use Rattle.ray_pick.specs.Walks.{IsSmallPick, StandsAt}
use Rattle.ray_pick.specs.OnePick.{count_before}
use Rattle.ray_pick.proofs.picks.try_body.Given as goal

abbrev pub invariant-loop-triangle : goal.invariant-loop-triangle
invariant-loop-triangle l = record {
  small : IsSmallPick l.best;
  pick : (patches : List ℕ) (bodies : List SeenBody) (index : ℕ) → StandsAt patches bodies index l.patch l.body → l.start ≡ count_before bodies index → IsPickOf l.ray patches bodies l.start l.fn.best → IsPickOf l.ray patches bodies (l.start + l.triangle) l.best;
}
