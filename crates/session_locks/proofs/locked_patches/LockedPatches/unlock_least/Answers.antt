use Rattle.std.proofs.Common.{Bool, List, ap, ◌∙◌}
use Rattle.std.specs.List.{position}
use Rattle.session_locks.proofs.LockedLaws.{starts_at}
use Rattle.session_locks.proofs.locked_patches.LockedPatches.unlock_least.Goals as goal

pub invariant_of-self : goal.invariant_of-self
invariant_of-self c = starts_at c.self.inside.are_locked.items c.args.patch (ap (λ (flags : List Bool). position (λ (is_locked : Bool). is_locked) flags) c.self.view_is ∙ c.requires)
