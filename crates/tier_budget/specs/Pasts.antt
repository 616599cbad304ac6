-- What a past tells.
use Rattle.std.specs.Prelude.{List, [], ◌∷◌, ◌++◌}
use Rattle.tier_model.specs.declared.turns.Turn.{Turn}
use Rattle.tier_budget.specs.declared.past.Past.{Past, Start, After'}

-- its entries, the first first
abbrev pub told_in : Past → List Turn
told_in Start = []
told_in (After' place before entry) = told_in before ++ entry ∷ []
