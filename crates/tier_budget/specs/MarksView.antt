-- What callers see of marks, and what holds of them.
use Rattle.std.specs.Prelude.{Bool, List, vec_capacity}
use Rattle.tier_budget.specs.Marked.{AreMarks}
use Rattle.tier_budget.specs.declared.marks.Marks.TheInside.{Inside}

abbrev pub marks_view : Inside → List Bool
marks_view m = m.marks.items

abbrev pub AreMarksInside : Inside → Type 0
AreMarksInside m = AreMarks m.marks.items m.listed.items (vec_capacity m.listed)
